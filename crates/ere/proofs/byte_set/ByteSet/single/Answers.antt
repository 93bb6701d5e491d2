use Rattle.std.proofs.Common.{ap, sym, ◌∙◌}
use Rattle.ere.specs.ByteSet.{with_byte}
use Rattle.ere.proofs.SetLemmas.{single_in, single_out}
use Rattle.ere.proofs.byte_set.ByteSet.single.Goals as goal

pub returns-then-is_line_byte : goal.returns-then-is_line_byte
returns-then-is_line_byte c = c.insert.ensures ∙ ap (λ s. with_byte s c.args.byte) c.empty-set.ensures ∙ single_in c.args.byte

pub returns-else-is_line_byte : goal.returns-else-is_line_byte
returns-else-is_line_byte c = c.empty-set.ensures ∙ single_out c.args.byte (sym c.is_line_byte.ensures ∙ c.if-is_line_byte.false)
