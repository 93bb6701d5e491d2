use Rattle.std.proofs.Common.{ap, sym, ◌∙◌, arith}
use Rattle.ere.specs.ByteSet.{has}
use Rattle.ere.proofs.SetWords.{has-values_of}
use Rattle.ere.proofs.byte_set.ByteSet.has.Goals as goal

pub returns : goal.returns
returns c = c.holds.ensures ∙ sym (has-values_of c.self.inside.words c.self.invariant c.args.byte (omega arith)) ∙ ap (λ s. has s c.args.byte) c.self.view_is
