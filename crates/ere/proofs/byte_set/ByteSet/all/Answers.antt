use Rattle.std.proofs.Common.{ap, ◌∙◌}
use Rattle.ere.specs.ByteSet.{complement}
use Rattle.ere.proofs.SetLemmas.{all_in}
use Rattle.ere.proofs.byte_set.ByteSet.all.Goals as goal

pub returns : goal.returns
returns c = c.complement.ensures ∙ ap complement c.empty.ensures ∙ all_in
