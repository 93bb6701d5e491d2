use Rattle.std.proofs.Common.{ap, ◌∙◌}
use Rattle.ere.specs.Tree.{form}
use Rattle.ere.proofs.Forms.{form-Repeat}
use Rattle.engine.proofs.SameLineLemmas.{no_copies}
use Rattle.engine.proofs.translate.can_be_empty.Goals as goal

pub returns-in-Repeat : goal.returns-in-Repeat
returns-in-Repeat c =
    λ zero.
    rw (ap form c.in-Repeat.is ∙ form-Repeat c.in-Repeat.field-0 c.in-Repeat.least c.in-Repeat.field-2)
    (no_copies (form c.in-Repeat.field-0.value) c.in-Repeat.least c.in-Repeat.field-2 zero)
