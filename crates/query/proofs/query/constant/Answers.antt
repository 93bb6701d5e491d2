use Rattle.std.proofs.Common.{Some, ap, sym, ◌∙◌}
use Rattle.query.proofs.Forms.{formula_of-Any, formula_of-None}
use Rattle.query.specs.Private.Joining.{constant_of}
use Rattle.query.proofs.query.constant.Goals as goal

pub returns-then-met : goal.returns-then-met
returns-then-met c = ap constant_of formula_of-Any ∙ ap Some (sym c.if-met.true)

pub returns-else-met : goal.returns-else-met
returns-else-met c = ap constant_of formula_of-None ∙ ap Some (sym c.if-met.false)
