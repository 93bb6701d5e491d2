use Rattle.std.proofs.Common.{◌≡◌, List, [], ◌∷◌, length, get_or, arith, ap, refl, subst}
use Rattle.std.proofs.Common.{IfOk}
use Rattle.simulation.specs.declared.run.RowSet.{RowSet}
use Rattle.simulation.specs.Nodes.{shape}
use Rattle.simulation.specs.Private.Rows.{IsRunOf}
use Rattle.simulation.proofs.Rows as rows
use Rattle.simulation.proofs.Shapes.{shape-Run}
use Rattle.simulation.proofs.run.run_of.Goals as goal

pub returns : goal.returns
returns c =
    rows.run_is c.in_ok-masks.masks.items _ c.args.row.now _ c.args.copies (shape-Run c.in_ok-masks.masks _) c.requires.some.1 c.requires.fits refl (omega arith)
    c.in_ok-masks.ensures c.marks.ensures c.marks-2.ensures

one_of : (sets : List RowSet) (place : RowSet) → length sets ≡ 1 → place ≡ get_or sets 0 place → place ∷ [] ≡ sets
one_of [] place one is = absurd (omega arith)
one_of (other ∷ []) place one is = ap (λ p. p ∷ []) is
one_of (other ∷ next ∷ sets) place one is = absurd (omega arith)

pub returns-then-row-eq1 : goal.returns-then-row-eq1
returns-then-row-eq1 c =
    subst (λ row. IfOk c.one_place.result (λ node. IsRunOf row (shape node) c.args.copies)) (one_of c.args.row.now c.index-row-0.result c.if-row-eq1.true c.index-row-0.is)
    c.one_place.ensures
