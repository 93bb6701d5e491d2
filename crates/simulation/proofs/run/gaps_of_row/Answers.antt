use Rattle.std.proofs.Common.{◌&&◌, ◌∙◌, ap, sym, get_or, if◌then◌else◌}
use Rattle.std.proofs.lemmas.List.{take_all}
use Rattle.std.proofs.lemmas.List.Folds.{list_all_at, list_all_more}
use Rattle.std.specs.List.{list_all}
use Rattle.simulation.specs.Packing.{everywhere, nowhere}
use Rattle.simulation.specs.declared.run.RowSet.{RowSet}
use Rattle.simulation.proofs.run.gaps_of_row.Goals as goal

pub loop-i-preserved : goal.loop-i-preserved
loop-i-preserved c =
    list_all_more (λ place. place.optional) c.args.row.now c.loop-i.i c.index-row-i.result c.loop-i-test.true
    ∙ ap (λ t. t && (get_or c.args.row.now c.loop-i.i c.index-row-i.result).optional) c.loop-i.invariant ∙ c.if-not-row-i.false

pub returns : goal.returns
returns c =
    c.everywhere.ensures
    ∙ ap (λ t. if t then everywhere else nowhere) (sym (ap (list_all (λ (place : RowSet). place.optional)) (sym (take_all c.loop-i.i c.args.row.now c.loop-i-test.false)) ∙ c.loop-i.invariant))

pub returns-then-not-row-i : goal.returns-then-not-row-i
returns-then-not-row-i c =
    c.nowhere.ensures
    ∙ ap (λ t. if t then everywhere else nowhere)
    (sym (list_all_at (λ place. place.optional) c.args.row.now c.loop-i.i c.index-row-i.result c.loop-i-test.true c.if-not-row-i.true))
