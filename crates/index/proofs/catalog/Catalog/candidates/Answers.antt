use Rattle.std.proofs.Common.{sym, ◌∙◌, subst, arith}
use Rattle.query.specs.Query.{formula_of}
use Rattle.index.specs.Private.Contents.{AreChosen}
use Rattle.index.specs.Private.Store.{stored}
use Rattle.index.proofs.NamedLemmas.{numbered_contents, few-chosen, are-chosen}
use Rattle.index.proofs.OrderLemmas.{candidates_are}
use Rattle.index.proofs.catalog.Catalog.candidates.Goals as goal

pub count_names-requires : goal.count_names-requires
count_names-requires g c =
    let formula = formula_of c.args.query.now in
    let store = c.self.inside.store in
    let is = c.self.invariant in
    let members = c.in_ok-list-in-None.ensures.chosen ∙ candidates_are (stored store) (numbered_contents is) store.sets formula is.kept.sets (sym c.in-None.is) in
    omega (arith, few-chosen is formula c.in_ok-list-in-None.list.members members)

pub overflow_cast-result : goal.overflow_cast-result
overflow_cast-result g c =
    let formula = formula_of c.args.query.now in
    let store = c.self.inside.store in
    let is = c.self.invariant in
    let members = c.in_ok-list-in-None.ensures.chosen ∙ candidates_are (stored store) (numbered_contents is) store.sets formula is.kept.sets (sym c.in-None.is) in
    omega (arith, c.in_ok-count-in-None.ensures.count, few-chosen is formula c.in_ok-list-in-None.list.members members)

pub returns-in_ok-count-in-None-clause-chosen : goal.returns-in_ok-count-in-None-clause-chosen
returns-in_ok-count-in-None-clause-chosen g c =
    let formula = formula_of c.args.query.now in
    let store = c.self.inside.store in
    let is = c.self.invariant in
    let members = c.in_ok-list-in-None.ensures.chosen ∙ candidates_are (stored store) (numbered_contents is) store.sets formula is.kept.sets (sym c.in-None.is) in
    subst (λ s. AreChosen formula s.documents c.in_ok-list-in-None.list.members c.in_ok-count-in-None.count) c.self.view_is
    (are-chosen is formula c.in_ok-list-in-None.list.members members c.in_ok-count-in-None.count c.in_ok-count-in-None.ensures.count)
