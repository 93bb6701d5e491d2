use Rattle.std.proofs.Common.{◌++◌, ◌∙◌, ap}
use Rattle.std.specs.Prelude.{filter}
use Rattle.index.specs.Private.Numbered.{is_under_any, documents_shared}
use Rattle.index.specs.Private.Chosen.{documents_numbered}
use Rattle.index.proofs.ChosenLemmas.{numbered-more, numbered-end}
use Rattle.index.proofs.catalog.Catalog.numbered.Goals as goal

pub loop-number-init : goal.loop-number-init
loop-number-init g c =
    let ds = c.args.self.now.documents in
    let under = is_under_any c.args.prefixes.now in
    ap (λ xs. documents_shared xs ++ filter under (documents_numbered ds c.into_iter-number-iterator.result)) c.in_ok-shared.ensures.items
    ∙ ap (λ ns. filter under (documents_numbered ds ns)) (c.into_iter-number-iterator.ensures.into_iter_gives ∙ c.numbers-numbers.ensures.members)

pub loop-number-preserved : goal.loop-number-preserved
loop-number-preserved g c =
    let ds = c.args.self.now.documents in
    let under = is_under_any c.args.prefixes.now in
    numbered-more under ds (documents_shared c.loop-number.shared.items) (documents_shared c.add_if_under.new.shared.items)
    (filter under (documents_numbered ds c.args.chosen.now.members)) c.loop-number.number-iterator c.next.new.self c.in-Some.number
    c.in-Some.ensures.steps c.in_ok-add_if_under.ensures.documents c.loop-number.invariant

pub returns-clause-documents : goal.returns-clause-documents
returns-clause-documents g c =
    let ds = c.args.self.now.documents in
    let under = is_under_any c.args.prefixes.now in
    numbered-end under ds (documents_shared c.loop-number.shared.items) (filter under (documents_numbered ds c.args.chosen.now.members))
    c.loop-number.number-iterator c.in-None.ensures.steps.0 c.loop-number.invariant
