use Rattle.std.proofs.Common.{ℕ, List, ◌++◌, map, ◌∙◌, ap}
use Rattle.std.specs.Prelude.{filter}
use Rattle.index.specs.Private.Numbered.{Document, document, is_under_any, documents_shared}
use Rattle.index.proofs.ChosenLemmas.{names-more, names-end}
use Rattle.index.proofs.catalog.add_named.Goals as goal

pub loop-name-init : goal.loop-name-init
loop-name-init g c =
    ap (λ ns. documents_shared c.args.shared.now.items ++ filter (is_under_any c.args.prefixes.now) (map (λ q. document c.args.number q c.args.held.now) ns))
    (c.into_iter-name-iterator.ensures.into_iter_gives ∙ c.iter-name-items.ensures.rest)

pub loop-name-preserved : goal.loop-name-preserved
loop-name-preserved g c =
    let f : List ℕ → Document = λ q. document c.args.number q c.args.held.now in
    names-more (is_under_any c.args.prefixes.now) f (documents_shared c.loop-name.shared.items) (documents_shared c.add_one.new.shared.items)
    (documents_shared c.args.shared.now.items ++ filter (is_under_any c.args.prefixes.now) (map f c.args.names.now.keys))
    c.loop-name.name-iterator c.next.new.self c.in-Some.name.now c.in-Some.ensures.steps c.in_ok-add_one.ensures c.loop-name.invariant

pub returns-clause-documents : goal.returns-clause-documents
returns-clause-documents g c =
    let f : List ℕ → Document = λ q. document c.args.number q c.args.held.now in
    names-end (is_under_any c.args.prefixes.now) f (documents_shared c.loop-name.shared.items)
    (documents_shared c.args.shared.now.items ++ filter (is_under_any c.args.prefixes.now) (map f c.args.names.now.keys))
    c.loop-name.name-iterator c.in-None.ensures.steps.0 c.loop-name.invariant
