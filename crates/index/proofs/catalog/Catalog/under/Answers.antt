use Rattle.std.proofs.Common.{sym, ap, subst}
use Rattle.std.specs.Prelude.{filter}
use Rattle.index.specs.Private.Numbered.{is_picked, IsInNameOrder}
use Rattle.index.specs.Private.Numbered.{documents_shared}
use Rattle.index.specs.Private.Numbered.{IsState}
use Rattle.index.proofs.ChosenLemmas.{all-first}
use Rattle.index.proofs.NamedLemmas.{state_of_index}
use Rattle.index.proofs.OrderLemmas.{none_in_order}
use Rattle.index.proofs.catalog.Catalog.under.Goals as goal

pub returns-in-None-clause-documents : goal.returns-in-None-clause-documents
returns-in-None-clause-documents g c =
    let ds = c.args.self.now.documents in
    let members = c.args.among.now in
    let prefix = c.args.prefix.now in
    let is = subst IsState c.self.view_is (state_of_index c.self.invariant) in
    all-first c.args.most (filter (is_picked members prefix) ds) (documents_shared c.new.result.items)
    (subst (IsInNameOrder (filter (is_picked members prefix) ds)) (sym (ap documents_shared c.new.ensures.items))
    (none_in_order members prefix ds (λ k d inside. (is.good k d inside).2) (rw c.in-None.is at c.in_ok-first.ensures.none)))
