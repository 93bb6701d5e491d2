use Rattle.std.proofs.Common.{sym, ap, subst, arith, length, ◌∙◌}
use Rattle.std.proofs.lemmas.Bool.{false≢true}
use Rattle.index.specs.Private.Numbered.{document_at, body_bytes}
use Rattle.index.specs.Private.Slots.{documents_in, RiseTo, FewAreEmpty}
use Rattle.index.specs.Private.Sets.{AreSetsOf, is_left}
use Rattle.index.proofs.StoredLemmas.{RiseTo-none}
use Rattle.index.proofs.store.Store.new.Goals as goal

pub returns-clause-documents : goal.returns-clause-documents
unfolding documents_in
returns-clause-documents c = ap documents_in c.new.ensures.items

pub returns-clause-store : goal.returns-clause-store
unfolding documents_in document_at
returns-clause-store c = record {
  slots = subst (RiseTo 0) (sym c.new.ensures.items) RiseTo-none;
  few = subst FewAreEmpty (sym c.new.ensures.items) (omega arith);
  sets =
      subst (λ xs. AreSetsOf (documents_in xs) c.new-2.result) (sym c.new.ensures.items)
      (record {
        live = c.new-2.ensures.live;
        postings = λ t n whole. c.new-2.ensures.postings t n;
        few = λ t n held. absurd (false≢true (sym (c.new-2.ensures.postings t n) ∙ held));
        both = λ t n left there. absurd (false≢true (sym (ap (λ w. is_left w t n) c.new-2.ensures.waiting) ∙ left));
      });
  counted = ap (λ xs. length (documents_in xs)) (sym c.new.ensures.items);
  bytes = ap (λ xs. body_bytes (documents_in xs)) (sym c.new.ensures.items);
}
