use Rattle.std.proofs.Common.{◌≡◌, sym, ◌∙◌, ap, subst, arith, length, map}
use Rattle.std.specs.Prelude.{option_map}
use Rattle.std.specs.Vec.{with_items}
use Rattle.std.proofs.lemmas.List.{length-map, with_items_is}
use Rattle.index.specs.Private.Numbered.{document_at}
use Rattle.index.specs.Private.Numbered.{body_bytes}
use Rattle.index.specs.Private.Slots.{documents_in, RiseTo, FewAreEmpty, with_body_at}
use Rattle.index.specs.Private.Sets.{AreSetsOf}
use Rattle.index.specs.Private.Store.{stored}
use Rattle.index.proofs.StoredLemmas.{Numbered-stored, AreSetsOf-waits, body_bytes-replaced, RiseTo-same, found_body, not_lost}
use Rattle.index.proofs.store.Store.replace_later.Goals as goal

pub overflow_sub-self : goal.overflow_sub-self
overflow_sub-self c =
    let old = c.args.self.now in
    let kept = c.requires.store.1 in
    let at = found_body (document_at c.args.number (stored old)) c.in-Some.old
    (c.in-Some.ensures.held ∙ ap (λ slots. option_map (λ d. d.1) (document_at c.args.number (documents_in slots))) c.deref_mut.ensures.value) in
    let bytes = body_bytes-replaced c.args.number (stored old) at.0 c.in-Some.old c.args.held
    (Numbered-stored c.requires.store.0 old.slots.items kept.slots) at.1 in
    let new_size : length c.as_bytes.result.now ≡ length c.args.held = ap length (c.as_bytes.ensures.bytes ∙ c.body.ensures) in
    let old_size : length c.as_bytes-in-Some.result.now ≡ length c.in-Some.old =
    ap length (c.as_bytes-in-Some.ensures.bytes ∙ c.body-in-Some.ensures) in
    omega (arith, bytes, new_size, old_size, kept.bytes)

pub returns-in-Some-clause-store : goal.returns-in-Some-clause-store
returns-in-Some-clause-store c = λ last kept.
    let old = c.args.self.now in
    let items = c.exchange.new.slots in
    let at = found_body (document_at c.args.number (stored old)) c.in-Some.old
    (c.in-Some.ensures.held ∙ ap (λ slots. option_map (λ d. d.1) (document_at c.args.number (documents_in slots))) c.deref_mut.ensures.value) in
    let bytes = body_bytes-replaced c.args.number (stored old) at.0 c.in-Some.old c.args.held
    (Numbered-stored last old.slots.items kept.slots) at.1 in
    let new_size : length c.as_bytes.result.now ≡ length c.args.held = ap length (c.as_bytes.ensures.bytes ∙ c.body.ensures) in
    let old_size : length c.as_bytes-in-Some.result.now ≡ length c.in-Some.old =
    ap length (c.as_bytes-in-Some.ensures.bytes ∙ c.body-in-Some.ensures) in
    let documents : documents_in items ≡ map (with_body_at c.args.number c.args.held) (stored old) =
    c.exchange.ensures.documents ∙ ap (λ slots. map (with_body_at c.args.number c.args.held) (documents_in slots)) c.deref_mut.ensures.value in
    let numbers = c.exchange.ensures.numbers ∙ ap (map (λ s. s.number)) c.deref_mut.ensures.value in
    let slots_same : length items ≡ length old.slots.items =
    sym (length-map items (λ s. s.number)) ∙ ap length numbers ∙ length-map old.slots.items (λ s. s.number) in
    let documents_same : length (documents_in items) ≡ length (stored old) =
    ap length documents ∙ length-map (stored old) (with_body_at c.args.number c.args.held) in
    let moved : (with_items old.slots items).items ≡ items = with_items_is old.slots items (omega (arith, slots_same, old.slots.ok.0)) in
    let left : body_bytes (documents_in (with_items old.slots items).items) ≡ body_bytes (map (with_body_at c.args.number c.args.held) (stored old)) =
    ap (λ xs. body_bytes (documents_in xs)) moved ∙ ap body_bytes documents in
    record {
      slots = subst (RiseTo last) (sym moved) (RiseTo-same last old.slots.items items numbers kept.slots);
      few = subst FewAreEmpty (sym moved) (omega (arith, slots_same, documents_same, kept.few));
      sets =
          subst (λ ds. AreSetsOf ds c.withdraw.new.self) (sym (ap documents_in moved ∙ documents))
          (AreSetsOf-waits (stored old) c.args.number at.0 c.in-Some.old c.args.held c.trigrams.result.now old.sets c.withdraw.new.self kept.sets at.1
          c.trigrams.ensures.trigrams c.requires.waits (c.withdraw.ensures.waiting c.requires.waits) c.withdraw.ensures.live c.withdraw.ensures.postings);
      counted = omega (arith, ap (λ xs. length (documents_in xs)) moved, documents_same, kept.counted);
      bytes = omega (arith, bytes, left, new_size, old_size, kept.bytes);
    }

pub returns-in_default-clause-store : goal.returns-in_default-clause-store
returns-in_default-clause-store c = λ last kept.
    absurd
    (not_lost (document_at c.args.number (stored c.args.self.now))
    (sym c.in_default.is ∙ (c.exchange.ensures.held
    ∙ ap (λ slots. option_map (λ d. d.1) (document_at c.args.number (documents_in slots))) c.deref_mut.ensures.value))
    c.requires.there)
