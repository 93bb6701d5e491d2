use Rattle.std.proofs.Common.{◌≡◌, ◌-◌, sym, ◌∙◌, ap, subst, arith, length}
use Rattle.std.specs.Prelude.{option_map}
use Rattle.std.proofs.lemmas.List.{length-map}
use Rattle.index.specs.Private.Numbered.{body_bytes}
use Rattle.index.specs.Private.Slots.{documents_in, texts_of, without_number, RiseTo, FewAreEmpty}
use Rattle.index.specs.Private.Sets.{AreSetsOf}
use Rattle.index.specs.Private.Store.{stored}
use Rattle.index.proofs.StoredLemmas.{Numbered-stored, body_bytes-without, length-without, without-absent_number, RiseTo-same}
use Rattle.index.proofs.store.Store.take_out_now.Goals as goal

pub overflow_sub-self : goal.overflow_sub-self
overflow_sub-self c =
    let old = c.args.self.now in
    let kept = c.requires.1 in
    let size : length c.as_bytes.result.now ≡ length c.in-Some.occupant.held = ap length (c.as_bytes.ensures.bytes ∙ c.body.ensures) in
    let bytes =
    body_bytes-without c.args.number (stored old) c.in-Some.occupant.name c.in-Some.occupant.held
    (Numbered-stored c.requires.0 old.slots.items kept.slots) (sym c.in-Some.ensures.occupant) in
    omega (arith, size, bytes, kept.bytes)

pub overflow_sub-self-in-Some : goal.overflow_sub-self-in-Some
overflow_sub-self-in-Some c =
    let old = c.args.self.now in
    let kept = c.requires.1 in
    let fewer = length-without c.args.number (stored old) c.in-Some.occupant.name c.in-Some.occupant.held
    (Numbered-stored c.requires.0 old.slots.items kept.slots) (sym c.in-Some.ensures.occupant) in
    omega (arith, fewer, kept.counted)

pub returns-in-Some-clause-store : goal.returns-in-Some-clause-store
returns-in-Some-clause-store c = λ last kept.
    let old = c.args.self.now in
    let at = sym c.in-Some.ensures.occupant in
    let size : length c.as_bytes.result.now ≡ length c.in-Some.occupant.held = ap length (c.as_bytes.ensures.bytes ∙ c.body.ensures) in
    let bytes = body_bytes-without c.args.number (stored old) c.in-Some.occupant.name c.in-Some.occupant.held
    (Numbered-stored last old.slots.items kept.slots) at in
    let documents : documents_in c.give_back.new.slots.items ≡ without_number c.args.number (stored old) =
    ap documents_in c.give_back.ensures ∙ c.compact.ensures.documents ∙ c.take.ensures.documents in
    let left : body_bytes (documents_in c.give_back.new.slots.items) ≡ body_bytes (without_number c.args.number (stored old)) = ap body_bytes documents in
    let sets = c.take_out.ensures.sets (stored old) c.in-Some.occupant.name kept.sets at in
    let fewer = length-without c.args.number (stored old) c.in-Some.occupant.name c.in-Some.occupant.held
    (Numbered-stored last old.slots.items kept.slots) at in
    let taken : length (documents_in c.take.new.slots.items) ≡ length (without_number c.args.number (stored old)) =
    ap length c.take.ensures.documents in
    let counted : old.count - 1 ≡ length (documents_in c.take.new.slots.items) = omega (arith, fewer, taken, kept.counted) in
    let now : length (documents_in c.give_back.new.slots.items) ≡ length (without_number c.args.number (stored old)) = ap length documents in
    record {
      slots =
          subst (RiseTo last) (sym c.give_back.ensures)
          (c.compact.ensures.numbers last (RiseTo-same last old.slots.items c.take.new.slots.items c.take.ensures.numbers kept.slots));
      few = subst FewAreEmpty (sym c.give_back.ensures) (c.compact.ensures.few counted);
      sets = subst (λ ds. AreSetsOf ds c.take_out.new.self) (sym documents) sets;
      counted = omega (arith, now, fewer, kept.counted);
      bytes = omega (arith, size, bytes, left, kept.bytes);
    }

pub returns-in_default-clause-store : goal.returns-in_default-clause-store
returns-in_default-clause-store c = λ last kept.
    let old = c.args.self.now in
    let absent = sym c.take.ensures.occupant ∙ ap (option_map texts_of) c.in_default.is in
    let documents : documents_in c.take.new.slots.items ≡ stored old = c.take.ensures.documents ∙ without-absent_number c.args.number (stored old) absent in
    let same_slots : length c.take.new.slots.items ≡ length old.slots.items =
    sym (length-map c.take.new.slots.items (λ s. s.number)) ∙ ap length c.take.ensures.numbers ∙ length-map old.slots.items (λ s. s.number) in
    record {
      slots = RiseTo-same last old.slots.items c.take.new.slots.items c.take.ensures.numbers kept.slots;
      few = omega (arith, same_slots, ap length documents, kept.few);
      sets = subst (λ ds. AreSetsOf ds old.sets) (sym documents) kept.sets;
      counted = kept.counted ∙ ap length (sym documents);
      bytes = kept.bytes ∙ ap body_bytes (sym documents);
    }
