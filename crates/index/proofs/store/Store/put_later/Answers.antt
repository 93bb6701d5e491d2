use Rattle.std.proofs.Common.{◌≡◌, ◌+◌, ◌++◌, ◌∷◌, [], Some, sym, ◌∙◌, ap, subst, arith, length}
use Rattle.std.proofs.lemmas.List.{length-append}
use Rattle.index.specs.Private.Numbered.{document, body_bytes}
use Rattle.index.specs.Private.Slots.{documents_in, RiseTo}
use Rattle.index.specs.Private.Sets.{AreSetsOf}
use Rattle.index.specs.Private.Store.{stored}
use Rattle.index.proofs.SlotLemmas.{documents_in-push, RiseTo-push, length-documents_in}
use Rattle.index.proofs.StoredLemmas.{numbers_at_most, AreSetsOf-later, all_below, body_bytes-push}
use Rattle.index.proofs.store.Store.put_later.Goals as goal

pub put_later-requires-clause-room : goal.put_later-requires-clause-room
put_later-requires-clause-room c = c.requires.room.live

pub put_later-requires-clause-above : goal.put_later-requires-clause-above
put_later-requires-clause-above c =
    let old = c.args.self.now in
    let last = c.requires.store.0 in
    let kept = c.requires.store.1 in
    all_below (stored old) last c.args.number old.sets kept.sets (numbers_at_most last old.slots.items kept.slots) c.requires.store.2

pub overflow_add-self-2 : goal.overflow_add-self-2
overflow_add-self-2 c =
    let slots = c.args.self.now.slots in
    omega (arith, c.requires.store.1.counted, length-documents_in slots.items, slots.ok.0, slots.ok.1, slots.small)

pub returns-clause-documents : goal.returns-clause-documents
returns-clause-documents c =
    ap documents_in c.push_reserved.ensures.items
    ∙ documents_in-push c.args.self.now.slots.items (record { number = c.args.number; occupant = Some c.args.occupant })

pub returns-clause-store : goal.returns-clause-store
returns-clause-store c =
    let old = c.args.self.now in
    let last = c.requires.store.0 in
    let kept = c.requires.store.1 in
    let above = c.requires.store.2 in
    let d = document c.args.number c.args.occupant.name c.args.occupant.held in
    let documents : documents_in c.push_reserved.new.self.items ≡ stored old ++ d ∷ [] =
    ap documents_in c.push_reserved.ensures.items
    ∙ documents_in-push old.slots.items (record { number = c.args.number; occupant = Some c.args.occupant }) in
    let size : length c.as_bytes.result.now ≡ length c.args.occupant.held = ap length (c.as_bytes.ensures.bytes ∙ c.body.ensures) in
    let bytes : body_bytes (documents_in c.push_reserved.new.self.items) ≡ body_bytes (stored old) + length c.args.occupant.held =
    ap body_bytes documents ∙ body_bytes-push (stored old) d in
    let more_slots : length c.push_reserved.new.self.items ≡ length old.slots.items + 1 =
    ap length c.push_reserved.ensures.items ∙ length-append old.slots.items (record { number = c.args.number; occupant = Some c.args.occupant } ∷ []) in
    let more_documents : length (documents_in c.push_reserved.new.self.items) ≡ length (stored old) + 1 =
    ap length documents ∙ length-append (stored old) (d ∷ []) in
    record {
      slots =
          subst (RiseTo c.args.number) (sym c.push_reserved.ensures.items)
          (RiseTo-push last old.slots.items (record { number = c.args.number; occupant = Some c.args.occupant }) kept.slots above);
      few = omega (arith, more_slots, more_documents, kept.few);
      sets =
          subst (λ ds. AreSetsOf ds c.put_later.new.self) (sym documents)
          (AreSetsOf-later (stored old) c.args.number c.args.occupant.name c.args.occupant.held old.sets c.put_later.new.self kept.sets
          c.requires.room.none_left c.put_later.ensures.none_left c.put_later.ensures.live c.put_later.ensures.postings c.put_later.ensures.waiting);
      counted = omega (arith, more_documents, kept.counted);
      bytes = omega (arith, size, bytes, kept.bytes);
    }
