use Rattle.std.proofs.Common.{◌≡◌, ◌<◌, sym, ◌∙◌, ap, subst, refl, set, get_or, length}
use Rattle.std.specs.Prelude.{option_map}
use Rattle.std.proofs.Math.Seq.{map-set_same}
use Rattle.std.proofs.lemmas.Option.{slice_get_read}
use Rattle.index.specs.declared.slots.Slot.{Slot}
use Rattle.index.specs.Private.Slots.{texts_of, documents_in}
use Rattle.index.proofs.SlotLemmas.{Others, document_at-absent, without-absent, document_at-here, documents_in-emptied, rising}
use Rattle.index.proofs.slots.take.Goals as goal

pub returns-in-None-clause-occupant : goal.returns-in-None-clause-occupant
returns-in-None-clause-occupant c =
    sym (document_at-absent c.args.number c.args.slots.now.items
    (subst (Others c.args.number) c.deref.ensures.value c.in-None.ensures.none))

pub returns-in-None-clause-documents : goal.returns-in-None-clause-documents
returns-in-None-clause-documents c =
    without-absent c.args.number c.args.slots.now.items (subst (Others c.args.number) c.deref.ensures.value c.in-None.ensures.none)

pub returns-in-Some-clause-occupant : goal.returns-in-Some-clause-occupant
returns-in-Some-clause-occupant c =
    let slots = c.args.slots.now.items in
    let slot = c.index_mut-slot.result.now in
    let found =
    subst (λ xs. (c.in-Some.place < length xs) × ((s : Slot) → (get_or xs c.in-Some.place s).number ≡ c.args.number))
    c.deref.ensures.value c.in-Some.ensures.some in
    let read = c.index_mut-slot.ensures.value in
    let at = slice_get_read slots _ c.in-Some.place slot refl found.0 read in
    let number = ap (λ s. s.number) read ∙ found.1 slot in
    ap (option_map texts_of) c.take.ensures.value
    ∙ sym (document_at-here c.args.number slots c.in-Some.place slot (rising c.requires.0 slots c.requires.1) at number)

pub returns-in-Some-clause-documents : goal.returns-in-Some-clause-documents
returns-in-Some-clause-documents c =
    let slots = c.args.slots.now.items in
    let slot = c.index_mut-slot.result.now in
    let found =
    subst (λ xs. (c.in-Some.place < length xs) × ((s : Slot) → (get_or xs c.in-Some.place s).number ≡ c.args.number))
    c.deref.ensures.value c.in-Some.ensures.some in
    let read = c.index_mut-slot.ensures.value in
    let at = slice_get_read slots _ c.in-Some.place slot refl found.0 read in
    let number = ap (λ s. s.number) read ∙ found.1 slot in
    ap (λ occupant. documents_in (set slots c.in-Some.place (record { number = slot.number; occupant = occupant }))) c.take.ensures.after
    ∙ documents_in-emptied c.args.number slots c.in-Some.place slot (rising c.requires.0 slots c.requires.1) at number

pub returns-in-Some-clause-numbers : goal.returns-in-Some-clause-numbers
returns-in-Some-clause-numbers c =
    let slots = c.args.slots.now.items in
    let slot = c.index_mut-slot.result.now in
    map-set_same (λ s. s.number) slots c.in-Some.place (record { number = slot.number; occupant = c.take.new.self }) slot
    (ap (λ s. s.number) c.index_mut-slot.ensures.value)
