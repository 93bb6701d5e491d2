use Rattle.std.proofs.Common.{◌≡◌, ◌<◌, ℕ, List, Some, None, sym, ◌∙◌, ap, refl, set, get_or, length}
use Rattle.std.specs.Prelude.{option_map}
use Rattle.std.proofs.Math.Seq.{map-set_same, set-get_or}
use Rattle.std.proofs.lemmas.Option.{slice_get_read}
use Rattle.index.specs.declared.slots.Slot.{Slot}
use Rattle.index.specs.Private.Numbered.{document_at}
use Rattle.index.specs.Private.Slots.{texts_of, documents_in, RiseTo}
use Rattle.index.proofs.SlotLemmas.{document_at-absent, document_at-here, with_body_at-absent, documents_in-exchanged, rising}
use Rattle.index.proofs.slots.exchange.Goals as goal

-- the document in the slot
there : (last number : ℕ) (slots : List Slot) (place : ℕ) (slot : Slot) → RiseTo last slots → place < length slots → slot ≡ get_or slots place slot
    → (get_or slots place slot).number ≡ number → document_at number (documents_in slots) ≡ option_map texts_of slot.occupant
there last number slots place slot rises inside read same =
    document_at-here number slots place slot (rising last slots rises) (slice_get_read slots _ place slot refl inside read)
    (ap (λ s. s.number) read ∙ same)

pub returns-in-None-clause-held : goal.returns-in-None-clause-held
returns-in-None-clause-held c =
    ap (option_map (λ d. d.1)) (sym (document_at-absent c.args.number c.args.slots.now c.in-None.ensures.none))

pub returns-in-None-clause-documents : goal.returns-in-None-clause-documents
returns-in-None-clause-documents c =
    sym (with_body_at-absent c.args.number c.args.held (documents_in c.args.slots.now)
    (document_at-absent c.args.number c.args.slots.now c.in-None.ensures.none))

pub returns-in-None-occupant-clause-held : goal.returns-in-None-occupant-clause-held
returns-in-None-occupant-clause-held c =
    let slot = c.index-slots-place.result in
    let found = c.in-Some.ensures.some in
    ap (option_map (λ d. d.1))
    (sym (there c.requires.0 c.args.number c.args.slots.now c.in-Some.place slot c.requires.1 found.0 c.index-slots-place.is (found.1 slot)
    ∙ ap (option_map texts_of) (ap (λ s. s.occupant) c.index-slots-place.is ∙ c.in-None-occupant.is)))

pub returns-in-None-occupant-clause-documents : goal.returns-in-None-occupant-clause-documents
returns-in-None-occupant-clause-documents c =
    let slots = c.args.slots.now in
    let slot = c.index-slots-place.result in
    let found = c.in-Some.ensures.some in
    let none : document_at c.args.number (documents_in slots) ≡ None =
    there c.requires.0 c.args.number slots c.in-Some.place slot c.requires.1 found.0 c.index-slots-place.is (found.1 slot)
    ∙ ap (option_map texts_of) (ap (λ s. s.occupant) c.index-slots-place.is ∙ c.in-None-occupant.is) in
    ap documents_in (set-get_or slots c.in-Some.place slot)
    ∙ sym (with_body_at-absent c.args.number c.args.held (documents_in slots) none)

pub returns-in-Some-occupant-clause-held : goal.returns-in-Some-occupant-clause-held
returns-in-Some-occupant-clause-held c =
    let slot = c.index-slots-place.result in
    let found = c.in-Some.ensures.some in
    ap Some c.replace.ensures.value
    ∙ ap (option_map (λ d. d.1))
    (sym (there c.requires.0 c.args.number c.args.slots.now c.in-Some.place slot c.requires.1 found.0 c.index-slots-place.is (found.1 slot)
    ∙ ap (option_map texts_of) (ap (λ s. s.occupant) c.index-slots-place.is ∙ c.in-Some-occupant.is)))

pub returns-in-Some-occupant-clause-documents : goal.returns-in-Some-occupant-clause-documents
returns-in-Some-occupant-clause-documents c =
    let slots = c.args.slots.now in
    let slot = c.index-slots-place.result in
    let found = c.in-Some.ensures.some in
    let occupant = c.in-Some-occupant.occupant in
    let at = slice_get_read slots _ c.in-Some.place slot refl found.0 c.index-slots-place.is in
    ap (λ s. documents_in (set slots c.in-Some.place (record { number = s.number; occupant = Some (record { name = occupant.name; held = c.replace.new.dest }) })))
    (sym c.index-slots-place.is)
    ∙ (ap (λ h. documents_in (set slots c.in-Some.place (record { number = slot.number; occupant = Some (record { name = occupant.name; held = h }) })))
    c.replace.ensures.after
    ∙ documents_in-exchanged c.args.number c.args.held slots c.in-Some.place slot occupant (rising c.requires.0 slots c.requires.1) at
    (ap (λ s. s.number) c.index-slots-place.is ∙ found.1 slot) (ap (λ s. s.occupant) c.index-slots-place.is ∙ c.in-Some-occupant.is))

pub returns-in-Some-occupant-clause-numbers : goal.returns-in-Some-occupant-clause-numbers
returns-in-Some-occupant-clause-numbers c =
    let slots = c.args.slots.now in
    let slot = c.index-slots-place.result in
    let occupant = c.in-Some-occupant.occupant in
    map-set_same (λ s. s.number) slots c.in-Some.place
    (record { number = (get_or slots c.in-Some.place slot).number; occupant = Some (record { name = occupant.name; held = c.replace.new.dest }) }) slot refl
