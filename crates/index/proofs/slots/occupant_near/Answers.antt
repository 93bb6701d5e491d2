use Rattle.std.proofs.Common.{◌≡◌, Option, Some, None, sym, ◌∙◌, ap, refl}
use Rattle.std.specs.Prelude.{option_map}
use Rattle.std.specs.Option.{option_copied}
use Rattle.std.proofs.lemmas.Option.{slice_get_read}
use denote.Bor.{Bor}
use Rattle.index.specs.declared.slots.Occupant.{Occupant}
use Rattle.index.specs.Private.Slots.{texts_of}
use Rattle.index.proofs.SlotLemmas.{document_at-absent, document_at-here, rising}
use Rattle.index.proofs.slots.occupant_near.Goals as goal

pub returns-in-None : goal.returns-in-None
returns-in-None c = sym (document_at-absent c.args.number c.args.slots.now c.in-None.ensures.none)

shown : (found : Option (Bor Occupant)) → option_map (λ e. texts_of e.now) found ≡ option_map texts_of (option_copied found)
shown None = refl
shown (Some occupant) = refl

pub returns-in-Some : goal.returns-in-Some
returns-in-Some c =
    let slots = c.args.slots.now in
    let slot = c.index-slots-place.result in
    let at = slice_get_read slots _ c.in-Some.place slot refl c.in-Some.ensures.some.0 c.index-slots-place.is in
    let number = ap (λ s. s.number) c.index-slots-place.is ∙ c.in-Some.ensures.some.1 slot in
    shown c.as_ref.result ∙ ap (option_map texts_of) (c.as_ref.ensures.value ∙ ap (λ s. s.occupant) (sym c.index-slots-place.is))
    ∙ sym (document_at-here c.args.number slots c.in-Some.place slot (rising c.requires.0 slots c.requires.1) at number)
