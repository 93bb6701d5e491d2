use Rattle.std.proofs.Common.{◌≡◌, Result, Ok, Err, OnOk, OnErr, length, take, take_all, le_refl, sym, ◌∙◌, ap}
use Rattle.history.specs.History.{head_of}
use Rattle.published.specs.Desk.{has_document}
use Rattle.published.specs.History.{Known, known}
use Rattle.published.specs.Private.Copies.{CopiesState, copies_state}
use Rattle.published.specs.Private.DeskParts.{HasNamesOf}
use Rattle.published.proofs.desk.Desk.publish.Goals as goal

-- whether the front is shown or not, it is of the opening, and the accepted commands stay
stays : {T E : Type 0} (r : Result T E) (front : Known) (old new : CopiesState) → OnOk r (new ≡ copies_state front front.commands)
    → OnErr r (new ≡ old) → front ≡ known old.shown.opening old.accepted
    → (new.shown.opening ≡ front.opening) × (new.accepted ≡ front.commands) × (old.accepted ≡ new.accepted)
stays (Ok x) front old new ok err is =
    let same = ap (λ (s : CopiesState). s.accepted) ok in
    (ap (λ (s : CopiesState). s.shown.opening) ok, same, ap (λ (f : Known). f.commands) (sym is) ∙ sym same)
stays (Err e) front old new ok err is =
    let same = ap (λ (s : CopiesState). s.accepted) err in (
      ap (λ (s : CopiesState). s.shown.opening) err ∙ ap (λ (f : Known). f.opening) (sym is),
      same ∙ ap (λ (f : Known). f.commands) (sym is),
      sym same,
    )

pub invariant_of-self-inside : goal.invariant_of-self-inside
invariant_of-self-inside g c =
    let inside = c.self.inside in
    let front = c.in-Some.front in
    let is : front ≡ known inside.copies.shown.opening inside.copies.accepted =
    c.in-Some.ensures
    ∙ (ap (λ s. known s.opening s.accepted) (sym c.self.view_is) ∙ ap (λ o. known o inside.copies.accepted) (sym inside.opening)) in
    let stayed = stays c.publish.result front inside.copies c.publish.new.self c.publish.ensures.ok c.publish.ensures.err is in
    let begun = ap (take (length front.commands)) stayed.1 ∙ take_all (length front.commands) front.commands (le_refl (length front.commands)) in
    let named : HasNamesOf inside.names c.publish.new.self.accepted =
    λ name. inside.named name ∙ ap (λ commands. has_document commands name) stayed.2 in (
      stayed.0,
      (
        inside.history ∙ ap (λ o. head_of o) (sym inside.opening ∙ ap (λ (f : Known). f.opening) (sym is)),
        (begun, (inside.counted ∙ ap length stayed.2, (inside.room, (inside.limited, (named, tt))))),
      ),
    )
