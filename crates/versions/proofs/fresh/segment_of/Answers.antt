use Rattle.std.proofs.Common.{ℕ, List, None, length, get_or, refl, sym, subst, arith, ◌+◌, ◌≡◌}
use Rattle.std.specs.Prelude.{Option}
use Rattle.std.proofs.lemmas.List.{length-map}
use Rattle.std.proofs.lemmas.Result.{IfOk-weaker}
use Rattle.std.specs.Borrow.{Bor}
use Rattle.names.specs.declared.content.Content.{Content}
use Rattle.versions.specs.Private.Fresh.{unnamed, as_entry, ArePlaces, AreAnalysed, AddsContent}
use Rattle.versions.proofs.FreshLemmas.{analysed_none, analysed_same, no_place, nowhere, one_more}
use Rattle.versions.proofs.fresh.segment_of.Goals as goal
use Rattle.versions.proofs.fresh.segment_of.Goals.{in-Some+in_ok-made, in_default}

-- as many names are given as there are entries
places_of : (first : ℕ) (entries : List (Bor Content)) (places : List (Option ℕ)) → ArePlaces first (length places) (unnamed entries) (length entries) places
    → ArePlaces first (length places) (unnamed entries) (length (unnamed entries)) places
places_of first entries places are =
    subst (λ (n : ℕ). ArePlaces first (length places) (unnamed entries) n places) (sym (length-map entries as_entry)) are

pub loop-at-init : goal.loop-at-init
loop-at-init c = analysed_none c.args.first (unnamed c.args.contents.now) c.new-made.result c.new-made.ensures

pub body_at-body-requires : goal.body_at-body-requires
body_at-body-requires c =
    let told = (c.requires.places.tells c.loop-at.at c.in-Some.place c.in-Some.is).0 in
    let long = length-map c.args.contents.now as_entry in
    omega (arith, told, long)

pub loop-at-preserved : goal.loop-at-preserved
loop-at-preserved c =
    let es = unnamed c.args.contents.now in
    elim c.match-places-at.branch [
      | in-Some+in_ok-made w ↦
          rw w.made-is
          (one_more c.args.first c.loop-at.at w.in-Some.place es c.args.places.now c.loop-at.made w.in_ok-made.made c.loop-at.invariant
          (places_of c.args.first c.args.contents.now c.args.places.now c.requires.places) c.requires.tell w.in-Some.is
          (subst (λ body. AddsContent (c.args.first + c.loop-at.at) body c.loop-at.made w.in_ok-made.made) w.body_at-body.ensures w.in_ok-made.ensures))
      | in_default w ↦
          rw w.made-is
          (analysed_same c.args.first c.loop-at.at es c.loop-at.made c.loop-at.invariant
          (no_place c.args.first c.loop-at.at es c.args.places.now (get_or c.args.places.now c.loop-at.at None) (places_of c.args.first c.args.contents.now c.args.places.now c.requires.places)
          c.loop-at-test.true refl (nowhere (get_or c.args.places.now c.loop-at.at None) w.in_default.not-Some)))
    ]

pub returns : goal.returns
returns c =
    let end = c.loop-at.auto.at-end in
    let past = c.loop-at-test.false in
    let same : c.loop-at.at ≡ length c.args.places.now = omega (arith, end, past) in
    IfOk-weaker c.finish.result (λ segment. segment ≡ c.loop-at.made) (AreAnalysed c.args.first (c.args.first + length c.args.places.now) (unnamed c.args.contents.now))
    (λ segment is. subst (AreAnalysed c.args.first (c.args.first + length c.args.places.now) (unnamed c.args.contents.now)) (sym is)
    (subst (λ (n : ℕ). AreAnalysed c.args.first (c.args.first + n) (unnamed c.args.contents.now) c.loop-at.made) same c.loop-at.invariant)) c.finish.ensures
