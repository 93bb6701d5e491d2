-- Places and hits that are added until there are as many as are looked for.
use Rattle.std.proofs.Common.{◌≡◌, ℕ, suc, ◌⊎◌, inl, inr, Bool, true, false, Option, Some, None, List, [], ◌∷◌, ◌++◌, map, length, length-drop, drop, refl, sym, ◌∙◌, ap, subst, arith, append_assoc}
use Rattle.std.specs.Prelude.{MatchBool}
use Rattle.std.specs.List.{AllByRecursion}
use Rattle.std.proofs.Math.Seq.{drop-append_seam}
use Rattle.std.proofs.lemmas.List.{append-nil, map-append}
use Rattle.std.proofs.lemmas.List.Elements.{All-append}
use Rattle.ere.specs.Language.{ContainsMatch}
use Rattle.lines.specs.Lines.{lines_of}
use Rattle.engine.proofs.Deciding.{decides, lines-feedless}
use Rattle.engine.proofs.LineLemmas.{NoFeed}
use Rattle.views.specs.declared.places.Place.{Place}
use Rattle.prepare.specs.Pattern.{Test, Passes}
use Rattle.views.specs.Places.{hit_in}
use Rattle.search.specs.Private.Added.{AddsPlaces, AddsPlacesUpTo, AddsUpTo, IsPlaceIn, IsReached}
use Rattle.search.specs.Private.Gathered.{beyond}
use Rattle.views.specs.Found.{Hit}
use Rattle.search.specs.Selects.{Selects, done, keep, skip, IsAsked}
use Rattle.views.specs.Found.{found, numbered}
use Rattle.search.proofs.PlaceLemmas.{AddsSoFar}
use Rattle.search.proofs.SelectsLemmas.{Selects-append}

-- ---- what a test selects of lines that are not looked at

abbrev pub Selection : Test → List Hit → Type 0
Selection test lines = (hits : List Hit) × Selects (IsAsked test) lines hits

pub passes_or_not : (test : Test) (text : List ℕ) → NoFeed text → Passes test text ⊎ (Passes test text → ⊥)
passes_or_not test text none = go test.inverted (decides test.tree text none)
  where
    go : (inverted : Bool) → ContainsMatch test.tree text ⊎ (ContainsMatch test.tree text → ⊥)
        → Passes (record { tree = test.tree; inverted = inverted }) text ⊎ (Passes (record { tree = test.tree; inverted = inverted }) text → ⊥)
    go true (inl has) = inr (λ h. h has)
    go true (inr lacks) = inl lacks
    go false (inl has) = inl has
    go false (inr lacks) = inr lacks

selection_of : (test : Test) (name : List ℕ) (line : ℕ) (texts : List (List ℕ)) → AllByRecursion NoFeed texts → Selection test (numbered name line texts)
unfolding numbered
selection_of test name line [] none = ([], done)
selection_of test name line (text ∷ texts) none = go (passes_or_not test text none.0) (selection_of test name (suc line) texts none.1)
  where
    go : Passes test text ⊎ (Passes test text → ⊥) → Selection test (numbered name (suc line) texts)
        → Selection test (found name line text ∷ numbered name (suc line) texts)
    go (inl passes) rest = (found name line text ∷ rest.0, keep passes rest.1)
    go (inr fails) rest = (rest.0, skip fails rest.1)

-- what it selects of the lines of a text
pub selection_of_text : (test : Test) (name : List ℕ) (line : ℕ) (text : List ℕ) → Selection test (numbered name line (lines_of text))
selection_of_text test name line text = selection_of test name line (lines_of text) (lines-feedless text)

-- ---- places

module _ (most : Option ℕ) (test : Test) (document : ℕ) (name body : List ℕ) where
  -- all places are added
  pub first_all : (lines : List Hit) (old new : List Place) → AddsPlaces test document name body lines old new
      → AddsPlacesUpTo most test document name body lines old new
  first_all lines old new adds = record {
    added = adds.added;
    appended = adds.appended;
    inside = adds.inside;
    rest = [];
    selected = subst (λ hits. Selects (IsAsked test) lines hits) (sym (append-nil (map (hit_in name body) adds.added))) adds.selected;
    ended = inl refl;
  }

  -- none is missing while there are not as many as are looked for
  pub all_added : (lines : List Hit) (old new : List Place) → (IsReached most (length new) → ⊥)
      → AddsPlacesUpTo most test document name body lines old new → AddsPlaces test document name body lines old new
  all_added lines old new fewer adds = record {
    added = adds.added;
    appended = adds.appended;
    inside = adds.inside;
    selected =
        (let none : adds.rest ≡ [] = elim adds.ended [ inl none ↦ none | inr full ↦ absurd (fewer full) ] in
        subst (λ hits. Selects (IsAsked test) lines hits)
        (ap (λ rest. map (hit_in name body) adds.added ++ rest) none ∙ append-nil (map (hit_in name body) adds.added)) adds.selected);
  }

  -- what is added so far, and what is added for the first of the lines that are left; the others are not looked at
  joined : (first rest lines whole : List Hit) (old now new : List Place) (more : List Hit) → lines ≡ first ++ rest
      → AddsSoFar test document name body lines whole old now → (step : AddsPlacesUpTo most test document name body first now new)
      → Selects (IsAsked test) rest more → (step.rest ++ more ≡ []) ⊎ IsReached most (length new)
      → AddsPlacesUpTo most test document name body whole old new
  joined first rest lines whole old now new more split before step s ended = record {
    added = before.added ++ step.added;
    appended = step.appended ∙ (ap (λ ps. ps ++ step.added) before.appended ∙ append_assoc old before.added step.added);
    inside = All-append (IsPlaceIn document body) before.added step.added before.inside step.inside;
    rest = step.rest ++ more;
    selected =
        (let here = map (hit_in name body) step.added in
        let front = map (hit_in name body) before.added in
        let all : Selects (IsAsked test) lines (here ++ (step.rest ++ more)) =
        subst (λ all. Selects (IsAsked test) all (here ++ (step.rest ++ more))) (sym split)
        (subst (λ hits. Selects (IsAsked test) (first ++ rest) hits) (append_assoc here step.rest more) (Selects-append step.selected s)) in
        let same : front ++ (here ++ (step.rest ++ more)) ≡ map (hit_in name body) (before.added ++ step.added) ++ (step.rest ++ more) =
        sym (append_assoc front here (step.rest ++ more))
        ∙ ap (λ hits. hits ++ (step.rest ++ more)) (sym (map-append (hit_in name body) before.added step.added)) in
        subst (λ hits. Selects (IsAsked test) whole hits) same (before.so_far (here ++ (step.rest ++ more)) all));
    ended = ended;
  }

  pub cut_here : (first rest lines whole : List Hit) (old now new : List Place) → lines ≡ first ++ rest
      → AddsSoFar test document name body lines whole old now → AddsPlacesUpTo most test document name body first now new
      → IsReached most (length new) → Selection test rest → AddsPlacesUpTo most test document name body whole old new
  cut_here first rest lines whole old now new split before step full more =
      joined first rest lines whole old now new more.0 split before step more.1 (inr full)

  pub last_added : (rest whole : List Hit) (old now new : List Place) → AddsSoFar test document name body rest whole old now
      → AddsPlacesUpTo most test document name body rest now new → AddsPlacesUpTo most test document name body whole old new
  last_added rest whole old now new before step =
      joined rest [] rest whole old now new [] (sym (append-nil rest)) before step done
      (elim step.ended [ inl none ↦ inl (ap (λ hits. hits ++ []) none) | inr full ↦ inr full ])

-- ---- whether there are as many as are looked for

module _ (most : Option ℕ) (full : Bool) (count other : ℕ) (is : MatchBool full (IsReached most count) (IsReached most count → ⊥))
    (same : count ≡ other) where
  pub reached : full ≡ true → IsReached most other
  reached e = subst (λ n. IsReached most n) same (subst (λ b. MatchBool b (IsReached most count) (IsReached most count → ⊥)) e is)

  pub not_reached : full ≡ false → IsReached most other → ⊥
  not_reached e h = subst (λ b. MatchBool b (IsReached most count) (IsReached most count → ⊥)) e is (subst (λ n. IsReached most n) (sym same) h)

-- what is added to what is there, by itself
pub adds-own : {Has : Hit → Type 0} {all old new : List Hit} (most : Option ℕ) (before : ℕ) → before ≡ length old → AddsUpTo (beyond before most) Has all old new
    → AddsUpTo most Has all [] (drop before new)
adds-own {old = old} {new = new} most before is adds = record {
  added = adds.added;
  appended =
      ap (λ hits. drop before hits) adds.appended
      ∙ (ap (λ n. drop n (old ++ adds.added)) is ∙ drop-append_seam old adds.added);
  rest = adds.rest;
  selected = adds.selected;
  ended = elim adds.ended [ inl none ↦ inl none | inr full ↦ inr (fewer most full) ];
}
  where
    fewer : (most : Option ℕ) → IsReached (beyond before most) (length new) → IsReached most (length (drop before new))
    fewer None full = full
    fewer (Some n) full = omega (arith, length-drop before new, full)

pub both-parts : (old new added : List Hit) (before : ℕ) → before ≡ length old → new ≡ old ++ added → old ++ drop before new ≡ new
both-parts old new added before is grown =
    ap (λ hits. old ++ hits) (ap (λ hits. drop before hits) grown ∙ (ap (λ n. drop n (old ++ added)) is ∙ drop-append_seam old added)) ∙ sym grown
