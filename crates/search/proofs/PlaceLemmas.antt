-- Places in the bodies of documents, and places that are added.
use Rattle.std.proofs.Common.{◌≡◌, ℕ, ◌+◌, ◌-◌, ◌<◌, ◌≤◌, ◌⊎◌, inl, inr, Option, List, [], ◌∷◌, ◌++◌, map, length, take, drop, refl, sym, ◌∙◌, ap, subst, arith, append_assoc}
use Rattle.std.specs.Prelude.{slice_range, All}
use Rattle.std.proofs.lemmas.List.{append-nil, map-append, length-append, length-map, length-take, length-drop, drop-take, drop-drop, take-take, get_or_append_left, get_or_push, nil_from_length}
use Rattle.std.proofs.lemmas.List.Elements.{All-nil, All-cons, All-head, All-tail, All-append, All-weaker}
use Rattle.documents.specs.declared.document.SharedDocument.{SharedDocument}
use Rattle.views.specs.declared.places.Place.{Place}
use Rattle.prepare.specs.Pattern.{Test, Passes}
use Rattle.views.specs.Found.{Hit}
use Rattle.views.specs.Places.{hit_in, home_of, hit_at, hits_at, IsPlaced}
use Rattle.search.specs.Selects.{Selects, done, keep, IsAsked}
use Rattle.views.specs.Found.{found, lines_of_document}
use Rattle.search.specs.Private.Documents.{lines_of_taken}
use Rattle.search.specs.Private.Added.{HasTextAt, IsPlaceIn, IsReached, AddsPlaces, AddsPlacesUpTo, AddsUpTo}
use Rattle.search.proofs.SelectsLemmas.{Selects-append}

-- ---- texts at offsets of a body

-- the part of a text is the same part of the body
module _ (body : List ℕ) (offset : ℕ) (text : List ℕ) (there : HasTextAt body offset text) (start end : ℕ) (ordered : start ≤ end)
    (inside : end ≤ length text) where
  pub part_of_body : slice_range body (offset + start) (offset + end) ≡ slice_range text start end
  part_of_body =
      let size : offset + end - (offset + start) ≡ end - start = omega arith in
      let whole : offset + length text - offset ≡ start + (length text - start) = omega arith in
      let less : end - start ≤ length text - start = omega arith in
      ap (λ n. take n (drop (offset + start) body)) size
      ∙ (ap (λ t. take (end - start) t) (sym (drop-drop start offset body))
      ∙ (sym (take-take (end - start) (length text - start) (drop start (drop offset body)) less)
      ∙ (ap (λ t. take (end - start) t) (sym (drop-take start (length text - start) (drop offset body)))
      ∙ ap (λ t. take (end - start) (drop start t)) (ap (λ n. take n (drop offset body)) (sym whole) ∙ there.same))))

  pub part_is_there : (part : List ℕ) → part ≡ slice_range text start end → length part ≡ end - start → HasTextAt body (offset + start) part
  part_is_there part is size = record {
    inside = omega (arith, there.inside);
    same =
        (let same : offset + start + length part ≡ offset + end = omega arith in
        ap (λ n. slice_range body (offset + start) n) same ∙ (part_of_body ∙ sym is));
  }

-- the first bytes of a text, and those after them
pub first_is_there : (body : List ℕ) (offset : ℕ) (text : List ℕ) (end : ℕ) → end ≤ length text → HasTextAt body offset text
    → HasTextAt body offset (take end text)
first_is_there body offset text end inside there =
    let start : offset + 0 ≡ offset = omega arith in
    let size : end - 0 ≡ end = omega arith in
    subst (λ n. HasTextAt body n (take end text)) start
    (part_is_there body offset text there 0 end (omega arith) inside (take end text) (ap (λ n. take n text) (sym size))
    (omega (arith, length-take end text)))

pub rest_is_there : (body : List ℕ) (offset : ℕ) (text : List ℕ) (start : ℕ) → start ≤ length text → HasTextAt body offset text
    → HasTextAt body (offset + start) (take (length text - start) (drop start text))
rest_is_there body offset text start inside there =
    part_is_there body offset text there start (length text) inside (omega arith) (take (length text - start) (drop start text)) refl
    (omega (arith, length-take (length text - start) (drop start text), length-drop start text))

-- ---- places that are added

module _ (test : Test) (document : ℕ) (name body : List ℕ) where
  -- no place, for lines without a match
  pub no_place : (lines : List Hit) (old : List Place) → Selects (IsAsked test) lines [] → AddsPlaces test document name body lines old old
  no_place lines old none = record {
    added = [];
    appended = sym (append-nil old);
    inside = All-nil (IsPlaceIn document body);
    selected = none;
  }

  -- one place
  pub one_place : (lines : List Hit) (place : Place) (old new : List Place) → IsPlaceIn document body place
      → Selects (IsAsked test) lines (hit_in name body place ∷ []) → new ≡ old ++ place ∷ [] → AddsPlaces test document name body lines old new
  one_place lines place old new inside selected grown = record {
    added = place ∷ [];
    appended = grown;
    inside = All-cons (IsPlaceIn document body) place [] inside (All-nil (IsPlaceIn document body));
    selected = selected;
  }

  -- the place of a line with a match
  pub line_place : (line offset : ℕ) (text : List ℕ) → HasTextAt body offset text → Passes test text → (old new : List Place)
      → new ≡ old ++ record { document = document; line = line; start = offset; end = offset + length text } ∷ []
      → AddsPlaces test document name body (found name line text ∷ []) old new
  line_place line offset text there hit old new grown =
      one_place (found name line text ∷ []) (record { document = document; line = line; start = offset; end = offset + length text }) old new
      (record { document = refl; ordered = omega arith; inside = there.inside })
      (subst (λ t. Selects (IsAsked test) (found name line text ∷ []) (found name line t ∷ [])) (sym there.same) (keep hit done)) grown

  -- what is added so far, followed by what is added for the rest, is what is added for the whole
  pub record AddsSoFar (rest whole : List Hit) (old now : List Place) : Type 0 where
    pub added : List Place
    pub appended : now ≡ old ++ added
    pub inside : All (IsPlaceIn document body) added
    pub so_far : (more : List Hit) → Selects (IsAsked test) rest more → Selects (IsAsked test) whole (map (hit_in name body) added ++ more)

  pub go_on : (first rest lines whole : List Hit) (old now new : List Place) → lines ≡ first ++ rest → AddsSoFar lines whole old now
      → AddsPlaces test document name body first now new → AddsSoFar rest whole old new
  go_on first rest lines whole old now new split before step = record {
    added = before.added ++ step.added;
    appended = step.appended ∙ (ap (λ ps. ps ++ step.added) before.appended ∙ append_assoc old before.added step.added);
    inside = All-append (IsPlaceIn document body) before.added step.added before.inside step.inside;
    so_far =
        λ more s.
        (let joined =
        before.so_far (map (hit_in name body) step.added ++ more)
        (subst (λ all. Selects (IsAsked test) all (map (hit_in name body) step.added ++ more)) (sym split) (Selects-append step.selected s)) in
        let same : map (hit_in name body) before.added ++ (map (hit_in name body) step.added ++ more)
        ≡ map (hit_in name body) (before.added ++ step.added) ++ more =
        sym (append_assoc (map (hit_in name body) before.added) (map (hit_in name body) step.added) more)
        ∙ ap (λ hits. hits ++ more) (sym (map-append (hit_in name body) before.added step.added)) in
        subst (λ hits. Selects (IsAsked test) whole hits) same joined);
  }

  pub at_end : (rest whole : List Hit) (old now : List Place) → rest ≡ [] → AddsSoFar rest whole old now
      → AddsPlaces test document name body whole old now
  at_end rest whole old now none before = record {
    added = before.added;
    appended = before.appended;
    inside = before.inside;
    selected =
        subst (λ hits. Selects (IsAsked test) whole hits) (append-nil (map (hit_in name body) before.added))
        (before.so_far [] (subst (λ all. Selects (IsAsked test) all []) (sym none) done));
  }

  pub at_last : (rest whole : List Hit) (old now new : List Place) → AddsSoFar rest whole old now
      → AddsPlaces test document name body rest now new → AddsPlaces test document name body whole old new
  at_last rest whole old now new before step =
      at_end [] whole old new refl (go_on rest [] rest whole old now new (sym (append-nil rest)) before step)

-- ---- one more document

home-before : (documents more : List SharedDocument) (place : Place) → place.document < length documents
    → home_of (documents ++ more) place ≡ home_of documents place
home-before documents more place there = get_or_append_left documents more _ place.document there

home-last : (documents : List SharedDocument) (last : SharedDocument) (place : Place) → place.document ≡ length documents
    → home_of (documents ++ last ∷ []) place ≡ last
home-last documents last place is = get_or_push documents last _ place.document (sym is)

pub placed-before : (documents more : List SharedDocument) (place : Place) → IsPlaced documents place → IsPlaced (documents ++ more) place
placed-before documents more place is = record {
  document = omega (arith, is.document, length-append documents more);
  ordered = is.ordered;
  inside = subst (λ home. place.end ≤ length home.held) (sym (home-before documents more place is.document)) is.inside;
}

pub placed-last : (documents : List SharedDocument) (last : SharedDocument) (place : Place) → IsPlaceIn (length documents) last.held place
    → IsPlaced (documents ++ last ∷ []) place
placed-last documents last place is = record {
  document = omega (arith, is.document, length-append documents (last ∷ []));
  ordered = is.ordered;
  inside = subst (λ home. place.end ≤ length home.held) (sym (home-last documents last place is.document)) is.inside;
}

pub hits-before : (documents more : List SharedDocument) (places : List Place) → All (IsPlaced documents) places
    → hits_at (documents ++ more) places ≡ hits_at documents places
hits-before documents more [] are = refl
hits-before documents more (place ∷ places) are =
    let first = home-before documents more place (All-head (IsPlaced documents) place places are).document in
    ap (λ home. hit_in home.name home.held place ∷ hits_at (documents ++ more) places) first
    ∙ ap (λ hits. hit_at documents place ∷ hits) (hits-before documents more places (All-tail (IsPlaced documents) place places are))

hits-last : (documents : List SharedDocument) (last : SharedDocument) (places : List Place)
    → All (IsPlaceIn (length documents) last.held) places
    → hits_at (documents ++ last ∷ []) places ≡ map (hit_in last.name last.held) places
hits-last documents last [] are = refl
hits-last documents last (place ∷ places) are =
    let first = home-last documents last place (All-head (IsPlaceIn (length documents) last.held) place places are).document in
    ap (λ home. hit_in home.name home.held place ∷ hits_at (documents ++ last ∷ []) places) first
    ∙ ap (λ hits. hit_in last.name last.held place ∷ hits)
    (hits-last documents last places (All-tail (IsPlaceIn (length documents) last.held) place places are))

-- what is added for a body, with the number, the name and the body of its document
pub adds_as : (most : Option ℕ) (test : Test) (number : ℕ) (documents : List SharedDocument) (last : SharedDocument) (body : List ℕ)
    (old new : List Place) → number ≡ length documents → body ≡ last.held
    → ((name : List ℕ) → AddsPlacesUpTo most test number name body (lines_of_document name body) old new)
    → AddsPlacesUpTo most test (length documents) last.name last.held (lines_of_taken last) old new
adds_as most test number documents last body old new count same adds =
    subst (λ n. AddsPlacesUpTo most test n last.name last.held (lines_of_taken last) old new) count
    (subst (λ text. AddsPlacesUpTo most test number last.name text (lines_of_document last.name text) old new) same (adds last.name))

module _ (most : Option ℕ) (test : Test) (documents : List SharedDocument) (last : SharedDocument) (old new : List Place)
    (placed : All (IsPlaced documents) old)
    (adds : AddsPlacesUpTo most test (length documents) last.name last.held (lines_of_taken last) old new) where
  pub placed_with : All (IsPlaced (documents ++ last ∷ [])) new
  placed_with =
      subst (λ places. All (IsPlaced (documents ++ last ∷ [])) places) (sym adds.appended)
      (All-append (IsPlaced (documents ++ last ∷ [])) old adds.added
      (All-weaker (IsPlaced documents) (IsPlaced (documents ++ last ∷ [])) (placed-before documents (last ∷ [])) old placed)
      (All-weaker (IsPlaceIn (length documents) last.held) (IsPlaced (documents ++ last ∷ [])) (placed-last documents last) adds.added
      adds.inside))

  ended_at : (hits : List Hit) → length hits ≡ length new → (adds.rest ≡ []) ⊎ IsReached most (length hits)
  ended_at hits same = elim adds.ended [ inl none ↦ inl none | inr full ↦ inr (subst (λ n. IsReached most n) (sym same) full) ]

  pub adds_with : AddsUpTo most (IsAsked test) (lines_of_taken last) (hits_at documents old) (hits_at (documents ++ last ∷ []) new)
  adds_with = record {
    added = map (hit_in last.name last.held) adds.added;
    appended =
        ap (λ places. hits_at (documents ++ last ∷ []) places) adds.appended
        ∙ (map-append (hit_at (documents ++ last ∷ [])) old adds.added
        ∙ (ap (λ hits. hits ++ hits_at (documents ++ last ∷ []) adds.added) (hits-before documents (last ∷ []) old placed)
        ∙ ap (λ hits. hits_at documents old ++ hits) (hits-last documents last adds.added adds.inside)));
    rest = adds.rest;
    selected = adds.selected;
    ended = ended_at (hits_at (documents ++ last ∷ []) new) (length-map new (hit_at (documents ++ last ∷ [])));
  }

  nothing_added : length new ≡ length old → adds.added ≡ []
  nothing_added same = nil_from_length adds.added (omega (arith, ap length adds.appended, length-append old adds.added, same))

  no_more : length new ≡ length old → new ≡ old
  no_more same = adds.appended ∙ (ap (λ places. old ++ places) (nothing_added same) ∙ append-nil old)

  pub placed_none : length new ≡ length old → All (IsPlaced documents) new
  placed_none same = subst (λ places. All (IsPlaced documents) places) (sym (no_more same)) placed

  pub adds_none : length new ≡ length old → AddsUpTo most (IsAsked test) (lines_of_taken last) (hits_at documents old) (hits_at documents new)
  adds_none same = record {
    added = [];
    appended = ap (λ places. hits_at documents places) (no_more same) ∙ sym (append-nil (hits_at documents old));
    rest = adds.rest;
    selected =
        subst (λ places. Selects (IsAsked test) (lines_of_taken last) (map (hit_in last.name last.held) places ++ adds.rest))
        (nothing_added same) adds.selected;
    ended = ended_at (hits_at documents new) (length-map new (hit_at documents));
  }
