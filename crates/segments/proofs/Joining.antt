-- Contents of several segments that become those of one.
use Rattle.std.proofs.Common.{◌≡◌, ◌≢◌, ℕ, zero, suc, ◌+◌, ◌-◌, ◌<◌, ◌≤◌, Bool, true, false, ◌&&◌, ◌||◌, ◌==◌, List, [], ◌∷◌, ◌++◌, map, length, get_or, take, drop, length-append, refl, sym, ap, subst, ◌∙◌, arith, ◌⊎◌, inl, inr}
use Rattle.std.specs.Prelude.{All, filter, eqb, Option, Some, None}
use Rattle.std.specs.List.{list_any, filter_map, dedup, slice_range}
use Rattle.std.proofs.lemmas.List.Sorted.{list_any-IsPermutation}
use Rattle.std.specs.List.Sorted.{IsStrictlyIncreasing, IsPermutation}
use Rattle.std.specs.Borrow.{Bor}
use Rattle.std.proofs.lemmas.Bool.{eq-eqb, false≢true, cases_lt}
use Rattle.std.proofs.lemmas.Bool.Decides.{nat_tests}
use Rattle.std.proofs.lemmas.List.Folds.{list_any-append, list_any_at, Any-from_list_any}
use Rattle.std.proofs.lemmas.List.{length-map, get_or-map, take_more, flat_map_more, map-append, take-append-drop, take-take, drop-take, length-take-le, get_or-append_right}
use Rattle.std.proofs.lemmas.Grind.{flat_map-append}
use Rattle.std.proofs.lemmas.List.{get_or_past, get_or_append_left, get_or_push}
use Rattle.std.proofs.lemmas.List.Elements.{All-nil, All-cons, All-head, All-tail, All-append, All-weaker, All-map, All-contains, All-from_get_or, filter-append}
use Rattle.std.proofs.lemmas.List.Kept.{IsStrictlyIncreasing-filter}
use Rattle.std.proofs.Math.Bool.{or-false, or-true, and_comm}
use Rattle.segments.specs.Contents.{Content, has, numbers_of, contents_in, content_numbered, kept, AreInOrder, AllDiffer}
use Rattle.segments.specs.Private.Table.{PlaceSet, places_of, trigrams_of}
use Rattle.segments.specs.Private.Below.{numbers_below}
use Rattle.segments.specs.Private.Places.{trigrams_at, content_at, contents_at, IsSegment}
use Rattle.segments.specs.Private.Joins.{says, is_place, IsPlaceAmong, IsWithin, AreTargets, target_of, AddsPlaces, HasTrigrams, AddsTrigrams, IsJoined, AreKept}
use Rattle.segments.proofs.SetLemmas.{has-append, has-filter, contains-has}
use Rattle.segments.proofs.Members.{All-same, has_at, has_not, same_rising, All-has}
use Rattle.segments.proofs.Rising.{rising_far}
use Rattle.segments.proofs.Views.{numbers-contents_at}
use Rattle.segments.proofs.TableLemmas.{places_absent}
use Rattle.segments.proofs.Selecting.{has-at}
use Rattle.segments.proofs.Building.{same_truth, has-dedup, trigrams-filter, no_content, few_contents, are_contents}

-- ---- what a list of contents says

says-append : (xs ys : List Content) (n t : ℕ) → says (xs ++ ys) n t ≡ (says xs n t || says ys n t)
says-append xs ys n t = list_any-append (λ (c : Content). c.number == n && has c.trigrams t) xs ys

list_any-map : {X Y : Type 0} (q : Y → Bool) (f : X → Y) (xs : List X) → list_any q (map f xs) ≡ list_any (λ x. q (f x)) xs
list_any-map q f [] = refl
list_any-map q f (x ∷ xs) = ap (λ b. q (f x) || b) (list_any-map q f xs)

any_agree : (P : ℕ → Type 0) (f g : ℕ → Bool) (xs : List ℕ) → All P xs → ((x : ℕ) → P x → f x ≡ g x) → list_any f xs ≡ list_any g xs
any_agree P f g [] h same = refl
any_agree P f g (x ∷ xs) h same =
    ap (λ b. b || list_any f xs) (same x (All-head P x xs h)) ∙ ap (λ b. g x || b) (any_agree P f g xs (All-tail P x xs h) same)

both_true : (a b : Bool) → a ≡ true → b ≡ true → (a && b) ≡ true
both_true a b e f = rw (e, f) refl

left_true : (a b : Bool) → (a && b) ≡ true → a ≡ true
left_true true b h = refl
left_true false b h = h

right_true : (a b : Bool) → (a && b) ≡ true → b ≡ true
right_true true b h = h
right_true false b h = absurd (false≢true h)

-- one of a list, looked for among all
any_among : (f : ℕ → Bool) (ps all : List ℕ) → ((p : ℕ) → has ps p ≡ true → has all p ≡ true)
    → list_any (λ p. f p && has ps p) all ≡ list_any f ps
any_among f ps all within = same_truth (list_any (λ p. f p && has ps p) all) (list_any f ps) to from
  where
    to : list_any (λ p. f p && has ps p) all ≡ true → list_any f ps ≡ true
    to there =
        let found = Any-from_list_any (λ p. f p && has ps p) all there in
        let p = found.1 in
        let at = contains-has ps p (right_true (f p) (has ps p) found.4) in
        list_any_at f ps at.0 p at.1 (rw at.2 (left_true (f p) (has ps p) found.4))

    from : list_any f ps ≡ true → list_any (λ p. f p && has ps p) all ≡ true
    from there =
        let found = Any-from_list_any f ps there in
        let p = found.1 in
        let here : has ps p ≡ true = list_any_at (λ m. m == p) ps found.0 p found.2 (eq-eqb (get_or ps found.0 p) p found.3) in
        let at = contains-has all p (within p here) in
        list_any_at (λ r. f r && has ps r) all at.0 p at.1 (rw at.2 (both_true (f p) (has ps p) found.4 here))

-- ---- the places of one segment

-- the target of the place is q
abbrev hits : List (Option ℕ) → ℕ → ℕ → Bool
hits targets q p = is_place (get_or targets p None) q

has-targets : (targets : List (Option ℕ)) (q : ℕ) (ps : List ℕ) → has (filter_map (target_of targets) ps) q ≡ list_any (hits targets q) ps
has-targets targets q [] = refl
has-targets targets q (p ∷ ps) = cases (get_or targets p None) refl (has-targets targets q ps)
  where
    cases : (o : Option ℕ) → get_or targets p None ≡ o → has (filter_map (target_of targets) ps) q ≡ list_any (hits targets q) ps
        → has (filter_map (target_of targets) (p ∷ ps)) q ≡ list_any (hits targets q) (p ∷ ps)
    cases None e later = rw e later
    cases (Some r) e later = rw e (ap (λ b. r == q || b) later)

targets_below : (targets : List (Option ℕ)) (count : ℕ) (ps : List ℕ) → ((p r : ℕ) → get_or targets p None ≡ Some r → r < count)
    → All (λ p. p < count) (filter_map (target_of targets) ps)
targets_below targets count [] fits = All-nil (λ p. p < count)
targets_below targets count (p ∷ ps) fits = cases (get_or targets p None) refl (targets_below targets count ps fits)
  where
    cases : (o : Option ℕ) → get_or targets p None ≡ o → All (λ q. q < count) (filter_map (target_of targets) ps)
        → All (λ q. q < count) (filter_map (target_of targets) (p ∷ ps))
    cases None e later = rw e later
    cases (Some r) e later = rw e (All-cons (λ q. q < count) r (filter_map (target_of targets) ps) (fits p r e) later)

below_has : (n p : ℕ) → p < n → has (numbers_below n) p ≡ true
unfolding numbers_below
below_has zero p low = absurd (omega (arith, low))
below_has (suc n) p low = cases (cases_lt p n) (below_has n p)
  where
    cases : (p < n) ⊎ (n ≤ p) → (p < n → has (numbers_below n) p ≡ true) → has (numbers_below n ++ n ∷ []) p ≡ true
    cases (inl lt) earlier = has-append (numbers_below n) (n ∷ []) p ∙ ap (λ b. b || has (n ∷ []) p) (earlier lt)
    cases (inr ge) earlier =
        let e : n ≡ p = omega (arith, low, ge) in
        has-append (numbers_below n) (n ∷ []) p ∙ ap (λ b. has (numbers_below n) p || (b || false)) (eq-eqb n p e) ∙ or_true (has (numbers_below n) p)
      where
        or_true : (b : Bool) → (b || true) ≡ true
        or_true true = refl
        or_true false = refl

pub rising_contents : (from : List ℕ) (sets : List PlaceSet) → IsStrictlyIncreasing (trigrams_of sets) → All (λ c. IsStrictlyIncreasing c.trigrams) (contents_at from sets)
unfolding contents_at
rising_contents from sets rising =
    All-map (λ (c : Content). IsStrictlyIncreasing c.trigrams) (content_at from sets) (numbers_below (length from))
    (λ k d inside. trigrams-filter (λ s. has s.places (get_or (numbers_below (length from)) k d)) sets rising)

-- the places of a set are below what all are below
pub inside_sets : (count : ℕ) (sets : List PlaceSet) (t p : ℕ) → All (λ s. All (λ r. r < count) s.places) sets → has (places_of sets t) p ≡ true → p < count
inside_sets count [] t p below there = absurd (false≢true there)
inside_sets count (s ∷ sets) t p below there =
    cases (s.trigram == t) refl (inside_sets count sets t p (All-tail (λ (u : PlaceSet). All (λ r. r < count) u.places) s sets below))
  where
    cases : (b : Bool) → (s.trigram == t) ≡ b → (has (places_of sets t) p ≡ true → p < count) → p < count
    cases true e later = All-has (λ r. r < count) s.places p (All-head (λ (u : PlaceSet). All (λ r. r < count) u.places) s sets below) (rw e at there)
    cases false e later = later (rw e at there)

is_nothing : Option ℕ → Bool
is_nothing None = true
is_nothing (Some x) = false

some_differs : (r : ℕ) → Some r ≡ None → ⊥
unfolding is_nothing
some_differs r e = false≢true (ap is_nothing e)

places_inside : (from : List ℕ) (sets : List PlaceSet) → IsSegment from sets → (t p : ℕ) → has (places_of sets t) p ≡ true → p < length from
places_inside from sets seg t p there = inside_sets (length from) sets t p seg.below there

pub all_inside : (from : List ℕ) (sets : List PlaceSet) → IsSegment from sets → (t : ℕ) → All (λ p. p < length from) (places_of sets t)
all_inside from sets seg t =
    All-from_get_or (λ p. p < length from) (places_of sets t) 0
    (λ i inside. places_inside from sets seg t (get_or (places_of sets t) i 0) (has_at (places_of sets t) i (get_or (places_of sets t) i 0) inside refl))

module _ (from numbers : List ℕ) (targets : List (Option ℕ)) (sets : List PlaceSet) (seg : IsSegment from sets)
    (h : AreTargets from numbers targets) where
  fits : (p r : ℕ) → get_or targets p None ≡ Some r → r < length numbers
  fits p r is = cases (cases_lt p (length targets))
    where
      cases : (p < length targets) ⊎ (length targets ≤ p) → r < length numbers
      cases (inl inside) = let within : IsWithin (length numbers) (get_or targets p None) = h.within p None inside in rw is at within
      cases (inr past) = absurd (some_differs r (sym is ∙ get_or_past targets p None past))

  -- the targets say what the segment says
  places_say : (t q : ℕ) → q < length numbers
      → has (filter_map (target_of targets) (places_of sets t)) q ≡ says (contents_at from sets) (get_or numbers q 0) t
  unfolding contents_at
  places_say t q inside =
      let ps = places_of sets t in
      let n = get_or numbers q 0 in
      let all = numbers_below (length from) in
      let f : ℕ → Bool = λ p. get_or from p 0 == n in
      has-targets targets q ps
      ∙ any_agree (λ p. p < length from) (hits targets q) f ps (all_inside from sets seg t) (λ p low. h.places p low q inside)
      ∙ sym (any_among f ps all (λ p there. all_below p (places_inside from sets seg t p there)))
      ∙ any_agree (λ p. Unit {0}) (λ p. f p && has ps p) (λ p. f p && has (trigrams_at sets p) t) all (λ k d low. tt)
      (λ p u. ap (λ b. f p && b) (sym (has-at sets p t seg.trigrams)))
      ∙ sym (list_any-map (λ (c : Content). c.number == n && has c.trigrams t) (content_at from sets) all)
    where
      all_below : (p : ℕ) → p < length from → has (numbers_below (length from)) p ≡ true
      all_below p low = below_has (length from) p low

pub adds_segment : (from : List ℕ) (targets : List (Option ℕ)) (sets : List PlaceSet) → IsSegment from sets → (t : ℕ) (old new : List ℕ)
    → new ≡ old ++ filter_map (target_of targets) (places_of sets t) → AddsPlaces t targets (contents_at from sets) old new
adds_segment from targets sets seg t old new is = record {
  same = λ numbers h q inside.
      ap (λ ps. has ps q) is ∙ has-append old (filter_map (target_of targets) (places_of sets t)) q
      ∙ ap (λ b. has old q || b) (places_say from numbers targets sets seg (rw (numbers-contents_at from sets) at h) t q inside);
  below = λ numbers h below.
      rw is
      (All-append (λ p. p < length numbers) old (filter_map (target_of targets) (places_of sets t)) below
      (targets_below targets (length numbers) (places_of sets t)
      (fits from numbers targets sets seg (rw (numbers-contents_at from sets) at h))));
}

-- ---- the trigrams of one segment

there_is : (sets : List PlaceSet) (t p : ℕ) → IsStrictlyIncreasing (trigrams_of sets) → has (trigrams_at sets p) t ≡ true → has (trigrams_of sets) t ≡ true
there_is sets t p rising there = cases (has (trigrams_of sets) t) refl
  where
    cases : (b : Bool) → has (trigrams_of sets) t ≡ b → has (trigrams_of sets) t ≡ true
    cases true e = e
    cases false e =
        let none : has (places_of sets t) p ≡ false = ap (λ ps. has ps p) (places_absent sets t (has_not (trigrams_of sets) t e)) in
        absurd (false≢true (sym none ∙ sym (has-at sets p t rising) ∙ there))

segment_has : (from : List ℕ) (sets : List PlaceSet) → IsStrictlyIncreasing (trigrams_of sets) → (n t : ℕ) → says (contents_at from sets) n t ≡ true
    → has (trigrams_of sets) t ≡ true
unfolding contents_at
segment_has from sets rising n t said =
    let Q : Content → Type 0 = λ c. has c.trigrams t ≡ true → has (trigrams_of sets) t ≡ true in
    let all : All Q (contents_at from sets) =
    All-map Q (content_at from sets) (numbers_below (length from))
    (λ k d inside there. there_is sets t (get_or (numbers_below (length from)) k d) rising there) in
    let test : Content → Bool = λ c. c.number == n && has c.trigrams t in
    let found = Any-from_list_any test (contents_at from sets) said in
    All-contains Q (contents_at from sets) found.1 all (found.0, found.2, found.3) (right_true (found.1.number == n) (has found.1.trigrams t) found.4)

pub adds_trigrams : (from : List ℕ) (sets : List PlaceSet) → IsSegment from sets → (old new : List ℕ) → new ≡ old ++ trigrams_of sets
    → AddsTrigrams (contents_at from sets) old new
adds_trigrams from sets seg old new is = record {
  still = λ t there. ap (λ ts. has ts t) is ∙ has-append old (trigrams_of sets) t ∙ ap (λ b. b || has (trigrams_of sets) t) there;
  added = record {
    all = λ n t said.
        ap (λ ts. has ts t) is ∙ has-append old (trigrams_of sets) t ∙ ap (λ b. has old t || b) (segment_has from sets seg.trigrams n t said)
        ∙ or-true (has old t);
    rising = rising_contents from sets seg.trigrams;
  };
}

-- ---- several segments

or_assoc : (a b c : Bool) → ((a || b) || c) ≡ (a || (b || c))
or_assoc true b c = refl
or_assoc false b c = refl

targets_first : (xs ys numbers : List ℕ) (ts us : List (Option ℕ)) → length ts ≡ length xs → AreTargets (xs ++ ys) numbers (ts ++ us)
    → AreTargets xs numbers ts
targets_first xs ys numbers ts us same h = record {
  same = same;
  within = All-from_get_or (IsWithin (length numbers)) ts None
      (λ i inside. rw (get_or_append_left ts us None i inside) at (h.within i None (omega (arith, inside, length-append ts us))));
  places = λ p inside.
      rw (get_or_append_left xs ys 0 p inside, get_or_append_left ts us None p (omega (arith, inside, same))) at
      (h.places p (omega (arith, inside, length-append xs ys)));
}

targets_second : (xs ys numbers : List ℕ) (ts us : List (Option ℕ)) → length ts ≡ length xs → AreTargets (xs ++ ys) numbers (ts ++ us)
    → AreTargets ys numbers us
targets_second xs ys numbers ts us same h = record {
  same = omega (arith, same, h.same, length-append ts us, length-append xs ys);
  within = All-from_get_or (IsWithin (length numbers)) us None
      (λ i inside. rw (later_target i) at (h.within (length xs + i) None (omega (arith, inside, same, length-append ts us))));
  places = λ p inside.
      rw (later_number p, later_target p) at (h.places (length xs + p) (omega (arith, inside, length-append xs ys)));
}
  where
    later_number : (p : ℕ) → get_or (xs ++ ys) (length xs + p) 0 ≡ get_or ys p 0
    later_number p =
        get_or-append_right xs ys (length xs) (length xs + p) 0 refl (omega arith)
        ∙ ap (λ k. get_or ys k 0) (omega arith)

    later_target : (p : ℕ) → get_or (ts ++ us) (length xs + p) None ≡ get_or us p None
    later_target p =
        get_or-append_right ts us (length xs) (length xs + p) None same (omega arith)
        ∙ ap (λ k. get_or us k None) (omega arith)

adds_both : (t : ℕ) (ts us : List (Option ℕ)) (first second : List Content) (old mid new : List ℕ) → length ts ≡ length first
    → AddsPlaces t ts first old mid → AddsPlaces t us second mid new → AddsPlaces t (ts ++ us) (first ++ second) old new
adds_both t ts us first second old mid new same h g = record {
  same = λ numbers targets q inside.
      let n = get_or numbers q 0 in
      g.same numbers (of_second numbers targets) q inside ∙ ap (λ b. b || says second n t) (h.same numbers (of_first numbers targets) q inside)
      ∙ or_assoc (has old q) (says first n t) (says second n t)
      ∙ ap (λ b. has old q || b) (sym (says-append first second n t));
  below = λ numbers targets below. g.below numbers (of_second numbers targets) (h.below numbers (of_first numbers targets) below);
}
  where
    count : length ts ≡ length (numbers_of first)
    count = same ∙ sym (length-map first (λ (c : Content). c.number))

    parted : numbers_of (first ++ second) ≡ numbers_of first ++ numbers_of second
    parted = map-append (λ (c : Content). c.number) first second

    of_first : (numbers : List ℕ) → AreTargets (numbers_of (first ++ second)) numbers (ts ++ us) → AreTargets (numbers_of first) numbers ts
    of_first numbers targets = targets_first (numbers_of first) (numbers_of second) numbers ts us count (rw parted at targets)

    of_second : (numbers : List ℕ) → AreTargets (numbers_of (first ++ second)) numbers (ts ++ us) → AreTargets (numbers_of second) numbers us
    of_second numbers targets = targets_second (numbers_of first) (numbers_of second) numbers ts us count (rw parted at targets)

contents_more : (segments : List (Bor (List Content))) (i : ℕ) (s : Bor (List Content)) → i < length segments → s ≡ get_or segments i s
    → contents_in (take i segments) ++ s.now ≡ contents_in (take (i + 1) segments)
contents_more segments i s inside is =
    flat_map_more (λ (r : Bor (List Content)). r.now) [] (take i segments) s
    ∙ ap contents_in (sym (take_more segments i s inside ∙ ap (λ (r : Bor (List Content)). take i segments ++ r ∷ []) (sym is)))

-- what is found of the trigram, in order
pub found_places : (numbers : List ℕ) (t : ℕ) (targets : List (Option ℕ)) (contents : List Content) (found sorted : List ℕ)
    → AreTargets (numbers_of contents) numbers targets → AddsPlaces t targets contents [] found → ((p : ℕ) → has sorted p ≡ has found p)
    → All (λ p. p < length numbers) sorted × ((q : ℕ) → q < length numbers → has sorted q ≡ says contents (get_or numbers q 0) t)
found_places numbers t targets contents found sorted are adds same = (
  All-same (λ p. p < length numbers) sorted found same (adds.below numbers are (All-nil (λ p. p < length numbers))),
  λ q inside. same q ∙ adds.same numbers are q inside,
)

-- how many contents the first segments have
pub few_in_first : (segments : List (Bor (List Content))) (i : ℕ) → length (contents_in (take i segments)) ≤ length (contents_in segments)
few_in_first segments i =
    let parts : contents_in (take i segments) ++ contents_in (drop i segments) ≡ contents_in segments =
    sym (flat_map-append (λ (r : Bor (List Content)). r.now) (take i segments) (drop i segments)) ∙ ap contents_in (take-append-drop i segments) in
    omega (arith, ap length parts, length-append (contents_in (take i segments)) (contents_in (drop i segments)))

pub length_next : (segments : List (Bor (List Content))) (i : ℕ) (s : Bor (List Content)) → i < length segments → s ≡ get_or segments i s
    → length (contents_in (take i segments)) + length s.now ≡ length (contents_in (take (i + 1) segments))
length_next segments i s inside is = sym (length-append (contents_in (take i segments)) s.now) ∙ ap length (contents_more segments i s inside is)

pub places_none : (t : ℕ) (targets : List (Option ℕ)) → AddsPlaces t (take 0 targets) [] [] []
places_none t targets = record { same = λ numbers h q inside. refl; below = λ numbers h below. below }

targets_taken : (ks : List (Option ℕ)) (s e : ℕ) → s ≤ e → take s ks ++ slice_range ks s e ≡ take e ks
targets_taken ks s e le =
    let is : s + (e - s) ≡ e = omega arith in
    let second : drop s (take e ks) ≡ slice_range ks s e = rw is at (drop-take s (e - s) ks) in
    sym (ap (λ r. r ++ slice_range ks s e) (take-take s e ks le)) ∙ ap (λ r. take s (take e ks) ++ r) (sym second) ∙ take-append-drop s (take e ks)

pub places_next : (t : ℕ) (targets : List (Option ℕ)) (segments : List (Bor (List Content))) (i : ℕ) (s : Bor (List Content)) (start end : ℕ)
    (mid new : List ℕ) → i < length segments → s ≡ get_or segments i s → start ≡ length (contents_in (take i segments)) → end ≡ start + length s.now
    → length targets ≡ length (contents_in segments)
    → AddsPlaces t (take start targets) (contents_in (take i segments)) [] mid → AddsPlaces t (slice_range targets start end) s.now mid new
    → AddsPlaces t (take end targets) (contents_in (take (i + 1) segments)) [] new
places_next t targets segments i s start end mid new inside is begin size whole h g =
    let few = few_in_first segments i in
    let count : length (take start targets) ≡ length (contents_in (take i segments)) =
    omega (arith, length-take-le start targets (omega (arith, few, begin, whole)), begin) in
    rw (targets_taken targets start end (omega (arith, size)), contents_more segments i s inside is) at
    (adds_both t (take start targets) (slice_range targets start end) (contents_in (take i segments)) s.now [] mid new count h g)

-- the trigrams of several segments
pub trigrams_none : (trigrams : List ℕ) → HasTrigrams [] trigrams
trigrams_none trigrams = record { all = λ n t said. absurd (false≢true said); rising = All-nil (λ (c : Content). IsStrictlyIncreasing c.trigrams) }

either_true : (a b : Bool) (C : Type 0) → (a ≡ true → C) → (b ≡ true → C) → (a || b) ≡ true → C
either_true true b C first second h = first refl
either_true false b C first second h = second h

pub trigrams_next : (segments : List (Bor (List Content))) (i : ℕ) (s : Bor (List Content)) (mid new : List ℕ) → i < length segments
    → s ≡ get_or segments i s → HasTrigrams (contents_in (take i segments)) mid → AddsTrigrams s.now mid new
    → HasTrigrams (contents_in (take (i + 1) segments)) new
trigrams_next segments i s mid new inside is h g =
    let both : HasTrigrams (contents_in (take i segments) ++ s.now) new = record {
      all = λ n t said.
          either_true (says (contents_in (take i segments)) n t) (says s.now n t) (has new t ≡ true) (λ one. g.still t (h.all n t one))
          (λ other. g.added.all n t other) (sym (says-append (contents_in (take i segments)) s.now n t) ∙ said);
      rising = All-append (λ (c : Content). IsStrictlyIncreasing c.trigrams) (contents_in (take i segments)) s.now h.rising g.added.rising;
    } in
    rw (contents_more segments i s inside is) at both

pub same_trigrams : (contents : List Content) (old new : List ℕ) → ((t : ℕ) → has new t ≡ has old t) → HasTrigrams contents old → HasTrigrams contents new
same_trigrams contents old new same h = record { all = λ n t said. same t ∙ h.all n t said; rising = h.rising }

-- all numbers of the first segments
pub numbers_more : (segments : List (Bor (List Content))) (i : ℕ) (s : Bor (List Content)) (mid new : List ℕ) → i < length segments
    → s ≡ get_or segments i s → mid ≡ numbers_of (contents_in (take i segments)) → new ≡ mid ++ numbers_of s.now
    → new ≡ numbers_of (contents_in (take (i + 1) segments))
numbers_more segments i s mid new inside is h g =
    g ∙ ap (λ ns. ns ++ numbers_of s.now) h
    ∙ sym (map-append (λ (c : Content). c.number) (contents_in (take i segments)) s.now) ∙ ap numbers_of (contents_more segments i s inside is)

pub numbers_next : (keep mid new : List ℕ) (segments : List (Bor (List Content))) (i : ℕ) (s : Bor (List Content)) → i < length segments
    → s ≡ get_or segments i s → mid ≡ filter (has keep) (numbers_of (contents_in (take i segments)))
    → new ≡ mid ++ filter (has keep) (numbers_of s.now) → new ≡ filter (has keep) (numbers_of (contents_in (take (i + 1) segments)))
numbers_next keep mid new segments i s inside is h g =
    g ∙ ap (λ ns. ns ++ filter (has keep) (numbers_of s.now)) h
    ∙ sym (filter-append (has keep) (numbers_of (contents_in (take i segments))) (numbers_of s.now))
    ∙ ap (filter (has keep)) (sym (map-append (λ (c : Content). c.number) (contents_in (take i segments)) s.now) ∙ ap numbers_of (contents_more segments i s inside is))

-- ---- the contents that are kept

-- whether there is one
abbrev is_there : Option Content → Bool
is_there None = false
is_there (Some c) = true

none_differs : (c : Content) → None ≡ Some c → ⊥
none_differs c e = false≢true (ap is_there e)

abbrev content_or : Content → Option Content → Content
content_or d None = d
content_or d (Some c) = c

some_same : (d c : Content) → Some d ≡ Some c → d ≡ c
some_same d c e = ap (content_or d) e

pub find_number : (contents : List Content) (n : ℕ) (c : Content) → content_numbered contents n ≡ Some c → c.number ≡ n
find_number [] n c is = absurd (none_differs c is)
find_number (d ∷ contents) n c is = cases (d.number == n) refl (find_number contents n c)
  where
    cases : (b : Bool) → (d.number == n) ≡ b → (content_numbered contents n ≡ Some c → c.number ≡ n) → c.number ≡ n
    cases true e later =
        let found : d.number ≡ n = grind (arith, nat_tests) in
        sym (ap (λ (x : Content). x.number) (some_same d c (rw e at is))) ∙ found
    cases false e later = later (rw e at is)

pub All-find : (P : Content → Type 0) (contents : List Content) (n : ℕ) (c : Content) → All P contents → content_numbered contents n ≡ Some c → P c
All-find P [] n c h is = absurd (none_differs c is)
All-find P (d ∷ contents) n c h is = cases (d.number == n) refl (All-find P contents n c (All-tail P d contents h))
  where
    cases : (b : Bool) → (d.number == n) ≡ b → (content_numbered contents n ≡ Some c → P c) → P c
    cases true e later = subst P (some_same d c (rw e at is)) (All-head P d contents h)
    cases false e later = later (rw e at is)

has-number : (contents : List Content) (n : ℕ) → has (numbers_of contents) n ≡ is_there (content_numbered contents n)
has-number [] n = refl
has-number (d ∷ contents) n = cases (d.number == n) refl (has-number contents n)
  where
    cases : (b : Bool) → (d.number == n) ≡ b → has (numbers_of contents) n ≡ is_there (content_numbered contents n)
        → has (numbers_of (d ∷ contents)) n ≡ is_there (content_numbered (d ∷ contents) n)
    cases true e later = rw e refl
    cases false e later = rw e later

pub numbers-kept : (keep : List ℕ) (contents : List Content) → numbers_of (kept keep contents) ≡ filter (has (numbers_of contents)) keep
numbers-kept [] contents = refl
numbers-kept (n ∷ keep) contents = cases (content_numbered contents n) refl (numbers-kept keep contents)
  where
    cases : (o : Option Content) → content_numbered contents n ≡ o → numbers_of (kept keep contents) ≡ filter (has (numbers_of contents)) keep
        → numbers_of (kept (n ∷ keep) contents) ≡ filter (has (numbers_of contents)) (n ∷ keep)
    cases None e later = rw (e, has-number contents n ∙ ap is_there e) later
    cases (Some c) e later = rw (e, has-number contents n ∙ ap is_there e) (ap (λ m. m ∷ numbers_of (kept keep contents)) (find_number contents n c e) ∙ ap (λ ns. n ∷ ns) later)

pub All-kept : (P : Content → Type 0) (keep : List ℕ) (contents : List Content) → ((n : ℕ) (c : Content) → content_numbered contents n ≡ Some c → P c)
    → All P (kept keep contents)
All-kept P [] contents h = All-nil P
All-kept P (n ∷ keep) contents h = cases (content_numbered contents n) refl (All-kept P keep contents h)
  where
    cases : (o : Option Content) → content_numbered contents n ≡ o → All P (kept keep contents) → All P (kept (n ∷ keep) contents)
    cases None e later = rw e later
    cases (Some c) e later = rw e (All-cons P c (kept keep contents) (h n c e) later)

says_absent : (contents : List Content) (n t : ℕ) → All (λ m. m ≢ n) (numbers_of contents) → says contents n t ≡ false
says_absent [] n t others = refl
says_absent (d ∷ contents) n t others =
    let ne = All-head (λ m. m ≢ n) d.number (numbers_of contents) others in
    let is : (d.number == n) ≡ false = grind (arith, nat_tests) in
    rw is (says_absent contents n t (All-tail (λ m. m ≢ n) d.number (numbers_of contents) others))

pub differ-tail : (c : Content) (contents : List Content) → AllDiffer (c ∷ contents) → AllDiffer contents
differ-tail c contents h i j d before inside = h (suc i) (suc j) d (omega (arith, before)) (omega (arith, inside))

pub differ-head : (c : Content) (contents : List Content) → AllDiffer (c ∷ contents) → All (λ m. c.number ≢ m) (numbers_of contents)
differ-head c contents h k d inside = h zero (suc k) d (omega arith) (omega (arith, inside))

-- what is said of a number is said of its one content
says_found : (contents : List Content) (n t : ℕ) (c : Content) → AllDiffer contents → content_numbered contents n ≡ Some c → says contents n t ≡ has c.trigrams t
says_found [] n t c differ is = absurd (none_differs c is)
says_found (d ∷ contents) n t c differ is = cases (d.number == n) refl (says_found contents n t c (differ-tail d contents differ))
  where
    cases : (b : Bool) → (d.number == n) ≡ b → (content_numbered contents n ≡ Some c → says contents n t ≡ has c.trigrams t)
        → says (d ∷ contents) n t ≡ has c.trigrams t
    cases true e later =
        let found : d.number ≡ n = grind (arith, nat_tests) in
        let same : d ≡ c = some_same d c (rw e at is) in
        let others = All-weaker (λ m. d.number ≢ m) (λ m. m ≢ n) (λ m ne e'. ne (found ∙ sym e')) (numbers_of contents) (differ-head d contents differ) in
        rw (e, says_absent contents n t others) (or-false (has d.trigrams t) ∙ ap (λ (x : Content). has x.trigrams t) same)
    cases false e later = rw e (later (rw e at is))

module _ (keep numbers : List ℕ) (all : List Content) (differ : AllDiffer all) (rising : IsStrictlyIncreasing keep)
    (h : AreKept (numbers_of all) keep numbers) where
  abbrev merged : List Content
  merged = kept keep all

  kept-rising : IsStrictlyIncreasing (numbers_of merged)
  kept-rising = rw (numbers-kept keep all) (IsStrictlyIncreasing-filter (has (numbers_of all)) keep rising)

  pub kept_numbers_are : numbers ≡ numbers_of merged
  kept_numbers_are =
      same_rising numbers (numbers_of merged) h.rising kept-rising
      (λ n. h.same n ∙ and_comm (has (numbers_of all) n) (has keep n) ∙ sym (has-filter (has (numbers_of all)) keep n) ∙ ap (λ ns. has ns n) (sym (numbers-kept keep all)))

  pub kept_in_order : All (λ c. IsStrictlyIncreasing c.trigrams) all → AreInOrder merged
  kept_in_order trigrams = record {
    numbers = kept-rising;
    trigrams = All-kept (λ (c : Content). IsStrictlyIncreasing c.trigrams) keep all
        (λ n c is. All-find (λ (d : Content). IsStrictlyIncreasing d.trigrams) all n c trigrams is);
  }

  found_again : All (λ c. content_numbered all c.number ≡ Some c) merged
  found_again = All-kept (λ (c : Content). content_numbered all c.number ≡ Some c) keep all
      (λ n c is. ap (content_numbered all) (find_number all n c is) ∙ is)

  -- the sets of the joined table are those of the contents that are kept
  module _ (sets : List PlaceSet) (joined : IsJoined numbers all sets) where
    few : length merged ≤ 4294967296
    few = few_contents merged numbers kept_numbers_are h.small (kept_in_order joined.order)

    count : length numbers ≡ length merged
    count = ap length kept_numbers_are ∙ length-map merged (λ (c : Content). c.number)

    pub joined_segment : IsSegment numbers sets
    joined_segment = record {
      numbers = h.rising;
      small = h.small;
      trigrams = joined.trigrams;
      rising = joined.rising;
      below = joined.below;
    }

    pub joined_contents : contents_at numbers sets ≡ merged
    joined_contents =
        rw kept_numbers_are
        (are_contents merged sets (kept_in_order joined.order) few (record {
          rising = joined.trigrams;
          small = All-weaker (λ (s : PlaceSet). All (λ p. p < length numbers) s.places) (λ s. All (λ p. p < 4294967296) s.places)
              (λ s below. All-weaker (λ p. p < length numbers) (λ p. p < 4294967296) (λ p lt. omega (arith, lt, few, count)) s.places below) sets joined.below;
          same = λ t i inside.
              let c = get_or merged i no_content in
              let number : get_or numbers i 0 ≡ c.number =
              ap (λ ns. get_or ns i 0) kept_numbers_are ∙ get_or-map (λ (d : Content). d.number) merged i no_content 0 inside in
              joined.same t i (omega (arith, inside, count)) ∙ ap (λ n. says all n t) number
              ∙ says_found all c.number t c differ (found_again i no_content inside);
        }))

-- ---- places among the numbers that are kept

targets_push : (xs numbers : List ℕ) (targets : List (Option ℕ)) (x : ℕ) (o : Option ℕ) → AreTargets xs numbers targets → IsPlaceAmong numbers x o
    → IsWithin (length numbers) o → AreTargets (xs ++ x ∷ []) numbers (targets ++ o ∷ [])
targets_push xs numbers targets x o h place within = record {
  same = rw (length-append targets (o ∷ []), length-append xs (x ∷ [])) (ap (λ n. n + 1) h.same);
  within = All-append (IsWithin (length numbers)) targets (o ∷ []) h.within
      (All-cons (IsWithin (length numbers)) o [] within (All-nil (IsWithin (length numbers))));
  places = λ p inside. cases p inside (cases_lt p (length xs));
}
  where
    cases : (p : ℕ) → p < length (xs ++ x ∷ []) → (p < length xs) ⊎ (length xs ≤ p)
        → IsPlaceAmong numbers (get_or (xs ++ x ∷ []) p 0) (get_or (targets ++ o ∷ []) p None)
    cases p inside (inl lt) =
        rw (get_or_append_left xs (x ∷ []) 0 p lt, get_or_append_left targets (o ∷ []) None p (omega (arith, lt, h.same))) (h.places p lt)
    cases p inside (inr ge) =
        let is : p ≡ length xs = omega (arith, ge, inside, length-append xs (x ∷ [])) in
        let one : get_or (xs ++ x ∷ []) (length xs) 0 ≡ x = get_or_push xs x 0 (length xs) refl in
        let other : get_or (targets ++ o ∷ []) (length xs) None ≡ o = get_or_push targets o None (length xs) h.same in
        rw (is, one, other) place

pub targets_none : (numbers : List ℕ) → AreTargets [] numbers []
targets_none numbers = record {
  same = refl;
  within = All-nil (IsWithin (length numbers));
  places = λ p inside. absurd (omega (arith, inside));
}

pub targets_more : (from numbers : List ℕ) (targets : List (Option ℕ)) (i : ℕ) (o : Option ℕ) → i < length from → AreTargets (take i from) numbers targets
    → IsPlaceAmong numbers (get_or from i 0) o → IsWithin (length numbers) o → AreTargets (take (i + 1) from) numbers (targets ++ o ∷ [])
targets_more from numbers targets i o inside h place within =
    rw (take_more from i 0 inside) (targets_push (take i from) numbers targets (get_or from i 0) o h place within)

pub place_found : (xs : List ℕ) (n i : ℕ) → IsStrictlyIncreasing xs → i < length xs → get_or xs i 0 ≡ n → IsPlaceAmong xs n (Some i)
place_found xs n i rising inside is q low = cases (cases_lt i q) (cases_lt q i)
  where
    cases : (i < q) ⊎ (q ≤ i) → (q < i) ⊎ (i ≤ q) → (i == q) ≡ (n == get_or xs q 0)
    cases (inl lt) other =
        let up = rising_far xs rising i q lt low in
        let one : (i == q) ≡ false = grind (arith, nat_tests) in
        let two : (n == get_or xs q 0) ≡ false = grind (arith, nat_tests) in
        one ∙ sym two
    cases (inr ge) (inl lt) =
        let up = rising_far xs rising q i lt inside in
        let one : (i == q) ≡ false = grind (arith, nat_tests) in
        let two : (n == get_or xs q 0) ≡ false = grind (arith, nat_tests) in
        one ∙ sym two
    cases (inr ge) (inr le) =
        let e : i ≡ q = omega (arith, ge, le) in
        rw (eq-eqb i q e, eq-eqb n (get_or xs q 0) (sym is ∙ ap (λ j. get_or xs j 0) e)) refl

pub place_missing : (xs : List ℕ) (n i : ℕ)
    → (i ≤ length xs) × ((k : ℕ) → k < i → get_or xs k 0 < n) × ((k : ℕ) → i ≤ k → k < length xs → n < get_or xs k 0) → IsPlaceAmong xs n None
place_missing xs n i absent q low = cases (cases_lt q i)
  where
    cases : (q < i) ⊎ (i ≤ q) → false ≡ (n == get_or xs q 0)
    cases (inl lt) =
        let below = absent.1 q lt in
        let is : (n == get_or xs q 0) ≡ false = grind (arith, nat_tests) in
        sym is
    cases (inr ge) =
        let above = absent.2 q ge low in
        let is : (n == get_or xs q 0) ≡ false = grind (arith, nat_tests) in
        sym is

-- ---- sorted numbers, each once

pub numbers_kept : (keep all gathered sorted ready : List ℕ) → gathered ≡ filter (has keep) all → IsPermutation gathered sorted → ready ≡ dedup eqb sorted
    → IsStrictlyIncreasing ready → All (λ n. n < 4294967296) keep → AreKept all keep ready
numbers_kept keep all gathered sorted ready is moved once rising small = record {
  rising = rising;
  small = All-from_get_or (λ n. n < 4294967296) ready 0
      (λ i inside.
      let n = get_or ready i 0 in
      All-has (λ m. m < 4294967296) keep n small (right_true (has all n) (has keep n) (sym (same n) ∙ has_at ready i n inside refl)));
  same = same;
}
  where
    same : (n : ℕ) → has ready n ≡ (has all n && has keep n)
    same n =
        ap (λ ns. has ns n) once ∙ has-dedup sorted n ∙ sym (list_any-IsPermutation (λ m. m == n) gathered sorted moved)
        ∙ ap (λ ns. has ns n) is ∙ has-filter (has keep) all n
