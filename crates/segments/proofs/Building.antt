-- The contents of which a segment is made.
use Rattle.std.proofs.Common.{◌≡◌, ℕ, zero, suc, ◌+◌, ◌<◌, ◌≤◌, Bool, true, false, ◌&&◌, ◌||◌, ◌==◌, List, [], ◌∷◌, ◌++◌, map, length, get_or, take, refl, sym, ap, ◌∙◌, arith}
use Rattle.std.specs.Prelude.{All, Contains, eqb, filter, slice_index}
use Rattle.std.specs.List.{dedup}
use Rattle.std.specs.List.Sorted.{IsStrictlyIncreasing}
use Rattle.std.proofs.lemmas.Bool.{eq-eqb}
use Rattle.std.proofs.lemmas.List.Folds.{list_any_at}
use Rattle.std.proofs.lemmas.List.{length-map, map-append, take_more, take_all, get_or-map}
use Rattle.std.proofs.lemmas.List.Elements.{All-nil, All-cons, All-head, All-tail}
use Rattle.std.proofs.lemmas.List.Kept.{Contains-dedup_nat, Contains-from_dedup}
use Rattle.std.proofs.lemmas.List.Filters.{All-dedup}
use Rattle.segments.specs.Contents.{Content, has, numbers_of, AreInOrder}
use Rattle.segments.specs.Private.Table.{PlaceSet, trigrams_of}
use Rattle.segments.specs.Private.Keys.{key, trigram_in, place_in, keys_of, Precedes, Adds, HasKeys}
use Rattle.segments.specs.Private.Below.{numbers_below}
use Rattle.segments.specs.Private.Places.{trigrams_at, content_at, contents_at, IsSegment}
use Rattle.segments.proofs.KeyLemmas.{keys_of-none, same_key, place_in-key, has-trigrams_at}
use Rattle.segments.proofs.SetLemmas.{contains-has}
use Rattle.segments.proofs.Members.{All-same, same_rising}
use Rattle.segments.proofs.Rising.{rising-head, rising-tail, rising-cons, All-left, All-right}

abbrev pub no_content : Content
no_content = record { number = 0; trigrams = [] }

-- ---- each key once

has-contains : (xs : List ℕ) (n : ℕ) → Contains xs n → has xs n ≡ true
has-contains xs n there = list_any_at (λ m. m == n) xs there.0 n there.1 (eq-eqb (get_or xs there.0 n) n there.2)

pub same_truth : (a b : Bool) → (a ≡ true → b ≡ true) → (b ≡ true → a ≡ true) → a ≡ b
same_truth true b to from = sym (to refl)
same_truth false true to from = from refl
same_truth false false to from = refl

pub has-dedup : (xs : List ℕ) (n : ℕ) → has (dedup eqb xs) n ≡ has xs n
has-dedup xs n =
    same_truth (has (dedup eqb xs) n) (has xs n)
    (λ there. has-contains xs n (Contains-from_dedup eqb xs n (contains-has (dedup eqb xs) n there)))
    (λ there. has-contains (dedup eqb xs) n (Contains-dedup_nat xs n (contains-has xs n there)))

-- ---- the keys of one place

pub has-keys : (place : ℕ) (ts : List ℕ) (t p : ℕ) → place < 4294967296 → p < 4294967296
    → has (map (λ u. key u place) ts) (key t p) ≡ (has ts t && place == p)
has-keys place [] t p small small' = refl
has-keys place (u ∷ ts) t p small small' =
    ap (λ b. b || has (map (λ v. key v place) ts) (key t p)) (same_key u t place p small small')
    ∙ ap (λ b. (u == t && place == p) || b) (has-keys place ts t p small small')
    ∙ sym (either (u == t) (has ts t) (place == p))
  where
    either : (a b c : Bool) → ((a || b) && c) ≡ ((a && c) || (b && c))
    either true b true = refl
    either true true false = refl
    either true false false = refl
    either false b c = refl

-- ---- the contents are those of the sets

pub All-trigrams-filter : (P : ℕ → Type 0) (q : PlaceSet → Bool) (sets : List PlaceSet) → All P (trigrams_of sets) → All P (trigrams_of (filter q sets))
All-trigrams-filter P q [] h = h
All-trigrams-filter P q (s ∷ sets) h = cases (q s) refl (All-trigrams-filter P q sets (All-tail P s.trigram (trigrams_of sets) h))
  where
    cases : (b : Bool) → q s ≡ b → All P (trigrams_of (filter q sets)) → All P (trigrams_of (filter q (s ∷ sets)))
    cases true e later = rw e (All-cons P s.trigram (trigrams_of (filter q sets)) (All-head P s.trigram (trigrams_of sets) h) later)
    cases false e later = rw e later

pub trigrams-filter : (q : PlaceSet → Bool) (sets : List PlaceSet) → IsStrictlyIncreasing (trigrams_of sets) → IsStrictlyIncreasing (trigrams_of (filter q sets))
trigrams-filter q [] h = h
trigrams-filter q (s ∷ sets) h = cases (q s) refl (trigrams-filter q sets (rising-tail s.trigram (trigrams_of sets) h))
  where
    cases : (b : Bool) → q s ≡ b → IsStrictlyIncreasing (trigrams_of (filter q sets)) → IsStrictlyIncreasing (trigrams_of (filter q (s ∷ sets)))
    cases true e later =
        rw e
        (rising-cons s.trigram (trigrams_of (filter q sets))
        (All-trigrams-filter (λ t. s.trigram < t) q sets (rising-head s.trigram (trigrams_of sets) h)) later)
    cases false e later = rw e later

-- a number that rises from 0 is at least its place
pub rising-place : (xs : List ℕ) (i : ℕ) → IsStrictlyIncreasing xs → i < length xs → i ≤ get_or xs i 0
rising-place xs zero rising inside = omega arith
rising-place xs (suc i) rising inside =
    let before = rising-place xs i rising (omega arith) in
    let e : i + 1 ≡ suc i = omega arith in
    let next : get_or xs i 0 < get_or xs (suc i) 0 = rw e at (rising i (omega arith)) in
    omega (arith, before, next)

-- so there are at most 2^32 numbers
pub few_numbers : (xs : List ℕ) → IsStrictlyIncreasing xs → All (λ n. n < 4294967296) xs → length xs ≤ 4294967296
few_numbers [] rising small = omega arith
few_numbers (x ∷ xs) rising small =
    let place = rising-place (x ∷ xs) (length xs) rising (omega arith) in
    let bound : get_or (x ∷ xs) (length xs) 0 < 4294967296 = small (length xs) 0 (omega arith) in
    omega (arith, place, bound)

-- The sets are those of the contents.
pub record AreSetsOf (contents : List Content) (sets : List PlaceSet) : Type 0 where
  pub rising : IsStrictlyIncreasing (trigrams_of sets)
  pub small : All (λ s. All (λ p. p < 4294967296) s.places) sets
  pub same : (t i : ℕ) → i < length contents → has (keys_of sets) (key t i) ≡ has (get_or contents i no_content).trigrams t

module _ (contents : List Content) (sets : List PlaceSet) (order : AreInOrder contents) (few : length contents ≤ 4294967296) (h : AreSetsOf contents sets) where
  is_content : (i : ℕ) → i < length contents → content_at (numbers_of contents) sets i ≡ get_or contents i no_content
  is_content i inside =
      let c = get_or contents i no_content in
      let number : get_or (numbers_of contents) i 0 ≡ c.number = get_or-map (λ (d : Content). d.number) contents i no_content 0 inside in
      let trigrams : trigrams_at sets i ≡ c.trigrams =
      same_rising (trigrams_at sets i) c.trigrams (trigrams-filter (λ s. has s.places i) sets h.rising) (order.trigrams i no_content inside)
      (λ t. has-trigrams_at sets t i h.small (omega (arith, inside, few)) ∙ h.same t i inside) in
      ap (λ n. content n (trigrams_at sets i)) number ∙ ap (λ ts. content c.number ts) trigrams
    where
      content : ℕ → List ℕ → Content
      content n ts = record { number = n; trigrams = ts }

  at_places : (i : ℕ) → i ≤ length contents → map (content_at (numbers_of contents) sets) (numbers_below i) ≡ take i contents
  unfolding numbers_below
  at_places zero le = refl
  at_places (suc i) le =
      let f = content_at (numbers_of contents) sets in
      let inside : i < length contents = omega (arith, le) in
      let e : i + 1 ≡ suc i = omega arith in
      map-append f (numbers_below i) (i ∷ [])
      ∙ ap (λ r. r ++ f i ∷ []) (at_places i (omega (arith, le)))
      ∙ ap (λ c. take i contents ++ c ∷ []) (is_content i inside)
      ∙ sym (rw e at (take_more contents i no_content inside))

  pub are_contents : contents_at (numbers_of contents) sets ≡ contents
  unfolding contents_at
  are_contents =
      ap (λ n. map (content_at (numbers_of contents) sets) (numbers_below n)) (length-map contents (λ (d : Content). d.number))
      ∙ at_places (length contents) (omega arith) ∙ take_all (length contents) contents (omega arith)

-- the places of sets are those in their keys
pub places_below_count : (count : ℕ) (sets : List PlaceSet) → All (λ s. All (λ p. p < 4294967296) s.places) sets
    → All (λ k. place_in k < count) (keys_of sets) → All (λ s. All (λ p. p < count) s.places) sets
unfolding keys_of
places_below_count count [] small below = All-nil (λ (s : PlaceSet). All (λ p. p < count) s.places)
places_below_count count (s ∷ sets) small below =
    All-cons (λ (r : PlaceSet). All (λ p. p < count) r.places) s sets
    (of_one s.places (All-head (λ (r : PlaceSet). All (λ p. p < 4294967296) r.places) s sets small)
    (All-left (λ k. place_in k < count) (map (key s.trigram) s.places) (keys_of sets) below))
    (places_below_count count sets (All-tail (λ (r : PlaceSet). All (λ p. p < 4294967296) r.places) s sets small)
    (All-right (λ k. place_in k < count) (map (key s.trigram) s.places) (keys_of sets) below))
  where
    of_one : (ps : List ℕ) → All (λ p. p < 4294967296) ps → All (λ k. place_in k < count) (map (key s.trigram) ps) → All (λ p. p < count) ps
    of_one [] small below = All-nil (λ p. p < count)
    of_one (p ∷ ps) small below =
        let first = All-head (λ k. place_in k < count) (key s.trigram p) (map (key s.trigram) ps) below in
        All-cons (λ q. q < count) p ps (rw (place_in-key s.trigram p (All-head (λ q. q < 4294967296) p ps small)) at first)
        (of_one ps (All-tail (λ q. q < 4294967296) p ps small) (All-tail (λ k. place_in k < count) (key s.trigram p) (map (key s.trigram) ps) below))

pub few_contents : (contents : List Content) (numbers : List ℕ) → numbers ≡ numbers_of contents → All (λ n. n < 4294967296) numbers → AreInOrder contents
    → length contents ≤ 4294967296
few_contents contents numbers is small order =
    let few = few_numbers numbers (rw is order.numbers) small in
    omega (arith, few, ap length is, length-map contents (λ (c : Content). c.number))

-- ---- sorted keys in a table

pub precedes_none : (keys : List ℕ) → Precedes [] keys
precedes_none keys = record {
  rising = λ k inside. absurd (omega (arith, inside));
  places = All-nil (λ (s : PlaceSet). IsStrictlyIncreasing s.places);
  small = All-nil (λ (s : PlaceSet). All (λ p. p < 4294967296) s.places);
  other = λ inside. All-nil (λ (s : PlaceSet). s.trigram < trigram_in (slice_index keys 0));
}

pub has_keys : (keys ready : List ℕ) (sets : List PlaceSet) → ready ≡ dedup eqb keys → Adds [] ready (length ready) sets → HasKeys keys sets
has_keys keys ready sets once laid =
    let is : keys_of sets ≡ dedup eqb keys =
    laid.is ∙ ap (λ ks. ks ++ take (length ready) ready) keys_of-none ∙ take_all (length ready) ready (omega arith) ∙ once in
    record {
      rising = laid.rising;
      places = laid.places;
      small = laid.small;
      same = λ k. ap (λ ks. has ks k) is ∙ has-dedup keys k;
      below = λ n below. rw is (All-dedup eqb (λ k. place_in k < n) keys below);
    }

-- sets have the keys of any list with the same keys
pub has_same_keys : (keys ordered : List ℕ) (sets : List PlaceSet) → ((k : ℕ) → has ordered k ≡ has keys k) → HasKeys ordered sets → HasKeys keys sets
has_same_keys keys ordered sets same h = record {
  rising = h.rising;
  places = h.places;
  small = h.small;
  same = λ k. h.same k ∙ same k;
  below = λ n below. h.below n (All-same (λ k. place_in k < n) ordered keys same below);
}

-- The keys are those of the contents.
pub record AreKeysOf (contents : List Content) (keys : List ℕ) : Type 0 where
  pub below : All (λ k. place_in k < length contents) keys
  pub same : (t i : ℕ) → i < length contents → has keys (key t i) ≡ has (get_or contents i no_content).trigrams t

module _ (contents : List Content) (numbers keys : List ℕ) (sets : List PlaceSet) (is : numbers ≡ numbers_of contents)
    (small : All (λ n. n < 4294967296) numbers) (order : AreInOrder contents) (of : AreKeysOf contents keys) (laid : HasKeys keys sets) where
  pub built_segment : IsSegment numbers sets
  built_segment =
      let count : length contents ≡ length numbers = sym (ap length is ∙ length-map contents (λ (c : Content). c.number)) in
      record {
        numbers = rw is order.numbers;
        small = small;
        trigrams = laid.rising;
        rising = laid.places;
        below = rw count at (places_below_count (length contents) sets laid.small (laid.below (length contents) of.below));
      }

  pub built_contents : contents_at numbers sets ≡ contents
  built_contents =
      let few = few_contents contents numbers is small order in
      let sets_of : AreSetsOf contents sets = record {
        rising = laid.rising;
        small = laid.small;
        same = λ t i inside. laid.same (key t i) ∙ of.same t i inside;
      } in
      rw is (are_contents contents sets order few sets_of)
