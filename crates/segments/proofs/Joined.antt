-- Sets of several segments that are joined, trigram by trigram.
use Rattle.std.proofs.Common.{◌≡◌, ℕ, ◌+◌, ◌<◌, ◌≤◌, Bool, true, false, ◌&&◌, ◌||◌, ◌==◌, List, [], ◌∷◌, ◌++◌, map, length, get_or, take, append_assoc, refl, sym, ap, ◌∙◌, arith, inl, inr}
use Rattle.std.specs.Prelude.{All, Option, Some, None}
use Rattle.std.specs.List.{filter_map}
use Rattle.std.specs.List.Sorted.{IsStrictlyIncreasing}
use Rattle.std.proofs.lemmas.Bool.{eq-eqb}
use Rattle.std.proofs.lemmas.Bool.Decides.{nat_tests}
use Rattle.std.proofs.lemmas.List.{take_more, map-append}
use Rattle.std.proofs.lemmas.List.{append-nil}
use Rattle.std.proofs.lemmas.List.Elements.{All-nil, All-cons, All-append, All-weaker, filter_map-append}
use Rattle.std.proofs.Math.Bool.{or-false, or-true, and-false}
use Rattle.segments.specs.Contents.{Content, has}
use Rattle.segments.specs.Private.Table.{PlaceSet, place_set, trigrams_of}
use Rattle.segments.specs.Private.Keys.{key, keys_of}
use Rattle.segments.specs.Private.Joins.{says, target_of, HasTrigrams, IsWithSet, IsJoined}
use Rattle.segments.proofs.KeyLemmas.{keys_of-none, keys_of-push, has-map_key}
use Rattle.segments.proofs.SetLemmas.{has-append, has-push}
use Rattle.segments.proofs.Members.{All-has}
use Rattle.segments.proofs.Rising.{rising_below, rising-push}
use Rattle.segments.proofs.TableLemmas.{All-map_trigrams}

-- The sets of these trigrams are joined.
pub record IsJoinedFor (numbers : List ℕ) (contents : List Content) (done : List ℕ) (sets : List PlaceSet) : Type 0 where
  pub trigrams : IsStrictlyIncreasing (trigrams_of sets)
  pub rising : All (λ s. IsStrictlyIncreasing s.places) sets
  pub below : All (λ s. All (λ p. p < length numbers) s.places) sets
  pub among : All (λ s. has done s.trigram ≡ true) sets
  pub same : (t q : ℕ) → q < length numbers → has (keys_of sets) (key t q) ≡ (has done t && says contents (get_or numbers q 0) t)

pub joined_none : (numbers : List ℕ) (contents : List Content) (ts : List ℕ) → IsJoinedFor numbers contents (take 0 ts) []
joined_none numbers contents ts = record {
  trigrams = λ k inside. absurd (omega (arith, inside));
  rising = All-nil (λ (s : PlaceSet). IsStrictlyIncreasing s.places);
  below = All-nil (λ (s : PlaceSet). All (λ p. p < length numbers) s.places);
  among = All-nil (λ (s : PlaceSet). has [] s.trigram ≡ true);
  same = λ t q inside. ap (λ ks. has ks (key t q)) keys_of-none;
}

-- the trigrams of the sets are below the next one
pub joined_above : (numbers : List ℕ) (contents : List Content) (ts : List ℕ) (i : ℕ) (sets : List PlaceSet) → IsStrictlyIncreasing ts → i < length ts
    → IsJoinedFor numbers contents (take i ts) sets → All (λ s. s.trigram < get_or ts i 0) sets
joined_above numbers contents ts i sets rising inside h =
    All-weaker (λ (s : PlaceSet). has (take i ts) s.trigram ≡ true) (λ s. s.trigram < get_or ts i 0)
    (λ s there. All-has (λ m. m < get_or ts i 0) (take i ts) s.trigram (rising_below ts i rising inside) there) sets h.among

grown_keys : (old new : List PlaceSet) (t : ℕ) (ps : List ℕ) → All (λ p. p < 4294967296) ps → IsWithSet old t ps new → (u q : ℕ) → q < 4294967296
    → has (keys_of new) (key u q) ≡ (has (keys_of old) (key u q) || (t == u && has ps q))
grown_keys old new t ps small (inl is) u q low =
    ap (λ ss. has (keys_of ss) (key u q)) is ∙ ap (λ ks. has ks (key u q)) (keys_of-push old (place_set t ps))
    ∙ has-append (keys_of old) (map (key t) ps) (key u q) ∙ ap (λ b. has (keys_of old) (key u q) || b) (has-map_key t ps u q small low)
grown_keys old new t ps small (inr same) u q low =
    rw (same.0, same.1)
    (sym (ap (λ b. has (keys_of old) (key u q) || b) (and-false (t == u)) ∙ or-false (has (keys_of old) (key u q))))

grown_all : (P : PlaceSet → Type 0) (old new : List PlaceSet) (t : ℕ) (ps : List ℕ) → IsWithSet old t ps new → All P old → P (place_set t ps) → All P new
grown_all P old new t ps (inl is) all one = rw is (All-append P old (place_set t ps ∷ []) all (All-cons P (place_set t ps) [] one (All-nil P)))
grown_all P old new t ps (inr same) all one = rw same.0 all

grown_trigrams : (old new : List PlaceSet) (t : ℕ) (ps : List ℕ) → IsWithSet old t ps new → IsStrictlyIncreasing (trigrams_of old)
    → All (λ s. s.trigram < t) old → IsStrictlyIncreasing (trigrams_of new)
grown_trigrams old new t ps (inl is) rising above =
    rw (is, map-append (λ (s : PlaceSet). s.trigram) old (place_set t ps ∷ []))
    (rising-push (trigrams_of old) t rising (All-map_trigrams (λ u. u < t) old above))
grown_trigrams old new t ps (inr same) rising above = rw same.0 rising

pub joined_more : (numbers : List ℕ) (contents : List Content) (ts : List ℕ) (i : ℕ) (sets new : List PlaceSet) (places : List ℕ)
    → length numbers ≤ 4294967296 → IsStrictlyIncreasing ts → i < length ts → IsJoinedFor numbers contents (take i ts) sets
    → IsStrictlyIncreasing places → All (λ p. p < length numbers) places
    → ((q : ℕ) → q < length numbers → has places q ≡ says contents (get_or numbers q 0) (get_or ts i 0)) → IsWithSet sets (get_or ts i 0) places new
    → IsJoinedFor numbers contents (take (i + 1) ts) new
joined_more numbers contents ts i sets new places few rising inside h up below said grown = record {
  trigrams = grown_trigrams sets new t places grown h.trigrams (joined_above numbers contents ts i sets rising inside h);
  rising = grown_all (λ s. IsStrictlyIncreasing s.places) sets new t places grown h.rising up;
  below = grown_all (λ s. All (λ p. p < length numbers) s.places) sets new t places grown h.below below;
  among = grown_all (λ s. has (take (i + 1) ts) s.trigram ≡ true) sets new t places grown
      (All-weaker (λ (s : PlaceSet). has (take i ts) s.trigram ≡ true) (λ s. has (take (i + 1) ts) s.trigram ≡ true)
      (λ s there. more s.trigram ∙ ap (λ b. b || t == s.trigram) there) sets h.among)
      (more t ∙ ap (λ b. has (take i ts) t || b) (eq-eqb t t refl) ∙ or-true (has (take i ts) t));
  same = λ u q low.
      grown_keys sets new t places (All-weaker (λ p. p < length numbers) (λ p. p < 4294967296) (λ p lt. omega (arith, lt, few)) places below) grown u q
      (omega (arith, low, few))
      ∙ ap (λ b. b || (t == u && has places q)) (h.same u q low)
      ∙ cases u q low (t == u) refl
      ∙ ap (λ b. b && says contents (get_or numbers q 0) u) (sym (more u));
}
  where
    t : ℕ
    t = get_or ts i 0

    more : (u : ℕ) → has (take (i + 1) ts) u ≡ (has (take i ts) u || t == u)
    more u = ap (λ us. has us u) (take_more ts i 0 inside) ∙ has-push (take i ts) t u

    both : (a s : Bool) → ((a && s) || (true && s)) ≡ ((a || true) && s)
    both true true = refl
    both true false = refl
    both false s = refl

    neither : (a s p : Bool) → ((a && s) || (false && p)) ≡ ((a || false) && s)
    neither true true p = refl
    neither true false p = refl
    neither false s p = refl

    cases : (u q : ℕ) → q < length numbers → (b : Bool) → (t == u) ≡ b
        → ((has (take i ts) u && says contents (get_or numbers q 0) u) || (t == u && has places q))
        ≡ ((has (take i ts) u || t == u) && says contents (get_or numbers q 0) u)
    cases u q low true e =
        let is : t ≡ u = grind (arith, nat_tests) in
        let here : has places q ≡ says contents (get_or numbers q 0) u = said q low ∙ ap (λ v. says contents (get_or numbers q 0) v) is in
        rw (e, here) (both (has (take i ts) u) (says contents (get_or numbers q 0) u))
    cases u q low false e = rw e (neither (has (take i ts) u) (says contents (get_or numbers q 0) u) (has places q))

pub joined_all : (numbers : List ℕ) (contents : List Content) (ts : List ℕ) (sets : List PlaceSet) → IsJoinedFor numbers contents ts sets
    → HasTrigrams contents ts → IsJoined numbers contents sets
joined_all numbers contents ts sets h all = record {
  trigrams = h.trigrams;
  rising = h.rising;
  below = h.below;
  same = λ t q low. h.same t q low ∙ cases t (get_or numbers q 0) (says contents (get_or numbers q 0) t) refl;
  order = all.rising;
}
  where
    cases : (t n : ℕ) → (b : Bool) → says contents n t ≡ b → (has ts t && says contents n t) ≡ says contents n t
    cases t n true e = rw (e, all.all n t e) refl
    cases t n false e = rw e (and-false (has ts t))

-- a loop over the places of a set
module _ (targets : List (Option ℕ)) (ps : List ℕ) (i : ℕ) (old : List ℕ) (inside : i < length ps) where
  next_place : filter_map (target_of targets) (take (i + 1) ps)
      ≡ filter_map (target_of targets) (take i ps) ++ filter_map (target_of targets) (get_or ps i 0 ∷ [])
  next_place =
      ap (filter_map (target_of targets)) (take_more ps i 0 inside)
      ∙ filter_map-append (target_of targets) (take i ps) (get_or ps i 0 ∷ [])

  pub targets-some : (r : ℕ) → get_or targets (get_or ps i 0) None ≡ Some r
      → (old ++ filter_map (target_of targets) (take i ps)) ++ r ∷ [] ≡ old ++ filter_map (target_of targets) (take (i + 1) ps)
  targets-some r is = rw next_place (rw is (append_assoc old (filter_map (target_of targets) (take i ps)) (r ∷ [])))

  pub targets-none : get_or targets (get_or ps i 0) None ≡ None
      → old ++ filter_map (target_of targets) (take i ps) ≡ old ++ filter_map (target_of targets) (take (i + 1) ps)
  targets-none is = rw next_place (rw is (ap (λ qs. old ++ qs) (sym (append-nil (filter_map (target_of targets) (take i ps))))))
