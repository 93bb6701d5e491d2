-- Sorted keys put into a table, run by run.
use Rattle.std.proofs.Common.{◌≡◌, ℕ, ◌+◌, ◌-◌, ◌<◌, ◌≤◌, List, [], ◌∷◌, ◌++◌, map, length, get_or, take, drop, refl, sym, ap, ◌∙◌, arith, append_assoc}
use Rattle.std.specs.Prelude.{All, slice_index}
use Rattle.std.specs.List.{slice_range}
use Rattle.std.specs.List.Sorted.{IsStrictlyIncreasing}
use Rattle.std.proofs.lemmas.List.{append-nil, take-append-drop, take-take, drop-take, get_or-take, get_or-drop, length-take, length-map, map-append, get_or-map}
use Rattle.std.proofs.lemmas.List.Elements.{All-nil, All-cons, All-head, All-tail, All-weaker, All-append, All-map, All-from_get_or}
use Rattle.segments.specs.Private.Table.{PlaceSet, place_set, trigrams_of}
use Rattle.segments.specs.Private.Keys.{key, trigram_in, place_in, keys_of, Precedes, Adds, IsRun}
use Rattle.segments.proofs.KeyLemmas.{key_again, keys_of-push, place_in-small}
use Rattle.segments.proofs.TableLemmas.{All-map_trigrams}
use Rattle.segments.proofs.Rising.{rising_far, rising-push}

-- the keys of one trigram, from their places
keys_again : (t : ℕ) (ks : List ℕ) → All (λ k. trigram_in k ≡ t) ks → map (key t) (map place_in ks) ≡ ks
keys_again t [] same = refl
keys_again t (k ∷ ks) same =
    let first : trigram_in k ≡ t = All-head (λ k. trigram_in k ≡ t) k ks same in
    let is : key t (place_in k) ≡ k = rw (← first) (key_again k) in
    rw is (ap (λ r. k ∷ r) (keys_again t ks (All-tail (λ k. trigram_in k ≡ t) k ks same)))

taken : (ks : List ℕ) (s e : ℕ) → s ≤ e → take s ks ++ slice_range ks s e ≡ take e ks
taken ks s e le =
    let is : s + (e - s) ≡ e = omega arith in
    let second : drop s (take e ks) ≡ slice_range ks s e = rw is at (drop-take s (e - s) ks) in
    sym (ap (λ r. r ++ slice_range ks s e) (take-take s e ks le)) ∙ ap (λ r. take s (take e ks) ++ r) (sym second) ∙ take-append-drop s (take e ks)

are_small : (ks : List ℕ) → All (λ p. p < 4294967296) (map place_in ks)
are_small [] = All-nil (λ p. p < 4294967296)
are_small (k ∷ ks) = All-cons (λ p. p < 4294967296) (place_in k) (map place_in ks) (place_in-small k) (are_small ks)

pub adds_none : (sets : List PlaceSet) (keys : List ℕ) → Precedes sets keys → Adds sets keys 0 sets
adds_none sets keys h = record {
  within = omega arith;
  is = sym (append-nil (keys_of sets));
  rising = h.rising;
  other = h.other;
  places = h.places;
  small = h.small;
}

module _ (old : List PlaceSet) (keys : List ℕ) (start end : ℕ) (sets : List PlaceSet) (rising : IsStrictlyIncreasing keys) (h : Adds old keys start sets)
    (run : IsRun keys start end) where
  abbrev trigram : ℕ
  trigram = trigram_in (slice_index keys start)

  abbrev places : List ℕ
  places = map place_in (slice_range keys start end)

  here : start < length keys
  here = omega (arith, run.nonempty, run.within)

  at_run : (i : ℕ) → i < length (slice_range keys start end) → get_or (slice_range keys start end) i 0 ≡ get_or keys (start + i) 0
  at_run i inside =
      let lt : i < end - start = omega (arith, inside, length-take (end - start) (drop start keys)) in
      rw (get_or-take (end - start) (drop start keys) i 0 lt) (get_or-drop start keys i 0)

  run_keys : All (λ k. trigram_in k ≡ trigram) (slice_range keys start end)
  run_keys = All-from_get_or (λ k. trigram_in k ≡ trigram) (slice_range keys start end) 0 at
    where
      at : (i : ℕ) → i < length (slice_range keys start end) → trigram_in (get_or (slice_range keys start end) i 0) ≡ trigram
      at i inside =
          let lt : i < end - start = omega (arith, inside, length-take (end - start) (drop start keys)) in
          rw (at_run i inside) (run.same (start + i) (omega arith) (omega arith))

  pub run-rising : IsStrictlyIncreasing places
  run-rising k inside =
      let ks = slice_range keys start end in
      let next : k + 1 < length ks = omega (arith, inside, length-map ks place_in) in
      let low : k < length ks = omega arith in
      let lt' : k + 1 < end - start = omega (arith, next, length-take (end - start) (drop start keys)) in
      let lt : get_or keys (start + k) 0 < get_or keys (start + (k + 1)) 0 = rising_far keys rising (start + k) (start + (k + 1)) (omega arith) (omega (arith, lt', run.within)) in
      let one = run.same (start + k) (omega arith) (omega arith) in
      let other = run.same (start + (k + 1)) (omega arith) (omega arith) in
      rw (get_or-map place_in ks k 0 0 low, get_or-map place_in ks (k + 1) 0 0 next, at_run k low, at_run (k + 1) next) (omega (arith, lt, one, other))

  pub run-below : (count : ℕ) → All (λ k. place_in k < count) keys → All (λ p. p < count) places
  run-below count below =
      All-map (λ p. p < count) place_in (slice_range keys start end)
      (All-from_get_or (λ k. place_in k < count) (slice_range keys start end) 0
      (λ i inside.
      let lt : i < end - start = omega (arith, inside, length-take (end - start) (drop start keys)) in
      rw (at_run i inside) (below (start + i) 0 (omega (arith, lt, run.within)))))

  pub run-above : All (λ s. s.trigram < trigram) sets
  run-above = h.other here

  above : end < length keys → trigram < trigram_in (slice_index keys end)
  above inside =
      let lt : get_or keys start 0 < get_or keys end 0 = rising_far keys rising start end run.nonempty inside in
      let ne = run.other inside in
      omega (arith, ne, lt)

  pub adds_more : Adds old keys end (sets ++ place_set trigram places ∷ [])
  adds_more =
      let le : start ≤ end = omega (arith, run.nonempty) in
      let set = place_set trigram places in
      record {
        within = run.within;
        is =
            keys_of-push sets set
            ∙ ap (λ ks. ks ++ map (key trigram) places) h.is
            ∙ ap (λ ks. (keys_of old ++ take start keys) ++ ks) (keys_again trigram (slice_range keys start end) run_keys)
            ∙ append_assoc (keys_of old) (take start keys) (slice_range keys start end)
            ∙ ap (λ ks. keys_of old ++ ks) (taken keys start end le);
        rising = rw (map-append (λ (s : PlaceSet). s.trigram) sets (set ∷ []))
            (rising-push (trigrams_of sets) trigram h.rising (All-map_trigrams (λ t. t < trigram) sets run-above));
        other = λ inside.
            All-append (λ (s : PlaceSet). s.trigram < trigram_in (slice_index keys end)) sets (set ∷ [])
            (All-weaker (λ (s : PlaceSet). s.trigram < trigram) (λ s. s.trigram < trigram_in (slice_index keys end))
            (λ s lt. omega (arith, lt, above inside)) sets run-above)
            (All-cons (λ (s : PlaceSet). s.trigram < trigram_in (slice_index keys end)) set [] (above inside)
            (All-nil (λ (s : PlaceSet). s.trigram < trigram_in (slice_index keys end))));
        places =
            All-append (λ (s : PlaceSet). IsStrictlyIncreasing s.places) sets (set ∷ []) h.places
            (All-cons (λ (s : PlaceSet). IsStrictlyIncreasing s.places) set [] run-rising (All-nil (λ (s : PlaceSet). IsStrictlyIncreasing s.places)));
        small =
            All-append (λ (s : PlaceSet). All (λ p. p < 4294967296) s.places) sets (set ∷ []) h.small
            (All-cons (λ (s : PlaceSet). All (λ p. p < 4294967296) s.places) set [] (are_small (slice_range keys start end))
            (All-nil (λ (s : PlaceSet). All (λ p. p < 4294967296) s.places)));
      }
