-- How many pairs of a content and a trigram there are, counted by sets and by contents.
use Rattle.std.proofs.Common.{◌≡◌, ℕ, ◌+◌, ◌<◌, Bool, true, false, List, [], ◌∷◌, map, length, refl, sym, ap, ◌∙◌, arith}
use Rattle.std.specs.Prelude.{All, filter}
use Rattle.std.specs.List.{sum_by}
use Rattle.std.specs.List.Sorted.{IsStrictlyIncreasing}
use Rattle.std.proofs.lemmas.List.Elements.{All-head, All-tail}
use Rattle.std.proofs.lemmas.List.Sums.{sum_by-cons}
use Rattle.segments.specs.Contents.{Content, has, pairs_in}
use Rattle.segments.specs.Private.Below.{numbers_below}
use Rattle.segments.specs.Private.Table.{PlaceSet}
use Rattle.segments.specs.Private.Places.{trigrams_at, content_at, contents_at}
use Rattle.segments.proofs.BitLemmas.{among_below}

-- the trigrams of all these places
abbrev pairs_at : List PlaceSet → List ℕ → ℕ
pairs_at sets places = sum_by (λ p. length (trigrams_at sets p)) places

no_pairs : (places : List ℕ) → pairs_at [] places ≡ 0
no_pairs [] = refl
no_pairs (p ∷ places) = omega (arith, sum_by-cons (λ q. length (trigrams_at [] q)) p places, no_pairs places)

-- with one more set, each place that is in it has one more
one_set_more : (s : PlaceSet) (sets : List PlaceSet) (places : List ℕ) → pairs_at (s ∷ sets) places ≡ length (filter (has s.places) places) + pairs_at sets places
one_set_more s sets [] = refl
one_set_more s sets (p ∷ places) = cases (has s.places p) refl (one_set_more s sets places)
  where
    cases : (b : Bool) → has s.places p ≡ b → pairs_at (s ∷ sets) places ≡ length (filter (has s.places) places) + pairs_at sets places
        → pairs_at (s ∷ sets) (p ∷ places) ≡ length (filter (has s.places) (p ∷ places)) + pairs_at sets (p ∷ places)
    cases true e later =
        let here : length (trigrams_at (s ∷ sets) p) ≡ length (trigrams_at sets p) + 1 = rw e (omega arith) in
        let found : length (filter (has s.places) (p ∷ places)) ≡ length (filter (has s.places) places) + 1 = rw e (omega arith) in
        omega (arith, sum_by-cons (λ q. length (trigrams_at (s ∷ sets) q)) p places, sum_by-cons (λ q. length (trigrams_at sets q)) p places, later, here, found)
    cases false e later =
        let here : length (trigrams_at (s ∷ sets) p) ≡ length (trigrams_at sets p) = rw e refl in
        let found : length (filter (has s.places) (p ∷ places)) ≡ length (filter (has s.places) places) = rw e refl in
        omega (arith, sum_by-cons (λ q. length (trigrams_at (s ∷ sets) q)) p places, sum_by-cons (λ q. length (trigrams_at sets q)) p places, later, here, found)

by_sets : (count : ℕ) (sets : List PlaceSet) → All (λ s. IsStrictlyIncreasing s.places) sets → All (λ s. All (λ p. p < count) s.places) sets
    → sum_by (λ s. length s.places) sets ≡ pairs_at sets (numbers_below count)
by_sets count [] rising below = sym (no_pairs (numbers_below count))
by_sets count (s ∷ sets) rising below =
    let later = by_sets count sets (All-tail (λ (r : PlaceSet). IsStrictlyIncreasing r.places) s sets rising)
    (All-tail (λ (r : PlaceSet). All (λ p. p < count) r.places) s sets below) in
    let first = ap length (among_below count s.places (All-head (λ (r : PlaceSet). IsStrictlyIncreasing r.places) s sets rising)
    (All-head (λ (r : PlaceSet). All (λ p. p < count) r.places) s sets below)) in
    omega (arith, sum_by-cons (λ (r : PlaceSet). length r.places) s sets, one_set_more s sets (numbers_below count), later, first)

by_places : (numbers : List ℕ) (sets : List PlaceSet) (places : List ℕ) → pairs_in (map (content_at numbers sets) places) ≡ pairs_at sets places
by_places numbers sets [] = refl
by_places numbers sets (p ∷ places) =
    sum_by-cons (λ (c : Content). length c.trigrams) (content_at numbers sets p) (map (content_at numbers sets) places)
    ∙ ap (λ n. length (trigrams_at sets p) + n) (by_places numbers sets places)
    ∙ sym (sum_by-cons (λ q. length (trigrams_at sets q)) p places)

pub pairs_counted : (numbers : List ℕ) (sets : List PlaceSet) → All (λ s. IsStrictlyIncreasing s.places) sets
    → All (λ s. All (λ p. p < length numbers) s.places) sets → sum_by (λ s. length s.places) sets ≡ pairs_in (contents_at numbers sets)
unfolding contents_at
pairs_counted numbers sets rising below =
    by_sets (length numbers) sets rising below ∙ sym (by_places numbers sets (numbers_below (length numbers)))
