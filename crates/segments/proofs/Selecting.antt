-- The numbers at the places that were chosen.
use Rattle.std.proofs.Common.{◌≡◌, ℕ, ◌<◌, Bool, true, false, ◌==◌, List, [], ◌∷◌, map, length, get_or, refl, sym, ap, ◌∙◌, arith}
use Rattle.std.specs.Prelude.{All, filter}
use mathlib.Core.Path.{fun_ext}
use Rattle.std.specs.List.Sorted.{IsStrictlyIncreasing}
use Rattle.std.proofs.lemmas.Bool.Decides.{nat_tests}
use Rattle.std.proofs.lemmas.Simd.{map-map}
use Rattle.std.proofs.lemmas.List.Elements.{filter_agree, All-filter}
use Rattle.query.specs.Query.{Formula, is_met}
use Rattle.segments.specs.Contents.{Content, has, numbers_of, meets, selected}
use Rattle.segments.specs.Private.Table.{PlaceSet, places_of, trigrams_of}
use Rattle.segments.specs.Private.Below.{numbers_below}
use Rattle.segments.specs.Private.Places.{trigrams_at, content_at, contents_at}
use Rattle.segments.specs.Private.Selection.{chosen, trigrams_with}
use Rattle.segments.proofs.Rising.{rising-head, rising-tail}
use Rattle.segments.proofs.Members.{lacks_below}
use Rattle.segments.proofs.Building.{All-trigrams-filter}
use Rattle.segments.proofs.Searching.{are_below}

-- the trigrams of a place, by sets and by trigrams
pub has-at : (sets : List PlaceSet) (p t : ℕ) → IsStrictlyIncreasing (trigrams_of sets) → has (trigrams_at sets p) t ≡ has (places_of sets t) p
has-at [] p t rising = refl
has-at (s ∷ sets) p t rising = cases (s.trigram == t) (has s.places p) refl refl (has-at sets p t (rising-tail s.trigram (trigrams_of sets) rising))
  where
    others : All (λ u. s.trigram < u) (trigrams_of sets)
    others = rising-head s.trigram (trigrams_of sets) rising

    cases : (b c : Bool) → (s.trigram == t) ≡ b → has s.places p ≡ c → has (trigrams_at sets p) t ≡ has (places_of sets t) p
        → has (trigrams_at (s ∷ sets) p) t ≡ has (places_of (s ∷ sets) t) p
    cases true true e f later = rw (e, f) (rw e refl)
    cases true false e f later =
        let is : s.trigram ≡ t = grind (arith, nat_tests) in
        rw (e, f) (lacks_below (trigrams_at sets p) t (rw is at (All-trigrams-filter (λ u. s.trigram < u) (λ r. has r.places p) sets others)))
    cases false true e f later = rw (e, f) (rw e later)
    cases false false e f later = rw (e, f) later

pub filter-map : {X Y : Type 0} (q : Y → Bool) (f : X → Y) (xs : List X) → filter q (map f xs) ≡ map f (filter (λ x. q (f x)) xs)
filter-map q f [] = refl
filter-map q f (x ∷ xs) = cases (q (f x)) refl (filter-map q f xs)
  where
    cases : (b : Bool) → q (f x) ≡ b → filter q (map f xs) ≡ map f (filter (λ y. q (f y)) xs) → filter q (map f (x ∷ xs)) ≡ map f (filter (λ y. q (f y)) (x ∷ xs))
    cases true e later = rw e (ap (λ ys. f x ∷ ys) later)
    cases false e later = rw e later

module _ (numbers : List ℕ) (sets : List PlaceSet) (formula : Formula) (rising : IsStrictlyIncreasing (trigrams_of sets)) where
  same_test : (p : ℕ) → is_met formula (has (trigrams_at sets p)) ≡ is_met formula (trigrams_with sets p)
  same_test p = ap (is_met formula) (fun_ext (λ t. has-at sets p t rising))

  pub numbers_selected : map (λ p. get_or numbers p 0) (chosen sets formula (numbers_below (length numbers))) ≡ selected formula (contents_at numbers sets)
  unfolding contents_at
  numbers_selected =
      let all = numbers_below (length numbers) in
      let f = content_at numbers sets in
      ap (map (λ p. get_or numbers p 0))
      (filter_agree (λ p. is_met formula (trigrams_with sets p)) (λ p. meets formula (f p)) (λ p. sym (same_test p)) all)
      ∙ sym (map-map (λ (c : Content). c.number) f (filter (λ p. meets formula (f p)) all))
      ∙ ap numbers_of (sym (filter-map (meets formula) f all))

pub chosen_below : (sets : List PlaceSet) (formula : Formula) (count : ℕ) → All (λ p. p < count) (chosen sets formula (numbers_below count))
chosen_below sets formula count = All-filter (λ p. is_met formula (trigrams_with sets p)) (λ p. p < count) (numbers_below count) (are_below count)

-- ---- from places to numbers

module _ (numbers : List ℕ) (sets : List PlaceSet) (formula : Formula) (places : List ℕ) (count : ℕ) (counted : count ≡ length numbers)
    (chosen_is : places ≡ chosen sets formula (numbers_below count)) where
  pub places_fit : All (λ p. p < length numbers) places
  places_fit = rw (chosen_is, counted) (chosen_below sets formula (length numbers))

  pub all_selected_at : (found : List ℕ) → IsStrictlyIncreasing (trigrams_of sets) → found ≡ map (λ p. get_or numbers p 0) places
      → found ≡ selected formula (contents_at numbers sets)
  all_selected_at found rising is =
      is ∙ ap (map (λ p. get_or numbers p 0)) (chosen_is ∙ ap (λ n. chosen sets formula (numbers_below n)) counted)
      ∙ numbers_selected numbers sets formula rising
