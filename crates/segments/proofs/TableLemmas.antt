-- Sets of places as they lie in memory.
use Rattle.std.proofs.Common.{◌≡◌, ◌≢◌, ℕ, zero, suc, ◌+◌, ◌-◌, ◌<◌, ◌≤◌, List, [], ◌∷◌, ◌++◌, length, get_or, take, drop, refl, sym, ap, ◌∙◌, arith, length-append, false, ◌==◌}
use Rattle.std.specs.Prelude.{All, min}
use Rattle.std.specs.List.{slice_range, sum_by}
use Rattle.std.proofs.lemmas.List.Sums.{sum_by_push}
use Rattle.std.specs.List.Sorted.{IsStrictlyIncreasing}
use Rattle.std.proofs.lemmas.Bool.Decides.{nat_tests}
use Rattle.std.proofs.lemmas.Bool.{eq-eqb}
use Rattle.std.proofs.lemmas.List.{take-append-le, drop-append-le, take_all, drop_all, length-drop}
use Rattle.std.proofs.lemmas.List.Elements.{All-nil, All-cons, All-head, All-tail}
use Rattle.segments.specs.Private.Table.{PlaceSet, Laid, laid, place_set, places_of, trigrams_of, places_in_all, sets_from, last_end, begin_at, AreEnds, AreSpelled, IsTable}
use Rattle.segments.specs.Private.PlaceBytes.{set_bytes, places_in, AreBelow, IsPlaceBytes}
use Rattle.segments.proofs.PlaceLemmas.{places_again, are_place_bytes}
use Rattle.segments.proofs.Rising.{rising-head, rising-tail, rising-push}
use Rattle.segments.proofs.Members.{lacks_at, has_not}

-- ---- one more set

-- what comes after the end makes no difference
slice_range-more : (ps more : List ℕ) (f e : ℕ) → f ≤ e → e ≤ length ps → slice_range (ps ++ more) f e ≡ slice_range ps f e
slice_range-more ps more f e up within =
    let low : f ≤ length ps = omega (arith, up, within) in
    let room : e - f ≤ length (drop f ps) = omega (arith, up, within, length-drop f ps) in
    ap (take (e - f)) (drop-append-le f ps more low) ∙ take-append-le (e - f) (drop f ps) more room

slice_range-new : (ps more : List ℕ) → slice_range (ps ++ more) (length ps) (length (ps ++ more)) ≡ more
slice_range-new ps more =
    let is : drop (length ps) (ps ++ more) ≡ more =
    drop-append-le (length ps) ps more (omega arith) ∙ ap (λ r. r ++ more) (drop_all (length ps) ps (omega arith)) in
    ap (take (length (ps ++ more) - length ps)) is ∙ take_all (length (ps ++ more) - length ps) more (omega (arith, length-append ps more))

low_end : (f : ℕ) (es : List ℕ) (total : ℕ) → AreEnds f es total → f ≤ total
unfolding AreEnds
low_end f [] total h = h
low_end f (e ∷ es) total h = let up = low_end e es total h.1 in omega (arith, up, h.0)

sets_from-more : (n f : ℕ) (ts es ps more : List ℕ) → AreEnds f es (length ps) → sets_from n f ts es (ps ++ more) ≡ sets_from n f ts es ps
unfolding sets_from AreEnds
sets_from-more n f [] es ps more h = refl
sets_from-more n f (t ∷ ts) [] ps more h = refl
sets_from-more n f (t ∷ ts) (e ∷ es) ps more h =
    ap (λ r. place_set t (places_in n r) ∷ sets_from n e ts es (ps ++ more)) (slice_range-more ps more f e h.0 (low_end e es (length ps) h.1))
    ∙ ap (λ r. place_set t (places_in n (slice_range ps f e)) ∷ r) (sets_from-more n e ts es ps more h.1)

sets_from-push : (n f : ℕ) (ts es : List ℕ) (t e : ℕ) (ps : List ℕ) → length ts ≡ length es
    → sets_from n f (ts ++ t ∷ []) (es ++ e ∷ []) ps ≡ sets_from n f ts es ps ++ place_set t (places_in n (slice_range ps (last_end f es) e)) ∷ []
unfolding sets_from last_end
sets_from-push n f [] [] t e ps same = refl
sets_from-push n f (u ∷ ts) (d ∷ es) t e ps same = ap (λ r. place_set u (places_in n (slice_range ps f d)) ∷ r) (sets_from-push n d ts es t e ps (omega arith))
sets_from-push n f [] (d ∷ es) t e ps same = absurd (omega arith)
sets_from-push n f (u ∷ ts) [] t e ps same = absurd (omega arith)

spelled-more : (n f : ℕ) (es ps more : List ℕ) → AreEnds f es (length ps) → AreSpelled n f es ps → AreSpelled n f es (ps ++ more)
unfolding AreSpelled AreEnds
spelled-more n f [] ps more h s = tt
spelled-more n f (e ∷ es) ps more h s =
    (rw (slice_range-more ps more f e h.0 (low_end e es (length ps) h.1)) s.0, spelled-more n e es ps more h.1 s.1)

spelled-push : (n f : ℕ) (es : List ℕ) (e : ℕ) (ps : List ℕ) → AreSpelled n f es ps → IsPlaceBytes n (slice_range ps (last_end f es) e)
    → AreSpelled n f (es ++ e ∷ []) ps
unfolding AreSpelled last_end
spelled-push n f [] e ps s h = (h, tt)
spelled-push n f (d ∷ es) e ps s h = (s.0, spelled-push n d es e ps s.1 h)

last_end-push : (f : ℕ) (es : List ℕ) (e : ℕ) → last_end f (es ++ e ∷ []) ≡ e
unfolding last_end
last_end-push f [] e = refl
last_end-push f (d ∷ es) e = last_end-push d es e

AreEnds-push : (f : ℕ) (es : List ℕ) (s e : ℕ) → AreEnds f es s → s ≤ e → AreEnds f (es ++ e ∷ []) e
unfolding AreEnds
AreEnds-push f [] s e h le = (omega arith, omega arith)
AreEnds-push f (d ∷ es) s e h le = (h.0, AreEnds-push d es s e h.1 le)

pub trigrams_from : (n f : ℕ) (ts es ps : List ℕ) → length ts ≡ length es → trigrams_of (sets_from n f ts es ps) ≡ ts
unfolding sets_from
trigrams_from n f [] es ps same = refl
trigrams_from n f (t ∷ ts) [] ps same = absurd (omega arith)
trigrams_from n f (t ∷ ts) (e ∷ es) ps same = ap (λ us. t ∷ us) (trigrams_from n e ts es ps (omega arith))

pub All-map_trigrams : (P : ℕ → Type 0) (sets : List PlaceSet) → All (λ s. P s.trigram) sets → All P (trigrams_of sets)
All-map_trigrams P [] h = All-nil P
All-map_trigrams P (s ∷ sets) h =
    All-cons P s.trigram (trigrams_of sets) (All-head (λ (u : PlaceSet). P u.trigram) s sets h)
    (All-map_trigrams P sets (All-tail (λ (u : PlaceSet). P u.trigram) s sets h))

pub no_sets : (n : ℕ) (ps : List ℕ) → sets_from n 0 [] [] ps ≡ []
unfolding sets_from
no_sets n ps = refl

pub empty_table : (n : ℕ) → n ≤ 4294967296 → IsTable n [] [] []
unfolding sets_from last_end AreEnds AreSpelled
empty_table n few = record {
  few = few;
  same = refl;
  rising = λ k inside. absurd (omega (arith, inside));
  ends = omega arith;
  whole = refl;
  spelled = tt;
}

pub none_counted : (n : ℕ) (ps : List ℕ) → 0 ≡ places_in_all (sets_from n 0 [] [] ps)
none_counted n ps = ap places_in_all (sym (no_sets n ps))

module _ (n : ℕ) (ts es ps : List ℕ) (t : ℕ) (places : List ℕ) (h : IsTable n ts es ps) (below : AreBelow n places) where
  abbrev more : List ℕ
  more = set_bytes n places

  one_more : sets_from n 0 (ts ++ t ∷ []) (es ++ length (ps ++ more) ∷ []) (ps ++ more) ≡ sets_from n 0 ts es ps ++ place_set t places ∷ []
  one_more =
      sets_from-push n 0 ts es t (length (ps ++ more)) (ps ++ more) h.same
      ∙ ap (λ f. sets_from n 0 ts es (ps ++ more) ++ place_set t (places_in n (slice_range (ps ++ more) f (length (ps ++ more)))) ∷ []) h.whole
      ∙ ap (λ r. sets_from n 0 ts es (ps ++ more) ++ place_set t (places_in n r) ∷ []) (slice_range-new ps more)
      ∙ ap (λ r. sets_from n 0 ts es (ps ++ more) ++ place_set t r ∷ []) (places_again n places below)
      ∙ ap (λ r. r ++ place_set t places ∷ []) (sets_from-more n 0 ts es ps more h.ends)

  pub with_set : (old : Laid) → laid n (sets_from n 0 ts es ps) ≡ old
      → laid n (sets_from n 0 (ts ++ t ∷ []) (es ++ length (ps ++ more) ∷ []) (ps ++ more)) ≡ laid old.count (old.sets ++ place_set t places ∷ [])
  with_set old is = ap (laid n) one_more ∙ ap (λ (o : Laid). laid o.count (o.sets ++ place_set t places ∷ [])) is

  pub still_table : (old : Laid) → laid n (sets_from n 0 ts es ps) ≡ old → All (λ s. s.trigram < t) old.sets
      → IsTable n (ts ++ t ∷ []) (es ++ length (ps ++ more) ∷ []) (ps ++ more)
  still_table old is above =
      let same_sets : sets_from n 0 ts es ps ≡ old.sets = ap (λ (o : Laid). o.sets) is in
      let under : All (λ u. u < t) ts = rw (trigrams_from n 0 ts es ps h.same) at (All-map_trigrams (λ u. u < t) (sets_from n 0 ts es ps) (rw same_sets above)) in
      let up : length ps ≤ length (ps ++ more) = omega (arith, length-append ps more) in
      let last : slice_range (ps ++ more) (last_end 0 es) (length (ps ++ more)) ≡ more =
      ap (λ f. slice_range (ps ++ more) f (length (ps ++ more))) h.whole ∙ slice_range-new ps more in
      record {
        few = h.few;
        same = rw (length-append ts (t ∷ []), length-append es (length (ps ++ more) ∷ [])) (ap (λ n. n + 1) h.same);
        rising = rising-push ts t h.rising under;
        ends = AreEnds-push 0 es (length ps) (length (ps ++ more)) h.ends up;
        whole = last_end-push 0 es (length (ps ++ more));
        spelled = spelled-push n 0 es (length (ps ++ more)) (ps ++ more) (spelled-more n 0 es ps more h.ends h.spelled) (rw last (are_place_bytes n places below));
      }

  -- the places with those of one more set
  pub still_counted : (pairs next : ℕ) → pairs ≡ places_in_all (sets_from n 0 ts es ps) → next ≡ min (pairs + length places) 18446744073709551615
      → next ≡ places_in_all (sets_from n 0 (ts ++ t ∷ []) (es ++ length (ps ++ more) ∷ []) (ps ++ more))
  still_counted pairs next counted is =
      let size : PlaceSet → ℕ = λ s. length s.places in
      let sum = ap (sum_by size) one_more ∙ sum_by_push size (sets_from n 0 ts es ps) (place_set t places) in
      omega (arith, counted, is, sum)

-- ---- the set of a trigram

pub places_absent : (sets : List PlaceSet) (u : ℕ) → All (λ t. t ≢ u) (trigrams_of sets) → places_of sets u ≡ []
places_absent [] u other = refl
places_absent (s ∷ sets) u other =
    let ne = All-head (λ t. t ≢ u) s.trigram (trigrams_of sets) other in
    let is : (s.trigram == u) ≡ false = grind (arith, nat_tests) in
    rw is (places_absent sets u (All-tail (λ t. t ≢ u) s.trigram (trigrams_of sets) other))

places_at : (n f : ℕ) (ts es ps : List ℕ) (i : ℕ) → length ts ≡ length es → i < length ts → IsStrictlyIncreasing ts
    → places_of (sets_from n f ts es ps) (get_or ts i 0) ≡ places_in n (slice_range ps (begin_at f es i) (get_or es i 0))
unfolding sets_from
places_at n f [] es ps i same inside rising = absurd (omega arith)
places_at n f (t ∷ ts) [] ps i same inside rising = absurd (omega arith)
places_at n f (t ∷ ts) (e ∷ es) ps zero same inside rising = rw (eq-eqb t t refl) refl
places_at n f (t ∷ ts) (e ∷ es) ps (suc i) same inside rising =
    let u = get_or ts i 0 in
    let lt : t < u = rising-head t ts rising i 0 (omega arith) in
    let is : (t == u) ≡ false = grind (arith, nat_tests) in
    rw is (places_at n e ts es ps i (omega arith) (omega arith) (rising-tail t ts rising) ∙ begins i)
  where
    begins : (i : ℕ) → places_in n (slice_range ps (begin_at e es i) (get_or es i 0)) ≡ places_in n (slice_range ps (get_or (e ∷ es) i 0) (get_or es i 0))
    begins zero = refl
    begins (suc i) = refl

-- each part lies within the places
pub ends_at : (f : ℕ) (es : List ℕ) (total i : ℕ) → AreEnds f es total → i < length es
    → (begin_at f es i ≤ get_or es i 0) × (get_or es i 0 ≤ total)
unfolding AreEnds
ends_at f [] total i h inside = absurd (omega arith)
ends_at f (e ∷ es) total zero h inside = (h.0, low_end e es total h.1)
ends_at f (e ∷ es) total (suc i) h inside = begins i (ends_at e es total i h.1 (omega arith))
  where
    begins : (i : ℕ) → (begin_at e es i ≤ get_or es i 0) × (get_or es i 0 ≤ total)
        → (get_or (e ∷ es) i 0 ≤ get_or es i 0) × (get_or es i 0 ≤ total)
    begins zero h = h
    begins (suc i) h = h

-- the bytes of each set
pub spelled_at : (n f : ℕ) (es ps : List ℕ) (i : ℕ) → AreSpelled n f es ps → i < length es → IsPlaceBytes n (slice_range ps (begin_at f es i) (get_or es i 0))
unfolding AreSpelled
spelled_at n f [] ps i h inside = absurd (omega arith)
spelled_at n f (e ∷ es) ps zero h inside = h.0
spelled_at n f (e ∷ es) ps (suc i) h inside = begins i (spelled_at n e es ps i h.1 (omega arith))
  where
    begins : (i : ℕ) → IsPlaceBytes n (slice_range ps (begin_at e es i) (get_or es i 0)) → IsPlaceBytes n (slice_range ps (get_or (e ∷ es) i 0) (get_or es i 0))
    begins zero h = h
    begins (suc i) h = h

module _ (n : ℕ) (ts es ps : List ℕ) (u i : ℕ) (h : IsTable n ts es ps) where
  pub found : i < length ts → get_or ts i 0 ≡ u → places_in n (slice_range ps (begin_at 0 es i) (get_or es i 0)) ≡ places_of (sets_from n 0 ts es ps) u
  found inside is = rw is at (sym (places_at n 0 ts es ps i h.same inside h.rising))

  pub missing : (i ≤ length ts) × ((k : ℕ) → k < i → get_or ts k 0 < u) × ((k : ℕ) → i ≤ k → k < length ts → u < get_or ts k 0)
      → [] ≡ places_of (sets_from n 0 ts es ps) u
  missing absent =
      let lacks = lacks_at ts i u h.rising (λ k before _. absent.1 k before) (λ inside. absent.2 i (omega arith) inside) in
      sym (places_absent (sets_from n 0 ts es ps) u (rw (trigrams_from n 0 ts es ps h.same) (has_not ts u lacks)))
