-- Contents as their numbers and the keys of their trigrams.
use Rattle.std.proofs.Common.{◌≡◌, ◌≢◌, ℕ, zero, suc, ◌+◌, ◌<◌, ◌≤◌, Bool, true, false, ◌&&◌, ◌||◌, ◌==◌, ◌⊎◌, inl, inr, List, [], ◌∷◌, ◌++◌}
use Rattle.std.proofs.Common.{map, length, get_or, refl, sym, ap, ◌∙◌, arith, length-append}
use Rattle.std.specs.Prelude.{All, filter}
use Rattle.std.specs.List.Sorted.{IsStrictlyIncreasing}
use Rattle.std.proofs.Math.Path.{fun_ext}
use Rattle.std.proofs.Math.Bool.{or-false, and-false, and-true}
use Rattle.std.proofs.lemmas.Bool.{cases_lt, and_parts}
use Rattle.std.proofs.lemmas.Bool.Decides.{nat_tests}
use Rattle.std.proofs.lemmas.List.{map-append, get_or_append_left, get_or_push, get_or-map, length-map, ext_get_or}
use Rattle.std.proofs.lemmas.List.Elements.{All-nil, All-cons, All-append, All-map, All-weaker, All-filter}
use Rattle.std.proofs.lemmas.List.Kept.{IsStrictlyIncreasing-filter}
use Rattle.query.specs.Trigrams.{trigrams_of_body, trigrams_of_text}
use Rattle.query.specs.Private.Feeds.{has_no_line_feed}
use Rattle.query.proofs.BodyLemmas.{body_filters, trigrams_are_small}
use Rattle.segments.specs.Contents.{Content, has, numbers_of, AreInOrder}
use Rattle.segments.specs.Bodies.{trigrams_in, known_content, body_content}
use Rattle.segments.specs.Private.Below.{numbers_below}
use Rattle.segments.specs.Private.Keys.{key, trigram_in, place_in}
use Rattle.segments.specs.Private.Keyed.{trigrams_keyed, content_keyed, contents_keyed, AreKeyed, keys_at, AddsBody}
use Rattle.segments.proofs.KeyLemmas.{trigram_in-key, place_in-key}
use Rattle.segments.proofs.SetLemmas.{has-append, has-filter}
use Rattle.segments.proofs.Members.{All-same, lacks_from_all, lacks_above, same_rising}
use Rattle.segments.proofs.OrderLemmas.{places_rise}
use Rattle.segments.proofs.Rising.{rising-push}
use Rattle.segments.proofs.Searching.{numbers_below-none, numbers_below-more, are_below, numbers_below-rising}
use Rattle.segments.proofs.BitLemmas.{has_below, below_at}
use Rattle.segments.proofs.Views.{length-numbers_below}
use Rattle.segments.proofs.Building.{AreKeysOf, no_content, has-keys, rising-place, few_numbers}

-- numbers below one that pass a test
filtered_below : (p : ℕ → Bool) (n t : ℕ) → (n ≤ t → p t ≡ false) → has (filter p (numbers_below n)) t ≡ p t
filtered_below p n t past = has-filter p (numbers_below n) t ∙ cases (cases_lt t n)
  where
    cases : (t < n) ⊎ (n ≤ t) → (has (numbers_below n) t && p t) ≡ p t
    cases (inl lt) = ap (λ b. b && p t) (has_below n t lt)
    cases (inr ge) = ap (λ b. has (numbers_below n) t && b) (past ge) ∙ and-false (has (numbers_below n) t) ∙ sym (past ge)

filtered-rising : (p : ℕ → Bool) (n : ℕ) → IsStrictlyIncreasing (filter p (numbers_below n))
filtered-rising p n = IsStrictlyIncreasing-filter p (numbers_below n) (numbers_below-rising n)

-- ---- the trigrams of a body

not_true : (b : Bool) → (b ≡ true → ⊥) → b ≡ false
not_true true h = absurd (h refl)
not_true false h = refl

no_greater : (body : List ℕ) (t : ℕ) → All (λ b. b < 256) body → 16777216 ≤ t → trigrams_of_body body t ≡ false
no_greater body t small ge =
    not_true (trigrams_of_body body t)
    (λ there.
    let parts = and_parts (has_no_line_feed t) (trigrams_of_text body t) (sym (body_filters body t small) ∙ there) in
    let lt = trigrams_are_small body t small parts.1 in
    omega (arith, lt, ge))

-- Whether a trigram is among those of a body is what the body's set says.
pub has-trigrams_in : (body : List ℕ) (t : ℕ) → All (λ b. b < 256) body → has (trigrams_in body) t ≡ trigrams_of_body body t
unfolding trigrams_in
has-trigrams_in body t small = filtered_below (trigrams_of_body body) 16777216 t (no_greater body t small)

pub trigrams_in-rising : (body : List ℕ) → IsStrictlyIncreasing (trigrams_in body)
unfolding trigrams_in
trigrams_in-rising body = filtered-rising (trigrams_of_body body) 16777216

pub trigrams_in-small : (body : List ℕ) → All (λ t. t < 16777216) (trigrams_in body)
unfolding trigrams_in
trigrams_in-small body = All-filter (trigrams_of_body body) (λ t. t < 16777216) (numbers_below 16777216) (are_below 16777216)

-- ---- one more content

-- There is a place for a number above all others.
pub place_fits : (ns : List ℕ) (n : ℕ) → IsStrictlyIncreasing ns → All (λ m. m < n) ns → length ns ≤ n
place_fits [] n rising below = omega arith
place_fits (m ∷ ns) n rising below =
    let place = rising-place (m ∷ ns) (length ns) rising (omega arith) in
    let bound : get_or (m ∷ ns) (length ns) 0 < n = below (length ns) 0 (omega arith) in
    omega (arith, place, bound)

old_place : (keys added : List ℕ) (place p : ℕ) → p < place → place < 4294967296 → (t : ℕ) → has (keys ++ keys_at place added) (key t p) ≡ has keys (key t p)
old_place keys added place p lt small t =
    let ne : (place == p) ≡ false = grind (arith, nat_tests) in
    has-append keys (keys_at place added) (key t p)
    ∙ ap (λ b. has keys (key t p) || b) (has-keys place added t p small (omega arith) ∙ ap (λ b. has added t && b) ne ∙ and-false (has added t))
    ∙ or-false (has keys (key t p))

new_place : (keys added : List ℕ) (place : ℕ) → All (λ k. place_in k < place) keys → place < 4294967296 → (t : ℕ)
    → has (keys ++ keys_at place added) (key t place) ≡ has added t
new_place keys added place below small t =
    let same : (place == place) ≡ true = grind (arith, nat_tests) in
    let none : has keys (key t place) ≡ false = lacks_from_all keys (key t place) (All-weaker (λ k. place_in k < place) (λ k. k ≢ key t place) other keys below) in
    has-append keys (keys_at place added) (key t place)
    ∙ ap (λ b. b || has (keys_at place added) (key t place)) none
    ∙ has-keys place added t place small small
    ∙ ap (λ b. has added t && b) same ∙ and-true (has added t)
  where
    other : (k : ℕ) → place_in k < place → k ≢ key t place
    other k lt e = let here : place_in k ≡ place = ap place_in e ∙ place_in-key t place small in omega (arith, lt, here)

-- The keys of the trigrams `ts` with the next place were added, in some order.
module _ (ns keys added ts : List ℕ) (n : ℕ) (are : AreKeyed ns keys) (fits : length ns < 4294967296) (rising : IsStrictlyIncreasing ts)
    (small : All (λ t. t < 16777216) ts) (same : (t : ℕ) → has added t ≡ has ts t) where
  first_content : (p : ℕ) → p < length ns → content_keyed (ns ++ n ∷ []) (keys ++ keys_at (length ns) added) p ≡ content_keyed ns keys p
  first_content p lt =
      let number : get_or (ns ++ n ∷ []) p 0 ≡ get_or ns p 0 = get_or_append_left ns (n ∷ []) 0 p lt in
      let trigrams : trigrams_keyed (keys ++ keys_at (length ns) added) p ≡ trigrams_keyed keys p =
      ap (λ q. filter q (numbers_below 16777216)) (fun_ext (old_place keys added (length ns) p lt fits)) in
      ap (λ m. known_content m (trigrams_keyed (keys ++ keys_at (length ns) added) p)) number ∙ ap (known_content (get_or ns p 0)) trigrams

  first_contents : (i : ℕ) → i ≤ length ns
      → map (content_keyed (ns ++ n ∷ []) (keys ++ keys_at (length ns) added)) (numbers_below i) ≡ map (content_keyed ns keys) (numbers_below i)
  unfolding numbers_below
  first_contents zero le = refl
  first_contents (suc i) le =
      let f = content_keyed (ns ++ n ∷ []) (keys ++ keys_at (length ns) added) in
      let g = content_keyed ns keys in
      map-append f (numbers_below i) (i ∷ [])
      ∙ ap (λ r. r ++ f i ∷ []) (first_contents i (omega (arith, le)))
      ∙ ap (λ c. map g (numbers_below i) ++ c ∷ []) (first_content i (omega (arith, le)))
      ∙ sym (map-append g (numbers_below i) (i ∷ []))

  last_content : content_keyed (ns ++ n ∷ []) (keys ++ keys_at (length ns) added) (length ns) ≡ known_content n ts
  last_content =
      let all = keys ++ keys_at (length ns) added in
      let place = length ns in
      let number : get_or (ns ++ n ∷ []) place 0 ≡ n = get_or_push ns n 0 place refl in
      let has_it : (t : ℕ) → has all (key t place) ≡ has ts t = λ t. new_place keys added place are.places fits t ∙ same t in
      let trigrams : trigrams_keyed all place ≡ ts =
      same_rising (trigrams_keyed all place) ts (filtered-rising (λ t. has all (key t place)) 16777216) rising
      (λ t. filtered_below (λ u. has all (key u place)) 16777216 t (λ ge. has_it t ∙ past t ge) ∙ has_it t) in
      ap (λ m. known_content m (trigrams_keyed all place)) number ∙ ap (known_content n) trigrams
    where
      past : (t : ℕ) → 16777216 ≤ t → has ts t ≡ false
      past t ge = lacks_above ts t (All-weaker (λ u. u < 16777216) (λ u. u < t) (λ u lt. omega (arith, lt, ge)) ts small)

  pub more_contents : contents_keyed (ns ++ n ∷ []) (keys ++ keys_at (length ns) added) ≡ contents_keyed ns keys ++ known_content n ts ∷ []
  unfolding contents_keyed
  more_contents =
      let f = content_keyed (ns ++ n ∷ []) (keys ++ keys_at (length ns) added) in
      let count : length (ns ++ n ∷ []) ≡ length ns + 1 = length-append ns (n ∷ []) in
      ap (λ c. map f (numbers_below c)) count
      ∙ ap (map f) (numbers_below-more (length ns))
      ∙ map-append f (numbers_below (length ns)) (length ns ∷ [])
      ∙ ap (λ cs. cs ++ f (length ns) ∷ []) (first_contents (length ns) (omega arith))
      ∙ ap (λ c. map (content_keyed ns keys) (numbers_below (length ns)) ++ c ∷ []) last_content

  pub still_keyed : All (λ m. m < n) ns → n < 4294967296 → All (λ t. t < 16777216) added → AreKeyed (ns ++ n ∷ []) (keys ++ keys_at (length ns) added)
  still_keyed above low few =
      let count : length (ns ++ n ∷ []) ≡ length ns + 1 = length-append ns (n ∷ []) in
      record {
        rising = rising-push ns n are.rising above;
        small = All-append (λ m. m < 4294967296) ns (n ∷ []) are.small (All-cons (λ m. m < 4294967296) n [] low (All-nil (λ m. m < 4294967296)));
        places =
            rw count
            (All-append (λ k. place_in k < length ns + 1) keys (keys_at (length ns) added)
            (All-weaker (λ k. place_in k < length ns) (λ k. place_in k < length ns + 1) (λ k lt. omega (arith, lt)) keys are.places)
            (All-map (λ k. place_in k < length ns + 1) (λ t. key t (length ns)) added
            (All-weaker (λ t. t < 16777216) (λ t. place_in (key t (length ns)) < length ns + 1)
            (λ t lt. omega (arith, place_in-key t (length ns) fits)) added few)));
        trigrams =
            All-append (λ k. trigram_in k < 16777216) keys (keys_at (length ns) added) are.trigrams
            (All-map (λ k. trigram_in k < 16777216) (λ t. key t (length ns)) added
            (All-weaker (λ t. t < 16777216) (λ t. trigram_in (key t (length ns)) < 16777216)
            (λ t lt. omega (arith, lt, trigram_in-key t (length ns) fits)) added few));
        order = places_rise keys (length ns) added fits are.places are.order;
      }

-- ---- no content

pub no_contents : contents_keyed [] [] ≡ []
unfolding contents_keyed
no_contents = ap (map (content_keyed [] [])) numbers_below-none

pub none_keyed : AreKeyed [] []
none_keyed = record {
  rising = λ k inside. absurd (omega (arith, inside));
  small = All-nil (λ n. n < 4294967296);
  places = All-nil (λ k. place_in k < 0);
  trigrams = All-nil (λ k. trigram_in k < 16777216);
  order = λ i j d le inside. absurd (omega (arith, inside));
}

-- ---- the contents as those of a segment

module _ (ns keys : List ℕ) (are : AreKeyed ns keys) where
  pub length-contents : length (contents_keyed ns keys) ≡ length ns
  unfolding contents_keyed
  length-contents = length-map (numbers_below (length ns)) (content_keyed ns keys) ∙ length-numbers_below (length ns)

  content_is : (i : ℕ) (d : Content) → i < length ns → get_or (contents_keyed ns keys) i d ≡ content_keyed ns keys i
  unfolding contents_keyed
  content_is i d inside =
      get_or-map (content_keyed ns keys) (numbers_below (length ns)) i 0 d (omega (arith, inside, length-numbers_below (length ns)))
      ∙ ap (content_keyed ns keys) (below_at (length ns) i inside)

  pub keyed_numbers : numbers_of (contents_keyed ns keys) ≡ ns
  keyed_numbers = ext_get_or 0 (numbers_of (contents_keyed ns keys)) ns count each
    where
      count : length (numbers_of (contents_keyed ns keys)) ≡ length ns
      count = length-map (contents_keyed ns keys) (λ (c : Content). c.number) ∙ length-contents

      each : (i : ℕ) → i < length (numbers_of (contents_keyed ns keys)) → get_or (numbers_of (contents_keyed ns keys)) i 0 ≡ get_or ns i 0
      each i inside =
          get_or-map (λ (c : Content). c.number) (contents_keyed ns keys) i no_content 0 (omega (arith, inside, count, length-contents))
          ∙ ap (λ (c : Content). c.number) (content_is i no_content (omega (arith, inside, count)))

  pub keyed_keys : AreKeysOf (contents_keyed ns keys) keys
  keyed_keys = record {
    below = rw length-contents are.places;
    same = λ t i inside.
        sym (ap (λ (c : Content). has c.trigrams t) (content_is i no_content (omega (arith, inside, length-contents)))
        ∙ filtered_below (λ u. has keys (key u i)) 16777216 t (past t i (omega (arith, inside, length-contents, few))));
  }
    where
      few : length ns ≤ 4294967296
      few = few_numbers ns are.rising are.small

      past : (t i : ℕ) → i < 4294967296 → 16777216 ≤ t → has keys (key t i) ≡ false
      past t i low ge =
          lacks_from_all keys (key t i)
          (All-weaker (λ k. trigram_in k < 16777216) (λ k. k ≢ key t i)
          (λ k lt e. let here : trigram_in k ≡ t = ap trigram_in e ∙ trigram_in-key t i low in omega (arith, lt, here, ge)) keys are.trigrams)

  pub keyed_order : AreInOrder (contents_keyed ns keys)
  keyed_order = record {
    numbers = rw keyed_numbers are.rising;
    trigrams = λ i d inside.
        rw (content_is i d (omega (arith, inside, length-contents))) (filtered-rising (λ t. has keys (key t i)) 16777216);
  }

-- ---- what a builder has after one more content

module _ (ns keys new added ts : List ℕ) (view : List Content) (n place : ℕ) (are : AreKeyed ns keys) (view_is : contents_keyed ns keys ≡ view)
    (above : All (λ c. c.number < n) view) (low : n < 4294967296) (next : place ≡ length ns) (is : new ≡ keys ++ keys_at place added)
    (same : (t : ℕ) → has added t ≡ has ts t) (rising : IsStrictlyIncreasing ts) (small : All (λ t. t < 16777216) ts) where
  numbers_above : All (λ m. m < n) ns
  numbers_above = rw (sym (ap numbers_of view_is) ∙ keyed_numbers ns keys are) at (All-map (λ m. m < n) (λ (c : Content). c.number) view above)

  there_is_place : length ns < 4294967296
  there_is_place = let le = place_fits ns n are.rising numbers_above in omega (arith, le, low)

  pub with_content : AreKeyed (ns ++ n ∷ []) new × (contents_keyed (ns ++ n ∷ []) new ≡ view ++ known_content n ts ∷ [])
  with_content =
      let new_is : new ≡ keys ++ keys_at (length ns) added = is ∙ ap (λ p. keys ++ keys_at p added) next in (
        rw new_is (still_keyed ns keys added ts n are there_is_place rising small same numbers_above low (All-same (λ t. t < 16777216) added ts same small)),
        ap (contents_keyed (ns ++ n ∷ [])) new_is ∙ more_contents ns keys added ts n are there_is_place rising small same
            ∙ ap (λ cs. cs ++ known_content n ts ∷ []) view_is,
      )

pub with_body : (ns keys new : List ℕ) (view : List Content) (n place : ℕ) (body : List ℕ) → AreKeyed ns keys → contents_keyed ns keys ≡ view
    → All (λ c. c.number < n) view → n < 4294967296 → place ≡ length ns → All (λ b. b < 256) body → AddsBody body place keys new
    → AreKeyed (ns ++ n ∷ []) new × (contents_keyed (ns ++ n ∷ []) new ≡ view ++ body_content n body ∷ [])
with_body ns keys new view n place body are view_is above low next small adds =
    with_content ns keys new adds.added (trigrams_in body) view n place are view_is above low next adds.is
    (λ t. adds.same t ∙ sym (has-trigrams_in body t small)) (trigrams_in-rising body) (trigrams_in-small body)

-- a number above all others has a place
pub next_fits : (ns keys : List ℕ) (view : List Content) (n : ℕ) → AreKeyed ns keys → contents_keyed ns keys ≡ view → All (λ c. c.number < n) view
    → length ns ≤ n
next_fits ns keys view n are view_is above =
    place_fits ns n are.rising (rw (sym (ap numbers_of view_is) ∙ keyed_numbers ns keys are) at (All-map (λ m. m < n) (λ (c : Content). c.number) view above))
