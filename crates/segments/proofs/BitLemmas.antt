-- Places as bits, written and read back.
use Rattle.std.proofs.Common.{◌≡◌, ◌≢◌, ℕ, zero, suc, ◌+◌, ◌*◌, ◌/◌, ◌%◌, ◌^◌, ◌<◌, ◌≤◌, Bool, true, false, cond, ◌==◌, ◌&&◌, ◌⊎◌, inl, inr, List, [], ◌∷◌, ◌++◌}
use Rattle.std.proofs.Common.{length, map, get_or, refl, sym, ap, ◌∙◌, arith, append_assoc}
use Rattle.std.specs.Prelude.{All, filter}
use Rattle.std.specs.List.Sorted.{IsStrictlyIncreasing}
use Rattle.std.proofs.Math.Nat.{pow-succ', div-div-eq-div-mul, pow-le-pow_right}
use Rattle.std.proofs.lemmas.Bool.{cases_lt}
use Rattle.std.proofs.lemmas.List.{append-nil, length-map, get_or-map, map-append, get_or_append_left, get_or_push, get_or_past}
use Rattle.std.proofs.lemmas.List.Elements.{All-weaker, filter-append}
use Rattle.std.proofs.lemmas.List.Kept.{IsStrictlyIncreasing-filter}
use Rattle.segments.specs.Contents.{has}
use Rattle.segments.specs.Private.Below.{numbers_below}
use Rattle.segments.specs.Private.Bits.{has_bit, with_bits, width, byte_with, bit_bytes, is_marked, marked_below, IsSplit}
use Rattle.segments.proofs.SetLemmas.{has-filter}
use Rattle.segments.proofs.Members.{has_at, lacks_at, lacks_above, same_rising}
use Rattle.segments.proofs.Rising.{rising_far}
use Rattle.segments.proofs.Searching.{numbers_below-none, numbers_below-more, are_below, numbers_below-rising}
use Rattle.segments.proofs.Views.{length-numbers_below}

-- ---- bits of a number

-- a 0 or a 1
abbrev digit : Bool → ℕ
digit b = cond b 1 0

with_bits-suc : (count : ℕ) (bit : ℕ → Bool) → with_bits (suc count) bit ≡ digit (bit 0) + 2 * with_bits count (λ j. bit (suc j))
unfolding with_bits
with_bits-suc count bit = refl

pub with_bits-none : (bit : ℕ → Bool) → with_bits 0 bit ≡ 0
unfolding with_bits
with_bits-none bit = refl

has_bit-suc : (n j : ℕ) → has_bit n (suc j) ≡ has_bit (n / 2) j
unfolding has_bit
has_bit-suc n j = refl

has_bit-none : (n : ℕ) → has_bit n 0 ≡ (n % 2 == 1)
unfolding has_bit
has_bit-none n = refl

-- the lowest digit, and the others
lowest : (b : Bool) (m : ℕ) → ((digit b + 2 * m) % 2 == 1) ≡ b
lowest true m = let e : (1 + 2 * m) % 2 ≡ 1 = omega arith in rw e refl
lowest false m = let e : (0 + 2 * m) % 2 ≡ 0 = omega arith in rw e refl

others : (b : Bool) (m : ℕ) → (digit b + 2 * m) / 2 ≡ m
others true m = omega arith
others false m = omega arith

-- bits are read back
pub bit_again : (count : ℕ) (bit : ℕ → Bool) (j : ℕ) → j < count → has_bit (with_bits count bit) j ≡ bit j
bit_again zero bit j low = absurd (omega (arith, low))
bit_again (suc count) bit zero low =
    has_bit-none (with_bits (suc count) bit) ∙ ap (λ n. n % 2 == 1) (with_bits-suc count bit) ∙ lowest (bit 0) (with_bits count (λ j. bit (suc j)))
bit_again (suc count) bit (suc j) low =
    has_bit-suc (with_bits (suc count) bit) j ∙ ap (λ n. has_bit (n / 2) j) (with_bits-suc count bit)
    ∙ ap (λ n. has_bit n j) (others (bit 0) (with_bits count (λ i. bit (suc i)))) ∙ bit_again count (λ i. bit (suc i)) j (omega (arith, low))

-- one more bit, above the others
pub one_bit_more : (count : ℕ) (bit : ℕ → Bool) → with_bits (count + 1) bit ≡ with_bits count bit + digit (bit count) * 2 ^ count
one_bit_more zero bit =
    with_bits-suc 0 bit ∙ ap (λ n. digit (bit 0) + 2 * n) (with_bits-none (λ j. bit (suc j)))
    ∙ ends (digit (bit 0)) (with_bits 0 bit) (with_bits-none bit)
  where
    ends : (d n : ℕ) → n ≡ 0 → d + 2 * 0 ≡ n + d * 2 ^ 0
    ends d n e = omega (arith, e)
one_bit_more (suc count) bit =
    let later = one_bit_more count (λ j. bit (suc j)) in
    let e : suc count + 1 ≡ suc (count + 1) = omega arith in
    ap (λ n. with_bits n bit) e ∙ with_bits-suc (count + 1) bit ∙ ap (λ n. digit (bit 0) + 2 * n) later
    ∙ ends (bit (suc count)) (digit (bit 0)) (with_bits count (λ j. bit (suc j))) (2 ^ count) (2 ^ suc count) (pow-succ' 2 count)
    ∙ ap (λ n. n + digit (bit (suc count)) * 2 ^ suc count) (sym (with_bits-suc count bit))
  where
    ends : (b : Bool) (first m p q : ℕ) → q ≡ 2 * p → first + 2 * (m + digit b * p) ≡ first + 2 * m + digit b * q
    ends true first m p q e = omega (arith, e)
    ends false first m p q e = omega (arith, e)

pub bits_below : (count : ℕ) (bit : ℕ → Bool) → with_bits count bit < 2 ^ count
bits_below zero bit = omega (arith, with_bits-none bit)
bits_below (suc count) bit =
    let later = bits_below count (λ j. bit (suc j)) in
    ends (bit 0) (with_bits count (λ j. bit (suc j))) (2 ^ count) (2 ^ suc count) (with_bits (suc count) bit) later (pow-succ' 2 count) (with_bits-suc count bit)
  where
    ends : (b : Bool) (m p q n : ℕ) → m < p → q ≡ 2 * p → n ≡ digit b + 2 * m → n < q
    ends true m p q n lt e f = omega (arith, lt, e, f)
    ends false m p q n lt e f = omega (arith, lt, e, f)

-- a bit by shifting
pub shifted : (n j : ℕ) → ((n / 2 ^ j) % 2 == 1) ≡ has_bit n j
shifted n zero = let e : n / 2 ^ 0 ≡ n = omega arith in ap (λ m. m % 2 == 1) e ∙ sym (has_bit-none n)
shifted n (suc j) =
    ap (λ m. m % 2 == 1) (ap (λ p. n / p) (pow-succ' 2 j) ∙ sym (div-div-eq-div-mul n 2 (2 ^ j)))
    ∙ shifted (n / 2) j ∙ sym (has_bit-suc n j)

-- ---- places in order

pub split_none : (places : List ℕ) → IsSplit places 0 0
split_none places = record {
  within = omega arith;
  below = λ k before. absurd (omega (arith, before));
  from = λ k after inside. omega arith;
}

module _ (places : List ℕ) (at place : ℕ) (rising : IsStrictlyIncreasing places) (h : IsSplit places at place) where
  pub split_there : at < length places → get_or places at 0 ≡ place → IsSplit places (at + 1) (place + 1)
  split_there inside is = record {
    within = omega (arith, inside);
    below = λ k before. by_place k (cases_lt k at) before;
    from = λ k after there. let lt = rising_far places rising at k (omega (arith, after)) there in omega (arith, lt, is);
  }
    where
      by_place : (k : ℕ) → (k < at) ⊎ (at ≤ k) → k < at + 1 → get_or places k 0 < place + 1
      by_place k (inl lt) before = let low = h.below k lt in omega (arith, low)
      by_place k (inr ge) before = let e : k ≡ at = omega (arith, ge, before) in rw e (omega (arith, is))

  pub split_absent : (at < length places → get_or places at 0 ≢ place) → IsSplit places at (place + 1)
  split_absent ne = record {
    within = h.within;
    below = λ k before. let low = h.below k before in omega (arith, low);
    from = λ k after there. later k after there (cases_lt at k);
  }
    where
      first : at < length places → place < get_or places at 0
      first inside = let le = h.from at (omega arith) inside in let differs = ne inside in omega (arith, le, differs)

      later : (k : ℕ) → at ≤ k → k < length places → (at < k) ⊎ (k ≤ at) → place + 1 ≤ get_or places k 0
      later k after there (inl lt) =
          let up = rising_far places rising at k lt there in
          let low = first (omega (arith, lt, there)) in
          omega (arith, up, low)
      later k after there (inr ge) = let e : k ≡ at = omega (arith, after, ge) in rw e (let low = first (omega (arith, e, there)) in omega (arith, low))

  pub has_there : at < length places → get_or places at 0 ≡ place → has places place ≡ true
  has_there inside is = has_at places at place inside is

  pub has_absent : (at < length places → get_or places at 0 ≢ place) → has places place ≡ false
  has_absent ne =
      lacks_at places at place rising (λ k before _. h.below k before)
      (λ inside. let le = h.from at (omega arith) inside in let differs = ne inside in omega (arith, le, differs))

-- ---- a byte, bit by bit

-- So many bits of the byte were set.
pub record IsByteSoFar (places : List ℕ) (number bit byte unit at : ℕ) : Type 0 where
  pub byte_is : byte ≡ with_bits bit (λ j. has places (8 * number + j))
  pub unit_is : unit ≡ 2 ^ bit
  pub split : IsSplit places at (8 * number + bit)

pub byte_begins : (places : List ℕ) (number from : ℕ) → IsSplit places from (8 * number) → IsByteSoFar places number 0 0 1 from
byte_begins places number from h =
    let e : 8 * number + 0 ≡ 8 * number = omega arith in
    record { byte_is = sym (with_bits-none (λ j. has places (8 * number + j))); unit_is = omega arith; split = rw e h }

module _ (places : List ℕ) (number bit byte unit at : ℕ) (rising : IsStrictlyIncreasing places) (h : IsByteSoFar places number bit byte unit at) where
  pub byte_fits : bit < 8 → (byte < 128) × (unit ≤ 128)
  byte_fits low =
      let less = bits_below bit (λ j. has places (8 * number + j)) in
      let most : 2 ^ bit ≤ 2 ^ 7 = pow-le-pow_right {n = 2} (omega arith) {i = bit} {j = 7} (omega (arith, low)) in
      (omega (arith, h.byte_is, less, most), omega (arith, h.unit_is, most))

  next_is : (b : Bool) → has places (8 * number + bit) ≡ b → byte + digit b * unit ≡ with_bits (bit + 1) (λ j. has places (8 * number + j))
  next_is b is =
      sym (one_bit_more bit (λ j. has places (8 * number + j))
      ∙ ap (λ n. n + digit (has places (8 * number + bit)) * 2 ^ bit) (sym h.byte_is)
      ∙ ap (λ c. byte + digit c * 2 ^ bit) is
      ∙ ap (λ n. byte + digit b * n) (sym h.unit_is))

  twice : unit * 2 ≡ 2 ^ (bit + 1)
  twice =
      let e : suc bit ≡ bit + 1 = omega arith in
      let f : 2 ^ suc bit ≡ 2 * 2 ^ bit = pow-succ' 2 bit in
      omega (arith, rw e at f, h.unit_is)

  pub byte_there : at < length places → get_or places at 0 ≡ 8 * number + bit → IsByteSoFar places number (bit + 1) (byte + unit) (unit * 2) (at + 1)
  byte_there inside is =
      let e : 8 * number + bit + 1 ≡ 8 * number + (bit + 1) = omega arith in
      let one : byte + 1 * unit ≡ byte + unit = omega arith in
      record {
        byte_is = rw one at (next_is true (has_there places at (8 * number + bit) rising h.split inside is));
        unit_is = twice;
        split = rw e at (split_there places at (8 * number + bit) rising h.split inside is);
      }

  pub byte_absent : (at < length places → get_or places at 0 ≢ 8 * number + bit) → IsByteSoFar places number (bit + 1) byte (unit * 2) at
  byte_absent ne =
      let e : 8 * number + bit + 1 ≡ 8 * number + (bit + 1) = omega arith in
      let none : byte + 0 * unit ≡ byte = omega arith in
      record {
        byte_is = rw none at (next_is false (has_absent places at (8 * number + bit) rising h.split ne));
        unit_is = twice;
        split = rw e at (split_absent places at (8 * number + bit) rising h.split ne);
      }

pub byte_whole : (places : List ℕ) (number byte : ℕ) → byte ≡ with_bits 8 (λ j. has places (8 * number + j)) → byte < 256
byte_whole places number byte is = let less = bits_below 8 (λ j. has places (8 * number + j)) in omega (arith, is, less)

-- ---- all bytes

-- So many bytes were added.
pub record AreBytesSoFar (places old : List ℕ) (number at : ℕ) (new : List ℕ) : Type 0 where
  pub is : new ≡ old ++ map (byte_with places) (numbers_below number)
  pub split : IsSplit places at (8 * number)

pub bytes_begin : (places old : List ℕ) → AreBytesSoFar places old 0 0 old
bytes_begin places old = record {
  is = sym (ap (λ ns. old ++ map (byte_with places) ns) numbers_below-none ∙ append-nil old);
  split = split_none places;
}

pub bytes_more : (places old : List ℕ) (number at : ℕ) (new : List ℕ) (byte next : ℕ) → AreBytesSoFar places old number at new
    → byte ≡ byte_with places number → IsSplit places next (8 * number + 8) → AreBytesSoFar places old (number + 1) next (new ++ byte ∷ [])
bytes_more places old number at new byte next h is split =
    let e : 8 * number + 8 ≡ 8 * (number + 1) = omega arith in
    record {
      is =
          ap (λ r. r ++ byte ∷ []) h.is ∙ append_assoc old (map (byte_with places) (numbers_below number)) (byte ∷ [])
          ∙ ap (λ b. old ++ (map (byte_with places) (numbers_below number) ++ b ∷ [])) is
          ∙ ap (λ r. old ++ r) (sym (map-append (byte_with places) (numbers_below number) (number ∷ [])))
          ∙ ap (λ ns. old ++ map (byte_with places) ns) (sym (numbers_below-more number));
      split = rw e at split;
    }

pub bytes_end : (count : ℕ) (places old : List ℕ) (at : ℕ) (new : List ℕ) → AreBytesSoFar places old (width count) at new → new ≡ old ++ bit_bytes count places
unfolding bit_bytes
bytes_end count places old at new h = h.is

-- ---- read back

pub length-bit_bytes : (count : ℕ) (places : List ℕ) → length (bit_bytes count places) ≡ width count
unfolding bit_bytes
length-bit_bytes count places = length-map (numbers_below (width count)) (byte_with places) ∙ length-numbers_below (width count)

pub below_at : (n i : ℕ) → i < n → get_or (numbers_below n) i 0 ≡ i
unfolding numbers_below
below_at zero i low = absurd (omega (arith, low))
below_at (suc n) i low = by_place (cases_lt i n) (below_at n i)
  where
    by_place : (i < n) ⊎ (n ≤ i) → (i < n → get_or (numbers_below n) i 0 ≡ i) → get_or (numbers_below n ++ n ∷ []) i 0 ≡ i
    by_place (inl lt) earlier = get_or_append_left (numbers_below n) (n ∷ []) 0 i (omega (arith, lt, length-numbers_below n)) ∙ earlier lt
    by_place (inr ge) earlier =
        let e : length (numbers_below n) ≡ i = omega (arith, ge, low, length-numbers_below n) in
        let f : n ≡ i = omega (arith, ge, low) in
        get_or_push (numbers_below n) n 0 i e ∙ f

pub no_bits : (j : ℕ) → has_bit 0 j ≡ false
no_bits zero = has_bit-none 0
no_bits (suc j) = has_bit-suc 0 j ∙ no_bits j

pub marked_again : (count : ℕ) (places : List ℕ) (place : ℕ) → All (λ p. p < count) places → is_marked (bit_bytes count places) place ≡ has places place
unfolding bit_bytes
marked_again count places place below = by_place (cases_lt (place / 8) (width count))
  where
    by_place : (place / 8 < width count) ⊎ (width count ≤ place / 8) → is_marked (map (byte_with places) (numbers_below (width count))) place ≡ has places place
    by_place (inl inside) =
        let w = width count in
        let number = place / 8 in
        let is : get_or (map (byte_with places) (numbers_below w)) number 0 ≡ byte_with places number =
        get_or-map (byte_with places) (numbers_below w) number 0 0 (omega (arith, inside, length-numbers_below w))
        ∙ ap (byte_with places) (below_at w number inside) in
        let e : 8 * (place / 8) + place % 8 ≡ place = omega arith in
        ap (λ b. has_bit b (place % 8)) is ∙ bit_again 8 (λ j. has places (8 * number + j)) (place % 8) (omega arith) ∙ ap (has places) e
    by_place (inr past) =
        let w = width count in
        let long : length (map (byte_with places) (numbers_below w)) ≡ w = length-map (numbers_below w) (byte_with places) ∙ length-numbers_below w in
        let high : count ≤ place = omega (arith, past) in
        ap (λ b. has_bit b (place % 8)) (get_or_past (map (byte_with places) (numbers_below w)) (place / 8) 0 (omega (arith, long, past)))
        ∙ no_bits (place % 8)
        ∙ sym (lacks_above places place (All-weaker (λ m. m < count) (λ m. m < place) (λ m lt. omega (arith, lt, high)) places below))

pub has_below : (n p : ℕ) → p < n → has (numbers_below n) p ≡ true
has_below n p low = has_at (numbers_below n) p p (omega (arith, low, length-numbers_below n)) (below_at n p low)

-- the places of the bits
pub bits_again : (count : ℕ) (places : List ℕ) → IsStrictlyIncreasing places → All (λ p. p < count) places → marked_below count (bit_bytes count places) ≡ places
bits_again count places rising below =
    same_rising (marked_below count (bit_bytes count places)) places
    (IsStrictlyIncreasing-filter (is_marked (bit_bytes count places)) (numbers_below count) (numbers_below-rising count)) rising
    (λ p. has-filter (is_marked (bit_bytes count places)) (numbers_below count) p ∙ by_place p (cases_lt p count))
  where
    by_place : (p : ℕ) → (p < count) ⊎ (count ≤ p) → (has (numbers_below count) p && is_marked (bit_bytes count places) p) ≡ has places p
    by_place p (inl lt) = rw (has_below count p lt) (marked_again count places p below)
    by_place p (inr ge) =
        rw (lacks_above (numbers_below count) p (All-weaker (λ m. m < count) (λ m. m < p) (λ m lt. omega (arith, lt, ge)) (numbers_below count) (are_below count)))
        (sym (lacks_above places p (All-weaker (λ m. m < count) (λ m. m < p) (λ m lt. omega (arith, lt, ge)) places below)))

-- ---- the loop over all places

pub marked_none : (old bytes : List ℕ) → old ≡ old ++ marked_below 0 bytes
marked_none old bytes = sym (ap (λ ns. old ++ filter (is_marked bytes) ns) numbers_below-none ∙ append-nil old)

module _ (old bytes new : List ℕ) (place : ℕ) (is : new ≡ old ++ marked_below place bytes) where
  next_place : (b : Bool) → is_marked bytes place ≡ b → new ++ cond b (place ∷ []) [] ≡ old ++ marked_below (place + 1) bytes
  next_place b e =
      sym (ap (λ ns. old ++ filter (is_marked bytes) ns) (numbers_below-more place)
      ∙ ap (λ r. old ++ r) (filter-append (is_marked bytes) (numbers_below place) (place ∷ []))
      ∙ sym (append_assoc old (marked_below place bytes) (filter (is_marked bytes) (place ∷ [])))
      ∙ ap (λ r. r ++ filter (is_marked bytes) (place ∷ [])) (sym is)
      ∙ ap (λ c. new ++ cond c (place ∷ []) []) e)

  pub marked_there : is_marked bytes place ≡ true → new ++ place ∷ [] ≡ old ++ marked_below (place + 1) bytes
  marked_there e = next_place true e

  pub marked_absent : is_marked bytes place ≡ false → new ≡ old ++ marked_below (place + 1) bytes
  marked_absent e = sym (append-nil new) ∙ next_place false e

-- all that are below the count are found among those below it
pub among_below : (count : ℕ) (places : List ℕ) → IsStrictlyIncreasing places → All (λ p. p < count) places → filter (has places) (numbers_below count) ≡ places
among_below count places rising below =
    same_rising (filter (has places) (numbers_below count)) places
    (IsStrictlyIncreasing-filter (has places) (numbers_below count) (numbers_below-rising count)) rising
    (λ p. has-filter (has places) (numbers_below count) p ∙ by_place p (cases_lt p count))
  where
    by_place : (p : ℕ) → (p < count) ⊎ (count ≤ p) → (has (numbers_below count) p && has places p) ≡ has places p
    by_place p (inl lt) = rw (has_below count p lt) refl
    by_place p (inr ge) =
        rw (lacks_above (numbers_below count) p (All-weaker (λ m. m < count) (λ m. m < p) (λ m lt. omega (arith, lt, ge)) (numbers_below count) (are_below count)))
        (sym (lacks_above places p (All-weaker (λ m. m < count) (λ m. m < p) (λ m lt. omega (arith, lt, ge)) places below)))
