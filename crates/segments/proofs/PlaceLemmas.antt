-- The bytes of a set of places.
use Rattle.std.proofs.Common.{◌≡◌, ℕ, ◌-◌, ◌<◌, ◌≤◌, Bool, true, false, nat_lt, List, [], ◌++◌, length, take, length-append, refl, sym, ap, ◌∙◌, arith, ◌⊎◌, inl, inr}
use Rattle.std.specs.Prelude.{filter}
use Rattle.std.proofs.lemmas.Bool.{cases_lt}
use Rattle.std.proofs.lemmas.Bool.Decides.{nat_tests}
use Rattle.std.proofs.lemmas.List.{nil_from_length}
use Rattle.std.proofs.lemmas.List.Elements.{All-nil, All-weaker}
use Rattle.std.proofs.Math.Seq.{take-append_seam}
use Rattle.segments.specs.Contents.{has}
use Rattle.segments.specs.Private.Gaps.{gap_bytes, numbers_after, IsSpelled}
use Rattle.segments.specs.Private.Bits.{width, bit_bytes, is_marked, marked_below}
use Rattle.segments.specs.Private.PlaceBytes.{set_bytes, places_in, AreBelow, IsPlaceBytes}
use Rattle.segments.proofs.GapLemmas.{Rise, numbers-stored, spelled_bytes, bytes_after-nil, numbers_after-nil}
use Rattle.segments.proofs.Searching.{numbers_below-none}
use Rattle.segments.proofs.BitLemmas.{length-bit_bytes, bits_again, marked_again}

rise_below : (count : ℕ) (places : List ℕ) → AreBelow count places → Rise 0 places
rise_below count places h = record {
  rising = h.rising;
  from = All-weaker (λ p. p < count) (λ p. 0 ≤ p) (λ p lt. omega arith) places h.below;
  bound = All-weaker (λ p. p < count) (λ p. p < 4294967296) (λ p lt. omega (arith, lt, h.few)) places h.below;
}

pub as_gaps : (count : ℕ) (places : List ℕ) → length (gap_bytes places) < width count → set_bytes count places ≡ gap_bytes places
as_gaps count places less = let e : nat_lt (length (gap_bytes places)) (width count) ≡ true = grind (arith, nat_tests) in rw e refl

pub as_bits : (count : ℕ) (places : List ℕ) → width count ≤ length (gap_bytes places) → set_bytes count places ≡ bit_bytes count places
as_bits count places more = let e : nat_lt (length (gap_bytes places)) (width count) ≡ false = grind (arith, nat_tests) in rw e refl

pub in_gaps : (count : ℕ) (bytes : List ℕ) → length bytes < width count → places_in count bytes ≡ numbers_after 0 bytes
in_gaps count bytes less = let e : nat_lt (length bytes) (width count) ≡ true = grind (arith, nat_tests) in rw e refl

pub in_bits : (count : ℕ) (bytes : List ℕ) → width count ≤ length bytes → places_in count bytes ≡ marked_below count bytes
in_bits count bytes more = let e : nat_lt (length bytes) (width count) ≡ false = grind (arith, nat_tests) in rw e refl

-- sets are read back
pub places_again : (count : ℕ) (places : List ℕ) → AreBelow count places → places_in count (set_bytes count places) ≡ places
places_again count places h = cases (nat_lt (length (gap_bytes places)) (width count)) refl
  where
    cases : (b : Bool) → nat_lt (length (gap_bytes places)) (width count) ≡ b → places_in count (set_bytes count places) ≡ places
    cases true e =
        let less : length (gap_bytes places) < width count = grind (arith, nat_tests) in
        ap (places_in count) (as_gaps count places less) ∙ in_gaps count (gap_bytes places) less ∙ numbers-stored 0 places (rise_below count places h)
    cases false e =
        let more : width count ≤ length (gap_bytes places) = grind (arith, nat_tests) in
        ap (places_in count) (as_bits count places more)
        ∙ in_bits count (bit_bytes count places) (rw (length-bit_bytes count places) (omega arith))
        ∙ bits_again count places h.rising h.below

pub are_place_bytes : (count : ℕ) (places : List ℕ) → AreBelow count places → IsPlaceBytes count (set_bytes count places)
are_place_bytes count places h =
    let again = places_again count places h in
    record { places = rw again h; spelled = ap (set_bytes count) (sym again) }

-- bytes that are few are gaps
pub spelled_gaps : (count : ℕ) (bytes : List ℕ) → IsPlaceBytes count bytes → length bytes < width count → IsSpelled 0 bytes
spelled_gaps count bytes h less =
    let places = places_in count bytes in
    cases (nat_lt (length (gap_bytes places)) (width count)) refl
  where
    cases : (b : Bool) → nat_lt (length (gap_bytes (places_in count bytes))) (width count) ≡ b → IsSpelled 0 bytes
    cases true e =
        let less' : length (gap_bytes (places_in count bytes)) < width count = grind (arith, nat_tests) in
        spelled_bytes 0 bytes (places_in count bytes) (h.spelled ∙ as_gaps count (places_in count bytes) less') (rise_below count (places_in count bytes) h.places)
    cases false e =
        let more : width count ≤ length (gap_bytes (places_in count bytes)) = grind (arith, nat_tests) in
        absurd (omega (arith, ap length (h.spelled ∙ as_bits count (places_in count bytes) more), length-bit_bytes count (places_in count bytes), less))

-- the set of no places
pub no_places : (count : ℕ) → count ≤ 4294967296 → IsPlaceBytes count []
no_places count few = rw (none (cases_lt 0 (width count))) at (are_place_bytes count [] below)
  where
    below : AreBelow count []
    below = record { few = few; rising = λ k inside. absurd (omega (arith, inside)); below = All-nil (λ p. p < count) }

    none : (0 < width count) ⊎ (width count ≤ 0) → set_bytes count [] ≡ []
    none (inl some) = as_gaps count [] (omega (arith, some, ap length (bytes_after-nil 0))) ∙ bytes_after-nil 0
    none (inr all) =
        as_bits count [] (omega (arith, all))
        ∙ nil_from_length (bit_bytes count []) (omega (arith, all, length-bit_bytes count []))

pub places_of_none : (count : ℕ) → count ≤ 4294967296 → places_in count [] ≡ []
places_of_none count few = none (cases_lt 0 (width count))
  where
    none : (0 < width count) ⊎ (width count ≤ 0) → places_in count [] ≡ []
    none (inl some) = in_gaps count [] some ∙ numbers_after-nil 0
    none (inr all) =
        let e : count ≡ 0 = omega (arith, all) in
        in_bits count [] (omega (arith, all)) ∙ ap (λ n. marked_below n []) e ∙ ap (filter (is_marked [])) numbers_below-none

-- ---- a set is written

pub gaps_pushed : (count : ℕ) (places old long : List ℕ) (start : ℕ) → start ≡ length old → long ≡ old ++ gap_bytes places
    → length long - start < width count → long ≡ old ++ set_bytes count places
gaps_pushed count places old long start begin is less =
    is ∙ ap (λ r. old ++ r) (sym (as_gaps count places (omega (arith, less, begin, ap length is, length-append old (gap_bytes places)))))

pub bits_pushed : (count : ℕ) (places old long cut new : List ℕ) (start : ℕ) → start ≡ length old → long ≡ old ++ gap_bytes places → cut ≡ take start long
    → width count ≤ length long - start → new ≡ cut ++ bit_bytes count places → new ≡ old ++ set_bytes count places
bits_pushed count places old long cut new start begin is cut_is more new_is =
    new_is
    ∙ ap (λ r. r ++ bit_bytes count places)
    (cut_is ∙ ap (λ n. take n long) begin ∙ ap (take (length old)) is ∙ take-append_seam old (gap_bytes places))
    ∙ ap (λ r. old ++ r) (sym (as_bits count places (omega (arith, more, begin, ap length is, length-append old (gap_bytes places)))))

-- ---- a set is looked at

-- bytes that are not few are bits
pub marked_has : (count : ℕ) (bytes : List ℕ) → IsPlaceBytes count bytes → width count ≤ length bytes → (p : ℕ)
    → is_marked bytes p ≡ has (places_in count bytes) p
marked_has count bytes h more p = cases (cases_lt (length (gap_bytes (places_in count bytes))) (width count))
  where
    cases : (length (gap_bytes (places_in count bytes)) < width count) ⊎ (width count ≤ length (gap_bytes (places_in count bytes)))
        → is_marked bytes p ≡ has (places_in count bytes) p
    cases (inl less) =
        let is = h.spelled ∙ as_gaps count (places_in count bytes) less in
        absurd (omega (arith, ap length is, less, more))
    cases (inr long) =
        let is = h.spelled ∙ as_bits count (places_in count bytes) long in
        ap (λ bs. is_marked bs p) is ∙ marked_again count (places_in count bytes) p h.places.below
