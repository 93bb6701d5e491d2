-- Stored numbers, gone through from the end.
use Rattle.std.proofs.Common.{◌≡◌, ℕ, zero, suc, ◌+◌, ◌-◌, ◌/◌, ◌^◌, ◌<◌, ◌≤◌, Bool, true, false, nat_lt, List, [], ◌∷◌, ◌++◌, length, take}
use Rattle.std.proofs.Common.{drop, get_or, refl, sym, ap, ◌∙◌, ◌⊎◌, inl, inr, arith, append_assoc, length-append, length-drop}
use Rattle.std.specs.Prelude.{All}
use Rattle.std.specs.List.{sum, remove}
use Rattle.std.specs.List.Sorted.{IsStrictlyIncreasing}
use Rattle.std.proofs.lemmas.Bool.{cases_lt}
use Rattle.std.proofs.lemmas.Bool.Decides.{nat_tests}
use Rattle.std.proofs.lemmas.List.{append-nil, take_all, take-append-drop, length-take-le, get_or-take, get_or_append_left, get_or-append-add, drop_more}
use Rattle.std.proofs.lemmas.List.Sums.{sum_by-append}
use Rattle.std.proofs.lemmas.List.Elements.{All-nil, All-cons, All-head, All-tail, All-weaker, All-append}
use Rattle.std.proofs.Math.Seq.{take-append_seam, drop-append_seam, drop-append-add, get_or-append_seam}
use Rattle.posting.specs.Stored.{groups, bytes_of, bytes_after}
use Rattle.posting.specs.Private.Gaps.{limit, numbers_after, last_of, IsSpelled, IsStored, IsPassed, IsBlock, IsLastPlace, IsCut}
use Rattle.posting.proofs.Rising.{All-left}
use Rattle.posting.proofs.Groups.{first_low, below_limit, limit-zero, limit-rest, groups-one, groups-low, groups-high, Rise, rise-tail}
use Rattle.posting.proofs.Groups.{rise_spelled, spelled_bytes, spelled_numbers, bytes_after-cons, bytes_after-nil, bytes_after-append}
use Rattle.posting.proofs.Groups.{last_of-cons, last_of-nil, last_of-append, numbers_after-nil, length-groups}
use Rattle.posting.proofs.Walks.{some_numbers}

-- ---- where the groups of a number end

pub groups-inner : (more g k : ℕ) → k + 1 < length (groups more g) → 128 ≤ get_or (groups more g) k 0
groups-inner zero g k inside = absurd (omega (arith, inside, ap length (groups-one g)))
groups-inner (suc more) g k inside = cases (nat_lt g 128) refl k inside (groups-inner more (g / 128))
  where
    cases : (t : Bool) → nat_lt g 128 ≡ t → (k : ℕ) → k + 1 < length (groups (suc more) g)
        → ((j : ℕ) → j + 1 < length (groups more (g / 128)) → 128 ≤ get_or (groups more (g / 128)) j 0)
        → 128 ≤ get_or (groups (suc more) g) k 0
    cases true e k inside later =
        let low : g < 128 = grind (arith, nat_tests) in
        absurd (omega (arith, inside, ap length (groups-low (suc more) g low)))
    cases false e zero inside later =
        let high : 128 ≤ g = grind (arith, nat_tests) in
        rw (groups-high more g high) (omega arith)
    cases false e (suc k) inside later =
        let high : 128 ≤ g = grind (arith, nat_tests) in
        let there = later k (omega (arith, inside, ap length (groups-high more g high))) in
        rw (groups-high more g high) there

-- the last byte, at the place where it is
groups-end : (more g k : ℕ) → g < limit more → k + 1 ≡ length (groups more g) → get_or (groups more g) k 0 < 128
groups-end zero g k small is =
    let at : k ≡ 0 = omega (arith, is, ap length (groups-one g)) in
    rw (at, groups-one g) (omega (arith, small, limit-zero))
groups-end (suc more) g k small is = cases (nat_lt g 128) refl k is (λ j. groups-end more (g / 128) j (limit-rest more g small))
  where
    cases : (t : Bool) → nat_lt g 128 ≡ t → (k : ℕ) → k + 1 ≡ length (groups (suc more) g)
        → ((j : ℕ) → j + 1 ≡ length (groups more (g / 128)) → get_or (groups more (g / 128)) j 0 < 128)
        → get_or (groups (suc more) g) k 0 < 128
    cases true e k is later =
        let low : g < 128 = grind (arith, nat_tests) in
        let at : k ≡ 0 = omega (arith, is, ap length (groups-low (suc more) g low)) in
        rw (at, groups-low (suc more) g low) low
    cases false e zero is later =
        let high : 128 ≤ g = grind (arith, nat_tests) in
        absurd (omega (arith, is, ap length (groups-high more g high), length-groups more (g / 128)))
    cases false e (suc k) is later =
        let high : 128 ≤ g = grind (arith, nat_tests) in
        let there = later k (omega (arith, is, ap length (groups-high more g high))) in
        rw (groups-high more g high) there

-- There are no bytes, or the last one ends a number.
abbrev pub EndsLow : List ℕ → Type 0
EndsLow bytes = (k : ℕ) → k + 1 ≡ length bytes → get_or bytes k 0 < 128

ends_low : (before : ℕ) (numbers : List ℕ) → Rise before numbers → EndsLow (bytes_after before numbers)
ends_low before [] h k is = absurd (omega (arith, is, ap length (bytes_after-nil before)))
ends_low before (n ∷ numbers) h k is =
    rw (bytes_after-cons before n numbers)
    (cases (cases_lt k (length (bytes_of (n - before)))) (ends_low n numbers (rise-tail before n numbers h)))
  where
    whole : k + 1 ≡ length (bytes_of (n - before)) + length (bytes_after n numbers)
    whole = is ∙ ap length (bytes_after-cons before n numbers) ∙ length-append (bytes_of (n - before)) (bytes_after n numbers)

    small : n < 2 ^ 32
    small = All-head (λ m. m < 2 ^ 32) n numbers h.bound

    cases : (k < length (bytes_of (n - before))) ⊎ (length (bytes_of (n - before)) ≤ k) → EndsLow (bytes_after n numbers)
        → get_or (bytes_of (n - before) ++ bytes_after n numbers) k 0 < 128
    cases (inl lt) later =
        let here = groups-end 4 (n - before) k (below_limit (n - before) (omega (arith, small))) (omega (arith, whole, lt)) in
        omega (arith, here, get_or_append_left (bytes_of (n - before)) (bytes_after n numbers) 0 k lt)
    cases (inr ge) later =
        let rest : k ≡ length (bytes_of (n - before)) + (k - length (bytes_of (n - before))) = omega (arith, ge) in
        let there = later (k - length (bytes_of (n - before))) (omega (arith, whole, ge)) in
        rw rest (omega (arith, there, get_or-append-add (bytes_of (n - before)) (bytes_after n numbers) (k - length (bytes_of (n - before))) 0))

-- ---- rising numbers in two parts

rising-front : (xs ys : List ℕ) → IsStrictlyIncreasing (xs ++ ys) → IsStrictlyIncreasing xs
rising-front xs ys h = λ k inside. (
    let both = h k (omega (arith, inside, length-append xs ys)) in
    omega (arith, both, get_or_append_left xs ys 0 k (omega (arith, inside)), get_or_append_left xs ys 0 (k + 1) inside))

pub rise-front : (before : ℕ) (xs ys : List ℕ) → Rise before (xs ++ ys) → Rise before xs
rise-front before xs ys h = record {
  rising = rising-front xs ys h.rising;
  from = All-left (λ n. before ≤ n) xs ys h.from;
  bound = All-left (λ n. n < 2 ^ 32) xs ys h.bound;
}

pub rise-later : (before : ℕ) (xs ys : List ℕ) → Rise before (xs ++ ys) → Rise (last_of before xs) ys
rise-later before [] ys h = rw (last_of-nil before) h
rise-later before (x ∷ xs) ys h = rw (last_of-cons before x xs) (rise-later x xs ys (rise-tail before x (xs ++ ys) h))

last_from : (before : ℕ) (numbers : List ℕ) → Rise before numbers → before ≤ last_of before numbers
last_from before [] h = rw (last_of-nil before) (omega arith)
last_from before (n ∷ numbers) h =
    let first = All-head (λ m. before ≤ m) n numbers h.from in
    let later = last_from n numbers (rise-tail before n numbers h) in
    rw (last_of-cons before n numbers) (omega (arith, first, later))

-- none is above the last one
up_to_last : (before : ℕ) (numbers : List ℕ) → Rise before numbers → All (λ n. n ≤ last_of before numbers) numbers
up_to_last before [] h = All-nil (λ n. n ≤ last_of before [])
up_to_last before (n ∷ numbers) h =
    let rest = rise-tail before n numbers h in
    rw (last_of-cons before n numbers) (All-cons (λ m. m ≤ last_of n numbers) n numbers (last_from n numbers rest) (up_to_last n numbers rest))

-- a stored list's numbers are below the one after its last
pub below_end : (bytes : List ℕ) (last : ℕ) → IsStored bytes last → All (λ n. n < last + 1) (numbers_after 0 bytes)
below_end bytes last h =
    All-weaker (λ n. n ≤ last_of 0 (numbers_after 0 bytes)) (λ n. n < last + 1) (λ n le. omega (arith, le, h.ends)) (numbers_after 0 bytes)
    (up_to_last 0 (numbers_after 0 bytes) (rise_spelled 0 bytes h.spelled))

-- ---- numbers left out at the end

pub cut_none : (bytes : List ℕ) (last number : ℕ) → IsSpelled 0 bytes → last ≡ last_of 0 (numbers_after 0 bytes) → IsCut bytes number bytes last
cut_none bytes last number h is = record {
  left = [];
  numbers = sym (append-nil (numbers_after 0 bytes));
  stored = sym (ap (λ xs. bytes ++ xs) (bytes_after-nil last) ∙ append-nil bytes);
  ends = is;
  above = All-nil (λ n. number ≤ n);
  spelled = h;
}

pub cut_more : (bytes : List ℕ) (number : ℕ) (front : List ℕ) (at : ℕ) (front' : List ℕ) (at' : ℕ) → IsCut bytes number front at
    → IsCut front number front' at' → IsCut bytes number front' at'
cut_more bytes number front at front' at' h g = record {
  left = g.left ++ h.left;
  numbers = h.numbers ∙ ap (λ ns. ns ++ h.left) g.numbers ∙ append_assoc (numbers_after 0 front') g.left h.left;
  stored =
      h.stored ∙ ap (λ xs. xs ++ bytes_after at h.left) g.stored ∙ append_assoc front' (bytes_after at' g.left) (bytes_after at h.left)
      ∙ ap (λ l. front' ++ (bytes_after at' g.left ++ bytes_after l h.left)) at_is
      ∙ ap (λ xs. front' ++ xs) (sym (bytes_after-append at' g.left h.left));
  ends = g.ends;
  above = All-append (λ n. number ≤ n) g.left h.left g.above h.above;
  spelled = g.spelled;
}
  where
    at_is : at ≡ last_of at' g.left
    at_is = h.ends ∙ ap (last_of 0) g.numbers ∙ last_of-append 0 (numbers_after 0 front') g.left ∙ ap (λ l. last_of l g.left) (sym g.ends)

-- a cut at a number is also a cut at each lower one
pub cut_weaker : (bytes : List ℕ) (number number' : ℕ) (front : List ℕ) (at : ℕ) → IsCut bytes number front at → number' ≤ number → IsCut bytes number' front at
cut_weaker bytes number number' front at h low = record {
  left = h.left;
  numbers = h.numbers;
  stored = h.stored;
  ends = h.ends;
  above = All-weaker (λ n. number ≤ n) (λ n. number' ≤ n) (λ n le. omega (arith, le, low)) h.left h.above;
  spelled = h.spelled;
}

-- a list that has a last number
record Ending (numbers : List ℕ) : Type 0 where
  front : List ℕ
  final : ℕ
  is : numbers ≡ front ++ final ∷ []

ending : (x : ℕ) (xs : List ℕ) → Ending (x ∷ xs)
ending x [] = record { front = []; final = x; is = refl }
ending x (y ∷ ys) = let e = ending y ys in record { front = x ∷ e.front; final = e.final; is = ap (λ zs. x ∷ zs) e.is }

ending_of : (numbers : List ℕ) → 0 < length numbers → Ending numbers
ending_of [] some = absurd (omega (arith, some))
ending_of (x ∷ xs) some = ending x xs

-- what `first_gap` reads from bytes
abbrev pub ReadsGap : List ℕ → ℕ → Type 0
ReadsGap bytes gap = (more g : ℕ) (rest : List ℕ) → g < limit more → g < 2 ^ 32 → bytes ≡ groups more g ++ rest → gap ≡ g

-- the last number, by the place where it begins
module _ (bytes : List ℕ) (last place gap : ℕ) (h : IsSpelled 0 bytes) (last_is : last ≡ last_of 0 (numbers_after 0 bytes))
    (at : IsLastPlace bytes place) (reads : ReadsGap (drop place bytes) gap) where
  abbrev e : Ending (numbers_after 0 bytes)
  e = ending_of (numbers_after 0 bytes) (some_numbers bytes h (omega (arith, at.inside)))

  abbrev before : ℕ
  before = last_of 0 e.front

  rise : Rise 0 (e.front ++ e.final ∷ [])
  rise = rw e.is at (rise_spelled 0 bytes h)

  front_rise : Rise 0 e.front
  front_rise = rise-front 0 e.front (e.final ∷ []) rise

  final_is : last ≡ e.final
  final_is = last_is ∙ ap (last_of 0) e.is ∙ last_of-append 0 e.front (e.final ∷ []) ∙ last_of-cons before e.final [] ∙ last_of-nil e.final

  final_rise : Rise before (e.final ∷ [])
  final_rise = rise-later 0 e.front (e.final ∷ []) rise

  order : before ≤ e.final
  order = All-head (λ n. before ≤ n) e.final [] final_rise.from

  small : e.final - before < 2 ^ 32
  small = let bound = All-head (λ n. n < 2 ^ 32) e.final [] final_rise.bound in omega (arith, bound)

  one : bytes_after before (e.final ∷ []) ≡ bytes_of (e.final - before)
  one = bytes_after-cons before e.final [] ∙ ap (λ xs. bytes_of (e.final - before) ++ xs) (bytes_after-nil e.final) ∙ append-nil (bytes_of (e.final - before))

  bytes_are : bytes ≡ bytes_after 0 e.front ++ bytes_of (e.final - before)
  bytes_are = h.spelled ∙ ap (bytes_after 0) e.is ∙ bytes_after-append 0 e.front (e.final ∷ []) ∙ ap (λ xs. bytes_after 0 e.front ++ xs) one

  count : length bytes ≡ length (bytes_after 0 e.front) + length (bytes_of (e.final - before))
  count = ap length bytes_are ∙ length-append (bytes_after 0 e.front) (bytes_of (e.final - before))

  place_is : place ≡ length (bytes_after 0 e.front)
  place_is = cases (cases_lt place (length (bytes_after 0 e.front))) (cases_lt (length (bytes_after 0 e.front)) place)
    where
      -- the last byte before the number would not end one
      early : place < length (bytes_after 0 e.front) → ⊥
      early lt =
          let low = ends_low 0 e.front front_rise (length (bytes_after 0 e.front) - 1) (omega (arith, lt)) in
          let high = at.high (length (bytes_after 0 e.front) - 1) (omega (arith, lt)) (omega (arith, lt, count, length-groups 4 (e.final - before))) in
          let same =
          ap (λ xs. get_or xs (length (bytes_after 0 e.front) - 1) 0) bytes_are
          ∙ get_or_append_left (bytes_after 0 e.front) (bytes_of (e.final - before)) 0 (length (bytes_after 0 e.front) - 1)
          (omega (arith, lt)) in
          omega (arith, low, high, same)

      -- a byte within the number would end one
      late : length (bytes_after 0 e.front) < place → ⊥
      late lt =
          let low = at.low (omega (arith, lt)) in
          let k_is : place - 1 ≡ length (bytes_after 0 e.front) + (place - 1 - length (bytes_after 0 e.front)) = omega (arith, lt) in
          let high = groups-inner 4 (e.final - before) (place - 1 - length (bytes_after 0 e.front)) (omega (arith, lt, count, at.inside)) in
          let same =
          ap (λ xs. get_or xs (place - 1) 0) bytes_are
          ∙ ap (λ i. get_or (bytes_after 0 e.front ++ bytes_of (e.final - before)) i 0) k_is
          ∙ get_or-append-add (bytes_after 0 e.front) (bytes_of (e.final - before)) (place - 1 - length (bytes_after 0 e.front)) 0
          in
          omega (arith, low, high, same)

      cases : (place < length (bytes_after 0 e.front)) ⊎ (length (bytes_after 0 e.front) ≤ place)
          → (length (bytes_after 0 e.front) < place) ⊎ (place ≤ length (bytes_after 0 e.front)) → place ≡ length (bytes_after 0 e.front)
      cases (inl lt) either = absurd (early lt)
      cases (inr ge) (inl gt) = absurd (late gt)
      cases (inr ge) (inr le) = omega (arith, ge, le)

  front_is : take place bytes ≡ bytes_after 0 e.front
  front_is =
      ap (λ n. take n bytes) place_is ∙ ap (take (length (bytes_after 0 e.front))) bytes_are
      ∙ take-append_seam (bytes_after 0 e.front) (bytes_of (e.final - before))

  rest_is : drop place bytes ≡ bytes_of (e.final - before) ++ []
  rest_is =
      ap (λ n. drop n bytes) place_is ∙ ap (drop (length (bytes_after 0 e.front))) bytes_are
      ∙ drop-append_seam (bytes_after 0 e.front) (bytes_of (e.final - before)) ∙ sym (append-nil (bytes_of (e.final - before)))

  gap_is : gap ≡ e.final - before
  gap_is = reads 4 (e.final - before) [] (below_limit (e.final - before) small) small rest_is

  at_is : last - gap ≡ before
  at_is = omega (arith, gap_is, final_is, order)

  pub gap_fits : gap ≤ last
  gap_fits = omega (arith, gap_is, final_is)

  pub cut_last : (number : ℕ) → number ≤ last → IsCut bytes number (take place bytes) (last - gap)
  cut_last number low =
      let numbers : numbers_after 0 (take place bytes) ≡ e.front = spelled_numbers 0 (take place bytes) e.front front_is front_rise in
      record {
        left = e.final ∷ [];
        numbers = e.is ∙ ap (λ ns. ns ++ e.final ∷ []) (sym numbers);
        stored =
            bytes_are ∙ ap (λ xs. xs ++ bytes_of (e.final - before)) (sym front_is)
            ∙ ap (λ xs. take place bytes ++ xs) (sym one) ∙ ap (λ l. take place bytes ++ bytes_after l (e.final ∷ [])) (sym at_is);
        ends = at_is ∙ ap (last_of 0) (sym numbers);
        above = All-cons (λ n. number ≤ n) e.final [] (omega (arith, low, final_is)) (All-nil (λ n. number ≤ n));
        spelled = spelled_bytes 0 (take place bytes) e.front front_is front_rise;
      }

-- ---- bytes at the end that are each the whole of a number

cut_low : (front : List ℕ) (b last number : ℕ) → IsSpelled 0 (front ++ b ∷ []) → last ≡ last_of 0 (numbers_after 0 (front ++ b ∷ []))
    → EndsLow front → b < 128 → number ≤ last → (b ≤ last) × IsCut (front ++ b ∷ []) number front (last - b)
cut_low front b last number h is ends low le =
    let cut = cut_last (front ++ b ∷ []) last (length front) b h is at reads number le in
    (gap_fits (front ++ b ∷ []) last (length front) b h is at reads, rw (take-append_seam front (b ∷ [])) at cut)
  where
    at : IsLastPlace (front ++ b ∷ []) (length front)
    at = record {
      inside = omega (arith, length-append front (b ∷ []));
      high = λ k from inside. absurd (omega (arith, from, inside, length-append front (b ∷ [])));
      low =
          λ some.
          (let end = ends (length front - 1) (omega (arith, some)) in
          omega (arith, end, get_or_append_left front (b ∷ []) 0 (length front - 1) (omega (arith, some))));
    }

    reads : ReadsGap (drop (length front) (front ++ b ∷ [])) b
    reads more g rest small fits s = (first_low b (b ∷ []) [] refl low more g rest small (sym (drop-append_seam front (b ∷ [])) ∙ s)).0

low_end : (front : List ℕ) (b : ℕ) → b < 128 → EndsLow (front ++ b ∷ [])
low_end front b low k is =
    let at : k ≡ length front = omega (arith, is, length-append front (b ∷ [])) in
    rw at (omega (arith, low, get_or-append_seam front b [] 0))

cut_tail : (tail front : List ℕ) (last number : ℕ) → IsSpelled 0 (front ++ tail) → last ≡ last_of 0 (numbers_after 0 (front ++ tail))
    → EndsLow front → All (λ b. b < 128) tail → number ≤ last - sum tail
    → (sum tail ≤ last) × IsCut (front ++ tail) number front (last - sum tail)
cut_tail [] front last number h is ends low le =
    let whole : front ++ [] ≡ front = append-nil front in
    let same : last - sum [] ≡ last = omega arith in
    (omega arith, rw (whole, same) (cut_none front last number (rw whole at h) (rw whole at is)))
cut_tail (b ∷ tail) front last number h is ends low le =
    let split : front ++ (b ∷ tail) ≡ (front ++ b ∷ []) ++ tail = sym (append_assoc front (b ∷ []) tail) in
    let sum_is : sum (b ∷ tail) ≡ 0 + b + sum tail = sum_by-append (λ m. m) (b ∷ []) tail in
    let here = All-head (λ m. m < 128) b tail low in
    let more =
    cut_tail tail (front ++ b ∷ []) last number (rw split at h) (rw split at is) (low_end front b here)
    (All-tail (λ m. m < 128) b tail low) (omega (arith, le, sum_is)) in
    let one = cut_low front b (last - sum tail) number more.1.spelled more.1.ends ends here (omega (arith, le, sum_is)) in
    let same : last - sum (b ∷ tail) ≡ last - sum tail - b = omega (arith, sum_is) in (
      omega (arith, more.0, one.0, sum_is),
      rw (split, same)
          (cut_more ((front ++ b ∷ []) ++ tail) number (front ++ b ∷ []) (last - sum tail) front (last - sum tail - b) more.1 one.1),
    )

-- a block at the end: all of it but its first byte, which ends a number
module _ (bytes : List ℕ) (last total : ℕ) (h : IsSpelled 0 bytes) (is : last ≡ last_of 0 (numbers_after 0 bytes))
    (long : 32 ≤ length bytes) (block : IsBlock (drop (length bytes - 32) bytes) total) where
  abbrev from : ℕ
  from = length bytes - 32

  whole : take 32 (drop from bytes) ≡ drop from bytes
  whole = take_all 32 (drop from bytes) (omega (arith, length-drop from bytes, long))

  parts : drop from bytes ≡ get_or bytes from 0 ∷ drop (from + 1) bytes
  parts = drop_more bytes from 0 (omega (arith, long))

  lows : All (λ b. b < 128) (get_or bytes from 0 ∷ drop (from + 1) bytes)
  lows = rw parts at (rw whole at block.low)

  sum_is : total ≡ get_or bytes from 0 + sum (drop (from + 1) bytes)
  sum_is =
      let both : sum (get_or bytes from 0 ∷ drop (from + 1) bytes) ≡ 0 + get_or bytes from 0 + sum (drop (from + 1) bytes) =
      sum_by-append (λ m. m) (get_or bytes from 0 ∷ []) (drop (from + 1) bytes) in
      block.total_is ∙ ap sum (whole ∙ parts) ∙ omega (arith, both)

  front_ends : EndsLow (take (from + 1) bytes)
  front_ends k k_is =
      let at : k ≡ from = omega (arith, k_is, length-take-le (from + 1) bytes (omega (arith, long))) in
      let low = All-head (λ b. b < 128) (get_or bytes from 0) (drop (from + 1) bytes) lows in
      rw at (omega (arith, low, get_or-take (from + 1) bytes from 0 (omega arith)))

  pub cut_block : (total - get_or bytes from 0 ≤ last) × IsCut bytes (last - (total - get_or bytes from 0)) (take (from + 1) bytes)
      (last - (total - get_or bytes from 0))
  cut_block =
      let joined : take (from + 1) bytes ++ drop (from + 1) bytes ≡ bytes = take-append-drop (from + 1) bytes in
      let same : total - get_or bytes from 0 ≡ sum (drop (from + 1) bytes) = omega (arith, sum_is) in
      rw same
      (rw joined
      at (cut_tail (drop (from + 1) bytes) (take (from + 1) bytes) last (last - sum (drop (from + 1) bytes)) (rw joined h)
      (rw joined is) front_ends (All-tail (λ b. b < 128) (get_or bytes from 0) (drop (from + 1) bytes) lows) (omega arith)))

-- ---- a cut from the end passes the numbers before it

module _ (bytes : List ℕ) (number : ℕ) (front : List ℕ) (at : ℕ) (h : IsSpelled 0 bytes) (c : IsCut bytes number front at) where
  left_rise : Rise at c.left
  left_rise = rw c.ends (rise-later 0 (numbers_after 0 front) c.left (rw c.numbers at (rise_spelled 0 bytes h)))

  rest_bytes : drop (length front) bytes ≡ bytes_after at c.left
  rest_bytes = ap (drop (length front)) c.stored ∙ drop-append_seam front (bytes_after at c.left)

  left_is : numbers_after at (drop (length front) bytes) ≡ c.left
  left_is = spelled_numbers at (drop (length front) bytes) c.left rest_bytes left_rise

  pub cut_next : All (λ n. number ≤ n) (numbers_after at (drop (length front) bytes))
  cut_next = rw left_is c.above

  passed_below : All (λ n. n < number) (numbers_after 0 front) → IsPassed 0 bytes number at (drop (length front) bytes)
  passed_below below = record {
    passed = numbers_after 0 front;
    numbers = c.numbers ∙ ap (λ ns. numbers_after 0 front ++ ns) (sym left_is);
    stored = c.stored ∙ ap (λ xs. xs ++ bytes_after at c.left) c.spelled.spelled ∙ ap (λ xs. bytes_after 0 (numbers_after 0 front) ++ xs) (sym rest_bytes);
    ends = c.ends;
    below = below;
    spelled = spelled_bytes at (drop (length front) bytes) c.left rest_bytes left_rise;
  }

  pub cut_passed : at < number → IsPassed 0 bytes number at (drop (length front) bytes)
  cut_passed low =
      passed_below
      (All-weaker (λ n. n ≤ last_of 0 (numbers_after 0 front)) (λ n. n < number) (λ n le. omega (arith, le, low, c.ends))
      (numbers_after 0 front) (up_to_last 0 (numbers_after 0 front) (rise_spelled 0 front c.spelled)))

-- all are left out
pub cut_all : (bytes : List ℕ) (number : ℕ) (front : List ℕ) (at : ℕ) → IsSpelled 0 bytes → IsCut bytes number front at → length front ≡ 0
    → IsPassed 0 bytes number at bytes × All (λ n. number ≤ n) (numbers_after at bytes)
cut_all bytes number [] at h c none =
    (passed_below bytes number [] at h c (rw (numbers_after-nil 0) (All-nil (λ n. n < number))), cut_next bytes number [] at h c)
cut_all bytes number (b ∷ front) at h c none = absurd (omega (arith, none))

-- ---- bytes taken out where two gaps were joined

remove_seam : (xs : List ℕ) (y : ℕ) (ys : List ℕ) → remove (xs ++ y ∷ ys) (length xs) ≡ xs ++ ys
remove_seam xs y ys =
    let after : suc (length xs) ≡ length xs + 1 = omega arith in
    ap (λ front. front ++ drop (suc (length xs)) (xs ++ y ∷ ys)) (take-append_seam xs (y ∷ ys))
    ∙ ap (λ back. xs ++ back) (ap (λ n. drop n (xs ++ y ∷ ys)) after ∙ drop-append-add xs (y ∷ ys) 1)

-- The bytes from the end of the gap up to a place are gone.
pub record Closing (old : List ℕ) (from gap : ℕ) (new : List ℕ) (place : ℕ) : Type 0 where
  pub items : new ≡ (take from old ++ bytes_of gap) ++ drop place old
  pub count : length (take from old ++ bytes_of gap) ≡ from + length (bytes_of gap)

pub closing_begins : (old : List ℕ) (from gap end : ℕ) (new : List ℕ) → from + length (bytes_of gap) ≤ length old
    → end ≡ from + length (bytes_of gap) → new ≡ take from old ++ (bytes_of gap ++ drop end old) → Closing old from gap new end
closing_begins old from gap end new fits is items = record {
  items = items ∙ sym (append_assoc (take from old) (bytes_of gap) (drop end old));
  count = omega (arith, length-append (take from old) (bytes_of gap), length-take-le from old (omega (arith, fits)));
}

pub closing_len : (old : List ℕ) (from gap : ℕ) (new : List ℕ) (place : ℕ) → Closing old from gap new place
    → length new ≡ from + length (bytes_of gap) + (length old - place)
closing_len old from gap new place h =
    ap length h.items ∙ length-append (take from old ++ bytes_of gap) (drop place old) ∙ omega (arith, h.count, length-drop place old)

pub closing_more : (old : List ℕ) (from gap : ℕ) (new : List ℕ) (place end : ℕ) → Closing old from gap new place
    → end ≡ from + length (bytes_of gap) → place < length old → Closing old from gap (remove new end) (place + 1)
closing_more old from gap new place end h is inside = record {
  items =
      ap (λ xs. remove xs end) (h.items ∙ ap (λ xs. (take from old ++ bytes_of gap) ++ xs) (drop_more old place 0 inside))
      ∙ ap (remove ((take from old ++ bytes_of gap) ++ get_or old place 0 ∷ drop (place + 1) old)) (is ∙ sym h.count)
      ∙ remove_seam (take from old ++ bytes_of gap) (get_or old place 0) (drop (place + 1) old);
  count = h.count;
}

pub closing_ends : (old : List ℕ) (from gap : ℕ) (new : List ℕ) (place : ℕ) → Closing old from gap new place
    → new ≡ take from old ++ (bytes_of gap ++ drop place old)
closing_ends old from gap new place h = h.items ∙ append_assoc (take from old) (bytes_of gap) (drop place old)
