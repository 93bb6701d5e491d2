-- Stored numbers, gone through.
use Rattle.std.proofs.Common.{◌≡◌, ◌≢◌, ℕ, ◌+◌, ◌-◌, ◌^◌, ◌<◌, ◌≤◌, Bool, true, false, not, ◌==◌, ◌||◌, nat_le, List, [], ◌∷◌, ◌++◌, length}
use Rattle.std.proofs.Common.{take, drop, refl, sym, ap, ◌∙◌, arith, append_assoc, length-append}
use Rattle.std.specs.Prelude.{All, IsTrue}
use Rattle.std.specs.List.{sum}
use Rattle.std.proofs.Common.{subst, get_or, ◌⊎◌, inl, inr}
use Rattle.std.proofs.lemmas.List.Sums.{sum_by_more, sum_by-append}
use Rattle.std.proofs.lemmas.List.Elements.{All-from_get_or}
use Rattle.std.proofs.lemmas.List.{get_or-take, length-take-le, nil_from_length}
use Rattle.std.specs.List.Sorted.{IsStrictlyIncreasing}
use Rattle.std.proofs.lemmas.Bool.Decides.{nat_tests}
use Rattle.std.proofs.lemmas.Bool.{eq-eqb, cases_eq, eqb-true}
use Rattle.std.proofs.lemmas.List.{append-nil, take_all, drop_all, take-append-drop}
use Rattle.std.proofs.lemmas.List.Elements.{All-nil, All-cons, All-head, All-tail, All-weaker, All-append, All-filter, filter-append}
use Rattle.std.proofs.lemmas.List.Kept.{IsStrictlyIncreasing-filter}
use Rattle.std.proofs.Math.Seq.{take-append_seam, drop-append_seam}
use Rattle.posting.specs.ListValue.{has, without}
use Rattle.posting.specs.Stored.{groups, bytes_of, bytes_after}
use Rattle.posting.specs.Private.Gaps.{limit, numbers_after, last_of, IsSpelled, IsStored, IsFirstNumber, IsPassed, IsBlock, IsLeast, not_below}
use Rattle.posting.proofs.SetLemmas.{has-append}
use Rattle.posting.proofs.Rising.{rising-head, rising-push}
use Rattle.posting.proofs.Members.{All-has, filter_all, filter_none, lacks_above, lacks_from_all, without_absent, without-lacking}
use Rattle.posting.proofs.Groups.{first_low, below_limit, Rise, rise-tail, rise_spelled, spelled_bytes, spelled_numbers, bytes_after-cons}
use Rattle.posting.proofs.Groups.{bytes_after-nil, last_of-cons, last_of-nil, numbers_after-nil, length-groups, groups-joined}
use Rattle.posting.proofs.Groups.{bytes_after-append, last_of-append}

-- empty bytes are those of no numbers, whatever number they follow
pub spelled-nil : (before : ℕ) → IsSpelled before []
spelled-nil before =
    spelled_bytes before [] [] (sym (bytes_after-nil before))
    (record { rising = λ k inside. absurd (omega arith); from = All-nil (λ n. before ≤ n); bound = All-nil (λ n. n < 2 ^ 32) })

-- The first number's distance and the bytes after it.
pub record Splits (before : ℕ) (bytes : List ℕ) : Type 0 where
  pub number : ℕ
  pub others : List ℕ
  pub stored : bytes ≡ bytes_of (number - before) ++ bytes_after number others
  pub rise : Rise before (number ∷ others)

pub splits : (before : ℕ) (bytes : List ℕ) → IsSpelled before bytes → 0 < length bytes → Splits before bytes
splits before bytes h some = by (numbers_after before bytes) refl
  where
    by : (numbers : List ℕ) → numbers_after before bytes ≡ numbers → Splits before bytes
    by [] e = absurd (omega (arith, ap length (h.spelled ∙ ap (bytes_after before) e ∙ bytes_after-nil before)))
    by (n ∷ numbers) e = record {
      number = n;
      others = numbers;
      stored = h.spelled ∙ ap (bytes_after before) e ∙ bytes_after-cons before n numbers;
      rise = rw e at (rise_spelled before bytes h);
    }

module _ (before : ℕ) (bytes : List ℕ) (h : Splits before bytes) where
  pub splits_order : before ≤ h.number
  splits_order = All-head (λ n. before ≤ n) h.number h.others h.rise.from

  pub splits_bound : h.number < 2 ^ 32
  splits_bound = All-head (λ n. n < 2 ^ 32) h.number h.others h.rise.bound

  splits_bytes : bytes ≡ bytes_after before (h.number ∷ h.others)
  splits_bytes = h.stored ∙ sym (bytes_after-cons before h.number h.others)

  pub first_is : (gap : ℕ) (rest : List ℕ) → gap ≡ h.number - before → rest ≡ bytes_after h.number h.others → IsFirstNumber before bytes (before + gap) rest
  first_is gap rest gap_is rest_is =
      let is : before + gap ≡ h.number = omega (arith, splits_order, gap_is) in
      let numbers : numbers_after before bytes ≡ h.number ∷ h.others = spelled_numbers before bytes (h.number ∷ h.others) splits_bytes h.rise in
      let later : numbers_after h.number rest ≡ h.others = spelled_numbers h.number rest h.others rest_is (rise-tail before h.number h.others h.rise) in
      let stored : bytes ≡ bytes_of (h.number - before) ++ rest = h.stored ∙ ap (λ xs. bytes_of (h.number - before) ++ xs) (sym rest_is) in
      rw is (record {
        numbers = numbers ∙ ap (λ ns. h.number ∷ ns) (sym later);
        spelled = spelled_bytes h.number rest h.others rest_is (rise-tail before h.number h.others h.rise);
        stored = stored;
        order = splits_order;
        shorter = omega (arith, ap length stored, length-append (bytes_of (h.number - before)) rest, length-groups 4 (h.number - before));
      })

-- the first gap, read from the bytes
pub first_found : (before : ℕ) (bytes : List ℕ) (gap : ℕ) (rest : List ℕ) → IsSpelled before bytes → 0 < length bytes
    → ((more g : ℕ) (r : List ℕ) → g < limit more → g < 2 ^ 32 → bytes ≡ groups more g ++ r → (gap ≡ g) × (rest ≡ r))
    → (before + gap < 2 ^ 32) × IsFirstNumber before bytes (before + gap) rest
first_found before bytes gap rest h some read =
    let s = splits before bytes h some in
    let order = splits_order before bytes s in
    let bound = splits_bound before bytes s in
    let small : s.number - before < 2 ^ 32 = omega (arith, bound) in
    let is = read 4 (s.number - before) (bytes_after s.number s.others) (below_limit (s.number - before) small) small s.stored in
    (omega (arith, is.0, order, bound), first_is before bytes s gap rest is.0 is.1)

-- no number is passed, or one more
pub passed_none : (before : ℕ) (bytes : List ℕ) (number : ℕ) → IsSpelled before bytes → IsPassed before bytes number before bytes
passed_none before bytes number h = record {
  passed = [];
  numbers = refl;
  stored = sym (ap (λ xs. xs ++ bytes) (bytes_after-nil before));
  ends = sym (last_of-nil before);
  below = All-nil (λ n. n < number);
  spelled = h;
}

pub passed_more : (before : ℕ) (bytes : List ℕ) (number at : ℕ) (rest : List ℕ) (next : ℕ) (after : List ℕ)
    → IsPassed before bytes number at rest → IsFirstNumber at rest next after → next < number → IsPassed before bytes number next after
passed_more before bytes number at rest next after h first low =
    let one : bytes_after at (next ∷ []) ≡ bytes_of (next - at) =
    bytes_after-cons at next [] ∙ ap (λ xs. bytes_of (next - at) ++ xs) (bytes_after-nil next) ∙ append-nil (bytes_of (next - at)) in
    record {
      passed = h.passed ++ next ∷ [];
      numbers = h.numbers ∙ ap (λ ns. h.passed ++ ns) first.numbers ∙ sym (append_assoc (h.passed) (next ∷ []) (numbers_after next after));
      stored =
          h.stored ∙ ap (λ xs. bytes_after before h.passed ++ xs) (first.stored ∙ ap (λ xs. xs ++ after) (sym one))
          ∙ sym (append_assoc (bytes_after before h.passed) (bytes_after at (next ∷ [])) (after))
          ∙ ap (λ xs. xs ++ after)
          (ap (λ l. bytes_after before h.passed ++ bytes_after l (next ∷ [])) h.ends
          ∙ sym (bytes_after-append before h.passed (next ∷ [])));
      ends = sym (last_of-append before h.passed (next ∷ []) ∙ last_of-cons (last_of before h.passed) next [] ∙ last_of-nil next);
      below = All-append (λ n. n < number) h.passed (next ∷ []) h.below (All-cons (λ n. n < number) next [] low (All-nil (λ n. n < number)));
      spelled = first.spelled;
    }

-- nothing is left, or what is left begins with a number that isn't below
pub next_none : (number at : ℕ) (rest : List ℕ) → rest ≡ [] → All (λ n. number ≤ n) (numbers_after at rest)
next_none number at rest e = rw e (rw (numbers_after-nil at) (All-nil (λ n. number ≤ n)))

pub next_some : (number at : ℕ) (rest : List ℕ) (next : ℕ) (after : List ℕ) → IsSpelled at rest → IsFirstNumber at rest next after
    → number ≤ next → All (λ n. number ≤ n) (numbers_after at rest)
next_some number at rest next after h first high =
    rw first.numbers
    (All-cons (λ n. number ≤ n) next (numbers_after next after) high
    (All-weaker (λ n. next ≤ n) (λ n. number ≤ n) (λ n le. omega arith) (numbers_after next after) first.spelled.from))

-- all numbers below one are passed, so those from it on are left
module _ (before : ℕ) (bytes : List ℕ) (number at : ℕ) (rest : List ℕ) (h : IsPassed before bytes number at rest)
    (next : All (λ n. number ≤ n) (numbers_after at rest)) where
  pub passed-not_below : numbers_after at rest ≡ not_below number (numbers_after before bytes)
  passed-not_below =
      sym (ap (not_below number) h.numbers ∙ filter-append (λ n. nat_le number n) h.passed (numbers_after at rest)
      ∙ ap (λ ns. ns ++ not_below number (numbers_after at rest))
      (filter_none (λ n. nat_le number n) h.passed
      (All-weaker (λ n. n < number) (λ n. nat_le number n ≡ false) (λ n lt. grind (arith, nat_tests)) h.passed h.below))
      ∙ filter_all (λ n. nat_le number n) (numbers_after at rest)
      (All-weaker (λ n. number ≤ n) (λ n. nat_le number n ≡ true) (λ n le. grind (arith, nat_tests)) (numbers_after at rest) next))

  pub passed-has : has (numbers_after before bytes) number ≡ has (numbers_after at rest) number
  passed-has =
      ap (λ ns. has ns number) h.numbers ∙ has-append h.passed (numbers_after at rest) number
      ∙ ap (λ b. b || has (numbers_after at rest) number) (lacks_above h.passed number h.below)

-- if no number is below this one, it is there exactly if it is the least one
pub least_is : (number least : ℕ) (numbers : List ℕ) → All (λ n. number ≤ n) numbers → IsLeast least numbers → has numbers number ≡ (least == number)
least_is number least numbers from h = cases (least == number) refl
  where
    cases : (b : Bool) → (least == number) ≡ b → has numbers number ≡ b
    cases true e = let is : least ≡ number = grind (arith, nat_tests) in rw is at h.there
    cases false e =
        let ne : least ≢ number = grind (arith, nat_tests) in
        let from_least : number ≤ least = All-has (λ n. number ≤ n) numbers least from h.there in
        let above : number < least = omega (arith, from_least, ne) in
        lacks_from_all numbers number (All-weaker (λ n. least ≤ n) (λ n. n ≢ number) (λ n le is. omega (arith, above)) numbers h.least)

pub least_first : (at : ℕ) (rest : List ℕ) (next : ℕ) (after : List ℕ) → IsFirstNumber at rest next after → IsLeast next (numbers_after at rest)
least_first at rest next after first = rw first.numbers (record {
  there = rw (eq-eqb next next refl) refl;
  least = All-cons (λ n. next ≤ n) next (numbers_after next after) (omega arith) first.spelled.from;
})

-- the number isn't there
pub absent_at_end : (before : ℕ) (bytes : List ℕ) (number at : ℕ) (rest : List ℕ) → IsPassed before bytes number at rest → rest ≡ []
    → has (numbers_after before bytes) number ≡ false
absent_at_end before bytes number at rest h e =
    passed-has before bytes number at rest h (next_none number at rest e) ∙ ap (λ xs. has (numbers_after at xs) number) e
    ∙ ap (λ ns. has ns number) (numbers_after-nil at)

pub absent_at_next : (before : ℕ) (bytes : List ℕ) (number at : ℕ) (rest : List ℕ) (next : ℕ) (after : List ℕ)
    → IsPassed before bytes number at rest → All (λ n. number ≤ n) (numbers_after at rest) → IsFirstNumber at rest next after
    → next ≢ number → has (numbers_after before bytes) number ≡ false
absent_at_next before bytes number at rest next after h from first differs =
    passed-has before bytes number at rest h from ∙ least_is number next (numbers_after at rest) from (least_first at rest next after first)
    ∙ grind (arith, nat_tests)

-- The number is there.
module _ (bytes : List ℕ) (number at : ℕ) (rest after : List ℕ) (stored : IsSpelled 0 bytes) (h : IsPassed 0 bytes number at rest)
    (first : IsFirstNumber at rest number after) where
  numbers_are : numbers_after 0 bytes ≡ h.passed ++ number ∷ numbers_after number after
  numbers_are = h.numbers ∙ ap (λ ns. h.passed ++ ns) first.numbers

  above : All (λ n. number < n) (numbers_after number after)
  above = rising-head number (numbers_after number after) (rw first.numbers at h.spelled.rising)

  without_is : without number (numbers_after 0 bytes) ≡ h.passed ++ numbers_after number after
  without_is =
      ap (without number) numbers_are ∙ filter-append (λ m. not (m == number)) h.passed (number ∷ numbers_after number after)
      ∙ ap (λ ns. ns ++ without number (number ∷ numbers_after number after))
      (without_absent h.passed number (All-weaker (λ n. n < number) (λ n. n ≢ number) (λ n lt e. omega arith) h.passed h.below))
      ∙ ap (λ ns. h.passed ++ ns) (dropped (number == number) (eq-eqb number number refl))
    where
      dropped : (b : Bool) → (number == number) ≡ true → without number (number ∷ numbers_after number after) ≡ numbers_after number after
      dropped b same =
          rw same
          (without_absent (numbers_after number after) number
          (All-weaker (λ n. number < n) (λ n. n ≢ number) (λ n lt e. omega arith) (numbers_after number after) above))

  rise_left : Rise 0 (h.passed ++ numbers_after number after)
  rise_left = rw (← without_is) (record {
    rising = IsStrictlyIncreasing-filter (λ m. not (m == number)) (numbers_after 0 bytes) stored.rising;
    from = All-filter (λ m. not (m == number)) (λ n. 0 ≤ n) (numbers_after 0 bytes) stored.from;
    bound = All-filter (λ m. not (m == number)) (λ n. n < 2 ^ 32) (numbers_after 0 bytes) stored.bound;
  })

  -- `from` is the length of the bytes before the number
  pub from_is : (from : ℕ) → from ≡ length bytes - length rest → from ≡ length (bytes_after 0 h.passed)
  from_is from is = omega (arith, is, ap length h.stored, length-append (bytes_after 0 h.passed) rest)

  pub front_is : (from : ℕ) → from ≡ length bytes - length rest → take from bytes ≡ bytes_after 0 h.passed
  front_is from is =
      ap (take from) h.stored ∙ ap (λ n. take n (bytes_after 0 h.passed ++ rest)) (from_is from is)
      ∙ take-append_seam (bytes_after 0 h.passed) rest

  -- the number is the last one
  last_bytes : (from : ℕ) → from ≡ length bytes - length rest → after ≡ [] → take from bytes ≡ bytes_after 0 (h.passed ++ numbers_after number after)
  last_bytes from is none =
      front_is from is ∙ ap (bytes_after 0) (sym (append-nil h.passed))
      ∙ ap (λ xs. bytes_after 0 (h.passed ++ xs)) (sym (ap (numbers_after number) none ∙ numbers_after-nil number))

  pub last_cut : (from : ℕ) (left : List ℕ) → from ≡ length bytes - length rest → after ≡ [] → left ≡ take from bytes → IsStored left at
  last_cut from left is none left_is =
      let same : left ≡ bytes_after 0 (h.passed ++ numbers_after number after) = left_is ∙ last_bytes from is none in
      let back = spelled_numbers 0 left (h.passed ++ numbers_after number after) same rise_left in
      let nothing : numbers_after number after ≡ [] = ap (numbers_after number) none ∙ numbers_after-nil number in
      record {
        spelled = spelled_bytes 0 left (h.passed ++ numbers_after number after) same rise_left;
        ends = h.ends ∙ ap (last_of 0) (sym (append-nil h.passed)) ∙ ap (λ xs. last_of 0 (h.passed ++ xs)) (sym nothing) ∙ ap (last_of 0) (sym back);
      }

  pub last_cut-numbers : (from : ℕ) (left : List ℕ) → from ≡ length bytes - length rest → after ≡ [] → left ≡ take from bytes
      → numbers_after 0 left ≡ without number (numbers_after 0 bytes)
  last_cut-numbers from left is none left_is =
      spelled_numbers 0 left (h.passed ++ numbers_after number after) (left_is ∙ last_bytes from is none) rise_left ∙ sym without_is

  -- there is a number after it, and the two gaps are joined
  module _ (next : ℕ) (left : List ℕ) (second : IsFirstNumber number after next left) where
    whole : bytes ≡ (bytes_after 0 h.passed ++ (bytes_of (number - at) ++ bytes_of (next - number))) ++ left
    whole =
        h.stored
        ∙ ap (λ xs. bytes_after 0 h.passed ++ xs)
        (first.stored ∙ ap (λ xs. bytes_of (number - at) ++ xs) second.stored
        ∙ sym (append_assoc (bytes_of (number - at)) (bytes_of (next - number)) (left)))
        ∙ sym (append_assoc (bytes_after 0 h.passed) (bytes_of (number - at) ++ bytes_of (next - number)) (left))

    to_is : (to : ℕ) → to ≡ length bytes - length left → to ≡ length (bytes_after 0 h.passed ++ (bytes_of (number - at) ++ bytes_of (next - number)))
    to_is to is = omega (arith, is, ap length whole, length-append (bytes_after 0 h.passed ++ (bytes_of (number - at) ++ bytes_of (next - number))) left)

    pub joined_fits : (from to : ℕ) → from ≡ length bytes - length rest → to ≡ length bytes - length left → from + length (bytes_of (next - at)) ≤ to
    joined_fits from to is is' =
        let sum : (number - at) + (next - number) + 0 ≡ next - at = omega (arith, first.order, second.order) in
        let fits = groups-joined 4 (number - at) (next - number) 0 (omega arith) in
        omega (
          arith,
          from_is from is,
          to_is to is',
          length-append (bytes_after 0 h.passed) (bytes_of (number - at) ++ bytes_of (next - number)),
          length-append (bytes_of (number - at)) (bytes_of (next - number)),
          ap (λ n. length (bytes_of n)) sum,
          fits,
        )

    joined_bytes : (from to : ℕ) (new : List ℕ) → from ≡ length bytes - length rest → to ≡ length bytes - length left
        → new ≡ take from bytes ++ (bytes_of (next - at) ++ drop to bytes) → new ≡ bytes_after 0 (h.passed ++ numbers_after number after)
    joined_bytes from to new is is' new_is =
        let rest_is : drop to bytes ≡ left =
        ap (drop to) whole
        ∙ ap (λ n. drop n ((bytes_after 0 h.passed ++ (bytes_of (number - at) ++ bytes_of (next - number))) ++ left)) (to_is to is')
        ∙ drop-append_seam (bytes_after 0 h.passed ++ (bytes_of (number - at) ++ bytes_of (next - number))) left in
        new_is ∙ ap (λ xs. xs ++ (bytes_of (next - at) ++ drop to bytes)) (front_is from is)
        ∙ ap (λ xs. bytes_after 0 h.passed ++ (bytes_of (next - at) ++ xs)) (rest_is ∙ second.spelled.spelled)
        ∙ ap (λ xs. bytes_after 0 h.passed ++ xs) (sym (bytes_after-cons at next (numbers_after next left)))
        ∙ ap (λ l. bytes_after 0 h.passed ++ bytes_after l (next ∷ numbers_after next left)) h.ends
        ∙ sym (bytes_after-append 0 h.passed (next ∷ numbers_after next left))
        ∙ ap (λ ns. bytes_after 0 (h.passed ++ ns)) (sym second.numbers)

    pub joined_numbers : (from to : ℕ) (new : List ℕ) → from ≡ length bytes - length rest → to ≡ length bytes - length left
        → new ≡ take from bytes ++ (bytes_of (next - at) ++ drop to bytes) → numbers_after 0 new ≡ without number (numbers_after 0 bytes)
    joined_numbers from to new is is' new_is =
        spelled_numbers 0 new (h.passed ++ numbers_after number after) (joined_bytes from to new is is' new_is) rise_left ∙ sym without_is

    last_same : last_of 0 (h.passed ++ number ∷ numbers_after number after) ≡ last_of 0 (h.passed ++ numbers_after number after)
    last_same =
        last_of-append 0 h.passed (number ∷ numbers_after number after) ∙ last_of-cons (last_of 0 h.passed) number (numbers_after number after)
        ∙ ap (last_of number) second.numbers ∙ last_of-cons number next (numbers_after next left)
        ∙ sym (last_of-cons (last_of 0 h.passed) next (numbers_after next left))
        ∙ ap (last_of (last_of 0 h.passed)) (sym second.numbers) ∙ sym (last_of-append 0 h.passed (numbers_after number after))

    pub joined_stored : (last from to : ℕ) (new : List ℕ) → last ≡ last_of 0 (numbers_after 0 bytes) → from ≡ length bytes - length rest
        → to ≡ length bytes - length left → new ≡ take from bytes ++ (bytes_of (next - at) ++ drop to bytes) → IsStored new last
    joined_stored last from to new ends is is' new_is =
        let same = joined_bytes from to new is is' new_is in
        let back = spelled_numbers 0 new (h.passed ++ numbers_after number after) same rise_left in
        record {
          spelled = spelled_bytes 0 new (h.passed ++ numbers_after number after) same rise_left;
          ends = ends ∙ ap (last_of 0) numbers_are ∙ last_same ∙ ap (last_of 0) (sym back);
        }

-- a number comes after all others
pub last_fits : (before number : ℕ) (numbers : List ℕ) → before ≤ number → All (λ n. n < number) numbers → last_of before numbers ≤ number
last_fits before number [] low h = rw (last_of-nil before) low
last_fits before number (n ∷ numbers) low h =
    let first = All-head (λ m. m < number) n numbers h in
    rw (last_of-cons before n numbers) (last_fits n number numbers (omega (arith, first)) (All-tail (λ m. m < number) n numbers h))

pub last_below : (bytes : List ℕ) (last number : ℕ) → IsStored bytes last → All (λ n. n < number) (numbers_after 0 bytes) → last ≤ number
last_below bytes last number h below = rw h.ends (last_fits 0 number (numbers_after 0 bytes) (omega arith) below)

module _ (bytes : List ℕ) (last number : ℕ) (h : IsStored bytes last) (below : All (λ n. n < number) (numbers_after 0 bytes))
    (small : number < 2 ^ 32) where
  pushed_bytes : bytes ++ bytes_of (number - last) ≡ bytes_after 0 (numbers_after 0 bytes ++ number ∷ [])
  pushed_bytes =
      ap (λ xs. xs ++ bytes_of (number - last)) h.spelled.spelled
      ∙ ap (λ xs. bytes_after 0 (numbers_after 0 bytes) ++ xs)
      (sym (bytes_after-cons last number [] ∙ ap (λ xs. bytes_of (number - last) ++ xs) (bytes_after-nil number)
      ∙ append-nil (bytes_of (number - last))))
      ∙ ap (λ l. bytes_after 0 (numbers_after 0 bytes) ++ bytes_after l (number ∷ [])) h.ends
      ∙ sym (bytes_after-append 0 (numbers_after 0 bytes) (number ∷ []))

  pushed_rise : Rise 0 (numbers_after 0 bytes ++ number ∷ [])
  pushed_rise = record {
    rising = rising-push (numbers_after 0 bytes) number h.spelled.rising below;
    from = λ k d inside. omega arith;
    bound =
        All-append (λ n. n < 2 ^ 32) (numbers_after 0 bytes) (number ∷ []) h.spelled.bound
        (All-cons (λ n. n < 2 ^ 32) number [] small (All-nil (λ n. n < 2 ^ 32)));
  }

  pub pushed_numbers : (new : List ℕ) → new ≡ bytes ++ bytes_of (number - last) → numbers_after 0 new ≡ numbers_after 0 bytes ++ number ∷ []
  pushed_numbers new is = spelled_numbers 0 new (numbers_after 0 bytes ++ number ∷ []) (is ∙ pushed_bytes) pushed_rise

  pub pushed_stored : (new : List ℕ) → new ≡ bytes ++ bytes_of (number - last) → IsStored new number
  pushed_stored new is =
      let back = pushed_numbers new is in
      record {
        spelled = spelled_bytes 0 new (numbers_after 0 bytes ++ number ∷ []) (is ∙ pushed_bytes) pushed_rise;
        ends =
            sym (ap (last_of 0) back ∙ last_of-append 0 (numbers_after 0 bytes) (number ∷ [])
            ∙ last_of-cons (last_of 0 (numbers_after 0 bytes)) number [] ∙ last_of-nil number);
      }

-- there are numbers exactly where there are bytes
pub some_numbers : (bytes : List ℕ) → IsSpelled 0 bytes → 0 < length bytes → 0 < length (numbers_after 0 bytes)
some_numbers bytes h some = by (numbers_after 0 bytes) refl
  where
    by : (numbers : List ℕ) → numbers_after 0 bytes ≡ numbers → 0 < length (numbers_after 0 bytes)
    by [] e = absurd (omega (arith, some, ap length (h.spelled ∙ ap (bytes_after 0) e ∙ bytes_after-nil 0)))
    by (n ∷ numbers) e = rw e (omega arith)

pub stored-nil : IsStored [] 0
stored-nil =
    record {
      spelled = spelled-nil 0;
      ends = sym (ap (last_of 0) (numbers_after-nil 0) ∙ last_of-nil 0);
    }

-- one number alone
pub one_stored : (number : ℕ) (new : List ℕ) → number < 2 ^ 32 → new ≡ bytes_of number → IsStored new number × (numbers_after 0 new ≡ number ∷ [])
one_stored number new small is =
    let whole : number ≡ number - 0 = omega arith in
    let from : new ≡ [] ++ bytes_of (number - 0) = is ∙ ap bytes_of whole in
    let none : All (λ n. n < number) (numbers_after 0 []) = rw (numbers_after-nil 0) (All-nil (λ n. n < number)) in (
      pushed_stored [] 0 number stored-nil none small new from,
      pushed_numbers [] 0 number stored-nil none small new from ∙ ap (λ ns. ns ++ number ∷ []) (numbers_after-nil 0),
    )

pub nothing_left : (before : ℕ) (rest : List ℕ) → length rest ≡ 0 → numbers_after before rest ≡ []
nothing_left before [] none = numbers_after-nil before
nothing_left before (b ∷ rest) none = absurd (omega (arith, none))

pub empty_if_none : (bytes : List ℕ) → IsSpelled 0 bytes
    → (IsTrue (length bytes == 0) → numbers_after 0 bytes ≡ []) × (numbers_after 0 bytes ≡ [] → IsTrue (length bytes == 0))
empty_if_none [] h = (λ _. numbers_after-nil 0, λ _. refl)
empty_if_none (b ∷ bytes) h = (
  λ t.
      absurd (omega (arith, eqb-true (length (b ∷ bytes)) 0 t)),
  λ e. absurd (omega (arith, some_numbers (b ∷ bytes) h (omega arith), ap length e)),
)

-- going past this number, where none is below it: it is the next one, or it isn't there
pub left_out : (before : ℕ) (rest : List ℕ) (number next : ℕ) (after : List ℕ) → IsFirstNumber before rest next after
    → IsSpelled before rest → next ≡ number → numbers_after next after ≡ without number (numbers_after before rest)
left_out before rest number next after first h is =
    let rising : IsStrictlyIncreasing (next ∷ numbers_after next after) = rw first.numbers at h.rising in
    let same : (next == number) ≡ true = eq-eqb next number is in
    let above : All (λ n. n ≢ number) (numbers_after next after) =
    All-weaker (λ n. next < n) (λ n. n ≢ number) (λ n lt e. omega arith) (numbers_after next after)
    (rising-head next (numbers_after next after) rising) in
    sym (ap (without number) first.numbers ∙ rw same (without_absent (numbers_after next after) number above))

pub not_there : (before : ℕ) (rest : List ℕ) (number next : ℕ) (after : List ℕ) → IsFirstNumber before rest next after
    → All (λ n. number ≤ n) (numbers_after before rest) → next ≢ number → has (numbers_after before rest) number ≡ false
not_there before rest number next after first from differs =
    least_is number next (numbers_after before rest) from (least_first before rest next after first) ∙ grind (arith, nat_tests)

pub left_as_is : (before : ℕ) (rest : List ℕ) (number next : ℕ) (after : List ℕ) → IsFirstNumber before rest next after
    → All (λ n. number ≤ n) (numbers_after before rest) → next ≢ number
    → numbers_after before rest ≡ without number (numbers_after before rest)
left_as_is before rest number next after first from differs =
    sym (without-lacking (numbers_after before rest) number (not_there before rest number next after first from differs))

pub next_end : (number at : ℕ) (rest : List ℕ) → length rest ≡ 0 → All (λ n. number ≤ n) (numbers_after at rest)
next_end number at rest none = next_none number at rest (nil_from_length rest none)

-- whether a number is reached is whether it was there
pub reached : (before : ℕ) (bytes : List ℕ) (number at : ℕ) (rest : List ℕ) (least : ℕ) → IsPassed before bytes number at rest
    → All (λ n. number ≤ n) (numbers_after at rest) → IsLeast least (numbers_after at rest)
    → (least == number) ≡ has (numbers_after before bytes) number
reached before bytes number at rest least h next l = sym (passed-has before bytes number at rest h next ∙ least_is number least (numbers_after at rest) next l)

pub not_reached : (before : ℕ) (bytes : List ℕ) (number at : ℕ) (rest : List ℕ) → IsPassed before bytes number at rest
    → All (λ n. number ≤ n) (numbers_after at rest) → numbers_after at rest ≡ [] → false ≡ has (numbers_after before bytes) number
not_reached before bytes number at rest h next none = sym (passed-has before bytes number at rest h next ∙ ap (λ ns. has ns number) none)

-- a set without the number stays as it is when the number is taken out
pub removed_none : (bytes : List ℕ) (number : ℕ) → has (numbers_after 0 bytes) number ≡ false → numbers_after 0 bytes ≡ without number (numbers_after 0 bytes)
removed_none bytes number absent = sym (without-lacking (numbers_after 0 bytes) number absent)

-- bytes that were written over as a whole
pub all_written : (xs ys : List ℕ) → length ys ≡ length xs → take (length xs) (ys ++ drop (length ys) xs) ≡ ys
all_written xs ys same = rw (drop_all (length ys) xs (omega arith), append-nil) (take_all (length xs) ys (omega arith))

-- numbers are passed, and then more of them
pub passed_on : (before : ℕ) (bytes : List ℕ) (number at : ℕ) (rest : List ℕ) (at' : ℕ) (rest' : List ℕ)
    → IsPassed before bytes number at rest → IsPassed at rest number at' rest' → IsPassed before bytes number at' rest'
passed_on before bytes number at rest at' rest' h g = record {
  passed = h.passed ++ g.passed;
  numbers = h.numbers ∙ ap (λ ns. h.passed ++ ns) g.numbers ∙ sym (append_assoc h.passed g.passed (numbers_after at' rest'));
  stored =
      h.stored ∙ ap (λ xs. bytes_after before h.passed ++ xs) (g.stored ∙ ap (λ l. bytes_after l g.passed ++ rest') h.ends)
      ∙ sym (append_assoc (bytes_after before h.passed) (bytes_after (last_of before h.passed) g.passed) rest')
      ∙ ap (λ xs. xs ++ rest') (sym (bytes_after-append before h.passed g.passed));
  ends = g.ends ∙ ap (λ l. last_of l g.passed) h.ends ∙ sym (last_of-append before h.passed g.passed);
  below = All-append (λ n. n < number) h.passed g.passed h.below g.below;
  spelled = g.spelled;
}

-- a byte that is the whole of a number
first_byte : (at b : ℕ) (rest : List ℕ) → IsSpelled at (b ∷ rest) → b < 128 → IsFirstNumber at (b ∷ rest) (at + b) rest
first_byte at b rest h low =
    (first_found at (b ∷ rest) b rest h (omega arith) (λ more g r small fits is. first_low b (b ∷ rest) rest refl low more g r small is)).1

pub passed_one : (before : ℕ) (bytes : List ℕ) (number next : ℕ) (after : List ℕ) → IsSpelled before bytes
    → IsFirstNumber before bytes next after → next < number → IsPassed before bytes number next after
passed_one before bytes number next after h first low = passed_more before bytes number before bytes next after (passed_none before bytes number h) first low

passed_front : (front tail : List ℕ) (at number : ℕ) → IsSpelled at (front ++ tail) → All (λ b. b < 128) front → at + sum front < number
    → IsPassed at (front ++ tail) number (at + sum front) tail
passed_front [] tail at number h low fits = let same : at + sum [] ≡ at = omega arith in rw same (passed_none at tail number h)
passed_front (b ∷ front) tail at number h low fits =
    let first = first_byte at b (front ++ tail) h (All-head (λ m. m < 128) b front low) in
    let sum_is : sum (b ∷ front) ≡ 0 + b + sum front = sum_by-append (λ m. m) (b ∷ []) front in
    let below : at + b + sum front < number = omega (arith, fits, sum_is) in
    let more = passed_front front tail (at + b) number first.spelled (All-tail (λ m. m < 128) b front low) below in
    let same : at + sum (b ∷ front) ≡ at + b + sum front = omega (arith, sum_is) in
    rw same
    (passed_on at (b ∷ (front ++ tail)) number (at + b) (front ++ tail) (at + b + sum front) tail
    (passed_one at (b ∷ (front ++ tail)) number (at + b) (front ++ tail) h first (omega (arith, below))) more)

-- the numbers of a block
pub passed_block : (at : ℕ) (bytes : List ℕ) (number total : ℕ) → IsSpelled at bytes → IsBlock bytes total → at + total < number
    → IsPassed at bytes number (at + total) (drop 32 bytes)
passed_block at bytes number total h block fits =
    let whole : take 32 bytes ++ drop 32 bytes ≡ bytes = take-append-drop 32 bytes in
    rw (block.total_is) (subst (λ xs. IsPassed at xs number (at + sum (take 32 bytes)) (drop 32 bytes)) whole
    (passed_front (take 32 bytes) (drop 32 bytes) at number (rw whole h) block.low (omega (arith, fits, block.total_is))))

pub sum_more : (bytes : List ℕ) (i : ℕ) → i < length bytes → sum (take (i + 1) bytes) ≡ sum (take i bytes) + get_or bytes i 0
sum_more bytes i inside = sum_by_more (λ b. b) bytes i 0 inside

pub block_is : (bytes : List ℕ) (total most : ℕ) → 32 ≤ length bytes → total ≡ sum (take 32 bytes)
    → ((k : ℕ) → k < 32 → get_or bytes k 0 ≤ most) → most < 128 → IsBlock bytes total
block_is bytes total most long total_is below low = record {
  long = long;
  low =
      All-from_get_or (λ b. b < 128) (take 32 bytes) 0 (λ k inside.
      let before : k < 32 = omega (arith, inside, length-take-le 32 bytes long) in
      omega (arith, get_or-take 32 bytes k 0 before, below k before, low));
  total_is = total_is;
}

-- the greatest byte so far
pub most_more : (bytes : List ℕ) (i most most' : ℕ) → ((k : ℕ) → k < i → get_or bytes k 0 ≤ most) → most ≤ most' → get_or bytes i 0 ≤ most'
    → (k : ℕ) → k < i + 1 → get_or bytes k 0 ≤ most'
most_more bytes i most most' below up here k before = cases (cases_eq k i)
  where
    cases : (k ≡ i) ⊎ (k ≢ i) → get_or bytes k 0 ≤ most'
    cases (inl e) = rw e here
    cases (inr ne) = omega (arith, below k (omega (arith, before, ne)), up)
