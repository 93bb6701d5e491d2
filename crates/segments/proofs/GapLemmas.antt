-- Rising numbers as gaps, written and read back.
use Rattle.std.proofs.Common.{◌≡◌, ℕ, zero, suc, ◌+◌, ◌-◌, ◌*◌, ◌/◌, ◌%◌, ◌<◌, ◌≤◌, Bool, true, false, nat_lt, List, [], ◌∷◌, ◌++◌}
use Rattle.std.proofs.Common.{length, get_or, take, refl, sym, ap, ◌∙◌, arith, append_assoc, length-append}
use Rattle.std.specs.Prelude.{All}
use Rattle.std.specs.List.Sorted.{IsStrictlyIncreasing}
use Rattle.std.proofs.lemmas.Bool.Decides.{nat_tests}
use Rattle.std.proofs.lemmas.List.{append-nil, take_more, nil_from_length}
use Rattle.std.proofs.lemmas.List.Elements.{All-nil, All-head, All-tail, All-weaker}
use Rattle.segments.specs.Private.Gaps.{groups, bytes_of, bytes_after, numbers_in, numbers_after, last_of, limit, IsSpelled, IsFirstNumber}
use Rattle.segments.proofs.Rising.{rising-head, rising-tail, rising_far}

-- a number below 128 is its one group
pub groups-low : (more g : ℕ) → g < 128 → groups more g ≡ g ∷ []
unfolding groups
groups-low zero g low = refl
groups-low (suc more) g low = let e : nat_lt g 128 ≡ true = grind (arith, nat_tests) in rw e refl

-- the first group of a number from 128 on, and the groups of the rest of it
pub groups-high : (more g : ℕ) → 128 ≤ g → groups (suc more) g ≡ (g % 128 + 128) ∷ groups more (g / 128)
unfolding groups
groups-high more g high = let e : nat_lt g 128 ≡ false = grind (arith, nat_tests) in rw e refl

numbers-low : (f : ℕ → ℕ) (b : ℕ) (bytes : List ℕ) → b < 128 → numbers_in f (b ∷ bytes) ≡ f b ∷ numbers_in (λ gap. f b + gap) bytes
unfolding numbers_in
numbers-low f b bytes low = let e : nat_lt b 128 ≡ true = grind (arith, nat_tests) in rw e refl

numbers-high : (f : ℕ → ℕ) (b : ℕ) (bytes : List ℕ) → 128 ≤ b → numbers_in f (b ∷ bytes) ≡ numbers_in (λ high. f (b - 128 + 128 * high)) bytes
unfolding numbers_in
numbers-high f b bytes high = let e : nat_lt b 128 ≡ false = grind (arith, nat_tests) in rw e refl

pub limit-more : (more : ℕ) → limit (suc more) ≡ 128 * limit more
unfolding limit
limit-more more = refl

pub limit-zero : limit zero ≡ 128
unfolding limit
limit-zero = refl

pub below_limit : (g : ℕ) → g < 4294967296 → g < limit 4
unfolding limit
below_limit g small = omega arith

-- what is left of a number without its first group
pub limit-rest : (more g : ℕ) → g < limit (suc more) → g / 128 < limit more
limit-rest more g small = omega (arith, limit-more more)

put_together : (g : ℕ) → g % 128 + 128 - 128 + 128 * (g / 128) ≡ g
put_together g = omega arith

-- groups are read back
numbers-groups : (more : ℕ) (f : ℕ → ℕ) (g : ℕ) (rest : List ℕ) → g < limit more
    → numbers_in f (groups more g ++ rest) ≡ f g ∷ numbers_in (λ gap. f g + gap) rest
numbers-groups zero f g rest small =
    let low : g < 128 = omega (arith, limit-zero) in
    ap (λ bytes. numbers_in f (bytes ++ rest)) (groups-low zero g low) ∙ numbers-low f g rest low
numbers-groups (suc more) f g rest small =
    cases (nat_lt g 128) refl (λ later. numbers-groups more (λ h. f (g % 128 + 128 - 128 + 128 * h)) (g / 128) rest later)
  where
    cases : (b : Bool) → nat_lt g 128 ≡ b
        → (g / 128 < limit more
        → numbers_in (λ h. f (g % 128 + 128 - 128 + 128 * h)) (groups more (g / 128) ++ rest)
        ≡ f (g % 128 + 128 - 128 + 128 * (g / 128)) ∷ numbers_in (λ gap. f (g % 128 + 128 - 128 + 128 * (g / 128)) + gap) rest)
        → numbers_in f (groups (suc more) g ++ rest) ≡ f g ∷ numbers_in (λ gap. f g + gap) rest
    cases true e later =
        let low : g < 128 = grind (arith, nat_tests) in
        ap (λ bytes. numbers_in f (bytes ++ rest)) (groups-low (suc more) g low) ∙ numbers-low f g rest low
    cases false e later =
        let high : 128 ≤ g = grind (arith, nat_tests) in
        ap (λ bytes. numbers_in f (bytes ++ rest)) (groups-high more g high)
        ∙ numbers-high f (g % 128 + 128) (groups more (g / 128) ++ rest) (omega arith)
        ∙ later (limit-rest more g small)
        ∙ ap (λ n. f n ∷ numbers_in (λ gap. f n + gap) rest) (put_together g)

pub bytes_after-cons : (before n : ℕ) (numbers : List ℕ) → bytes_after before (n ∷ numbers) ≡ bytes_of (n - before) ++ bytes_after n numbers
unfolding bytes_after
bytes_after-cons before n numbers = refl

pub bytes_after-nil : (before : ℕ) → bytes_after before [] ≡ []
unfolding bytes_after
bytes_after-nil before = refl

pub last_of-cons : (before n : ℕ) (numbers : List ℕ) → last_of before (n ∷ numbers) ≡ last_of n numbers
unfolding last_of
last_of-cons before n numbers = refl

pub last_of-nil : (before : ℕ) → last_of before [] ≡ before
unfolding last_of
last_of-nil before = refl

pub numbers_after-nil : (before : ℕ) → numbers_after before [] ≡ []
unfolding numbers_in
numbers_after-nil before = refl

-- the first number is read back
pub numbers_after-cons : (before n : ℕ) (rest : List ℕ) → before ≤ n → n < 4294967296
    → numbers_after before (bytes_of (n - before) ++ rest) ≡ n ∷ numbers_after n rest
numbers_after-cons before n rest order small =
    numbers-groups 4 (λ gap. before + gap) (n - before) rest (below_limit (n - before) (omega arith))
    ∙ ap (λ m. m ∷ numbers_after m rest) (is order)
  where
    is : before ≤ n → before + (n - before) ≡ n
    is order = omega arith

-- The numbers rise, none is below `before`, and each fits in 32 bits.
pub record Rise (before : ℕ) (numbers : List ℕ) : Type 0 where
  pub rising : IsStrictlyIncreasing numbers
  pub from : All (λ n. before ≤ n) numbers
  pub bound : All (λ n. n < 4294967296) numbers

pub rise-tail : (before n : ℕ) (numbers : List ℕ) → Rise before (n ∷ numbers) → Rise n numbers
rise-tail before n numbers h = record {
  rising = rising-tail n numbers h.rising;
  from = All-weaker (λ m. n < m) (λ m. n ≤ m) (λ m lt. omega arith) numbers (rising-head n numbers h.rising);
  bound = All-tail (λ m. m < 4294967296) n numbers h.bound;
}

-- stored numbers are read back
pub numbers-stored : (before : ℕ) (numbers : List ℕ) → Rise before numbers → numbers_after before (bytes_after before numbers) ≡ numbers
numbers-stored before [] h = ap (numbers_after before) (bytes_after-nil before) ∙ numbers_after-nil before
numbers-stored before (n ∷ numbers) h =
    ap (numbers_after before) (bytes_after-cons before n numbers)
    ∙ numbers_after-cons before n (bytes_after n numbers) (All-head (λ m. before ≤ m) n numbers h.from) (All-head (λ m. m < 4294967296) n numbers h.bound)
    ∙ ap (λ ns. n ∷ ns) (numbers-stored n numbers (rise-tail before n numbers h))

pub rise_spelled : (before : ℕ) (bytes : List ℕ) → IsSpelled before bytes → Rise before (numbers_after before bytes)
rise_spelled before bytes h = record { rising = h.rising; from = h.from; bound = h.bound }

-- the bytes of rising numbers, with what is read back
pub spelled_bytes : (before : ℕ) (bytes numbers : List ℕ) → bytes ≡ bytes_after before numbers → Rise before numbers → IsSpelled before bytes
spelled_bytes before bytes numbers is h =
    let back : numbers_after before bytes ≡ numbers = ap (numbers_after before) is ∙ numbers-stored before numbers h in
    record { spelled = is ∙ ap (bytes_after before) (sym back); rising = rw back h.rising; from = rw back h.from; bound = rw back h.bound }

pub spelled_numbers : (before : ℕ) (bytes numbers : List ℕ) → bytes ≡ bytes_after before numbers → Rise before numbers → numbers_after before bytes ≡ numbers
spelled_numbers before bytes numbers is h = ap (numbers_after before) is ∙ numbers-stored before numbers h

pub groups-one : (g : ℕ) → groups zero g ≡ g ∷ []
unfolding groups
groups-one g = refl

-- Each number takes at least one byte.
pub length-groups : (more g : ℕ) → 0 < length (groups more g)
length-groups zero g = rw (groups-one g) (omega arith)
length-groups (suc more) g = cases (nat_lt g 128) refl
  where
    cases : (b : Bool) → nat_lt g 128 ≡ b → 0 < length (groups (suc more) g)
    cases true e = let low : g < 128 = grind (arith, nat_tests) in rw (groups-low (suc more) g low) (omega arith)
    cases false e = let high : 128 ≤ g = grind (arith, nat_tests) in rw (groups-high more g high) (omega arith)

-- A number's groups, of which the first are pushed and `left` has the others.
pub record Pushing (old : List ℕ) (gap : ℕ) (new : List ℕ) (left : ℕ) : Type 0 where
  pub more : ℕ
  pub small : left < limit more
  pub items : new ++ groups more left ≡ old ++ bytes_of gap

pub pushing_begins : (old : List ℕ) (gap : ℕ) → gap < 4294967296 → Pushing old gap old gap
pushing_begins old gap small = record { more = 4; small = below_limit gap small; items = refl }

pub pushing_more : (old new : List ℕ) (gap left b : ℕ) → Pushing old gap new left → 128 ≤ left → b ≡ left % 128 + 128
    → Pushing old gap (new ++ b ∷ []) (left / 128)
pushing_more old new gap left b h high is = by h.more refl
  where
    by : (more : ℕ) → h.more ≡ more → Pushing old gap (new ++ b ∷ []) (left / 128)
    by zero e = absurd (omega (arith, limit-zero, rw e at h.small))
    by (suc more) e = record {
      more = more;
      small = limit-rest more left (rw e at h.small);
      items =
          append_assoc (new) (b ∷ []) (groups more (left / 128))
          ∙ ap (λ m. new ++ m ∷ groups more (left / 128)) is
          ∙ ap (λ bytes. new ++ bytes) (sym (groups-high more left high))
          ∙ rw e at h.items;
    }

pub pushing_ends : (old new : List ℕ) (gap left : ℕ) → Pushing old gap new left → left < 128 → new ++ left ∷ [] ≡ old ++ bytes_of gap
pushing_ends old new gap left h low = ap (λ bytes. new ++ bytes) (sym (groups-low h.more left low)) ∙ h.items

-- ---- several numbers

pub bytes_after-push : (before : ℕ) (xs : List ℕ) (n : ℕ) → bytes_after before (xs ++ n ∷ []) ≡ bytes_after before xs ++ bytes_of (n - last_of before xs)
bytes_after-push before [] n =
    bytes_after-cons before n [] ∙ ap (λ r. bytes_of (n - before) ++ r) (bytes_after-nil n) ∙ append-nil (bytes_of (n - before))
    ∙ ap (λ l. bytes_of (n - l)) (sym (last_of-nil before)) ∙ ap (λ r. r ++ bytes_of (n - last_of before [])) (sym (bytes_after-nil before))
bytes_after-push before (x ∷ xs) n =
    bytes_after-cons before x (xs ++ n ∷ []) ∙ ap (λ r. bytes_of (x - before) ++ r) (bytes_after-push x xs n)
    ∙ sym (append_assoc (bytes_of (x - before)) (bytes_after x xs) (bytes_of (n - last_of x xs)))
    ∙ ap (λ r. r ++ bytes_of (n - last_of x xs)) (sym (bytes_after-cons before x xs))
    ∙ ap (λ l. bytes_after before (x ∷ xs) ++ bytes_of (n - l)) (sym (last_of-cons before x xs))

pub last_of-push : (before : ℕ) (xs : List ℕ) (n : ℕ) → last_of before (xs ++ n ∷ []) ≡ n
last_of-push before [] n = last_of-cons before n [] ∙ last_of-nil n
last_of-push before (x ∷ xs) n = last_of-cons before x (xs ++ n ∷ []) ∙ last_of-push x xs n

-- the first i numbers were pushed, and `before` is the last of them
pub record ArePushed (old : List ℕ) (numbers : List ℕ) (i before : ℕ) (new : List ℕ) : Type 0 where
  pub bytes : new ≡ old ++ bytes_after 0 (take i numbers)
  pub last : before ≡ last_of 0 (take i numbers)
  pub below : i < length numbers → before ≤ get_or numbers i 0

pub pushed_none : (old numbers : List ℕ) → ArePushed old numbers 0 0 old
pushed_none old numbers = record {
  bytes = sym (ap (λ r. old ++ r) (bytes_after-nil 0) ∙ append-nil old);
  last = sym (last_of-nil 0);
  below = λ inside. omega arith;
}

pub pushed_more : (old numbers : List ℕ) (i before : ℕ) (new : List ℕ) → IsStrictlyIncreasing numbers → i < length numbers
    → ArePushed old numbers i before new → ArePushed old numbers (i + 1) (get_or numbers i 0) (new ++ bytes_of (get_or numbers i 0 - before))
pushed_more old numbers i before new rising inside h =
    let n = get_or numbers i 0 in
    let next : take (i + 1) numbers ≡ take i numbers ++ n ∷ [] = take_more numbers i 0 inside in
    record {
      bytes =
          ap (λ r. r ++ bytes_of (n - before)) h.bytes ∙ append_assoc old (bytes_after 0 (take i numbers)) (bytes_of (n - before))
          ∙ ap (λ l. old ++ (bytes_after 0 (take i numbers) ++ bytes_of (n - l))) h.last
          ∙ ap (λ r. old ++ r) (sym (bytes_after-push 0 (take i numbers) n))
          ∙ ap (λ ns. old ++ bytes_after 0 ns) (sym next);
      last = sym (ap (last_of 0) next ∙ last_of-push 0 (take i numbers) n);
      below = λ there. let lt = rising_far numbers rising i (i + 1) (omega arith) there in omega (arith, lt);
    }

-- reading the first number: no bytes, or a number of one group
one_head : (x y : ℕ) (xs ys : List ℕ) → x ∷ xs ≡ y ∷ ys → (x ≡ y) × (xs ≡ ys)
one_head x y xs ys e = (cc, cc)

pub first_none : (bytes : List ℕ) → length bytes ≡ 0 → (more gap : ℕ) (rest : List ℕ) → bytes ≡ groups more gap ++ rest → ⊥
first_none bytes none more gap rest is = omega (arith, ap length is, length-append (groups more gap) rest, length-groups more gap)

pub first_low : (b : ℕ) (bytes others : List ℕ) → bytes ≡ b ∷ others → b < 128 → (more gap : ℕ) (rest : List ℕ) → gap < limit more
    → bytes ≡ groups more gap ++ rest → (b ≡ gap) × (others ≡ rest)
first_low b bytes others is low more gap rest small spelled = cases more (nat_lt gap 128) refl small spelled
  where
    cases : (m : ℕ) (t : Bool) → nat_lt gap 128 ≡ t → gap < limit m → bytes ≡ groups m gap ++ rest → (b ≡ gap) × (others ≡ rest)
    cases m true e fits s =
        let below : gap < 128 = grind (arith, nat_tests) in
        one_head b gap others rest (sym is ∙ s ∙ ap (λ xs. xs ++ rest) (groups-low m gap below))
    cases zero false e fits s = let above : 128 ≤ gap = grind (arith, nat_tests) in absurd (omega (arith, fits, limit-zero))
    cases (suc m) false e fits s =
        let above : 128 ≤ gap = grind (arith, nat_tests) in
        let heads = one_head b (gap % 128 + 128) others (groups m (gap / 128) ++ rest) (sym is ∙ s ∙ ap (λ xs. xs ++ rest) (groups-high m gap above)) in
        absurd (omega (arith, heads.0))

-- reading the first number: more than one group
pub first_high : (b : ℕ) (bytes others : List ℕ) → bytes ≡ b ∷ others → 128 ≤ b → (more gap : ℕ) (rest : List ℕ) → gap < limit more
    → gap < 4294967296 → bytes ≡ groups more gap ++ rest → (high : ℕ) (left : List ℕ)
    → ((m g : ℕ) (r : List ℕ) → g < limit m → g < 4294967296 → others ≡ groups m g ++ r → (high ≡ g) × (left ≡ r))
    → ((high * 128 % 4294967296 + (b - 128)) % 4294967296 ≡ gap) × (left ≡ rest)
first_high b bytes others is high_b more gap rest small fits spelled high left later = cases more (nat_lt gap 128) refl small spelled
  where
    cases : (m : ℕ) (t : Bool) → nat_lt gap 128 ≡ t → gap < limit m → bytes ≡ groups m gap ++ rest
        → ((high * 128 % 4294967296 + (b - 128)) % 4294967296 ≡ gap) × (left ≡ rest)
    cases m true e small s =
        let below : gap < 128 = grind (arith, nat_tests) in
        let heads = one_head b gap others rest (sym is ∙ s ∙ ap (λ xs. xs ++ rest) (groups-low m gap below)) in
        absurd (omega (arith, heads.0))
    cases zero false e small s = let above : 128 ≤ gap = grind (arith, nat_tests) in absurd (omega (arith, small, limit-zero))
    cases (suc m) false e small s =
        let above : 128 ≤ gap = grind (arith, nat_tests) in
        let heads = one_head b (gap % 128 + 128) others (groups m (gap / 128) ++ rest) (sym is ∙ s ∙ ap (λ xs. xs ++ rest) (groups-high m gap above)) in
        let found = later m (gap / 128) rest (limit-rest m gap small) (omega arith) heads.1 in
        (omega (arith, heads.0, found.0), found.1)

-- empty bytes are those of no numbers, whatever number they follow
pub spelled-nil : (before : ℕ) → IsSpelled before []
spelled-nil before =
    spelled_bytes before [] [] (sym (bytes_after-nil before))
    (record { rising = λ k inside. absurd (omega arith); from = All-nil (λ n. before ≤ n); bound = All-nil (λ n. n < 4294967296) })

-- The first number's distance and the bytes after it.
pub record Splits (before : ℕ) (bytes : List ℕ) : Type 0 where
  pub number : ℕ
  pub others : List ℕ
  pub stored : bytes ≡ bytes_of (number - before) ++ bytes_after number others
  pub rise : Rise before (number ∷ others)

pub splits : (before : ℕ) (bytes : List ℕ) → IsSpelled before bytes → 0 < length bytes → Splits before bytes
splits before bytes h some = by (numbers_after before bytes) refl
  where
    by : (numbers : List ℕ) → numbers_after before bytes ≡ numbers → Splits before bytes
    by [] e = absurd (omega (arith, ap length (h.spelled ∙ ap (bytes_after before) e ∙ bytes_after-nil before)))
    by (n ∷ numbers) e = record {
      number = n;
      others = numbers;
      stored = h.spelled ∙ ap (bytes_after before) e ∙ bytes_after-cons before n numbers;
      rise = rw e at (rise_spelled before bytes h);
    }

module _ (before : ℕ) (bytes : List ℕ) (h : Splits before bytes) where
  pub splits_order : before ≤ h.number
  splits_order = All-head (λ n. before ≤ n) h.number h.others h.rise.from

  pub splits_bound : h.number < 4294967296
  splits_bound = All-head (λ n. n < 4294967296) h.number h.others h.rise.bound

  splits_bytes : bytes ≡ bytes_after before (h.number ∷ h.others)
  splits_bytes = h.stored ∙ sym (bytes_after-cons before h.number h.others)

  pub first_is : (gap : ℕ) (rest : List ℕ) → gap ≡ h.number - before → rest ≡ bytes_after h.number h.others → IsFirstNumber before bytes (before + gap) rest
  first_is gap rest gap_is rest_is =
      let is : before + gap ≡ h.number = omega (arith, splits_order, gap_is) in
      let numbers : numbers_after before bytes ≡ h.number ∷ h.others = spelled_numbers before bytes (h.number ∷ h.others) splits_bytes h.rise in
      let later : numbers_after h.number rest ≡ h.others = spelled_numbers h.number rest h.others rest_is (rise-tail before h.number h.others h.rise) in
      let stored : bytes ≡ bytes_of (h.number - before) ++ rest = h.stored ∙ ap (λ xs. bytes_of (h.number - before) ++ xs) (sym rest_is) in
      rw is (record {
        numbers = numbers ∙ ap (λ ns. h.number ∷ ns) (sym later);
        spelled = spelled_bytes h.number rest h.others rest_is (rise-tail before h.number h.others h.rise);
        order = splits_order;
        shorter = omega (arith, ap length stored, length-append (bytes_of (h.number - before)) rest, length-groups 4 (h.number - before));
      })

-- the first gap, read from the bytes
pub first_found : (before : ℕ) (bytes : List ℕ) (gap : ℕ) (rest : List ℕ) → IsSpelled before bytes → 0 < length bytes
    → ((more g : ℕ) (r : List ℕ) → g < limit more → g < 4294967296 → bytes ≡ groups more g ++ r → (gap ≡ g) × (rest ≡ r))
    → (before + gap < 4294967296) × IsFirstNumber before bytes (before + gap) rest
first_found before bytes gap rest h some read =
    let s = splits before bytes h some in
    let order = splits_order before bytes s in
    let bound = splits_bound before bytes s in
    let small : s.number - before < 4294967296 = omega (arith, bound) in
    let is = read 4 (s.number - before) (bytes_after s.number s.others) (below_limit (s.number - before) small) small s.stored in
    (omega (arith, is.0, order, bound), first_is before bytes s gap rest is.0 is.1)

-- ---- all numbers read

-- Some numbers were read, the last of which is `before`, and `rest` has the bytes of the others.
pub record AreRead (old bytes : List ℕ) (before : ℕ) (rest new : List ℕ) : Type 0 where
  pub is : new ++ numbers_after before rest ≡ old ++ numbers_after 0 bytes
  pub spelled : IsSpelled before rest

pub read_none : (old bytes : List ℕ) → IsSpelled 0 bytes → AreRead old bytes 0 bytes old
read_none old bytes h = record { is = refl; spelled = h }

pub read_more : (old bytes : List ℕ) (before : ℕ) (rest new : List ℕ) (number : ℕ) (after : List ℕ) → AreRead old bytes before rest new
    → IsFirstNumber before rest number after → AreRead old bytes number after (new ++ number ∷ [])
read_more old bytes before rest new number after h first = record {
  is = append_assoc new (number ∷ []) (numbers_after number after) ∙ ap (λ r. new ++ r) (sym first.numbers) ∙ h.is;
  spelled = first.spelled;
}

pub read_ends : (old bytes : List ℕ) (before : ℕ) (rest new : List ℕ) → AreRead old bytes before rest new → length rest ≡ 0
    → new ≡ old ++ numbers_after 0 bytes
read_ends old bytes before rest new h none =
    sym (append-nil new)
    ∙ ap (λ r. new ++ r) (sym (ap (numbers_after before) (nil_from_length rest none) ∙ numbers_after-nil before)) ∙ h.is
