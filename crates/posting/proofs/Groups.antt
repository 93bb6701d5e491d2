-- Numbers in groups of seven bits, written and read back.
use Rattle.std.proofs.Common.{◌≡◌, ℕ, zero, suc, ◌+◌, ◌-◌, ◌*◌, ◌/◌, ◌%◌, ◌^◌, ◌<◌, ◌≤◌, Bool, true, false, cond, nat_lt, List, [], ◌∷◌, ◌++◌}
use Rattle.std.proofs.Common.{length, refl, sym, ap, ◌∙◌, arith, append_assoc, length-append}
use Rattle.std.proofs.Common.{get_or, set, take, drop, length-set}
use Rattle.std.specs.Prelude.{All}
use Rattle.std.specs.List.{count_by}
use Rattle.std.specs.List.Sorted.{IsStrictlyIncreasing}
use Rattle.std.proofs.lemmas.Bool.Decides.{nat_tests}
use Rattle.std.proofs.lemmas.List.Sums.{sum_by-cons}
use Rattle.std.proofs.lemmas.List.{drop_more, length-take-le, take-append-drop}
use Rattle.std.proofs.Math.Seq.{set-append_seam}
use Rattle.std.proofs.lemmas.List.Elements.{All-head, All-tail, All-weaker}
use Rattle.posting.specs.Stored.{groups, bytes_of, bytes_after}
use Rattle.posting.specs.Private.Gaps.{numbers_in, numbers_after, last_of, limit, IsSpelled}
use Rattle.posting.proofs.Rising.{rising-head, rising-tail}

-- a number below 128 is its one group
pub groups-low : (more g : ℕ) → g < 128 → groups more g ≡ g ∷ []
unfolding groups
groups-low zero g low = refl
groups-low (suc more) g low = let e : nat_lt g 128 ≡ true = grind (arith, nat_tests) in rw e refl

-- the first group of a number from 128 on, and the groups of the rest of it
pub groups-high : (more g : ℕ) → 128 ≤ g → groups (suc more) g ≡ (g % 128 + 128) ∷ groups more (g / 128)
unfolding groups
groups-high more g high = let e : nat_lt g 128 ≡ false = grind (arith, nat_tests) in rw e refl

numbers-low : (f : ℕ → ℕ) (b : ℕ) (bytes : List ℕ) → b < 128 → numbers_in f (b ∷ bytes) ≡ f b ∷ numbers_in (λ gap. f b + gap) bytes
unfolding numbers_in
numbers-low f b bytes low = let e : nat_lt b 128 ≡ true = grind (arith, nat_tests) in rw e refl

numbers-high : (f : ℕ → ℕ) (b : ℕ) (bytes : List ℕ) → 128 ≤ b → numbers_in f (b ∷ bytes) ≡ numbers_in (λ high. f (b - 128 + 128 * high)) bytes
unfolding numbers_in
numbers-high f b bytes high = let e : nat_lt b 128 ≡ false = grind (arith, nat_tests) in rw e refl

numbers-none : (f : ℕ → ℕ) → length (numbers_in f []) ≡ 0
unfolding numbers_in
numbers-none f = refl

pub limit-more : (more : ℕ) → limit (suc more) ≡ 128 * limit more
unfolding limit
limit-more more = refl

pub limit-zero : limit zero ≡ 128
unfolding limit
limit-zero = refl

pub below_limit : (g : ℕ) → g < 2 ^ 32 → g < limit 4
unfolding limit
below_limit g small = omega arith

-- what is left of a number without its first group
pub limit-rest : (more g : ℕ) → g < limit (suc more) → g / 128 < limit more
limit-rest more g small = omega (arith, limit-more more)

put_together : (g : ℕ) → g % 128 + 128 - 128 + 128 * (g / 128) ≡ g
put_together g = omega arith

-- groups are read back
numbers-groups : (more : ℕ) (f : ℕ → ℕ) (g : ℕ) (rest : List ℕ) → g < limit more
    → numbers_in f (groups more g ++ rest) ≡ f g ∷ numbers_in (λ gap. f g + gap) rest
numbers-groups zero f g rest small =
    let low : g < 128 = omega (arith, limit-zero) in
    ap (λ bytes. numbers_in f (bytes ++ rest)) (groups-low zero g low) ∙ numbers-low f g rest low
numbers-groups (suc more) f g rest small =
    cases (nat_lt g 128) refl (λ later. numbers-groups more (λ h. f (g % 128 + 128 - 128 + 128 * h)) (g / 128) rest later)
  where
    cases : (b : Bool) → nat_lt g 128 ≡ b
        → (g / 128 < limit more
        → numbers_in (λ h. f (g % 128 + 128 - 128 + 128 * h)) (groups more (g / 128) ++ rest)
        ≡ f (g % 128 + 128 - 128 + 128 * (g / 128)) ∷ numbers_in (λ gap. f (g % 128 + 128 - 128 + 128 * (g / 128)) + gap) rest)
        → numbers_in f (groups (suc more) g ++ rest) ≡ f g ∷ numbers_in (λ gap. f g + gap) rest
    cases true e later =
        let low : g < 128 = grind (arith, nat_tests) in
        ap (λ bytes. numbers_in f (bytes ++ rest)) (groups-low (suc more) g low) ∙ numbers-low f g rest low
    cases false e later =
        let high : 128 ≤ g = grind (arith, nat_tests) in
        ap (λ bytes. numbers_in f (bytes ++ rest)) (groups-high more g high)
        ∙ numbers-high f (g % 128 + 128) (groups more (g / 128) ++ rest) (omega arith)
        ∙ later (limit-rest more g small)
        ∙ ap (λ n. f n ∷ numbers_in (λ gap. f n + gap) rest) (put_together g)

pub bytes_after-cons : (before n : ℕ) (numbers : List ℕ) → bytes_after before (n ∷ numbers) ≡ bytes_of (n - before) ++ bytes_after n numbers
unfolding bytes_after
bytes_after-cons before n numbers = refl

pub bytes_after-nil : (before : ℕ) → bytes_after before [] ≡ []
unfolding bytes_after
bytes_after-nil before = refl

pub last_of-cons : (before n : ℕ) (numbers : List ℕ) → last_of before (n ∷ numbers) ≡ last_of n numbers
unfolding last_of
last_of-cons before n numbers = refl

pub last_of-nil : (before : ℕ) → last_of before [] ≡ before
unfolding last_of
last_of-nil before = refl

pub numbers_after-nil : (before : ℕ) → numbers_after before [] ≡ []
unfolding numbers_in
numbers_after-nil before = refl

-- the first number is read back
pub numbers_after-cons : (before n : ℕ) (rest : List ℕ) → before ≤ n → n < 2 ^ 32
    → numbers_after before (bytes_of (n - before) ++ rest) ≡ n ∷ numbers_after n rest
numbers_after-cons before n rest order small =
    numbers-groups 4 (λ gap. before + gap) (n - before) rest (below_limit (n - before) (omega arith))
    ∙ ap (λ m. m ∷ numbers_after m rest) (is order)
  where
    is : before ≤ n → before + (n - before) ≡ n
    is order = omega arith

-- The numbers rise, none is below `before`, and each fits in 32 bits.
pub record Rise (before : ℕ) (numbers : List ℕ) : Type 0 where
  pub rising : IsStrictlyIncreasing numbers
  pub from : All (λ n. before ≤ n) numbers
  pub bound : All (λ n. n < 2 ^ 32) numbers

pub rise-tail : (before n : ℕ) (numbers : List ℕ) → Rise before (n ∷ numbers) → Rise n numbers
rise-tail before n numbers h = record {
  rising = rising-tail n numbers h.rising;
  from = All-weaker (λ m. n < m) (λ m. n ≤ m) (λ m lt. omega arith) numbers (rising-head n numbers h.rising);
  bound = All-tail (λ m. m < 2 ^ 32) n numbers h.bound;
}

-- stored numbers are read back
pub numbers-stored : (before : ℕ) (numbers : List ℕ) → Rise before numbers → numbers_after before (bytes_after before numbers) ≡ numbers
numbers-stored before [] h = ap (numbers_after before) (bytes_after-nil before) ∙ numbers_after-nil before
numbers-stored before (n ∷ numbers) h =
    ap (numbers_after before) (bytes_after-cons before n numbers)
    ∙ numbers_after-cons before n (bytes_after n numbers) (All-head (λ m. before ≤ m) n numbers h.from) (All-head (λ m. m < 2 ^ 32) n numbers h.bound)
    ∙ ap (λ ns. n ∷ ns) (numbers-stored n numbers (rise-tail before n numbers h))

pub rise_spelled : (before : ℕ) (bytes : List ℕ) → IsSpelled before bytes → Rise before (numbers_after before bytes)
rise_spelled before bytes h = record { rising = h.rising; from = h.from; bound = h.bound }

-- the bytes of rising numbers, with what is read back
pub spelled_bytes : (before : ℕ) (bytes numbers : List ℕ) → bytes ≡ bytes_after before numbers → Rise before numbers → IsSpelled before bytes
spelled_bytes before bytes numbers is h =
    let back : numbers_after before bytes ≡ numbers = ap (numbers_after before) is ∙ numbers-stored before numbers h in
    record { spelled = is ∙ ap (bytes_after before) (sym back); rising = rw back h.rising; from = rw back h.from; bound = rw back h.bound }

pub spelled_numbers : (before : ℕ) (bytes numbers : List ℕ) → bytes ≡ bytes_after before numbers → Rise before numbers → numbers_after before bytes ≡ numbers
spelled_numbers before bytes numbers is h = ap (numbers_after before) is ∙ numbers-stored before numbers h

-- numbers in two parts
pub bytes_after-append : (before : ℕ) (xs ys : List ℕ) → bytes_after before (xs ++ ys) ≡ bytes_after before xs ++ bytes_after (last_of before xs) ys
bytes_after-append before [] ys = rw (bytes_after-nil, last_of-nil) refl
bytes_after-append before (x ∷ xs) ys =
    bytes_after-cons before x (xs ++ ys) ∙ ap (λ bytes. bytes_of (x - before) ++ bytes) (bytes_after-append x xs ys)
    ∙ sym (append_assoc (bytes_of (x - before)) (bytes_after x xs) (bytes_after (last_of x xs) ys))
    ∙ ap (λ bytes. bytes ++ bytes_after (last_of x xs) ys) (sym (bytes_after-cons before x xs))
    ∙ ap (λ l. bytes_after before (x ∷ xs) ++ bytes_after l ys) (sym (last_of-cons before x xs))

pub last_of-append : (before : ℕ) (xs ys : List ℕ) → last_of before (xs ++ ys) ≡ last_of (last_of before xs) ys
last_of-append before [] ys = ap (λ l. last_of l ys) (sym (last_of-nil before))
last_of-append before (x ∷ xs) ys = last_of-cons before x (xs ++ ys) ∙ last_of-append x xs ys ∙ ap (λ l. last_of l ys) (sym (last_of-cons before x xs))

pub groups-one : (g : ℕ) → groups zero g ≡ g ∷ []
unfolding groups
groups-one g = refl

-- Each number takes at least one byte.
pub length-groups : (more g : ℕ) → 0 < length (groups more g)
length-groups zero g = rw (groups-one g) (omega arith)
length-groups (suc more) g = cases (nat_lt g 128) refl
  where
    cases : (b : Bool) → nat_lt g 128 ≡ b → 0 < length (groups (suc more) g)
    cases true e = let low : g < 128 = grind (arith, nat_tests) in rw (groups-low (suc more) g low) (omega arith)
    cases false e = let high : 128 ≤ g = grind (arith, nat_tests) in rw (groups-high more g high) (omega arith)

-- each number takes one byte that is below 128
pub length-numbers : (f : ℕ → ℕ) (bytes : List ℕ) → length (numbers_in f bytes) ≡ count_by (λ b. nat_lt b 128) bytes
length-numbers f [] = numbers-none f
length-numbers f (b ∷ bytes) =
    cases (nat_lt b 128) refl (length-numbers (λ gap. f b + gap) bytes) (length-numbers (λ high. f (b - 128 + 128 * high)) bytes)
  where
    cases : (t : Bool) → nat_lt b 128 ≡ t → length (numbers_in (λ gap. f b + gap) bytes) ≡ count_by (λ c. nat_lt c 128) bytes
        → length (numbers_in (λ high. f (b - 128 + 128 * high)) bytes) ≡ count_by (λ c. nat_lt c 128) bytes
        → length (numbers_in f (b ∷ bytes)) ≡ count_by (λ c. nat_lt c 128) (b ∷ bytes)
    cases true e one more =
        let low : b < 128 = grind (arith, nat_tests) in
        let both : count_by (λ c. nat_lt c 128) (b ∷ bytes) ≡ 1 + count_by (λ c. nat_lt c 128) bytes =
        sum_by-cons (λ c. cond (nat_lt c 128) 1 0) b bytes ∙ ap (λ t. cond t 1 0 + count_by (λ c. nat_lt c 128) bytes) e in
        omega (arith, ap length (numbers-low f b bytes low), one, both)
    cases false e one more =
        let high : 128 ≤ b = grind (arith, nat_tests) in
        let both : count_by (λ c. nat_lt c 128) (b ∷ bytes) ≡ 0 + count_by (λ c. nat_lt c 128) bytes =
        sum_by-cons (λ c. cond (nat_lt c 128) 1 0) b bytes ∙ ap (λ t. cond t 1 0 + count_by (λ c. nat_lt c 128) bytes) e in
        omega (arith, ap length (numbers-high f b bytes high), more, both)

-- A lower number takes no more bytes, and 32 bits take five at most.
pub groups-lower : (more a b : ℕ) → a ≤ b → length (groups more a) ≤ length (groups more b)
groups-lower zero a b le = rw (groups-one a, groups-one b) (omega arith)
groups-lower (suc more) a b le = cases (nat_lt a 128) (nat_lt b 128) refl refl (groups-lower more (a / 128) (b / 128))
  where
    cases : (p q : Bool) → nat_lt a 128 ≡ p → nat_lt b 128 ≡ q → (a / 128 ≤ b / 128 → length (groups more (a / 128)) ≤ length (groups more (b / 128)))
        → length (groups (suc more) a) ≤ length (groups (suc more) b)
    cases true q e f later =
        let low : a < 128 = grind (arith, nat_tests) in
        rw (groups-low (suc more) a low) (omega (arith, length-groups (suc more) b))
    cases false true e f later =
        let high : 128 ≤ a = grind (arith, nat_tests) in
        let low : b < 128 = grind (arith, nat_tests) in
        absurd (omega arith)
    cases false false e f later =
        let high : 128 ≤ a = grind (arith, nat_tests) in
        let high' : 128 ≤ b = grind (arith, nat_tests) in
        rw (groups-high more a high, groups-high more b high') (omega (arith, later (omega arith)))

pub groups-most : (more g : ℕ) → length (groups more g) ≤ more + 1
groups-most zero g = rw (groups-one g) (omega arith)
groups-most (suc more) g = cases (nat_lt g 128) refl (groups-most more (g / 128))
  where
    cases : (b : Bool) → nat_lt g 128 ≡ b → length (groups more (g / 128)) ≤ more + 1 → length (groups (suc more) g) ≤ suc more + 1
    cases true e later = let low : g < 128 = grind (arith, nat_tests) in rw (groups-low (suc more) g low) (omega arith)
    cases false e later = let high : 128 ≤ g = grind (arith, nat_tests) in rw (groups-high more g high) (omega (arith, later))

-- The sum of two numbers takes no more bytes than the two.
pub groups-joined : (more a b carry : ℕ) → carry ≤ 1 → length (groups more (a + b + carry)) ≤ length (groups more a) + length (groups more b)
groups-joined zero a b carry small = rw (groups-one (a + b + carry), groups-one a, groups-one b) (omega arith)
groups-joined (suc more) a b carry small = cases (nat_lt a 128) (nat_lt b 128) (nat_lt (a + b + carry) 128) refl refl refl (groups-joined more)
  where
    cases : (p q r : Bool) → nat_lt a 128 ≡ p → nat_lt b 128 ≡ q → nat_lt (a + b + carry) 128 ≡ r
        → ((a b carry : ℕ) → carry ≤ 1 → length (groups more (a + b + carry)) ≤ length (groups more a) + length (groups more b))
        → length (groups (suc more) (a + b + carry)) ≤ length (groups (suc more) a) + length (groups (suc more) b)
    cases p q true e f g later =
        let low : a + b + carry < 128 = grind (arith, nat_tests) in
        rw (groups-low (suc more) (a + b + carry) low) (omega (arith, length-groups (suc more) a, length-groups (suc more) b))
    cases true true false e f g later =
        let low : a < 128 = grind (arith, nat_tests) in
        let low' : b < 128 = grind (arith, nat_tests) in
        let high : 128 ≤ a + b + carry = grind (arith, nat_tests) in
        let rest : (a + b + carry) / 128 ≡ 1 = omega arith in
        rw (
          groups-low (suc more) a low,
          groups-low (suc more) b low',
          groups-high more (a + b + carry) high,
          rest,
          groups-low more 1 (omega arith),
        ) (omega arith)
    cases true false false e f g later =
        let low : a < 128 = grind (arith, nat_tests) in
        let high' : 128 ≤ b = grind (arith, nat_tests) in
        let high : 128 ≤ a + b + carry = grind (arith, nat_tests) in
        let next : (a + b + carry) / 128 ≡ 0 + b / 128 + ((a + b + carry) / 128 - b / 128) = omega arith in
        let fits = later 0 (b / 128) ((a + b + carry) / 128 - b / 128) (omega arith) in
        rw (groups-low (suc more) a low, groups-high more b high', groups-high more (a + b + carry) high)
        (omega (arith, ap (λ n. length (groups more n)) next, fits, ap length (groups-low more 0 (omega arith))))
    cases false true false e f g later =
        let high' : 128 ≤ a = grind (arith, nat_tests) in
        let low : b < 128 = grind (arith, nat_tests) in
        let high : 128 ≤ a + b + carry = grind (arith, nat_tests) in
        let next : (a + b + carry) / 128 ≡ a / 128 + 0 + ((a + b + carry) / 128 - a / 128) = omega arith in
        let fits = later (a / 128) 0 ((a + b + carry) / 128 - a / 128) (omega arith) in
        rw (groups-low (suc more) b low, groups-high more a high', groups-high more (a + b + carry) high)
        (omega (arith, ap (λ n. length (groups more n)) next, fits, ap length (groups-low more 0 (omega arith))))
    cases false false false e f g later =
        let high' : 128 ≤ a = grind (arith, nat_tests) in
        let high'' : 128 ≤ b = grind (arith, nat_tests) in
        let high : 128 ≤ a + b + carry = grind (arith, nat_tests) in
        let next : (a + b + carry) / 128 ≡ a / 128 + b / 128 + ((a + b + carry) / 128 - (a / 128 + b / 128)) = omega arith in
        let fits = later (a / 128) (b / 128) ((a + b + carry) / 128 - (a / 128 + b / 128)) (omega arith) in
        rw (groups-high more a high', groups-high more b high'', groups-high more (a + b + carry) high)
        (omega (arith, ap (λ n. length (groups more n)) next, fits))

-- A number's groups, of which the first are pushed and `left` has the others.
pub record Pushing (old : List ℕ) (old_capacity gap : ℕ) (new : List ℕ) (capacity left : ℕ) : Type 0 where
  pub more : ℕ
  pub small : left < limit more
  pub items : new ++ groups more left ≡ old ++ bytes_of gap
  pub capacity_is : capacity ≡ old_capacity
  pub room : length new + more + 1 ≤ capacity

pub pushing_begins : (old : List ℕ) (capacity gap : ℕ) → gap < 2 ^ 32 → length old + 5 ≤ capacity → Pushing old capacity gap old capacity gap
pushing_begins old capacity gap small room = record { more = 4; small = below_limit gap small; items = refl; capacity_is = refl; room = omega arith }

pub pushing_more : (old new : List ℕ) (c gap capacity left b : ℕ) → Pushing old c gap new capacity left → 128 ≤ left → b ≡ left % 128 + 128
    → Pushing old c gap (new ++ b ∷ []) capacity (left / 128)
pushing_more old new c gap capacity left b h high is = by h.more refl
  where
    by : (more : ℕ) → h.more ≡ more → Pushing old c gap (new ++ b ∷ []) capacity (left / 128)
    by zero e = absurd (omega (arith, limit-zero, rw e at h.small))
    by (suc more) e = record {
      more = more;
      small = limit-rest more left (rw e at h.small);
      items =
          append_assoc (new) (b ∷ []) (groups more (left / 128))
          ∙ ap (λ m. new ++ m ∷ groups more (left / 128)) is
          ∙ ap (λ bytes. new ++ bytes) (sym (groups-high more left high))
          ∙ rw e at h.items;
      capacity_is = h.capacity_is;
      room = omega (arith, length-append new (b ∷ []), h.room, e);
    }

pub pushing_ends : (old new : List ℕ) (c gap capacity left : ℕ) → Pushing old c gap new capacity left → left < 128 → new ++ left ∷ [] ≡ old ++ bytes_of gap
pushing_ends old new c gap capacity left h low = ap (λ bytes. new ++ bytes) (sym (groups-low h.more left low)) ∙ h.items

-- A number's groups, of which the first are written and `left` has the others.
pub record Writing (old : List ℕ) (from gap : ℕ) (new : List ℕ) (place left : ℕ) : Type 0 where
  pub more : ℕ
  pub written : List ℕ
  pub small : left < limit more
  pub len : length new ≡ length old
  pub written_len : length written ≡ place
  pub items : written ++ groups more left ≡ take from old ++ bytes_of gap
  pub bytes : new ≡ written ++ drop place old
  pub room : place + length (groups more left) ≤ length old

pub writing_begins : (old : List ℕ) (from gap : ℕ) → gap < 2 ^ 32 → from + length (bytes_of gap) ≤ length old → Writing old from gap old from gap
writing_begins old from gap small room = record {
  more = 4;
  written = take from old;
  small = below_limit gap small;
  len = refl;
  written_len = length-take-le from old (omega arith);
  items = refl;
  bytes = sym (take-append-drop from old);
  room = room;
}

pub writing_room : (old : List ℕ) (from gap : ℕ) (new : List ℕ) (place left : ℕ) → Writing old from gap new place left → place < length new
writing_room old from gap new place left h = omega (arith, h.room, h.len, length-groups h.more left)

write_at : (written old : List ℕ) (place b : ℕ) → length written ≡ place → place < length old
    → set (written ++ drop place old) place b ≡ (written ++ b ∷ []) ++ drop (place + 1) old
write_at written old place b len inside =
    ap (λ xs. set (written ++ xs) place b) (drop_more old place 0 inside)
    ∙ ap (λ i. set (written ++ get_or old place 0 ∷ drop (place + 1) old) i b) (sym len)
    ∙ set-append_seam written (get_or old place 0) (drop (place + 1) old) b
    ∙ sym (append_assoc (written) (b ∷ []) (drop (place + 1) old))

pub writing_more : (old : List ℕ) (from gap : ℕ) (new : List ℕ) (place left b : ℕ) → Writing old from gap new place left → 128 ≤ left
    → b ≡ left % 128 + 128 → Writing old from gap (set new place b) (place + 1) (left / 128)
writing_more old from gap new place left b h high is = by h.more refl
  where
    by : (more : ℕ) → h.more ≡ more → Writing old from gap (set new place b) (place + 1) (left / 128)
    by zero e = absurd (omega (arith, limit-zero, rw e at h.small))
    by (suc more) e =
        let takes : length (groups (suc more) left) ≡ length (groups more (left / 128)) + 1 = ap length (groups-high more left high) ∙ omega arith in
        let room : place + length (groups (suc more) left) ≤ length old = rw e at h.room in
        record {
          more = more;
          written = h.written ++ b ∷ [];
          small = limit-rest more left (rw e at h.small);
          len = length-set new place b ∙ h.len;
          written_len = omega (arith, length-append h.written (b ∷ []), h.written_len);
          items =
              append_assoc (h.written) (b ∷ []) (groups more (left / 128))
              ∙ ap (λ m. h.written ++ m ∷ groups more (left / 128)) is
              ∙ ap (λ bytes. h.written ++ bytes) (sym (groups-high more left high))
              ∙ rw e at h.items;
          bytes = ap (λ xs. set xs place b) h.bytes ∙ write_at h.written old place b h.written_len (omega (arith, takes, room));
          room = omega (arith, takes, room);
        }

pub writing_ends : (old : List ℕ) (from gap : ℕ) (new : List ℕ) (place left : ℕ) → Writing old from gap new place left → left < 128
    → from ≤ length old
    → (set new place left ≡ take from old ++ (bytes_of gap ++ drop (place + 1) old)) × (place + 1 ≡ from + length (bytes_of gap))
writing_ends old from gap new place left h low within = (bytes, place_is)
  where
    last : h.written ++ left ∷ [] ≡ take from old ++ bytes_of gap
    last = ap (λ xs. h.written ++ xs) (sym (groups-low h.more left low)) ∙ h.items

    inside : place < length old
    inside = omega (arith, h.room, length-groups h.more left)

    bytes : set new place left ≡ take from old ++ (bytes_of gap ++ drop (place + 1) old)
    bytes =
        ap (λ xs. set xs place left) h.bytes ∙ write_at h.written old place left h.written_len inside ∙ ap (λ xs. xs ++ drop (place + 1) old) last
        ∙ append_assoc (take from old) (bytes_of gap) (drop (place + 1) old)

    place_is : place + 1 ≡ from + length (bytes_of gap)
    place_is =
        omega (
          arith,
          ap length last,
          length-append h.written (left ∷ []),
          length-append (take from old) (bytes_of gap),
          h.written_len,
          length-take-le from old within,
        )

-- reading the first number: no bytes, or a number of one group
one_head : (x y : ℕ) (xs ys : List ℕ) → x ∷ xs ≡ y ∷ ys → (x ≡ y) × (xs ≡ ys)
one_head x y xs ys e = (cc, cc)

pub first_none : (bytes : List ℕ) → length bytes ≡ 0 → (more gap : ℕ) (rest : List ℕ) → bytes ≡ groups more gap ++ rest → ⊥
first_none bytes none more gap rest is = omega (arith, ap length is, length-append (groups more gap) rest, length-groups more gap)

pub first_low : (b : ℕ) (bytes others : List ℕ) → bytes ≡ b ∷ others → b < 128 → (more gap : ℕ) (rest : List ℕ) → gap < limit more
    → bytes ≡ groups more gap ++ rest → (b ≡ gap) × (others ≡ rest)
first_low b bytes others is low more gap rest small spelled = cases more (nat_lt gap 128) refl small spelled
  where
    cases : (m : ℕ) (t : Bool) → nat_lt gap 128 ≡ t → gap < limit m → bytes ≡ groups m gap ++ rest → (b ≡ gap) × (others ≡ rest)
    cases m true e fits s =
        let below : gap < 128 = grind (arith, nat_tests) in
        one_head b gap others rest (sym is ∙ s ∙ ap (λ xs. xs ++ rest) (groups-low m gap below))
    cases zero false e fits s = let above : 128 ≤ gap = grind (arith, nat_tests) in absurd (omega (arith, fits, limit-zero))
    cases (suc m) false e fits s =
        let above : 128 ≤ gap = grind (arith, nat_tests) in
        let heads = one_head b (gap % 128 + 128) others (groups m (gap / 128) ++ rest) (sym is ∙ s ∙ ap (λ xs. xs ++ rest) (groups-high m gap above)) in
        absurd (omega (arith, heads.0))

-- reading the first number: more than one group
pub first_high : (b : ℕ) (bytes others : List ℕ) → bytes ≡ b ∷ others → 128 ≤ b → (more gap : ℕ) (rest : List ℕ) → gap < limit more
    → gap < 2 ^ 32 → bytes ≡ groups more gap ++ rest → (high : ℕ) (left : List ℕ)
    → ((m g : ℕ) (r : List ℕ) → g < limit m → g < 2 ^ 32 → others ≡ groups m g ++ r → (high ≡ g) × (left ≡ r))
    → ((high * 128 % 2 ^ 32 + (b - 128)) % 2 ^ 32 ≡ gap) × (left ≡ rest)
first_high b bytes others is high_b more gap rest small fits spelled high left later = cases more (nat_lt gap 128) refl small spelled
  where
    cases : (m : ℕ) (t : Bool) → nat_lt gap 128 ≡ t → gap < limit m → bytes ≡ groups m gap ++ rest
        → ((high * 128 % 2 ^ 32 + (b - 128)) % 2 ^ 32 ≡ gap) × (left ≡ rest)
    cases m true e small s =
        let below : gap < 128 = grind (arith, nat_tests) in
        let heads = one_head b gap others rest (sym is ∙ s ∙ ap (λ xs. xs ++ rest) (groups-low m gap below)) in
        absurd (omega (arith, heads.0))
    cases zero false e small s = let above : 128 ≤ gap = grind (arith, nat_tests) in absurd (omega (arith, small, limit-zero))
    cases (suc m) false e small s =
        let above : 128 ≤ gap = grind (arith, nat_tests) in
        let heads = one_head b (gap % 128 + 128) others (groups m (gap / 128) ++ rest) (sym is ∙ s ∙ ap (λ xs. xs ++ rest) (groups-high m gap above)) in
        let found = later m (gap / 128) rest (limit-rest m gap small) (omega arith) heads.1 in
        (omega (arith, heads.0, found.0), found.1)
