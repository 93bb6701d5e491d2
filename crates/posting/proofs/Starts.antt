-- Bytes with which two lists begin.
use Rattle.std.proofs.Common.{◌≡◌, ℕ, zero, suc, ◌+◌, ◌-◌, ◌*◌, ◌/◌, ◌%◌, ◌^◌, ◌<◌, ◌≤◌, Bool, true, false, nat_lt, List, [], ◌∷◌, ◌++◌, length, take}
use Rattle.std.proofs.Common.{drop, get_or, refl, sym, ap, ◌∙◌, subst, ◌⊎◌, inl, inr, arith, length-append}
use Rattle.std.proofs.lemmas.Bool.{cases_lt}
use Rattle.std.proofs.lemmas.Bool.Decides.{nat_tests}
use Rattle.std.proofs.lemmas.List.{length-take-le, get_or-take, get_or_append_left, get_or-append-add, ext_get_or}
use Rattle.std.proofs.lemmas.List.Elements.{All-head}
use Rattle.std.proofs.Math.Nat.{mul-add, mul-le-mul_left, mul_assoc}
use Rattle.std.proofs.Math.Seq.{take-append_seam, drop-append_seam}
use Rattle.posting.specs.Stored.{groups, bytes_of, bytes_after}
use Rattle.posting.specs.Private.Gaps.{limit, numbers_after, last_of, IsSpelled, AreSameBytes, IsSeam, IsSameStart}
use Rattle.posting.proofs.Groups.{below_limit, limit-zero, limit-rest, groups-low, groups-high, Rise, rise-tail, rise_spelled}
use Rattle.posting.proofs.Groups.{spelled_bytes, spelled_numbers, bytes_after-cons, bytes_after-nil, bytes_after-append, last_of-cons, last_of-nil, length-groups}
use Rattle.posting.proofs.Cuts.{groups-inner, rise-front, rise-later}

-- ---- bytes cut where a number ends

record Cut (before : ℕ) (numbers : List ℕ) (place : ℕ) : Type 0 where
  xs : List ℕ
  ys : List ℕ
  is : numbers ≡ xs ++ ys
  place_is : place ≡ length (bytes_after before xs)

cut : (before : ℕ) (numbers : List ℕ) (place : ℕ) → IsSeam (bytes_after before numbers) place → place ≤ length (bytes_after before numbers)
    → Cut before numbers place
cut before numbers zero seam fits = record { xs = []; ys = numbers; is = refl; place_is = sym (ap length (bytes_after-nil before)) }
cut before [] (suc k) seam fits = absurd (omega (arith, fits, ap length (bytes_after-nil before)))
cut before (n ∷ numbers) (suc k) seam fits = by (cases_lt (suc k) (length (bytes_of (n - before)))) (cut n numbers (suc k - length (bytes_of (n - before))))
  where
    low : get_or (bytes_of (n - before) ++ bytes_after n numbers) k 0 < 128
    low = let at : suc k - 1 ≡ k = omega arith in rw (at, bytes_after-cons before n numbers) at (seam (omega arith))

    count : length (bytes_after before (n ∷ numbers)) ≡ length (bytes_of (n - before)) + length (bytes_after n numbers)
    count = ap length (bytes_after-cons before n numbers) ∙ length-append (bytes_of (n - before)) (bytes_after n numbers)

    by : (suc k < length (bytes_of (n - before))) ⊎ (length (bytes_of (n - before)) ≤ suc k)
        → (IsSeam (bytes_after n numbers) (suc k - length (bytes_of (n - before)))
        → suc k - length (bytes_of (n - before)) ≤ length (bytes_after n numbers)
        → Cut n numbers (suc k - length (bytes_of (n - before)))) → Cut before (n ∷ numbers) (suc k)
    by (inl lt) later =
        let high = groups-inner 4 (n - before) k (omega (arith, lt)) in
        absurd (omega (arith, low, high, get_or_append_left (bytes_of (n - before)) (bytes_after n numbers) 0 k (omega (arith, lt))))
    by (inr ge) later =
        let rest = later seam_later (omega (arith, fits, count, ge)) in
        record {
          xs = n ∷ rest.xs;
          ys = rest.ys;
          is = ap (λ ns. n ∷ ns) rest.is;
          place_is =
              omega (
                arith,
                rest.place_is,
                ge,
                ap length (bytes_after-cons before n rest.xs),
                length-append (bytes_of (n - before)) (bytes_after n rest.xs),
              );
        }
      where
        seam_later : IsSeam (bytes_after n numbers) (suc k - length (bytes_of (n - before)))
        seam_later some =
            let at : k ≡ length (bytes_of (n - before)) + (suc k - length (bytes_of (n - before)) - 1) = omega (arith, some) in
            let same = get_or-append-add (bytes_of (n - before)) (bytes_after n numbers) (suc k - length (bytes_of (n - before)) - 1) 0 in
            let there : get_or (bytes_of (n - before) ++ bytes_after n numbers) k 0 ≡ get_or (bytes_after n numbers) (suc k - length (bytes_of (n - before)) - 1) 0 =
            ap (λ i. get_or (bytes_of (n - before) ++ bytes_after n numbers) i 0) at ∙ same in
            omega (arith, low, there)

pub record Parts (before : ℕ) (bytes : List ℕ) (place : ℕ) : Type 0 where
  pub numbers : numbers_after before bytes
      ≡ numbers_after before (take place bytes) ++ numbers_after (last_of before (numbers_after before (take place bytes))) (drop place bytes)
  pub front : IsSpelled before (take place bytes)
  pub rest : IsSpelled (last_of before (numbers_after before (take place bytes))) (drop place bytes)

pub parts : (before : ℕ) (bytes : List ℕ) (place : ℕ) → IsSpelled before bytes → IsSeam bytes place → place ≤ length bytes → Parts before bytes place
parts before bytes place h seam fits =
    let c = cut before (numbers_after before bytes) place (rw h.spelled at seam) (rw h.spelled at fits) in
    let all : Rise before (c.xs ++ c.ys) = subst (Rise before) c.is (rise_spelled before bytes h) in
    let stored : bytes ≡ bytes_after before c.xs ++ bytes_after (last_of before c.xs) c.ys =
    h.spelled ∙ ap (bytes_after before) c.is ∙ bytes_after-append before c.xs c.ys in
    let taken : take place bytes ≡ bytes_after before c.xs =
    ap (take place) stored ∙ ap (λ n. take n (bytes_after before c.xs ++ bytes_after (last_of before c.xs) c.ys)) c.place_is
    ∙ take-append_seam (bytes_after before c.xs) (bytes_after (last_of before c.xs) c.ys) in
    let left : drop place bytes ≡ bytes_after (last_of before c.xs) c.ys =
    ap (drop place) stored ∙ ap (λ n. drop n (bytes_after before c.xs ++ bytes_after (last_of before c.xs) c.ys)) c.place_is
    ∙ drop-append_seam (bytes_after before c.xs) (bytes_after (last_of before c.xs) c.ys) in
    let front_rise = rise-front before c.xs c.ys all in
    let rest_rise = rise-later before c.xs c.ys all in
    let front_is : numbers_after before (take place bytes) ≡ c.xs = spelled_numbers before (take place bytes) c.xs taken front_rise in
    let rest_is : numbers_after (last_of before c.xs) (drop place bytes) ≡ c.ys =
    spelled_numbers (last_of before c.xs) (drop place bytes) c.ys left rest_rise in
    record {
      numbers =
          c.is ∙ ap (λ xs. xs ++ c.ys) (sym front_is) ∙ ap (λ ys. numbers_after before (take place bytes) ++ ys) (sym rest_is)
          ∙ ap (λ xs. numbers_after before (take place bytes) ++ numbers_after (last_of before xs) (drop place bytes)) (sym front_is);
      front = spelled_bytes before (take place bytes) c.xs taken front_rise;
      rest = subst (λ xs. IsSpelled (last_of before xs) (drop place bytes)) (sym front_is) (spelled_bytes (last_of before c.xs) (drop place bytes) c.ys left rest_rise);
    }

-- two lists with the same bytes up to a place where a number ends
pub same_start : (before : ℕ) (left right : List ℕ) (same place at : ℕ) → IsSpelled before left → IsSpelled before right → AreSameBytes left right same
    → IsSeam left place → place ≤ same → at ≡ last_of before (numbers_after before (take place left)) → IsSameStart before left right place at
same_start before left right same place at l r bytes seam fits at_is =
    let in_left : place ≤ length left = omega (arith, bytes.in_left) in
    let in_right : place ≤ length right = omega (arith, bytes.in_right) in
    let taken : take place right ≡ take place left =
    ext_get_or 0 (take place right) (take place left) (omega (arith, length-take-le place left in_left, length-take-le place right in_right))
    (λ i inside.
    let before_place : i < place = omega (arith, inside, length-take-le place right in_right) in
    get_or-take place right i 0 before_place ∙ sym (bytes.same i (omega (arith, before_place))) ∙ sym (get_or-take place left i 0 before_place)) in
    let seam_right : IsSeam right place =
    λ some.
    let low = seam some in
    omega (arith, low, bytes.same (place - 1) (omega (arith, some))) in
    let p = parts before left place l seam in_left in
    let q = parts before right place r seam_right in_right in
    record {
      same = numbers_after before (take place left);
      in_left = in_left;
      in_right = in_right;
      numbers_left = rw at_is p.numbers;
      numbers_right =
          q.numbers
          ∙ ap (λ xs. numbers_after before xs ++ numbers_after (last_of before (numbers_after before xs)) (drop place right)) taken
          ∙ ap (λ n. numbers_after before (take place left) ++ numbers_after n (drop place right)) (sym at_is);
      spelled_left = rw at_is p.rest;
      spelled_right =
          subst (λ n. IsSpelled n (drop place right)) (sym at_is)
          (subst (λ xs. IsSpelled (last_of before (numbers_after before xs)) (drop place right)) taken q.rest);
    }

-- ---- bytes added up to the last number

-- `at` is a number, and the bytes are those of later ones.
pub record Between (last : ℕ) (rest : List ℕ) (at unit : ℕ) : Type 0 where
  pub later : List ℕ
  pub rest_is : rest ≡ bytes_after at later
  pub rise : Rise at later
  pub one : unit ≡ 1
  pub ends : last_of at later ≡ last

-- `at` has a part of a number, and `left` has the other groups of it.
pub record Within (last : ℕ) (rest : List ℕ) (at unit : ℕ) : Type 0 where
  pub more : ℕ
  pub left : ℕ
  pub number : ℕ
  pub later : List ℕ
  pub small : left < limit more
  pub rest_is : rest ≡ groups more left ++ bytes_after number later
  pub rise : Rise number later
  pub sum : at + unit * left ≡ number
  pub bound : number < 2 ^ 32
  pub ends : last_of number later ≡ last

abbrev pub Adding : ℕ → List ℕ → ℕ → ℕ → Type 0
Adding last rest at unit = Between last rest at unit ⊎ Within last rest at unit

pub adding_begins : (before : ℕ) (bytes : List ℕ) → IsSpelled before bytes → Adding (last_of before (numbers_after before bytes)) bytes before 1
adding_begins before bytes h = inl (record {
  later = numbers_after before bytes;
  rest_is = h.spelled;
  rise = rise_spelled before bytes h;
  one = refl;
  ends = refl;
})

enters : (last : ℕ) (rest : List ℕ) (at unit : ℕ) → Adding last rest at unit → 0 < length rest → Within last rest at unit
enters last rest at unit (inr h) some = h
enters last rest at unit (inl h) some = by h.later refl
  where
    by : (later : List ℕ) → h.later ≡ later → Within last rest at unit
    by [] e = absurd (omega (arith, some, ap length (h.rest_is ∙ ap (bytes_after at) e ∙ bytes_after-nil at)))
    by (n ∷ ns) e =
        let rise : Rise at (n ∷ ns) = rw e at h.rise in
        let order : at ≤ n = All-head (λ m. at ≤ m) n ns rise.from in
        let bound : n < 2 ^ 32 = All-head (λ m. m < 2 ^ 32) n ns rise.bound in
        record {
          more = 4;
          left = n - at;
          number = n;
          later = ns;
          small = below_limit (n - at) (omega (arith, bound));
          rest_is = h.rest_is ∙ ap (bytes_after at) e ∙ bytes_after-cons at n ns;
          rise = rise-tail at n ns rise;
          sum = rw h.one (omega (arith, order));
          bound = bound;
          ends = sym (last_of-cons at n ns) ∙ ap (last_of at) (sym e) ∙ h.ends;
        }

module _ (last : ℕ) (rest : List ℕ) (at unit b : ℕ) (others : List ℕ) (is : rest ≡ b ∷ others) (a : Adding last rest at unit) where
  abbrev h : Within last rest at unit
  h = enters last rest at unit a (omega (arith, ap length is))

  -- the group that is read, and what is left of the number
  record Reads : Type 0 where
    part : b % 128 ≤ h.left
    low : b < 128 → (b ≡ h.left) × (others ≡ bytes_after h.number h.later)
    high : 128 ≤ b → (more : ℕ) × (128 ≤ h.left) × (h.left / 128 < limit more) × (b % 128 ≡ h.left % 128)
        × (others ≡ groups more (h.left / 128) ++ bytes_after h.number h.later)

  reads : Reads
  reads = by h.more (nat_lt h.left 128) refl h.small h.rest_is
    where
      by : (more : ℕ) (t : Bool) → nat_lt h.left 128 ≡ t → h.left < limit more → rest ≡ groups more h.left ++ bytes_after h.number h.later → Reads
      by more true e small s =
          let below : h.left < 128 = grind (arith, nat_tests) in
          let heads : b ∷ others ≡ h.left ∷ bytes_after h.number h.later =
          sym is ∙ s ∙ ap (λ xs. xs ++ bytes_after h.number h.later) (groups-low more h.left below) in
          let same : b ≡ h.left = cc in
          let same' : others ≡ bytes_after h.number h.later = cc in
          record { part = omega arith; low = λ lt. (same, same'); high = λ ge. absurd (omega arith) }
      by zero false e small s = let above : 128 ≤ h.left = grind (arith, nat_tests) in absurd (omega (arith, limit-zero))
      by (suc more) false e small s =
          let above : 128 ≤ h.left = grind (arith, nat_tests) in
          let heads : b ∷ others ≡ (h.left % 128 + 128) ∷ (groups more (h.left / 128) ++ bytes_after h.number h.later) =
          sym is ∙ s ∙ ap (λ xs. xs ++ bytes_after h.number h.later) (groups-high more h.left above) in
          let same : b ≡ h.left % 128 + 128 = cc in
          let same' : others ≡ groups more (h.left / 128) ++ bytes_after h.number h.later = cc in
          record {
            part = omega arith;
            low = λ lt. absurd (omega arith);
            high = λ ge. (more, above, limit-rest more h.left small, omega arith, same');
          }

  product : unit * (b % 128) ≤ unit * h.left
  product = mul-le-mul_left unit reads.part

  pub adding_fits : at + unit * (b % 128) < 2 ^ 32
  adding_fits = omega (arith, product, h.sum, h.bound)

  pub adding_low : b < 128 → Adding last others (at + unit * (b % 128)) 1
  adding_low low =
      let r = reads.low low in
      let part : b % 128 ≡ h.left = omega (arith, r.0, low) in
      let at_is : at + unit * (b % 128) ≡ h.number = ap (λ n. at + unit * n) part ∙ h.sum in
      inl (record {
        later = h.later;
        rest_is = r.1 ∙ ap (λ n. bytes_after n h.later) (sym at_is);
        rise = rw at_is h.rise;
        one = refl;
        ends = ap (λ n. last_of n h.later) at_is ∙ h.ends;
      })

  pub adding_high : 128 ≤ b → (unit * 128 < 2 ^ 32) × Adding last others (at + unit * (b % 128)) (unit * 128)
  adding_high high =
      let r = reads.high high in
      let split : h.left ≡ h.left % 128 + 128 * (h.left / 128) = omega arith in
      let whole : unit * h.left ≡ unit * (h.left % 128) + unit * 128 * (h.left / 128) =
      ap (λ n. unit * n) split ∙ mul-add unit (h.left % 128) (128 * (h.left / 128))
      ∙ ap (λ n. unit * (h.left % 128) + n) (sym (mul_assoc unit 128 (h.left / 128))) in
      let part : unit * (b % 128) ≡ unit * (h.left % 128) = ap (λ n. unit * n) r.3 in
      let least : unit * 128 ≤ unit * h.left = mul-le-mul_left unit r.1 in (
        omega (arith, least, h.sum, h.bound),
        inr (record {
          more = r.0;
          left = h.left / 128;
          number = h.number;
          later = h.later;
          small = r.2;
          rest_is = r.4;
          rise = h.rise;
          sum = omega (arith, h.sum, whole, part);
          bound = h.bound;
          ends = h.ends;
        }),
      )

pub adding_ends : (last : ℕ) (rest : List ℕ) (at unit : ℕ) → Adding last rest at unit → length rest ≡ 0 → at ≡ last
adding_ends last rest at unit (inr h) none =
    absurd (omega (arith, none, ap length h.rest_is, length-append (groups h.more h.left) (bytes_after h.number h.later), length-groups h.more h.left))
adding_ends last rest at unit (inl h) none = by h.later refl
  where
    by : (later : List ℕ) → h.later ≡ later → at ≡ last
    by [] e = sym (last_of-nil at) ∙ ap (last_of at) (sym e) ∙ h.ends
    by (n ∷ ns) e =
        absurd (omega (
          arith,
          none,
          ap length (h.rest_is ∙ ap (bytes_after at) e ∙ bytes_after-cons at n ns),
          length-append (bytes_of (n - at)) (bytes_after n ns),
          length-groups 4 (n - at),
        ))
