-- A number put among stored ones.
use Rattle.std.proofs.Common.{◌≡◌, ◌≢◌, ℕ, zero, suc, ◌+◌, ◌-◌, ◌/◌, ◌%◌, ◌^◌, ◌<◌, ◌≤◌, Bool, true, false, ◌||◌, ◌==◌, List, [], ◌∷◌, ◌++◌, length, take, drop}
use Rattle.std.proofs.Common.{refl, sym, ap, ◌∙◌, subst, arith, append_assoc, append-nil, length-append, length-drop}
use Rattle.std.specs.Prelude.{All, insert, Result, Ok, Err, OnOk, IsOk}
use Rattle.std.proofs.lemmas.Bool.{false≢true}
use Rattle.std.proofs.lemmas.Bool.Decides.{nat_tests}
use Rattle.std.proofs.lemmas.List.{length-take-le, take-append-drop}
use Rattle.std.proofs.lemmas.List.Edits.{insert-append_right}
use Rattle.std.proofs.lemmas.List.Elements.{All-cons, All-head, All-append}
use Rattle.std.proofs.Math.Seq.{take-append_seam, drop-append_seam}
use Rattle.posting.specs.ListValue.{has}
use Rattle.posting.specs.Stored.{groups, bytes_of, bytes_after}
use Rattle.posting.specs.Private.Gaps.{limit, numbers_after, last_of, IsSpelled, IsStored, IsFirstNumber, IsPassed}
use Rattle.posting.proofs.SetLemmas.{has-append}
use Rattle.posting.proofs.Rising.{All-left, All-right, rising-insert}
use Rattle.posting.proofs.Groups.{below_limit, limit-zero, limit-rest, groups-low, groups-high, groups-lower, Rise, rise_spelled}
use Rattle.posting.proofs.Groups.{spelled_bytes, spelled_numbers, bytes_after-cons, bytes_after-append, last_of-append, last_of-cons, numbers_after-nil}
use Rattle.posting.proofs.Walks.{passed-has, least_is, least_first, last_fits}

pub value_on_ok : {T E P : Type 0} (r : Result T E) → OnOk r P → IsOk r → P
value_on_ok (Ok x) h ok = h
value_on_ok (Err e) h ok = absurd (false≢true ok)

-- ---- groups written between bytes

-- Of a number's groups, `written` are there, and `left` has the others.
pub record Inserting (old : List ℕ) (old_capacity at gap : ℕ) (new : List ℕ) (capacity left : ℕ) : Type 0 where
  pub more : ℕ
  pub written : List ℕ
  pub small : left < limit more
  pub items : new ≡ (take at old ++ written) ++ drop at old
  pub groups_are : written ++ groups more left ≡ bytes_of gap
  pub within : at ≤ length old
  pub capacity_is : capacity ≡ old_capacity
  pub room : length old + length written + more + 1 ≤ capacity

pub inserting_begins : (old : List ℕ) (capacity at gap : ℕ) → gap < 2 ^ 32 → at ≤ length old → length old + 5 ≤ capacity
    → Inserting old capacity at gap old capacity gap
inserting_begins old capacity at gap small within room = record {
  more = 4;
  written = [];
  small = below_limit gap small;
  items = sym (ap (λ xs. xs ++ drop at old) (append-nil (take at old)) ∙ take-append-drop at old);
  groups_are = refl;
  within = within;
  capacity_is = refl;
  room = omega (arith, room);
}

module _ (old : List ℕ) (c at gap : ℕ) (new : List ℕ) (capacity left place : ℕ) (h : Inserting old c at gap new capacity left)
    (place_is : place ≡ length new - (length old - at)) where
  new_length : length new ≡ length old + length h.written
  new_length =
      ap length h.items ∙ length-append (take at old ++ h.written) (drop at old)
      ∙ omega (arith, length-append (take at old) h.written, length-take-le at old h.within, length-drop at old, h.within)

  front_length : length (take at old ++ h.written) ≡ place
  front_length = omega (arith, place_is, new_length, h.within, length-append (take at old) h.written, length-take-le at old h.within)

  pub inserting_room : length new + 1 ≤ capacity
  inserting_room = omega (arith, new_length, h.room)

  inserted : (b : ℕ) → insert new place b ≡ (take at old ++ (h.written ++ b ∷ [])) ++ drop at old
  inserted b =
      let none : place - place ≡ 0 = omega arith in
      ap (λ xs. insert xs place b) h.items ∙ insert-append_right (take at old ++ h.written) (drop at old) place place b front_length (omega arith)
      ∙ ap (λ i. (take at old ++ h.written) ++ insert (drop at old) i b) none
      ∙ sym (append_assoc (take at old ++ h.written) (b ∷ []) (drop at old))
      ∙ ap (λ xs. xs ++ drop at old) (append_assoc (take at old) h.written (b ∷ []))

  pub inserting_more : (b capacity' : ℕ) → 128 ≤ left → b ≡ left % 128 + 128 → capacity' ≡ capacity
      → Inserting old c at gap (insert new place b) capacity' (left / 128)
  inserting_more b capacity' high is same = by h.more refl
    where
      by : (more : ℕ) → h.more ≡ more → Inserting old c at gap (insert new place b) capacity' (left / 128)
      by zero e = absurd (omega (arith, limit-zero, rw e at h.small))
      by (suc more) e = record {
        more = more;
        written = h.written ++ b ∷ [];
        small = limit-rest more left (rw e at h.small);
        items = inserted b;
        groups_are =
            append_assoc h.written (b ∷ []) (groups more (left / 128)) ∙ ap (λ m. h.written ++ m ∷ groups more (left / 128)) is
            ∙ ap (λ bytes. h.written ++ bytes) (sym (groups-high more left high)) ∙ rw e at h.groups_are;
        within = h.within;
        capacity_is = same ∙ h.capacity_is;
        room = omega (arith, same, h.room, e, length-append h.written (b ∷ []));
      }

  pub inserting_ends : left < 128 → insert new place left ≡ take at old ++ (bytes_of gap ++ drop at old)
  inserting_ends low =
      let all : h.written ++ left ∷ [] ≡ bytes_of gap = ap (λ xs. h.written ++ xs) (sym (groups-low h.more left low)) ∙ h.groups_are in
      inserted left ∙ ap (λ xs. (take at old ++ xs) ++ drop at old) all ∙ append_assoc (take at old) (bytes_of gap) (drop at old)

-- ---- where the number belongs

module _ (bytes : List ℕ) (number at : ℕ) (rest : List ℕ) (h : IsPassed 0 bytes number at rest) where
  pub passed_all : rest ≡ [] → All (λ n. n < number) (numbers_after 0 bytes)
  passed_all none =
      rw (h.numbers ∙ ap (λ xs. h.passed ++ numbers_after at xs) none ∙ ap (λ ns. h.passed ++ ns) (numbers_after-nil at) ∙ append-nil h.passed)
      h.below

  place_order : at ≤ number
  place_order = rw h.ends (last_fits 0 number h.passed (omega arith) h.below)

  place_above : (next : ℕ) (after : List ℕ) → IsFirstNumber at rest next after → All (λ n. number ≤ n) (numbers_after at rest)
      → has (numbers_after 0 bytes) number ≡ false → number < next
  place_above next after first from absent =
      let least : number ≤ next = All-head (λ n. number ≤ n) next (numbers_after next after) (rw first.numbers at from) in
      let differs : (next == number) ≡ false =
      sym (passed-has 0 bytes number at rest h from ∙ least_is number next (numbers_after at rest) from (least_first at rest next after first)) ∙ absent in
      let other : next ≢ number = grind (arith, nat_tests) in
      omega (arith, least, other)

-- ---- a gap split in two

-- bytes in two parts, by the length of the second
cut_at : (bytes front rest : List ℕ) (n : ℕ) → bytes ≡ front ++ rest → n ≡ length bytes - length rest
    → (take n bytes ≡ front) × (drop n bytes ≡ rest) × (n ≡ length front)
cut_at bytes front rest n is at =
    let end : n ≡ length front = omega (arith, at, ap length is, length-append front rest) in
    (ap (take n) is ∙ ap (λ m. take m (front ++ rest)) end ∙ take-append_seam front rest, ap (drop n) is ∙ ap (λ m. drop m (front ++ rest)) end ∙ drop-append_seam front rest, end)

has_between : (before is later : Bool) → (before || (is || later)) ≡ ((before || later) || is)
has_between true is later = refl
has_between false true true = refl
has_between false true false = refl
has_between false false true = refl
has_between false false false = refl

-- The next stored number comes after the one to be put in. The bytes are held twice, once as they were read.
pub record IsSplit (held bytes : List ℕ) (number at : ℕ) (rest : List ℕ) (next : ℕ) (after : List ℕ) : Type 0 where
  pub same : held ≡ bytes
  pub stored : IsSpelled 0 bytes
  pub passed : IsPassed 0 bytes number at rest
  pub first : IsFirstNumber at rest next after
  pub order : at ≤ number
  pub above : number < next

pub split_of : {held bytes rest after : List ℕ} {number at next : ℕ} → held ≡ bytes → IsSpelled 0 bytes → IsPassed 0 held number at rest
    → All (λ n. number ≤ n) (numbers_after at rest) → IsFirstNumber at rest next after → has (numbers_after 0 bytes) number ≡ false
    → IsSplit held bytes number at rest next after
split_of {held} {bytes} {rest} {after} {number} {at} {next} same stored passed from first absent =
    let here : IsPassed 0 bytes number at rest = subst (λ xs. IsPassed 0 xs number at rest) same passed in record {
      same = same;
      stored = stored;
      passed = here;
      first = first;
      order = place_order bytes number at rest here;
      above = place_above bytes number at rest here next after first from absent;
    }

module _ {held bytes : List ℕ} {number at : ℕ} {rest : List ℕ} {next : ℕ} {after : List ℕ} (s : IsSplit held bytes number at rest next after) where
  abbrev from : ℕ
  from = length held - length rest

  abbrev to : ℕ
  to = length held - length after

  abbrev front : List ℕ
  front = bytes_after 0 s.passed.passed

  abbrev later : List ℕ
  later = numbers_after next after

  numbers_are : numbers_after 0 bytes ≡ s.passed.passed ++ next ∷ later
  numbers_are = s.passed.numbers ∙ ap (λ ns. s.passed.passed ++ ns) s.first.numbers

  before : (take from bytes ≡ front) × (drop from bytes ≡ rest) × (from ≡ length front)
  before = cut_at bytes front rest from s.passed.stored (ap (λ xs. length xs - length rest) s.same)

  whole : bytes ≡ (front ++ bytes_of (next - at)) ++ after
  whole = s.passed.stored ∙ ap (λ xs. front ++ xs) s.first.stored ∙ sym (append_assoc front (bytes_of (next - at)) after)

  behind : (take to bytes ≡ front ++ bytes_of (next - at)) × (drop to bytes ≡ after) × (to ≡ length (front ++ bytes_of (next - at)))
  behind = cut_at bytes (front ++ bytes_of (next - at)) after to whole (ap (λ xs. length xs - length after) s.same)

  pub split_fits : from + length (bytes_of (next - number)) ≤ to
  split_fits =
      omega (
        arith,
        before.2,
        behind.2,
        length-append front (bytes_of (next - at)),
        groups-lower 4 (next - number) (next - at) (omega (arith, s.order)),
      )

  module _ (mid : List ℕ) (mid_is : mid ≡ take from bytes ++ (bytes_of (next - number) ++ drop to bytes)) where
    mid_bytes : mid ≡ front ++ (bytes_of (next - number) ++ after)
    mid_bytes =
        mid_is ∙ ap (λ xs. xs ++ (bytes_of (next - number) ++ drop to bytes)) before.0
        ∙ ap (λ xs. front ++ (bytes_of (next - number) ++ xs)) behind.1

    pub split_place : from ≤ length mid
    split_place = omega (arith, before.2, ap length mid_bytes, length-append front (bytes_of (next - number) ++ after))

    module _ (new : List ℕ) (new_is : new ≡ take from mid ++ (bytes_of (number - at) ++ drop from mid)) (small : number < 2 ^ 32) where
      abbrev grown : List ℕ
      grown = s.passed.passed ++ number ∷ next ∷ later

      new_bytes : new ≡ bytes_after 0 grown
      new_bytes =
          new_is
          ∙ ap (λ xs. take from xs ++ (bytes_of (number - at) ++ drop from xs)) mid_bytes
          ∙ ap (λ n. take n (front ++ (bytes_of (next - number) ++ after)) ++ (bytes_of (number - at) ++ drop n (front ++ (bytes_of (next - number) ++ after)))) before.2
          ∙ ap (λ xs. xs ++ (bytes_of (number - at) ++ drop (length front) (front ++ (bytes_of (next - number) ++ after))))
          (take-append_seam front (bytes_of (next - number) ++ after))
          ∙ ap (λ xs. front ++ (bytes_of (number - at) ++ xs)) (drop-append_seam front (bytes_of (next - number) ++ after))
          ∙ ap (λ xs. front ++ (bytes_of (number - at) ++ (bytes_of (next - number) ++ xs))) s.first.spelled.spelled
          ∙ ap (λ xs. front ++ (bytes_of (number - at) ++ xs)) (sym (bytes_after-cons number next later))
          ∙ ap (λ xs. front ++ xs) (sym (bytes_after-cons at number (next ∷ later)))
          ∙ ap (λ l. front ++ bytes_after l (number ∷ next ∷ later)) s.passed.ends
          ∙ sym (bytes_after-append 0 s.passed.passed (number ∷ next ∷ later))

      rise : Rise 0 (s.passed.passed ++ next ∷ later)
      rise = rw numbers_are at (rise_spelled 0 bytes s.stored)

      grown_rise : Rise 0 grown
      grown_rise = record {
        rising = rising-insert s.passed.passed number next later rise.rising s.passed.below s.above;
        from = λ k d inside. omega arith;
        bound =
            All-append (λ n. n < 2 ^ 32) s.passed.passed (number ∷ next ∷ later) (All-left (λ n. n < 2 ^ 32) s.passed.passed (next ∷ later) rise.bound)
            (All-cons (λ n. n < 2 ^ 32) number (next ∷ later) small (All-right (λ n. n < 2 ^ 32) s.passed.passed (next ∷ later) rise.bound));
      }

      new_numbers : numbers_after 0 new ≡ grown
      new_numbers = spelled_numbers 0 new grown new_bytes grown_rise

      pub split_stored : (last : ℕ) → last ≡ last_of 0 (numbers_after 0 bytes) → IsStored new last
      split_stored last ends = record {
        spelled = spelled_bytes 0 new grown new_bytes grown_rise;
        ends =
            ends ∙ ap (last_of 0) numbers_are ∙ last_of-append 0 s.passed.passed (next ∷ later) ∙ last_of-cons (last_of 0 s.passed.passed) next later
            ∙ sym (ap (last_of 0) new_numbers ∙ last_of-append 0 s.passed.passed (number ∷ next ∷ later)
            ∙ last_of-cons (last_of 0 s.passed.passed) number (next ∷ later) ∙ last_of-cons number next later);
      }

      pub split_members : (n : ℕ) → has (numbers_after 0 new) n ≡ (has (numbers_after 0 bytes) n || number == n)
      split_members n =
          ap (λ ns. has ns n) new_numbers ∙ has-append s.passed.passed (number ∷ next ∷ later) n
          ∙ has_between (has s.passed.passed n) (number == n) (has (next ∷ later) n)
          ∙ ap (λ b. b || number == n) (sym (ap (λ ns. has ns n) numbers_are ∙ has-append s.passed.passed (next ∷ later) n))
