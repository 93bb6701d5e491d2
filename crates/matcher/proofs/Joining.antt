-- What the operations on sets of positions have done up to a word.
use Rattle.std.proofs.Common.{◌≡◌, ◌≢◌, ℕ, zero, suc, ◌+◌, ◌-◌, ◌*◌, ◌/◌, ◌%◌, ◌^◌, ◌≤◌, ◌<◌, Bool, true, false, not, ◌&&◌, ◌||◌, ◌==◌}
use Rattle.std.proofs.Common.{nat_le, nat_lt, if◌then◌else◌, IsTrue, MatchBool, List, length, get_or, set, refl, sym, ap, subst, ◌∙◌, arith}
use Rattle.std.proofs.Common.{length-set, w64}
use Rattle.std.proofs.lemmas.List.{get_or-set_same, get_or-set_other, get_or_past}
use Rattle.std.proofs.lemmas.Grind.{same_number_lists}
use Rattle.std.proofs.lemmas.Bool.Decides.{nat_tests}
use Rattle.std.specs.Int.{trailing_zeros}
use Rattle.std.proofs.lemmas.Bool.{false≢true, and_left}
use Rattle.std.proofs.Math.Bool.{or-false}
use Rattle.matcher.specs.declared.words.TheConstants.{WORDS}
use Rattle.matcher.specs.Private.Bounds.{room_of, IsBounded}
use Rattle.ere.specs.Bits.{has_bit}
use Rattle.spans.specs.PositionSets.{has_position}
use Rattle.matcher.specs.Private.Moves.{more_unless, absent_below, absent, HasNone, IsEither, IsNew}
use Rattle.spans.proofs.Bits.{some_bit, position_in, same_word, empty_word, position_set_same, position_set_other}
use Rattle.matcher.proofs.Shifting.{none_before, none_after}

-- A position has room only if there are no more words than a line needs, and they hold it.
pub in_room : (position size : ℕ) → position < room_of size → (size ≤ WORDS) × (position < 64 * size)
in_room position size held = go (nat_le size WORDS) refl held
  where
    go : (t : Bool) → nat_le size WORDS ≡ t → position < (if t then 64 * size else 0) → (size ≤ WORDS) × (position < 64 * size)
    go true e inside = (grind (arith, nat_tests), inside)
    go false e inside = absurd (omega arith)

pub none_held : (words : List ℕ) → ((i : ℕ) → get_or words i 0 ≡ 0) → HasNone words
none_held words none = record { none = λ k. empty_word words k (none (k / 64)) }

-- A set is empty if all its words up to its end are 0, and not if one of them is not 0.
pub none_in_bounds : {size : ℕ} {words : List ℕ} {first end : ℕ} → IsBounded size words first end → (at : ℕ) → end ≤ at
    → ((i : ℕ) → i < at → get_or words i 0 ≡ 0) → HasNone words
none_in_bounds {size} {words} bounds at far none = none_held words each
  where
    each : (i : ℕ) → get_or words i 0 ≡ 0
    each i = go (nat_lt i at) refl
      where
        go : (t : Bool) → nat_lt i at ≡ t → get_or words i 0 ≡ 0
        go true e = none i (grind (arith, nat_tests))
        go false e = let past : at ≤ i = grind (arith, nat_tests) in bounds.high i (omega arith)

pub some_position : (words : List ℕ) (i : ℕ) → get_or words i 0 ≢ 0 → get_or words i 0 < 2 ^ 64 → (k : ℕ) × IsTrue (has_position words k)
some_position words i some small =
    let bit = some_bit (get_or words i 0) (omega arith) small in
    (i * 64 + trailing_zeros w64 (get_or words i 0), position_in words i (trailing_zeros w64 (get_or words i 0)) bit.0 ∙ bit.1)

-- The bounds can leave out empty words at the front.
pub trimmed : {size : ℕ} (words : List ℕ) (first end at : ℕ) → IsBounded size words first end → (first ≤ at) × (at ≤ end)
    → ((i : ℕ) → first ≤ i → i < at → get_or words i 0 ≡ 0) → IsBounded size words at end
trimmed words first end at bounds between none =
    record {
      whole = bounds.whole;
      few = bounds.few;
      ordered = between.1;
      inside = bounds.inside;
      low =
          λ i l. low i l (nat_lt i first) refl;
      high = bounds.high;
    }
  where
    low : (i : ℕ) → i < at → (t : Bool) → nat_lt i first ≡ t → get_or words i 0 ≡ 0
    low i l true e = bounds.low i (grind (arith, nat_tests))
    low i l false e = none i (grind (arith, nat_tests)) l

pub none_since : (words : List ℕ) (first at : ℕ) → ((i : ℕ) → first ≤ i → i < at → get_or words i 0 ≡ 0) → get_or words at 0 ≡ 0 → (i : ℕ)
    → first ≤ i → i < at + 1 → get_or words i 0 ≡ 0
none_since words first at none here i low inside = go (i == at) refl
  where
    go : (t : Bool) → (i == at) ≡ t → get_or words i 0 ≡ 0
    go true e = let same : i ≡ at = grind (arith, nat_tests) in rw same here
    go false e = let apart : i ≢ at = grind (arith, nat_tests) in none i low (omega arith)

pub none_yet : {size : ℕ} (words : List ℕ) (first end : ℕ) → IsBounded size words first end → (i : ℕ) → i < first → get_or words i 0 ≡ 0
none_yet words first end bounds = bounds.low

pub none_still : (words : List ℕ) (at : ℕ) → ((i : ℕ) → i < at → get_or words i 0 ≡ 0) → get_or words at 0 ≡ 0 → (i : ℕ) → i < at + 1 → get_or words i 0 ≡ 0
none_still words at none here i inside = go (i == at) refl
  where
    go : (t : Bool) → (i == at) ≡ t → get_or words i 0 ≡ 0
    go true e = let same : i ≡ at = grind (arith, nat_tests) in rw same here
    go false e = let apart : i ≢ at = grind (arith, nat_tests) in none i (omega arith)

-- words that have no position
pub empty_words : {size : ℕ} (words : List ℕ) → length words ≡ size → ((i : ℕ) → i < size → get_or words i 0 ≡ 0) → (i : ℕ) → get_or words i 0 ≡ 0
empty_words {size} words whole none i = go (nat_lt i size) refl
  where
    go : (t : Bool) → nat_lt i size ≡ t → get_or words i 0 ≡ 0
    go true e = none i (grind (arith, nat_tests))
    go false e = let past : size ≤ i = grind (arith, nat_tests) in get_or_past words i 0 (omega (arith, whole))

pub empty_bounded : {size : ℕ} (words : List ℕ) → size ≤ WORDS → length words ≡ size → ((i : ℕ) → get_or words i 0 ≡ 0) → IsBounded size words 0 0
empty_bounded words few whole none = record { whole = whole; few = few; ordered = omega arith; inside = omega arith; low = λ i l. none i; high = λ i l. none i }

pub cleared_more : {size : ℕ} (words : List ℕ) (at end : ℕ) → IsBounded size words at end → at < end → IsBounded size (set words at 0) (at + 1) end
cleared_more words at end bounds inside = record {
  whole = length-set words at 0 ∙ bounds.whole;
  few = bounds.few;
  ordered = omega arith;
  inside = bounds.inside;
  low = λ i l. low i l (i == at) refl;
  high = λ i l. get_or-set_other words at i 0 0 (omega arith) ∙ bounds.high i l;
}
  where
    low : (i : ℕ) → i < at + 1 → (t : Bool) → (i == at) ≡ t → get_or (set words at 0) i 0 ≡ 0
    low i l true e = let same : i ≡ at = grind (arith, nat_tests) in rw same (get_or-set_same words at 0 0 (omega (arith, bounds.whole, bounds.inside)))
    low i l false e = let apart : i ≢ at = grind (arith, nat_tests) in get_or-set_other words at i 0 0 apart ∙ bounds.low i (omega arith)

pub cleared_all : {size : ℕ} (words : List ℕ) (at end : ℕ) → IsBounded size words at end → end ≤ at → (i : ℕ) → get_or words i 0 ≡ 0
cleared_all words at end bounds past i = go (nat_lt i at) refl
  where
    go : (t : Bool) → nat_lt i at ≡ t → get_or words i 0 ≡ 0
    go true e = bounds.low i (grind (arith, nat_tests))
    go false e = let far : at ≤ i = grind (arith, nat_tests) in bounds.high i (omega arith)

-- All positions before word `at` are in the set, and no others.
pub record IsFilled (size : ℕ) (words : List ℕ) (at : ℕ) : Type 0 where
  pub whole : length words ≡ size
  pub below : (k : ℕ) → k < at * 64 → has_position words k ≡ true
  pub above : (i : ℕ) → at ≤ i → get_or words i 0 ≡ 0

pub filled_first : {size : ℕ} (words : List ℕ) → length words ≡ size → ((i : ℕ) → get_or words i 0 ≡ 0) → IsFilled size words 0
filled_first words whole none = record { whole = whole; below = λ k l. absurd (omega arith); above = λ i l. none i }

pub filled_more : {size : ℕ} (words : List ℕ) (at word : ℕ) → IsFilled size words at → at < size → ((b : ℕ) → has_bit word b ≡ nat_le b 63)
    → IsFilled size (set words at word) (at + 1)
filled_more words at word h inside full = record {
  whole = length-set words at word ∙ h.whole;
  below = λ k l. below k l (nat_lt k (at * 64)) refl;
  above = λ i l. get_or-set_other words at i word 0 (omega arith) ∙ h.above i (omega arith);
}
  where
    below : (k : ℕ) → k < (at + 1) * 64 → (t : Bool) → nat_lt k (at * 64) ≡ t → has_position (set words at word) k ≡ true
    below k l true e =
        let low : k < at * 64 = grind (arith, nat_tests) in
        position_set_other words at word k (omega arith) ∙ h.below k low
    below k l false e =
        let high : at * 64 ≤ k = grind (arith, nat_tests) in
        let place : at * 64 + (k - at * 64) ≡ k = omega arith in
        let bit : k - at * 64 < 64 = omega arith in
        let test : nat_le (k - at * 64) 63 ≡ true = grind (arith, nat_tests) in
        subst (λ n. has_position (set words at word) n ≡ true) place
        (position_set_same words at word (k - at * 64) (omega (arith, h.whole)) bit ∙ full (k - at * 64) ∙ test)

pub filled_all : {size : ℕ} (words : List ℕ) (last at word : ℕ) → IsFilled size words at → at ≡ last / 64 → at < size
    → ((b : ℕ) → has_bit word b ≡ nat_le b (last % 64)) → (k : ℕ) → has_position (set words at word) k ≡ nat_le k last
filled_all words last at word h e inside full k = go (nat_lt k (at * 64)) (nat_lt k (at * 64 + 64)) refl refl
  where
    same_test : (b m n : ℕ) → at * 64 + b ≡ m → at * 64 + last % 64 ≡ n → nat_le b (last % 64) ≡ nat_le m n
    same_test b m n p q = pick (nat_le b (last % 64)) refl
      where
        pick : (t : Bool) → nat_le b (last % 64) ≡ t → nat_le b (last % 64) ≡ nat_le m n
        pick true f =
            let low : nat_le m n ≡ true =
            let le : b ≤ last % 64 = grind (arith, nat_tests) in let le_all : m ≤ n = omega arith in grind (arith, nat_tests) in
            f ∙ sym low
        pick false f =
            let high : nat_le m n ≡ false =
            let gt : last % 64 < b = grind (arith, nat_tests) in let gt_all : n < m = omega arith in grind (arith, nat_tests) in
            f ∙ sym high

    go : (t u : Bool) → nat_lt k (at * 64) ≡ t → nat_lt k (at * 64 + 64) ≡ u → has_position (set words at word) k ≡ nat_le k last
    go true u f g =
        let low : k < at * 64 = grind (arith, nat_tests) in
        let test : nat_le k last ≡ true = let le : k ≤ last = omega arith in grind (arith, nat_tests) in
        position_set_other words at word k (omega arith) ∙ h.below k low ∙ sym test
    go false true f g =
        let high : at * 64 ≤ k = grind (arith, nat_tests) in
        let low : k < at * 64 + 64 = grind (arith, nat_tests) in
        let place : at * 64 + (k - at * 64) ≡ k = omega arith in
        let whole : at * 64 + last % 64 ≡ last = omega arith in
        let own : has_position (set words at word) (at * 64 + (k - at * 64)) ≡ nat_le k last =
        position_set_same words at word (k - at * 64) (omega (arith, h.whole)) (omega arith) ∙ full (k - at * 64)
        ∙ same_test (k - at * 64) k last place whole in
        subst (λ n. has_position (set words at word) n ≡ nat_le k last) place own
    go false false f g =
        let high : at * 64 + 64 ≤ k = grind (arith, nat_tests) in
        let test : nat_le k last ≡ false = let gt : last < k = omega arith in grind (arith, nat_tests) in
        position_set_other words at word k (omega arith) ∙ empty_word words k (h.above (k / 64) (omega arith)) ∙ sym test

pub filled_bounded : {size : ℕ} (words : List ℕ) (at word : ℕ) → size ≤ WORDS → IsFilled size words at → at < size
    → IsBounded size (set words at word) 0 (at + 1)
filled_bounded words at word few h inside = record {
  whole = length-set words at word ∙ h.whole;
  few = few;
  ordered = omega arith;
  inside = omega arith;
  low = λ i l. absurd (omega arith);
  high = λ i l. get_or-set_other words at i word 0 (omega arith) ∙ h.above i (omega arith);
}

pub kept : (words old : List ℕ) (position word : ℕ) → ((i : ℕ) → get_or words i 0 ≡ 0) → position / 64 < length words
    → ((b : ℕ) → has_bit word b ≡ (b == position % 64 && has_bit (get_or old (position / 64) 0) b)) → (k : ℕ)
    → has_position (set words (position / 64) word) k ≡ (k == position && has_position old k)
kept words old position word none inside only k = go (k / 64 == position / 64) refl
  where
    other : k == position ≡ false → (k == position && has_position old k) ≡ false
    other e = and_left (k == position) (has_position old k) e

    same_test : k / 64 ≡ position / 64 → (k % 64 == position % 64) ≡ (k == position)
    same_test e = pick (k == position) refl
      where
        pick : (t : Bool) → (k == position) ≡ t → (k % 64 == position % 64) ≡ (k == position)
        pick true f = let same : k ≡ position = grind (arith, nat_tests) in rw same (pick_same (position % 64) ∙ sym (pick_same position))
          where
            pick_same : (n : ℕ) → n == n ≡ true
            pick_same n = grind (arith, nat_tests)
        pick false f =
            let apart : k ≢ position = grind (arith, nat_tests) in
            let apart_bits : k % 64 ≢ position % 64 = omega arith in
            let test : k % 64 == position % 64 ≡ false = grind (arith, nat_tests) in
            test ∙ sym f

    go : (t : Bool) → (k / 64 == position / 64) ≡ t → has_position (set words (position / 64) word) k ≡ (k == position && has_position old k)
    go true e =
        let same : k / 64 ≡ position / 64 = grind (arith, nat_tests) in
        let place : position / 64 * 64 + k % 64 ≡ k = omega arith in
        let bits : has_bit word (k % 64) ≡ (k == position && has_position old k) =
        only (k % 64) ∙ ap (λ t. t && has_bit (get_or old (position / 64) 0) (k % 64)) (same_test same)
        ∙ ap (λ t. k == position && t)
        (sym (position_in old (position / 64) (k % 64) (omega arith)) ∙ ap (λ n. has_position old n) place) in
        let own : has_position (set words (position / 64) word) (position / 64 * 64 + k % 64) ≡ (k == position && has_position old k) =
        position_set_same words (position / 64) word (k % 64) inside (omega arith) ∙ bits in
        subst (λ n. has_position (set words (position / 64) word) n ≡ (k == position && has_position old k)) place own
    go false e =
        let apart : k / 64 ≢ position / 64 = grind (arith, nat_tests) in
        let test : k == position ≡ false = let apart_all : k ≢ position = λ same. apart (ap (λ n. n / 64) same) in grind (arith, nat_tests) in
        position_set_other words (position / 64) word k apart ∙ empty_word words k (none (k / 64)) ∙ sym (other test)

pub kept_bounded : {size : ℕ} (words : List ℕ) (at word : ℕ) → size ≤ WORDS → ((i : ℕ) → get_or words i 0 ≡ 0) → length words ≡ size
    → at < size → IsBounded size (set words at word) at (at + 1)
kept_bounded words at word few none whole inside = record {
  whole = length-set words at word ∙ whole;
  few = few;
  ordered = omega arith;
  inside = omega arith;
  low = λ i l. get_or-set_other words at i word 0 (omega arith) ∙ none i;
  high = λ i l. get_or-set_other words at i word 0 (omega arith) ∙ none i;
}

-- The words before `at` are copied, and the others are empty.
pub record IsCopied (size : ℕ) (words other : List ℕ) (at : ℕ) : Type 0 where
  pub whole : length words ≡ size
  pub below : (i : ℕ) → i < at → get_or words i 0 ≡ get_or other i 0
  pub above : (i : ℕ) → at ≤ i → get_or words i 0 ≡ 0

pub copied_first : {size : ℕ} (words other : List ℕ) (first end : ℕ) → length words ≡ size → ((i : ℕ) → get_or words i 0 ≡ 0)
    → IsBounded size other first end → IsCopied size words other first
copied_first words other first end whole none bounds = record { whole = whole; below = λ i l. none i ∙ sym (bounds.low i l); above = λ i l. none i }

pub copied_more : {size : ℕ} (words other : List ℕ) (at : ℕ) → IsCopied size words other at → at < size
    → IsCopied size (set words at (get_or other at 0)) other (at + 1)
copied_more words other at h inside = record {
  whole = length-set words at (get_or other at 0) ∙ h.whole;
  below = λ i l. below i l (i == at) refl;
  above = λ i l. get_or-set_other words at i (get_or other at 0) 0 (omega arith) ∙ h.above i (omega arith);
}
  where
    below : (i : ℕ) → i < at + 1 → (t : Bool) → (i == at) ≡ t → get_or (set words at (get_or other at 0)) i 0 ≡ get_or other i 0
    below i l true e = let same : i ≡ at = grind (arith, nat_tests) in rw same (get_or-set_same words at (get_or other at 0) 0 (omega (arith, h.whole)))
    below i l false e = let apart : i ≢ at = grind (arith, nat_tests) in get_or-set_other words at i (get_or other at 0) 0 apart ∙ h.below i (omega arith)

pub copied_all : {size : ℕ} (words other : List ℕ) (at first end : ℕ) → IsCopied size words other at → IsBounded size other first end → end ≤ at → words ≡ other
copied_all words other at first end h bounds far = same_number_lists words other (h.whole ∙ sym bounds.whole) each
  where
    each : (i : ℕ) → i < length words → get_or words i 0 ≡ get_or other i 0
    each i l = go (nat_lt i at) refl
      where
        go : (t : Bool) → nat_lt i at ≡ t → get_or words i 0 ≡ get_or other i 0
        go true e = h.below i (grind (arith, nat_tests))
        go false e = let past : at ≤ i = grind (arith, nat_tests) in h.above i past ∙ sym (bounds.high i (omega arith))

-- The words of the fresh positions before `at` are added.
pub record IsAddedTo (size : ℕ) (old_found old_fresh found fresh : List ℕ) (first at : ℕ) : Type 0 where
  pub found_whole : length found ≡ size
  pub fresh_whole : length fresh ≡ size
  pub found_low : (i : ℕ) → i < first → get_or found i 0 ≡ get_or old_found i 0
  pub fresh_low : (i : ℕ) → i < first → get_or fresh i 0 ≡ get_or old_fresh i 0
  pub found_below : (k : ℕ) → k < at * 64 → has_position found k ≡ (has_position old_found k || has_position old_fresh k)
  pub fresh_below : (k : ℕ) → k < at * 64 → has_position fresh k ≡ (has_position old_fresh k && not (has_position old_found k))
  pub found_above : (i : ℕ) → at ≤ i → get_or found i 0 ≡ get_or old_found i 0
  pub fresh_above : (i : ℕ) → at ≤ i → get_or fresh i 0 ≡ get_or old_fresh i 0

pub added_first : {size : ℕ} (found fresh : List ℕ) (first end : ℕ) → length found ≡ size → IsBounded size fresh first end
    → IsAddedTo size found fresh found fresh first first
added_first found fresh first end whole bounds = record {
  found_whole = whole;
  fresh_whole = bounds.whole;
  found_low = λ i l. refl;
  fresh_low = λ i l. refl;
  found_below = λ k l. rw (none_before bounds k l) (sym (or-false (has_position found k)));
  fresh_below = λ k l. rw (none_before bounds k l) refl;
  found_above = λ i l. refl;
  fresh_above = λ i l. refl;
}

pub added_more : {size : ℕ} (old_found old_fresh found fresh : List ℕ) (first at rest both : ℕ)
    → IsAddedTo size old_found old_fresh found fresh first at → first ≤ at → at < size
    → ((b : ℕ) → b < 64 → has_bit rest b ≡ (has_bit (get_or fresh at 0) b && not (has_bit (get_or found at 0) b)))
    → ((b : ℕ) → has_bit both b ≡ (has_bit (get_or found at 0) b || has_bit (get_or fresh at 0) b))
    → IsAddedTo size old_found old_fresh (set found at both) (set fresh at rest) first (at + 1)
added_more old_found old_fresh found fresh first at rest both h begun inside news joins = record {
  found_whole = length-set found at both ∙ h.found_whole;
  fresh_whole = length-set fresh at rest ∙ h.fresh_whole;
  found_low = λ i l. get_or-set_other found at i both 0 (omega arith) ∙ h.found_low i l;
  fresh_low = λ i l. get_or-set_other fresh at i rest 0 (omega arith) ∙ h.fresh_low i l;
  found_below = λ k l. found_below k l (nat_lt k (at * 64)) refl;
  fresh_below = λ k l. fresh_below k l (nat_lt k (at * 64)) refl;
  found_above = λ i l. get_or-set_other found at i both 0 (omega arith) ∙ h.found_above i (omega arith);
  fresh_above = λ i l. get_or-set_other fresh at i rest 0 (omega arith) ∙ h.fresh_above i (omega arith);
}
  where
    old_found_bit : (b : ℕ) → b < 64 → has_bit (get_or found at 0) b ≡ has_position old_found (at * 64 + b)
    old_found_bit b l = ap (λ w. has_bit w b) (h.found_above at (omega arith)) ∙ sym (position_in old_found at b l)

    old_fresh_bit : (b : ℕ) → b < 64 → has_bit (get_or fresh at 0) b ≡ has_position old_fresh (at * 64 + b)
    old_fresh_bit b l = ap (λ w. has_bit w b) (h.fresh_above at (omega arith)) ∙ sym (position_in old_fresh at b l)

    found_below : (k : ℕ) → k < (at + 1) * 64 → (t : Bool) → nat_lt k (at * 64) ≡ t
        → has_position (set found at both) k ≡ (has_position old_found k || has_position old_fresh k)
    found_below k l true e =
        let low : k < at * 64 = grind (arith, nat_tests) in
        position_set_other found at both k (omega arith) ∙ h.found_below k low
    found_below k l false e =
        let high : at * 64 ≤ k = grind (arith, nat_tests) in
        let place : at * 64 + (k - at * 64) ≡ k = omega arith in
        let bit : k - at * 64 < 64 = omega arith in
        subst (λ n. has_position (set found at both) n ≡ (has_position old_found n || has_position old_fresh n)) place
        (position_set_same found at both (k - at * 64) (omega (arith, h.found_whole)) bit ∙ joins (k - at * 64)
        ∙ rw (old_found_bit (k - at * 64) bit, old_fresh_bit (k - at * 64) bit) refl)

    fresh_below : (k : ℕ) → k < (at + 1) * 64 → (t : Bool) → nat_lt k (at * 64) ≡ t
        → has_position (set fresh at rest) k ≡ (has_position old_fresh k && not (has_position old_found k))
    fresh_below k l true e =
        let low : k < at * 64 = grind (arith, nat_tests) in
        position_set_other fresh at rest k (omega arith) ∙ h.fresh_below k low
    fresh_below k l false e =
        let high : at * 64 ≤ k = grind (arith, nat_tests) in
        let place : at * 64 + (k - at * 64) ≡ k = omega arith in
        let bit : k - at * 64 < 64 = omega arith in
        subst (λ n. has_position (set fresh at rest) n ≡ (has_position old_fresh n && not (has_position old_found n))) place
        (position_set_same fresh at rest (k - at * 64) (omega (arith, h.fresh_whole)) bit ∙ news (k - at * 64) bit
        ∙ rw (old_found_bit (k - at * 64) bit, old_fresh_bit (k - at * 64) bit) refl)

module _ {size : ℕ} (old_found old_fresh found fresh : List ℕ) (first at end : ℕ)
    (h : IsAddedTo size old_found old_fresh found fresh first at) (bounds : IsBounded size old_fresh first end) (limit : at ≡ end) where
  pub added_found : IsEither old_found old_fresh found
  added_found = record { each = λ k. go k (nat_lt k (at * 64)) refl }
    where
      go : (k : ℕ) (t : Bool) → nat_lt k (at * 64) ≡ t → has_position found k ≡ (has_position old_found k || has_position old_fresh k)
      go k true e = h.found_below k (grind (arith, nat_tests))
      go k false e =
          let far : at * 64 ≤ k = grind (arith, nat_tests) in
          let none : has_position old_fresh k ≡ false = none_after bounds k (omega arith) in
          same_word found old_found k (h.found_above (k / 64) (omega arith)) ∙ rw none (sym (or-false (has_position old_found k)))

  pub added_fresh : IsNew old_fresh old_found fresh
  added_fresh = record { each = λ k. go k (nat_lt k (at * 64)) refl }
    where
      go : (k : ℕ) (t : Bool) → nat_lt k (at * 64) ≡ t → has_position fresh k ≡ (has_position old_fresh k && not (has_position old_found k))
      go k true e = h.fresh_below k (grind (arith, nat_tests))
      go k false e =
          let far : at * 64 ≤ k = grind (arith, nat_tests) in
          let none : has_position old_fresh k ≡ false = none_after bounds k (omega arith) in
          same_word fresh old_fresh k (h.fresh_above (k / 64) (omega arith)) ∙ none ∙ sym (rw none refl)

  pub fresh_bounded : IsBounded size fresh first end
  fresh_bounded = record {
    whole = h.fresh_whole;
    few = bounds.few;
    ordered = bounds.ordered;
    inside = bounds.inside;
    low = λ i l. h.fresh_low i l ∙ bounds.low i l;
    high = λ i l. h.fresh_above i (omega arith) ∙ bounds.high i l;
  }

  -- the joined set lies within the bounds of both
  pub found_bounded : (old_first old_end low high : ℕ) → IsBounded size old_found old_first old_end → low ≤ high → high ≤ size
      → (first < end → (low ≤ first) × (end ≤ high)) → (old_first < old_end → (low ≤ old_first) × (old_end ≤ high))
      → IsBounded size found low high
  found_bounded old_first old_end low high old ordered inside holds holds_old = record {
    whole = h.found_whole;
    few = bounds.few;
    ordered = ordered;
    inside = inside;
    low =
        λ i l.
        outside i (λ within some. let both = holds some in omega (arith, both.0, within.0))
        (λ within some. let both = holds_old some in omega (arith, both.0, within.0));
    high =
        λ i l.
        outside i (λ within some. let both = holds some in omega (arith, both.1, within.1))
        (λ within some. let both = holds_old some in omega (arith, both.1, within.1));
  }
    where
      old_none : (i : ℕ) → ((old_first ≤ i) × (i < old_end) → old_first < old_end → ⊥) → (t u : Bool) → nat_lt i old_first ≡ t
          → nat_lt i old_end ≡ u → get_or old_found i 0 ≡ 0
      old_none i out true u e f = old.low i (grind (arith, nat_tests))
      old_none i out false true e f =
          let above : old_first ≤ i = grind (arith, nat_tests) in
          let below : i < old_end = grind (arith, nat_tests) in
          absurd (out (above, below) (omega arith))
      old_none i out false false e f = old.high i (grind (arith, nat_tests))

      outside : (i : ℕ) → ((first ≤ i) × (i < end) → first < end → ⊥) → ((old_first ≤ i) × (i < old_end) → old_first < old_end → ⊥) → get_or found i 0 ≡ 0
      outside i out out_old = go (nat_lt i first) (nat_lt i end) refl refl
        where
          go : (t u : Bool) → nat_lt i first ≡ t → nat_lt i end ≡ u → get_or found i 0 ≡ 0
          go true u e f = h.found_low i (grind (arith, nat_tests)) ∙ old_none i out_old (nat_lt i old_first) (nat_lt i old_end) refl refl
          go false true e f =
              let above : first ≤ i = grind (arith, nat_tests) in
              let below : i < end = grind (arith, nat_tests) in
              absurd (out (above, below) (omega arith))
          go false false e f =
              let past : end ≤ i = grind (arith, nat_tests) in
              h.found_above i (omega arith) ∙ old_none i out_old (nat_lt i old_first) (nat_lt i old_end) refl refl

-- A set that grows has no more positions absent, and fewer if it gains one.
absent_least : (old new : List ℕ) → ((k : ℕ) → IsTrue (has_position old k) → IsTrue (has_position new k)) → (n : ℕ) → absent_below new n ≤ absent_below old n
unfolding absent_below
absent_least old new grows zero = omega arith
absent_least old new grows (suc n) = go (has_position old n) (has_position new n) (grows n) (absent_least old new grows n)
  where
    go : (a b : Bool) → (IsTrue a → IsTrue b) → absent_below new n ≤ absent_below old n
        → more_unless b (absent_below new n) ≤ more_unless a (absent_below old n)
    go true true g l = l
    go true false g l = absurd (false≢true (g refl))
    go false true g l = omega (arith, l)
    go false false g l = omega (arith, l)

absent_fewer : (old new : List ℕ) → ((k : ℕ) → IsTrue (has_position old k) → IsTrue (has_position new k)) → (n k : ℕ) → k < n
    → has_position old k ≡ false → IsTrue (has_position new k) → absent_below new n < absent_below old n
unfolding absent_below
absent_fewer old new grows zero k inside gone there = absurd (omega arith)
absent_fewer old new grows (suc n) k inside gone there = pick (k == n) refl (λ below. absent_fewer old new grows n k below gone there)
  where
    own : has_position old n ≡ false → IsTrue (has_position new n)
        → more_unless (has_position new n) (absent_below new n) < more_unless (has_position old n) (absent_below old n)
    own a b = let least : absent_below new n ≤ absent_below old n = absent_least old new grows n in rw (a, b) (omega (arith, least))

    go : (a b : Bool) → (IsTrue a → IsTrue b) → absent_below new n < absent_below old n
        → more_unless b (absent_below new n) < more_unless a (absent_below old n)
    go true true g l = l
    go true false g l = absurd (false≢true (g refl))
    go false true g l = omega (arith, l)
    go false false g l = omega (arith, l)

    pick : (t : Bool) → (k == n) ≡ t → (k < n → absent_below new n < absent_below old n)
        → more_unless (has_position new n) (absent_below new n) < more_unless (has_position old n) (absent_below old n)
    pick true e fewer = let same : k ≡ n = grind (arith, nat_tests) in own (rw same at gone) (rw same at there)
    pick false e fewer = let apart : k ≢ n = grind (arith, nat_tests) in go (has_position old n) (has_position new n) (grows n) (fewer (omega arith))

-- Only positions within the words are in a set.
held_inside : (words : List ℕ) (k : ℕ) → IsTrue (has_position words k) → k < 64 * length words
held_inside words k h = go (nat_lt k (64 * length words)) refl
  where
    go : (t : Bool) → nat_lt k (64 * length words) ≡ t → k < 64 * length words
    go true e = grind (arith, nat_tests)
    go false e =
        let far : 64 * length words ≤ k = grind (arith, nat_tests) in
        absurd (false≢true (sym (empty_word words k (get_or_past words (k / 64) 0 (omega arith))) ∙ h))

pub added_grows : (old_found old_fresh found fresh : List ℕ) → length found ≡ length old_found → IsEither old_found old_fresh found
    → IsNew old_fresh old_found fresh → (none : Bool) → MatchBool none (HasNone fresh) ((k : ℕ) × IsTrue (has_position fresh k))
    → MatchBool (not none) (absent found < absent old_found) (HasNone fresh)
unfolding absent
added_grows old_found old_fresh found fresh whole either new true h = h
added_grows old_found old_fresh found fresh whole either new false h =
    rw whole (absent_fewer old_found found grows (64 * length old_found) h.0 inside gone.1 there)
  where
    grows : (k : ℕ) → IsTrue (has_position old_found k) → IsTrue (has_position found k)
    grows k held = either.each k ∙ rw held refl

    parts : (a b : Bool) → IsTrue (a && not b) → IsTrue a × (b ≡ false)
    parts true false e = (refl, refl)
    parts true true e = absurd (false≢true e)
    parts false b e = absurd (false≢true e)

    gone : IsTrue (has_position old_fresh h.0) × (has_position old_found h.0 ≡ false)
    gone = parts (has_position old_fresh h.0) (has_position old_found h.0) (sym (new.each h.0) ∙ h.1)

    there : IsTrue (has_position found h.0)
    there = either.each h.0 ∙ rw (gone.1, gone.0) refl

    inside : h.0 < 64 * length old_found
    inside = rw whole at (held_inside found h.0 there)

-- one word taken out of a set, into an empty one
pub taken_window : (words here : List ℕ) (i : ℕ) → ((j : ℕ) → get_or here j 0 ≡ 0) → i < length words → i < length here
    → IsEither (set here i (get_or words i 0)) (set words i 0) words
taken_window words here i none inside room = record { each = λ k. go k (k / 64 == i) refl }
  where
    go : (k : ℕ) (t : Bool) → (k / 64 == i) ≡ t
        → has_position words k ≡ (has_position (set here i (get_or words i 0)) k || has_position (set words i 0) k)
    go k true e =
        let same : k / 64 ≡ i = grind (arith, nat_tests) in
        let gone : has_position (set words i 0) k ≡ false = empty_word (set words i 0) k (rw same (get_or-set_same words i 0 0 inside)) in
        let held : has_position (set here i (get_or words i 0)) k ≡ has_position words k =
        same_word (set here i (get_or words i 0)) words k (rw same (get_or-set_same here i (get_or words i 0) 0 room)) in
        rw (held, gone) (sym (or-false (has_position words k)))
    go k false e =
        let apart : k / 64 ≢ i = grind (arith, nat_tests) in
        let left : has_position (set words i 0) k ≡ has_position words k = position_set_other words i 0 k apart in
        let gone : has_position (set here i (get_or words i 0)) k ≡ false =
        empty_word (set here i (get_or words i 0)) k (get_or-set_other here i (k / 64) (get_or words i 0) 0 apart ∙ none (k / 64)) in
        rw (left, gone) refl
