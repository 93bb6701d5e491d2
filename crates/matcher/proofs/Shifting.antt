-- What a step over a set of bytes, and a sweep, have done up to a word.
use Rattle.std.proofs.Common.{◌≡◌, ◌≢◌, ◌⊎◌, inl, inr, ℕ, zero, suc, ◌+◌, ◌-◌, ◌*◌, ◌/◌, ◌≤◌, ◌<◌, ◌↔◌, Bool, true, false, ◌&&◌, ◌||◌, ◌==◌}
use Rattle.std.proofs.Common.{nat_le, nat_lt, IsTrue, List, length, get_or, set, refl, sym, ap, subst, ◌∙◌, arith, length-set}
use Rattle.std.proofs.lemmas.List.{get_or-set_same, get_or-set_other}
use Rattle.std.proofs.lemmas.Bool.Decides.{nat_tests}
use Rattle.std.proofs.lemmas.Nat.Bits.{bit_at_above}
use Rattle.std.proofs.lemmas.Bool.{false≢true, and_right, or_cases, or_left, or_right}
use Rattle.ere.specs.ByteSet.{has}
use Rattle.ere.specs.Tree as tree
use Rattle.matcher.specs.Private.Bounds.{IsBounded}
use Rattle.matcher.specs.Private.Moving.{passes, arrives, comes, flood}
use Rattle.spans.specs.Spans.{Spans, Steps}
use Rattle.ere.specs.Bits.{has_bit}
use Rattle.spans.specs.PositionSets.{has_position}
use Rattle.matcher.specs.Private.Moves.{Moves}
use Rattle.ere.proofs.Bits.{has_zero}
use Rattle.spans.proofs.Bits.{position_in, same_word, empty_word, position_set_same, position_set_other}

-- at the line's end, and from there on, no byte follows
pub none_passes : (members : List Bool) (line : List ℕ) (k : ℕ) → length line ≤ k → passes members line k ≡ false
none_passes members line k far = let test : nat_lt k (length line) ≡ false = grind (arith, nat_tests) in rw test refl

-- words from the end on, and before the first, hold no position
pub none_before : {size : ℕ} {words : List ℕ} {first end : ℕ} → IsBounded size words first end → (k : ℕ) → k < first * 64 → has_position words k ≡ false
none_before {size} {words} bounds k low = empty_word words k (bounds.low (k / 64) (omega arith))

pub none_after : {size : ℕ} {words : List ℕ} {first end : ℕ} → IsBounded size words first end → (k : ℕ) → end * 64 ≤ k → has_position words k ≡ false
none_after {size} {words} bounds k far = empty_word words k (bounds.high (k / 64) (omega arith))

-- The step is made for the words before `i`.
pub record IsShifted (size : ℕ) (members : List Bool) (line old new : List ℕ) (first i carried : ℕ) : Type 0 where
  pub whole : length new ≡ size
  pub low : (j : ℕ) → j < first → get_or new j 0 ≡ 0
  pub below : (k : ℕ) → k < i * 64 → has_position new k ≡ arrives members line old k
  pub above : (j : ℕ) → i ≤ j → get_or new j 0 ≡ get_or old j 0
  pub is_bit : carried < 2
  pub carry : has_bit carried 0 ≡ arrives members line old (i * 64)

pub shifted_first : {size : ℕ} (members : List Bool) (line old : List ℕ) (first end : ℕ) → IsBounded size old first end
    → IsShifted size members line old old first first 0
shifted_first members line old first end bounds = record {
  whole = bounds.whole;
  low = bounds.low;
  below = λ k l. none_before bounds k l ∙ sym (none k (omega arith));
  above = λ j l. refl;
  is_bit = omega arith;
  carry = has_zero 0 ∙ sym (none (first * 64) (omega arith));
}
  where
    none : (k : ℕ) → k ≤ first * 64 → arrives members line old k ≡ false
    none zero l = refl
    none (suc k) l = rw (none_before bounds k (omega arith)) refl

pub shifted_more : {size : ℕ} (members : List Bool) (line old new : List ℕ) (first i carried passing moved next : ℕ)
    → IsShifted size members line old new first i carried → first ≤ i → i < size
    → ((b : ℕ) → b < 64 → has_bit passing b ≡ (has_bit (get_or new i 0) b && passes members line (i * 64 + b)))
    → has_bit moved 0 ≡ has_bit carried 0 → ((b : ℕ) → b < 63 → has_bit moved (b + 1) ≡ has_bit passing b)
    → next < 2 → has_bit next 0 ≡ has_bit passing 63
    → IsShifted size members line old (set new i moved) first (i + 1) next
shifted_more members line old new first i carried passing moved next h begun inside followed lowest others is_bit highest = record {
  whole = length-set new i moved ∙ h.whole;
  low = λ j l. get_or-set_other new i j moved 0 (omega arith) ∙ h.low j l;
  below = λ k l. below k l (nat_lt k (i * 64)) refl;
  above = λ j l. get_or-set_other new i j moved 0 (omega arith) ∙ h.above j (omega arith);
  is_bit = is_bit;
  carry = highest ∙ passed 63 (omega arith) ∙ ap (λ k. arrives members line old k) last;
}
  where
    within : i < length new
    within = omega (arith, h.whole)

    last : suc (i * 64 + 63) ≡ (i + 1) * 64
    last = omega arith

    passed : (b : ℕ) → b < 64 → has_bit passing b ≡ arrives members line old (suc (i * 64 + b))
    passed b l = followed b l ∙ ap (λ t. t && passes members line (i * 64 + b)) (ap (λ n. has_bit n b) (h.above i (omega arith)) ∙ sym (position_in old i b l))

    at : (b : ℕ) → b < 64 → has_bit moved b ≡ arrives members line old (i * 64 + b)
    at zero l = let place : i * 64 ≡ i * 64 + 0 = omega arith in lowest ∙ h.carry ∙ ap (λ k. arrives members line old k) place
    at (suc b) l =
        let next_bit : suc b ≡ b + 1 = omega arith in
        let place : suc (i * 64 + b) ≡ i * 64 + suc b = omega arith in
        ap (λ n. has_bit moved n) next_bit ∙ others b (omega arith) ∙ passed b (omega arith) ∙ ap (λ k. arrives members line old k) place

    below : (k : ℕ) → k < (i + 1) * 64 → (t : Bool) → nat_lt k (i * 64) ≡ t → has_position (set new i moved) k ≡ arrives members line old k
    below k l true e =
        let low : k < i * 64 = grind (arith, nat_tests) in
        position_set_other new i moved k (omega arith) ∙ h.below k low
    below k l false e =
        let high : i * 64 ≤ k = grind (arith, nat_tests) in
        let place : i * 64 + (k - i * 64) ≡ k = omega arith in
        let bit : k - i * 64 < 64 = omega arith in
        subst (λ n. has_position (set new i moved) n ≡ arrives members line old n) place
        (position_set_same new i moved (k - i * 64) within bit ∙ at (k - i * 64) bit)

-- The whole step: what is carried out of the last word goes into the next one, or nothing is carried.
module _ {size : ℕ} (members : List Bool) (line old new : List ℕ) (first end carried : ℕ)
    (h : IsShifted size members line old new first end carried) (bounds : IsBounded size old first end) where
  arrives_after : (k : ℕ) → end * 64 < k → arrives members line old k ≡ false
  arrives_after zero l = refl
  arrives_after (suc k) l = rw (none_after bounds k (omega arith)) refl

  past : (k : ℕ) → end * 64 < k → has_position new k ≡ arrives members line old k
  past k l = same_word new old k (h.above (k / 64) (omega arith)) ∙ none_after bounds k (omega arith) ∙ sym (arrives_after k l)

  pub shifted_end : has_bit carried 0 ≡ false → (k : ℕ) → has_position new k ≡ arrives members line old k
  shifted_end none k = go (nat_lt k (end * 64)) (k == end * 64) refl refl
    where
      go : (t u : Bool) → nat_lt k (end * 64) ≡ t → (k == end * 64) ≡ u → has_position new k ≡ arrives members line old k
      go true u e f = h.below k (grind (arith, nat_tests))
      go false true e f =
          let same : k ≡ end * 64 = grind (arith, nat_tests) in
          rw same (none_after_new ∙ sym none ∙ h.carry)
        where
          none_after_new : has_position new (end * 64) ≡ false
          none_after_new = same_word new old (end * 64) (h.above (end * 64 / 64) (omega arith)) ∙ none_after bounds (end * 64) (omega arith)
      go false false e f = past k (grind (arith, nat_tests))

  pub shifted_end_bounded : IsBounded size new first end
  shifted_end_bounded = record {
    whole = h.whole;
    few = bounds.few;
    ordered = bounds.ordered;
    inside = bounds.inside;
    low = h.low;
    high = λ j l. h.above j l ∙ bounds.high j l;
  }

  pub shifted_on : end < size → (k : ℕ) → has_position (set new end carried) k ≡ arrives members line old k
  shifted_on inside k = go (nat_lt k (end * 64)) (nat_lt k (end * 64 + 64)) refl refl
    where
      none_above : (b : ℕ) → 0 < b → has_bit carried b ≡ false
      none_above b some = ap (λ n. n == 1) (bit_at_above carried 1 b (omega (arith, h.is_bit)) some)

      at : (b : ℕ) → has_bit carried b ≡ arrives members line old (end * 64 + b)
      at zero = let place : end * 64 ≡ end * 64 + 0 = omega arith in h.carry ∙ ap (λ n. arrives members line old n) place
      at (suc b) = none_above (suc b) (omega arith) ∙ sym (arrives_after (end * 64 + suc b) (omega arith))

      go : (t u : Bool) → nat_lt k (end * 64) ≡ t → nat_lt k (end * 64 + 64) ≡ u → has_position (set new end carried) k ≡ arrives members line old k
      go true u e f =
          let low : k < end * 64 = grind (arith, nat_tests) in
          position_set_other new end carried k (omega arith) ∙ h.below k low
      go false true e f =
          let high : end * 64 ≤ k = grind (arith, nat_tests) in
          let low : k < end * 64 + 64 = grind (arith, nat_tests) in
          let place : end * 64 + (k - end * 64) ≡ k = omega arith in
          subst (λ n. has_position (set new end carried) n ≡ arrives members line old n) place
          (position_set_same new end carried (k - end * 64) (omega (arith, h.whole)) (omega arith) ∙ at (k - end * 64))
      go false false e f =
          let high : end * 64 + 64 ≤ k = grind (arith, nat_tests) in
          position_set_other new end carried k (omega arith) ∙ past k (omega arith)

  pub shifted_on_bounded : end < size → IsBounded size (set new end carried) first (end + carried)
  shifted_on_bounded inside = record {
    whole = length-set new end carried ∙ h.whole;
    few = bounds.few;
    ordered = omega (arith, bounds.ordered);
    inside = omega (arith, h.is_bit);
    low = λ j l. get_or-set_other new end j carried 0 (omega (arith, bounds.ordered)) ∙ h.low j l;
    high = λ j l. high j l (j == end) refl;
  }
    where
      high : (j : ℕ) → end + carried ≤ j → (t : Bool) → (j == end) ≡ t → get_or (set new end carried) j 0 ≡ 0
      high j l true e =
          let same : j ≡ end = grind (arith, nat_tests) in
          let none : carried ≡ 0 = omega arith in
          rw same (get_or-set_same new end carried 0 (omega (arith, h.whole)) ∙ none)
      high j l false e =
          let apart : j ≢ end = grind (arith, nat_tests) in
          get_or-set_other new end j carried 0 apart ∙ h.above j (omega arith) ∙ bounds.high j (omega arith)

-- A step carries nothing past the end of the line.
pub none_carried : (members : List Bool) (line old : List ℕ) (end : ℕ) → length line < end * 64 → arrives members line old (end * 64) ≡ false
none_carried members line old end short = go (end * 64) refl
  where
    go : (k : ℕ) → k ≡ end * 64 → arrives members line old k ≡ false
    go zero e = refl
    go (suc k) e = and_right (has_position old k) (passes members line k) (none_passes members line k (omega arith))

-- The sweep is made for the words before `i`.
pub record IsSwept (size : ℕ) (members : List Bool) (line old new : List ℕ) (first i carried : ℕ) : Type 0 where
  pub whole : length new ≡ size
  pub low : (j : ℕ) → j < first → get_or new j 0 ≡ 0
  pub below : (k : ℕ) → k < i * 64 → has_position new k ≡ flood (has_position old) (passes members line) k
  pub above : (j : ℕ) → i ≤ j → get_or new j 0 ≡ get_or old j 0
  pub is_bit : carried < 2
  pub carry : has_bit carried 0 ≡ comes (has_position old) (passes members line) (i * 64)

-- If nothing comes to `start` and nothing is held from there on, nothing comes later.
comes_none : (held pass : ℕ → Bool) (start k : ℕ) → comes held pass start ≡ false → ((j : ℕ) → start ≤ j → j < k → held j ≡ false)
    → start ≤ k → comes held pass k ≡ false
comes_none held pass start zero none empty far = refl
comes_none held pass start (suc k) none empty far =
    go (nat_le start k) refl (λ before. comes_none held pass start k none (λ j low high. empty j low (omega arith)) before)
  where
    go : (t : Bool) → nat_le start k ≡ t → (start ≤ k → comes held pass k ≡ false) → comes held pass (suc k) ≡ false
    go true e earlier =
        let before : start ≤ k = grind (arith, nat_tests) in
        rw (empty k before (omega arith), earlier before) refl
    go false e earlier =
        let same : start ≡ suc k = let past : k < start = grind (arith, nat_tests) in omega arith in
        subst (λ n. comes held pass n ≡ false) same none

pub swept_first : {size : ℕ} (members : List Bool) (line old : List ℕ) (first end : ℕ) → IsBounded size old first end
    → IsSwept size members line old old first first 0
swept_first members line old first end bounds = record {
  whole = bounds.whole;
  low = bounds.low;
  below = λ k l. none_before bounds k l ∙ sym (rw (none_before bounds k l, none k (omega arith)) refl);
  above = λ j l. refl;
  is_bit = omega arith;
  carry = has_zero 0 ∙ sym (none (first * 64) (omega arith));
}
  where
    none : (k : ℕ) → k ≤ first * 64 → comes (has_position old) (passes members line) k ≡ false
    none k l = comes_none (has_position old) (passes members line) 0 k refl (λ j low high. none_before bounds j (omega arith)) (omega arith)

-- The flood of one word, with the carried bit, is that of all words at its positions.
pub comes_word : (held pass : ℕ → Bool) (word carried base : ℕ)
    → ((b : ℕ) → b < 64 → has_bit word b ≡ (held (base + b) || has_bit carried b)) → ((b : ℕ) → 0 < b → has_bit carried b ≡ false)
    → has_bit carried 0 ≡ comes held pass base → (b : ℕ) → b < 64
    → flood (has_bit word) (λ n. pass (base + n)) b ≡ flood held pass (base + b)
comes_word held pass word carried base bits small start b inside = go b inside
  where
    or_none : (t : Bool) → (t || false) ≡ t
    or_none true = refl
    or_none false = refl

    go : (b : ℕ) → b < 64 → flood (has_bit word) (λ n. pass (base + n)) b ≡ flood held pass (base + b)
    go zero l =
        let place : base ≡ base + 0 = omega arith in
        or_none (has_bit word 0) ∙ bits 0 l ∙ ap (λ t. held (base + 0) || t) (start ∙ ap (λ n. comes held pass n) place)
    go (suc b) l =
        let place : suc (base + b) ≡ base + suc b = omega arith in
        let own : has_bit word (suc b) ≡ held (base + suc b) =
        bits (suc b) l ∙ ap (λ t. held (base + suc b) || t) (small (suc b) (omega arith)) ∙ or_none (held (base + suc b)) in
        let before : comes (has_bit word) (λ n. pass (base + n)) (suc b) ≡ comes held pass (suc (base + b)) =
        ap (λ t. t && pass (base + b)) (go b (omega arith)) in
        rw own (ap (λ t. held (base + suc b) || t) (before ∙ ap (λ n. comes held pass n) place))

pub swept_more : {size : ℕ} (members : List Bool) (line old new : List ℕ) (first i carried joined reached next : ℕ)
    → IsSwept size members line old new first i carried → first ≤ i → i < size
    → ((b : ℕ) → has_bit joined b ≡ (has_bit (get_or new i 0) b || has_bit carried b))
    → ((b : ℕ) → b < 64 → has_bit reached b ≡ flood (has_bit joined) (λ n. passes members line (i * 64 + n)) b)
    → next < 2 → has_bit next 0 ≡ (has_bit reached 63 && passes members line (i * 64 + 63))
    → IsSwept size members line old (set new i reached) first (i + 1) next
swept_more members line old new first i carried joined reached next h begun inside joins floods is_bit carry = record {
  whole = length-set new i reached ∙ h.whole;
  low = λ j l. get_or-set_other new i j reached 0 (omega arith) ∙ h.low j l;
  below = λ k l. below k l (nat_lt k (i * 64)) refl;
  above = λ j l. get_or-set_other new i j reached 0 (omega arith) ∙ h.above j (omega arith);
  is_bit = is_bit;
  carry = carry ∙ ap (λ t. t && passes members line (i * 64 + 63)) (at 63 (omega arith)) ∙ ap (λ n. comes (has_position old) (passes members line) n) last;
}
  where
    last : suc (i * 64 + 63) ≡ (i + 1) * 64
    last = omega arith

    at : (b : ℕ) → b < 64 → has_bit reached b ≡ flood (has_position old) (passes members line) (i * 64 + b)
    at b l =
        floods b l
        ∙ comes_word (has_position old) (passes members line) joined carried (i * 64) (λ n inside.
        joins n
        ∙ ap (λ t. t || has_bit carried n) (ap (λ w. has_bit w n) (h.above i (omega arith)) ∙ sym (position_in old i n inside)))
        (λ n some. ap (λ x. x == 1) (bit_at_above carried 1 n (omega (arith, h.is_bit)) some)) h.carry b l

    below : (k : ℕ) → k < (i + 1) * 64 → (t : Bool) → nat_lt k (i * 64) ≡ t
        → has_position (set new i reached) k ≡ flood (has_position old) (passes members line) k
    below k l true e =
        let low : k < i * 64 = grind (arith, nat_tests) in
        position_set_other new i reached k (omega arith) ∙ h.below k low
    below k l false e =
        let high : i * 64 ≤ k = grind (arith, nat_tests) in
        let place : i * 64 + (k - i * 64) ≡ k = omega arith in
        let bit : k - i * 64 < 64 = omega arith in
        subst (λ n. has_position (set new i reached) n ≡ flood (has_position old) (passes members line) n) place
        (position_set_same new i reached (k - i * 64) (omega (arith, h.whole)) bit ∙ at (k - i * 64) bit)

-- the whole sweep, if it stops early, and if it goes through all words
module _ {size : ℕ} (members : List Bool) (line old new : List ℕ) (first i carried end : ℕ)
    (h : IsSwept size members line old new first i carried) (bounds : IsBounded size old first end) (after : end ≤ i) where
  pub swept_all : has_bit carried 0 ≡ false → (k : ℕ) → has_position new k ≡ flood (has_position old) (passes members line) k
  swept_all none k = go (nat_lt k (i * 64)) refl
    where
      go : (t : Bool) → nat_lt k (i * 64) ≡ t → has_position new k ≡ flood (has_position old) (passes members line) k
      go true e = h.below k (grind (arith, nat_tests))
      go false e =
          let far : i * 64 ≤ k = grind (arith, nat_tests) in
          let empty : has_position old k ≡ false = none_after bounds k (omega arith) in
          let nothing : comes (has_position old) (passes members line) k ≡ false =
          comes_none (has_position old) (passes members line) (i * 64) k (sym h.carry ∙ none)
          (λ j low high. none_after bounds j (omega arith)) far in
          same_word new old k (h.above (k / 64) (omega arith)) ∙ empty ∙ sym (rw (empty, nothing) refl)

  pub swept_bounded : i ≤ size → IsBounded size new first i
  swept_bounded inside = record {
    whole = h.whole;
    few = bounds.few;
    ordered = omega (arith, bounds.ordered);
    inside = inside;
    low = h.low;
    high = λ j l. h.above j l ∙ bounds.high j (omega arith);
  }

-- A sweep carries nothing past the end of the line.
pub none_swept_on : (members : List Bool) (line old : List ℕ) (i : ℕ) → length line < i * 64 → comes (has_position old) (passes members line) (i * 64) ≡ false
none_swept_on members line old i short = go (i * 64) refl
  where
    go : (k : ℕ) → k ≡ i * 64 → comes (has_position old) (passes members line) k ≡ false
    go zero e = refl
    go (suc k) e =
        and_right (has_position old k || comes (has_position old) (passes members line) k) (passes members line k)
        (none_passes members line k (omega arith))

-- a conjunction of three, taken apart and made
and_parts : (a b c : Bool) → IsTrue (a && (b && c)) → IsTrue a × IsTrue b × IsTrue c
and_parts true true true h = (refl, refl, refl)
and_parts true true false h = absurd (false≢true h)
and_parts true false c h = absurd (false≢true h)
and_parts false b c h = absurd (false≢true h)

and_made : (a b c : Bool) → IsTrue a → IsTrue b → IsTrue c → IsTrue (a && (b && c))
and_made true true true x y z = refl
and_made true true false x y z = z
and_made true false c x y z = y
and_made false b c x y z = x

pub moves_shifted : (line : List ℕ) (members : List Bool) (old new : List ℕ) → ((k : ℕ) → has_position new k ≡ arrives members line old k)
    → Moves (Spans line (tree.set members)) old new
unfolding Spans
moves_shifted line members old new each = record {
  sound = λ k holds. sound k (sym (each k) ∙ holds);
  complete = λ start k held leads. complete start k held leads;
}
  where
    sound : (k : ℕ) → IsTrue (arrives members line old k) → (start : ℕ) × IsTrue (has_position old start) × Spans line (tree.set members) start k
    sound zero h = absurd (false≢true h)
    sound (suc k) h =
        let parts = and_parts (has_position old k) (nat_lt k (length line)) (has members (get_or line k 0)) h in
        let test : IsTrue (nat_lt k (length line)) = parts.1 in
        (k, parts.0, (refl, grind (arith, nat_tests), parts.2))

    complete : (start k : ℕ) → IsTrue (has_position old start) → Spans line (tree.set members) start k → IsTrue (has_position new k)
    complete start k held leads =
        let inside : start < length line = leads.1 in
        let test : IsTrue (nat_lt start (length line)) = grind (arith, nat_tests) in
        let at_next : IsTrue (has_position new (suc start)) =
        each (suc start)
        ∙ and_made (has_position old start) (nat_lt start (length line)) (has members (get_or line start 0)) held test leads.2 in
        subst (λ (n : ℕ). IsTrue (has_position new n)) (sym leads.0) at_next

-- what a step does, as the public function states it
pub step_is : (line : List ℕ) (members : List Bool) (old new : List ℕ) → ((k : ℕ) → has_position new k ≡ arrives members line old k)
    → (k : ℕ)
    → IsTrue (has_position new k)
    ↔ ((1 ≤ k) × (k ≤ length line) × IsTrue (has_position old (k - 1)) × IsTrue (has members (get_or line (k - 1) 0)))
step_is line members old new each zero = (λ h. absurd (false≢true (sym (each 0) ∙ h)), λ h. absurd (omega (arith, h.0)))
step_is line members old new each (suc k) = rw back (there, back_again)
  where
    back : suc k - 1 ≡ k
    back = omega arith

    there : IsTrue (has_position new (suc k)) → (1 ≤ suc k) × (suc k ≤ length line) × IsTrue (has_position old k) × IsTrue (has members (get_or line k 0))
    there h =
        let parts = and_parts (has_position old k) (nat_lt k (length line)) (has members (get_or line k 0)) (sym (each (suc k)) ∙ h) in
        let test : IsTrue (nat_lt k (length line)) = parts.1 in
        (omega arith, grind (arith, nat_tests), parts.0, parts.2)

    back_again : (1 ≤ suc k) × (suc k ≤ length line) × IsTrue (has_position old k) × IsTrue (has members (get_or line k 0)) → IsTrue (has_position new (suc k))
    back_again h =
        let inside : suc k ≤ length line = h.1 in
        let test : IsTrue (nat_lt k (length line)) = grind (arith, nat_tests) in
        each (suc k) ∙ and_made (has_position old k) (nat_lt k (length line)) (has members (get_or line k 0)) h.2 test h.3

abbrev Comes : List ℕ → List Bool → List ℕ → ℕ → Type 0
Comes line members old k = (start : ℕ) × IsTrue (has_position old start) × ((words : ℕ) × Steps (Spans line (tree.set members)) words start k)

pub moves_swept : (line : List ℕ) (members : List Bool) (old new : List ℕ)
    → ((k : ℕ) → has_position new k ≡ flood (has_position old) (passes members line) k)
    → Moves (λ from to. (words : ℕ) × Steps (Spans line (tree.set members)) words from to) old new
unfolding Spans Steps
moves_swept line members old new each = record {
  sound = λ k h. sound k (sym (each k) ∙ h);
  complete = λ start k held r. each k ∙ complete r.0 start k held r.1;
}
  where
    more : (k : ℕ) → Comes line members old k → IsTrue (nat_lt k (length line)) → IsTrue (has members (get_or line k 0)) → Comes line members old (suc k)
    more k w test member = (w.0, w.1, (suc w.2.0, (k, w.2.1, (refl, grind (arith, nat_tests), member))))

    next : (k : ℕ) → (IsTrue (flood (has_position old) (passes members line) k) → Comes line members old k)
        → IsTrue (has_position old (suc k)) ⊎ IsTrue (flood (has_position old) (passes members line) k && passes members line k)
        → Comes line members old (suc k)
    next k before (inl x) = (suc k, x, (0, refl))
    next k before (inr x) =
        let parts =
        and_parts (flood (has_position old) (passes members line) k) (nat_lt k (length line)) (has members (get_or line k 0)) x in
        more k (before parts.0) parts.1 parts.2

    sound : (k : ℕ) → IsTrue (flood (has_position old) (passes members line) k) → Comes line members old k
    sound zero h = pick (or_cases (has_position old 0) false h)
      where
        pick : IsTrue (has_position old 0) ⊎ IsTrue false → Comes line members old 0
        pick (inl x) = (0, x, (0, refl))
        pick (inr x) = absurd (false≢true x)
    sound (suc k) h = next k (sound k) (or_cases (has_position old (suc k)) (flood (has_position old) (passes members line) k && passes members line k) h)

    held_reached : (k : ℕ) → IsTrue (has_position old k) → IsTrue (flood (has_position old) (passes members line) k)
    held_reached k h = or_left (has_position old k) (comes (has_position old) (passes members line) k) h

    complete : (words start k : ℕ) → IsTrue (has_position old start) → Steps (Spans line (tree.set members)) words start k
        → IsTrue (flood (has_position old) (passes members line) k)
    complete zero start k held r = held_reached k (subst (λ (n : ℕ). IsTrue (has_position old n)) r held)
    complete (suc words) start k held r =
        let before = complete words start r.0 held r.1 in
        let inside : r.0 < length line = r.2.1 in
        let test : IsTrue (nat_lt r.0 (length line)) = grind (arith, nat_tests) in
        let next : IsTrue (flood (has_position old) (passes members line) (suc r.0)) =
        or_right (has_position old (suc r.0)) (flood (has_position old) (passes members line) r.0 && passes members line r.0)
        (and_made (flood (has_position old) (passes members line) r.0) (nat_lt r.0 (length line)) (has members (get_or line r.0 0))
        before test r.2.2) in
        subst (λ n. IsTrue (flood (has_position old) (passes members line) n)) (sym r.2.0) next

-- The flood needs the tests only from the first held position on.
pub flood_from : (held pass other : ℕ → Bool) (first : ℕ) → ((b : ℕ) → b < first → held b ≡ false)
    → ((b : ℕ) → first ≤ b → b < 64 → other b ≡ pass b) → (b : ℕ) → b < 64 → flood held other b ≡ flood held pass b
flood_from held pass other first none same b inside = ap (λ t. held b || t) (comes_from b inside)
  where
    comes_from : (b : ℕ) → b < 64 → comes held other b ≡ comes held pass b
    comes_from zero l = refl
    comes_from (suc b) l = go (nat_le first b) refl (comes_from b (omega arith))
      where
        go : (t : Bool) → nat_le first b ≡ t → comes held other b ≡ comes held pass b → comes held other (suc b) ≡ comes held pass (suc b)
        go true e before =
            let from : first ≤ b = grind (arith, nat_tests) in
            ap (λ t. (held b || comes held other b) && t) (same b from (omega arith)) ∙ ap (λ t. (held b || t) && pass b) before
        go false e before =
            let low : b < first = grind (arith, nat_tests) in
            let own : held b ≡ false = none b low in
            let nothing : comes held pass b ≡ false = comes_none held pass 0 b refl (λ j from to. none j (omega arith)) (omega arith) in
            let others : comes held other b ≡ false = before ∙ nothing in
            rw (own, others, nothing) refl

pub flood_none : (held pass : ℕ → Bool) → ((b : ℕ) → held b ≡ false) → (b : ℕ) → flood held pass b ≡ false
flood_none held pass none b =
    let nothing : comes held pass b ≡ false = comes_none held pass 0 b refl (λ j from to. none j) (omega arith) in
    rw (none b, nothing) refl
