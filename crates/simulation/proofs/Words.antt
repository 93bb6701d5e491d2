-- Loops that write words of cells.
use Rattle.std.proofs.Common.{◌≡◌, ◌≢◌, ℕ, ◌+◌, ◌*◌, ◌/◌, ◌%◌, ◌<◌, ◌≤◌, Bool, true, false, nat_lt, List, length, get_or, set, refl, sym, ap, subst, ◌∙◌, arith}
use Rattle.std.proofs.lemmas.Bool.Decides.{nat_tests}
use Rattle.ere.specs.Bits.{has_bit}
use Rattle.spans.proofs.Bits.{position_in, position_set_same, position_set_other}
use Rattle.simulation.specs.Pending.{at}
use Rattle.simulation.specs.Private.Words.{AreWritten, AreChanged}

pub written_more : (cells : List ℕ) (i word : ℕ) (value : ℕ → Bool) → i < length cells → AreWritten cells i value
    → ((b : ℕ) → b < 64 → has_bit word b ≡ value (i * 64 + b)) → AreWritten (set cells i word) (i + 1) value
written_more cells i word value inside before here k low = go (nat_lt k (64 * i)) refl
  where
    go : (t : Bool) → nat_lt k (64 * i) ≡ t → at (set cells i word) k ≡ value k
    go true e =
        let below : k < 64 * i = grind (arith, nat_tests) in
        let other : k / 64 ≢ i = omega arith in
        position_set_other cells i word k other ∙ before k below
    go false e =
        let past : 64 * i ≤ k = grind (arith, nat_tests) in
        let same : i * 64 + k % 64 ≡ k = omega arith in
        let bit : k % 64 < 64 = omega arith in
        subst (λ n. at (set cells i word) n ≡ value n) same (position_set_same cells i word (k % 64) inside bit ∙ here (k % 64) bit)

pub changed_none : (cells : List ℕ) (value : ℕ → Bool) → AreChanged cells cells 0 value
changed_none cells value = record { each = λ k low. absurd (omega arith); rest = λ k high. refl }

pub changed_more : (before cells : List ℕ) (i word : ℕ) (value : ℕ → Bool) → i < length cells → AreChanged before cells i value
    → ((b : ℕ) → b < 64 → has_bit word b ≡ value (i * 64 + b)) → AreChanged before (set cells i word) (i + 1) value
changed_more before cells i word value inside changed here = record {
  each = written_more cells i word value inside changed.each here;
  rest = λ k high.
      let other : k / 64 ≢ i = omega arith in
      position_set_other cells i word k other ∙ changed.rest k (omega arith);
}

-- The word in a place has the cells from there on.
pub word_is : (cells : List ℕ) (i b : ℕ) → b < 64 → has_bit (get_or cells i 0) b ≡ at cells (i * 64 + b)
word_is cells i b low = sym (position_in cells i b low)

pub first_word : (cells : List ℕ) (k : ℕ) → k < 64 → has_bit (get_or cells 0 0) k ≡ at cells k
first_word cells k low = let same : 0 * 64 + k ≡ k = omega arith in word_is cells 0 k low ∙ ap (at cells) same

pub first_written : (cells : List ℕ) (word k : ℕ) → 0 < length cells → k < 64 → at (set cells 0 word) k ≡ has_bit word k
first_written cells word k some low =
    let same : 0 * 64 + k ≡ k = omega arith in
    ap (at (set cells 0 word)) (sym same) ∙ position_set_same cells 0 word k some low
