-- The turns of a repeat in words of cells.
use Rattle.std.proofs.Common.{◌≡◌, ◌≢◌, ℕ, zero, suc, ◌+◌, ◌-◌, ◌*◌, ◌/◌, ◌%◌, ◌^◌, ◌<◌, ◌≤◌, Bool, true, false, ◌&&◌, ◌||◌, ◌==◌, if◌then◌else◌, nat_lt, nat_le}
use Rattle.std.proofs.Common.{IsTrue, List, length, get_or, set, ◌⊎◌, ◌↔◌, inl, inr, refl, sym, ap, ◌∙◌, arith, bit_and, bit_or, nat_eq}
use Rattle.std.proofs.lemmas.Nat.{mod-mul-add, mul-add-lt}
use Rattle.std.proofs.Math.Nat.{mul-le-mul_right}
use Rattle.std.proofs.lemmas.Bool.{eqb-false, eqb-true, le-leb, leb-false, leb-true, ltb-false, ltb-true}
use Rattle.std.proofs.lemmas.Bool.Decides.{nat_tests}
use Rattle.std.proofs.Math.Bool.{and-false}
use Rattle.std.proofs.lemmas.Nat.{shr-shr}
use Rattle.std.proofs.lemmas.Nat.Bits.{bit_at_above}
use Rattle.ere.specs.Bits.{has_bit}
use Rattle.ere.proofs.Bits.{has_or, has_with, tests_bit}
use Rattle.spans.proofs.Bits.{false≢true, has_moved_to, or_none, position_is, position_set_same, position_set_other}
use Rattle.simulation.specs.declared.node.RepeatCounts.{RepeatCounts}
use Rattle.simulation.specs.Pending.{at, room, AnyTurn, Enters, Enters as enters, IsNarrow, IsNarrow as narrows}
use Rattle.simulation.proofs.Tests.{or_cases, or_left, or_right, and_left, and_right, and_both}
use Rattle.simulation.proofs.Forward.{at_or_past, le_or_lt}
use Rattle.simulation.specs.Private.Words.{AreWritten, AreChanged, shifted, repeated}
use Rattle.simulation.proofs.Words.{written_more, changed_more, word_is, first_written}

pub moved_down_is : (word count b : ℕ) → has_bit (word / 2 ^ count) b ≡ has_bit word (count + b)
moved_down_is word count b = ap (λ n. n % 2 == 1) (shr-shr word count b)

pub highest_low : (word count b : ℕ) → b < count → has_bit (word / 2 ^ (64 - count)) b ≡ has_bit word (64 - count + b)
highest_low word count b low = moved_down_is word (64 - count) b

pub highest_high : (word count : ℕ) → word < 2 ^ 64 → count < 64 → (b : ℕ) → count ≤ b → has_bit (word / 2 ^ (64 - count)) b ≡ false
highest_high word count small low b high =
    let far : 64 ≤ 64 - count + b = omega arith in
    moved_down_is word (64 - count) b ∙ ap (λ n. n == 1) (bit_at_above word 64 (64 - count + b) small far)

pub lowest_low : (word count : ℕ) → 0 < count → count < 64 → (b : ℕ) → b < count → has_bit (word * 2 ^ (64 - count) % 2 ^ 64 / 2 ^ (64 - count)) b ≡ has_bit word b
lowest_low word count some low b inside =
    let fits : 64 - count + b < 64 = omega arith in
    let back : 64 - count + b - (64 - count) ≡ b = omega arith in
    let past : nat_le (64 - count) (64 - count + b) ≡ true = (let up : 64 - count ≤ 64 - count + b = omega arith in grind (arith, nat_tests)) in
    moved_down_is (word * 2 ^ (64 - count) % 2 ^ 64) (64 - count) b ∙ has_moved_to word (64 - count) (64 - count + b) fits
    ∙ ap (λ t. t && has_bit word (64 - count + b - (64 - count))) past ∙ ap (has_bit word) back

pub lowest_high : (word count : ℕ) → count < 64 → (b : ℕ) → count ≤ b → has_bit (word * 2 ^ (64 - count) % 2 ^ 64 / 2 ^ (64 - count)) b ≡ false
lowest_high word count low b high =
    let small : word * 2 ^ (64 - count) % 2 ^ 64 < 2 ^ 64 = omega arith in
    highest_high (word * 2 ^ (64 - count) % 2 ^ 64) count small low b high

pub moved_in_is : (word carried count : ℕ) → ((b : ℕ) → count ≤ b → has_bit carried b ≡ false) → (b : ℕ) → b < 64
    → has_bit (bit_or (word * 2 ^ count % 2 ^ 64) carried) b ≡ (if nat_lt b count then has_bit carried b else has_bit word (b - count))
moved_in_is word carried count none b inside =
    has_or (word * 2 ^ count % 2 ^ 64) carried b ∙ ap (λ t. t || has_bit carried b) (has_moved_to word count b inside) ∙ go (nat_lt b count) refl (nat_le count b) refl
  where
    go : (t : Bool) → nat_lt b count ≡ t → (s : Bool) → nat_le count b ≡ s
        → ((s && has_bit word (b - count)) || has_bit carried b) ≡ (if t then has_bit carried b else has_bit word (b - count))
    go true e true f = let below : b < count = grind (arith, nat_tests) in let above : count ≤ b = grind (arith, nat_tests) in absurd (omega arith)
    go true e false f = refl
    go false e true f = let above : count ≤ b = grind (arith, nat_tests) in ap (λ t. has_bit word (b - count) || t) (none b above) ∙ or_none (has_bit word (b - count))
    go false e false f = let below : count ≤ b = grind (arith, nat_tests) in let above : b < count = grind (arith, nat_tests) in absurd (omega arith)

pub from_bit_is : (word bit b : ℕ) → b < 64 → has_bit (word / 2 ^ bit * 2 ^ bit % 2 ^ 64) b ≡ (nat_le bit b && has_bit word b)
from_bit_is word bit b inside = has_moved_to (word / 2 ^ bit) bit b inside ∙ go (nat_le bit b) refl
  where
    go : (t : Bool) → nat_le bit b ≡ t → (t && has_bit (word / 2 ^ bit) (b - bit)) ≡ (t && has_bit word b)
    go true e =
        let above : bit ≤ b = grind (arith, nat_tests) in
        let same : bit + (b - bit) ≡ b = omega arith in
        moved_down_is word bit (b - bit) ∙ ap (has_bit word) same
    go false e = refl

pub holds_is : (cells : List ℕ) (k : ℕ) → (bit_and (get_or cells (k / 64) 0 / 2 ^ (k % 64)) 1 == 1) ≡ at cells k
holds_is cells k = tests_bit (get_or cells (k / 64) 0) (k % 64) ∙ sym (position_is cells k)

-- The words before one are moved up, and what is carried comes next.
pub record IsMoving (stride : ℕ) (entered read out : List ℕ) (i carried : ℕ) : Type 0 where
  pub written : AreWritten out i (shifted stride entered read)
  pub low : (b : ℕ) → b < stride → has_bit carried b ≡ shifted stride entered read (i * 64 + b)
  pub high : (b : ℕ) → stride ≤ b → has_bit carried b ≡ false

shifted_low : (stride : ℕ) (entered read : List ℕ) (k : ℕ) → k < stride → shifted stride entered read k ≡ at entered k
shifted_low stride entered read k low = let is : nat_lt k stride ≡ true = grind (arith, nat_tests) in ap (λ t. if t then at entered k else at read (k - stride)) is

shifted_high : (stride : ℕ) (entered read : List ℕ) (k : ℕ) → stride ≤ k → shifted stride entered read k ≡ at read (k - stride)
shifted_high stride entered read k high = let is : nat_lt k stride ≡ false = grind (arith, nat_tests) in ap (λ t. if t then at entered k else at read (k - stride)) is

pub moving_first : (stride : ℕ) (entered read out : List ℕ) (carried : ℕ) → stride < 64 → ((b : ℕ) → b < stride → has_bit carried b ≡ has_bit (get_or entered 0 0) b)
    → ((b : ℕ) → stride ≤ b → has_bit carried b ≡ false) → IsMoving stride entered read out 0 carried
moving_first stride entered read out carried few low high = record {
  written = λ k none. absurd (omega arith);
  low = λ b inside.
      let bit : b < 64 = omega arith in
      let first : 0 * 64 + b < stride = omega arith in
      low b inside ∙ word_is entered 0 b bit ∙ sym (shifted_low stride entered read (0 * 64 + b) first);
  high = high;
}

moving_bit : (stride : ℕ) (entered read : List ℕ) (i carried b : ℕ) → b < 64 → stride < 64
    → ((b : ℕ) → b < stride → has_bit carried b ≡ shifted stride entered read (i * 64 + b)) → (t : Bool) → nat_lt b stride ≡ t
    → (if t then has_bit carried b else has_bit (get_or read i 0) (b - stride)) ≡ shifted stride entered read (i * 64 + b)
moving_bit stride entered read i carried b bit few low true e = low b (ltb-true b stride e)
moving_bit stride entered read i carried b bit few low false e =
    let above : stride ≤ b = ltb-false b stride e in
    let fits : b - stride < 64 = omega arith in
    let past : stride ≤ i * 64 + b = omega arith in
    let same : i * 64 + (b - stride) ≡ i * 64 + b - stride = omega arith in
    word_is read i (b - stride) fits ∙ ap (at read) same ∙ sym (shifted_high stride entered read (i * 64 + b) past)

pub moving_more : (stride : ℕ) (entered read out : List ℕ) (i carried word next : ℕ) → i < length out → stride < 64 → IsMoving stride entered read out i carried
    → ((b : ℕ) → b < 64 → has_bit word b ≡ (if nat_lt b stride then has_bit carried b else has_bit (get_or read i 0) (b - stride)))
    → ((b : ℕ) → b < stride → has_bit next b ≡ has_bit (get_or read i 0) (64 - stride + b)) → ((b : ℕ) → stride ≤ b → has_bit next b ≡ false)
    → IsMoving stride entered read (set out i word) (i + 1) next
moving_more stride entered read out i carried word next inside few before word_bits low high = record {
  written = written_more out i word (shifted stride entered read) inside before.written (λ b bit. word_bits b bit ∙ moving_bit stride entered read i carried b bit few before.low (nat_lt b stride) refl);
  low = λ b bit.
      let fits : 64 - stride + b < 64 = omega arith in
      let past : stride ≤ (i + 1) * 64 + b = omega arith in
      let same : i * 64 + (64 - stride + b) ≡ (i + 1) * 64 + b - stride = omega arith in
      low b bit ∙ word_is read i (64 - stride + b) fits ∙ ap (at read) same ∙ sym (shifted_high stride entered read ((i + 1) * 64 + b) past);
  high = high;
}

pub wide_first : (entered read out : List ℕ) → ((k : ℕ) → k < room entered → at out k ≡ at entered k)
    → AreWritten out (length entered) (shifted (room entered) entered read)
wide_first entered read out same k low = same k low ∙ sym (shifted_low (room entered) entered read k low)

pub wide_more : (entered read out : List ℕ) (i : ℕ) → length entered ≤ i → i < length out → AreWritten out i (shifted (room entered) entered read)
    → AreWritten (set out i (get_or read (i - length entered) 0)) (i + 1) (shifted (room entered) entered read)
wide_more entered read out i past inside before =
    written_more out i (get_or read (i - length entered) 0) (shifted (room entered) entered read) inside before
    (λ b bit.
    let above : room entered ≤ i * 64 + b = omega arith in
    let same : (i - length entered) * 64 + b ≡ i * 64 + b - room entered = omega arith in
    word_is read (i - length entered) b bit ∙ ap (at read) same ∙ sym (shifted_high (room entered) entered read (i * 64 + b) above))

pub from_first : (from : ℕ) (more to : List ℕ) → AreChanged to to (from / 64) (λ k. at to k || (nat_le from k && at more k))
from_first from more to = record {
  each = λ k low.
      let before : k < from = omega arith in
      let is : nat_le from k ≡ false = grind (arith, nat_tests) in
      sym (ap (λ t. at to k || (t && at more k)) is ∙ or_none (at to k));
  rest = λ k high. refl;
}

pub from_more : (from : ℕ) (more before to : List ℕ) (i word both : ℕ) → i < length to → AreChanged before to i (λ k. at before k || (nat_le from k && at more k))
    → ((b : ℕ) → b < 64 → has_bit word b ≡ (nat_le from (i * 64 + b) && at more (i * 64 + b)))
    → ((b : ℕ) → has_bit both b ≡ (has_bit (get_or to i 0) b || has_bit word b))
    → AreChanged before (set to i both) (i + 1) (λ k. at before k || (nat_le from k && at more k))
from_more from more before to i word both inside changed word_bits both_bits =
    changed_more before to i both (λ k. at before k || (nat_le from k && at more k)) inside changed
    (λ b bit.
    both_bits b ∙ ap (λ t. t || has_bit word b) (word_is to i b bit ∙ changed.rest (i * 64 + b) (omega arith))
    ∙ ap (λ t. at before (i * 64 + b) || t) (word_bits b bit))

pub from_last : (from : ℕ) (more before to : List ℕ) (i : ℕ) → length to ≤ i → AreChanged before to i (λ k. at before k || (nat_le from k && at more k))
    → (k : ℕ) → k < room to → at to k ≡ (at before k || (nat_le from k && at more k))
from_last from more before to i all changed k low = changed.each k (omega arith)

pub word_from_here : (words : List ℕ) (i from : ℕ) (result : ℕ) → i ≡ from / 64
    → ((b : ℕ) → b < 64 → has_bit result b ≡ (nat_le (from % 64) b && has_bit (get_or words i 0) b)) → (b : ℕ) → b < 64
    → has_bit result b ≡ (nat_le from (i * 64 + b) && at words (i * 64 + b))
word_from_here words i from result is bits b bit =
    bits b bit ∙ ap (λ t. nat_le (from % 64) b && t) (word_is words i b bit) ∙ ap (λ t. t && at words (i * 64 + b)) (same (nat_le (from % 64) b) refl (nat_le from (i * 64 + b)) refl)
  where
    same : (t : Bool) → nat_le (from % 64) b ≡ t → (s : Bool) → nat_le from (i * 64 + b) ≡ s → t ≡ s
    same true e true f = refl
    same true e false f =
        let low : from % 64 ≤ b = grind (arith, nat_tests) in
        let high : i * 64 + b < from = grind (arith, nat_tests) in
        absurd (omega arith)
    same false e true f =
        let low : b < from % 64 = grind (arith, nat_tests) in
        let high : from ≤ i * 64 + b = grind (arith, nat_tests) in
        absurd (omega arith)
    same false e false f = refl

pub word_from_later : (words : List ℕ) (i from : ℕ) → from / 64 < i → (b : ℕ) → b < 64
    → has_bit (get_or words i 0) b ≡ (nat_le from (i * 64 + b) && at words (i * 64 + b))
word_from_later words i from past b bit =
    let low : from ≤ i * 64 + b = omega arith in
    let is : nat_le from (i * 64 + b) ≡ true = grind (arith, nat_tests) in
    word_is words i b bit ∙ sym (ap (λ t. t && at words (i * 64 + b)) is)

pub repeated_first : (stride : ℕ) (entered to : List ℕ) (j : ℕ) → at to j ≡ (at to j || (nat_lt j stride && repeated stride entered j))
repeated_first stride entered to j = sym (ap (λ t. at to j || t) (none (nat_lt j stride) refl (nat_le stride j) refl) ∙ or_none (at to j))
  where
    none : (t : Bool) → nat_lt j stride ≡ t → (s : Bool) → nat_le stride j ≡ s → (t && (s && at entered (j % stride))) ≡ false
    none true e true f = let low : j < stride = grind (arith, nat_tests) in let high : stride ≤ j = grind (arith, nat_tests) in absurd (omega arith)
    none true e false f = refl
    none false e s f = refl

pub repeated_more : (stride k : ℕ) (entered before to next : List ℕ) (held : Bool) → stride ≤ k
    → ((j : ℕ) → at to j ≡ (at before j || (nat_lt j k && repeated stride entered j))) → held ≡ at entered (k % stride)
    → ((j : ℕ) → at next j ≡ (at to j || (held && j == k))) → (j : ℕ) → at next j ≡ (at before j || (nat_lt j (k + 1) && repeated stride entered j))
repeated_more stride k entered before to next held high so_far held_is set_one j =
    set_one j ∙ ap (λ t. t || (held && j == k)) (so_far j) ∙ go (j == k) refl (nat_lt j k) refl (nat_lt j (k + 1)) refl
  where
    join : (a b : Bool) → ((a || b) || (held && false)) ≡ (a || b)
    join true b = refl
    join false true = refl
    join false false = and-false held

    merge : (a h : Bool) → ((a || (false && repeated stride entered j)) || (h && true)) ≡ (a || h)
    merge true h = refl
    merge false true = refl
    merge false false = refl

    go : (t : Bool) → (j == k) ≡ t → (s : Bool) → nat_lt j k ≡ s → (u : Bool) → nat_lt j (k + 1) ≡ u
        → ((at before j || (s && repeated stride entered j)) || (held && t)) ≡ (at before j || (u && repeated stride entered j))
    go true e true f u g = let same : j ≡ k = grind (arith, nat_tests) in let less : j < k = grind (arith, nat_tests) in absurd (omega arith)
    go true e false f true g =
        let same : j ≡ k = grind (arith, nat_tests) in
        let there : stride ≤ j = omega arith in
        let is : nat_le stride j ≡ true = grind (arith, nat_tests) in
        merge (at before j) held ∙ ap (λ t. at before j || t) (held_is ∙ ap (λ n. at entered (n % stride)) (sym same) ∙ sym (ap (λ t. t && at entered (j % stride)) is))
    go true e false f false g = let same : j ≡ k = grind (arith, nat_tests) in let more : k + 1 ≤ j = grind (arith, nat_tests) in absurd (omega arith)
    go false e true f true g = join (at before j) (repeated stride entered j)
    go false e true f false g = let less : j < k = grind (arith, nat_tests) in let more : k + 1 ≤ j = grind (arith, nat_tests) in absurd (omega arith)
    go false e false f true g =
        let other : j ≢ k = grind (arith, nat_tests) in
        let past : k ≤ j = grind (arith, nat_tests) in
        let low : j < k + 1 = grind (arith, nat_tests) in
        absurd (other (omega arith))
    go false e false f false g = join (at before j) false

pub repeated_last : (stride k all : ℕ) (entered before to : List ℕ) → ((j : ℕ) → at to j ≡ (at before j || (nat_lt j k && repeated stride entered j))) → all ≤ k
    → (j : ℕ) → j < all → at to j ≡ (at before j || repeated stride entered j)
repeated_last stride k all entered before to so_far reached j low =
    let is : nat_lt j k ≡ true = (let less : j < k = omega arith in grind (arith, nat_tests)) in
    so_far j ∙ ap (λ t. at before j || (t && repeated stride entered j)) is

turns_below : (turn turns stride : ℕ) → turn < turns → turn * stride + stride ≤ turns * stride
turns_below turn turns stride low = let more : (turn + 1) * stride ≤ turns * stride = mul-le-mul_right stride (omega arith) in omega arith

pub turn_below : (turn turns stride all : ℕ) → turn < turns → all ≡ turns * stride → turn * stride + stride ≤ all
turn_below turn turns stride all low all_is = let below = turns_below turn turns stride low in omega arith

pub stride_below : (turns stride all : ℕ) → 0 < turns → all ≡ turns * stride → stride ≤ all
stride_below turns stride all some all_is = let below = turns_below 0 turns stride some in omega arith

-- What begins in a turn, from what is moved up, added and repeated.
pub begun_turns : (counts : RepeatCounts) (gap : Bool) (entered read out : List ℕ) → 0 < counts.stride → counts.all ≡ counts.copies * counts.stride
    → ((k : ℕ) → k < counts.all → at out k
    ≡ ((shifted counts.stride entered read k || (counts.unbounded && (nat_le (counts.all - counts.stride) k && at read k))) || (gap && repeated counts.stride entered k)))
    → (turn k : ℕ) → turn < counts.copies → k < counts.stride → IsTrue (at out (turn * counts.stride + k)) ↔ Enters counts gap entered read turn k
begun_turns counts gap entered read out some all_is each turn k inside low = (there, back)
  where
    place : ℕ
    place = turn * counts.stride + k

    within : place < counts.all
    within = omega (arith, mul-add-lt turn counts.stride k counts.copies inside low, all_is)

    moved : Bool
    moved = shifted counts.stride entered read place

    last : Bool
    last = counts.unbounded && (nat_le (counts.all - counts.stride) place && at read place)

    first_turn : (t : ℕ) → t ≡ turn → turn * counts.stride + k < counts.stride → turn ≡ 0
    first_turn zero e h = sym e
    first_turn (suc t) e h =
        let more : turn * counts.stride ≡ counts.stride + t * counts.stride = ap (λ n. n * counts.stride) (sym e) ∙ omega arith in
        absurd (omega arith)

    later : (t : ℕ) → t ≡ turn → counts.stride ≤ place → IsTrue moved → Enters counts gap entered read turn k
    later zero e above h = let none : place ≡ k = ap (λ n. n * counts.stride + k) (sym e) ∙ omega arith in absurd (omega arith)
    later (suc t) e above h =
        let more : turn * counts.stride ≡ counts.stride + t * counts.stride = ap (λ n. n * counts.stride) (sym e) ∙ omega arith in
        let same : place - counts.stride ≡ t * counts.stride + k = omega arith in
        enters.next t (sym e) (ap (at read) (sym same) ∙ sym (shifted_high counts.stride entered read place above) ∙ h)

    from_moved : (t : Bool) → nat_lt place counts.stride ≡ t → IsTrue moved → Enters counts gap entered read turn k
    from_moved true e h =
        let below : place < counts.stride = ltb-true place counts.stride e in
        let zero_is : turn ≡ 0 = first_turn turn refl below in
        let same : place ≡ k = ap (λ n. n * counts.stride + k) zero_is ∙ omega arith in
        enters.first zero_is (ap (at entered) (sym same) ∙ sym (shifted_low counts.stride entered read place below) ∙ h)
    from_moved false e h =
        let above : counts.stride ≤ place = ltb-false place counts.stride e in
        later turn refl above h

    last_turn : counts.all - counts.stride ≤ place → suc turn ≡ counts.copies
    last_turn high =
        elim (at_or_past (suc turn) counts.copies inside) [
          | inl same ↦ same
          | inr past ↦
              (let bound : (suc turn) * counts.stride + counts.stride ≤ counts.copies * counts.stride = turns_below (suc turn) counts.copies counts.stride past in
              absurd (omega arith))
        ]

    there : IsTrue (at out place) → Enters counts gap entered read turn k
    there is =
        elim (or_cases (moved || last) (gap && repeated counts.stride entered place) (sym (each place within) ∙ is)) [
          | inl a ↦
              elim (or_cases moved last a) [
                | inl m ↦ from_moved (nat_lt place counts.stride) refl m
                | inr l ↦
                    (let rest = and_right counts.unbounded (nat_le (counts.all - counts.stride) place && at read place) l in
                    let high : counts.all - counts.stride ≤ place =
                    leb-true (counts.all - counts.stride) place (and_left (nat_le (counts.all - counts.stride) place) (at read place) rest) in
                    enters.again (and_left counts.unbounded (nat_le (counts.all - counts.stride) place && at read place) l) (last_turn high)
                    (and_right (nat_le (counts.all - counts.stride) place) (at read place) rest))
              ]
          | inr g ↦
              (let rest = and_right gap (repeated counts.stride entered place) g in
              enters.empties (and_left gap (repeated counts.stride entered place) g)
              (ap (at entered) (sym (mod-mul-add turn counts.stride k low)) ∙ and_right (nat_le counts.stride place) (at entered (place % counts.stride)) rest))
        ]

    given : (a b : Bool) → IsTrue a ⊎ IsTrue b → IsTrue (a || b)
    given a b (inl h) = or_left a b h
    given a b (inr h) = or_right a b h

    spread : IsTrue gap → IsTrue (at entered k) → (t : Bool) → nat_le counts.stride place ≡ t
        → IsTrue ((moved || last) || (gap && repeated counts.stride entered place))
    spread g is true e =
        or_right (moved || last) (gap && repeated counts.stride entered place)
        (and_both gap (repeated counts.stride entered place) g
        (and_both (nat_le counts.stride place) (at entered (place % counts.stride)) e (ap (at entered) (mod-mul-add turn counts.stride k low) ∙ is)))
    spread g is false e =
        let below : place < counts.stride = leb-false counts.stride place e in
        let zero_is : turn ≡ 0 = first_turn turn refl below in
        let same : place ≡ k = ap (λ n. n * counts.stride + k) zero_is ∙ omega arith in
        or_left (moved || last) (gap && repeated counts.stride entered place)
        (or_left moved last (shifted_low counts.stride entered read place below ∙ ap (at entered) same ∙ is))

    back : Enters counts gap entered read turn k → IsTrue (at out place)
    back (enters.first e is) =
        let same : place ≡ k = ap (λ n. n * counts.stride + k) e ∙ omega arith in
        each place within
        ∙ or_left (moved || last) (gap && repeated counts.stride entered place)
        (or_left moved last (shifted_low counts.stride entered read place (omega arith) ∙ ap (at entered) same ∙ is))
    back (enters.empties g is) = each place within ∙ spread g is (nat_le counts.stride place) refl
    back (enters.next before e is) =
        let more : turn * counts.stride ≡ counts.stride + before * counts.stride = ap (λ n. n * counts.stride) e ∙ omega arith in
        let above : counts.stride ≤ place = omega arith in
        let same : place - counts.stride ≡ before * counts.stride + k = omega arith in
        each place within
        ∙ or_left (moved || last) (gap && repeated counts.stride entered place)
        (or_left moved last (shifted_high counts.stride entered read place above ∙ ap (at read) same ∙ is))
    back (enters.again free e is) =
        let total : counts.all ≡ counts.stride + turn * counts.stride = all_is ∙ ap (λ n. n * counts.stride) (sym e) ∙ omega arith in
        let high : counts.all - counts.stride ≤ place = omega arith in
        let test : nat_le (counts.all - counts.stride) place ≡ true = le-leb (counts.all - counts.stride) place high in
        each place within
        ∙ or_left (moved || last) (gap && repeated counts.stride entered place)
        (or_right moved last
        (and_both counts.unbounded (nat_le (counts.all - counts.stride) place && at read place) free
        (and_both (nat_le (counts.all - counts.stride) place) (at read place) test is)))

pub narrow_small : (stride : ℕ) → IsNarrow stride → (0 < stride) × (stride < 64)
narrow_small stride (narrows.one e) = (omega arith, omega arith)
narrow_small stride (narrows.two e) = (omega arith, omega arith)
narrow_small stride (narrows.four e) = (omega arith, omega arith)
narrow_small stride (narrows.eight e) = (omega arith, omega arith)
narrow_small stride (narrows.sixteen e) = (omega arith, omega arith)
narrow_small stride (narrows.half e) = (omega arith, omega arith)

-- One of the turns before one is set.
abbrev pub AnyBefore : RepeatCounts → ℕ → ℕ → List ℕ → ℕ → Type 0
AnyBefore counts lowest turn cells k = (before : ℕ) × (lowest ≤ before) × (before < turn) × IsTrue (at cells (before * counts.stride + k))

pub before_none : (counts : RepeatCounts) (lowest : ℕ) (cells : List ℕ) (k : ℕ) (held : Bool) → held ≡ false → IsTrue held ↔ AnyBefore counts lowest lowest cells k
before_none counts lowest cells k held none =
    (λ h. absurd (false≢true (sym none ∙ h)), λ any. let low = any.1 in let high = any.2 in absurd (omega arith))

pub before_more : (counts : RepeatCounts) (lowest turn : ℕ) (cells : List ℕ) (k : ℕ) (held one both : Bool) → lowest ≤ turn → IsTrue held ↔ AnyBefore counts lowest turn cells k
    → one ≡ at cells (turn * counts.stride + k) → both ≡ (held || one) → IsTrue both ↔ AnyBefore counts lowest (turn + 1) cells k
before_more counts lowest turn cells k held one both low so_far one_is both_is = (there, back)
  where
    there : IsTrue both → AnyBefore counts lowest (turn + 1) cells k
    there h =
        elim (or_cases held one (sym both_is ∙ h)) [
          | inl a ↦ (let any = so_far.0 a in let below : any.0 < turn + 1 = (let under = any.2 in omega arith) in (any.0, any.1, below, any.3))
          | inr b ↦ (let below : turn < turn + 1 = omega arith in (turn, low, below, sym one_is ∙ b))
        ]

    back : AnyBefore counts lowest (turn + 1) cells k → IsTrue both
    back (before, high, under, is) =
        elim (at_or_past before turn (let up : before ≤ turn = omega arith in up)) [
          | inl same ↦ both_is ∙ or_right held one (one_is ∙ ap (λ n. at cells (n * counts.stride + k)) (sym same) ∙ is)
          | inr past ↦ both_is ∙ or_left held one (so_far.1 (before, high, past, is))
        ]

pub before_all : (counts : RepeatCounts) (lowest turn : ℕ) (cells : List ℕ) (k : ℕ) (held : Bool) → counts.copies ≤ turn → (lowest ≤ counts.copies → turn ≤ counts.copies)
    → (counts.copies < lowest → turn ≤ lowest) → IsTrue held ↔ AnyBefore counts lowest turn cells k → IsTrue held ↔ AnyTurn counts lowest cells k
before_all counts lowest turn cells k held reached within past so_far = (
  λ h.
      (let any = so_far.0 h in
      let low = any.1 in
      let under = any.2 in (
        any.0,
        any.1,
        elim (le_or_lt lowest counts.copies) [
          | inl a ↦ (let up = within a in let below : any.0 < counts.copies = omega arith in below)
          | inr b ↦ (let up = past b in absurd (omega arith))
        ],
        any.3,
      )),
  λ any. so_far.1 (any.0, any.1, (let under = any.2 in let below : any.0 < turn = omega arith in below), any.3),
)

pub set_one : (cells : List ℕ) (k j : ℕ) → k / 64 < length cells
    → at (set cells (k / 64) (bit_or (get_or cells (k / 64) 0) (1 * 2 ^ (k % 64) % 2 ^ 64))) j ≡ (at cells j || j == k)
set_one cells k j inside = go (nat_eq (j / 64) (k / 64)) refl
  where
    bit : k % 64 < 64
    bit = omega arith

    word : ℕ
    word = bit_or (get_or cells (k / 64) 0) (1 * 2 ^ (k % 64) % 2 ^ 64)

    same_test : j / 64 ≡ k / 64 → (t : Bool) → (j % 64 == k % 64) ≡ t → (s : Bool) → (j == k) ≡ s → t ≡ s
    same_test e true f true g = refl
    same_test e true f false g = let a = eqb-true (j % 64) (k % 64) f in absurd (eqb-false j k g (omega arith))
    same_test e false f true g = let a = eqb-true j k g in absurd (eqb-false (j % 64) (k % 64) f (omega arith))
    same_test e false f false g = refl

    far_test : j / 64 ≢ k / 64 → (s : Bool) → (j == k) ≡ s → s ≡ false
    far_test other true g = let a = eqb-true j k g in absurd (other (omega arith))
    far_test other false g = refl

    go : (t : Bool) → nat_eq (j / 64) (k / 64) ≡ t → at (set cells (k / 64) word) j ≡ (at cells j || j == k)
    go true e =
        let there : j / 64 ≡ k / 64 = eqb-true (j / 64) (k / 64) e in
        let place : k / 64 * 64 + j % 64 ≡ j = omega arith in
        let low : j % 64 < 64 = omega arith in
        ap (at (set cells (k / 64) word)) (sym place) ∙ position_set_same cells (k / 64) word (j % 64) inside low
        ∙ has_with (get_or cells (k / 64) 0) (k % 64) (j % 64) bit ∙ ap (λ t. t || j % 64 == k % 64) (word_is cells (k / 64) (j % 64) low ∙ ap (at cells) place)
        ∙ ap (λ t. at cells j || t) (same_test there (j % 64 == k % 64) refl (j == k) refl)
    go false e =
        let other : j / 64 ≢ k / 64 = eqb-false (j / 64) (k / 64) e in
        position_set_other cells (k / 64) word j other ∙ sym (ap (λ t. at cells j || t) (far_test other (j == k) refl) ∙ or_none (at cells j))

pub added_if : (on : Bool) (a b : Bool) → on ≡ false → a ≡ (a || (on && b))
added_if on a b off = sym (ap (λ t. a || (t && b)) off ∙ or_none a)

pub added_on : (on : Bool) (result a b : Bool) → on ≡ true → result ≡ (a || b) → result ≡ (a || (on && b))
added_on on result a b is h = h ∙ sym (ap (λ t. a || (t && b)) is)

pub wide_is : (stride : ℕ) (cells : List ℕ) → 64 ≤ stride → IsNarrow stride ⊎ (stride ≡ room cells) → stride ≡ room cells
wide_is stride cells wide (inl narrow) = let small = (narrow_small stride narrow).1 in absurd (omega arith)
wide_is stride cells wide (inr same) = same

pub wide_shift : (stride : ℕ) (entered read out : List ℕ) → 64 ≤ stride → IsNarrow stride ⊎ (stride ≡ room entered)
    → ((k : ℕ) → k < room out → at out k ≡ shifted (room entered) entered read k) → (k : ℕ) → k < room out → at out k ≡ shifted stride entered read k
wide_shift stride entered read out wide even each k low =
    each k low ∙ ap (λ n. shifted n entered read k) (sym (wide_is stride entered wide even))

pub narrow_is : (stride : ℕ) (cells : List ℕ) → stride < 64 → IsNarrow stride ⊎ (stride ≡ room cells) → 0 < stride → IsNarrow stride
narrow_is stride cells small (inl narrow) some = narrow
narrow_is stride cells small (inr same) some = absurd (omega arith)

pub at_more : (from : ℕ) (more before to : List ℕ) (i both : ℕ) → i < length to → AreChanged before to i (λ k. at before k || at more (64 * from + k))
    → ((b : ℕ) → has_bit both b ≡ (has_bit (get_or to i 0) b || has_bit (get_or more (from + i) 0) b))
    → AreChanged before (set to i both) (i + 1) (λ k. at before k || at more (64 * from + k))
at_more from more before to i both inside changed both_bits =
    changed_more before to i both (λ k. at before k || at more (64 * from + k)) inside changed
    (λ b bit.
    let same : (from + i) * 64 + b ≡ 64 * from + (i * 64 + b) = omega arith in
    both_bits b ∙ ap (λ t. t || has_bit (get_or more (from + i) 0) b) (word_is to i b bit ∙ changed.rest (i * 64 + b) (omega arith))
    ∙ ap (λ t. at before (i * 64 + b) || t) (word_is more (from + i) b bit ∙ ap (at more) same))

-- The words of a turn of a wide stride.
pub wide_turn : (turn turns stride all words : ℕ) (read : List ℕ) → turn < turns → all ≡ turns * stride → stride ≡ 64 * words → all ≤ room read
    → turn * words + words ≤ length read
wide_turn turn turns stride all words read low all_is stride_is within =
    let below = turn_below turn turns stride all low all_is in
    let whole : turn * stride ≡ 64 * (turn * words) = ap (λ n. turn * n) stride_is ∙ omega arith in
    omega arith

pub wide_cell : (turn stride words k : ℕ) (read : List ℕ) → stride ≡ 64 * words → at read (64 * (turn * words) + k) ≡ at read (turn * stride + k)
wide_cell turn stride words k read stride_is =
    let whole : turn * stride ≡ 64 * (turn * words) = ap (λ n. turn * n) stride_is ∙ omega arith in
    let same : 64 * (turn * words) + k ≡ turn * stride + k = omega arith in
    ap (at read) same

pub first_any : (counts : RepeatCounts) (lowest : ℕ) (read own : List ℕ) (word k : ℕ) → 0 < length own → k < 64 → IsTrue (has_bit word k) ↔ AnyTurn counts lowest read k
    → IsTrue (at (set own 0 word) k) ↔ AnyTurn counts lowest read k
first_any counts lowest read own word k some low is =
    (λ h. is.0 (sym (first_written own word k some low) ∙ h), λ any. first_written own word k some low ∙ is.1 any)
