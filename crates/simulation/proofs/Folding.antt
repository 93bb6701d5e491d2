-- The or over the turns of a narrow stride: of words first, and then of the nodes of a word.
use Rattle.std.proofs.Common.{◌≡◌, ℕ, zero, suc, ◌+◌, ◌-◌, ◌*◌, ◌/◌, ◌%◌, ◌<◌, ◌≤◌, ◌||◌}
use Rattle.std.proofs.Common.{IsTrue, List, ◌↔◌, inl, inr, refl, sym, ap, subst, ◌∙◌, arith}
use Rattle.std.proofs.lemmas.Nat.{mod-mul-add}
use Rattle.std.proofs.Math.Nat.{mul-le-mul_right}
use Rattle.ere.specs.Bits.{has_bit}
use Rattle.simulation.specs.declared.node.RepeatCounts.{RepeatCounts}
use Rattle.simulation.specs.Pending.{at, AnyTurn, IsNarrow, IsNarrow as narrows}
use Rattle.simulation.specs.Private.Words.{AnyPart, AnyWithin, IsWithin}
use Rattle.simulation.proofs.Tests.{or_cases, or_left, or_right}
use Rattle.simulation.proofs.Forward.{le_or_lt}

-- The same as `AnyWithin`, for the words before one.
abbrev pub AnyBeforeWord : ℕ → ℕ → ℕ → List ℕ → ℕ → Type 0
AnyBeforeWord from to end cells b = (i : ℕ) × (i < end) × IsWithin from to cells (i * 64 + b)

-- A stride, doubled so many times.
pub doubled : ℕ → ℕ → ℕ
doubled zero stride = stride
doubled (suc times) stride = 2 * doubled times stride

-- A width that is a stride after some halvings.
abbrev pub IsHalved : ℕ → ℕ → Type 0
IsHalved stride width = (times : ℕ) × (width ≡ doubled times stride)

pub halved_first : (stride : ℕ) → IsNarrow stride → IsHalved stride 64
unfolding doubled
halved_first stride (narrows.one e) = (6, sym (ap (doubled 6) e))
halved_first stride (narrows.two e) = (5, sym (ap (doubled 5) e))
halved_first stride (narrows.four e) = (4, sym (ap (doubled 4) e))
halved_first stride (narrows.eight e) = (3, sym (ap (doubled 3) e))
halved_first stride (narrows.sixteen e) = (2, sym (ap (doubled 2) e))
halved_first stride (narrows.half e) = (1, sym (ap (doubled 1) e))

halved_twice : (stride width times : ℕ) → width ≡ doubled times stride → stride < width → (half : ℕ) × (width ≡ 2 * half) × IsHalved stride half
unfolding doubled
halved_twice stride width zero is wide = absurd (omega arith)
halved_twice stride width (suc times) is wide = (doubled times stride, is, (times, refl))

pub halved_more : (stride width : ℕ) → IsHalved stride width → stride < width → (width ≡ 2 * (width / 2)) × IsHalved stride (width / 2)
halved_more stride width halved wide =
    let found = halved_twice stride width halved.0 halved.1 wide in
    let twice = found.1 in
    let half : found.0 ≡ width / 2 = omega arith in
    (omega arith, subst (IsHalved stride) half found.2)

doubled_above : (times stride : ℕ) → stride ≤ doubled times stride
unfolding doubled
doubled_above zero stride = omega arith
doubled_above (suc times) stride = let above = doubled_above times stride in omega arith

pub halved_last : (stride width : ℕ) → IsHalved stride width → width ≤ stride → width ≡ stride
halved_last stride width halved low = let above = doubled_above halved.0 stride in let is = halved.1 in omega arith

part_low : (b half : ℕ) → b % (2 * half) < half → b % half ≡ b % (2 * half)
part_low b half low =
    let same : b ≡ 2 * (b / (2 * half)) * half + b % (2 * half) = omega arith in
    ap (λ n. n % half) same ∙ mod-mul-add (2 * (b / (2 * half))) half (b % (2 * half)) low

part_high : (b half : ℕ) → half ≤ b % (2 * half) → b % (2 * half) < 2 * half → b % half ≡ b % (2 * half) - half
part_high b half high under =
    let same : b ≡ (2 * (b / (2 * half)) + 1) * half + (b % (2 * half) - half) = omega arith in
    let low : b % (2 * half) - half < half = omega arith in
    ap (λ n. n % half) same ∙ mod-mul-add (2 * (b / (2 * half)) + 1) half (b % (2 * half) - half) low

pub parts_first : (word k : ℕ) → k < 64 → IsTrue (has_bit word k) ↔ AnyPart word 64 k
parts_first word k low = (
  λ h. (let is : k % 64 ≡ k = omega arith in (k, low, is, h)),
  λ any. (let bit = any.1 in let is = any.2 in let same : any.0 ≡ k = omega arith in subst (λ n. IsTrue (has_bit word n)) same any.3),
)

parts_half : (word found next moved half k : ℕ) → ((j : ℕ) → j < 2 * half → IsTrue (has_bit found j) ↔ AnyPart word (2 * half) j)
    → has_bit next k ≡ (has_bit found k || has_bit moved k) → has_bit moved k ≡ has_bit found (half + k) → k < half
    → IsTrue (has_bit next k) ↔ AnyPart word half k
parts_half word found next moved half k before next_is moved_is low = (there, back)
  where
    first : k < 2 * half
    first = omega arith

    second : half + k < 2 * half
    second = omega arith

    there : IsTrue (has_bit next k) → AnyPart word half k
    there h =
        elim (or_cases (has_bit found k) (has_bit moved k) (sym next_is ∙ h)) [
          | inl a ↦
              (let any = (before k first).0 a in
              let is = any.2 in
              let under : any.0 % (2 * half) < half = omega arith in
              (any.0, any.1, part_low any.0 half under ∙ is, any.3))
          | inr c ↦
              (let any = (before (half + k) second).0 (sym moved_is ∙ c) in
              let is = any.2 in
              let above : half ≤ any.0 % (2 * half) = omega arith in
              let under : any.0 % (2 * half) < 2 * half = omega arith in
              let place : any.0 % (2 * half) - half ≡ k = omega arith in
              (any.0, any.1, part_high any.0 half above under ∙ place, any.3))
        ]

    back : AnyPart word half k → IsTrue (has_bit next k)
    back (b, bit, is, set) =
        elim (le_or_lt half (b % (2 * half))) [
          | inl above ↦
              (let under : b % (2 * half) < 2 * half = omega arith in
              let same = part_high b half above under in
              let place : b % (2 * half) ≡ half + k = omega arith in
              next_is ∙ or_right (has_bit found k) (has_bit moved k) (moved_is ∙ (before (half + k) second).1 (b, bit, place, set)))
          | inr under ↦
              (let place : b % (2 * half) ≡ k = sym (part_low b half under) ∙ is in
              next_is ∙ or_left (has_bit found k) (has_bit moved k) ((before k first).1 (b, bit, place, set)))
        ]

pub parts_more : (word found next moved width half k : ℕ) → width ≡ 2 * half → ((j : ℕ) → j < width → IsTrue (has_bit found j) ↔ AnyPart word width j)
    → has_bit next k ≡ (has_bit found k || has_bit moved k) → has_bit moved k ≡ has_bit found (half + k) → k < half
    → IsTrue (has_bit next k) ↔ AnyPart word half k
parts_more word found next moved width half k twice before next_is moved_is low =
    parts_half word found next moved half k
    (subst (λ n. (j : ℕ) → j < n → IsTrue (has_bit found j) ↔ AnyPart word n j) twice before) next_is moved_is low

-- A word is whole strides long.
place_in : (stride i b : ℕ) → IsNarrow stride → (i * 64 + b) % stride ≡ b % stride
place_in stride i b (narrows.one e) = let same : (i * 64 + b) % 1 ≡ b % 1 = omega arith in ap (λ n. (i * 64 + b) % n) e ∙ same ∙ sym (ap (λ n. b % n) e)
place_in stride i b (narrows.two e) = let same : (i * 64 + b) % 2 ≡ b % 2 = omega arith in ap (λ n. (i * 64 + b) % n) e ∙ same ∙ sym (ap (λ n. b % n) e)
place_in stride i b (narrows.four e) = let same : (i * 64 + b) % 4 ≡ b % 4 = omega arith in ap (λ n. (i * 64 + b) % n) e ∙ same ∙ sym (ap (λ n. b % n) e)
place_in stride i b (narrows.eight e) = let same : (i * 64 + b) % 8 ≡ b % 8 = omega arith in ap (λ n. (i * 64 + b) % n) e ∙ same ∙ sym (ap (λ n. b % n) e)
place_in stride i b (narrows.sixteen e) = let same : (i * 64 + b) % 16 ≡ b % 16 = omega arith in ap (λ n. (i * 64 + b) % n) e ∙ same ∙ sym (ap (λ n. b % n) e)
place_in stride i b (narrows.half e) = let same : (i * 64 + b) % 32 ≡ b % 32 = omega arith in ap (λ n. (i * 64 + b) % n) e ∙ same ∙ sym (ap (λ n. b % n) e)

turn_from : (lowest turn stride k : ℕ) → k < stride → lowest * stride ≤ turn * stride + k → lowest ≤ turn
turn_from lowest turn stride k low from =
    elim (le_or_lt lowest turn) [
      | inl up ↦ up
      | inr down ↦ (let more : (turn + 1) * stride ≤ lowest * stride = mul-le-mul_right stride (omega arith) in absurd (omega arith))
    ]

pub turn_to : (turns turn stride k : ℕ) → turn * stride + k < turns * stride → turn < turns
turn_to turns turn stride k to =
    elim (le_or_lt turns turn) [
      | inl up ↦ (let more : turns * stride ≤ turn * stride = mul-le-mul_right stride up in absurd (omega arith))
      | inr down ↦ down
    ]

-- The nodes of the words of some turns are the turns.
pub parts_are_turns : (counts : RepeatCounts) (lowest : ℕ) (read : List ℕ) (word result k : ℕ) → IsNarrow counts.stride → counts.all ≡ counts.copies * counts.stride → k < counts.stride
    → ((b : ℕ) → b < 64 → IsTrue (has_bit word b) ↔ AnyWithin (lowest * counts.stride) counts.all read b)
    → IsTrue (has_bit result k) ↔ AnyPart word counts.stride k → IsTrue (has_bit result k) ↔ AnyTurn counts lowest read k
parts_are_turns counts lowest read word result k narrow all_is low words nodes = (λ h. there (nodes.0 h), λ any. nodes.1 (back any))
  where
    there : AnyPart word counts.stride k → AnyTurn counts lowest read k
    there (b, bit, is, set) =
        let any = (words b bit).0 set in
        let place = place_in counts.stride any.0 b narrow ∙ is in
        let turn = (any.0 * 64 + b) / counts.stride in
        let same : any.0 * 64 + b ≡ (any.0 * 64 + b) / counts.stride * counts.stride + k = omega arith in
        let from = any.1.0 in
        let to = any.1.1 in (
          (any.0 * 64 + b) / counts.stride,
          turn_from lowest ((any.0 * 64 + b) / counts.stride) counts.stride k low (omega arith),
          turn_to counts.copies ((any.0 * 64 + b) / counts.stride) counts.stride k (omega arith),
          ap (at read) (sym same) ∙ any.1.2,
        )

    back : AnyTurn counts lowest read k → AnyPart word counts.stride k
    back (turn, above, under, is) =
        let place = turn * counts.stride + k in
        let same : (turn * counts.stride + k) / 64 * 64 + (turn * counts.stride + k) % 64 ≡ turn * counts.stride + k = omega arith in
        let bit : (turn * counts.stride + k) % 64 < 64 = omega arith in
        let from : lowest * counts.stride ≤ turn * counts.stride = mul-le-mul_right counts.stride above in
        let to : (turn + 1) * counts.stride ≤ counts.copies * counts.stride = mul-le-mul_right counts.stride (omega arith) in
        let node : (turn * counts.stride + k) % 64 % counts.stride ≡ k =
        sym (place_in counts.stride ((turn * counts.stride + k) / 64) ((turn * counts.stride + k) % 64) narrow) ∙ ap (λ n. n % counts.stride) same
        ∙ mod-mul-add turn counts.stride k low in (
          (turn * counts.stride + k) % 64,
          bit,
          node,
          (words ((turn * counts.stride + k) % 64) bit).1
              ((turn * counts.stride + k) / 64, (omega arith, omega arith, ap (at read) same ∙ is)),
        )
