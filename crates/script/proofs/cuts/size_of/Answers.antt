use Rattle.std.proofs.Common.{arith, ◌≡◌, true, ◌≤◌, get_or}
use Rattle.std.proofs.lemmas.List.Elements.{All-more}
use Rattle.ere.specs.Classes.{is_digit}
use Rattle.std.proofs.lemmas.Bool.Decides.{nat_tests}
use Rattle.script.proofs.FieldLemmas.{is_digit_by, room_for_digit, one_more_digit, decimal_more}
use Rattle.script.proofs.cuts.size_of.Goals as goal

pub overflow_mul-size : goal.overflow_mul-size
overflow_mul-size c =
    let room = room_for_digit c.loop-digit.size c.loop-digit.digit-index c.loop-digit.invariant.below (omega arith) in
    omega arith

-- the byte is a digit
is_decimal : (c : goal.After-from) → (48 ≤ get_or c.args.digits.now c.loop-digit.digit-index 0) × (get_or c.args.digits.now c.loop-digit.digit-index 0 ≤ 57)
is_decimal c = grind (arith, nat_tests, c.is_ascii_digit.ensures.value, c.if-not-is_ascii_digit.false)

pub overflow_add-size : goal.overflow_add-size
overflow_add-size c =
    let room = room_for_digit c.loop-digit.size c.loop-digit.digit-index c.loop-digit.invariant.below (omega arith) in
    let digit = is_decimal c in
    omega arith

pub loop-digit-preserved : goal.loop-digit-preserved
loop-digit-preserved c =
    let digit = is_decimal c in
    record {
      value = omega (arith, decimal_more c.args.digits.now c.loop-digit.digit-index (omega arith), c.loop-digit.invariant.value, c.from.ensures);
      below = one_more_digit c.loop-digit.size _ c.loop-digit.digit-index c.loop-digit.invariant.below (omega arith);
      decimal =
          All-more (λ b. is_digit b ≡ true) c.args.digits.now c.loop-digit.digit-index 0 (omega arith) c.loop-digit.invariant.decimal
          (is_digit_by digit.0 digit.1);
    }
