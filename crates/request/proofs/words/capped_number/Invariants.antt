use Rattle.std.proofs.Common.{◌≡◌, ◌^◌, take, min}
use Rattle.ere.specs.Tokens.{decimal_value}
use Rattle.request.proofs.words.capped_number.Given as goal

abbrev pub invariant-loop-digit : goal.invariant-loop-digit
invariant-loop-digit l = l.number ≡ min (decimal_value (take l.digit-index l.digits)) (2 ^ 32)
