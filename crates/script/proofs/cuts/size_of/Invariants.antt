use Rattle.std.proofs.Common.{◌≡◌, ◌<◌, ◌^◌, take}
use Rattle.std.specs.List.{AllPass}
use Rattle.ere.specs.Classes.{is_digit}
use Rattle.ere.specs.Tokens.{decimal_value}
use Rattle.script.proofs.cuts.size_of.Given as goal

abbrev pub invariant-loop-digit : goal.invariant-loop-digit
invariant-loop-digit l = record {
  value : l.size ≡ decimal_value (take l.digit-index l.digits);
  below : l.size < 10 ^ l.digit-index;
  decimal : AllPass is_digit (take l.digit-index l.digits);
}
