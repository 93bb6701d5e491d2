-- Names of at most so many bytes are names.
use Rattle.std.proofs.Common.{ℕ, List, arith}
use Rattle.std.proofs.Math.Nat.{min-le_right}
use Rattle.documents.specs.Text.{IsName, IsNameOf, greatest_name}

pub name_of : (most : ℕ) (bytes : List ℕ) → IsNameOf most bytes → IsName bytes
name_of most bytes is = record {
  some = is.some;
  short = let below = min-le_right most greatest_name in omega (arith, is.short, below);
  printable = is.printable;
}
