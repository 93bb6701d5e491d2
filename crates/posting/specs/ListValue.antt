-- What contracts see of a `List`, a set of numbers.
use Rattle.std.specs.Prelude.{ℕ, ◌<◌, Bool, not, ◌==◌, List, filter}
use Rattle.std.specs.List.{list_any}

-- the numbers of the set, rising, and at least how many more there is room for
pub record ListValue : Type 0 where
  pub members : List ℕ
  pub room : ℕ

-- whether the number is one of these
abbrev pub has : List ℕ → ℕ → Bool
has numbers n = list_any (λ m. m == n) numbers

-- the numbers without this one
abbrev pub without : ℕ → List ℕ → List ℕ
without n numbers = filter (λ m. not (m == n)) numbers

-- one more number fits
abbrev pub HasRoom : ListValue → Type 0
HasRoom list = 0 < list.room
