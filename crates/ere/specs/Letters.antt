-- Letters, and sets read with their case ignored. Only the ASCII letters have a case, as for REG_ICASE
-- in the C locale (POSIX.1-2017 XSH regcomp).
use Rattle.std.specs.Prelude.{ℕ, ◌+◌, ◌-◌, Bool, ◌||◌, List, if◌then◌else◌}
use Rattle.ere.specs.declared.case.Case.{Case}
use Rattle.ere.specs.declared.case.Case.TheVariants.{Exact, Ignore}
use Rattle.ere.specs.ByteSet.{has, set_of}
use Rattle.ere.specs.Classes.{is_lower, is_upper}

-- the other case of a letter; any other byte itself
abbrev pub other_case : ℕ → ℕ
other_case b = if is_upper b then b + 32 else (if is_lower b then b - 32 else b)

-- the set, with the other case of each of its letters added
abbrev pub closed : List Bool → List Bool
closed set = set_of (λ b. has set b || has set (other_case b))

-- what a set of a pattern is if case counts, and if it is ignored
abbrev pub read_in : Case → List Bool → List Bool
read_in Exact set = set
read_in Ignore set = closed set
