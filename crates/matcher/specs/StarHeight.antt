-- The star height of a tree, where a star of a single set does not count.
use Rattle.std.specs.Prelude.{ℕ, suc, Bool, true, false, if◌then◌else◌, Some, None, max}
use Rattle.ere.specs.Tree.{Tree, empty, set, at_start, at_end, cat, alt, repeat, Trees, none, more}

abbrev pub is_set : Tree → Bool
is_set (set members) = true
is_set empty = false
is_set at_start = false
is_set at_end = false
is_set (cat members) = false
is_set (alt members) = false
is_set (repeat body least greatest) = false

unfoldable mutual
  -- how many repeats without a greatest count are nested at most
  pub star_height : Tree → ℕ
  star_height empty = 0
  star_height (set members) = 0
  star_height at_start = 0
  star_height at_end = 0
  star_height (cat members) = greatest_height members
  star_height (alt members) = greatest_height members
  star_height (repeat body least None) = if is_set body then 0 else suc (star_height body)
  star_height (repeat body least (Some greatest)) = star_height body

  pub greatest_height : Trees → ℕ
  greatest_height none = 0
  greatest_height (more tree trees) = max (star_height tree) (greatest_height trees)
