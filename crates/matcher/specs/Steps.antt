-- About how many steps the matcher takes for a line of the greatest length. A step moves a set of positions over one set of
-- bytes.
use Rattle.std.specs.Prelude.{ℕ, ◌+◌, ◌*◌, ◌<◌, ◌≤◌, Bool, true, false, ◌||◌, if◌then◌else◌, Some, None}
use Rattle.ere.specs.Tree.{Tree, empty, set, at_start, at_end, cat, alt, repeat, Trees, none, more}
use Rattle.matcher.specs.StarHeight.{is_set, star_height}

unfoldable mutual
  -- whether the tree has a `$` or a star, so that one round of it can lead through the whole line
  pub goes_far : Tree → Bool
  goes_far empty = false
  goes_far (set members) = false
  goes_far at_start = false
  goes_far at_end = true
  goes_far (cat members) = some_go_far members
  goes_far (alt members) = some_go_far members
  goes_far (repeat body least None) = true
  goes_far (repeat body least (Some most)) = goes_far body

  pub some_go_far : Trees → Bool
  some_go_far none = false
  some_go_far (more tree trees) = goes_far tree || some_go_far trees

-- How many rounds of its body a star takes: one for each byte of the line if the body has a `$` or a star. Any other star goes
-- through the line in windows of 64 positions, which takes as long as 32 rounds.
abbrev pub rounds_of : Tree → ℕ
rounds_of body = if goes_far body then 16384 else 32

unfoldable mutual
  -- A star of a single set is one step. A repeat with a greatest count takes the steps of that many copies of its body.
  pub steps : Tree → ℕ
  steps empty = 1
  steps (set members) = 1
  steps at_start = 1
  steps at_end = 1
  steps (cat members) = steps_in members
  steps (alt members) = steps_in members
  steps (repeat body least None) = if is_set body then 1 else rounds_of body * steps body
  steps (repeat body least (Some most)) = most * steps body

  pub steps_in : Trees → ℕ
  steps_in none = 0
  steps_in (more tree trees) = steps tree + steps_in trees

-- the most steps of a tree that is quick
abbrev pub most_steps : ℕ
most_steps = 30000

-- A line costs the matcher few steps: no star is inside another one, and there are few steps.
pub record IsQuick (tree : Tree) : Type 0 where
  pub flat : star_height tree < 2
  pub few : steps tree ≤ most_steps
