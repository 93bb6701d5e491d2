-- When a pattern of the toolchain's engine stands for a tree: in each line of each text its matches begin and end
-- where the tree's words do.
use Rattle.std.specs.Prelude.{◌≡◌, ◌≢◌, ℕ, ◌+◌, ◌<◌, ◌≤◌, true, List, [], ◌∷◌, length, Some, slice_get, slice_index}
use Rattle.regex_hir.specs.Looks.{holds}
use Rattle.regex_hir.specs.declared.look.Look.TheVariants.{StartLf, EndLf}
use Rattle.regex_hir.specs.Re.{Re}
use Rattle.regex_hir.specs.Matches.{Matches}
use Rattle.ere.specs.Tree.{Tree, Trees, none, more}
use Rattle.spans.specs.Spans.{Relation, Spans}

-- The text has this line from position `at` on: its bytes are there, none is a line feed, and the engine sees
-- the start of a line before it and the end of one after it.
pub record IsLineAt (text : List ℕ) (at : ℕ) (line : List ℕ) : Type 0 where
  pub same : (k : ℕ) → k < length line → slice_get text (at + k) ≡ Some (slice_index line k)
  pub no_feed : (k : ℕ) → k < length line → slice_index line k ≢ 10
  pub begins : holds StartLf text at ≡ true
  pub ends : holds EndLf text (at + length line) ≡ true

-- From each position of a line of this size, which is at `at` in the text, a relation on the line's positions and
-- one on the text's lead to the same places.
pub record Agrees (size at : ℕ) (of_line of_text : Relation) : Type 0 where
  pub there : (from to : ℕ) → from ≤ size → of_line from to → (to ≤ size) × of_text (at + from) (at + to)
  pub back : (from end : ℕ) → from ≤ size → of_text (at + from) end → (to : ℕ) × (end ≡ at + to) × (to ≤ size) × of_line from to

unfoldable pub StandsFor : Tree → Re → Type 0
StandsFor tree re =
    (text line : List ℕ) (at : ℕ) → IsLineAt text at line → Agrees (length line) at (Spans line tree) (Matches text re)

-- each pattern stands for the tree in its place
unfoldable pub StandForEach : Trees → List Re → Type 0
StandForEach none [] = Unit {0}
StandForEach none (re ∷ res) = ⊥
StandForEach (more tree trees) [] = ⊥
StandForEach (more tree trees) (re ∷ res) = StandsFor tree re × StandForEach trees res
