-- Trees whose words do not depend on where the line ends.
use Rattle.std.specs.Prelude.{ℕ, List, take}
use Rattle.ere.specs.Tree.{Tree}
use Rattle.spans.specs.Spans.{Spans}

-- Wherever a word of the tree leads in a prefix of a line, it leads in the whole line too.
abbrev pub HoldsInLonger : Tree → Type 0
HoldsInLonger tree = (line : List ℕ) (count from to : ℕ) → Spans (take count line) tree from to → Spans line tree from to
