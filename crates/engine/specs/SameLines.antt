-- Which trees have the same lines with a match, wherever their matches begin and end.
use Rattle.std.specs.Prelude.{◌↔◌, ℕ, List, []}
use Rattle.ere.specs.Tree.{Tree}
use Rattle.ere.specs.Language.{ContainsMatch, InLanguage}

-- Each line contains a match of both trees, or of neither.
abbrev pub HaveSameLines : Tree → Tree → Type 0
HaveSameLines tree other = (line : List ℕ) → ContainsMatch tree line ↔ ContainsMatch other line

-- The tree has the empty match between any two texts.
abbrev pub CanBeEmpty : Tree → Type 0
CanBeEmpty tree = (before after : List ℕ) → InLanguage tree before [] after
