-- Which node stands for a tree.
use Rattle.std.specs.Prelude.{◌≡◌, ℕ, ◌≤◌, ◌<◌, Bool, true, false, ◌&&◌, ◌||◌, if◌then◌else◌, ◌==◌, IsTrue, List, Option, IfSome, IfNone, ◌⊎◌}
use Rattle.ere.specs.Tree.{Tree, Trees}
use Rattle.spans.specs.Spans.{Relation, Spans, SpansSome}
use Rattle.simulation.specs.declared.node.Gaps.{Gaps}
use Rattle.simulation.specs.declared.sequence.Packed.{Packed}
use Rattle.simulation.specs.Nodes.{Shape, shape, Reads, is_gap}
use Rattle.simulation.specs.Pending.{IsWhole, size_of}

-- the words of a node, and the empty word where the gaps say
abbrev pub WordsAt : Shape → Gaps → List ℕ → Relation
WordsAt node gaps line from to = Reads line node from to ⊎ ((from ≡ to) × IsTrue (is_gap gaps line from))

-- The words of the node and the gaps together are the words that a relation has in each line.
pub record IsPacked (words : List ℕ → Relation) (node : Shape) (gaps : Gaps) : Type 0 where
  pub forward : (line : List ℕ) (from to : ℕ) → words line from to → from ≤ to
  pub sound : (line : List ℕ) (from to : ℕ) → Reads line node from to → words line from to
  pub complete : (line : List ℕ) (from to : ℕ) → from < to → words line from to → Reads line node from to
  pub empty : (line : List ℕ) (at : ℕ) → IsTrue (is_gap gaps line at) → words line at at
  pub gap : (line : List ℕ) (at : ℕ) → words line at at → IsTrue (is_gap gaps line at)
  pub steady : IsTrue gaps.inside → IsTrue gaps.start × IsTrue gaps.end

-- The node and the gaps stand for a tree.
abbrev pub StandsFor : Tree → Shape → Gaps → Type 0
StandsFor tree node gaps = IsPacked (λ line. Spans line tree) node gaps

-- They stand for a word of one of the trees.
abbrev pub StandsForSome : Trees → Shape → Gaps → Type 0
StandsForSome trees node gaps = IsPacked (λ line. SpansSome line trees) node gaps

-- the empty word nowhere
abbrev pub nowhere : Gaps
nowhere = record { alone = false; start = false; inside = false; end = false }

-- the empty word everywhere
abbrev pub everywhere : Gaps
everywhere = record { alone = true; start = true; inside = true; end = true }

-- the empty word at the line's start or end
abbrev pub only_at : Bool → Bool → Gaps
only_at start end = record { alone = start || end; start = start; inside = false; end = end }

-- where both have the empty word
abbrev pub gaps_of_both : Gaps → Gaps → Gaps
gaps_of_both one two =
    record { alone = one.alone && two.alone; start = one.start && two.start; inside = one.inside && two.inside; end = one.end && two.end }

-- where either has it
abbrev pub gaps_of_either : Gaps → Gaps → Gaps
gaps_of_either one two =
    record { alone = one.alone || two.alone; start = one.start || two.start; inside = one.inside || two.inside; end = one.end || two.end }

-- where a number of words can all be empty
abbrev pub gaps_of_times : ℕ → Gaps → Gaps
gaps_of_times least gaps = if least == 0 then everywhere else gaps

-- The node stands for a relation's words, and is made for this many copies, which take this many words of cells.
pub record IsNodeFor (words : List ℕ → Relation) (node : Shape) (gaps : Gaps) (copies size : ℕ) : Type 0 where
  pub packed : IsPacked words node gaps
  pub whole : IsWhole node copies
  pub sized : size_of node copies ≡ size

-- A node that is built stands for the words of a tree.
abbrev pub IsTreeNode : Tree → Packed → ℕ → Type 0
IsTreeNode tree built copies = IsNodeFor (λ line. Spans line tree) (shape built.node) built.gaps copies built.size

-- A node that is built stands for several trees: a word of it is a word of one of them.
abbrev pub IsSomeNode : Trees → Packed → ℕ → Type 0
IsSomeNode trees built copies = IsNodeFor (λ line. SpansSome line trees) (shape built.node) built.gaps copies built.size

-- A number of words takes this many turns: the greatest, or the least if there is no greatest.
pub record IsTurns (least : ℕ) (greatest : Option ℕ) (turns : ℕ) : Type 0 where
  pub bounded : IfSome greatest (λ most. (most ≡ turns) × (least ≤ turns))
  pub unbounded : IfNone greatest (turns ≡ least)
