-- The words of a node by positions of a line, which is not empty. No word is empty: where a part of a tree has the
-- empty word is said by gaps, next to the nodes that they join.
use Rattle.std.specs.Prelude.{◌≡◌, ℕ, zero, suc, ◌*◌, ◌<◌, ◌≤◌, Bool, true, false, not, ◌&&◌, ◌||◌, if◌then◌else◌, ◌==◌, IsTrue, List, length, slice_index, ◌⊎◌}
use Rattle.ere.specs.Bits.{has_bit}
use Rattle.ere.specs.ByteSet.{has}
use Rattle.spans.specs.Spans.{Relation}
use Rattle.simulation.specs.declared.node.Gaps.{Gaps}
use Rattle.simulation.specs.declared.node.RepeatCounts.{RepeatCounts}
use Rattle.simulation.specs.declared.node.Sizes.{Sizes}
use Rattle.simulation.specs.declared.node.RunLayout.{RunLayout}
use Rattle.simulation.specs.declared.node.Node.{Node, Node-F}
use Rattle.simulation.specs.declared.node.Node.TheOpen as layer
use Rattle.simulation.specs.declared.node.Node.TheFolds.{fold-Node}

-- a node as plain data, without its memory
pub data Shape : Type 0 where
  nothing : Shape
  set : List Bool → Shape
  run : List ℕ → RunLayout → Shape
  both : Shape → Shape → Sizes → Gaps → Gaps → Shape
  either : Shape → Shape → Sizes → Shape
  loop : Shape → ℕ → Shape
  times : Shape → RepeatCounts → Shape

-- one layer of a node, with the plain data of its members
abbrev pub shape_step : Node-F Shape → Shape
shape_step layer.Nothing = nothing
shape_step (layer.Set members) = set members
shape_step (layer.Run masks places) = run masks.items places
shape_step (layer.Both left right sizes before after) = both left.value right.value sizes before after
shape_step (layer.Either left right sizes) = either left.value right.value sizes
shape_step (layer.Loop body own) = loop body.value own
shape_step (layer.Times body counts) = times body.value counts

-- the plain data of a node
unfoldable pub shape : Node → Shape
shape = fold-Node Shape shape_step

-- whether the empty word is there at a position of the line
abbrev pub is_gap : Gaps → List ℕ → ℕ → Bool
is_gap gaps line at =
    if at == 0 then (if length line == 0 then gaps.alone else gaps.start) else (if at == length line then gaps.end else gaps.inside)

-- `count` words of a relation, one after the other
unfoldable pub Chain : Relation → ℕ → Relation
Chain relation zero from to = from ≡ to
Chain relation (suc count) from to = (middle : ℕ) × relation from middle × Chain relation count middle to

-- As many words are not too many.
abbrev pub Fits : RepeatCounts → ℕ → Type 0
Fits counts words = IsTrue counts.unbounded ⊎ (words ≤ counts.copies)

-- As many words are enough: there are no fewer than the least, or the others are empty at one of the ends.
abbrev pub Suffices : List ℕ → RepeatCounts → ℕ → ℕ → Type 0
Suffices line counts words to = (counts.least ≤ words) ⊎ IsTrue (is_gap counts.gaps line to)

-- The next byte of the line is one of a set of a run, the one that has so many sets after it.
abbrev pub IsRead : List ℕ → List ℕ → RunLayout → ℕ → ℕ → Type 0
IsRead line masks places left from =
    (from < length line) × IsTrue (has_bit (slice_index masks (slice_index line from)) (left * places.stride))

-- The end of a word of a run, where the last `left` sets are still to be read. The next of them can be left out if it is
-- optional. The one that was read last can be read again if it is repeated.
pub data Row (line masks : List ℕ) (places : RunLayout) : ℕ → ℕ → ℕ → Type 0 where
  done : {from to : ℕ} → from ≡ to → Row line masks places 0 from to
  skips : {left from to : ℕ} → IsTrue (has_bit places.optional (left * places.stride)) → Row line masks places left from to
      → Row line masks places (suc left) from to
  reads : {left from to : ℕ} → IsRead line masks places left from → Row line masks places left (suc from) to → Row line masks places (suc left) from to
  again : {left from to : ℕ} → IsTrue (has_bit places.repeated (left * places.stride)) → IsRead line masks places left from
      → Row line masks places left (suc from) to → Row line masks places left from to

unfoldable pub Reads : List ℕ → Shape → ℕ → ℕ → Type 0
Reads line nothing from to = ⊥
Reads line (set members) from to = (to ≡ suc from) × (from < length line) × IsTrue (has members (slice_index line from))
Reads line (run masks places) from to = (from < to) × Row line masks places (suc places.after) from to
Reads line (both left right sizes before after) from to =
    ((middle : ℕ) × Reads line left from middle × Reads line right middle to)
    ⊎ ((IsTrue (is_gap before line from) × Reads line right from to) ⊎ (Reads line left from to × IsTrue (is_gap after line to)))
Reads line (either left right sizes) from to = Reads line left from to ⊎ Reads line right from to
Reads line (loop body own) from to = (more : ℕ) × Chain (Reads line body) (suc more) from to
Reads line (times body counts) from to =
    (more : ℕ) × Chain (Reads line body) (suc more) from to × Fits counts (suc more)
    × (IsTrue (is_gap counts.gaps line from) ⊎ Suffices line counts (suc more) to)

-- Whether each word of the node begins at the line's start. Where the second of two members follows the empty word, it begins
-- where that word is.
unfoldable pub begins_at_start : Shape → Bool
begins_at_start nothing = true
begins_at_start (set members) = false
begins_at_start (run masks places) = false
begins_at_start (both left right sizes before after) = begins_at_start left && (not before.inside || begins_at_start right)
begins_at_start (either left right sizes) = begins_at_start left && begins_at_start right
begins_at_start (loop body own) = begins_at_start body
begins_at_start (times body counts) = begins_at_start body
