-- What the cells of a node hold at a position of the line: the words that have begun and are not read to their end.
use Rattle.std.specs.Prelude.{◌≡◌, ℕ, suc, ◌+◌, ◌*◌, ◌/◌, ◌<◌, ◌≤◌, Bool, false, IsTrue, List, length, slice_index, take, drop, ◌⊎◌}
use Rattle.ere.specs.Bits.{has_bit}
use Rattle.spans.specs.PositionSets.{has_position}
use Rattle.simulation.specs.declared.node.RepeatCounts.{RepeatCounts}
use Rattle.simulation.specs.declared.node.RunLayout.{RunLayout}
use Rattle.simulation.specs.declared.node.Sizes.{Sizes}
use Rattle.simulation.specs.Nodes.{Shape, nothing, set, run, both, either, loop, times, is_gap, Chain, Reads, Row, Fits, Suffices}

-- whether the cell of a copy is set: cell k is bit k mod 64 of word k / 64
abbrev pub at : List ℕ → ℕ → Bool
at cells copy = has_position cells copy

-- how many cells there are in some words
abbrev pub room : List ℕ → ℕ
room cells = 64 * length cells

-- the cells of the first of two members, after those of the node itself
abbrev pub first_of : Sizes → List ℕ → List ℕ
first_of sizes cells = take sizes.first (drop sizes.own cells)

-- the cells of the second of two members
abbrev pub second_of : Sizes → List ℕ → List ℕ
second_of sizes cells = drop sizes.first (drop sizes.own cells)

-- The words that are read in part at a position end at `to`, for one of the copies of a node. A copy of a body of
-- `times` is for one number of words before it and one copy of the whole.
unfoldable pub Pending : List ℕ → ℕ → Shape → ℕ → List ℕ → ℕ → ℕ → Type 0
Pending line here nothing copies cells copy to = ⊥
Pending line here (set members) copies cells copy to = IsTrue (at cells copy) × (to ≡ here)
Pending line here (run masks places) copies cells copy to =
    (left : ℕ) × (left ≤ places.after) × IsTrue (at cells (left * places.stride + copy)) × Row line masks places left here to
Pending line here (both left right sizes before after) copies cells copy to =
    ((middle : ℕ) × Pending line here left copies (first_of sizes cells) copy middle
    × (Reads line right middle to ⊎ ((middle ≡ to) × IsTrue (is_gap after line to))))
    ⊎ Pending line here right copies (second_of sizes cells) copy to
Pending line here (either left right sizes) copies cells copy to =
    Pending line here left copies (first_of sizes cells) copy to ⊎ Pending line here right copies (second_of sizes cells) copy to
Pending line here (loop body own) copies cells copy to =
    (middle : ℕ) × (more : ℕ) × Pending line here body copies cells copy middle × Chain (Reads line body) more middle to
Pending line here (times body counts) copies cells copy to =
    (turn : ℕ) × (middle : ℕ) × (more : ℕ) × (turn < counts.copies)
    × Pending line here body (counts.copies * counts.stride) (drop counts.own cells) (turn * counts.stride + copy) middle
    × Chain (Reads line body) more middle to × Fits counts (turn + suc more) × Suffices line counts (turn + suc more) to

-- The first cells of a node say which of its copies have a word that ends here.
pub record Tells (line : List ℕ) (here : ℕ) (node : Shape) (copies : ℕ) (cells : List ℕ) : Type 0 where
  pub set : (k : ℕ) → k < copies → IsTrue (at cells k) → Pending line here node copies cells k here
  pub pending : (k : ℕ) → k < copies → Pending line here node copies cells k here → IsTrue (at cells k)

-- The first cells of the node, and of each node in it, say which copies have a word that ends here.
unfoldable pub IsKept : List ℕ → ℕ → Shape → ℕ → List ℕ → Type 0
IsKept line here nothing copies cells = Tells line here nothing copies cells
IsKept line here (set members) copies cells = Tells line here (set members) copies cells
IsKept line here (run masks places) copies cells = Tells line here (run masks places) copies cells
IsKept line here (both left right sizes before after) copies cells =
    Tells line here (both left right sizes before after) copies cells
    × IsKept line here left copies (first_of sizes cells) × IsKept line here right copies (second_of sizes cells)
IsKept line here (either left right sizes) copies cells =
    Tells line here (either left right sizes) copies cells
    × IsKept line here left copies (first_of sizes cells) × IsKept line here right copies (second_of sizes cells)
IsKept line here (loop body own) copies cells = IsKept line here body copies cells
IsKept line here (times body counts) copies cells =
    Tells line here (times body counts) copies cells × IsKept line here body (counts.copies * counts.stride) (drop counts.own cells)

-- After one more byte the same words are pending, and those of the copies that were entered before it.
pub record Advances (line : List ℕ) (here : ℕ) (node : Shape) (copies : ℕ) (entered cells next : List ℕ) : Type 0 where
  pub sound : (k to : ℕ) → k < copies → Pending line (suc here) node copies next k to
      → Pending line here node copies cells k to ⊎ (IsTrue (at entered k) × Reads line node here to)
  pub goes_on : (k to : ℕ) → k < copies → here < to → Pending line here node copies cells k to → Pending line (suc here) node copies next k to
  pub begins : (k to : ℕ) → k < copies → IsTrue (at entered k) → Reads line node here to → Pending line (suc here) node copies next k to
  pub kept : IsKept line (suc here) node copies next

-- What begins in one copy of the body of `times`: at the first turn what begins in the whole, at any turn if those before it
-- are empty, at each other turn what the turn before has read, and at the last turn of an unbounded number itself again.
pub data Enters (counts : RepeatCounts) (gap : Bool) (entered cells : List ℕ) (turn k : ℕ) : Type 0 where
  first : turn ≡ 0 → IsTrue (at entered k) → Enters counts gap entered cells turn k
  empties : IsTrue gap → IsTrue (at entered k) → Enters counts gap entered cells turn k
  next : (before : ℕ) → turn ≡ suc before → IsTrue (at cells (before * counts.stride + k)) → Enters counts gap entered cells turn k
  again : IsTrue counts.unbounded → suc turn ≡ counts.copies → IsTrue (at cells (turn * counts.stride + k)) → Enters counts gap entered cells turn k

-- One of the turns from the lowest on is set.
abbrev pub AnyTurn : RepeatCounts → ℕ → List ℕ → ℕ → Type 0
AnyTurn counts lowest cells k = (turn : ℕ) × (lowest ≤ turn) × (turn < counts.copies) × IsTrue (at cells (turn * counts.stride + k))

-- how many words the cells of some copies take
abbrev pub words_for : ℕ → ℕ
words_for copies = (copies + 63) / 64

-- a stride of which 64 is a multiple
pub data IsNarrow (stride : ℕ) : Type 0 where
  one : stride ≡ 1 → IsNarrow stride
  two : stride ≡ 2 → IsNarrow stride
  four : stride ≡ 4 → IsNarrow stride
  eight : stride ≡ 8 → IsNarrow stride
  sixteen : stride ≡ 16 → IsNarrow stride
  half : stride ≡ 32 → IsNarrow stride

-- Some copies fit into a stride, and no stride lies in a word in part.
pub record IsStride (copies stride : ℕ) : Type 0 where
  pub some : 0 < copies
  pub fits : copies ≤ stride
  pub even : IsNarrow stride ⊎ (stride ≡ 64 * words_for copies)

-- how many words a node of some copies takes
unfoldable pub size_of : Shape → ℕ → ℕ
size_of nothing copies = words_for copies
size_of (set members) copies = words_for copies
size_of (run masks places) copies = words_for copies
size_of (both left right sizes before after) copies = words_for copies + (size_of left copies + size_of right copies)
size_of (either left right sizes) copies = words_for copies + (size_of left copies + size_of right copies)
size_of (loop body own) copies = size_of body copies
size_of (times body counts) copies = words_for copies + size_of body (counts.copies * counts.stride)

-- A word has a bit for each copy of some of the sets of a run, and no other bits.
pub record IsSpread (word after copies : ℕ) : Type 0 where
  pub same : (left copy : ℕ) → left ≤ after → copy < copies → has_bit word (left * copies + copy) ≡ has_bit word (left * copies)
  pub none : (bit : ℕ) → after * copies + copies ≤ bit → bit < 64 → has_bit word bit ≡ false

-- The sets of a run fit into one word with what is entered before them, and each copy has the same sets.
pub record IsRun (masks : List ℕ) (places : RunLayout) (copies : ℕ) : Type 0 where
  pub apart : places.stride ≡ copies
  pub some : 0 < copies
  pub fits : places.after * copies + copies + copies ≤ 64
  pub all : length masks ≡ 256
  pub same : (byte left copy : ℕ) → left ≤ places.after → copy < copies
      → has_bit (slice_index masks byte) (left * copies + copy) ≡ has_bit (slice_index masks byte) (left * copies)
  pub optional : IsSpread places.optional places.after copies
  pub repeated : IsSpread places.repeated places.after copies

-- The numbers that a node keeps are those of this many copies.
unfoldable pub IsWhole : Shape → ℕ → Type 0
IsWhole nothing copies = Unit {0}
IsWhole (set members) copies = Unit {0}
IsWhole (run masks places) copies = IsRun masks places copies
IsWhole (both left right sizes before after) copies =
    (sizes.own ≡ words_for copies) × (sizes.first ≡ size_of left copies) × IsWhole left copies × IsWhole right copies
IsWhole (either left right sizes) copies =
    (sizes.own ≡ words_for copies) × (sizes.first ≡ size_of left copies) × IsWhole left copies × IsWhole right copies
IsWhole (loop body own) copies = (own ≡ words_for copies) × IsWhole body copies
IsWhole (times body counts) copies =
    (counts.own ≡ words_for copies) × IsStride copies counts.stride × (counts.all ≡ counts.copies * counts.stride) × (0 < counts.copies)
    × (counts.least ≤ counts.copies) × IsWhole body (counts.copies * counts.stride)

-- The cells are those of this many copies of the node at a position of the line, and there is as much room for what begins.
pub record IsReady (line : List ℕ) (here : ℕ) (node : Shape) (copies : ℕ) (entered cells : List ℕ) : Type 0 where
  pub whole : IsWhole node copies
  pub inside : here < length line
  pub entered_all : length entered ≡ size_of node copies
  pub cells_all : length cells ≡ size_of node copies
  pub kept : IsKept line here node copies cells

-- A number that is greater than those of a node's members, by two.
unfoldable pub rank : Shape → ℕ
rank nothing = 1
rank (set members) = 1
rank (run masks places) = 1
rank (both left right sizes before after) = rank left + rank right + 2
rank (either left right sizes) = rank left + rank right + 2
rank (loop body own) = rank body + 2
rank (times body counts) = rank body + 2
