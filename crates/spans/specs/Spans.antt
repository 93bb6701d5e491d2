-- The language of a tree by positions of a line (POSIX.1-2017 XBD 9.4, anchors by 9.4.9): from which
-- position a word of the tree leads to which. Position i is before byte i of the line, and the last
-- position is after its last byte.
use Rattle.std.specs.Prelude.{◌≡◌, ℕ, zero, suc, ◌<◌, ◌≤◌, IsTrue, List, length, slice_index, ◌⊎◌, IfSome}
use Rattle.ere.specs.ByteSet.{has}
use Rattle.ere.specs.Tree.{Tree, empty, set, at_start, at_end, cat, alt, repeat, Trees, none, more}

abbrev pub Relation : Type 1
Relation = ℕ → ℕ → Type 0

-- `count` steps of a relation, one after the other
unfoldable pub Steps : Relation → ℕ → Relation
Steps relation zero from to = from ≡ to
Steps relation (suc count) from to = (middle : ℕ) × Steps relation count from middle × relation middle to

unfoldable mutual
  pub Spans : List ℕ → Tree → ℕ → ℕ → Type 0
  Spans line empty from to = from ≡ to
  Spans line (set members) from to = (to ≡ suc from) × (from < length line) × IsTrue (has members (slice_index line from))
  Spans line at_start from to = (from ≡ 0) × (from ≡ to)
  Spans line at_end from to = (from ≡ length line) × (from ≡ to)
  Spans line (cat members) from to = SpansEach line members from to
  Spans line (alt members) from to = SpansSome line members from to
  Spans line (repeat body least greatest) from to =
      (count : ℕ) × (least ≤ count) × IfSome greatest (λ most. count ≤ most) × Steps (Spans line body) count from to

  -- by a word of each, one after the other
  pub SpansEach : List ℕ → Trees → ℕ → ℕ → Type 0
  SpansEach line none from to = from ≡ to
  SpansEach line (more tree trees) from to = (middle : ℕ) × Spans line tree from middle × SpansEach line trees middle to

  -- by a word of one of them
  pub SpansSome : List ℕ → Trees → ℕ → ℕ → Type 0
  SpansSome line none from to = ⊥
  SpansSome line (more tree trees) from to = Spans line tree from to ⊎ SpansSome line trees from to
