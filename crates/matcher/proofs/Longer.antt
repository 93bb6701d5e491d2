-- Words that do not depend on where the line ends.
use Rattle.std.proofs.Common.{ℕ, zero, suc, ◌<◌, Bool, IsTrue, List, [], ◌∷◌, length, take, map, Option, inl, inr, subst}
use Rattle.std.proofs.Common.{arith}
use Rattle.std.specs.Prelude.{All}
use Rattle.std.proofs.lemmas.List.{get_or-take}
use Rattle.ere.specs.ByteSet.{has}
use Rattle.ere.specs.declared.tree.Ere.{Ere}
use Rattle.ere.specs.Tree.{form, trees_of, Tree, empty, set, at_start, cat, alt, repeat}
use Rattle.spans.specs.Spans.{Relation, Steps, Spans, SpansEach, SpansSome}
use Rattle.matcher.specs.Private.Longer.{HoldsInLonger}

pub holds_empty : HoldsInLonger empty
unfolding Spans
holds_empty line count from to h = h

inside_take : (line : List ℕ) (count at : ℕ) → at < length (take count line) → (at < count) × (at < length line)
inside_take [] zero at h = absurd (omega arith)
inside_take [] (suc count) at h = absurd (omega arith)
inside_take (byte ∷ line) zero at h = absurd (omega arith)
inside_take (byte ∷ line) (suc count) zero h = (omega arith, omega arith)
inside_take (byte ∷ line) (suc count) (suc at) h = let rest = inside_take line count at (omega arith) in (omega (arith, rest.0), omega (arith, rest.1))

pub holds_set : (members : List Bool) → HoldsInLonger (set members)
unfolding Spans
holds_set members line count from to h =
    let inside : (from < count) × (from < length line) = inside_take line count from h.1 in
    (h.0, inside.1, subst (λ byte. IsTrue (has members byte)) (get_or-take count line from 0 inside.0) h.2)

pub holds_start : HoldsInLonger at_start
unfolding Spans
holds_start line count from to h = h

pub steps_held : (inner relation : Relation) → ((i k : ℕ) → inner i k → relation i k) → (count i k : ℕ) → Steps inner count i k → Steps relation count i k
unfolding Steps
steps_held inner relation one zero i k h = h
steps_held inner relation one (suc count) i k h = (h.0, steps_held inner relation one count i h.0 h.1, one h.0 k h.2)

pub holds_repeat : (body : Tree) (least : ℕ) (greatest : Option ℕ) → HoldsInLonger body → HoldsInLonger (repeat body least greatest)
unfolding Spans
holds_repeat body least greatest one line count from to h =
    (h.0, h.1, h.2, steps_held (Spans (take count line) body) (Spans line body) (λ i k s. one line count i k s) h.0 from to h.3)

-- all members, one after the other
tail_held : (member : Ere) (members : List Ere) → All (λ m. HoldsInLonger (form m)) (member ∷ members) → All (λ m. HoldsInLonger (form m)) members
tail_held member members h k d inside = h (suc k) d (omega arith)

each_held : (line : List ℕ) (count : ℕ) (members : List Ere) → All (λ m. HoldsInLonger (form m)) members → (from to : ℕ)
    → SpansEach (take count line) (trees_of (map form members)) from to → SpansEach line (trees_of (map form members)) from to
unfolding SpansEach
each_held line count [] h from to s = s
each_held line count (member ∷ members) h from to s =
    (s.0, h 0 member (omega arith) line count from s.0 s.1, each_held line count members (tail_held member members h) s.0 to s.2)

some_held : (line : List ℕ) (count : ℕ) (members : List Ere) → All (λ m. HoldsInLonger (form m)) members → (from to : ℕ)
    → SpansSome (take count line) (trees_of (map form members)) from to → SpansSome line (trees_of (map form members)) from to
unfolding SpansSome
some_held line count [] h from to s = s
some_held line count (member ∷ members) h from to (inl s) = inl (h 0 member (omega arith) line count from to s)
some_held line count (member ∷ members) h from to (inr s) = inr (some_held line count members (tail_held member members h) from to s)

pub holds_cat : (members : List Ere) → All (λ m. HoldsInLonger (form m)) members → HoldsInLonger (cat (trees_of (map form members)))
unfolding Spans
holds_cat members h line count from to s = each_held line count members h from to s

pub holds_alt : (members : List Ere) → All (λ m. HoldsInLonger (form m)) members → HoldsInLonger (alt (trees_of (map form members)))
unfolding Spans
holds_alt members h line count from to s = some_held line count members h from to s
