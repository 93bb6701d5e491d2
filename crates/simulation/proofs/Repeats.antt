-- Nodes that stand for repeats.
use Rattle.std.proofs.Common.{◌≡◌, ◌≢◌, ℕ, zero, suc, ◌+◌, ◌-◌, ◌<◌, ◌≤◌, Bool, true, false, ◌==◌, if◌then◌else◌, IsTrue, List, length}
use Rattle.std.proofs.Common.{Option, Some, None, IfSome, ◌⊎◌, inl, inr, refl, sym, subst, ap, arith}
use Rattle.std.proofs.lemmas.Bool.Decides.{nat_tests}
use Rattle.ere.specs.Tree.{Tree, repeat}
use Rattle.spans.specs.Spans.{Relation, Spans, Steps}
use Rattle.simulation.specs.declared.node.Gaps.{Gaps}
use Rattle.simulation.specs.declared.node.RunLayout.{RunLayout}
use Rattle.simulation.specs.Nodes.{Row as rows}
use Rattle.simulation.specs.Nodes.{Shape, nothing, run, both, either, loop, times, is_gap, Chain, Reads, Row}
use Rattle.simulation.specs.Nodes.{set as one_of}
use Rattle.simulation.specs.Packing.{StandsFor, everywhere, gaps_of_times}
use Rattle.simulation.proofs.Forward.{at_or_past, le_or_lt, row_forward}
use Rattle.simulation.proofs.Packing.{gap_everywhere}

-- Some steps and then more.
pub steps_join : (relation : Relation) (one two from middle to : ℕ) → Steps relation one from middle → Steps relation two middle to → Steps relation (one + two) from to
unfolding Steps
steps_join relation one zero from middle to h g =
    subst (λ n. Steps relation n from to) (let same : one ≡ one + zero = omega arith in same) (subst (λ n. Steps relation one from n) g h)
steps_join relation one (suc two) from middle to h g =
    subst (λ n. Steps relation n from to) (let same : suc (one + two) ≡ one + suc two = omega arith in same)
    (g.0, steps_join relation one two from middle g.0 h g.1, g.2)

steps_of_chain : (few relation : Relation) → ((a b : ℕ) → few a b → relation a b) → (count from to : ℕ) → Chain few count from to → Steps relation count from to
unfolding Chain Steps
steps_of_chain few relation into zero from to h = h
steps_of_chain few relation into (suc count) from to h =
    subst (λ n. Steps relation n from to) (let same : suc zero + count ≡ suc count = omega arith in same)
    (steps_join relation (suc zero) count from h.0 to (from, refl, into from h.0 h.1) (steps_of_chain few relation into count h.0 to h.2))

-- Empty words before others.
steps_padded : (relation : Relation) (extra at : ℕ) → relation at at → Steps relation extra at at
unfolding Steps
steps_padded relation zero at h = refl
steps_padded relation (suc extra) at h = (at, steps_padded relation extra at h, h)

chain_longer : (relation : Relation) (count from middle to : ℕ) → Chain relation count from middle → relation middle to → Chain relation (suc count) from to
unfolding Chain
chain_longer relation zero from middle to h r = (to, subst (λ n. relation n to) (sym h) r, refl)
chain_longer relation (suc count) from middle to h r = (h.0, h.1, chain_longer relation count h.0 middle to h.2 r)

steps_forward : (relation : Relation) → ((a b : ℕ) → relation a b → a ≤ b) → (count from to : ℕ) → Steps relation count from to → from ≤ to
unfolding Steps
steps_forward relation forward zero from to h = omega arith
steps_forward relation forward (suc count) from to h =
    let a = steps_forward relation forward count from h.0 h.1 in
    let b = forward h.0 to h.2 in
    omega arith

-- Steps that stay are empty words.
steps_stay : (relation : Relation) → ((a b : ℕ) → relation a b → a ≤ b) → (count at : ℕ) → Steps relation (suc count) at at → relation at at
unfolding Steps
steps_stay relation forward count at h =
    let a = steps_forward relation forward count at h.0 h.1 in
    let b = forward h.0 at h.2 in
    let same : h.0 ≡ at = omega arith in
    subst (λ n. relation n at) same h.2

-- The words that are not empty, and where an empty one was left out.
record IsThinned (few relation : Relation) (count from to : ℕ) : Type 0 where
  extra : ℕ
  chain : Chain few (suc extra) from to
  fewer : suc extra ≤ count
  left_out : (suc extra ≡ count) ⊎ ((at : ℕ) × (from ≤ at) × (at ≤ to) × relation at at)

thinned : (few relation : Relation) → ((a b : ℕ) → relation a b → a ≤ b) → ((a b : ℕ) → a < b → relation a b → few a b) → (count from to : ℕ) → from < to
    → Steps relation count from to → IsThinned few relation count from to
unfolding Steps Chain
thinned few relation forward into zero from to past h = absurd (omega arith)
thinned few relation forward into (suc count) from to past (middle, h, r) =
    go (at_or_past from middle (steps_forward relation forward count from middle h)) (at_or_past middle to (forward middle to r))
    (λ past_middle. thinned few relation forward into count from middle past_middle h)
  where
    single : (c : ℕ) → Steps relation c from middle → from ≡ middle → relation middle to → (suc zero ≡ suc c) ⊎ ((at : ℕ) × (from ≤ at) × (at ≤ to) × relation at at)
    single zero s e q = inl refl
    single (suc c) s e q =
        let here : from ≤ from = omega arith in
        let there : from ≤ to = omega arith in
        inr (from, here, there, steps_stay relation forward c from (subst (λ n. Steps relation (suc c) from n) (sym e) s))

    go : (from ≡ middle) ⊎ (from < middle) → (middle ≡ to) ⊎ (middle < to) → (from < middle → IsThinned few relation count from middle)
        → IsThinned few relation (suc count) from to
    go (inl a) (inl b) before = absurd (omega arith)
    go (inl a) (inr b) before = record {
      extra = 0;
      chain = (to, into from to past (subst (λ n. relation n to) (sym a) r), refl);
      fewer = omega arith;
      left_out = single count h a r;
    }
    go (inr a) (inl b) before =
        let inner = before a in
        let low = inner.fewer in
        let up_to : from ≤ to = omega arith in
        let ends : to ≤ to = omega arith in
        record {
          extra = inner.extra;
          chain = subst (λ n. Chain few (suc inner.extra) from n) b inner.chain;
          fewer = omega arith;
          left_out = inr (to, up_to, ends, subst (λ n. relation n to) b r);
        }
    go (inr a) (inr b) before =
        let inner = before a in
        let low = inner.fewer in
        record {
          extra = suc inner.extra;
          chain = chain_longer few (suc inner.extra) from middle to inner.chain (into middle to b r);
          fewer = omega arith;
          left_out = elim inner.left_out [
            | inl e ↦ inl (ap suc e)
            | inr s ↦ inr (s.0, s.1, (let mid = s.2 in let on : s.0 ≤ to = omega arith in on), s.3)
          ];
        }

pub chain_inside : (line : List ℕ) (node : Shape) → ((a b : ℕ) → Reads line node a b → b ≤ length line) → (count from to : ℕ)
    → Chain (Reads line node) (suc count) from to → to ≤ length line
unfolding Chain
chain_inside line node inside zero from to h = subst (λ n. n ≤ length line) h.2 (inside from h.0 h.1)
chain_inside line node inside (suc count) from to h = chain_inside line node inside count h.0 to h.2

row_inside : (line masks : List ℕ) (places : RunLayout) (left from to : ℕ) → Row line masks places left from to → from < to → to ≤ length line
row_inside line masks places zero from to (rows.done e) on = absurd (omega arith)
row_inside line masks places (suc left) from to (rows.skips o r) on = row_inside line masks places left from to r on
row_inside line masks places (suc left) from to (rows.reads i r) on =
    elim (at_or_past (suc from) to (row_forward line masks places left (suc from) to r)) [
      | inl same ↦ (let inside = i.0 in omega arith)
      | inr past ↦ row_inside line masks places left (suc from) to r past
    ]
row_inside line masks places left from to (rows.again p i r) on =
    elim (at_or_past (suc from) to (row_forward line masks places left (suc from) to r)) [
      | inl same ↦ (let inside = i.0 in omega arith)
      | inr past ↦ row_inside line masks places left (suc from) to r past
    ]

pub reads_inside : (line : List ℕ) (node : Shape) (from to : ℕ) → Reads line node from to → to ≤ length line
unfolding Reads
reads_inside line nothing from to h = absurd h
reads_inside line (one_of members) from to h = let next = h.0 in let low = h.1 in omega arith
reads_inside line (run masks places) from to h = row_inside line masks places (suc places.after) from to h.1 h.0
reads_inside line (both left right sizes before after) from to (inl h) = reads_inside line right h.0 to h.2
reads_inside line (both left right sizes before after) from to (inr (inl h)) = reads_inside line right from to h.1
reads_inside line (both left right sizes before after) from to (inr (inr h)) = reads_inside line left from to h.0
reads_inside line (either left right sizes) from to (inl h) = reads_inside line left from to h
reads_inside line (either left right sizes) from to (inr h) = reads_inside line right from to h
reads_inside line (loop body own) from to h = chain_inside line body (λ a b r. reads_inside line body a b r) h.0 from to h.1
reads_inside line (times body counts) from to h = chain_inside line body (λ a b r. reads_inside line body a b r) h.0 from to h.1

-- As many words are enough, or an empty one at either end makes up for the rest.
abbrev pub IsEnough : List ℕ → ℕ → Gaps → ℕ → ℕ → ℕ → Type 0
IsEnough line least gaps words from to = (least ≤ words) ⊎ (IsTrue (is_gap gaps line from) ⊎ IsTrue (is_gap gaps line to))

abbrev pub AtMost : Option ℕ → ℕ → Type 0
AtMost greatest words = IfSome greatest (λ most. words ≤ most)

at_most_fewer : (greatest : Option ℕ) (fewer words : ℕ) → fewer ≤ words → AtMost greatest words → AtMost greatest fewer
at_most_fewer None fewer words less h = h
at_most_fewer (Some most) fewer words less h = let small : fewer ≤ most = omega arith in small

-- A gap between two positions of a line that is not at one of them is inside.
pub gap_between : (gaps : Gaps) (line : List ℕ) (from at to : ℕ) → from ≤ at → at ≤ to → to ≤ length line → IsTrue (is_gap gaps line at)
    → IsTrue gaps.inside ⊎ (IsTrue (is_gap gaps line from) ⊎ IsTrue (is_gap gaps line to))
gap_between gaps line from at to low high inside h = go (at_or_past from at low) (at_or_past at to high)
  where
    middle : from < at → at < to → (zero_at zero_long end_at : Bool) → (at == 0) ≡ zero_at → (at == length line) ≡ end_at
        → IsTrue (if zero_at then (if zero_long then gaps.alone else gaps.start) else (if end_at then gaps.end else gaps.inside)) → IsTrue gaps.inside
    middle a b true zero_long end_at e f g = let zero_is : at ≡ 0 = grind (arith, nat_tests) in absurd (omega arith)
    middle a b false zero_long true e f g = let end_is : at ≡ length line = grind (arith, nat_tests) in absurd (omega arith)
    middle a b false zero_long false e f g = g

    go : (from ≡ at) ⊎ (from < at) → (at ≡ to) ⊎ (at < to) → IsTrue gaps.inside ⊎ (IsTrue (is_gap gaps line from) ⊎ IsTrue (is_gap gaps line to))
    go (inl a) other = inr (inl (subst (λ n. IsTrue (is_gap gaps line n)) (sym a) h))
    go (inr a) (inl b) = inr (inr (subst (λ n. IsTrue (is_gap gaps line n)) b h))
    go (inr a) (inr b) = inl (middle a b (at == 0) (length line == 0) (at == length line) refl refl h)

-- A node that reads numbers of words of another stands for the repeat.
pub repeat_packed : (body : Tree) (node whole : Shape) (gaps : Gaps) (least : ℕ) (greatest : Option ℕ) → AtMost greatest least → StandsFor body node gaps
    → ((line : List ℕ) (from to : ℕ) → Reads line whole from to
    → (words : ℕ) × Chain (Reads line node) (suc words) from to × AtMost greatest (suc words) × IsEnough line least gaps (suc words) from to)
    → ((line : List ℕ) (from to words : ℕ) → Chain (Reads line node) (suc words) from to → AtMost greatest (suc words)
    → IsTrue gaps.inside ⊎ IsEnough line least gaps (suc words) from to → Reads line whole from to)
    → StandsFor (repeat body least greatest) whole (gaps_of_times least gaps)
unfolding Spans Steps
repeat_packed body node whole gaps least greatest ordered inner of_whole to_whole = record {
  forward = λ line from to h. steps_forward (Spans line body) (inner.forward line) h.0 from to h.3;
  sound = sound;
  complete = complete;
  empty = empty_words least (least == 0) refl ordered;
  gap = gap_there (least == 0) refl;
  steady = steady (least == 0);
}
  where
    padded : (line : List ℕ) (from to words : ℕ) → Chain (Reads line node) (suc words) from to → AtMost greatest (suc words)
        → (least ≤ suc words) ⊎ (suc words < least) → IsEnough line least gaps (suc words) from to
        → (count : ℕ) × (least ≤ count) × AtMost greatest count × Steps (Spans line body) count from to
    padded line from to words chain fits (inl enough) e = (suc words, enough, fits, steps_of_chain (Reads line node) (Spans line body) (inner.sound line) (suc words) from to chain)
    padded line from to words chain fits (inr short) (inl enough) = absurd (omega arith)
    padded line from to words chain fits (inr short) (inr (inl g)) =
        let same : (least - suc words) + suc words ≡ least = omega arith in
        let all : least ≤ least = omega arith in (
          least,
          all,
          ordered,
          subst (λ n. Steps (Spans line body) n from to) same
              (steps_join (Spans line body) (least - suc words) (suc words) from from to (steps_padded (Spans line body) (least - suc words) from (inner.empty line from g))
              (steps_of_chain (Reads line node) (Spans line body) (inner.sound line) (suc words) from to chain)),
        )
    padded line from to words chain fits (inr short) (inr (inr g)) =
        let same : suc words + (least - suc words) ≡ least = omega arith in
        let all : least ≤ least = omega arith in (
          least,
          all,
          ordered,
          subst (λ n. Steps (Spans line body) n from to) same
              (steps_join (Spans line body) (suc words) (least - suc words) from to to
              (steps_of_chain (Reads line node) (Spans line body) (inner.sound line) (suc words) from to chain)
              (steps_padded (Spans line body) (least - suc words) to (inner.empty line to g))),
        )

    sound : (line : List ℕ) (from to : ℕ) → Reads line whole from to
        → (count : ℕ) × (least ≤ count) × AtMost greatest count × Steps (Spans line body) count from to
    sound line from to r =
        let h = of_whole line from to r in
        padded line from to h.0 h.1 h.2 (le_or_lt least (suc h.0)) h.3

    complete : (line : List ℕ) (from to : ℕ) → from < to
        → (count : ℕ) × (least ≤ count) × AtMost greatest count × Steps (Spans line body) count from to → Reads line whole from to
    complete line from to past (count, enough, fits, steps) =
        let thin = thinned (Reads line node) (Spans line body) (inner.forward line) (λ a b less s. inner.complete line a b less s) count from to past steps in
        to_whole line from to thin.extra thin.chain (at_most_fewer greatest (suc thin.extra) count thin.fewer fits)
        (elim thin.left_out [
          | inl e ↦ (let reached : least ≤ suc thin.extra = omega arith in inr (inl reached))
          | inr s ↦
              elim (gap_between gaps line from s.0 to s.1 s.2 (chain_inside line node (λ a b r. reads_inside line node a b r) thin.extra from to thin.chain) (inner.gap line s.0 s.3)) [
                | inl i ↦ inl i
                | inr g ↦ inr (inr g)
              ]
        ])

    empty_words : (n : ℕ) (none_least : Bool) → (n == 0) ≡ none_least → AtMost greatest n → (line : List ℕ) (at : ℕ)
        → IsTrue (is_gap (if none_least then everywhere else gaps) line at)
        → (count : ℕ) × (n ≤ count) × AtMost greatest count × Steps (Spans line body) count at at
    empty_words n true e fits line at h =
        let zero_is : n ≡ 0 = grind (arith, nat_tests) in
        let low : n ≤ 0 = omega arith in
        (0, low, subst (AtMost greatest) zero_is fits, refl)
    empty_words n false e fits line at h =
        let low : n ≤ n = omega arith in
        (n, low, fits, steps_padded (Spans line body) n at (inner.empty line at h))

    gap_there : (none_least : Bool) → (least == 0) ≡ none_least → (line : List ℕ) (at : ℕ)
        → (count : ℕ) × (least ≤ count) × AtMost greatest count × Steps (Spans line body) count at at
        → IsTrue (is_gap (if none_least then everywhere else gaps) line at)
    gap_there true e line at h = gap_everywhere line at
    gap_there false e line at (zero, low, fits, steps) = let some : least ≢ 0 = grind (arith, nat_tests) in absurd (some (omega arith))
    gap_there false e line at (suc count, low, fits, steps) = inner.gap line at (steps_stay (Spans line body) (inner.forward line) count at steps)

    steady : (none_least : Bool) → IsTrue (if none_least then everywhere else gaps).inside
        → IsTrue (if none_least then everywhere else gaps).start × IsTrue (if none_least then everywhere else gaps).end
    steady true h = (refl, refl)
    steady false h = inner.steady h
