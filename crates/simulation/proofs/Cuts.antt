-- The cells of a node are its own and those of its members, one after the other.
use Rattle.std.proofs.Common.{◌≡◌, ℕ, suc, ◌+◌, ◌-◌, ◌*◌, ◌/◌, ◌<◌, ◌≤◌, Bool, ◌&&◌, ◌||◌, IsTrue, List, ◌++◌, length, take, drop, ◌⊎◌, inl, inr}
use Rattle.std.proofs.Common.{◌↔◌, sym, ap, subst, ◌∙◌, arith, length-drop}
use Rattle.std.proofs.lemmas.List.{get_or-take, get_or_append_left, take_at, drop_at, length-take-le}
use Rattle.spans.proofs.Bits.{same_word}
use Rattle.simulation.specs.declared.node.Gaps.{Gaps}
use Rattle.simulation.specs.declared.node.RepeatCounts.{RepeatCounts}
use Rattle.simulation.specs.declared.node.RunLayout.{RunLayout}
use Rattle.simulation.specs.declared.node.Sizes.{Sizes}
use Rattle.simulation.specs.Nodes.{Shape, nothing, set, run, both, either, loop, times, is_gap, Suffices}
use Rattle.simulation.specs.Pending.{at, room, first_of, second_of, words_for, size_of, IsWhole, IsRun, IsKept, IsReady, Advances, Enters, Enters as enters, AnyTurn, IsStride, IsNarrow, IsNarrow as narrows}
use Rattle.simulation.proofs.Steps.{both_advances, either_advances, loop_advances, times_advances}

pub at_take : (cells : List ℕ) (words k : ℕ) → k < 64 * words → at (take words cells) k ≡ at cells k
at_take cells words k low =
    let inside : k / 64 < words = omega arith in
    same_word (take words cells) cells k (get_or-take words cells (k / 64) 0 inside)

pub at_front : (front back : List ℕ) (k : ℕ) → k < 64 * length front → at (front ++ back) k ≡ at front k
at_front front back k low =
    let inside : k / 64 < length front = omega arith in
    same_word (front ++ back) front k (get_or_append_left front back 0 (k / 64) inside)

pub words_hold : (copies : ℕ) → copies ≤ 64 * words_for copies
words_hold copies = omega arith

-- A node has at least its own cells.
pub own_fit : (node : Shape) (copies : ℕ) → words_for copies ≤ size_of node copies
unfolding size_of
own_fit nothing copies = omega arith
own_fit (set members) copies = omega arith
own_fit (run masks places) copies = omega arith
own_fit (both left right sizes before after) copies = omega arith
own_fit (either left right sizes) copies = omega arith
own_fit (loop body own) copies = own_fit body copies
own_fit (times body counts) copies = omega arith

-- The cells are cut into a node's own and those of two members.
pub record IsCut (sizes : Sizes) (cells own first second : List ℕ) : Type 0 where
  pub own_is : own ≡ take sizes.own cells
  pub first_is : first ≡ first_of sizes cells
  pub second_is : second ≡ second_of sizes cells

pub cut : (sizes : Sizes) (cells own rest first second : List ℕ) → own ≡ take sizes.own cells → rest ≡ drop sizes.own cells → first ≡ take sizes.first rest
    → second ≡ drop sizes.first rest → IsCut sizes cells own first second
cut sizes cells own rest first second own_is rest_is first_is second_is = record {
  own_is = own_is;
  first_is = first_is ∙ ap (take sizes.first) rest_is;
  second_is = second_is ∙ ap (drop sizes.first) rest_is;
}

joined_first : (sizes : Sizes) (own first second : List ℕ) → length own ≡ sizes.own → length first ≡ sizes.first
    → first_of sizes (own ++ (first ++ second)) ≡ first
joined_first sizes own first second own_long first_long =
    ap (take sizes.first) (drop_at own (first ++ second) sizes.own own_long) ∙ take_at first second sizes.first first_long

joined_second : (sizes : Sizes) (own first second : List ℕ) → length own ≡ sizes.own → length first ≡ sizes.first
    → second_of sizes (own ++ (first ++ second)) ≡ second
joined_second sizes own first second own_long first_long =
    ap (drop sizes.first) (drop_at own (first ++ second) sizes.own own_long) ∙ drop_at first second sizes.first first_long

-- Two members are ready if the node is.
pub record AreReady (line : List ℕ) (here : ℕ) (left right : Shape) (sizes : Sizes) (copies : ℕ) (entered cells : List ℕ) : Type 0 where
  pub own : sizes.own ≡ words_for copies
  pub first : sizes.first ≡ size_of left copies
  pub left_whole : IsWhole left copies
  pub right_whole : IsWhole right copies
  pub inside : here < length line
  pub entered_all : length entered ≡ words_for copies + (size_of left copies + size_of right copies)
  pub cells_all : length cells ≡ words_for copies + (size_of left copies + size_of right copies)
  pub left_kept : IsKept line here left copies (first_of sizes cells)
  pub right_kept : IsKept line here right copies (second_of sizes cells)

pub of_both : (line : List ℕ) (here : ℕ) (left right : Shape) (sizes : Sizes) (before after : Gaps) (copies : ℕ) (entered cells : List ℕ)
    → IsReady line here (both left right sizes before after) copies entered cells → AreReady line here left right sizes copies entered cells
unfolding IsWhole IsKept size_of
of_both line here left right sizes before after copies entered cells ready = record {
  own = ready.whole.0;
  first = ready.whole.1;
  left_whole = ready.whole.2;
  right_whole = ready.whole.3;
  inside = ready.inside;
  entered_all = ready.entered_all;
  cells_all = ready.cells_all;
  left_kept = ready.kept.1;
  right_kept = ready.kept.2;
}

pub of_either : (line : List ℕ) (here : ℕ) (left right : Shape) (sizes : Sizes) (copies : ℕ) (entered cells : List ℕ)
    → IsReady line here (either left right sizes) copies entered cells → AreReady line here left right sizes copies entered cells
unfolding IsWhole IsKept size_of
of_either line here left right sizes copies entered cells ready = record {
  own = ready.whole.0;
  first = ready.whole.1;
  left_whole = ready.whole.2;
  right_whole = ready.whole.3;
  inside = ready.inside;
  entered_all = ready.entered_all;
  cells_all = ready.cells_all;
  left_kept = ready.kept.1;
  right_kept = ready.kept.2;
}

pub left_ready : (line : List ℕ) (here : ℕ) (left right : Shape) (sizes : Sizes) (copies : ℕ) (entered cells own first second given : List ℕ)
    → AreReady line here left right sizes copies entered cells → IsCut sizes cells own first second → length given ≡ sizes.first
    → IsReady line here left copies given first
left_ready line here left right sizes copies entered cells own first second given ready cut long =
    let fits : sizes.first ≤ length (drop sizes.own cells) =
    omega (arith, length-drop sizes.own cells, ready.own, ready.first, ready.cells_all) in
    record {
      whole = ready.left_whole;
      inside = ready.inside;
      entered_all = long ∙ ready.first;
      cells_all = ap length cut.first_is ∙ length-take-le sizes.first (drop sizes.own cells) fits ∙ ready.first;
      kept = subst (IsKept line here left copies) (sym cut.first_is) ready.left_kept;
    }

pub right_ready : (line : List ℕ) (here : ℕ) (left right : Shape) (sizes : Sizes) (copies : ℕ) (entered cells own first second given : List ℕ)
    → AreReady line here left right sizes copies entered cells → IsCut sizes cells own first second
    → length given + (sizes.own + sizes.first) ≡ length entered → IsReady line here right copies given second
right_ready line here left right sizes copies entered cells own first second given ready cut long = record {
  whole = ready.right_whole;
  inside = ready.inside;
  entered_all = omega (arith, ready.own, ready.first, ready.entered_all);
  cells_all =
      ap length cut.second_is ∙ length-drop sizes.first (drop sizes.own cells) ∙ omega (arith, length-drop sizes.own cells, ready.own, ready.first, ready.cells_all);
  kept = subst (IsKept line here right copies) (sym cut.second_is) ready.right_kept;
}

-- What was done to the members was done to the node.
pub both_stepped : (line : List ℕ) (here next : ℕ) (left right : Shape) (sizes : Sizes) (before after : Gaps) (copies : ℕ)
    (entered cells own first second given_own given_first given_second own' first' second' : List ℕ) (gap gap_next : Bool)
    → IsReady line here (both left right sizes before after) copies entered cells → IsCut sizes cells own first second
    → given_own ≡ take sizes.own entered → length given_own ≡ sizes.own
    → ((k : ℕ) → k < room given_own → at given_first k ≡ at given_own k) → gap ≡ is_gap before line here
    → ((k : ℕ) → k < 64 * sizes.own → at given_second k ≡ (at first k || (gap && at given_own k)))
    → Advances line here left copies given_first first first' → Advances line here right copies given_second second second'
    → next ≡ suc here → gap_next ≡ is_gap after line next
    → ((k : ℕ) → k < 64 * sizes.own → at own' k ≡ (at second' k || (gap_next && at first' k)))
    → length own' ≡ sizes.own → length first' ≡ sizes.first
    → Advances line here (both left right sizes before after) copies entered cells (own' ++ (first' ++ second'))
unfolding IsKept
both_stepped line here next left right sizes before after copies entered cells own first second given_own given_first given_second own' first' second' gap
    gap_next ready cut given_is given_long to_first gap_is to_second one two next_is gap_next_is result own_long first_long =
    both_advances line here left right sizes before after copies entered cells (own' ++ (first' ++ second')) given_first given_second
    (subst (λ v. Advances line here left copies given_first v new_first) cut.first_is
    (subst (λ v. Advances line here left copies given_first first v) (sym first_new) one))
    (subst (λ v. Advances line here right copies given_second v new_second) cut.second_is
    (subst (λ v. Advances line here right copies given_second second v) (sym second_new) two))
    ready.kept
    (λ k low. to_first k (omega (arith, wide k low)) ∙ own_given k low)
    (λ k low.
    to_second k (wide k low) ∙ ap (λ v. at v k || (gap && at given_own k)) cut.first_is
    ∙ ap (λ t. at (first_of sizes cells) k || (t && at given_own k)) gap_is
    ∙ ap (λ t. at (first_of sizes cells) k || (is_gap before line here && t)) (own_given k low))
    (λ k low.
    at_front own' (first' ++ second') k (omega (arith, wide k low)) ∙ result k (wide k low)
    ∙ ap (λ v. at v k || (gap_next && at first' k)) (sym second_new)
    ∙ ap (λ t. at new_second k || (t && at first' k)) (gap_next_is ∙ ap (is_gap after line) next_is)
    ∙ ap (λ v. at new_second k || (is_gap after line (suc here) && at v k)) (sym first_new))
  where
    nodes : AreReady line here left right sizes copies entered cells
    nodes = of_both line here left right sizes before after copies entered cells ready

    new_first : List ℕ
    new_first = first_of sizes (own' ++ (first' ++ second'))

    new_second : List ℕ
    new_second = second_of sizes (own' ++ (first' ++ second'))

    first_new : new_first ≡ first'
    first_new = joined_first sizes own' first' second' own_long first_long

    second_new : new_second ≡ second'
    second_new = joined_second sizes own' first' second' own_long first_long

    wide : (k : ℕ) → k < copies → k < 64 * sizes.own
    wide k low = omega (arith, words_hold copies, nodes.own)

    own_given : (k : ℕ) → k < copies → at given_own k ≡ at entered k
    own_given k low = ap (λ v. at v k) given_is ∙ at_take entered sizes.own k (wide k low)

pub either_stepped : (line : List ℕ) (here : ℕ) (left right : Shape) (sizes : Sizes) (copies : ℕ)
    (entered cells own first second given_own given_first given_second own' first' second' : List ℕ)
    → IsReady line here (either left right sizes) copies entered cells → IsCut sizes cells own first second
    → given_own ≡ take sizes.own entered → length given_own ≡ sizes.own
    → ((k : ℕ) → k < room given_own → at given_first k ≡ at given_own k) → ((k : ℕ) → k < room given_own → at given_second k ≡ at given_own k)
    → Advances line here left copies given_first first first' → Advances line here right copies given_second second second'
    → ((k : ℕ) → k < 64 * sizes.own → at own' k ≡ (at first' k || at second' k))
    → length own' ≡ sizes.own → length first' ≡ sizes.first
    → Advances line here (either left right sizes) copies entered cells (own' ++ (first' ++ second'))
either_stepped line here left right sizes copies entered cells own first second given_own given_first given_second own' first' second' ready cut given_is
    given_long to_first to_second one two result own_long first_long =
    either_advances line here left right sizes copies entered cells (own' ++ (first' ++ second')) given_first given_second
    (subst (λ v. Advances line here left copies given_first v new_first) cut.first_is
    (subst (λ v. Advances line here left copies given_first first v) (sym first_new) one))
    (subst (λ v. Advances line here right copies given_second v new_second) cut.second_is
    (subst (λ v. Advances line here right copies given_second second v) (sym second_new) two))
    (λ k low. to_first k (omega (arith, wide k low)) ∙ own_given k low)
    (λ k low. to_second k (omega (arith, wide k low)) ∙ own_given k low)
    (λ k low.
    at_front own' (first' ++ second') k (omega (arith, wide k low)) ∙ result k (wide k low)
    ∙ ap (λ v. at first' k || at v k) (sym second_new) ∙ ap (λ v. at v k || at new_second k) (sym first_new))
  where
    nodes : AreReady line here left right sizes copies entered cells
    nodes = of_either line here left right sizes copies entered cells ready

    new_first : List ℕ
    new_first = first_of sizes (own' ++ (first' ++ second'))

    new_second : List ℕ
    new_second = second_of sizes (own' ++ (first' ++ second'))

    first_new : new_first ≡ first'
    first_new = joined_first sizes own' first' second' own_long first_long

    second_new : new_second ≡ second'
    second_new = joined_second sizes own' first' second' own_long first_long

    wide : (k : ℕ) → k < copies → k < 64 * sizes.own
    wide k low = omega (arith, words_hold copies, nodes.own)

    own_given : (k : ℕ) → k < copies → at given_own k ≡ at entered k
    own_given k low = ap (λ v. at v k) given_is ∙ at_take entered sizes.own k (wide k low)

pub loop_ready : (line : List ℕ) (here : ℕ) (body : Shape) (own copies : ℕ) (entered cells given : List ℕ)
    → IsReady line here (loop body own) copies entered cells → length given ≡ length entered → IsReady line here body copies given cells
unfolding IsWhole IsKept size_of
loop_ready line here body own copies entered cells given ready long =
    record { whole = ready.whole.1; inside = ready.inside; entered_all = long ∙ ready.entered_all; cells_all = ready.cells_all; kept = ready.kept }

-- A loop's own cells are in front of its body's.
pub loop_fits : (line : List ℕ) (here : ℕ) (body : Shape) (own copies : ℕ) (entered cells : List ℕ) → IsReady line here (loop body own) copies entered cells
    → (own ≤ length entered) × (own ≤ length cells)
unfolding IsWhole size_of
loop_fits line here body own copies entered cells ready =
    let fits : own ≤ size_of body copies = omega (arith, own_fit body copies, ready.whole.0) in
    (omega (arith, ready.entered_all), omega (arith, ready.cells_all))

pub loop_stepped : (line : List ℕ) (here : ℕ) (body : Shape) (own copies : ℕ) (entered cells given next : List ℕ)
    → IsReady line here (loop body own) copies entered cells → ((k : ℕ) → k < 64 * own → at given k ≡ (at entered k || at cells k))
    → Advances line here body copies given cells next → Advances line here (loop body own) copies entered cells next
unfolding IsWhole IsKept
loop_stepped line here body own copies entered cells given next ready to_body one =
    loop_advances line here body own copies entered cells next given one ready.kept
    (λ k low. to_body k (omega (arith, words_hold copies, ready.whole.0)))

-- What a repeat's ready state says.
pub record IsTimesReady (line : List ℕ) (here : ℕ) (body : Shape) (counts : RepeatCounts) (copies : ℕ) (entered cells : List ℕ) : Type 0 where
  pub own : counts.own ≡ words_for copies
  pub stride : IsStride copies counts.stride
  pub all : counts.all ≡ counts.copies * counts.stride
  pub some : 0 < counts.copies
  pub ordered : counts.least ≤ counts.copies
  pub body_whole : IsWhole body (counts.copies * counts.stride)
  pub inside : here < length line
  pub entered_all : length entered ≡ words_for copies + size_of body (counts.copies * counts.stride)
  pub cells_all : length cells ≡ words_for copies + size_of body (counts.copies * counts.stride)
  pub body_kept : IsKept line here body (counts.copies * counts.stride) (drop counts.own cells)

pub of_times : (line : List ℕ) (here : ℕ) (body : Shape) (counts : RepeatCounts) (copies : ℕ) (entered cells : List ℕ)
    → IsReady line here (times body counts) copies entered cells → IsTimesReady line here body counts copies entered cells
unfolding IsWhole IsKept size_of
of_times line here body counts copies entered cells ready = record {
  own = ready.whole.0;
  stride = ready.whole.1;
  all = ready.whole.2;
  some = ready.whole.3;
  ordered = ready.whole.4;
  body_whole = ready.whole.5;
  inside = ready.inside;
  entered_all = ready.entered_all;
  cells_all = ready.cells_all;
  body_kept = ready.kept.1;
}

pub body_ready : (line : List ℕ) (here : ℕ) (body : Shape) (counts : RepeatCounts) (copies : ℕ) (entered cells read given : List ℕ)
    → IsTimesReady line here body counts copies entered cells → read ≡ drop counts.own cells → length given + counts.own ≡ length entered
    → IsReady line here body counts.all given read
body_ready line here body counts copies entered cells read given ready read_is long =
    subst (λ n. IsReady line here body n given read) (sym ready.all)
    (record {
      whole = ready.body_whole;
      inside = ready.inside;
      entered_all = omega (arith, ready.own, ready.entered_all);
      cells_all = ap length read_is ∙ length-drop counts.own cells ∙ omega (arith, ready.own, ready.cells_all);
      kept = subst (IsKept line here body (counts.copies * counts.stride)) (sym read_is) ready.body_kept;
    })

-- The cells of a stride are among a repeat's own, and those of all turns among its body's.
pub times_fits : (line : List ℕ) (here : ℕ) (body : Shape) (counts : RepeatCounts) (copies : ℕ) (entered cells : List ℕ)
    → IsTimesReady line here body counts copies entered cells
    → (counts.stride ≤ 64 * counts.own) × (counts.all ≤ 64 * (length entered - counts.own)) × (counts.all ≤ 64 * (length cells - counts.own)) × (0 < counts.stride)
times_fits line here body counts copies entered cells ready =
    let fit : words_for (counts.copies * counts.stride) ≤ size_of body (counts.copies * counts.stride) = own_fit body (counts.copies * counts.stride) in
    let hold : counts.copies * counts.stride ≤ 64 * words_for (counts.copies * counts.stride) = words_hold (counts.copies * counts.stride) in
    let entered_long = ready.entered_all in
    let cells_long = ready.cells_all in
    let all = ready.all in
    let own = ready.own in
    let some = ready.stride.some in
    let wide = ready.stride.fits in
    (stride_fits ready.stride.even, omega arith, omega arith, omega arith)
  where
    narrow : IsNarrow counts.stride → counts.stride ≤ 64
    narrow (narrows.one e) = omega arith
    narrow (narrows.two e) = omega arith
    narrow (narrows.four e) = omega arith
    narrow (narrows.eight e) = omega arith
    narrow (narrows.sixteen e) = omega arith
    narrow (narrows.half e) = omega arith

    stride_fits : IsNarrow counts.stride ⊎ (counts.stride ≡ 64 * words_for copies) → counts.stride ≤ 64 * counts.own
    stride_fits (inl small) =
        let low = narrow small in
        let some = ready.stride.some in
        let own = ready.own in
        omega arith
    stride_fits (inr e) = let own = ready.own in omega arith

pub times_stepped : (line : List ℕ) (here next : ℕ) (body : Shape) (counts : RepeatCounts) (copies : ℕ)
    (entered cells read given_own given own' read' : List ℕ) (lowest : ℕ) (gap : Bool)
    → IsReady line here (times body counts) copies entered cells → read ≡ drop counts.own cells
    → given_own ≡ take counts.own entered → gap ≡ is_gap counts.gaps line here
    → ((turn k : ℕ) → turn < counts.copies → k < counts.stride
    → IsTrue (at given (turn * counts.stride + k)) ↔ Enters counts gap given_own read turn k)
    → Advances line here body counts.all given read read'
    → next ≡ suc here → ((turn : ℕ) → (lowest ≤ turn) ↔ Suffices line counts (suc turn) next)
    → ((k : ℕ) → k < counts.stride → IsTrue (at own' k) ↔ AnyTurn counts lowest read' k)
    → length own' ≡ counts.own
    → Advances line here (times body counts) copies entered cells (own' ++ read')
times_stepped line here next body counts copies entered cells read given_own given own' read' lowest gap ready read_is given_is gap_is to_body one next_is enough
    result own_long =
    times_advances line here body counts copies entered cells (own' ++ read') given lowest
    (subst (λ v. Advances line here body (counts.copies * counts.stride) given v (drop counts.own (own' ++ read'))) read_is
    (subst (λ v. Advances line here body (counts.copies * counts.stride) given read v) (sym read_new)
    (subst (λ n. Advances line here body n given read read') nodes.all one)))
    ready.kept nodes.stride.fits nodes.some nodes.ordered
    (λ turn k inside low. (
      λ is. from_given turn k low ((to_body turn k inside (wide k low)).0 is),
      λ e. (to_body turn k inside (wide k low)).1 (to_given turn k low e),
    ))
    (λ turn. subst (λ n. (lowest ≤ turn) ↔ Suffices line counts (suc turn) n) next_is (enough turn))
    (λ k low. (
      λ is.
          subst (λ v. AnyTurn counts lowest v k) (sym read_new)
          ((result k (wide k low)).0 (sym (at_front own' read' k (omega (arith, in_own k low))) ∙ is)),
      λ any.
          at_front own' read' k (omega (arith, in_own k low))
          ∙ (result k (wide k low)).1 (subst (λ v. AnyTurn counts lowest v k) read_new any),
    ))
  where
    nodes : IsTimesReady line here body counts copies entered cells
    nodes = of_times line here body counts copies entered cells ready

    read_new : drop counts.own (own' ++ read') ≡ read'
    read_new = drop_at own' read' counts.own own_long

    wide : (k : ℕ) → k < copies → k < counts.stride
    wide k low = let fits = nodes.stride.fits in omega arith

    in_own : (k : ℕ) → k < copies → k < 64 * counts.own
    in_own k low = omega (arith, words_hold copies, nodes.own)

    own_given : (k : ℕ) → k < copies → at given_own k ≡ at entered k
    own_given k low = ap (λ v. at v k) given_is ∙ at_take entered counts.own k (in_own k low)

    from_given : (turn k : ℕ) → k < copies → Enters counts gap given_own read turn k
        → Enters counts (is_gap counts.gaps line here) entered (drop counts.own cells) turn k
    from_given turn k low (enters.first e is) = enters.first e (sym (own_given k low) ∙ is)
    from_given turn k low (enters.empties g is) = enters.empties (sym gap_is ∙ g) (sym (own_given k low) ∙ is)
    from_given turn k low (enters.next before e is) = enters.next before e (subst (λ v. IsTrue (at v (before * counts.stride + k))) read_is is)
    from_given turn k low (enters.again free e is) = enters.again free e (subst (λ v. IsTrue (at v (turn * counts.stride + k))) read_is is)

    to_given : (turn k : ℕ) → k < copies → Enters counts (is_gap counts.gaps line here) entered (drop counts.own cells) turn k
        → Enters counts gap given_own read turn k
    to_given turn k low (enters.first e is) = enters.first e (own_given k low ∙ is)
    to_given turn k low (enters.empties g is) = enters.empties (gap_is ∙ g) (own_given k low ∙ is)
    to_given turn k low (enters.next before e is) = enters.next before e (subst (λ v. IsTrue (at v (before * counts.stride + k))) (sym read_is) is)
    to_given turn k low (enters.again free e is) = enters.again free e (subst (λ v. IsTrue (at v (turn * counts.stride + k))) (sym read_is) is)

pub set_long : (line : List ℕ) (here : ℕ) (members : List Bool) (copies : ℕ) (entered cells : List ℕ) → IsReady line here (set members) copies entered cells
    → length entered ≡ words_for copies
unfolding size_of
set_long line here members copies entered cells ready = ready.entered_all

pub set_cells_long : (line : List ℕ) (here : ℕ) (members : List Bool) (copies : ℕ) (entered cells : List ℕ)
    → IsReady line here (set members) copies entered cells → length cells ≡ words_for copies
unfolding size_of
set_cells_long line here members copies entered cells ready = ready.cells_all

pub run_long : (line : List ℕ) (here : ℕ) (masks : List ℕ) (places : RunLayout) (copies : ℕ) (entered cells : List ℕ)
    → IsReady line here (run masks places) copies entered cells
    → (here < length line) × IsRun masks places copies × (length entered ≡ words_for copies) × (length cells ≡ words_for copies)
unfolding size_of IsWhole
run_long line here masks places copies entered cells ready = (ready.inside, ready.whole, ready.entered_all, ready.cells_all)

pub even_in : (copies stride own : ℕ) (cells : List ℕ) → own ≡ words_for copies → length cells ≡ own → IsStride copies stride
    → IsNarrow stride ⊎ (stride ≡ room cells)
even_in copies stride own cells own_is long is = go is.even
  where
    go : IsNarrow stride ⊎ (stride ≡ 64 * words_for copies) → IsNarrow stride ⊎ (stride ≡ room cells)
    go (inl small) = inl small
    go (inr e) = let same : stride ≡ room cells = omega arith in inr same
