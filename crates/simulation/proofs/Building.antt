-- Nodes that are built from others.
use Rattle.std.proofs.Common.{◌≡◌, ℕ, zero, suc, ◌+◌, ◌-◌, ◌*◌, ◌<◌, ◌≤◌, Bool, true, false, ◌==◌, if◌then◌else◌, IsTrue, List, length, get_or}
use Rattle.std.proofs.Common.{Option, Some, None, IfSome, ◌⊎◌, inl, inr, refl, sym, subst, ap, ◌∙◌, arith}
use Rattle.std.proofs.lemmas.Bool.Decides.{nat_tests}
use Rattle.std.proofs.Common.{◌&&◌, ◌||◌, nat_lt}
use Rattle.std.proofs.lemmas.List.FromFn.{get_or-map-range_with_len}
use Rattle.ere.specs.ByteSet.{has, is_line_byte, set_of, union}
use Rattle.ere.specs.Tree.{Tree, alt, repeat, Trees, none, more}
use Rattle.spans.specs.Spans.{Relation, Spans, SpansSome}
use Rattle.simulation.specs.declared.node.Gaps.{Gaps}
use Rattle.simulation.specs.declared.node.RepeatCounts.{RepeatCounts}
use Rattle.simulation.specs.declared.node.Sizes.{Sizes}
use Rattle.simulation.specs.Nodes.{Shape, nothing, either, loop, times, is_gap, Chain, Reads, Fits, Suffices}
use Rattle.simulation.specs.Nodes.{set as one_of}
use Rattle.simulation.specs.Packing.{IsPacked, StandsFor, nowhere, everywhere, gaps_of_either, gaps_of_times}
use Rattle.simulation.proofs.Tests.{or_cases, or_left, or_right}
use Rattle.simulation.proofs.Forward.{reads_forward}
use Rattle.spans.proofs.Bits.{false≢true}
use Rattle.simulation.proofs.Packing.{everywhere_packed, nowhere_packed}
use Rattle.std.proofs.Common.{◌^◌, ◌∷◌, drop, is_none, is_some, map, not, rules, Err, IfNone, IfOk, Ok, Result, SomeIff}
use Rattle.std.proofs.lemmas.List.{at_drop_more, at_drop_all}
use Rattle.ere.specs.declared.tree.Ere.{Ere}
use Rattle.ere.specs.Tree.{form, trees_of}
use Rattle.simulation.specs.Pending.{IsStride, IsWhole, size_of, words_for}
use Rattle.simulation.specs.declared.sequence.Packed.{Packed}
use Rattle.simulation.specs.Nodes.{shape}
use Rattle.simulation.specs.Packing.{IsNodeFor, IsSomeNode, IsTreeNode, IsTurns}
use Rattle.simulation.proofs.Packing.{some_none_packed}
use Rattle.simulation.proofs.Packing.{Or, either_packed}
use Rattle.simulation.proofs.Unrolling.{turns_none}
use Rattle.simulation.proofs.Repeats.{IsEnough, AtMost, repeat_packed, reads_inside}

pub as_part : (words : List ℕ → Relation) (node built : Shape) (gaps given : Gaps) (copies size total : ℕ) → built ≡ node → given ≡ gaps → total ≡ size
    → IsNodeFor words node gaps copies size → IsNodeFor words built given copies total
as_part words node built gaps given copies size total part_is gaps_is size_is h =
    subst (λ p. IsNodeFor words p given copies total) (sym part_is)
    (subst (λ g. IsNodeFor words node g copies total) (sym gaps_is) (subst (λ n. IsNodeFor words node gaps copies n) (sym size_is) h))

pub nothing_part : (words : List ℕ → Relation) (gaps : Gaps) (copies : ℕ) → IsPacked words nothing gaps → IsNodeFor words nothing gaps copies (words_for copies)
unfolding IsWhole size_of
nothing_part words gaps copies h = record { packed = h; whole = tt; sized = refl }

pub set_part : (words : List ℕ → Relation) (members : List Bool) (gaps : Gaps) (copies : ℕ) → IsPacked words (one_of members) gaps
    → IsNodeFor words (one_of members) gaps copies (words_for copies)
unfolding IsWhole size_of
set_part words members gaps copies h = record { packed = h; whole = tt; sized = refl }

gap_of_inside : (gaps : Gaps) (line : List ℕ) (at : ℕ) → 0 < length line → IsTrue gaps.inside → IsTrue gaps.start → IsTrue gaps.end → IsTrue (is_gap gaps line at)
gap_of_inside gaps line at some inside start end = go (at == 0) (length line == 0) (at == length line) refl
  where
    go : (zero_at zero_long end_at : Bool) → (length line == 0) ≡ zero_long
        → IsTrue (if zero_at then (if zero_long then gaps.alone else gaps.start) else (if end_at then gaps.end else gaps.inside))
    go true true end_at e = let no_byte : length line ≡ 0 = grind (arith, nat_tests) in absurd (omega arith)
    go true false end_at e = start
    go false zero_long true e = end
    go false zero_long false e = inside

pub once_part : (body : Tree) (node : Shape) (gaps : Gaps) (least copies size : ℕ) → least ≤ 1 → IsNodeFor (λ line. Spans line body) node gaps copies size
    → IsNodeFor (λ line. Spans line (repeat body least (Some 1))) node (gaps_of_times least gaps) copies size
unfolding Chain
once_part body node gaps least copies size low one = record {
  packed = repeat_packed body node node gaps least (Some 1) low one.packed
      (λ line from to r. (0, (to, r, refl), (let small : 1 ≤ 1 = omega arith in small), inl (let few : least ≤ 1 = low in few)))
      (λ line from to words chain fits enough. single line from to words chain fits);
  whole = one.whole;
  sized = one.sized;
}
  where
    single : (line : List ℕ) (from to words : ℕ) → Chain (Reads line node) (suc words) from to → AtMost (Some 1) (suc words) → Reads line node from to
    single line from to zero h fits = subst (λ n. Reads line node from n) h.2 h.1
    single line from to (suc words) h fits = absurd (omega arith)

pub loop_part : (body : Tree) (node : Shape) (gaps : Gaps) (least copies size own : ℕ) → least ≤ 1 → own ≡ words_for copies
    → IsNodeFor (λ line. Spans line body) node gaps copies size
    → IsNodeFor (λ line. Spans line (repeat body least None)) (loop node own) (gaps_of_times least gaps) copies size
unfolding Reads IsWhole size_of
loop_part body node gaps least copies size own low own_is one = record {
  packed = repeat_packed body node (loop node own) gaps least None tt one.packed
      (λ line from to r. (r.0, r.1, tt, inl (let few : least ≤ suc r.0 = omega arith in few)))
      (λ line from to words chain fits enough. (words, chain));
  whole = (own_is, one.whole);
  sized = one.sized;
}

pub times_part : (body : Tree) (node : Shape) (gaps : Gaps) (least : ℕ) (greatest : Option ℕ) (turns copies stride all size own total : ℕ) (counts : RepeatCounts)
    → IsStride copies stride → all ≡ turns * stride → 1 < turns → IsTurns least greatest turns → own ≡ words_for copies → total ≡ own + size
    → counts.least ≡ (if gaps.inside then 0 else least) → counts.copies ≡ turns → counts.unbounded ≡ is_none greatest
    → counts.gaps ≡ (if gaps.inside then nowhere else gaps) → counts.own ≡ own → counts.stride ≡ stride → counts.all ≡ all
    → IsNodeFor (λ line. Spans line body) node gaps all size
    → IsNodeFor (λ line. Spans line (repeat body least greatest)) (times node counts) (gaps_of_times least gaps) copies total
unfolding Reads IsWhole size_of
times_part body node gaps least greatest turns copies stride all size own total counts strides all_is some turned own_is total_is least_is copies_is free_is gaps_is
    counts_own counts_stride counts_all one = record {
      packed = repeat_packed body node (times node counts) gaps least greatest (ordered greatest refl) one.packed of_whole to_whole;
      whole = (
        counts_own ∙ own_is,
        subst (IsStride copies) (sym counts_stride) strides,
        counts_all ∙ all_is ∙ sym turning,
        (let turning_once : 0 < counts.copies = omega arith in turning_once),
        least_low gaps.inside refl,
        subst (IsWhole node) (sym body_copies) one.whole,
      );
      sized = ap (λ n. words_for copies + n) (ap (size_of node) body_copies ∙ one.sized) ∙ ap (λ n. n + size) (sym own_is) ∙ sym total_is;
    }
  where
    turning : counts.copies * counts.stride ≡ turns * stride
    turning = ap (λ n. n * counts.stride) copies_is ∙ ap (λ n. turns * n) counts_stride

    body_copies : counts.copies * counts.stride ≡ all
    body_copies = turning ∙ sym all_is

    least_within : (g : Option ℕ) → IfSome g (λ most. (most ≡ turns) × (least ≤ turns)) → IfNone g (turns ≡ least) → least ≤ turns
    least_within None a b = omega arith
    least_within (Some most) a b = a.1

    low_least : least ≤ turns
    low_least = least_within greatest turned.bounded turned.unbounded

    least_low : (t : Bool) → gaps.inside ≡ t → counts.least ≤ counts.copies
    least_low true e = let no_least : counts.least ≡ 0 = least_is ∙ ap (λ b. if b then 0 else least) e in omega arith
    least_low false e = let same : counts.least ≡ least = least_is ∙ ap (λ b. if b then 0 else least) e in omega (arith, low_least)

    ordered : (g : Option ℕ) → greatest ≡ g → AtMost greatest least
    ordered None e = subst (λ g. AtMost g least) (sym e) tt
    ordered (Some most) e =
        let bound : (most ≡ turns) × (least ≤ turns) = subst (λ g. IfSome g (λ m. (m ≡ turns) × (least ≤ turns))) e turned.bounded in
        let low : least ≤ most = let same = bound.0 in let up = bound.1 in omega arith in
        subst (λ g. AtMost g least) (sym e) low

    at_most : (g : Option ℕ) (words : ℕ) → greatest ≡ g → Fits counts words → AtMost greatest words
    at_most None words e fits = subst (λ g. AtMost g words) (sym e) tt
    at_most (Some most) words e (inl free) = absurd (false≢true (sym (free_is ∙ ap is_none e) ∙ free))
    at_most (Some most) words e (inr within) =
        let bound : (most ≡ turns) × (least ≤ turns) = subst (λ g. IfSome g (λ m. (m ≡ turns) × (least ≤ turns))) e turned.bounded in
        let low : words ≤ most = let same = bound.0 in omega arith in
        subst (λ g. AtMost g words) (sym e) low

    fits_of : (g : Option ℕ) (words : ℕ) → greatest ≡ g → AtMost greatest words → Fits counts words
    fits_of None words e h = inl (free_is ∙ ap is_none e)
    fits_of (Some most) words e h =
        let bound : (most ≡ turns) × (least ≤ turns) = subst (λ g. IfSome g (λ m. (m ≡ turns) × (least ≤ turns))) e turned.bounded in
        let few : words ≤ most = subst (λ g. AtMost g words) e h in
        let low : words ≤ counts.copies = let same = bound.0 in omega arith in
        inr low

    enough : (t : Bool) → gaps.inside ≡ t → (line : List ℕ) (from to words : ℕ) → 0 < length line
        → IsTrue (is_gap counts.gaps line from) ⊎ Suffices line counts words to → IsEnough line least gaps words from to
    enough true e line from to words some h =
        inr (inl (gap_of_inside gaps line from some e (one.packed.steady e).0 (one.packed.steady e).1))
    enough false e line from to words some (inl g) =
        inr (inl (subst (λ v. IsTrue (is_gap v line from)) (gaps_is ∙ ap (λ b. if b then nowhere else gaps) e) g))
    enough false e line from to words some (inr (inl low)) =
        let same : counts.least ≡ least = least_is ∙ ap (λ b. if b then 0 else least) e in
        let few : least ≤ words = omega arith in
        inl few
    enough false e line from to words some (inr (inr g)) =
        inr (inr (subst (λ v. IsTrue (is_gap v line to)) (gaps_is ∙ ap (λ b. if b then nowhere else gaps) e) g))

    suffices : (t : Bool) → gaps.inside ≡ t → (line : List ℕ) (from to words : ℕ) → IsTrue gaps.inside ⊎ IsEnough line least gaps words from to
        → IsTrue (is_gap counts.gaps line from) ⊎ Suffices line counts words to
    suffices true e line from to words h =
        let no_least : counts.least ≡ 0 = least_is ∙ ap (λ b. if b then 0 else least) e in
        let few : counts.least ≤ words = omega arith in
        inr (inl few)
    suffices false e line from to words (inl i) = absurd (false≢true (sym e ∙ i))
    suffices false e line from to words (inr (inl low)) =
        let same : counts.least ≡ least = least_is ∙ ap (λ b. if b then 0 else least) e in
        let few : counts.least ≤ words = omega arith in
        inr (inl few)
    suffices false e line from to words (inr (inr (inl g))) =
        inl (subst (λ v. IsTrue (is_gap v line from)) (sym (gaps_is ∙ ap (λ b. if b then nowhere else gaps) e)) g)
    suffices false e line from to words (inr (inr (inr g))) =
        inr (inr (subst (λ v. IsTrue (is_gap v line to)) (sym (gaps_is ∙ ap (λ b. if b then nowhere else gaps) e)) g))

    of_whole : (line : List ℕ) (from to : ℕ) → Reads line (times node counts) from to
        → (words : ℕ) × Chain (Reads line node) (suc words) from to × AtMost greatest (suc words) × IsEnough line least gaps (suc words) from to
    of_whole line from to (extra, chain, fits, h) =
        let past = reads_forward line (times node counts) from to (extra, chain, fits, h) in
        let inside = reads_inside line (times node counts) from to (extra, chain, fits, h) in
        (extra, chain, at_most greatest (suc extra) refl fits, enough gaps.inside refl line from to (suc extra) (omega arith) h)

    to_whole : (line : List ℕ) (from to words : ℕ) → Chain (Reads line node) (suc words) from to → AtMost greatest (suc words)
        → IsTrue gaps.inside ⊎ IsEnough line least gaps (suc words) from to → Reads line (times node counts) from to
    to_whole line from to words chain fits h =
        (words, chain, fits_of greatest (suc words) refl fits, suffices gaps.inside refl line from to (suc words) h)

pub either_part : (tree : Tree) (trees : Trees) (left right : Shape) (before after : Gaps) (sizes : Sizes) (copies first second total : ℕ)
    → sizes.own ≡ words_for copies → sizes.first ≡ first → total ≡ sizes.own + (first + second)
    → IsNodeFor (λ line. Spans line tree) left before copies first → IsNodeFor (λ line. SpansSome line trees) right after copies second
    → IsNodeFor (λ line. SpansSome line (more tree trees)) (either left right sizes) (gaps_of_either before after) copies total
unfolding SpansSome Reads IsWhole size_of
either_part tree trees left right before after sizes copies first second total own_is first_is total_is one two = record {
  packed = base;
  whole = (own_is, first_is ∙ sym one.sized, one.whole, two.whole);
  sized =
      ap (λ n. words_for copies + (n + size_of right copies)) one.sized ∙ ap (λ n. words_for copies + (first + n)) two.sized
      ∙ ap (λ n. n + (first + second)) (sym own_is) ∙ sym total_is;
}
  where
    base : IsPacked (Or (λ line. Spans line tree) (λ line. SpansSome line trees)) (either left right sizes) (gaps_of_either before after)
    base =
        either_packed (λ line. Spans line tree) (λ line. SpansSome line trees) left right (either left right sizes) before after (λ line from to r. r)
        (λ line from to r. r) one.packed two.packed

line_again : (line_byte a b : Bool) → (line_byte && (line_byte && ((line_byte && a) || (line_byte && b)))) ≡ ((line_byte && a) || (line_byte && b))
line_again true a b = refl
line_again false a b = refl

has_union : (one two : List Bool) (byte : ℕ) → has (union one two) byte ≡ (has one byte || has two byte)
unfolding set_of
has_union one two byte = go (nat_lt byte 256) refl
  where
    go : (t : Bool) → nat_lt byte 256 ≡ t → has (union one two) byte ≡ (has one byte || has two byte)
    go true e =
        let small : byte < 256 = grind (arith, nat_tests) in
        ap (λ t. is_line_byte byte && t)
        (get_or-map-range_with_len (λ b. is_line_byte b && (has one b || has two b)) 0 256 byte byte false small (omega arith))
        ∙ line_again (is_line_byte byte) (get_or one byte false) (get_or two byte false)
    go false e =
        ap (λ t. (t && (not (byte == 0) && not (byte == 10))) && get_or (union one two) byte false) e
        ∙ sym (ap (λ t. ((t && (not (byte == 0) && not (byte == 10))) && get_or one byte false) || ((t && (not (byte == 0) && not (byte == 10))) && get_or two byte false)) e)

-- A byte of either set.
pub union_part : (tree : Tree) (trees : Trees) (left right : Shape) (one two : List Bool) (before after : Gaps) (copies first second : ℕ)
    → left ≡ one_of one → right ≡ one_of two → IsNodeFor (λ line. Spans line tree) left before copies first
    → IsNodeFor (λ line. SpansSome line trees) right after copies second
    → IsNodeFor (λ line. SpansSome line (more tree trees)) (one_of (union one two)) (gaps_of_either before after) copies first
unfolding SpansSome Reads IsWhole size_of
union_part tree trees left right one two before after copies first second left_is right_is head rest =
    record { packed = base; whole = tt; sized = subst (λ p. size_of p copies ≡ first) left_is head.sized }
  where
    of_union : (line : List ℕ) (from to : ℕ) → Reads line (one_of (union one two)) from to → Reads line (one_of one) from to ⊎ Reads line (one_of two) from to
    of_union line from to (next, inside, is) =
        elim (or_cases (has one (get_or line from 0)) (has two (get_or line from 0)) (sym (has_union one two (get_or line from 0)) ∙ is)) [
          | inl a ↦ inl (next, inside, a)
          | inr b ↦ inr (next, inside, b)
        ]

    to_union : (line : List ℕ) (from to : ℕ) → Reads line (one_of one) from to ⊎ Reads line (one_of two) from to → Reads line (one_of (union one two)) from to
    to_union line from to (inl (next, inside, a)) =
        (next, inside, has_union one two (get_or line from 0) ∙ or_left (has one (get_or line from 0)) (has two (get_or line from 0)) a)
    to_union line from to (inr (next, inside, b)) =
        (next, inside, has_union one two (get_or line from 0) ∙ or_right (has one (get_or line from 0)) (has two (get_or line from 0)) b)

    base : IsPacked (Or (λ line. Spans line tree) (λ line. SpansSome line trees)) (one_of (union one two)) (gaps_of_either before after)
    base =
        either_packed (λ line. Spans line tree) (λ line. SpansSome line trees) (one_of one) (one_of two) (one_of (union one two)) before after of_union to_union
        (subst (λ p. IsPacked (λ line. Spans line tree) p before) left_is head.packed)
        (subst (λ p. IsPacked (λ line. SpansSome line trees) p after) right_is rest.packed)

-- A word of either node, where the second has none but the empty word.
pub only_part : (tree : Tree) (trees : Trees) (left right : Shape) (before after : Gaps) (copies first second : ℕ) → right ≡ nothing
    → IsNodeFor (λ line. Spans line tree) left before copies first → IsNodeFor (λ line. SpansSome line trees) right after copies second
    → IsNodeFor (λ line. SpansSome line (more tree trees)) left (gaps_of_either before after) copies first
unfolding SpansSome Reads
only_part tree trees left right before after copies first second is_nothing one two = record { packed = base; whole = one.whole; sized = one.sized }
  where
    rest : IsPacked (λ line. SpansSome line trees) nothing after
    rest = subst (λ p. IsPacked (λ line. SpansSome line trees) p after) is_nothing two.packed

    to_whole : (line : List ℕ) (from to : ℕ) → Reads line left from to ⊎ Reads line nothing from to → Reads line left from to
    to_whole line from to (inl h) = h
    to_whole line from to (inr h) = absurd h

    base : IsPacked (Or (λ line. Spans line tree) (λ line. SpansSome line trees)) left (gaps_of_either before after)
    base = either_packed (λ line. Spans line tree) (λ line. SpansSome line trees) left nothing left before after (λ line from to r. inl r) to_whole one.packed rest

-- No number of words is in the range.
pub impossible_packed : (body : Tree) (least most : ℕ) → most < least → StandsFor (repeat body least (Some most)) nothing nowhere
unfolding Spans
impossible_packed body least most short =
    nowhere_packed (λ line. Spans line (repeat body least (Some most)))
    (λ line from to h. (let low : least ≤ h.0 = h.1 in let high : h.0 ≤ most = h.2 in absurd (omega arith)))

-- No word at all is the empty word.
pub zero_packed : (body : Tree) (least : ℕ) → least ≤ 0 → StandsFor (repeat body least (Some 0)) nothing everywhere
zero_packed body least low = everywhere_packed (λ line. Spans line (repeat body least (Some 0))) (turns_none body least low)

-- A checked sum that is there is the sum.
pub sum_is : (answer : Option ℕ) (sum one two : ℕ) → answer ≡ Some sum → SomeIff answer (one + two < 2 ^ 64) (one + two) → sum ≡ one + two
sum_is answer sum one two is h = search (rules, is, h)

-- The trees of the members from one on are that member's and those after it.
pub forms_back : (members : List Ere) (i : ℕ) (x : Ere) → 0 < i → i ≤ length members → x ≡ get_or members (i - 1) x
    → trees_of (map form (drop (i - 1) members)) ≡ more (form x) (trees_of (map form (drop i members)))
forms_back members i x above within read =
    let same : i - 1 + 1 ≡ i = omega arith in
    at_drop_more (λ rest. trees_of (map form rest)) members (i - 1) x (omega arith)
    ∙ ap (λ k. trees_of (map form (get_or members (i - 1) x ∷ drop k members))) same
    ∙ ap (λ y. more (form y) (trees_of (map form (drop i members)))) (sym read)

pub forms_end : (members : List Ere) (i : ℕ) → length members ≤ i → trees_of (map form (drop i members)) ≡ none
forms_end members i past = at_drop_all (λ rest. trees_of (map form rest)) members i past

pub none_is : {X : Type 0} (o : Option X) (r : Bool) → is_some o ≡ not r → r ≡ is_none o
none_is None true h = refl
none_is None false h = absurd (false≢true h)
none_is (Some x) true h = absurd (false≢true (sym h))
none_is (Some x) false h = refl

pub alt_part : (trees : Trees) (built : Packed) (copies : ℕ) → IsSomeNode trees built copies → IsTreeNode (alt trees) built copies
unfolding Spans
alt_part trees built copies h = h

pub some_start : (members : List Ere) (i : ℕ) (built : Packed) (copies : ℕ) → length members ≤ i → shape built.node ≡ nothing → built.gaps ≡ nowhere
    → built.size ≡ words_for copies → IsSomeNode (trees_of (map form (drop i members))) built copies
some_start members i built copies past part_is gaps_is size_is =
    subst (λ trees. IsSomeNode trees built copies) (sym (forms_end members i past))
    (as_part _ nothing _ _ _ copies _ _ part_is gaps_is size_is (nothing_part (λ line. SpansSome line none) nowhere copies some_none_packed))

pub some_more : (members : List Ere) (i : ℕ) (member : Ere) (one rest joined : Packed) (copies : ℕ) → 0 < i → i ≤ length members
    → member ≡ get_or members (i - 1) member → IsTreeNode (form member) one copies → IsSomeNode (trees_of (map form (drop i members))) rest copies
    → ((tree : Tree) (trees : Trees) → IsTreeNode tree one copies → IsSomeNode trees rest copies → IsSomeNode (more tree trees) joined copies)
    → IsSomeNode (trees_of (map form (drop (i - 1) members))) joined copies
some_more members i member one rest joined copies above within read first others join =
    subst (λ trees. IsSomeNode trees joined copies) (sym (forms_back members i member above within read))
    (join (form member) (trees_of (map form (drop i members))) first others)

pub alt_result : {E : Type 0} (trees : Trees) (copies : ℕ) (r : Result Packed E) → IfOk r (λ built. IsSomeNode trees built copies)
    → IfOk r (λ built. IsTreeNode (alt trees) built copies)
alt_result trees copies (Ok built) h = alt_part trees built copies h
alt_result trees copies (Err e) h = tt

-- What holds of what is found.
pub found : {X : Type 0} (x : X) (o : Option X) → o ≡ Some x → (P : X → Type 0) → IfSome o P → P x
found x o is P h = subst (λ o. IfSome o P) is h
