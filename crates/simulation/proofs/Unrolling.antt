-- Trees one after the other, and a repeat as its words in a row, of which some can be left out.
use Rattle.std.proofs.Common.{◌≡◌, ℕ, zero, suc, ◌+◌, ◌<◌, ◌≤◌, Bool, true, false, List, [], ◌∷◌, ◌++◌, length, get_or, map, take, Some, min, inl, inr, refl, sym, subst, arith, if◌then◌else◌, nat_lt}
use Rattle.std.proofs.lemmas.Bool.Decides.{nat_tests}
use Rattle.std.proofs.lemmas.List.{map_more}
use Rattle.ere.specs.declared.tree.Ere.{Ere}
use Rattle.ere.specs.Tree.{form, trees_of, Tree, Trees, cat, repeat}
use Rattle.spans.specs.Spans.{Spans, SpansEach, Steps}
use Rattle.simulation.specs.declared.sequence.Sequence.{Sequence}
use Rattle.simulation.specs.Private.Sequences.{AreSame, GoesOn, Then}
use Rattle.simulation.proofs.Forward.{le_or_lt}
use Rattle.simulation.proofs.Repeats.{steps_join}

pub each_none : AreSame (λ line. SpansEach line (trees_of [])) (λ line from to. from ≡ to)
unfolding SpansEach
each_none line from to = (λ h. h, λ h. h)

each_push : (trees : List Tree) (tree : Tree) → AreSame (Then (λ line. SpansEach line (trees_of trees)) (λ line. Spans line tree)) (λ line. SpansEach line (trees_of (trees ++ (tree ∷ []))))
unfolding SpansEach
each_push [] tree line from to = (
  λ h. (to, subst (λ n. Spans line tree n to) (sym h.1) h.2, refl),
  λ h. (from, refl, subst (λ n. Spans line tree from n) h.2 h.1),
)
each_push (other ∷ trees) tree line from to = (
  λ h. (h.1.0, h.1.1, (each_push trees tree line h.1.0 to).0 (h.0, h.1.2, h.2)),
  λ h. (let g = (each_push trees tree line h.0 to).1 h.2 in (g.0, (h.0, h.1, g.1), g.2)),
)

-- One more member.
pub each_more : (members : List Ere) (i : ℕ) (member : Ere) → i < length members → member ≡ get_or members i member → AreSame
    (Then (λ line. SpansEach line (trees_of (map form (take i members)))) (λ line. Spans line (form member)))
    (λ line. SpansEach line (trees_of (map form (take (i + 1) members))))
each_more members i member inside is =
    subst (λ m. AreSame (Then (λ line. SpansEach line (trees_of (map form (take i members)))) (λ line. Spans line (form m))) (λ line. SpansEach line (trees_of (map form (take (i + 1) members)))))
    (sym is)
    (subst
    (λ trees. AreSame (Then (λ line. SpansEach line (trees_of (map form (take i members)))) (λ line. Spans line (form (get_or members i member)))) (λ line. SpansEach line (trees_of trees)))
    (sym (map_more form members i member inside)) (each_push (map form (take i members)) (form (get_or members i member))))

pub cat_goes : (trees : Trees) (sequence longer : Sequence) (copies : ℕ) → GoesOn (λ line. SpansEach line trees) sequence longer copies
    → GoesOn (λ line. Spans line (cat trees)) sequence longer copies
unfolding Spans
cat_goes trees sequence longer copies h = h

-- No turn.
pub turns_none : (tree : Tree) (least : ℕ) → least ≤ 0 → AreSame (λ line. Spans line (repeat tree least (Some 0))) (λ line from to. from ≡ to)
unfolding Spans Steps
turns_none tree least low line from to = (λ h. none h.0 h.2 h.3, λ e. (0, low, (let few : 0 ≤ 0 = omega arith in few), e))
  where
    none : (count : ℕ) → count ≤ 0 → Steps (Spans line tree) count from to → from ≡ to
    none zero few e = e
    none (suc count) few steps = absurd (omega arith)

-- One more turn, which is needed or not.
pub turns_more : (tree : Tree) (few turn one next all : ℕ) → few ≤ turn → one ≤ 1 → next ≡ few + one → all ≡ turn + 1 → AreSame
    (Then (λ line. Spans line (repeat tree few (Some turn))) (λ line. Spans line (repeat tree one (Some 1))))
    (λ line. Spans line (repeat tree next (Some all)))
unfolding Spans Steps
turns_more tree few turn one next all within small sum last_is line from to = (there, λ h. back h.0 h.1 h.2 h.3)
  where
    there : Then (λ line. Spans line (repeat tree few (Some turn))) (λ line. Spans line (repeat tree one (Some 1))) line from to
        → Spans line (repeat tree next (Some all)) from to
    there (middle, (count, low, high, steps), (more, enough, fits, last)) =
        let reached : next ≤ count + more = omega arith in
        let bound : count + more ≤ all = omega arith in
        (count + more, reached, bound, steps_join (Spans line tree) count more from middle to steps last)

    before : (count : ℕ) → few ≤ count → count ≤ turn → one ≤ 0 → Steps (Spans line tree) count from to
        → Then (λ line. Spans line (repeat tree few (Some turn))) (λ line. Spans line (repeat tree one (Some 1))) line from to
    before count reached under none steps = let less : 0 ≤ 1 = omega arith in (to, (count, reached, under, steps), (0, none, less, refl))

    back : (count : ℕ) → next ≤ count → count ≤ all → Steps (Spans line tree) count from to
        → Then (λ line. Spans line (repeat tree few (Some turn))) (λ line. Spans line (repeat tree one (Some 1))) line from to
    back zero low high steps = before zero (omega arith) (omega arith) (omega arith) steps
    back (suc count) low high (middle, steps, last) =
        elim (le_or_lt few count) [
          | inl reached ↦
              (let under : count ≤ turn = omega arith in
              let once : 1 ≤ 1 = omega arith in
              (middle, (count, reached, under, steps), (1, small, once, (middle, refl, last))))
          | inr short ↦ before (suc count) (omega arith) (omega arith) (omega arith) (middle, steps, last)
        ]

pub needed_more : (least turn : ℕ) → min least (turn + 1) ≡ min least turn + (if nat_lt turn least then 1 else 0)
needed_more least turn = go (nat_lt turn least) refl
  where
    go : (t : Bool) → nat_lt turn least ≡ t → min least (turn + 1) ≡ min least turn + (if t then 1 else 0)
    go true e = let under : turn < least = grind (arith, nat_tests) in omega arith
    go false e = let past : least ≤ turn = grind (arith, nat_tests) in omega arith

pub needed_small : (needed : Bool) → (if needed then 1 else 0) ≤ 1
needed_small true = omega arith
needed_small false = omega arith

-- A word is one turn.
pub one_turn : (tree : Tree) → AreSame (λ line. Spans line tree) (λ line. Spans line (repeat tree 1 (Some 1)))
unfolding Spans Steps
one_turn tree line from to = (λ w. (let once : 1 ≤ 1 = omega arith in (1, once, once, (from, refl, w))), λ h. back h.0 h.1 h.2 h.3)
  where
    back : (count : ℕ) → 1 ≤ count → count ≤ 1 → Steps (Spans line tree) count from to → Spans line tree from to
    back zero low high steps = absurd (omega arith)
    back (suc zero) low high (middle, e, w) = subst (λ n. Spans line tree n to) (sym e) w
    back (suc (suc count)) low high steps = absurd (omega arith)
