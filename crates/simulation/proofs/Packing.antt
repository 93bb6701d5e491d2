-- Nodes that stand for trees.
use Rattle.std.proofs.Common.{◌≡◌, ℕ, Bool, true, false, ◌&&◌, ◌||◌, ◌==◌, if◌then◌else◌, IsTrue, List, length}
use Rattle.std.proofs.Common.{◌⊎◌, ◌↔◌, inl, inr, refl, sym, subst, ◌∙◌, arith}
use Rattle.std.proofs.lemmas.Bool.Decides.{nat_tests}
use Rattle.ere.specs.Tree.{empty, set, at_start, at_end, none}
use Rattle.spans.specs.Spans.{Relation, Spans, SpansSome}
use Rattle.simulation.specs.declared.node.Gaps.{Gaps}
use Rattle.simulation.specs.Nodes.{Shape, nothing, is_gap, Reads}
use Rattle.simulation.specs.Nodes.{set as one_of}
use Rattle.simulation.specs.Packing.{IsPacked, StandsFor, WordsAt, StandsForSome, nowhere, everywhere, gaps_of_both, gaps_of_either}
use Rattle.simulation.proofs.Tests.{or_cases, or_left, or_right, and_left, and_right, and_both}
use Rattle.simulation.proofs.Forward.{reads_forward}
use Rattle.spans.proofs.Bits.{false≢true}

pub gap_everywhere : (line : List ℕ) (at : ℕ) → IsTrue (is_gap everywhere line at)
gap_everywhere line at = go (at == 0) (length line == 0) (at == length line)
  where
    go : (zero_at zero_long end_at : Bool) → IsTrue (if zero_at then (if zero_long then true else true) else (if end_at then true else true))
    go true true end_at = refl
    go true false end_at = refl
    go false zero_long true = refl
    go false zero_long false = refl

pub gap_nowhere : (line : List ℕ) (at : ℕ) → IsTrue (is_gap nowhere line at) → ⊥
gap_nowhere line at h = go (at == 0) (length line == 0) (at == length line) h
  where
    go : (zero_at zero_long end_at : Bool) → IsTrue (if zero_at then (if zero_long then false else false) else (if end_at then false else false)) → ⊥
    go true true end_at h = false≢true h
    go true false end_at h = false≢true h
    go false zero_long true h = false≢true h
    go false zero_long false h = false≢true h

pub gap_both : (one two : Gaps) (line : List ℕ) (at : ℕ) → is_gap (gaps_of_both one two) line at ≡ (is_gap one line at && is_gap two line at)
gap_both one two line at = go (at == 0) (length line == 0) (at == length line)
  where
    both_gaps : Gaps
    both_gaps = gaps_of_both one two

    pick : Bool → Bool → Bool → Gaps → Bool
    pick zero_at zero_long end_at gaps = if zero_at then (if zero_long then gaps.alone else gaps.start) else (if end_at then gaps.end else gaps.inside)

    go : (zero_at zero_long end_at : Bool)
        → (if zero_at then (if zero_long then one.alone && two.alone else one.start && two.start) else (if end_at then one.end && two.end else one.inside && two.inside))
        ≡ ((if zero_at then (if zero_long then one.alone else one.start) else (if end_at then one.end else one.inside))
        && (if zero_at then (if zero_long then two.alone else two.start) else (if end_at then two.end else two.inside)))
    go true true end_at = refl
    go true false end_at = refl
    go false zero_long true = refl
    go false zero_long false = refl

pub gap_either : (one two : Gaps) (line : List ℕ) (at : ℕ) → is_gap (gaps_of_either one two) line at ≡ (is_gap one line at || is_gap two line at)
gap_either one two line at = go (at == 0) (length line == 0) (at == length line)
  where
    go : (zero_at zero_long end_at : Bool)
        → (if zero_at then (if zero_long then one.alone || two.alone else one.start || two.start) else (if end_at then one.end || two.end else one.inside || two.inside))
        ≡ ((if zero_at then (if zero_long then one.alone else one.start) else (if end_at then one.end else one.inside))
        || (if zero_at then (if zero_long then two.alone else two.start) else (if end_at then two.end else two.inside)))
    go true true end_at = refl
    go true false end_at = refl
    go false zero_long true = refl
    go false zero_long false = refl

-- A node stands for a relation if, with its gaps, it has the same words.
pub packed_by : (words : List ℕ → Relation) (node : Shape) (gaps : Gaps)
    → ((line : List ℕ) (from to : ℕ) → WordsAt node gaps line from to ↔ words line from to) → (IsTrue gaps.inside → IsTrue gaps.start × IsTrue gaps.end)
    → IsPacked words node gaps
packed_by words node gaps same steady = record {
  forward = λ line from to w.
      elim ((same line from to).1 w) [ inl r ↦ (let on = reads_forward line node from to r in omega arith) | inr g ↦ (let stays = g.0 in omega arith) ];
  sound = λ line from to r. (same line from to).0 (inl r);
  complete = λ line from to past w. elim ((same line from to).1 w) [ inl r ↦ r | inr g ↦ (let stays = g.0 in absurd (omega arith)) ];
  empty = λ line here g. (same line here here).0 (inr (refl, g));
  gap = λ line here w. elim ((same line here here).1 w) [ inl r ↦ (let on = reads_forward line node here here r in absurd (omega arith)) | inr g ↦ g.1 ];
  steady = steady;
}

-- A node without words stands for the empty word everywhere.
pub everywhere_packed : (words : List ℕ → Relation) → ((line : List ℕ) (from to : ℕ) → words line from to ↔ (from ≡ to)) → IsPacked words nothing everywhere
unfolding Reads
everywhere_packed words same =
    packed_by words nothing everywhere
    (λ line from to. (λ w. (same line from to).1 (elim w [ inl r ↦ absurd r | inr g ↦ g.0 ]), λ h. inr ((same line from to).0 h, gap_everywhere line from))) (λ h. (refl, refl))

-- Or for no word.
pub nowhere_packed : (words : List ℕ → Relation) → ((line : List ℕ) (from to : ℕ) → words line from to → ⊥) → IsPacked words nothing nowhere
unfolding Reads
nowhere_packed words never =
    packed_by words nothing nowhere
    (λ line from to. (λ w. elim w [ inl r ↦ absurd r | inr g ↦ absurd (gap_nowhere line from g.1) ], λ h. absurd (never line from to h))) (λ h. absurd (false≢true h))

pub empty_packed : StandsFor empty nothing everywhere
unfolding Spans
empty_packed = everywhere_packed (λ line. Spans line empty) (λ line from to. (λ h. h, λ h. h))

pub some_none_packed : StandsForSome none nothing nowhere
unfolding SpansSome
some_none_packed = nowhere_packed (λ line. SpansSome line none) (λ line from to h. h)

pub set_packed : (members : List Bool) → StandsFor (set members) (one_of members) nowhere
unfolding Spans Reads
set_packed members =
    packed_by (λ line. Spans line (set members)) (one_of members) nowhere
    (λ line from to. (λ w. elim w [ inl r ↦ r | inr g ↦ absurd (gap_nowhere line from g.1) ], λ h. inl h)) (λ h. absurd (false≢true h))

pub start_packed : StandsFor at_start nothing (record { alone = true; start = true; inside = false; end = false })
unfolding Spans Reads
start_packed =
    packed_by (λ line. Spans line at_start) nothing (record { alone = true; start = true; inside = false; end = false })
    (λ line from to. (
      λ w. elim w [ inl r ↦ absurd r | inr g ↦ (there line from (from == 0) (length line == 0) (from == length line) refl g.1, g.0) ],
      λ h. inr (h.1, back line from h.0),
    ))
    (λ h. absurd (false≢true h))
  where
    there : (line : List ℕ) (at : ℕ) (zero_at zero_long end_at : Bool) → (at == 0) ≡ zero_at
        → IsTrue (if zero_at then (if zero_long then true else true) else (if end_at then false else false)) → at ≡ 0
    there line at true zero_long end_at e h = grind (arith, nat_tests)
    there line at false zero_long true e h = absurd (false≢true h)
    there line at false zero_long false e h = absurd (false≢true h)

    back : (line : List ℕ) (at : ℕ) → at ≡ 0 → IsTrue (is_gap (record { alone = true; start = true; inside = false; end = false }) line at)
    back line at e = subst (λ n. IsTrue (is_gap (record { alone = true; start = true; inside = false; end = false }) line n)) (sym e) (go (length line == 0))
      where
        go : (zero_long : Bool) → IsTrue (if zero_long then true else true)
        go true = refl
        go false = refl

pub end_packed : StandsFor at_end nothing (record { alone = true; start = false; inside = false; end = true })
unfolding Spans Reads
end_packed =
    packed_by (λ line. Spans line at_end) nothing (record { alone = true; start = false; inside = false; end = true })
    (λ line from to. (
      λ w. elim w [ inl r ↦ absurd r | inr g ↦ (there line from (from == 0) (length line == 0) (from == length line) refl refl refl g.1, g.0) ],
      λ h. inr (h.1, back line from (from == 0) (length line == 0) (from == length line) refl refl refl h.0),
    ))
    (λ h. absurd (false≢true h))
  where
    there : (line : List ℕ) (at : ℕ) (zero_at zero_long end_at : Bool) → (at == 0) ≡ zero_at → (length line == 0) ≡ zero_long → (at == length line) ≡ end_at
        → IsTrue (if zero_at then (if zero_long then true else false) else (if end_at then true else false)) → at ≡ length line
    there line at true true end_at e f g h = grind (arith, nat_tests)
    there line at true false end_at e f g h = absurd (false≢true h)
    there line at false zero_long true e f g h = grind (arith, nat_tests)
    there line at false zero_long false e f g h = absurd (false≢true h)

    back : (line : List ℕ) (at : ℕ) (zero_at zero_long end_at : Bool) → (at == 0) ≡ zero_at → (length line == 0) ≡ zero_long → (at == length line) ≡ end_at
        → at ≡ length line → IsTrue (if zero_at then (if zero_long then true else false) else (if end_at then true else false))
    back line at true true end_at e f g h = refl
    back line at true false end_at e f g h = grind (arith, nat_tests)
    back line at false zero_long true e f g h = refl
    back line at false zero_long false e f g h = grind (arith, nat_tests)

pub both_steady : (one two : Gaps) → (IsTrue one.inside → IsTrue one.start × IsTrue one.end) → (IsTrue two.inside → IsTrue two.start × IsTrue two.end)
    → IsTrue (one.inside && two.inside) → IsTrue (one.start && two.start) × IsTrue (one.end && two.end)
both_steady one two first second h =
    let a = first (and_left one.inside two.inside h) in
    let b = second (and_right one.inside two.inside h) in
    (and_both one.start two.start a.0 b.0, and_both one.end two.end a.1 b.1)

-- one relation or another
abbrev pub Or : (List ℕ → Relation) → (List ℕ → Relation) → List ℕ → Relation
Or one two line from to = one line from to ⊎ two line from to

either_steady : (one two : Gaps) → (IsTrue one.inside → IsTrue one.start × IsTrue one.end) → (IsTrue two.inside → IsTrue two.start × IsTrue two.end)
    → IsTrue (one.inside || two.inside) → IsTrue (one.start || two.start) × IsTrue (one.end || two.end)
either_steady one two first second h =
    elim (or_cases one.inside two.inside h) [
      | inl a ↦ (or_left one.start two.start (first a).0, or_left one.end two.end (first a).1)
      | inr b ↦ (or_right one.start two.start (second b).0, or_right one.end two.end (second b).1)
    ]

-- Some node has the nonempty words of either.
pub either_packed : (one two : List ℕ → Relation) (left right whole : Shape) (before after : Gaps)
    → ((line : List ℕ) (from to : ℕ) → Reads line whole from to → Reads line left from to ⊎ Reads line right from to)
    → ((line : List ℕ) (from to : ℕ) → Reads line left from to ⊎ Reads line right from to → Reads line whole from to)
    → IsPacked one left before → IsPacked two right after → IsPacked (Or one two) whole (gaps_of_either before after)
either_packed one two left right whole before after of_whole to_whole first second = record {
  forward = λ line from to h. elim h [ inl a ↦ first.forward line from to a | inr b ↦ second.forward line from to b ];
  sound = λ line from to r. elim (of_whole line from to r) [ inl a ↦ inl (first.sound line from to a) | inr b ↦ inr (second.sound line from to b) ];
  complete = λ line from to past h.
      to_whole line from to (elim h [ inl a ↦ inl (first.complete line from to past a) | inr b ↦ inr (second.complete line from to past b) ]);
  empty = λ line at h.
      elim (or_cases (is_gap before line at) (is_gap after line at) (sym (gap_either before after line at) ∙ h)) [
        | inl a ↦ inl (first.empty line at a)
        | inr b ↦ inr (second.empty line at b)
      ];
  gap = λ line at h.
      gap_either before after line at
      ∙ elim h [
        | inl a ↦ or_left (is_gap before line at) (is_gap after line at) (first.gap line at a)
        | inr b ↦ or_right (is_gap before line at) (is_gap after line at) (second.gap line at b)
      ];
  steady = either_steady before after first.steady second.steady;
}
