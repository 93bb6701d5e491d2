-- Nodes one after the other.
use Rattle.std.proofs.Common.{◌≡◌, ℕ, ◌+◌, ◌*◌, ◌≤◌, IsTrue, List, [], ◌∷◌, ◌++◌, length, ◌⊎◌, ◌↔◌, inl, inr, refl, sym, ap, subst, ◌∙◌, arith}
use Rattle.std.proofs.Common.{Result, Ok, Err, IfOk}
use Rattle.std.specs.List.{list_all}
use Rattle.std.proofs.lemmas.List.{length_push}
use Rattle.spans.specs.Spans.{Relation}
use Rattle.simulation.specs.declared.node.Sizes.{Sizes}
use Rattle.simulation.specs.declared.run.RowSet.{RowSet}
use Rattle.simulation.specs.declared.sequence.Packed.{Packed}
use Rattle.simulation.specs.declared.sequence.Sequence.{Sequence}
use Rattle.simulation.specs.Nodes.{nothing, both, shape, is_gap, Reads}
use Rattle.simulation.specs.Pending.{size_of, words_for, IsWhole}
use Rattle.simulation.specs.Packing.{everywhere, gaps_of_both, IsNodeFor}
use Rattle.simulation.specs.Private.Rows.{gaps_of_row, OfRow, IsRowSet, IsRunOf, ReadsRow}
use Rattle.simulation.specs.Private.Sequences.{AreSame, GoesOn, Holds, IsFor, IsSequence, Then, WordsOf, WordsOfSequence}
use Rattle.simulation.proofs.Forward.{at_or_past}
use Rattle.simulation.proofs.Tests.{and_left, and_right, and_both}
use Rattle.simulation.proofs.Packing.{both_steady, gap_both, gap_everywhere, packed_by}
use Rattle.simulation.proofs.Rows.{all_optional, empty_of_gap, gap_of_empty, places_forward, places_stay}

pub ok_as : {X E : Type 0} (P Q : X → Type 0) → ((x : X) → P x → Q x) → (r : Result X E) → IfOk r P → IfOk r Q
ok_as P Q f (Ok x) h = f x h
ok_as P Q f (Err e) h = tt

same_by : (one middle other : List ℕ → Relation) → AreSame one middle → AreSame middle other → AreSame one other
same_by one middle other first second line from to =
    (λ h. (second line from to).0 ((first line from to).0 h), λ h. (first line from to).1 ((second line from to).1 h))

pub part_of : (words : List ℕ → Relation) (packed : Packed) (copies : ℕ) → Holds words packed copies
    → IsNodeFor words (shape packed.node) packed.gaps copies packed.size
part_of words packed copies holds = record {
  packed = packed_by words (shape packed.node) packed.gaps holds.same holds.valid.steady;
  whole = holds.valid.whole;
  sized = holds.valid.sized;
}

pub holds_of : (words : List ℕ → Relation) (packed : Packed) (copies : ℕ) → IsNodeFor words (shape packed.node) packed.gaps copies packed.size
    → Holds words packed copies
holds_of words packed copies h = record {
  same = λ line from to. (there line from to, back line from to);
  valid = record { whole = h.whole; sized = h.sized; steady = h.packed.steady };
}
  where
    there : (line : List ℕ) (from to : ℕ) → WordsOf packed line from to → words line from to
    there line from to (inl r) = h.packed.sound line from to r
    there line from to (inr g) = subst (λ n. words line from n) g.0 (h.packed.empty line from g.1)

    back : (line : List ℕ) (from to : ℕ) → words line from to → WordsOf packed line from to
    back line from to w =
        elim (at_or_past from to (h.packed.forward line from to w)) [
          | inl same ↦ inr (same, h.packed.gap line from (subst (λ n. words line from n) (sym same) w))
          | inr past ↦ inl (h.packed.complete line from to past w)
        ]

-- A word of one node and then a word of another.
pub pair_holds : (first second whole : Packed) (sizes : Sizes) (copies : ℕ) → shape whole.node ≡ both (shape first.node) (shape second.node) sizes first.gaps second.gaps
    → whole.gaps ≡ gaps_of_both first.gaps second.gaps → whole.size ≡ sizes.own + (first.size + second.size) → sizes.own ≡ words_for copies
    → sizes.first ≡ first.size → IsFor first copies → IsFor second copies → Holds (Then (WordsOf first) (WordsOf second)) whole copies
unfolding Reads IsWhole size_of
pair_holds first second whole sizes copies is gaps_are size_is own_is first_is one two = record {
  same = λ line from to. (
    λ w. there line from to (elim w [ inl r ↦ inl (subst (λ p. Reads line p from to) is r) | inr g ↦ inr (g.0, subst (λ n. IsTrue (is_gap n line from)) gaps_are g.1) ]),
    λ h. elim (back line from to h.0 h.1 h.2) [
      | inl r ↦ inl (subst (λ p. Reads line p from to) (sym is) r)
      | inr g ↦ inr (g.0, subst (λ n. IsTrue (is_gap n line from)) (sym gaps_are) g.1)
    ],
  );
  valid = record {
    whole = subst (λ p. IsWhole p copies) (sym is) (own_is, first_is ∙ sym one.sized, one.whole, two.whole);
    sized =
        ap (λ p. size_of p copies) is ∙ ap (λ n. n + (size_of (shape first.node) copies + size_of (shape second.node) copies)) (sym own_is)
        ∙ ap (λ n. sizes.own + (n + size_of (shape second.node) copies)) one.sized ∙ ap (λ n. sizes.own + (first.size + n)) two.sized ∙ sym size_is;
    steady = subst (λ g. IsTrue g.inside → IsTrue g.start × IsTrue g.end) (sym gaps_are) (both_steady first.gaps second.gaps one.steady two.steady);
  };
}
  where
    Both : List ℕ → ℕ → ℕ → Type 0
    Both line from to =
        Reads line (both (shape first.node) (shape second.node) sizes first.gaps second.gaps) from to
        ⊎ ((from ≡ to) × IsTrue (is_gap (gaps_of_both first.gaps second.gaps) line from))

    there : (line : List ℕ) (from to : ℕ) → Both line from to → Then (WordsOf first) (WordsOf second) line from to
    there line from to (inl (inl (middle, a, b))) = (middle, inl a, inl b)
    there line from to (inl (inr (inl (g, b)))) = (from, inr (refl, g), inl b)
    there line from to (inl (inr (inr (a, g)))) = (to, inl a, inr (refl, g))
    there line from to (inr (e, g)) =
        let both_are = sym (gap_both first.gaps second.gaps line from) ∙ g in (
          from,
          inr (refl, and_left (is_gap first.gaps line from) (is_gap second.gaps line from) both_are),
          inr (e, and_right (is_gap first.gaps line from) (is_gap second.gaps line from) both_are),
        )

    back : (line : List ℕ) (from to middle : ℕ) → WordsOf first line from middle → WordsOf second line middle to → Both line from to
    back line from to middle (inl a) (inl b) = inl (inl (middle, a, b))
    back line from to middle (inl a) (inr (e, g)) =
        inl (inr (inr (subst (λ n. Reads line (shape first.node) from n) e a, subst (λ n. IsTrue (is_gap second.gaps line n)) e g)))
    back line from to middle (inr (e, g)) (inl b) = inl (inr (inl (g, subst (λ n. Reads line (shape second.node) n to) (sym e) b)))
    back line from to middle (inr (e, g)) (inr (d, f)) =
        inr (
          e ∙ d,
          gap_both first.gaps second.gaps line from
              ∙ and_both (is_gap first.gaps line from) (is_gap second.gaps line from) g (subst (λ n. IsTrue (is_gap second.gaps line n)) (sym e) f),
        )

nothing_words : (packed : Packed) → shape packed.node ≡ nothing → packed.gaps ≡ everywhere → AreSame (WordsOf packed) (λ line from to. from ≡ to)
unfolding Reads
nothing_words packed is all line from to = (there, λ e. inr (e, subst (λ g. IsTrue (is_gap g line from)) (sym all) (gap_everywhere line from)))
  where
    there : WordsOf packed line from to → from ≡ to
    there (inl r) = absurd (subst (λ p. Reads line p from to) is r)
    there (inr g) = g.0

-- Nothing before a node changes nothing.
pub second_holds : (first second : Packed) (copies : ℕ) → shape first.node ≡ nothing → first.gaps ≡ everywhere → IsFor second copies
    → Holds (Then (WordsOf first) (WordsOf second)) second copies
second_holds first second copies is all valid = record {
  same = λ line from to. (
    λ w. (from, (nothing_words first is all line from from).1 refl, w),
    λ h. subst (λ n. WordsOf second line n to) (sym ((nothing_words first is all line from h.0).0 h.1)) h.2,
  );
  valid = valid;
}

pub row_words : (packed : Packed) (row : List RowSet) → ReadsRow row (shape packed.node) → packed.gaps ≡ gaps_of_row row
    → AreSame (WordsOf packed) (OfRow row)
row_words packed row reads gaps_are line from to = (there, back)
  where
    there : WordsOf packed line from to → OfRow row line from to
    there (inl r) = ((reads line from to).0 r).1
    there (inr (e, g)) =
        subst (λ n. OfRow row line from n) e
        (places_stay row line from (empty_of_gap (list_all (λ place. place.optional) row) line from (subst (λ n. IsTrue (is_gap n line from)) gaps_are g)))

    back : OfRow row line from to → WordsOf packed line from to
    back h =
        elim (at_or_past from to (places_forward row line from to h)) [
          | inl same ↦
              inr (
                same,
                subst (λ n. IsTrue (is_gap n line from)) (sym gaps_are)
                    (gap_of_empty (list_all (λ place. place.optional) row) line from (all_optional row line from to (omega arith) h)),
              )
          | inr past ↦ inl ((reads line from to).1 (past, h))
        ]

same_then : (one other words : List ℕ → Relation) → AreSame one other → AreSame (Then one words) (Then other words)
same_then one other words same line from to =
    (λ h. (h.0, (same line from h.0).0 h.1, h.2), λ h. (h.0, (same line from h.0).1 h.1, h.2))

pub goes_on_as : (words others : List ℕ → Relation) (sequence longer : Sequence) (copies : ℕ) → AreSame words others → GoesOn words sequence longer copies
    → GoesOn others sequence longer copies
goes_on_as words others sequence longer copies same goes = record {
  same = λ line from to. (
    λ w. (let h = (goes.same line from to).0 w in (h.0, h.1, (same line h.0 to).0 h.2)),
    λ h. (goes.same line from to).1 (h.0, h.1, (same line h.0 to).1 h.2),
  );
  valid = goes.valid;
}

-- A node that is a place goes on by its words.
pub goes_on_place : {E : Type 0} (place : RowSet) (one : Packed) (sequence : Sequence) (copies : ℕ) (r : Result Sequence E)
    → IsRowSet place (shape one.node) one.gaps → IfOk r (λ longer. GoesOn (OfRow (place ∷ [])) sequence longer copies)
    → IfOk r (λ longer. GoesOn (WordsOf one) sequence longer copies)
goes_on_place place one sequence copies r is =
    ok_as (λ longer. GoesOn (OfRow (place ∷ [])) sequence longer copies) (λ longer. GoesOn (WordsOf one) sequence longer copies)
    (λ longer goes. goes_on_as (OfRow (place ∷ [])) (WordsOf one) sequence longer copies (λ line from to. (there line from to, back line from to)) goes) r
  where
    there : (line : List ℕ) (from to : ℕ) → OfRow (place ∷ []) line from to → WordsOf one line from to
    there line from to h = (row_words one (place ∷ []) is.reads is.gap line from to).1 h

    back : (line : List ℕ) (from to : ℕ) → WordsOf one line from to → OfRow (place ∷ []) line from to
    back line from to h = (row_words one (place ∷ []) is.reads is.gap line from to).0 h

-- A sequence goes on twice.
pub goes_on_twice : (one two words : List ℕ → Relation) (sequence middle longer : Sequence) (copies : ℕ) → AreSame (Then one two) words
    → GoesOn one sequence middle copies → GoesOn two middle longer copies → GoesOn words sequence longer copies
goes_on_twice one two words sequence middle longer copies same first second = record {
  same = λ line from to. (
    λ w.
        (let h = (second.same line from to).0 w in
        let g = (first.same line from h.0).0 h.1 in
        (g.0, g.1, (same line g.0 to).0 (h.0, g.2, h.2))),
    λ h.
        (let g = (same line h.0 to).1 h.2 in
        (second.same line from to).1 (g.0, (first.same line from g.0).1 (h.0, h.1, g.1), g.2)),
  );
  valid = second.valid;
}

-- Nothing more.
pub goes_nowhere : (words : List ℕ → Relation) (sequence : Sequence) (copies : ℕ) → AreSame words (λ line from to. from ≡ to) → IsSequence sequence copies
    → GoesOn words sequence sequence copies
goes_nowhere words sequence copies none valid = record {
  same = λ line from to. (
    λ w. (to, w, (none line to to).1 refl),
    λ h. subst (λ n. WordsOfSequence sequence line from n) ((none line h.0 to).0 h.2) h.1,
  );
  valid = valid;
}

-- A sequence of one node.
no_row : (packed : Packed) (sequence : Sequence) → sequence.before ≡ packed → sequence.row.items ≡ [] → AreSame (WordsOfSequence sequence) (WordsOf packed)
no_row packed sequence before_is row_is line from to = (
  λ h.
      (let none : h.0 ≡ to = subst (λ row. OfRow row line h.0 to) row_is h.2 in
      subst (λ n. WordsOf packed line from n) none (subst (λ p. WordsOf p line from h.0) before_is h.1)),
  λ w. (to, subst (λ p. WordsOf p line from to) (sym before_is) w, subst (λ row. OfRow row line to to) (sym row_is) refl),
)

one_valid : (packed : Packed) (sequence : Sequence) (copies : ℕ) → sequence.before ≡ packed → sequence.row.items ≡ [] → IsFor packed copies → IsSequence sequence copies
one_valid packed sequence copies before_is row_is valid =
    record { before = subst (λ p. IsFor p copies) (sym before_is) valid; fits = inl (ap length row_is) }

-- A node after a sequence that is settled.
pub then_part : (sequence longer : Sequence) (before one whole : Packed) (copies : ℕ) → longer.before ≡ whole → longer.row.items ≡ []
    → Holds (WordsOfSequence sequence) before copies → Holds (Then (WordsOf before) (WordsOf one)) whole copies → GoesOn (WordsOf one) sequence longer copies
then_part sequence longer before one whole copies before_is row_is settled holds = record {
  same =
      same_by (WordsOfSequence longer) (WordsOf whole) (Then (WordsOfSequence sequence) (WordsOf one)) (no_row whole longer before_is row_is)
      (same_by (WordsOf whole) (Then (WordsOf before) (WordsOf one)) (Then (WordsOfSequence sequence) (WordsOf one)) holds.same
      (same_then (WordsOf before) (WordsOfSequence sequence) (WordsOf one) settled.same));
  valid = one_valid whole longer copies before_is row_is holds.valid;
}

pub settled_same : (sequence roomy : Sequence) (packed : Packed) (copies : ℕ) → roomy.before ≡ packed → roomy.row.items ≡ []
    → Holds (WordsOfSequence sequence) packed copies → AreSame (WordsOfSequence roomy) (WordsOfSequence sequence)
settled_same sequence roomy packed copies before_is row_is holds =
    same_by (WordsOfSequence roomy) (WordsOf packed) (WordsOfSequence sequence) (no_row packed roomy before_is row_is) holds.same

pub none_same : (packed : Packed) (sequence : Sequence) → shape packed.node ≡ nothing → packed.gaps ≡ everywhere → sequence.before ≡ packed
    → sequence.row.items ≡ [] → AreSame (WordsOfSequence sequence) (λ line from to. from ≡ to)
none_same packed sequence is all before_is row_is =
    same_by (WordsOfSequence sequence) (WordsOf packed) (λ line from to. from ≡ to) (no_row packed sequence before_is row_is) (nothing_words packed is all)

pub none_valid : (packed : Packed) (sequence : Sequence) (copies : ℕ) → shape packed.node ≡ nothing → packed.gaps ≡ everywhere → packed.size ≡ words_for copies
    → sequence.before ≡ packed → sequence.row.items ≡ [] → IsSequence sequence copies
unfolding IsWhole size_of
none_valid packed sequence copies is all size_is before_is row_is =
    one_valid packed sequence copies before_is row_is
    (record {
      whole = subst (λ p. IsWhole p copies) (sym is) tt;
      sized = ap (λ p. size_of p copies) is ∙ sym size_is;
      steady = subst (λ g. IsTrue g.inside → IsTrue g.start × IsTrue g.end) (sym all) (λ h. (refl, refl));
    })

-- A node and then a row.
pub settled_row : (sequence : Sequence) (rest packed : Packed) (copies : ℕ) → IsRunOf sequence.row.items (shape rest.node) copies → rest.gaps ≡ gaps_of_row sequence.row.items
    → Holds (Then (WordsOf sequence.before) (WordsOf rest)) packed copies → Holds (WordsOfSequence sequence) packed copies
settled_row sequence rest packed copies is gaps_are holds = record {
  same = λ line from to. (
    λ w. (let h = (holds.same line from to).0 w in (h.0, h.1, (row_words rest sequence.row.items is.reads gaps_are line h.0 to).0 h.2)),
    λ h. (holds.same line from to).1 (h.0, h.1, (row_words rest sequence.row.items is.reads gaps_are line h.0 to).1 h.2),
  );
  valid = holds.valid;
}

none_left : (row : List RowSet) → length row ≡ 0 → row ≡ []
none_left [] none = refl
none_left (place ∷ row) none = absurd (omega arith)

-- A sequence without a row is its node.
pub settled_none : (sequence : Sequence) (copies : ℕ) → length sequence.row.items ≡ 0 → IsSequence sequence copies → Holds (WordsOfSequence sequence) sequence.before copies
settled_none sequence copies none valid = record {
  same = λ line from to. (
    λ w. (no_row sequence.before sequence refl (none_left sequence.row.items none) line from to).1 w,
    λ h. (no_row sequence.before sequence refl (none_left sequence.row.items none) line from to).0 h,
  );
  valid = valid.before;
}

push_words : (row : List RowSet) (place : RowSet) (line : List ℕ) (from to : ℕ)
    → OfRow (row ++ (place ∷ [])) line from to ↔ Then (OfRow row) (OfRow (place ∷ [])) line from to
push_words [] place line from to = (λ h. (from, refl, h), λ h. subst (λ n. OfRow (place ∷ []) line n to) (sym h.1) h.2)
push_words (other ∷ row) place line from to = (
  λ h. (let g = (push_words row place line h.0 to).0 h.2 in (g.0, (h.0, h.1, g.1), g.2)),
  λ h. (h.1.0, h.1.1, (push_words row place line h.1.0 to).1 (h.0, h.1.2, h.2)),
)

-- A place after a sequence that has room for it.
pub then_place : (sequence roomy longer : Sequence) (place : RowSet) (copies : ℕ) → longer.before ≡ roomy.before
    → longer.row.items ≡ roomy.row.items ++ (place ∷ []) → AreSame (WordsOfSequence roomy) (WordsOfSequence sequence) → IsFor roomy.before copies
    → length roomy.row.items * copies + 2 * copies ≤ 64 → GoesOn (OfRow (place ∷ [])) sequence longer copies
then_place sequence roomy longer place copies before_is row_is same valid room = record {
  same = λ line from to. (
    λ w.
        (let g = (push_words roomy.row.items place line w.0 to).0 (subst (λ row. OfRow row line w.0 to) row_is w.2) in
        (g.0, (same line from g.0).0 (w.0, subst (λ p. WordsOf p line from w.0) before_is w.1, g.1), g.2)),
    λ h.
        (let g = (same line from h.0).1 h.1 in (
          g.0,
          subst (λ p. WordsOf p line from g.0) (sym before_is) g.1,
          subst (λ row. OfRow row line g.0 to) (sym row_is) ((push_words roomy.row.items place line g.0 to).1 (h.0, g.2, h.2)),
        )),
  );
  valid = record {
    before = subst (λ p. IsFor p copies) (sym before_is) valid;
    fits = (let long : length longer.row.items * copies ≡ length roomy.row.items * copies + copies =
        ap (λ n. n * copies) (ap length row_is ∙ length_push roomy.row.items place) ∙ omega arith in
        inr (omega arith));
  };
}

-- A node that stands for a relation goes on by its words.
pub goes_on_part : {E : Type 0} (words : List ℕ → Relation) (one : Packed) (sequence : Sequence) (copies : ℕ) (r : Result Sequence E)
    → IsNodeFor words (shape one.node) one.gaps copies one.size → IfOk r (λ longer. GoesOn (WordsOf one) sequence longer copies)
    → IfOk r (λ longer. GoesOn words sequence longer copies)
goes_on_part words one sequence copies r is =
    ok_as (λ longer. GoesOn (WordsOf one) sequence longer copies) (λ longer. GoesOn words sequence longer copies)
    (λ longer goes. goes_on_as (WordsOf one) words sequence longer copies (holds_of words one copies is).same goes) r

-- What goes on from nothing stands for the relation's words, once it is settled.
pub settled_part : {E : Type 0} (words : List ℕ → Relation) (none all : Sequence) (copies : ℕ) (r : Result Packed E)
    → AreSame (WordsOfSequence none) (λ line from to. from ≡ to) → GoesOn words none all copies → IfOk r (λ packed. Holds (WordsOfSequence all) packed copies)
    → IfOk r (λ packed. IsNodeFor words (shape packed.node) packed.gaps copies packed.size)
settled_part words none all copies r nothing_yet goes =
    ok_as (λ packed. Holds (WordsOfSequence all) packed copies) (λ packed. IsNodeFor words (shape packed.node) packed.gaps copies packed.size)
    (λ packed holds. part_of words packed copies (record {
      same = λ line from to. (
        λ w.
            (let h = (goes.same line from to).0 ((holds.same line from to).0 w) in
            subst (λ n. words line n to) (sym ((nothing_yet line from h.0).0 h.1)) h.2),
        λ v. (holds.same line from to).1 ((goes.same line from to).1 (from, (nothing_yet line from from).1 refl, v)),
      );
      valid = holds.valid;
    })) r
