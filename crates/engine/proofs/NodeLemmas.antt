-- The pattern that stands for each kind of tree.
use Rattle.std.proofs.Common.{◌≡◌, ◌≢◌, ℕ, zero, suc, ◌+◌, ◌-◌, ◌*◌, ◌≤◌, ◌<◌, ◌⊎◌, Bool, true, false, inl, inr, refl, sym, ap, subst, ◌∙◌}
use Rattle.std.proofs.Common.{arith, List, [], ◌∷◌, length, Option, Some, None, IfSome, slice_get}
use Rattle.std.specs.Prelude.{slice_index, ◌==◌, IsTrue}
use Rattle.std.proofs.Common.{⊎_elim, eqb-true}
use Rattle.std.proofs.lemmas.Bool.{cases_lt, true≢false, false≢true}
use Rattle.std.proofs.lemmas.Option.{same_Some}
use Rattle.regex_class.specs.Ranges.{in_ranges}
use Rattle.regex_hir.specs.Looks.{holds, holds_between}
use Rattle.regex_hir.specs.declared.look.Look.TheVariants.{StartLf, EndLf}
use Rattle.regex_hir.proofs.TextLemmas.{byte_before-add-one}
use Rattle.ere.specs.ByteSet.{has}
use Rattle.regex_hir.specs.Re.{Re, empty as re_empty, byte_in, look, cat as re_cat, plus}
use Rattle.regex_hir.specs.Meaning.{cat_all, alt_all, optional, copies, up_to, at_least, repeat as re_repeat}
use Rattle.regex_hir.specs.Matches.{Matches}
use Rattle.ere.specs.Tree.{Tree, empty, set, at_start, at_end, cat, alt, repeat, Trees, none, more}
use Rattle.spans.specs.Spans.{Relation, Steps, Spans, SpansEach, SpansSome}
use Rattle.matcher.proofs.Walks.{Then, steps_join}
use Rattle.engine.specs.Translation.{IsLineAt, Agrees, StandsFor, StandForEach}
use Rattle.engine.proofs.RelationLemmas.{agrees_as, agrees_stay, agrees_nowhere, agrees_then, agrees_or, Some-steps, agrees_rounds}
use Rattle.engine.proofs.RelationLemmas.{agrees_next_copy, agrees_no_copy, Few-steps, few_none, few_stay, few_split, few_more, Many-steps}
use Rattle.engine.proofs.RelationLemmas.{many_split, many_apart, many_of, many_none, few_apart, few_of}

-- ---- what is around a position

feed_of_end : (hay : List ℕ) (i b : ℕ) → holds EndLf hay i ≡ true → slice_get hay i ≡ Some b → b ≡ 10
unfolding holds holds_between
feed_of_end hay i b h e = let t : (b == 10) ≡ true = rw e at h in eqb-true b 10 t

feed_of_start : (hay : List ℕ) (i b : ℕ) → holds StartLf hay (i + 1) ≡ true → slice_get hay i ≡ Some b → b ≡ 10
unfolding holds holds_between
feed_of_start hay i b h e = let t : (b == 10) ≡ true = rw (byte_before-add-one hay i ∙ e) at h in eqb-true b 10 t

no_feed_in : (members : List Bool) → has members 10 ≡ true → ⊥
no_feed_in members h = false≢true h

swap : {A B : Type 0} → A ⊎ B → B ⊎ A
swap (inl a) = inr a
swap (inr b) = inl b

pub empty_stands : StandsFor empty re_empty
unfolding StandsFor Spans
empty_stands hay line at is = agrees_stay (length line) at

-- ---- lists

each_stands : (members : Trees) (res : List Re) → StandForEach members res → (hay line : List ℕ) (at : ℕ) → IsLineAt hay at line
    → Agrees (length line) at (SpansEach line members) (Matches hay (cat_all res))
unfolding StandForEach SpansEach StandsFor
each_stands none [] h hay line at is = agrees_stay (length line) at
each_stands none (re ∷ res) h hay line at is = absurd h
each_stands (more tree trees) [] h hay line at is = absurd h
each_stands (more tree trees) (re ∷ res) h hay line at is =
    agrees_then (length line) at (Spans line tree) (SpansEach line trees) (Matches hay re) (Matches hay (cat_all res)) (h.0 hay line at is)
    (each_stands trees res h.1 hay line at is)

pub cat_stands : (members : Trees) (res : List Re) → StandForEach members res → StandsFor (cat members) (cat_all res)
unfolding StandsFor Spans
cat_stands members res h hay line at is = each_stands members res h hay line at is

no_byte : (hay : List ℕ) (i k : ℕ) → Matches hay (byte_in []) i k → ⊥
unfolding in_ranges
no_byte hay i k m = true≢false (sym m.2)

some_stands : (members : Trees) (res : List Re) → StandForEach members res → (hay line : List ℕ) (at : ℕ) → IsLineAt hay at line
    → Agrees (length line) at (SpansSome line members) (Matches hay (alt_all res))
unfolding StandForEach SpansSome StandsFor
some_stands none [] h hay line at is = agrees_nowhere (length line) at (SpansSome line none) (Matches hay (byte_in [])) (λ i k r. r) (no_byte hay)
some_stands none (re ∷ res) h hay line at is = absurd h
some_stands (more tree trees) [] h hay line at is = absurd h
some_stands (more tree trees) (re ∷ res) h hay line at is =
    agrees_or (length line) at (Spans line tree) (SpansSome line trees) (Matches hay re) (Matches hay (alt_all res)) (h.0 hay line at is)
    (some_stands trees res h.1 hay line at is)

pub alt_stands : (members : Trees) (res : List Re) → StandForEach members res → StandsFor (alt members) (alt_all res)
unfolding StandsFor Spans
alt_stands members res h hay line at is = some_stands members res h hay line at is

-- ---- repeats

module _ (size at : ℕ) (hay : List ℕ) (relation : Relation) (re : Re) (one : Agrees size at relation (Matches hay re)) where
  optional_agrees : (greedy : Bool) (rest : Relation) (other : Re) → Agrees size at rest (Matches hay other)
      → Agrees size at (λ i k. rest i k ⊎ (i ≡ k)) (Matches hay (optional greedy other))
  optional_agrees true rest other h = agrees_or size at rest (λ i k. i ≡ k) (Matches hay other) (λ i k. k ≡ i) h (agrees_stay size at)
  optional_agrees false rest other h =
      agrees_as size at (λ i k. (i ≡ k) ⊎ rest i k) (λ i k. rest i k ⊎ (i ≡ k)) (Matches hay (optional false other)) (λ i k. swap) (λ i k. swap)
      (agrees_or size at (λ i k. i ≡ k) rest (λ i k. k ≡ i) (Matches hay other) (agrees_stay size at) h)

  copies_agree : (count : ℕ) (rest : Relation) (other : Re) → Agrees size at rest (Matches hay other)
      → Agrees size at (Then (Steps relation count) rest) (Matches hay (copies count re other))
  copies_agree zero rest other h = agrees_no_copy size at relation rest (Matches hay other) h
  copies_agree (suc count) rest other h =
      agrees_next_copy size at relation rest count (Matches hay re) (Matches hay (copies count re other)) one
      (copies_agree count rest other h)

  plus_agrees : (greedy : Bool) → Agrees size at (Some-steps relation) (Matches hay (plus greedy re))
  plus_agrees greedy = agrees_rounds size at relation (Matches hay re) one

  up_to_agrees : (greedy : Bool) (most : ℕ) → Agrees size at (Few-steps relation most) (Matches hay (up_to greedy most re))
  up_to_agrees greedy zero =
      agrees_as size at (λ i k. i ≡ k) (Few-steps relation 0) (λ i k. k ≡ i) (few_none relation) (few_stay relation 0) (agrees_stay size at)
  up_to_agrees greedy (suc most) =
      agrees_as size at (λ i k. Then relation (Few-steps relation most) i k ⊎ (i ≡ k)) (Few-steps relation (suc most))
      (Matches hay (up_to greedy (suc most) re))
      (few_split relation most) (λ i k. ⊎_elim (few_more relation most i k) (few_stay relation (suc most) i k))
      (optional_agrees greedy (Then relation (Few-steps relation most)) (re_cat re (up_to greedy most re))
      (agrees_then size at relation (Few-steps relation most) (Matches hay re) (Matches hay (up_to greedy most re)) one (up_to_agrees greedy most)))

  at_least_agrees : (greedy : Bool) (least : ℕ) → Agrees size at (Many-steps relation least) (Matches hay (at_least greedy least re))
  at_least_agrees greedy zero =
      agrees_as size at (λ i k. Some-steps relation i k ⊎ (i ≡ k)) (Many-steps relation 0) (Matches hay (at_least greedy 0 re))
      (many_split relation) (λ i k. ⊎_elim (λ s. (suc s.0, omega arith, s.1)) (many_none relation i k))
      (optional_agrees greedy (Some-steps relation) (plus greedy re) (plus_agrees greedy))
  at_least_agrees greedy (suc least) =
      agrees_as size at (Then (Steps relation least) (Some-steps relation)) (Many-steps relation (suc least)) (Matches hay (at_least greedy (suc least) re))
      (many_apart relation least) (many_of relation least)
      (copies_agree least (Some-steps relation) (plus greedy re) (plus_agrees greedy))

pub repeat_stands : (body : Tree) (re : Re) (least : ℕ) (greatest : Option ℕ) (greedy : Bool) → IfSome greatest (λ most. least ≤ most)
    → StandsFor body re → StandsFor (repeat body least greatest) (re_repeat least greatest greedy re)
unfolding StandsFor Spans re_repeat
repeat_stands body re least None greedy low h hay line at is =
    agrees_as (length line) at (Many-steps (Spans line body) least) (Spans line (repeat body least None))
    (Matches hay (at_least greedy least re)) (λ i k s. (s.0, s.1, s.3)) (λ i k s. (s.0, s.1, tt, s.2))
    (at_least_agrees (length line) at hay (Spans line body) re (h hay line at is) greedy least)
repeat_stands body re least (Some most) greedy low h hay line at is =
    agrees_as (length line) at (Then (Steps (Spans line body) least) (Few-steps (Spans line body) (most - least)))
    (Spans line (repeat body least (Some most))) (Matches hay (copies least re (up_to greedy (most - least) re)))
    (λ i k s. few_apart (Spans line body) least most i k low (s.0, s.1, s.2, s.3)) (λ i k s. few_of (Spans line body) least most i k low s)
    (copies_agree (length line) at hay (Spans line body) re (h hay line at is) least (Few-steps (Spans line body) (most - least))
    (up_to greedy (most - least) re) (up_to_agrees (length line) at hay (Spans line body) re (h hay line at is) greedy (most - least)))

-- ---- leaves

module _ (hay line : List ℕ) (at : ℕ) (is : IsLineAt hay at line) where
  -- which byte follows a position of the line
  inner : (k b : ℕ) → k < length line → slice_get hay (at + k) ≡ Some b → (b ≡ slice_index line k) × (b ≢ 10)
  inner k b low e =
      let same : slice_index line k ≡ b = same_Some (slice_index line k) b (sym (is.same k low) ∙ e) in
      (sym same, λ feed. is.no_feed k low (same ∙ feed))

  -- the byte after the line, if there is one, is a line feed
  outer : (b : ℕ) → slice_get hay (at + length line) ≡ Some b → b ≡ 10
  outer b e = feed_of_end hay (at + length line) b is.ends e

pub set_stands : (members : List Bool) (ranges : List (ℕ × ℕ)) → ((b : ℕ) → in_ranges ranges b ≡ has members b) → StandsFor (set members) (byte_in ranges)
unfolding StandsFor Spans
set_stands members ranges each hay line at is = record {
  there = λ i k low r. (omega arith, (slice_index line i, is.same i r.1, each (slice_index line i) ∙ r.2, omega arith));
  back = λ i e low m. back i e m.0 (cases_lt i (length line)) low m.1 (sym (each m.0) ∙ m.2) m.3;
}
  where
    back : (i e b : ℕ) → (i < length line) ⊎ (length line ≤ i) → i ≤ length line → slice_get hay (at + i) ≡ Some b → has members b ≡ true
        → e ≡ at + i + 1 → (to : ℕ) × (e ≡ at + to) × (to ≤ length line) × Spans line (set members) i to
    back i e b (inl low) all here held end =
        let b_is = (inner hay line at is i b low here).0 in
        (suc i, omega arith, omega arith, (refl, low, subst (λ x. IsTrue (has members x)) b_is held))
    back i e b (inr high) all here held end =
        let last : i ≡ length line = omega arith in
        let feed : b ≡ 10 = outer hay line at is b (subst (λ x. slice_get hay (at + x) ≡ Some b) last here) in
        absurd (no_feed_in members (subst (λ x. has members x ≡ true) feed held))

pub start_stands : StandsFor at_start (look StartLf)
unfolding StandsFor Spans
start_stands hay line at is = record {
  there =
      λ i k low r. (
        omega (arith, r.0, r.1),
        (
          let here : at ≡ at + i = omega (arith, r.0) in
              subst (λ x. holds StartLf hay x ≡ true) here is.begins,
          ap (λ x. at + x) (sym r.1),
        ),
      );
  back = λ i e low m. (i, m.1, low, (first i low m.0, refl));
}
  where
    first : (i : ℕ) → i ≤ length line → holds StartLf hay (at + i) ≡ true → i ≡ 0
    first zero low m = refl
    first (suc i) low m =
        let inside : i < length line = omega arith in
        let before : at + suc i ≡ at + i + 1 = omega arith in
        absurd (is.no_feed i inside (feed_of_start hay (at + i) (slice_index line i) (subst (λ x. holds StartLf hay x ≡ true) before m) (is.same i inside)))

pub end_stands : StandsFor at_end (look EndLf)
unfolding StandsFor Spans
end_stands hay line at is = record {
  there =
      λ i k low r. (
        omega (arith, r.0, r.1),
        (
          let here : at + length line ≡ at + i = omega (arith, r.0) in
              subst (λ x. holds EndLf hay x ≡ true) here is.ends,
          ap (λ x. at + x) (sym r.1),
        ),
      );
  back = λ i e low m. (i, m.1, low, (last i (cases_lt i (length line)) low m.0, refl));
}
  where
    last : (i : ℕ) → (i < length line) ⊎ (length line ≤ i) → i ≤ length line → holds EndLf hay (at + i) ≡ true → i ≡ length line
    last i (inl inside) low m = absurd (is.no_feed i inside (feed_of_end hay (at + i) (slice_index line i) m (is.same i inside)))
    last i (inr high) low m = omega arith

-- a repeat that has no word
pub impossible_stands : (body : Tree) (least most : ℕ) → most < least → StandsFor (repeat body least (Some most)) (alt_all [])
unfolding StandsFor Spans
impossible_stands body least most low hay line at is =
    agrees_nowhere (length line) at (Spans line (repeat body least (Some most))) (Matches hay (byte_in []))
    (λ i k s. absurd (omega (arith, s.1, s.2))) (no_byte hay)

-- ---- a star of a star

stars_there : (line : List ℕ) (body : Tree) (inner count i k : ℕ) → Steps (Spans line (repeat body inner None)) count i k
    → (all : ℕ) × (inner ≡ 1 → count ≤ all) × Steps (Spans line body) all i k
unfolding Steps Spans
stars_there line body inner zero i k s = (0, λ e. omega arith, s)
stars_there line body inner (suc count) i k s =
    let front = stars_there line body inner count i s.0 s.1 in
    (front.0 + s.2.0, (λ e. omega (arith, front.1 e, s.2.1, e)), steps_join (Spans line body) front.0 s.2.0 i s.0 k front.2 s.2.3)

stars_back : (line : List ℕ) (body : Tree) (least inner all i k : ℕ) → least ≤ 1 → inner ≤ 1 → least * inner ≤ all
    → Steps (Spans line body) all i k → Spans line (repeat (repeat body inner None) least None) i k
unfolding Steps Spans
stars_back line body zero inner zero i k low small enough s = (0, omega arith, tt, s)
stars_back line body zero inner (suc all) i k low small enough s = (1, omega arith, tt, (i, refl, (suc all, omega arith, tt, s)))
stars_back line body (suc zero) inner all i k low small enough s =
    let same : 1 * inner ≡ inner = omega arith in
    (1, omega arith, tt, (i, refl, (all, omega (arith, same, enough), tt, s)))
stars_back line body (suc (suc least)) inner all i k low small enough s = absurd (omega arith)

product_low : (least inner count all : ℕ) → inner ≤ 1 → least ≤ count → (inner ≡ 1 → count ≤ all) → least * inner ≤ all
product_low least zero count all small low grown = let none : least * 0 ≡ 0 = omega arith in omega (arith, none)
product_low least (suc zero) count all small low grown = let same : least * 1 ≡ least = omega arith in omega (arith, same, low, grown refl)
product_low least (suc (suc inner)) count all small low grown = absurd (omega arith)

pub star_of_star_stands : (body : Tree) (least inner : ℕ) (re : Re) → least ≤ 1 → inner ≤ 1
    → StandsFor (repeat body (least * inner) None) re → StandsFor (repeat (repeat body inner None) least None) re
unfolding StandsFor Spans
star_of_star_stands body least inner re low small h text line at is =
    agrees_as (length line) at (Spans line (repeat body (least * inner) None)) (Spans line (repeat (repeat body inner None) least None)) (Matches text re)
    (λ i k s. let all = stars_there line body inner s.0 i k s.3 in (all.0, product_low least inner s.0 all.0 small s.1 all.1, tt, all.2))
    (λ i k s. stars_back line body least inner s.0 i k low small s.1 s.3)
    (h text line at is)
