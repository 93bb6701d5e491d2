-- Turns that are taken, set aside and given back.
use Rattle.std.proofs.Common.{◌≡◌, ◌≢◌, ℕ, ◌+◌, ◌≤◌, ◌<◌, ◌⊎◌, inl, inr, List, [], ◌∷◌, ◌++◌, length, take, drop, map, Some, refl, sym, ap, ◌∙◌, subst, arith}
use Rattle.std.proofs.Common.{append_assoc, get_or, length-set, slice_get, true, false}
use Rattle.std.specs.Prelude.{slice_set, eqb, All, IfNone, Option, None}
use Rattle.std.specs.List.{AllByRecursion}
use Rattle.std.proofs.lemmas.Bool.Decides.{eqb_tells}
use Rattle.std.proofs.lemmas.List.{get_or-set_same, get_or-set_other, append-nil, length-replicate, map-append}
use Rattle.std.proofs.lemmas.List.Elements.{All-from_recursion}
use Rattle.std.proofs.lemmas.Option.{slice_get-get_or}
use Rattle.steps.specs.Steps.{Given, AreTurned, given}
use Rattle.steps.specs.StepRows.{AllTurned}
use Rattle.steps.proofs.OpenLemmas.{around}
use Rattle.steps.proofs.TurnLemmas.{each_insert, each_within, each_without, each_map, turned_both, turned_insert, turned_out}
use Rattle.service.specs.declared.turns.Aside.{Aside}
use Rattle.service.specs.declared.turns.Last.{Last}
use Rattle.service.specs.Service.{ServiceState, SetsAside}
use Rattle.service.specs.Turns.{GivesTurn, HaveTurns, IsNoted, StillHave, TurnsState, first_turns, given_aside, last, last_of}
use Rattle.service.specs.Private.NextTurns.{IsNext, with_last}

equal_or_not : (a b : ℕ) → (a ≡ b) ⊎ (a ≢ b)
equal_or_not a b = by_test (eqb_tells a b)
  where
    by_test : ((eqb a b ≡ true) × (a ≡ b)) ⊎ ((eqb a b ≡ false) × (a ≢ b)) → (a ≡ b) ⊎ (a ≢ b)
    by_test (inl same) = inl same.1
    by_test (inr other) = inr other.1

each_front : {X : Type 0} (P : X → Type 0) (xs ys : List X) → AllByRecursion P (xs ++ ys) → AllByRecursion P xs
each_front P [] ys all = tt
each_front P (x ∷ xs) ys all = (all.0, each_front P xs ys all.1)

-- The next turn of a reader.
module _ (lasts : List Last) (x : Given) (next : IsNext lasts x.reader x.version x.turn) where
  abbrev lasts' : List Last
  lasts' = slice_set lasts x.reader (last x.turn x.version)

  next_turned : (y : Given) → IsNoted lasts y → AreTurned y x
  next_turned y noted same =
      let at : last_of lasts y.reader ≡ last_of lasts x.reader = ap (last_of lasts) same in
      let rises : y.turn < x.turn = omega (arith, noted.turn, next.next, ap (λ l. l.turn) at) in
      let grows : y.version ≤ x.version = omega (arith, noted.version, next.no_fall, ap (λ l. l.version) at) in
      record { distinct = λ e. omega arith; rises = λ h. grows; falls = λ h. absurd (omega arith) }

  same_length : length lasts' ≡ length lasts
  same_length = length-set lasts x.reader (last x.turn x.version)

  last_here : last_of lasts' x.reader ≡ last x.turn x.version
  last_here = get_or-set_same lasts x.reader (last x.turn x.version) (last 0 0) next.one_of_them

  still_noted : (y : Given) → IsNoted lasts y → IsNoted lasts' y
  still_noted y noted = by_reader (equal_or_not y.reader x.reader)
    where
      by_reader : (y.reader ≡ x.reader) ⊎ (y.reader ≢ x.reader) → IsNoted lasts' y
      by_reader (inl same) =
          let now : last_of lasts' y.reader ≡ last x.turn x.version = ap (last_of lasts') same ∙ last_here in
          let was : last_of lasts y.reader ≡ last_of lasts x.reader = ap (last_of lasts) same in
          record {
            one_of_them = omega (arith, noted.one_of_them, same_length);
            turn = omega (arith, noted.turn, next.next, ap (λ l. l.turn) now, ap (λ l. l.turn) was);
            version = omega (arith, noted.version, next.no_fall, ap (λ l. l.version) now, ap (λ l. l.version) was);
          }
      by_reader (inr other) =
          let now : last_of lasts' y.reader ≡ last_of lasts y.reader = get_or-set_other lasts x.reader y.reader (last x.turn x.version) (last 0 0) other in
          record {
            one_of_them = omega (arith, noted.one_of_them, same_length);
            turn = omega (arith, noted.turn, ap (λ l. l.turn) now);
            version = omega (arith, noted.version, ap (λ l. l.version) now);
          }

  now_noted : IsNoted lasts' x
  now_noted = record { one_of_them = omega (arith, next.one_of_them, same_length); turn = omega (arith, ap (λ l. l.turn) last_here); version = omega (arith, ap (λ l. l.version) last_here) }

  -- it is in turn with what was given, and what was given is noted
  module _ (xs ys : List Given) (turned : AllTurned (xs ++ ys)) (noted : AllByRecursion (IsNoted lasts) (xs ++ ys)) where
    next_in : AllTurned (xs ++ x ∷ ys)
    next_in =
        turned_insert xs x ys turned
        (each_map (IsNoted lasts) (λ y. AreTurned y x × AreTurned x y) (λ y is. turned_both x y (next_turned y is)) (xs ++ ys) noted)

    next_noted : AllByRecursion (IsNoted lasts') (xs ++ x ∷ ys)
    next_noted = each_insert (IsNoted lasts') xs x ys (each_map (IsNoted lasts) (IsNoted lasts') still_noted (xs ++ ys) noted) now_noted

-- the reader's next turn, in which it answers
pub next_gives : (turns : TurnsState) (x : Given) → IsNext turns.lasts x.reader x.version x.turn
    → GivesTurn turns x (with_last x.reader x.turn x.version turns)
next_gives turns x next readers answers have =
    let others = map given_aside turns.aside in
    let middle : (answers ++ x ∷ []) ++ others ≡ answers ++ x ∷ others = append_assoc answers (x ∷ []) others in (
      omega (arith, next.one_of_them, have.count),
      All-from_recursion (λ y. AreTurned y x) answers
          (each_map (IsNoted turns.lasts) (λ y. AreTurned y x) (next_turned turns.lasts x next) answers
          (each_front (IsNoted turns.lasts) answers others have.noted)),
      record {
        count = length-set turns.lasts x.reader (last x.turn x.version) ∙ have.count;
        turned = subst AllTurned (sym middle) (next_in turns.lasts x next answers others have.turned have.noted);
        noted =
            subst (AllByRecursion (IsNoted (slice_set turns.lasts x.reader (last x.turn x.version)))) (sym middle)
            (next_noted turns.lasts x next answers others have.turned have.noted);
      },
    )

-- the reader's next turn, which is set aside, or is left out
module _ (turns : TurnsState) (aside : Aside) (next : IsNext turns.lasts aside.reader aside.version aside.turn) where
  pub next_left_out : StillHave turns (with_last aside.reader aside.turn aside.version turns)
  next_left_out readers answers have = record {
    count = length-set turns.lasts aside.reader (last aside.turn aside.version) ∙ have.count;
    turned = have.turned;
    noted =
        each_map (IsNoted turns.lasts) (IsNoted (slice_set turns.lasts aside.reader (last aside.turn aside.version)))
        (still_noted turns.lasts (given_aside aside) next) (answers ++ map given_aside turns.aside) have.noted;
  }

  pub next_aside : StillHave turns (record turns {
    lasts = slice_set turns.lasts aside.reader (last aside.turn aside.version);
    aside = turns.aside ++ aside ∷ [];
  })
  next_aside readers answers have =
      let others = map given_aside turns.aside in
      let x = given_aside aside in
      let end : answers ++ map given_aside (turns.aside ++ aside ∷ []) ≡ (answers ++ others) ++ x ∷ [] =
      ap (λ l. answers ++ l) (map-append given_aside turns.aside (aside ∷ [])) ∙ sym (append_assoc answers others (x ∷ [])) in
      let all : (answers ++ others) ++ [] ≡ answers ++ others = append-nil (answers ++ others) in
      record {
        count = length-set turns.lasts aside.reader (last aside.turn aside.version) ∙ have.count;
        turned =
            subst AllTurned (sym end)
            (next_in turns.lasts x next (answers ++ others) [] (subst AllTurned (sym all) have.turned)
            (subst (AllByRecursion (IsNoted turns.lasts)) (sym all) have.noted));
        noted =
            subst (AllByRecursion (IsNoted (slice_set turns.lasts aside.reader (last aside.turn aside.version)))) (sym end)
            (next_noted turns.lasts x next (answers ++ others) [] (subst AllTurned (sym all) have.turned)
            (subst (AllByRecursion (IsNoted turns.lasts)) (sym all) have.noted));
      }

-- a turn that was set aside
module _ (turns : TurnsState) (place : ℕ) (aside : Aside) (at : slice_get turns.aside place ≡ Some aside) where
  abbrev without : TurnsState
  without = record turns { aside = take place turns.aside ++ drop (place + 1) turns.aside }

  abbrev before : List Given
  before = map given_aside (take place turns.aside)

  abbrev after : List Given
  after = map given_aside (drop (place + 1) turns.aside)

  whole : (answers : List Given) → answers ++ map given_aside turns.aside ≡ (answers ++ before) ++ given_aside aside ∷ after
  whole answers =
      ap (λ l. answers ++ map given_aside l) (around turns.aside place aside at)
      ∙ ap (λ l. answers ++ l) (map-append given_aside (take place turns.aside) (aside ∷ drop (place + 1) turns.aside))
      ∙ sym (append_assoc answers before (given_aside aside ∷ after))

  others : (answers : List Given) → answers ++ map given_aside (take place turns.aside ++ drop (place + 1) turns.aside) ≡ (answers ++ before) ++ after
  others answers =
      ap (λ l. answers ++ l) (map-append given_aside (take place turns.aside) (drop (place + 1) turns.aside)) ∙ sym (append_assoc answers before after)

  -- it is not needed any more
  pub aside_left : StillHave turns without
  aside_left readers answers have = record {
    count = have.count;
    turned = subst AllTurned (sym (others answers)) (turned_out (answers ++ before) (given_aside aside) after (subst AllTurned (whole answers) have.turned)).0;
    noted =
        subst (AllByRecursion (IsNoted turns.lasts)) (sym (others answers))
        (each_without (IsNoted turns.lasts) (answers ++ before) (given_aside aside) after
        (subst (AllByRecursion (IsNoted turns.lasts)) (whole answers) have.noted));
  }

  -- an answer is given in it
  pub aside_gives : GivesTurn turns (given_aside aside) without
  aside_gives readers answers have =
      let x = given_aside aside in
      let out = turned_out (answers ++ before) x after (subst AllTurned (whole answers) have.turned) in
      let left = aside_left readers answers have in
      let rest = map given_aside (take place turns.aside ++ drop (place + 1) turns.aside) in
      let both : AllByRecursion (λ y. AreTurned y x × AreTurned x y) (answers ++ rest) =
      subst (AllByRecursion (λ y. AreTurned y x × AreTurned x y)) (sym (others answers)) out.1 in
      let middle : (answers ++ x ∷ []) ++ rest ≡ answers ++ x ∷ rest = append_assoc answers (x ∷ []) rest in
      let its : IsNoted turns.lasts x =
      each_within (IsNoted turns.lasts) (answers ++ before) x after (subst (AllByRecursion (IsNoted turns.lasts)) (whole answers) have.noted) in (
        omega (arith, its.one_of_them, have.count),
        All-from_recursion (λ y. AreTurned y x) answers
            (each_map (λ y. AreTurned y x × AreTurned x y) (λ y. AreTurned y x) (λ y is. is.0) answers
            (each_front (λ y. AreTurned y x × AreTurned x y) answers rest both)),
        record {
          count = have.count;
          turned = subst AllTurned (sym middle) (turned_insert answers x rest left.turned both);
          noted = subst (AllByRecursion (IsNoted turns.lasts)) (sym middle) (each_insert (IsNoted turns.lasts) answers x rest left.noted its);
        },
      )

-- before the first answer
pub first_have : (readers : ℕ) → HaveTurns readers [] (first_turns readers)
first_have readers = record { count = length-replicate (readers + 1) (last 0 0); turned = tt; noted = tt }

-- nothing is set aside, or twice
pub aside_none : (s : ServiceState) → SetsAside s s
aside_none s = record { still = λ readers answers have. have; left = refl }

pub aside_both : (s s' s'' : ServiceState) → SetsAside s s' → SetsAside s' s'' → SetsAside s s''
aside_both s s' s'' first next = record {
  still = λ readers answers have. next.still readers answers (first.still readers answers have);
  left = next.left ∙ ap {A = ServiceState} {B = ServiceState} (λ t. record t { turns = s''.turns }) first.left;
}

-- a turn that was set aside is removed
module _ (turns : TurnsState) (place : ℕ) (within : place < length turns.aside) (found : Aside) (here : found ≡ get_or turns.aside place found)
    (aside' : List Aside) (left : aside' ≡ take place turns.aside ++ drop (place + 1) turns.aside) where
  its : slice_get turns.aside place ≡ Some found
  its = slice_get-get_or turns.aside place found within ∙ ap Some (sym here)

  pub removed_still : StillHave turns (record turns { aside = aside' })
  removed_still = subst (λ l. StillHave turns (record turns { aside = l })) (sym left) (aside_left turns place found its)

  pub removed_gives : GivesTurn turns (given_aside found) (record turns { aside = aside' })
  removed_gives = subst (λ l. GivesTurn turns (given_aside found) (record turns { aside = l })) (sym left) (aside_gives turns place found its)

-- the reader's next turn, in which it answers, after turns were given back
pub next_given : (start turns turns' : TurnsState) (reader turn version : ℕ) → StillHave start turns → IsNext turns.lasts reader version turn
    → turns' ≡ with_last reader turn version turns → GivesTurn start (given reader turn version) turns'
next_given start turns turns' reader turn version still next is =
    subst (GivesTurn start (given reader turn version)) (sym is)
    (λ readers answers have. next_gives turns (given reader turn version) next readers answers (still readers answers have))

-- the reader's next turn, which is set aside if there is memory for that
pub next_set_aside : (start turns turns' turns'' : TurnsState) (aside : Aside) → StillHave start turns
    → IsNext turns.lasts aside.reader aside.version aside.turn → turns' ≡ with_last aside.reader aside.turn aside.version turns
    → (turns'' ≡ turns') ⊎ (turns'' ≡ record turns' { aside = turns'.aside ++ aside ∷ [] }) → StillHave start turns''
next_set_aside start turns turns' turns'' aside still next is (inl same) readers answers have =
    subst (HaveTurns readers answers) (sym (same ∙ is)) (next_left_out turns aside next readers answers (still readers answers have))
next_set_aside start turns turns' turns'' aside still next is (inr kept) readers answers have =
    subst (HaveTurns readers answers) (sym (kept ∙ ap {A = TurnsState} {B = TurnsState} (λ t. record t { aside = t.aside ++ aside ∷ [] }) is))
    (next_aside turns aside next readers answers (still readers answers have))

pub none_then : {X : Type 0} {P Q : Type 0} (r : Option X) → (P → Q) → IfNone r P → IfNone r Q
none_then None f is = f is
none_then (Some x) f is = is
