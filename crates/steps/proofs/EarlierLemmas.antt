-- What is written before the entry of a search.
use Rattle.std.proofs.Common.{◌≡◌, ℕ, ◌+◌, ◌⊎◌, inl, inr, true, cond, List, [], ◌∷◌, ◌++◌, sym, ap, ◌∙◌, subst, arith, append_assoc}
use Rattle.std.proofs.lemmas.List.{append-nil}
use Rattle.std.proofs.lemmas.List.Sums.{sum_by-append}
use Rattle.std.proofs.lemmas.Grind.{flat_map-append}
use Rattle.script.specs.Items.{Numbered}
use Rattle.transcript.specs.declared.entry.Entry.{Entry}
use Rattle.steps.specs.LegalRows.{Limits}
use Rattle.steps.specs.Steps.{RunState, IsStep, Runs, begins, goes_on, IsFirst}
use Rattle.steps.specs.Steps as steps
use Rattle.steps.specs.Entries.{is_of, count_of, searches_among, lines_in, line_in, HaveLines, HasTaken}
use Rattle.steps.proofs.RowLemmas.{not_empty, split_push}
use Rattle.steps.proofs.WrittenLemmas.{run_counted, run_lines}

-- A step takes at most one item, and writes at most one entry.
module _ {Holds : List ℕ → List ℕ → Type 0} {limits : Limits} {readers : ℕ} {s s' : RunState} {taken : List Numbered} {written : List Entry} where
  one_taken : IsStep Holds limits readers s taken written s' → (taken ≡ []) ⊎ ((item : Numbered) × (taken ≡ item ∷ []))
  one_taken (steps.carried_out item loaded entry may h takes writes same) = inr (item, takes)
  one_taken (steps.asked_for item request may asks takes writes same) = inr (item, takes)
  one_taken (steps.refused item why may fault takes writes same) = inr (item, takes)
  one_taken (steps.answered place wanted reader turn answer is_open now takes writes same) = inl takes
  one_taken (steps.not_answered place wanted is_open takes writes same) = inl takes
  one_taken (steps.too_slow place wanted timed is_open takes writes same) = inl takes
  one_taken (steps.cancelled item place wanted may is is_open takes writes same) = inr (item, takes)
  one_taken (steps.too_late item number may is was_asked not_open takes writes same) = inr (item, takes)
  one_taken (steps.no_such_search item number may is not_asked takes writes same) = inr (item, takes)
  one_taken (steps.reported item may is takes writes same) = inr (item, takes)
  one_taken (steps.sync item is empty takes writes same) = inr (item, takes)

  one_written : IsStep Holds limits readers s taken written s' → (written ≡ []) ⊎ ((entry : Entry) × (written ≡ entry ∷ []))
  one_written (steps.carried_out item loaded entry may h takes writes same) = inr (entry, writes)
  one_written (steps.asked_for item request may asks takes writes same) = inl writes
  one_written (steps.refused item why may fault takes writes same) = inr (_, writes)
  one_written (steps.answered place wanted reader turn answer is_open now takes writes same) = inr (_, writes)
  one_written (steps.not_answered place wanted is_open takes writes same) = inr (_, writes)
  one_written (steps.too_slow place wanted timed is_open takes writes same) = inr (_, writes)
  one_written (steps.cancelled item place wanted may is is_open takes writes same) = inr (_, writes)
  one_written (steps.too_late item number may is was_asked not_open takes writes same) = inl writes
  one_written (steps.no_such_search item number may is not_asked takes writes same) = inr (_, writes)
  one_written (steps.reported item may is takes writes same) = inr (_, writes)
  one_written (steps.sync item is empty takes writes same) = inl writes

-- Of a list with one more element at its end, the part before one of its elements is all of the list, or before that
-- element in it.
before_push : {X : Type 0} (xs : List X) (x : X) (before : List X) (y : X) (after : List X) → xs ++ x ∷ [] ≡ before ++ y ∷ after
    → (xs ≡ before) ⊎ ((others : List X) × (xs ≡ before ++ y ∷ others))
before_push {X = X} xs x before y after e = by (split_push xs before after x y e)
  where
    by : ((xs ≡ before) × (x ≡ y) × (after ≡ [])) ⊎ ((others : List X) × (xs ≡ before ++ y ∷ others) × (after ≡ others ++ x ∷ []))
        → (xs ≡ before) ⊎ ((others : List X) × (xs ≡ before ++ y ∷ others))
    by (inl here) = inl here.0
    by (inr within) = inr (within.0, within.1)

module _ (Holds : List ℕ → List ℕ → Type 0) (limits : Limits) (readers : ℕ) (from : RunState) where
  abbrev Front : List Numbered → List Entry → Type 0
  Front before entries = HasTaken Holds limits readers from before entries

  more_written : (before : List Numbered) (entries written entries' : List Entry) → entries' ≡ entries ++ written → Front before entries
      → Front before entries'
  more_written before entries written entries' are front = record {
    written = front.written;
    others = front.others ++ written;
    state = front.state;
    runs = front.runs;
    whole = are ∙ ap (λ l. l ++ written) front.whole ∙ append_assoc front.written front.others written;
  }

  all_taken : {items : List Numbered} {entries : List Entry} {s : RunState} → Runs Holds limits readers from items entries s
      → (before : List Numbered) → items ≡ before → Front before entries
  all_taken {items} {entries} {s} run before is = record {
    written = entries;
    others = [];
    state = s;
    runs = subst (λ (l : List Numbered). Runs Holds limits readers from l entries s) is run;
    whole = sym (append-nil entries);
  }

  -- The items before one that was taken were taken before.
  taken_before : {items : List Numbered} {entries : List Entry} {s : RunState} → Runs Holds limits readers from items entries s
      → (before : List Numbered) (item : Numbered) (after : List Numbered) → items ≡ before ++ item ∷ after → Front before entries
  taken_before begins before item after e = absurd (not_empty before item after e)
  taken_before (goes_on {items = i} {taken = t} {entries = es} {entries' = es'} {written = w} run step is are) before item after e =
      more_written before es w es' are (by (λ others whole. taken_before run before item others whole) (one_taken step))
    where
      by : ((others : List Numbered) → i ≡ before ++ item ∷ others → Front before es) → (t ≡ []) ⊎ ((x : Numbered) × (t ≡ x ∷ []))
          → Front before es
      by earlier (inl none) = earlier after (sym (append-nil i) ∙ ap (λ l. i ++ l) (sym none) ∙ sym is ∙ e)
      by earlier (inr one) = last_taken (before_push i one.0 before item after (ap (λ l. i ++ l) (sym one.1) ∙ sym is ∙ e))
        where
          last_taken : (i ≡ before) ⊎ ((others : List Numbered) × (i ≡ before ++ item ∷ others)) → Front before es
          last_taken (inl here) = all_taken run before here
          last_taken (inr within) = earlier within.0 within.1

  module _ (first : IsFirst from) (before : List Numbered) (search : Numbered) (front : List Entry) (entry : Entry)
      (its : is_of (searches_among before + 1) entry ≡ true) where
    -- A search that has its entry was taken before.
    was_taken : {items : List Numbered} {entries : List Entry} {s : RunState} → Runs Holds limits readers from items entries s → items ≡ before
        → (back : List Entry) → entries ≡ front ++ entry ∷ back → ⊥
    was_taken {items} {entries} {s} run is back e =
        let counted = run_counted Holds limits readers from first run in
        let number = searches_among before + 1 in
        omega (
          arith,
          counted.past number (omega (arith, counted.searches, ap searches_among is)),
          ap (count_of number) e,
          sum_by-append (λ x. cond (is_of number x) 1 0) front (entry ∷ back),
          sum_by-append (λ x. cond (is_of number x) 1 0) (entry ∷ []) back,
          ap {B = ℕ} (λ b. cond b 1 0) its,
        )

    abbrev IsBefore : List Numbered → Type 0
    IsBefore items = (items ≡ before) ⊎ ((others : List Numbered) × (items ≡ before ++ search ∷ others))

    abbrev Earlier : List Numbered → List Entry → Type 0
    Earlier items entries =
        (others : List Numbered) → items ≡ before ++ search ∷ others → (back : List Entry) → entries ≡ front ++ entry ∷ back → Front before front

    earlier_taken : {items : List Numbered} {entries : List Entry} {s : RunState} → Runs Holds limits readers from items entries s
        → Earlier items entries
    earlier_taken begins after e back e' = absurd (not_empty front entry back e')
    earlier_taken (goes_on {items = i} {taken = t} {entries = es} {written = w} run step is are) after e back e' =
        by (λ others whole back' whole'. earlier_taken run others whole back' whole') (items_before (one_taken step)) (one_written step)
      where
        items_before : (t ≡ []) ⊎ ((x : Numbered) × (t ≡ x ∷ [])) → IsBefore i
        items_before (inl none) = inr (after, sym (append-nil i) ∙ ap (λ l. i ++ l) (sym none) ∙ sym is ∙ e)
        items_before (inr one) = before_push i one.0 before search after (ap (λ l. i ++ l) (sym one.1) ∙ sym is ∙ e)

        -- the entry was written before this step
        written_before : Earlier i es → IsBefore i → (others : List Entry) → es ≡ front ++ entry ∷ others → Front before front
        written_before earlier (inl here) others whole = absurd (was_taken run here others whole)
        written_before earlier (inr within) others whole = earlier within.0 within.1 others whole

        -- this step writes the entry
        written_now : IsBefore i → es ≡ front → Front before front
        written_now (inl here) whole = subst (Front before) whole (all_taken run before here)
        written_now (inr within) whole = subst (Front before) whole (taken_before run before search within.0 within.1)

        last_written : Earlier i es → IsBefore i → (es ≡ front) ⊎ ((others : List Entry) × (es ≡ front ++ entry ∷ others)) → Front before front
        last_written earlier at (inl here) = written_now at here
        last_written earlier at (inr within) = written_before earlier at within.0 within.1

        by : Earlier i es → IsBefore i → (w ≡ []) ⊎ ((x : Entry) × (w ≡ x ∷ [])) → Front before front
        by earlier at (inl none) = written_before earlier at back (sym (append-nil es) ∙ ap (λ l. es ++ l) (sym none) ∙ sym are ∙ e')
        by earlier at (inr one) =
            last_written earlier at (before_push es one.0 front entry back (ap (λ l. es ++ l) (sym one.1) ∙ sym are ∙ e'))

  pub earlier_items : IsFirst from → {items : List Numbered} {entries : List Entry} {s : RunState}
      → Runs Holds limits readers from items entries s → (before : List Numbered) (search : Numbered) (after : List Numbered)
      → items ≡ before ++ search ∷ after → (front : List Entry) (entry : Entry) (back : List Entry) → entries ≡ front ++ entry ∷ back
      → is_of (searches_among before + 1) entry ≡ true → Front before front
  earlier_items first run before search after e front entry back e' its = earlier_taken first before search front entry its run after e back e'

  pub earlier_lines : (before : List Numbered) (front : List Entry) → Front before front
      → (lines others : List ℕ) × HaveLines before lines × (lines_in front ≡ lines ++ others)
  earlier_lines before front taken = (
    lines_in taken.written,
    lines_in taken.others,
    run_lines Holds limits readers from taken.runs,
    ap lines_in taken.whole ∙ flat_map-append line_in taken.written taken.others,
  )
