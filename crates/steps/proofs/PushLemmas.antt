-- The rows of a run with one more row at their end.
use Rattle.std.proofs.Common.{◌≡◌, ℕ, ◌+◌, ◌≤◌, ◌<◌, ◌⊎◌, inl, inr, false, List, [], ◌∷◌, ◌++◌, None, length, sym, ap, ◌∙◌, subst, arith}
use Rattle.std.proofs.Common.{append_assoc, length-append}
use Rattle.std.specs.List.{AllByRecursion, Contains}
use Rattle.std.proofs.lemmas.List.{append-nil}
use Rattle.steps.specs.Rows.{Row, accepted_by, command_of, version_in, published_in, last_or, is_sync, searches_of, count_searches}
use Rattle.steps.specs.LegalRows.{Limits}
use Rattle.steps.specs.Steps.{RunState, latest}
use Rattle.steps.specs.StepRows.{HasOwnEntry, unanswered, open_of, open_in, given_in, given_of, Rises, Stands, legal, waits, AllTurned, AreRows}
use Rattle.steps.proofs.RowLemmas.{unanswered-append, given_of-append, commands_of-push, published_in-push, count_searches-push, split_push}
use Rattle.steps.proofs.RowLemmas.{last_or-append, rises_append, no_sync_push}
use Rattle.steps.proofs.OpenLemmas.{open_in-append, no_open}
use Rattle.steps.proofs.EntryLemmas.{asks_is_search}

-- What one more row does. It may follow an open search only if it is no sync and there are readers.
pub record IsPushed (Holds : List ℕ → List ℕ → Type 0) (limits : Limits) (readers : ℕ) (s : RunState) (rows : List Row) (row : Row) (s' : RunState) : Type 0 where
  pub stands : Stands Holds limits readers (unanswered rows) row []
  pub may : (s.awaited ≡ []) ⊎ ((0 < readers) × (is_sync row.numbered.item ≡ false))
  pub accepted : s'.accepted ≡ s.accepted ++ accepted_by row.entry (command_of row.numbered.item row.loaded)
  pub published : s'.published ≡ s.published ++ version_in row.entry
  pub rises : Rises (latest s) (version_in row.entry)
  pub within : last_or (latest s) (version_in row.entry) ≤ length s.accepted
  pub searches : s'.searches ≡ s.searches + searches_of row.numbered.item
  pub awaited : s'.awaited ≡ s.awaited ++ open_of s.searches (latest s) row.numbered.item row.entry
  pub answers : s'.answers ≡ s.answers
  pub given : given_in row.entry ≡ []
  pub own : HasOwnEntry row

-- A row still stands if it may be followed by one more.
stands_push : (Holds : List ℕ → List ℕ → Type 0) (limits : Limits) (readers : ℕ) (front : List Row) (row : Row) (back : List Row) (next : Row)
    → (row.entry ≡ None → searches_of row.numbered.item ≡ 1 → (0 < readers) × (is_sync next.numbered.item ≡ false))
    → Stands Holds limits readers front row back → Stands Holds limits readers front row (back ++ next ∷ [])
stands_push Holds limits readers front row back next may (legal is) =
    legal (λ before after more e e' rises. is before after (next ∷ more) e (e' ∙ append_assoc back (next ∷ []) more) rises)
stands_push Holds limits readers front row back next may (waits request asks none no_sync alone) =
    let follows = may none (asks_is_search row.numbered.item request asks) in
    waits request asks none (no_sync_push back next no_sync follows.1) (λ zero. absurd (omega (arith, zero, follows.0)))

module _ (Holds : List ℕ → List ℕ → Type 0) (limits : Limits) (readers : ℕ) (s : RunState) (rows : List Row) (row : Row) (s' : RunState)
    (are : AreRows Holds limits readers s rows) (push : IsPushed Holds limits readers s rows row s') where
  may_follow : (before : List Row) (row' : Row) (after : List Row) → rows ≡ before ++ row' ∷ after → row'.entry ≡ None
      → searches_of row'.numbered.item ≡ 1 → (0 < readers) × (is_sync row.numbered.item ≡ false)
  may_follow before row' after whole none one = by push.may
    where
      by : (s.awaited ≡ []) ⊎ ((0 < readers) × (is_sync row.numbered.item ≡ false)) → (0 < readers) × (is_sync row.numbered.item ≡ false)
      by (inl empty) = absurd (no_open rows before row' after (sym are.awaited ∙ empty) whole none one)
      by (inr may) = may

  stand_push : (before : List Row) (row' : Row) (after : List Row) → rows ++ row ∷ [] ≡ before ++ row' ∷ after
      → Stands Holds limits readers (unanswered before) row' (unanswered after)
  stand_push before row' after e = by (split_push rows before after row row' e)
    where
      by : ((rows ≡ before) × (row ≡ row') × (after ≡ [])) ⊎ ((others : List Row) × (rows ≡ before ++ row' ∷ others) × (after ≡ others ++ row ∷ []))
          → Stands Holds limits readers (unanswered before) row' (unanswered after)
      by (inl here) =
          subst (λ a. Stands Holds limits readers (unanswered before) row' (unanswered a)) (sym here.2)
          (subst (λ r. Stands Holds limits readers (unanswered before) r []) here.1
          (subst (λ b. Stands Holds limits readers (unanswered b) row []) here.0 push.stands))
      by (inr within) =
          subst (λ a. Stands Holds limits readers (unanswered before) row' a)
          (sym (ap unanswered within.2 ∙ unanswered-append within.0 (row ∷ [])))
          (stands_push Holds limits readers (unanswered before) row' (unanswered within.0) _ (may_follow before row' within.0 within.1)
          (are.stand before row' within.0 within.1))

  open_push : s'.awaited ≡ open_in 0 0 (rows ++ row ∷ [])
  open_push =
      let item = row.numbered.item in
      let count : s.searches ≡ 0 + count_searches rows = omega (arith, are.searches) in
      push.awaited ∙ ap (λ l. l ++ open_of s.searches (latest s) item row.entry) are.awaited
      ∙ ap (λ n. open_in 0 0 rows ++ open_of n (latest s) item row.entry) count
      ∙ ap (λ l. open_in 0 0 rows ++ open_of (0 + count_searches rows) (last_or 0 l) item row.entry) are.published
      ∙ ap (λ l. open_in 0 0 rows ++ l) (sym (append-nil (open_of (0 + count_searches rows) (last_or 0 (published_in rows)) item row.entry)))
      ∙ sym (open_in-append 0 0 rows (row ∷ []))

  same_given : given_of (rows ++ row ∷ []) ≡ given_of rows
  same_given = given_of-append rows (row ∷ []) ∙ ap (λ g. given_of rows ++ (g ++ [])) push.given ∙ append-nil (given_of rows)

  pub rows_pushed : AreRows Holds limits readers s' (rows ++ row ∷ [])
  rows_pushed = record {
    accepted =
        push.accepted ∙ ap (λ c. c ++ accepted_by row.entry (command_of row.numbered.item row.loaded)) are.accepted
        ∙ sym (commands_of-push rows row);
    published = push.published ∙ ap (λ c. c ++ version_in row.entry) are.published ∙ sym (published_in-push rows row);
    rises = subst (Rises 0) (sym push.published) (rises_append 0 s.published (version_in row.entry) are.rises push.rises);
    within =
        omega (
          arith,
          push.within,
          ap (last_or 0) push.published ∙ last_or-append 0 s.published (version_in row.entry),
          ap length push.accepted ∙ length-append s.accepted (accepted_by row.entry (command_of row.numbered.item row.loaded)),
        );
    searches = omega (arith, push.searches, are.searches, count_searches-push rows row);
    awaited = open_push;
    stand = stand_push;
    turns = subst AllTurned (sym same_given) are.turns;
    noted =
        subst (λ l. AllByRecursion (Contains l) (given_of (rows ++ row ∷ []))) (sym push.answers)
        (subst (AllByRecursion (Contains s.answers)) (sym same_given) are.noted);
  }
