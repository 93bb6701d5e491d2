-- The two copies stay in step, and are exchanged.
use Rattle.std.proofs.Common.{◌≡◌, ℕ, List, [], ◌∷◌, ◌++◌, Option, drop, fold, sym, ap, subst, ◌∙◌, arith}
use Rattle.std.proofs.lemmas.List.{append-nil, drop_all}
use Rattle.left_right.specs.Register.{TurnsAt}
use Rattle.published.specs.History.{Known}
use Rattle.published.specs.declared.shelf.Operation.{Operation}
use Rattle.published.specs.declared.shelf.Update.{Update}
use Rattle.published.specs.declared.shelf.Operation.TheVariants.{Change, Stamp}
use Rattle.published.specs.declared.shelf.Shelf.{Shelf}
use Rattle.published.specs.declared.log.Log.{Log}
use Rattle.published.specs.Private.Shelf.{command_of, operated}
use Rattle.published.specs.Private.Rule.{IsExact, IsKept, Meets}
use Rattle.published.specs.Private.Copies.{CopiesState, InStep, IsAllDone, lacking, accepted_of, copies_state, copies_of}
use Rattle.published.proofs.ShelfLemmas.{accepted_of-change, next_front, next_exact}
use Rattle.published.proofs.Turns.{turns_at}

-- one more command is pending
pub one_more : (shown : Shelf) (pending pending' : List Operation) (update : Update) (was : CopiesState) → copies_of shown pending ≡ was
    → pending' ≡ pending ++ Change update ∷ [] → copies_of shown pending' ≡ copies_state was.shown (was.accepted ++ command_of update ∷ [])
one_more shown pending pending' update was seen more =
    ap (copies_of shown) more
    ∙ (ap (copies_state shown.front) (accepted_of-change shown pending update) ∙ ap (λ s. copies_state s.shown (s.accepted ++ command_of update ∷ [])) seen)

-- a spare copy that has each operation
pub all_in : (shown spare : Shelf) (log : Log) → IsAllDone log → InStep shown spare log → spare ≡ fold operated shown log.pending.items
all_in shown spare log done step =
    let none : lacking log ≡ [] =
    ap (λ l. l ++ drop log.ahead log.pending.items) done.0 ∙ drop_all log.ahead log.pending.items (omega (arith, done.1)) in
    ap (fold operated spare) (sym none) ∙ step

-- and the two change places
pub turned_step : (shown spare : Shelf) (log turned : Log) → IsAllDone log → InStep shown spare log → turned.behind.items ≡ log.pending.items
    → turned.pending.items ≡ [] → turned.ahead ≡ 0 → InStep spare shown turned
turned_step shown spare log turned done step behind none ahead =
    ap (λ l. fold operated shown (l ++ drop turned.ahead turned.pending.items)) behind
    ∙ (ap (λ l. fold operated shown (log.pending.items ++ drop turned.ahead l)) none
    ∙ (ap (λ n. fold operated shown (log.pending.items ++ drop n [])) ahead
    ∙ (ap (fold operated shown) (append-nil log.pending.items)
    ∙ (sym (all_in shown spare log done step) ∙ sym (ap (fold operated spare) none)))))

-- the shelf after the pending operations and the stamp of a front with all accepted commands
module _ (shown next : Shelf) (pending : List Operation) (front : Known) (is : next ≡ fold operated shown (pending ++ Stamp front ∷ [])) where
  pub exchange_turns : (seat : ℕ) (met : Option Known) (old : Shelf) → old ≡ shown → front.opening ≡ shown.front.opening → front.commands ≡ accepted_of shown pending
      → TurnsAt IsKept seat met old next Meets
  exchange_turns seat met old same opening all =
      turns_at seat met old next (ap (λ f. f.opening) (next_front shown next pending front is) ∙ (opening ∙ ap (λ s. s.front.opening) (sym same)))
      (λ exact. next_exact shown next pending front is all (subst IsExact same exact))

  pub exchanged : (left : List Operation) → left ≡ [] → copies_of next left ≡ copies_state front front.commands
  exchanged left none =
      ap (copies_of next) none
      ∙ (ap (λ c. copies_state next.front c) (append-nil next.front.commands)
      ∙ ap (λ f. copies_state f f.commands) (next_front shown next pending front is))
