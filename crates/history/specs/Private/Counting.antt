-- How a history is kept.
use Rattle.std.specs.Prelude.{◌≡◌, ℕ, ◌==◌, true, List, [], ◌∷◌, ◌++◌, length, MatchBool}
use Rattle.logbook.specs.Pages.{Cell, Step, View}

-- The first word is the number of entries. The second one is 0.
pub record IsCounted {E : Type 0} (cells : List Cell) (entries : List E) : Type 0 where
  pub words : cells ≡ (length entries, true) ∷ (0, true) ∷ []

-- the entry was added to all that had been known; or the history was longer, and nothing is said
abbrev pub Adds : {E : Type 0} → Step E → View E ℕ → ℕ → View E ℕ → Type 0
Adds step before found after = MatchBool (found == step.old) (after.0 ≡ before.0 ++ step.ask ∷ []) (Unit {0})
