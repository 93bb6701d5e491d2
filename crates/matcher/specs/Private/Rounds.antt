-- Rounds of a repeat, each of which goes on only from new positions.
use Rattle.std.specs.Prelude.{ℕ, suc, IsTrue, List, ◌⊎◌}
use Rattle.spans.specs.PositionSets.{has_position}
use Rattle.spans.specs.Spans.{Relation, Steps}
use Rattle.matcher.specs.Private.Moves.{IsEither, IsNew, Moves, MovesPast}

-- by any number of steps
abbrev pub AnySteps : Relation → Relation
AnySteps relation from to = (count : ℕ) × Steps relation count from to

-- by one step or more
abbrev pub MoreSteps : Relation → Relation
MoreSteps relation from to = (more : ℕ) × Steps relation (suc more) from to

-- The relation leads to the position from a position of `done`.
abbrev pub Covered : Relation → List ℕ → ℕ → Type 0
Covered relation done to = (before : ℕ) × IsTrue (has_position done before) × relation before to

-- What rounds have found. Whatever a known position leads to is found or covered, unless the position is fresh.
-- Whatever a position in `over` leads to is found or covered.
pub record IsRounded (relation : Relation) (done start found over known fresh : List ℕ) : Type 0 where
  pub sound : (k : ℕ) → IsTrue (has_position found k) → (i : ℕ) × IsTrue (has_position start i) × MoreSteps relation i k
  pub begun : (k : ℕ) → IsTrue (has_position fresh k) → (i : ℕ) × IsTrue (has_position start i) × AnySteps relation i k
  pub knows_start : (k : ℕ) → IsTrue (has_position start k) → IsTrue (has_position known k)
  pub knows_found : (k : ℕ) → IsTrue (has_position found k) → IsTrue (has_position known k)
  pub closed : (k to : ℕ) → IsTrue (has_position known k) → relation k to
      → IsTrue (has_position fresh k) ⊎ (IsTrue (has_position found to) ⊎ Covered (MoreSteps relation) done to)
  pub over_closed : (k to : ℕ) → IsTrue (has_position over k) → relation k to → IsTrue (has_position found to) ⊎ Covered (MoreSteps relation) done to

-- Whatever the rounds started from, if the sets are what rounds have found, so are the next ones.
abbrev pub KeepsRounds : Relation → List ℕ → List ℕ → List ℕ → List ℕ → List ℕ → List ℕ → Type 0
KeepsRounds relation found known fresh found_next known_next fresh_next =
    (done start : List ℕ) → IsRounded relation done start found done known fresh → IsRounded relation done start found_next done known_next fresh_next

-- Whatever the rounds started from, `all` has the positions to which one step or more lead, as in `MovesPast`.
abbrev pub EndsRounds : Relation → List ℕ → List ℕ → List ℕ → List ℕ → List ℕ → Type 0
EndsRounds relation done found known fresh all =
    (start : List ℕ) → IsRounded relation done start found done known fresh → MovesPast (MoreSteps relation) done start all

-- one round from the fresh positions
pub record GoesOn (relation : Relation) (fresh found known fresh_next found_next known_next : List ℕ) : Type 0 where
  pub next : List ℕ
  pub unfound : List ℕ
  pub moves : Moves relation fresh next
  pub finds : IsEither found next found_next
  pub new : IsNew next found unfound
  pub knows : IsEither known unfound known_next
  pub new_known : IsNew unfound known fresh_next

-- Positions are added to which steps lead, and no others become known.
pub record IsWidened (relation : Relation) (here known here_next known_next : List ℕ) : Type 0 where
  pub keeps : (k : ℕ) → IsTrue (has_position here k) → IsTrue (has_position here_next k)
  pub sound : (k : ℕ) → IsTrue (has_position here_next k) → (i : ℕ) × IsTrue (has_position here i) × AnySteps relation i k
  pub knew : (k : ℕ) → IsTrue (has_position known k) → IsTrue (has_position known_next k)
  pub knows : (k : ℕ) → IsTrue (has_position known_next k) → IsTrue (has_position known k) ⊎ IsTrue (has_position here_next k)
