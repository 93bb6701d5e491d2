-- The rule under which the two copies are read and exchanged.
use Rattle.std.specs.Prelude.{◌≡◌, ℕ, List, Option, Some, IfSome, IsSomeAnd}
use mathlib.Core.Option.{some}
use lib.ListN.{get_elem?}
use Rattle.logbook.specs.Pages.{Book}
use Rattle.documents.specs.State.{state_of}
use Rattle.desk.specs.History.{Known}
use Rattle.desk.specs.Private.Sight.{Sight}

-- the index is the result of the commands of the front
abbrev pub IsExact : Sight → Type 0
IsExact shown = shown.index ≡ state_of shown.front.commands

-- what was met, if anything, is of this opening
abbrev pub IsOf : Book → Option Known → Type 0
IsOf opening met = IfSome met (λ front. front.opening ≡ opening)

pub record IsKept (shown : Sight) (seats : List (Option Known)) : Type 0 where
  pub exact : IsExact shown
  pub one : (seat : ℕ) (met : Option Known) → get_elem? seats seat ≡ some met → IsOf shown.front.opening met

-- what a step from one sight to another says about the seat that makes it
pub record Meets (before : Option Known) (old new : Sight) (after : Option Known) : Type 0 where
  pub exact : IsExact new
  pub met : after ≡ Some new.front
  pub one : IsOf new.front.opening before

-- something of this opening was met
abbrev pub HasMet : Book → Option Known → Type 0
HasMet opening met = IsSomeAnd met (λ front. front.opening ≡ opening)
