-- The steps by which a query is joined and simplified.
use Rattle.std.specs.Prelude.{◌≡◌, ◌<◌, ◌≤◌, length, Bool, true, false, List, Option, Some, None}
use Rattle.query.specs.declared.query.Connective.{Connective}
use Rattle.query.specs.declared.query.Connective.TheVariants.{And, Or}
use Rattle.query.specs.Trigrams.{TrigramSet}
use Rattle.query.specs.Query.{Formula, Formulas, always, never, formulas_of, is_met, are_all_met, is_one_met, is_all_of, is_one_of}
use Rattle.query.specs.Query.{AreReducedParts, IsPlain, joined}

abbrev pub are_met : Connective → Formulas → TrigramSet → Bool
are_met And members set = are_all_met members set
are_met Or members set = is_one_met members set

abbrev pub is_of : Connective → Formula → Bool
is_of And formula = is_all_of formula
is_of Or formula = is_one_of formula

-- the constant that adds nothing to a conjunction or a disjunction
abbrev pub idle : Connective → Bool
idle And = true
idle Or = false

-- the truth of a constant
abbrev pub constant_of : Formula → Option Bool
constant_of always = Some true
constant_of never = Some false
constant_of _ = None

-- These are the members of a reduced formula of this connective; of another formula, they are the formula itself.
pub record AreMembersOf (connective : Connective) (formula : Formula) (members : List Formula) : Type 0 where
  pub parts : AreReducedParts (is_of connective) (formulas_of members)
  pub some : 0 < length members
  pub met : (set : TrigramSet) → are_met connective (formulas_of members) set ≡ is_met formula set

-- The members with further ones; those that are already there may be left out.
pub record HasTakenIn (connective : Connective) (old further new : List Formula) : Type 0 where
  pub parts : AreReducedParts (is_of connective) (formulas_of new)
  pub more : length old ≤ length new
  pub met : (set : TrigramSet)
      → are_met connective (formulas_of new) set
      ≡ joined connective (are_met connective (formulas_of old) set) (are_met connective (formulas_of further) set)

-- It is plain, and a set meets it exactly if it meets all members, or at least one, as the connective says.
pub record IsCompound (connective : Connective) (members : List Formula) (whole : Formula) : Type 0 where
  pub plain : IsPlain whole
  pub met : (set : TrigramSet) → is_met whole set ≡ are_met connective (formulas_of members) set

-- Adding the formula to the members changes nothing.
abbrev pub AddsNothing : Connective → List Formula → Formula → Type 0
AddsNothing connective members formula =
    (set : TrigramSet) → joined connective (are_met connective (formulas_of members) set) (is_met formula set) ≡ are_met connective (formulas_of members) set
