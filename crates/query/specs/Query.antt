-- Queries over sets of trigrams as plain data, without their place in memory, and when a set meets one.
use Rattle.std.specs.Prelude.{◌≡◌, ℕ, Bool, true, false, ◌&&◌, ◌||◌, IsFalse, List, [], ◌∷◌}
use Rattle.query.specs.declared.query.Query.{Query, Query-F}
use Rattle.query.specs.declared.query.Query.TheOpen as layer
use Rattle.query.specs.declared.query.Query.TheFolds.{fold-Query}
use Rattle.query.specs.declared.query.Connective.{Connective}
use Rattle.query.specs.declared.query.Connective.TheVariants.{And, Or}
use Rattle.query.specs.Trigrams.{TrigramSet}
use Rattle.query.specs.Texts.{Texts, has_all_of_one}
use Rattle.query.specs.Pairs.{texts_in}

mutual
  pub data Formula : Type 0 where
    always : Formula
    never : Formula
    has : ℕ → Formula
    texts : Texts → Formula
    all_of : Formulas → Formula
    one_of : Formulas → Formula

  -- a list of formulas
  pub data Formulas : Type 0 where
    none : Formulas
    more : Formula → Formulas → Formulas

-- the formulas of a list
abbrev pub formulas_of : List Formula → Formulas
formulas_of [] = none
formulas_of (formula ∷ formulas) = more formula (formulas_of formulas)

-- one layer of a program's query, with the formulas of its members
abbrev pub formula_step : Query-F Formula → Formula
formula_step layer.Any = always
formula_step layer.None = never
formula_step (layer.Has trigram) = has trigram
formula_step (layer.Pairs pairs) = texts (texts_in pairs.value)
formula_step (layer.And members) = all_of (formulas_of members.items)
formula_step (layer.Or members) = one_of (formulas_of members.items)

-- the formula of a program's query
unfoldable pub formula_of : Query → Formula
formula_of = fold-Query Formula formula_step

unfoldable mutual
  -- whether a set of trigrams meets the formula
  pub is_met : Formula → TrigramSet → Bool
  is_met always set = true
  is_met never set = false
  is_met (has trigram) set = set trigram
  is_met (texts several) set = has_all_of_one several set
  is_met (all_of members) set = are_all_met members set
  is_met (one_of members) set = is_one_met members set

  -- whether a set meets each of the formulas
  pub are_all_met : Formulas → TrigramSet → Bool
  are_all_met none set = true
  are_all_met (more member members) set = is_met member set && are_all_met members set

  -- whether a set meets at least one of the formulas
  pub is_one_met : Formulas → TrigramSet → Bool
  is_one_met none set = false
  is_one_met (more member members) set = is_met member set || is_one_met members set

-- whether the formula is a conjunction
abbrev pub is_all_of : Formula → Bool
is_all_of (all_of members) = true
is_all_of _ = false

-- whether the formula is a disjunction
abbrev pub is_one_of : Formula → Bool
is_one_of (one_of members) = true
is_one_of _ = false

-- There are at least two formulas.
abbrev pub HasTwo : Formulas → Type 0
HasTwo none = ⊥
HasTwo (more member none) = ⊥
HasTwo (more member (more next members)) = Unit {0}

unfoldable mutual
  -- No constant in it; each conjunction and disjunction has at least two members, and none is directly
  -- in one of its own kind.
  pub IsReduced : Formula → Type 0
  IsReduced always = ⊥
  IsReduced never = ⊥
  IsReduced (has trigram) = Unit {0}
  IsReduced (texts several) = Unit {0}
  IsReduced (all_of members) = HasTwo members × AreReducedParts is_all_of members
  IsReduced (one_of members) = HasTwo members × AreReducedParts is_one_of members

  -- each is reduced, and not of this kind
  pub AreReducedParts : (Formula → Bool) → Formulas → Type 0
  AreReducedParts kind none = Unit {0}
  AreReducedParts kind (more member members) = IsReduced member × IsFalse (kind member) × AreReducedParts kind members

-- It is a constant, or it contains no constant and is reduced.
abbrev pub IsPlain : Formula → Type 0
IsPlain always = Unit {0}
IsPlain never = Unit {0}
IsPlain (has trigram) = Unit {0}
IsPlain (texts several) = Unit {0}
IsPlain (all_of members) = IsReduced (all_of members)
IsPlain (one_of members) = IsReduced (one_of members)

-- the truth of two joined by "and" or by "or"
abbrev pub joined : Connective → Bool → Bool → Bool
joined And left right = left && right
joined Or left right = left || right

-- It is plain, and a set meets it exactly if it meets both, or at least one, as the connective says.
pub record IsJoin (connective : Connective) (left right whole : Formula) : Type 0 where
  pub plain : IsPlain whole
  pub met : (set : TrigramSet) → is_met whole set ≡ joined connective (is_met left set) (is_met right set)

-- It is plain, and the same sets meet it.
pub record IsSimplification (formula simple : Formula) : Type 0 where
  pub plain : IsPlain simple
  pub met : (set : TrigramSet) → is_met simple set ≡ is_met formula set

-- It is plain, and a set meets it exactly if it passes the test.
pub record IsPlainFor (test : TrigramSet → Bool) (formula : Formula) : Type 0 where
  pub plain : IsPlain formula
  pub met : (set : TrigramSet) → is_met formula set ≡ test set
