-- Where the set of a trigram stands.
use Rattle.std.specs.Prelude.{ℕ, List, [], ◌∷◌}
use Rattle.posting.specs.declared.part.Set.{Set}
use Rattle.posting.specs.declared.part.Set.TheVariants as set

-- the numbers of the set
abbrev pub members_of : Set → List ℕ
members_of set.Empty = []
members_of (set.One number) = number ∷ []
members_of (set.List list) = list.now.members
