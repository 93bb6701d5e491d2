-- Which names a set of names has.
use Rattle.std.specs.Prelude.{ℕ, Bool, not, List, map, filter, length, nat_lt, bytes_eq}
use Rattle.std.specs.List.{list_any}
use Rattle.std.specs.Ordering.{nat_cmp}
use Rattle.std.specs.Cmp.Lexicographic.{slice_cmp}
use Rattle.std.specs.BTreeSet.{contains}
use Rattle.prefixes.specs.Under.{begins_with}
use Rattle.documents.specs.Documents.{renamed}
use Rattle.published.specs.declared.names.Names.{Names}

abbrev pub has_name : Names → List ℕ → Bool
has_name set = contains (slice_cmp nat_cmp) set.names

-- whether some name of the set begins with the text
abbrev pub has_name_under : Names → List ℕ → Bool
has_name_under set text = list_any (begins_with text) set.names.keys

-- whether some name of the set that begins with `from` has more bytes than this with `to` in its place
abbrev pub has_long_copy : Names → ℕ → List ℕ → List ℕ → Bool
has_long_copy set most from to = list_any (λ name. nat_lt most (length (renamed from to name))) (filter (begins_with from) set.names.keys)

-- whether it is one of these names
abbrev pub is_one_of : List (List ℕ) → List ℕ → Bool
is_one_of names name = list_any (λ other. bytes_eq other name) names

-- the names that these get with `to` in place of `from`, but for those that the set has
abbrev pub new_copies : Names → List ℕ → List ℕ → List (List ℕ) → List (List ℕ)
new_copies set from to names = filter (λ name. not (has_name set name)) (map (renamed from to) names)

-- the names of the set that begin with the text
abbrev pub names_under : Names → List ℕ → List (List ℕ)
names_under set text = filter (begins_with text) set.names.keys
