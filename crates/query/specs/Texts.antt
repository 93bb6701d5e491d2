-- Lists of texts, and whether a set has all trigrams of one of them.
use Rattle.std.specs.Prelude.{ℕ, Bool, List, ◌++◌, map}
use Rattle.std.specs.List.{list_any, flat_map}
use Rattle.std.specs.declared.alloc.Global.{Global}
use Rattle.std.specs.declared.vec.Vec.{Vec}
use Rattle.query.specs.Trigrams.{TrigramSet, has_all_trigrams}

-- a list of texts
abbrev pub Texts : Type 0
Texts = List (List ℕ)

-- the texts of a program's list
abbrev pub texts_of : List (Vec ℕ Global) → Texts
texts_of texts = map (λ text. text.items) texts

-- every text of the first list, followed by every text of the second
abbrev pub joined_texts : Texts → Texts → Texts
joined_texts left right = flat_map (λ prefix. map (λ suffix. prefix ++ suffix) right) left

-- whether all trigrams of one of the texts are in the set
abbrev pub has_all_of_one : Texts → TrigramSet → Bool
has_all_of_one texts set = list_any (λ text. has_all_trigrams text set) texts
