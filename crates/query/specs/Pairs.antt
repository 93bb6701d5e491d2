-- What the program's pairs of texts mean.
use Rattle.std.specs.Prelude.{ℕ, List, [], ◌∷◌, take, drop}
use Rattle.query.specs.declared.pairs.Pairs.{Pairs}
use Rattle.query.specs.Texts.{Texts, joined_texts}

-- texts of these lengths, cut one after the other from the bytes
unfoldable pub cut_texts : List ℕ → List ℕ → Texts
cut_texts [] bytes = []
cut_texts (count ∷ lengths) bytes = take count bytes ∷ cut_texts lengths (drop count bytes)

-- all parts, the left ones and the right ones
abbrev pub parts_of : Pairs → Texts
parts_of pairs = cut_texts pairs.lengths.items pairs.bytes.items

-- every left part, followed by every right part
abbrev pub texts_in : Pairs → Texts
texts_in pairs = joined_texts (take pairs.lefts (parts_of pairs)) (drop pairs.rights (parts_of pairs))
