-- The laws of the analysis: what a known set of texts is, and why a document can be skipped.
use Rattle.std.specs.Prelude.{◌≡◌, ℕ, List, [], ◌∷◌, IsTrue, IsFalse, ◌↔◌, Contains}
use Rattle.ere.specs.Tree.{Tree}
use Rattle.ere.specs.Limits.{IsProper}
use Rattle.ere.specs.Language.{InLanguage, ContainsMatch}
use Rattle.ere.specs.Anchors.{without_anchors}
use Rattle.lines.specs.Lines.{lines_of}
use Rattle.query.specs.Trigrams.{TrigramSet, trigrams_of_text, trigrams_of_body, has_all_trigrams}
use Rattle.trigram.specs.Texts.{Texts, has_text, distinct}
use Rattle.trigram.specs.Analysis.{known, analysis_of, Condition}

-- A known set is exactly the words of the tree when each anchor is replaced by the empty text.
abbrev pub KnownTextsAreTheWords : Type 0
KnownTextsAreTheWords =
    (tree : Tree) (texts : Texts) → IsProper tree → analysis_of tree ≡ known texts → (before word after : List ℕ)
    → IsTrue (has_text texts word) ↔ InLanguage (without_anchors tree) before word after

-- The trigrams of a body with a line that contains a word of the tree meet the condition of the tree.
abbrev pub MatchingLineMeetsCondition : Type 0
MatchingLineMeetsCondition =
    (tree : Tree) (body line : List ℕ) → Contains (lines_of body) line → ContainsMatch tree line → Condition tree (trigrams_of_body body)

-- `has_all_trigrams` is true of a set and a text exactly if each trigram of the text is in the set.
abbrev pub TrigramsAreHeld : Type 0
TrigramsAreHeld =
    (text : List ℕ) (set : TrigramSet) → IsTrue (has_all_trigrams text set) ↔ ((trigram : ℕ) → IsTrue (trigrams_of_text text trigram) → IsTrue (set trigram))

-- No text is in the list twice.
abbrev pub HasEachOnce : Texts → Type 0
HasEachOnce [] = Unit {0}
HasEachOnce (text ∷ texts) = IsFalse (has_text texts text) × HasEachOnce texts

-- A set made from a list has the texts of the list and no others, each once. So its length is the number of
-- different texts, whatever their order and however often each is in the list.
abbrev pub SetsHaveEachTextOnce : Type 0
SetsHaveEachTextOnce =
    (texts : Texts)
    → HasEachOnce (distinct texts) × ((word : List ℕ) → IsTrue (has_text (distinct texts) word) ↔ IsTrue (has_text texts word))
