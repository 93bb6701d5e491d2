-- Trigrams: three consecutive bytes of a text (Russ Cox, "Regular Expression Matching with a Trigram
-- Index", 2012). A trigram is a number, and a set of trigrams is a test of numbers.
use Rattle.std.specs.Prelude.{ℕ, ◌+◌, ◌*◌, Bool, true, false, ◌&&◌, ◌||◌, ◌==◌, IsTrue, ◌↔◌, List, [], ◌∷◌, Contains}
use Rattle.std.specs.List.{list_any}
use Rattle.std.specs.List.Sorted.{IsStrictlyIncreasing}
use Rattle.lines.specs.Lines.{lines_of}

-- a set of trigrams
abbrev pub TrigramSet : Type 0
TrigramSet = ℕ → Bool

-- the number of three bytes
abbrev pub trigram_of : ℕ → ℕ → ℕ → ℕ
trigram_of a b c = 65536 * a + 256 * b + c

-- the trigram at the front of the text, if it has three bytes
abbrev pub front_trigram : List ℕ → TrigramSet
front_trigram (a ∷ b ∷ c ∷ text) trigram = trigram == trigram_of a b c
front_trigram _ trigram = false

-- the trigrams of the text: every three consecutive bytes
unfoldable pub trigrams_of_text : List ℕ → TrigramSet
trigrams_of_text [] trigram = false
trigrams_of_text (b ∷ text) trigram = front_trigram (b ∷ text) trigram || trigrams_of_text text trigram

-- the trigrams of the lines of a body, so none contains a line feed
unfoldable pub trigrams_of_body : List ℕ → TrigramSet
trigrams_of_body body trigram = list_any (λ line. trigrams_of_text line trigram) (lines_of body)

-- The list has the trigrams of the body, rising, each once.
pub record ListsTrigrams (body trigrams : List ℕ) : Type 0 where
  pub rising : IsStrictlyIncreasing trigrams
  pub members : (trigram : ℕ) → Contains trigrams trigram ↔ IsTrue (trigrams_of_body body trigram)

-- whether the trigram at the front of the text, if it has three bytes, is in the set
abbrev pub holds_front : List ℕ → TrigramSet → Bool
holds_front (a ∷ b ∷ c ∷ text) set = set (trigram_of a b c)
holds_front _ set = true

-- whether all trigrams of the text are in the set; a text shorter than three bytes has none
unfoldable pub has_all_trigrams : List ℕ → TrigramSet → Bool
has_all_trigrams [] set = true
has_all_trigrams (b ∷ text) set = holds_front (b ∷ text) set && has_all_trigrams text set
