-- Lines that were found, those of a document, and answers.
use Rattle.std.specs.Prelude.{ℕ, suc, List, [], ◌∷◌}
use Rattle.lines.specs.Lines.{lines_of}

-- a line that was found: its document's name, its number from 1, and its text
pub record Hit : Type 0 where
  pub name : List ℕ
  pub line : ℕ
  pub text : List ℕ

-- an answer: its version, which is the number of commands; the lines found; how many documents there are; and how
-- many of them are candidates
pub record Answer : Type 0 where
  pub version : ℕ
  pub hits : List Hit
  pub documents : ℕ
  pub candidates : ℕ

-- a hit, by its parts
abbrev pub found : List ℕ → ℕ → List ℕ → Hit
found name line text = record { name = name; line = line; text = text }

-- the lines of the document with this name, of which the first has the number `line`
unfoldable pub numbered : List ℕ → ℕ → List (List ℕ) → List Hit
numbered name line [] = []
numbered name line (text ∷ texts) = found name line text ∷ numbered name (suc line) texts

-- the lines of a body, from number 1 on
abbrev pub lines_of_document : List ℕ → List ℕ → List Hit
lines_of_document name body = numbered name 1 (lines_of body)
