-- Those of the lines, and of the documents, that a search keeps.
use Rattle.std.specs.Prelude.{List, [], ◌∷◌, All}
use Rattle.documents.specs.declared.document.SharedDocument.{SharedDocument}
use Rattle.prepare.specs.Pattern.{Admits, Test, Passes, Pattern}
use Rattle.views.specs.Found.{Hit}

-- The second list has those members of the first that have the property, in the same order.
pub data Selects {X : Type 0} (Has : X → Type 0) : List X → List X → Type 0 where
  done : Selects Has [] []
  keep : {x : X} {all kept : List X} → Has x → Selects Has all kept → Selects Has (x ∷ all) (x ∷ kept)
  skip : {x : X} {all kept : List X} → (Has x → ⊥) → Selects Has all kept → Selects Has (x ∷ all) kept

-- the line passes the test
abbrev pub IsAsked : Test → Hit → Type 0
IsAsked test f = Passes test f.text

-- The document's name, taken as a line, passes the test.
abbrev pub IsNamed : Test → SharedDocument → Type 0
IsNamed test document = Passes test document.name

-- It passes all of these tests.
abbrev pub IsNamedForAll : List Test → SharedDocument → Type 0
IsNamedForAll tests document = All (λ test. IsNamed test document) tests

-- Documents of its name are searched.
abbrev pub IsAdmitted : Pattern → SharedDocument → Type 0
IsAdmitted pattern document = Admits pattern document.name
