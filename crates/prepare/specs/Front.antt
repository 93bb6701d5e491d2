-- The text with which the names begin that a search asks for.
use Rattle.std.specs.Prelude.{◌≡◌, ℕ, List, [], All, if◌then◌else◌, length, take}
use Rattle.prepare.specs.Anchored.{anchored_text}
use Rattle.prepare.specs.Pattern.{Passes, Test}

-- the text at the front of the test's tree; empty if the test is inverted
abbrev pub front_by : Test → List ℕ
front_by test = if test.inverted then [] else anchored_text test.tree

-- Every name that passes all of the tests begins with the text.
abbrev pub IsFrontOf : List Test → List ℕ → Type 0
IsFrontOf tests text = (name : List ℕ) → All (λ test. Passes test name) tests → take (length text) name ≡ text
