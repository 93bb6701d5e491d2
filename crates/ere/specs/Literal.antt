-- A text as a pattern in which every byte stands for itself, with case or without it.
use Rattle.std.specs.Prelude.{◌≡◌, ℕ, ◌+◌, ◌<◌, ◌≤◌, IsFalse, IsTrue, List, [], ◌∷◌, length, map, slice_index, if◌then◌else◌}
use Rattle.ere.specs.ByteSet.{is_line_byte, single}
use Rattle.ere.specs.Classes.{is_upper}
use Rattle.ere.specs.Letters.{read_in}
use Rattle.ere.specs.Limits.{greatest_pattern}
use Rattle.ere.specs.Spelling.{branch_of}
use Rattle.ere.specs.Tree.{Tree, set, Trees, none, more}
use Rattle.ere.specs.declared.case.Case.{Case}
use Rattle.ere.specs.declared.case.Case.TheVariants.{Exact, Ignore}
use Rattle.ere.specs.declared.error.EreError.{EreError}
use Rattle.ere.specs.declared.error.EreErrorKind.TheVariants.{TooLong, BadByte}

-- a capital letter as a small one if case is ignored; any other byte itself
abbrev pub folded : Case → ℕ → ℕ
folded Exact b = b
folded Ignore b = if is_upper b then b + 32 else b

-- The two texts are equal, but for the case of letters if it is ignored.
abbrev pub IsSameText : Case → List ℕ → List ℕ → Type 0
IsSameText case text word = map (folded case) text ≡ map (folded case) word

-- for each byte of a text the set that it is in a pattern
abbrev pub sets_of : Case → List ℕ → Trees
sets_of case [] = none
sets_of case (b ∷ text) = more (set (read_in case (single b))) (sets_of case text)

-- the tree of a text: one set after the other
abbrev pub literal_tree : Case → List ℕ → Tree
literal_tree case text = branch_of (sets_of case text)

-- The text is short enough for a pattern, and all its bytes are line bytes.
pub record IsPatternText (text : List ℕ) : Type 0 where
  pub short : length text ≤ greatest_pattern
  pub line_bytes : (k : ℕ) → k < length text → IsTrue (is_line_byte (slice_index text k))

-- Why a text is not one for a pattern. The length comes first, and then the first byte that is no line byte.
pub data IsTextFault (text : List ℕ) (fault : EreError) : Type 0 where
  too_long : greatest_pattern < length text → fault.kind ≡ TooLong → fault.at ≡ greatest_pattern → IsTextFault text fault
  bad_byte : length text ≤ greatest_pattern → fault.kind ≡ BadByte → fault.at < length text → IsFalse (is_line_byte (slice_index text fault.at))
      → ((k : ℕ) → k < fault.at → IsTrue (is_line_byte (slice_index text k))) → IsTextFault text fault

-- If the text is none for a pattern, the fault says why.
abbrev pub NamesTextFault : List ℕ → EreError → Type 0
NamesTextFault text fault = (IsPatternText text → ⊥) → IsTextFault text fault
