-- What is read is determined by the files.
use Rattle.std.specs.Prelude.{◌≡◌, ℕ, List, Option, Some, take}
use Rattle.program.specs.Reads.{IsLoadFrom, IsReadFrom}

module _ (opens : List ℕ → Option (List ℕ) → Type 0) where
  -- If the file at a path has these bytes and no others, what is read from the path is their front.
  abbrev pub ReadsAreOne : Type 0
  ReadsAreOne =
      (path all : List ℕ) (most : ℕ) (bytes : List ℕ) → ((found : Option (List ℕ)) → opens path found → found ≡ Some all)
      → IsReadFrom opens path most bytes → bytes ≡ take most all

  -- Nothing is loaded from a path where no regular file was seen.
  abbrev pub LoadsAreOfFiles : (List ℕ → Type 0) → Type 0
  LoadsAreOfFiles has_file = (most : ℕ) (path bytes : List ℕ) → (has_file path → ⊥) → IsLoadFrom opens has_file most path bytes → ⊥
