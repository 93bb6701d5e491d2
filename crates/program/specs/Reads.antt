-- What the program takes as the bytes of its script and of a file that is loaded.
use Rattle.std.specs.Prelude.{◌≡◌, ◌+◌, ℕ, List, take, Option, Some, None, IfSome}
use Rattle.std.specs.Borrow.{Bor}
use Rattle.std.specs.Str.{IsUtf8}
use Rattle.script.specs.declared.line.TheConstants.{MAX_SCRIPT}

-- The bytes are those of the file at the path, or the first `most` of them. If the bytes of the file are not known, nothing
-- more is said. `opens path all`: the file at the path has these bytes in all, or they are not known.
pub record IsReadFrom (opens : List ℕ → Option (List ℕ) → Type 0) (path : List ℕ) (most : ℕ) (bytes : List ℕ) : Type 0 where
  pub all : Option (List ℕ)
  pub opened : opens path all
  pub read : IfSome all (λ all. bytes ≡ take most all)

-- The script is the file at the path that is named, or else what the input has left. At most one byte more
-- than a script may have is read.
abbrev pub IsScriptFrom : (List ℕ → Option (List ℕ) → Type 0) → Option (List ℕ) → Option (Bor (List ℕ)) → List ℕ → Type 0
IsScriptFrom opens input (Some path) script = IsReadFrom opens path.now (MAX_SCRIPT + 1) script
IsScriptFrom opens input None script = IfSome input (λ all. script ≡ take (MAX_SCRIPT + 1) all)

-- A session reads the file at the path that is named, or else the input.
abbrev pub IsInputFrom : (List ℕ → Option (List ℕ) → Type 0) → Option (List ℕ) → Option (Bor (List ℕ)) → Option (List ℕ) → Type 0
IsInputFrom opens input (Some path) all = opens path.now all
IsInputFrom opens input None all = all ≡ input

-- A load takes the file at its path, which is UTF-8, and at which a regular file was seen. At most one byte more than a
-- body may have, which is `most`, is read.
pub record IsLoadFrom (opens : List ℕ → Option (List ℕ) → Type 0) (has_file : List ℕ → Type 0) (most : ℕ) (path bytes : List ℕ) : Type 0 where
  pub text : IsUtf8 path
  pub regular : has_file path
  pub read : IsReadFrom opens path (most + 1) bytes
