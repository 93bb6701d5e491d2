-- Bytes that are read into a body, or passed over, and the byte after them.
use Rattle.std.specs.Prelude.{◌≡◌, ◌≢◌, ℕ, ◌<◌, ◌≤◌, List, [], ◌∷◌, ◌++◌, length, take, Option, Some, None, Ok, Err, Bool, IsFalse, OnSome, ⊤}
use Rattle.std.specs.declared.result.Result.{Result}
use Rattle.std.specs.Io.KnownBytes.{IsAtEnd}
use Rattle.script.specs.Items.{line_feeds}
use Rattle.input.specs.declared.error.StreamError.{StreamError}
use Rattle.input.specs.declared.body.Passed.{Passed}
use Rattle.input.specs.declared.body.PassedPiece.{PassedPiece}
use Rattle.input.specs.declared.body.Closing.{Closing}
use Rattle.input.specs.declared.body.Closing.TheVariants.{LineFeed, OtherByte, InputEnd}
use Rattle.input.specs.declared.body.PutBody.{PutBody}
use Rattle.input.specs.declared.body.PutBody.TheVariants.{Kept, Skipped}
use Rattle.input.specs.declared.body.PutBytes.{PutBytes}

-- this many bytes, or fewer if the input ends first
abbrev pub IsUpTo : List ℕ → ℕ → Option (List ℕ) → Option (List ℕ) → Type 0
IsUpTo bytes most was left = (length bytes ≤ most) × (length bytes < most → OnSome was (IsAtEnd left))

-- bytes were appended to a body; `false` means that the input has ended
abbrev pub Appends : ℕ → List ℕ → Result Bool StreamError → List ℕ → List ℕ → Option (List ℕ) → Option (List ℕ) → Type 0
Appends most old (Ok more) new bytes was left = (new ≡ old ++ bytes) × (length bytes ≤ most) × (IsFalse more → OnSome was (IsAtEnd left))
Appends most old (Err error) new bytes was left = ⊤

-- the bytes are the body: as many as its size says, or fewer if the input ends first
abbrev pub Fills : {A : Type 0} → ℕ → Result A StreamError → List ℕ → List ℕ → Option (List ℕ) → Option (List ℕ) → Type 0
Fills size (Ok done) body bytes was left = (body ≡ bytes) × IsUpTo bytes size was left
Fills size (Err error) body bytes was left = ⊤

abbrev pub Counts : Passed → List ℕ → Type 0
Counts passed bytes = (passed.count ≡ length bytes) × (passed.line_feeds ≡ line_feeds bytes)

-- a piece was passed over; if `more` is `false`, the input has ended
abbrev pub PassesPiece : ℕ → Result PassedPiece StreamError → List ℕ → Option (List ℕ) → Option (List ℕ) → Type 0
PassesPiece most (Ok piece) bytes was left = Counts piece.passed bytes × (length bytes ≤ most) × (IsFalse piece.more → OnSome was (IsAtEnd left))
PassesPiece most (Err error) bytes was left = ⊤

abbrev pub Passes : ℕ → Result Passed StreamError → List ℕ → Option (List ℕ) → Option (List ℕ) → Type 0
Passes size (Ok passed) bytes was left = Counts passed bytes × IsUpTo bytes size was left
Passes size (Err error) bytes was left = ⊤

-- what follows a body
abbrev pub Closes : Closing → List ℕ → Option (List ℕ) → Option (List ℕ) → Type 0
Closes LineFeed bytes was left = bytes ≡ 10 ∷ []
Closes OtherByte bytes was left = (b : ℕ) × (bytes ≡ b ∷ []) × (b ≢ 10)
Closes InputEnd bytes was left = (bytes ≡ []) × OnSome was (IsAtEnd left)

-- the byte at the front, if there is one
abbrev pub IsNextByte : List ℕ → Closing → ℕ → Type 0
IsNextByte shown LineFeed taken = take taken shown ≡ 10 ∷ []
IsNextByte shown OtherByte taken = (b : ℕ) × (take taken shown ≡ b ∷ []) × (b ≢ 10)
IsNextByte shown InputEnd taken = (taken ≡ 0) × (length shown ≡ 0)

abbrev pub Looks : Result (Option Closing) StreamError → List ℕ → Option (List ℕ) → Option (List ℕ) → Type 0
Looks (Ok (Some closing)) bytes was left = Closes closing bytes was left
Looks (Ok None) bytes was left = bytes ≡ []
Looks (Err error) bytes was left = ⊤

abbrev pub IsClosing : Result Closing StreamError → List ℕ → Option (List ℕ) → Option (List ℕ) → Type 0
IsClosing (Ok closing) bytes was left = Closes closing bytes was left
IsClosing (Err error) bytes was left = ⊤

-- what is kept of a body
abbrev pub Holds : PutBody → List ℕ → Type 0
Holds (Kept body) bytes = body.items ≡ bytes
Holds Skipped bytes = ⊤

abbrev pub IsPutBytes : ℕ → Result PutBytes StreamError → List ℕ → Option (List ℕ) → Option (List ℕ) → Type 0
IsPutBytes size (Ok put) bytes was left = Holds put.body bytes × Counts put.passed bytes × IsUpTo bytes size was left
IsPutBytes size (Err error) bytes was left = ⊤
