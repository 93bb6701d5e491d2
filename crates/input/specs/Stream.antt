-- What a stream of items takes from its input.
use Rattle.std.specs.Prelude.{◌⊎◌, ℕ, List, [], ◌∷◌, ◌++◌, Option, Some, None, Ok, Err, Bool, true, false, IsTrue, OnSome, ⊤}
use Rattle.std.specs.declared.result.Result.{Result}
use Rattle.std.specs.Io.KnownBytes.{IsAtEnd}
use Rattle.script.specs.Items.{Item, Numbered, numbered, ItemsFrom}
use Rattle.input.specs.Owned.{ShowsOwned}
use Rattle.input.specs.declared.read_item.ReadItem.{ReadItem}
use Rattle.input.specs.declared.error.StreamError.{StreamError}

-- the number of the line that comes next, and whether the reading has ended
pub record StreamState : Type 0 where
  pub line : ℕ
  pub ended : Bool

-- the state of a stream, by its parts
abbrev pub stream_at : ℕ → Bool → StreamState
stream_at line ended = record { line = line; ended = ended }

-- The bytes begin at the line of the first number: lines that are skipped, and then this item. What follows them begins at the line of
-- the second number.
abbrev pub IsNextItem : ℕ → List ℕ → Numbered → ℕ → Type 0
IsNextItem line bytes item next = (rest : List ℕ) (items : List Numbered) → ItemsFrom next rest items → ItemsFrom line (bytes ++ rest) (item ∷ items)

-- The bytes begin at the line of the number, and the reading ends with this item, after lines that are skipped. The input is at its end,
-- and the bytes have no other item; or it is a fault: whatever follows the bytes, they have this item and no more. `was` is what the
-- input had before the bytes, and `left` what it has after them.
pub data IsLastItem (line : ℕ) (bytes : List ℕ) (item : Numbered) (was left : Option (List ℕ)) : Type 0 where
  at_end : OnSome was (IsAtEnd left) → ItemsFrom line bytes (item ∷ []) → IsLastItem line bytes item was left
  at_fault : ((rest : List ℕ) → ItemsFrom line (bytes ++ rest) (item ∷ [])) → IsLastItem line bytes item was left

-- the item of these bytes; if `true`, the reading ends with it
abbrev pub IsItemOf : Bool → ℕ → List ℕ → Numbered → ℕ → Option (List ℕ) → Option (List ℕ) → Type 0
IsItemOf false line bytes item next was left = IsNextItem line bytes item next
IsItemOf true line bytes item next was left = IsLastItem line bytes item was left

-- An item was taken from an input, as these bytes. `was` is what the input had before them, and `left` what it has
-- after them.
pub record Takes (old : StreamState) (read : ReadItem) (new : StreamState) (bytes : List ℕ) (was left : Option (List ℕ)) : Type 0 where
  pub item : Item
  pub shows : ShowsOwned read.item item
  pub whole : IsItemOf new.ended old.line bytes (numbered read.line item) new.line was left

-- What a call returns, if these bytes were taken from the input.
abbrev pub IsNext : StreamState → Result (Option ReadItem) StreamError → StreamState → List ℕ → Option (List ℕ) → Option (List ℕ) → Type 0
IsNext old (Ok (Some read)) new bytes was left = Takes old read new bytes was left
IsNext old (Ok None) new bytes was left = ItemsFrom old.line bytes [] × IsTrue new.ended × (IsTrue old.ended ⊎ OnSome was (IsAtEnd left))
IsNext old (Err error) new bytes was left = ⊤
