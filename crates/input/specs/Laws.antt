-- What is taken from an input is determined by its bytes.
use Rattle.std.specs.Prelude.{◌≡◌, ℕ, List, [], ◌∷◌, Option, Some, IsTrue, IsFalse}
use Rattle.std.specs.Io.KnownBytes.{Consumes}
use Rattle.script.specs.Items.{Item, Numbered, numbered, ItemsFrom}
use Rattle.input.specs.Owned.{ShowsOwned}
use Rattle.input.specs.Stream.{StreamState, Takes}
use Rattle.input.specs.declared.read_item.ReadItem.{ReadItem}

-- An item that is taken from an input of known bytes is the first of its items. If the reading ends with it, the input has no other.
abbrev pub TakenItemIsFirst : Type 0
TakenItemIsFirst =
    (old new : StreamState) (taken : ReadItem) (input bytes : List ℕ) (left : Option (List ℕ)) → Consumes (Some input) left bytes
    → Takes old taken new bytes (Some input) left
    → (item : Item) × ShowsOwned taken.item item
    × ((items : List Numbered) × ItemsFrom old.line input (numbered taken.line item ∷ items) × (IsTrue new.ended → items ≡ []))

-- Two items that are taken as the same bytes are on the same line, and show the same.
abbrev pub TakenItemsAreOne : Type 0
TakenItemsAreOne =
    (old new new' : StreamState) (taken taken' : ReadItem) (bytes : List ℕ) (was was' left left' : Option (List ℕ))
    → Takes old taken new bytes was left → Takes old taken' new' bytes was' left'
    → (taken.line ≡ taken'.line) × ((item : Item) × ShowsOwned taken.item item × ShowsOwned taken'.item item)

-- If the reading goes on after both, the next line has the same number.
abbrev pub NextLinesAreOne : Type 0
NextLinesAreOne =
    (old new new' : StreamState) (taken taken' : ReadItem) (bytes : List ℕ) (was was' left left' : Option (List ℕ))
    → Takes old taken new bytes was left → Takes old taken' new' bytes was' left' → IsFalse new.ended → IsFalse new'.ended
    → new.line ≡ new'.line

-- Bytes as which an item is taken do not have no items.
abbrev pub TakenBytesHaveAnItem : Type 0
TakenBytesHaveAnItem =
    (old new : StreamState) (taken : ReadItem) (bytes : List ℕ) (was left : Option (List ℕ))
    → Takes old taken new bytes was left → ItemsFrom old.line bytes [] → ⊥
