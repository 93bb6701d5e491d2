-- What is read of an input is determined by its bytes.
use Rattle.std.specs.Prelude.{◌≡◌, ℕ, List, ◌++◌, Some, None}
use Rattle.script.specs.Items.{Numbered, IsItemsOf}
use Rattle.input.specs.declared.read_item.ReadItem.{ReadItem}
use Rattle.input.specs.Read.{AreShown, IsReadOf, EndsBy}

-- What was read of known bytes shows the first of their items.
abbrev pub ReadItemsAreFirst : Type 0
ReadItemsAreFirst =
    (bytes : List ℕ) (read : List ReadItem) (all : List Numbered) → IsReadOf (Some bytes) read → IsItemsOf bytes all
    → (items : List Numbered) × (others : List Numbered) × (all ≡ items ++ others) × AreShown read items

-- If the reading ended without an error, it shows all of them.
abbrev pub ReadItemsAreAll : Type 0
ReadItemsAreAll =
    (bytes : List ℕ) (read : List ReadItem) (all : List Numbered) → EndsBy (Some bytes) read None → IsItemsOf bytes all → AreShown read all
