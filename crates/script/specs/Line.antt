-- What one line of a script says by itself.
use Rattle.std.specs.Prelude.{◌≡◌, ℕ, List, IsTrue, IsFalse, ⊤}
use Rattle.script.specs.Items.{Item, load, remove, remove_under, copy_under, publish, search, search_in, find, sync, cancel, status, bad_line}
use Rattle.script.specs.Items.{is_blank, is_put, item_of_line, IsPutLine}
use Rattle.script.specs.declared.item.Item as line_item
use Rattle.script.specs.declared.item.Item.TheVariants as items
use Rattle.script.specs.declared.line.Line as program
use Rattle.script.specs.declared.line.Line.TheVariants as variants

-- an item, without the place of its bytes in memory
abbrev pub shown_item : line_item.Item → Item
shown_item (items.Load name path) = load name.now path.now
shown_item (items.Remove name) = remove name.now
shown_item (items.RemoveUnder prefix) = remove_under prefix.now
shown_item (items.CopyUnder from to) = copy_under from.now to.now
shown_item items.Publish = publish
shown_item (items.Search case pattern) = search case pattern.now
shown_item (items.SearchIn case name_pattern pattern) = search_in case name_pattern.now pattern.now
shown_item (items.Find request) = find request.now
shown_item items.Sync = sync
shown_item (items.Cancel number) = cancel number
shown_item items.Status = status
shown_item items.BadLine = bad_line

-- a line, given without its line feed, says this
abbrev pub Says : List ℕ → program.Line → Type 0
Says line variants.Blank = IsTrue (is_blank line)
Says line (variants.Put name size) = IsPutLine line name.now size
Says line variants.BadPut = IsTrue (is_put line) × ((name : List ℕ) (size : ℕ) → IsPutLine line name size → ⊥)
Says line (variants.Other item) = IsFalse (is_blank line) × IsFalse (is_put line) × (shown_item item ≡ item_of_line line)

-- Both say the same, wherever their bytes are in memory.
abbrev pub SayTheSame : program.Line → program.Line → Type 0
SayTheSame variants.Blank variants.Blank = ⊤
SayTheSame (variants.Put name size) (variants.Put name' size') = (name.now ≡ name'.now) × (size ≡ size')
SayTheSame variants.BadPut variants.BadPut = ⊤
SayTheSame (variants.Other item) (variants.Other item') = shown_item item ≡ shown_item item'
SayTheSame _ _ = ⊥
