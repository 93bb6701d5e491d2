-- Items that own their bytes.
use Rattle.std.specs.Prelude.{◌≡◌, ℕ, List, length}
use Rattle.script.specs.Items.{Item, put, load, remove, remove_under, copy_under, publish, search, search_in, find, sync, cancel, status}
use Rattle.script.specs.Items.{bad_line, bad_put, truncated, body_not_closed}
use Rattle.input.specs.declared.owned.OwnedItem.{OwnedItem}
use Rattle.input.specs.declared.owned.OwnedItem.TheVariants as variants

-- the item, without the place of its bytes in memory; of a body that was passed over only the length is known
abbrev pub ShowsOwned : OwnedItem → Item → Type 0
ShowsOwned (variants.Put name body) item = item ≡ put name.items body.items
ShowsOwned (variants.SkippedPut name size) item = (body : List ℕ) × (item ≡ put name.items body) × (length body ≡ size)
ShowsOwned (variants.Load name path) item = item ≡ load name.items path.items
ShowsOwned (variants.Remove name) item = item ≡ remove name.items
ShowsOwned (variants.RemoveUnder prefix) item = item ≡ remove_under prefix.items
ShowsOwned (variants.CopyUnder from to) item = item ≡ copy_under from.items to.items
ShowsOwned variants.Publish item = item ≡ publish
ShowsOwned (variants.Search case pattern) item = item ≡ search case pattern.items
ShowsOwned (variants.SearchIn case name_pattern pattern) item = item ≡ search_in case name_pattern.items pattern.items
ShowsOwned (variants.Find request) item = item ≡ find request.items
ShowsOwned variants.Sync item = item ≡ sync
ShowsOwned (variants.Cancel number) item = item ≡ cancel number
ShowsOwned variants.Status item = item ≡ status
ShowsOwned variants.BadLine item = item ≡ bad_line
ShowsOwned variants.BadPut item = item ≡ bad_put
ShowsOwned variants.Truncated item = item ≡ truncated
ShowsOwned variants.BodyNotClosed item = item ≡ body_not_closed
