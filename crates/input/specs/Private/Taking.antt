-- The item of a line, with a put's bytes.
use Rattle.std.specs.Prelude.{ℕ, List, ◌∷◌, ◌++◌, Option, Some, None, Ok, Err, ⊤}
use Rattle.std.specs.declared.result.Result.{Result}
use Rattle.script.specs.Items.{Item, numbered}
use Rattle.input.specs.Owned.{ShowsOwned}
use Rattle.input.specs.Stream.{IsNextItem, IsLastItem}
use Rattle.input.specs.declared.error.StreamError.{StreamError}
use Rattle.input.specs.declared.stream.Step.{Step}

-- The text is that of this item, whose line has this number. What follows it begins at the line of the next number; or the reading ends
-- with the item.
abbrev pub IsStep : ℕ → List ℕ → Item → Option ℕ → Option (List ℕ) → Option (List ℕ) → Type 0
IsStep number text item (Some next) was left = IsNextItem number text (numbered number item) next
IsStep number text item None was left = IsLastItem number text (numbered number item) was left

-- An item was taken: its line was taken before, and these are the bytes after the line's line feed.
pub record TakesStep (number : ℕ) (line : List ℕ) (step : Step) (bytes : List ℕ) (was left : Option (List ℕ)) : Type 0 where
  pub item : Item
  pub shows : ShowsOwned step.item item
  pub whole : IsStep number (line ++ 10 ∷ bytes) item step.next was left

abbrev pub TakesItem : ℕ → List ℕ → Result Step StreamError → List ℕ → Option (List ℕ) → Option (List ℕ) → Type 0
TakesItem number line (Ok step) bytes was left = TakesStep number line step bytes was left
TakesItem number line (Err error) bytes was left = ⊤
