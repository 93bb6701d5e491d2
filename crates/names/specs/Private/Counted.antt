-- Names that are counted and named.
use Rattle.std.specs.Prelude.{◌≡◌, ℕ, List, ◌++◌, length}
use Rattle.names.specs.declared.chosen.Chosen.{Chosen}
use Rattle.names.specs.declared.content.Named.{Named}
use Rattle.names.specs.Contents.{entries_of, first_under}
use Rattle.names.specs.Private.Entries.{Entry}

-- The count is that of these entries, and the names are the first of those of them that begin with one of these texts.
pub record AreCounted (texts : List (List ℕ)) (most : ℕ) (es : List Entry) (count : ℕ) (named : List Named) : Type 0 where
  pub count_is : count ≡ length es
  pub named_are : entries_of named ≡ first_under most texts es

-- Whatever was counted before, these entries are counted too.
abbrev pub Counts : List (List ℕ) → ℕ → List Entry → Chosen → Chosen → Type 0
Counts texts most more old new =
    (es : List Entry) → AreCounted texts most es old.count old.named.items → AreCounted texts most (es ++ more) new.count new.named.items
