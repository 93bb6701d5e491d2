-- What was read of an input.
use Rattle.std.specs.Prelude.{◌≡◌, ◌-◌, ℕ, Bool, true, false, List, [], ◌∷◌, ◌++◌, length, take, Option, Some, None, OnSome}
use Rattle.std.specs.Io.KnownBytes.{Consumes, IsAtEnd}
use Rattle.script.specs.Items.{Item, Numbered, numbered, ItemsFrom, IsItemsOf}
use Rattle.input.specs.declared.error.StreamError.{StreamError}
use Rattle.input.specs.Stream.{StreamState}
use Rattle.input.specs.Owned.{ShowsOwned}
use Rattle.input.specs.declared.read_item.ReadItem.{ReadItem}

-- the item was read last
abbrev pub EndsWith : List ReadItem → ReadItem → Type 0
EndsWith read item = read ≡ take (length read - 1) read ++ item ∷ []

-- What was read shows these items, one by one. The body of a put that was not kept can be any that `ShowsOwned` allows.
pub data AreShown : List ReadItem → List Numbered → Type 0 where
  none : AreShown [] []
  one_more : {reads : List ReadItem} {items : List Numbered} (read : ReadItem) (item : Item) → ShowsOwned read.item item → AreShown reads items
      → AreShown (read ∷ reads) (numbered read.line item ∷ items)

-- The input has these items. If its bytes are not known, some bytes have them.
abbrev pub HasItems : Option (List ℕ) → List Numbered → Type 0
HasItems None items = (script : List ℕ) × IsItemsOf script items
HasItems (Some script) items = IsItemsOf script items

-- These items were read of the input: they are the first ones that it has.
pub record IsReadOf (input : Option (List ℕ)) (read : List ReadItem) : Type 0 where
  pub items : List Numbered
  pub others : List Numbered
  pub shown : AreShown read items
  pub first : HasItems input (items ++ others)

-- All items of the input were read.
pub record IsAllOf (input : Option (List ℕ)) (read : List ReadItem) : Type 0 where
  pub items : List Numbered
  pub shown : AreShown read items
  pub all : HasItems input items

-- What was read so far, how far the stream is, the error that ended the reading, and what is left of the input.
pub record FeedState : Type 0 where
  pub read : List ReadItem
  pub stream : StreamState
  pub failed : Option StreamError
  pub left : Option (List ℕ)

-- the state of a feed, by its parts
abbrev pub feed_state : List ReadItem → StreamState → Option StreamError → Option (List ℕ) → FeedState
feed_state read stream failed left = record { read = read; stream = stream; failed = failed; left = left }

-- These bytes were read of the input, and their items are those that were read. More is to be read: whatever items follow the
-- rest, they follow these.
pub record IsReading (input : Option (List ℕ)) (at : FeedState) : Type 0 where
  pub script : List ℕ
  pub items : List Numbered
  pub consumed : Consumes input at.left script
  pub shown : AreShown at.read items
  pub goes_on : (rest : List ℕ) (others : List Numbered) → ItemsFrom at.stream.line rest others → IsItemsOf (script ++ rest) (items ++ others)

-- The bytes that were read have these items and no others: nothing is left of the input, if its bytes were known, or nothing that follows
-- the bytes would be an item.
pub data IsOver (input left : Option (List ℕ)) (script : List ℕ) (items : List Numbered) : Type 0 where
  at_end : OnSome input (IsAtEnd left) → IsItemsOf script items → IsOver input left script items
  at_fault : ((rest : List ℕ) → IsItemsOf (script ++ rest) items) → IsOver input left script items

-- These bytes were read of the input, and their items are those that were read. The reading has ended.
pub record IsFinished (input : Option (List ℕ)) (at : FeedState) : Type 0 where
  pub script : List ℕ
  pub items : List Numbered
  pub consumed : Consumes input at.left script
  pub shown : AreShown at.read items
  pub over : IsOver input at.left script items

-- The reading ended early, and these bytes were read: what was read before is known.
abbrev pub HasFailed : Option (List ℕ) → FeedState → Type 0
HasFailed input at = ((bytes : List ℕ) × Consumes input at.left bytes) × IsReadOf input at.read

-- What was read, by the error that ended the reading, if one did, and whether the reading has ended.
abbrev pub IsFedBy : Option StreamError → Bool → Option (List ℕ) → FeedState → Type 0
IsFedBy None false input at = IsReading input at
IsFedBy None true input at = IsFinished input at
IsFedBy (Some error) ended input at = HasFailed input at

-- The feed has read this of the input, which had these bytes at first if they were known.
abbrev pub IsFed : Option (List ℕ) → FeedState → Type 0
IsFed input at = IsFedBy at.failed at.stream.ended input at

-- How a reading ended, after these items: with an error, or at the end of the input or a fault that ends it.
pub record EndState : Type 0 where
  pub read : List ReadItem
  pub failed : Option StreamError

-- how a reading ended, by its parts
abbrev pub end_state : List ReadItem → Option StreamError → EndState
end_state read failed = record { read = read; failed = failed }

abbrev pub EndsBy : Option (List ℕ) → List ReadItem → Option StreamError → Type 0
EndsBy input read None = IsAllOf input read
EndsBy input read (Some error) = Unit {0}

-- What came of a reading: the items that are not taken yet, all items, and how the reading ended, if it did.
pub record InboxState : Type 0 where
  pub held : List ReadItem
  pub came : List ReadItem
  pub over : Option (Option StreamError)

-- the state of an inbox, by its parts
abbrev pub inbox_state : List ReadItem → List ReadItem → Option (Option StreamError) → InboxState
inbox_state held came over = record { held = held; came = came; over = over }

-- If the reading has ended, it ended after what came.
abbrev pub EndsIf : Option (List ℕ) → List ReadItem → Option (Option StreamError) → Type 0
EndsIf input came None = Unit {0}
EndsIf input came (Some failed) = EndsBy input came failed

-- What comes of a reading: an item, or how it ended.
pub data Came : Type 0 where
  item : ReadItem → Came
  end : EndState → Came

-- This came: an item, after all that came before it; or the end of the reading, after all of it.
abbrev pub CameIn : Came → InboxState → InboxState → Type 0
CameIn (item read) old new = new ≡ inbox_state (old.held ++ read ∷ []) (old.came ++ read ∷ []) None
CameIn (end ended) old new = (ended.read ≡ old.came) × (new ≡ inbox_state old.held old.came (Some ended.failed))
