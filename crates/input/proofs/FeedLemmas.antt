-- A feed goes on from item to item, and ends.
use Rattle.std.proofs.Common.{◌≡◌, ℕ, Bool, true, false, List, [], ◌∷◌, ◌++◌, Option, Some, None, refl, sym, ap, ◌∙◌, subst, append_assoc, append-nil, true≢false}
use Rattle.std.specs.Prelude.{OnSome}
use Rattle.std.specs.Io.KnownBytes.{Consumes, IsAtEnd}
use Rattle.std.proofs.KnownBytes.{Consumes-nil, Consumes-trans}
use Rattle.script.specs.Items.{Item, Numbered, numbered, ItemsFrom, done, IsItemsOf}
use Rattle.script.proofs.EveryTextLemmas.{some_items}
use Rattle.input.specs.declared.error.StreamError.{StreamError}
use Rattle.input.specs.Stream.{StreamState, stream_at, Takes, IsItemOf, IsNextItem, IsLastItem}
use Rattle.input.specs.Stream as last_item
use Rattle.input.specs.Owned.{ShowsOwned}
use Rattle.input.proofs.EndLemmas.{end_later}
use Rattle.input.specs.declared.read_item.ReadItem.{ReadItem}
use Rattle.input.specs.Read.{AreShown, none, one_more, HasItems, IsReadOf, IsAllOf, IsOver, at_end, at_fault, FeedState, feed_state}
use Rattle.input.specs.Read.{IsReading, IsFinished, HasFailed, IsFedBy, IsFed, EndsBy}

-- The items of an input begin with those of the bytes that were read, if more is to be read.
has_first : (input left : Option (List ℕ)) (script : List ℕ) (items : List Numbered) (line : ℕ) → Consumes input left script
    → ((rest : List ℕ) (others : List Numbered) → ItemsFrom line rest others → IsItemsOf (script ++ rest) (items ++ others))
    → (others : List Numbered) × HasItems input (items ++ others)
has_first None left script items line consumed goes_on = ([], (script ++ [], goes_on [] [] done))
has_first (Some all) None script items line consumed goes_on = absurd consumed
has_first (Some all) (Some rest) script items line consumed goes_on =
    let others = some_items line rest in
    (others.0, subst (λ s. IsItemsOf s (items ++ others.0)) (sym consumed) (goes_on rest others.0 others.1))

-- They are those of the bytes that were read, once the reading has ended.
has_all : (input left : Option (List ℕ)) (script : List ℕ) (items : List Numbered) → Consumes input left script → IsOver input left script items
    → HasItems input items
has_all None left script items consumed (at_end end is) = (script, is)
has_all None left script items consumed (at_fault is) = (script ++ [], is [])
has_all (Some all) None script items consumed over = absurd consumed
has_all (Some all) (Some rest) script items consumed (at_end end is) =
    subst (λ s. IsItemsOf s items) (sym (consumed ∙ ap (λ l. script ++ l) end ∙ append-nil script)) is
has_all (Some all) (Some rest) script items consumed (at_fault is) = subst (λ s. IsItemsOf s items) (sym consumed) (is rest)

-- Each input has items.
pub some_of_input : (input : Option (List ℕ)) → (items : List Numbered) × HasItems input items
some_of_input None = ([], ([], done))
some_of_input (Some script) = some_items 1 script

-- No items are read of any input.
pub read_nothing : (input : Option (List ℕ)) (read : List ReadItem) → read ≡ [] → IsReadOf input read
read_nothing input read is =
    let all = some_of_input input in
    subst (IsReadOf input) (sym is) (record { items = []; others = all.0; shown = none; first = all.1 })

-- A feed that has read nothing.
pub fed_nothing : (input left : Option (List ℕ)) (read : List ReadItem) (stream : StreamState) → left ≡ input → read ≡ [] → stream ≡ stream_at 1 false
    → IsFed input (feed_state read stream None left)
fed_nothing input left read stream whole nothing first =
    let at_first : IsFed input (feed_state [] (stream_at 1 false) None input) =
    record { script = []; items = []; consumed = Consumes-nil input; shown = none; goes_on = λ rest others h. h } in
    subst (λ l. IsFed input (feed_state read stream None l)) (sym whole)
    (subst (λ s. IsFed input (feed_state read s None input)) (sym first)
    (subst (λ r. IsFed input (feed_state r (stream_at 1 false) None input)) (sym nothing) at_first))

-- one more item at the end
pub shown-append : (reads : List ReadItem) (items : List Numbered) (read : ReadItem) (item : Item) → ShowsOwned read.item item → AreShown reads items
    → AreShown (reads ++ read ∷ []) (items ++ numbered read.line item ∷ [])
shown-append _ _ read item shows none = one_more read item shows none
shown-append _ _ read item shows (one_more {reads} {items} first its first_shows are) = one_more first its first_shows (shown-append reads items read item shows are)

read_now : (input : Option (List ℕ)) (at : FeedState) → IsReading input at → IsReadOf input at.read
read_now input at reading =
    let first = has_first input at.left reading.script reading.items at.stream.line reading.consumed reading.goes_on in
    record { items = reading.items; others = first.0; shown = reading.shown; first = first.1 }

all_now : (input : Option (List ℕ)) (at : FeedState) → IsFinished input at → IsAllOf input at.read
all_now input at is = record { items = is.items; shown = is.shown; all = has_all input at.left is.script is.items is.consumed is.over }

read_all : (input : Option (List ℕ)) (read : List ReadItem) → IsAllOf input read → IsReadOf input read
read_all input read is = record { items = is.items; others = []; shown = is.shown; first = subst (HasItems input) (sym (append-nil is.items)) is.all }

module _ (input : Option (List ℕ)) (at : FeedState) (reading : IsReading input at) (bytes : List ℕ) (left : Option (List ℕ))
    (taken : Consumes at.left left bytes) where
  consumed_now : Consumes input left (reading.script ++ bytes)
  consumed_now = Consumes-trans input at.left left reading.script bytes reading.consumed taken

  ended_now : OnSome at.left (IsAtEnd left) → OnSome input (IsAtEnd left)
  ended_now = end_later input at.left left reading.script reading.consumed

  -- No item came of these bytes.
  failed_now : HasFailed input (feed_state at.read at.stream at.failed left)
  failed_now = ((reading.script ++ bytes, consumed_now), read_now input at reading)

  -- An item was read.
  module _ (read : ReadItem) (new : StreamState) (takes : Takes at.stream read new bytes at.left left) where
    abbrev this : Numbered
    this = numbered read.line takes.item

    shown_now : AreShown (at.read ++ read ∷ []) (reading.items ++ this ∷ [])
    shown_now = shown-append at.read reading.items read takes.item takes.shows reading.shown

    over_now : IsLastItem at.stream.line bytes this at.left left → IsOver input left (reading.script ++ bytes) (reading.items ++ this ∷ [])
    over_now (last_item.at_end end is) = at_end (ended_now end) (reading.goes_on bytes (this ∷ []) is)
    over_now (last_item.at_fault is) = at_fault (λ rest.
        subst (λ s. IsItemsOf s (reading.items ++ this ∷ [])) (sym (append_assoc reading.script bytes rest))
        (reading.goes_on (bytes ++ rest) (this ∷ []) (is rest)))

    fed_now : (ended : Bool) → new.ended ≡ ended → IsFedBy None ended input (feed_state (at.read ++ read ∷ []) new None left)
    fed_now false is = record {
      script = reading.script ++ bytes;
      items = reading.items ++ this ∷ [];
      consumed = consumed_now;
      shown = shown_now;
      goes_on =
          λ rest others h.
          let whole : IsNextItem at.stream.line bytes this new.line = subst (λ e. IsItemOf e at.stream.line bytes this new.line at.left left) is takes.whole in
          subst (λ s. IsItemsOf s ((reading.items ++ this ∷ []) ++ others)) (sym (append_assoc reading.script bytes rest))
          (subst (λ l. IsItemsOf (reading.script ++ (bytes ++ rest)) l) (sym (append_assoc reading.items (this ∷ []) others))
          (reading.goes_on (bytes ++ rest) (this ∷ others) (whole rest others h)));
    }
    fed_now true is = record {
      script = reading.script ++ bytes;
      items = reading.items ++ this ∷ [];
      consumed = consumed_now;
      shown = shown_now;
      over = over_now (subst (λ e. IsItemOf e at.stream.line bytes this new.line at.left left) is takes.whole);
    }

module _ (input : Option (List ℕ)) (at : FeedState) (fed : IsFed input at) (unfailed : at.failed ≡ None) (bytes : List ℕ)
    (left : Option (List ℕ)) (taken : Consumes at.left left bytes) where
  fed_by : IsFedBy None at.stream.ended input at
  fed_by = subst (λ f. IsFedBy f at.stream.ended input at) unfailed fed

  reading_of : (at.stream.ended ≡ true → ⊥) → (ended : Bool) → at.stream.ended ≡ ended → IsFedBy None ended input at → IsReading input at
  reading_of going false is reads = reads
  reading_of going true is reads = absurd (going is)

  -- An item was read,
  pub fed_item : (read : ReadItem) (new : StreamState) → Takes at.stream read new bytes at.left left → (at.stream.ended ≡ true → ⊥)
      → (reads : List ReadItem) → reads ≡ at.read ++ read ∷ [] → (failed : Option StreamError) → failed ≡ None
      → IsFed input (feed_state reads new failed left)
  fed_item read new takes going reads is failed clean =
      subst (λ f. IsFed input (feed_state reads new f left)) (sym clean)
      (subst (λ r. IsFed input (feed_state r new None left)) (sym is)
      (fed_now input at (reading_of going at.stream.ended refl fed_by) bytes left taken read new takes new.ended refl))

  -- or there was an error.
  pub fed_error : (at.stream.ended ≡ true → ⊥) → HasFailed input (feed_state at.read at.stream at.failed left)
  fed_error going = failed_now input at (reading_of going at.stream.ended refl fed_by) bytes left taken

module _ (input : Option (List ℕ)) (at : FeedState) where
  read_by : (failed : Option StreamError) (ended : Bool) → IsFedBy failed ended input at → IsReadOf input at.read
  read_by None false reading = read_now input at reading
  read_by None true finished = read_all input at.read (all_now input at finished)
  read_by (Some error) ended failed = failed.1

  -- What a feed has read is read of its input.
  pub read_of : IsFed input at → IsReadOf input at.read
  read_of = read_by at.failed at.stream.ended

  ends_with : (failed : Option StreamError) (ended : Bool) → (failed ≡ None → ended ≡ true) → IsFedBy failed ended input at → EndsBy input at.read failed
  ends_with None true over finished = all_now input at finished
  ends_with None false over reading = absurd (true≢false (sym (over refl)))
  ends_with (Some error) ended over failed = tt

  -- If a reading has ended without an error, all items of its input were read.
  pub ends_by : IsFed input at → (at.failed ≡ None → at.stream.ended ≡ true) → EndsBy input at.read at.failed
  ends_by fed over = ends_with at.failed at.stream.ended over fed
