-- What a feed returns.
use Rattle.std.specs.Prelude.{◌≡◌, ◌≢◌, ◌⊎◌, [], ◌∷◌, ◌++◌, None, true}
use Rattle.input.specs.declared.fronts.Naming.{Ghosts}
use Rattle.input.specs.declared.message.Next.{Next}
use Rattle.input.specs.declared.message.Next.TheVariants.{Item, End}
use Rattle.input.specs.Read.{Came, item, end, FeedState, InboxState, end_state}

-- what the message says
abbrev pub came_of : {K : Type 0} {N : Ghosts K} → Next K N → Came
came_of (Item sent) = item sent.item
came_of (End ended) = end ended

-- The message is the next one after what came, and the reading had not ended.
abbrev pub IsNextOf : {K : Type 0} {N : Ghosts K} → Next K N → InboxState → Type 0
IsNextOf (Item sent) at = (at.over ≡ None) × (sent.read ≡ at.came ++ sent.item ∷ [])
IsNextOf (End ended) at = (at.over ≡ None) × (ended.read ≡ at.came)

-- An item was read after all others; or nothing was, and the reading has ended.
abbrev pub Comes : {K : Type 0} {N : Ghosts K} → FeedState → Next K N → FeedState → Type 0
Comes old (Item sent) new = (new.read ≡ old.read ++ sent.item ∷ []) × (sent.read ≡ new.read) × (new.failed ≡ None)
Comes old (End ended) new = (new.read ≡ old.read) × (ended ≡ end_state new.read new.failed) × (new.failed ≡ None → new.stream.ended ≡ true)

-- The reading has ended, with an error or without one.
abbrev pub HasEnded : FeedState → Type 0
HasEnded at = (at.failed ≢ None) ⊎ (at.stream.ended ≡ true)
