-- Bytes that are taken as an item are a text that has this item alone.
use Rattle.std.proofs.Common.{◌≡◌, ℕ, List, [], ◌∷◌, ◌++◌, Option, Some, None, Bool, true, false, IsTrue, IsFalse, refl, sym, ap, ◌∙◌, subst, append-nil, true≢false}
use Rattle.script.specs.Items.{Numbered, numbered, ItemsFrom, done, other_line, last, item_of_line, is_put}
use Rattle.script.specs.Fields.{fields_of}
use Rattle.script.proofs.EveryTextLemmas.{some_items}
use Rattle.script.proofs.OneReading.{one_reading}
use Rattle.input.specs.Owned.{ShowsOwned}
use Rattle.input.specs.Stream.{IsItemOf, IsLastItem, at_end, at_fault}
use Rattle.input.specs.Laws.{NextLinesAreOne, TakenBytesHaveAnItem, TakenItemIsFirst, TakenItemsAreOne}

module _ (line next : ℕ) (bytes : List ℕ) (item : Numbered) (was left : Option (List ℕ)) where
  last_alone : IsLastItem line bytes item was left → ItemsFrom line bytes (item ∷ [])
  last_alone (at_end end whole) = whole
  last_alone (at_fault whole) = subst (λ text. ItemsFrom line text (item ∷ [])) (append-nil bytes) (whole [])

  alone : (ended : Bool) → IsItemOf ended line bytes item next was left → ItemsFrom line bytes (item ∷ [])
  alone true whole = last_alone whole
  alone false whole = subst (λ text. ItemsFrom line text (item ∷ [])) (append-nil bytes) (whole [] [] done)

-- An input has the item first that is taken from its front.
abbrev FirstOf : Bool → ℕ → Numbered → List ℕ → Type 0
FirstOf ended line item input = (items : List Numbered) × ItemsFrom line input (item ∷ items) × (IsTrue ended → items ≡ [])

module _ (line next : ℕ) (bytes rest input : List ℕ) (item : Numbered) (whole : input ≡ bytes ++ rest) where
  last_first : IsLastItem line bytes item (Some input) (Some rest) → FirstOf true line item input
  last_first (at_end end is) =
      let same : input ≡ bytes = whole ∙ ap (λ l. bytes ++ l) end ∙ append-nil bytes in
      ([], subst (λ text. ItemsFrom line text (item ∷ [])) (sym same) is, λ _. refl)
  last_first (at_fault is) = ([], subst (λ text. ItemsFrom line text (item ∷ [])) (sym whole) (is rest), λ _. refl)

  first_by : (ended : Bool) → IsItemOf ended line bytes item next (Some input) (Some rest) → FirstOf ended line item input
  first_by true is = last_first is
  first_by false is =
      let others = some_items next rest in
      (others.0, subst (λ text. ItemsFrom line text (item ∷ others.0)) (sym whole) (is rest others.0 others.1), λ e. absurd (true≢false (sym e)))

pub first_item : TakenItemIsFirst
first_item old new taken input bytes None consumed is = absurd consumed
first_item old new taken input bytes (Some rest) consumed is =
    (is.item, is.shows, first_by old.line new.line bytes rest input (numbered taken.line is.item) consumed new.ended is.whole)

-- the first of some items, or the one given if there are none
abbrev first_or : Numbered → List Numbered → Numbered
first_or none [] = none
first_or none (item ∷ items) = item

abbrev second_or : Numbered → List Numbered → Numbered
second_or none [] = none
second_or none (item ∷ items) = first_or none items

pub one_item : TakenItemsAreOne
one_item old new new' taken taken' bytes was was' left left' is is' =
    let items = one_reading old.line bytes _ _ (alone old.line new.line bytes (numbered taken.line is.item) was left new.ended is.whole)
    (alone old.line new'.line bytes (numbered taken'.line is'.item) was' left' new'.ended is'.whole) in
    let same : numbered taken.line is.item ≡ numbered taken'.line is'.item = ap (first_or (numbered taken.line is.item)) items in (
      ap (λ (n : Numbered). n.line) same,
      (is.item, is.shows, subst (ShowsOwned taken'.item) (sym (ap (λ (n : Numbered). n.item) same)) is'.shows),
    )

no_put : is_put (120 ∷ []) ≡ false
unfolding fields_of
no_put = refl

-- `x`, on the line of this number
line_of_x : (n : ℕ) → ItemsFrom n (120 ∷ []) (numbered n (item_of_line (120 ∷ [])) ∷ [])
line_of_x n = other_line (120 ∷ []) [] (last refl ((λ feed. cc), tt) (λ none. cc) refl) refl no_put done

module _ (line next : ℕ) (bytes : List ℕ) (item : Numbered) (was left : Option (List ℕ)) where
  before_x : (ended : Bool) → IsFalse ended → IsItemOf ended line bytes item next was left
      → ItemsFrom line (bytes ++ 120 ∷ []) (item ∷ numbered next (item_of_line (120 ∷ [])) ∷ [])
  before_x true goes_on whole = cc
  before_x false goes_on whole = whole (120 ∷ []) (numbered next (item_of_line (120 ∷ [])) ∷ []) (line_of_x next)

pub one_next_line : NextLinesAreOne
one_next_line old new new' taken taken' bytes was was' left left' is is' goes_on goes_on' =
    let items = one_reading old.line (bytes ++ 120 ∷ []) _ _
    (before_x old.line new.line bytes (numbered taken.line is.item) was left new.ended goes_on is.whole)
    (before_x old.line new'.line bytes (numbered taken'.line is'.item) was' left' new'.ended goes_on' is'.whole) in
    ap (λ (items : List Numbered). (second_or (numbered taken.line is.item) items).line) items

pub has_an_item : TakenBytesHaveAnItem
has_an_item old new taken bytes was left is none =
    let items = one_reading old.line bytes _ _ none (alone old.line new.line bytes (numbered taken.line is.item) was left new.ended is.whole) in
    cc
