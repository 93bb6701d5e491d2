-- The items of lines, with puts' bytes.
use Rattle.std.proofs.Common.{◌≡◌, ◌≢◌, ℕ, ◌+◌, ◌^◌, ◌<◌, List, [], ◌∷◌, ◌++◌, length, Option, Some, None, is_none, unwrap_or, Ok, Err}
use Rattle.std.proofs.Common.{IfOk, OnSome, IsTrue, IsFalse, refl, sym, ap, subst, ◌∙◌, append_assoc, append-nil, true≢false}
use Rattle.script.specs.Items.{Item, numbered, ItemsFrom, done, other_line, closed_put, last_put, bad_put_line, short_body, open_body}
use Rattle.script.specs.Items.{ended, last, IsLine, IsPutLine, is_blank, is_put, item_of_line, line_feeds, put, bad_put, truncated}
use Rattle.script.specs.Items.{body_not_closed}
use Rattle.std.specs.declared.result.Result.{Result}
use Rattle.std.specs.Io.KnownBytes.{Consumes, IsAtEnd}
use Rattle.input.specs.declared.error.StreamError.{StreamError}
use Rattle.input.specs.declared.owned.OwnedItem.{OwnedItem}
use Rattle.input.specs.declared.stream.Step.{Step}
use Rattle.input.specs.Stream.{IsItemOf, IsNextItem, IsLastItem, at_end, at_fault}
use Rattle.input.specs.Owned.{ShowsOwned}
use Rattle.input.specs.Private.Lines.{Skips}
use Rattle.input.specs.Private.Taking.{IsStep, TakesItem}
use Rattle.input.proofs.EndLemmas.{end_later}

some_byte : (line : List ℕ) → IsFalse (is_blank line) → line ≢ []
some_byte [] not_blank = absurd (true≢false not_blank)
some_byte (b ∷ line) not_blank = λ e. cc

module _ (n : ℕ) (line : List ℕ) (is : IsLine line) where
  pub last_bad_put : IsFalse (is_blank line) → IsTrue (is_put line) → ((name : List ℕ) (size : ℕ) → IsPutLine line name size → ⊥)
      → ItemsFrom n line (numbered n bad_put ∷ [])
  last_bad_put not_blank is_put none = bad_put_line line [] (last refl is (some_byte line not_blank) refl) is_put none

  pub last_other : (item : Item) → IsFalse (is_blank line) → IsFalse (is_put line) → item ≡ item_of_line line → ItemsFrom n line (numbered n item ∷ [])
  last_other item not_blank not_put same =
      subst (λ i. ItemsFrom n line (numbered n i ∷ [])) (sym same)
      (other_line line [] (last refl is (some_byte line not_blank) refl) not_blank not_put done)

  pub step_bad_put : (was left : Option (List ℕ)) → IsTrue (is_put line) → ((name : List ℕ) (size : ℕ) → IsPutLine line name size → ⊥)
      → IsStep n (line ++ 10 ∷ []) bad_put None was left
  step_bad_put was left is_put none = at_fault (λ rest. bad_put_line line rest (ended (append_assoc line (10 ∷ []) rest) is) is_put none)

  pub step_other : (item : Item) (next : ℕ) → IsFalse (is_blank line) → IsFalse (is_put line) → item ≡ item_of_line line → next ≡ n + 1
      → IsNextItem n (line ++ 10 ∷ []) (numbered n item) next
  step_other item next not_blank not_put same is_next = λ rest items h.
      let text : (line ++ 10 ∷ []) ++ rest ≡ line ++ 10 ∷ rest = append_assoc line (10 ∷ []) rest in
      subst (λ t. ItemsFrom n t (numbered n item ∷ items)) (sym text)
      (subst (λ i. ItemsFrom n (line ++ 10 ∷ rest) (numbered n i ∷ items)) (sym same)
      (other_line line rest (ended refl is) not_blank not_put (subst (λ m. ItemsFrom m rest items) is_next h)))

module _ (n size : ℕ) (line name body : List ℕ) (is : IsPutLine line name size) where
  pub step_truncated : (was left : Option (List ℕ)) → OnSome was (IsAtEnd left) → length body < size → IsStep n (line ++ 10 ∷ body) truncated None was left
  step_truncated was left end short = at_end end (short_body line name body size refl is short)

  module _ (long : length body ≡ size) where
    is_whole : IsPutLine line name (length body)
    is_whole = subst (IsPutLine line name) (sym long) is

    pub step_closed : (bytes : List ℕ) (next : ℕ) → bytes ≡ 10 ∷ [] → next ≡ n + 2 + line_feeds body
        → IsNextItem n (line ++ 10 ∷ (body ++ bytes)) (numbered n (put name body)) next
    step_closed bytes next feed is_next = λ rest items h.
        let text : (line ++ 10 ∷ (body ++ bytes)) ++ rest ≡ line ++ 10 ∷ (body ++ 10 ∷ rest) =
        append_assoc line (10 ∷ (body ++ bytes)) rest ∙ ap (λ l. line ++ 10 ∷ l) (append_assoc body bytes rest)
        ∙ ap (λ l. line ++ 10 ∷ (body ++ (l ++ rest))) feed in
        closed_put line rest text is_whole (subst (λ m. ItemsFrom m rest items) is_next h)

    pub step_last : (bytes : List ℕ) (was left : Option (List ℕ)) → OnSome was (IsAtEnd left) → bytes ≡ []
        → IsStep n (line ++ 10 ∷ (body ++ bytes)) (put name body) None was left
    step_last bytes was left end nothing =
        at_end end (last_put line (ap (λ l. line ++ 10 ∷ (body ++ l)) nothing ∙ ap (λ l. line ++ 10 ∷ l) (append-nil body)) is_whole)

    pub step_open : (bytes : List ℕ) (b : ℕ) (was left : Option (List ℕ)) → bytes ≡ b ∷ [] → b ≢ 10
        → IsStep n (line ++ 10 ∷ (body ++ bytes)) body_not_closed None was left
    step_open bytes b was left other not_feed = at_fault (λ rest.
        let text : (line ++ 10 ∷ (body ++ bytes)) ++ rest ≡ line ++ 10 ∷ (body ++ b ∷ rest) =
        append_assoc line (10 ∷ (body ++ bytes)) rest ∙ ap (λ l. line ++ 10 ∷ l) (append_assoc body bytes rest)
        ∙ ap (λ l. line ++ 10 ∷ (body ++ (l ++ rest))) other in
        open_body line name body rest b text is_whole not_feed)

-- an item after skipped lines
module _ (first n : ℕ) (skipped line bytes more : List ℕ) (item : Item) (whole : bytes ≡ skipped ++ (line ++ 10 ∷ [])) (skips : Skips first skipped n) where
  text_before : (rest : List ℕ) → (bytes ++ more) ++ rest ≡ skipped ++ ((line ++ 10 ∷ more) ++ rest)
  text_before rest =
      ap (λ l. (l ++ more) ++ rest) whole
      ∙ ap (λ l. l ++ rest) (append_assoc skipped (line ++ 10 ∷ []) more ∙ ap (λ l. skipped ++ l) (append_assoc line (10 ∷ []) more))
      ∙ append_assoc skipped (line ++ 10 ∷ more) rest

  last_by : (was mid left : Option (List ℕ)) → Consumes was mid bytes → IsLastItem n (line ++ 10 ∷ more) (numbered n item) mid left
      → IsLastItem first (bytes ++ more) (numbered n item) was left
  last_by was mid left taken (at_end end is) =
      let text : bytes ++ more ≡ skipped ++ (line ++ 10 ∷ more) =
      ap (λ l. l ++ more) whole ∙ append_assoc skipped (line ++ 10 ∷ []) more ∙ ap (λ l. skipped ++ l) (append_assoc line (10 ∷ []) more) in
      at_end (end_later was mid left bytes taken end)
      (subst (λ t. ItemsFrom first t (numbered n item ∷ [])) (sym text) (skips (line ++ 10 ∷ more) (numbered n item ∷ []) is))
  last_by was mid left taken (at_fault is) = at_fault (λ rest.
      subst (λ t. ItemsFrom first t (numbered n item ∷ [])) (sym (text_before rest))
      (skips ((line ++ 10 ∷ more) ++ rest) (numbered n item ∷ []) (is rest)))

  pub item_after_skipped : (next : Option ℕ) (was mid left : Option (List ℕ)) → Consumes was mid bytes
      → IsStep n (line ++ 10 ∷ more) item next mid left
      → IsItemOf (is_none next) first (bytes ++ more) (numbered n item) (unwrap_or next first) was left
  item_after_skipped (Some next) was mid left taken step = λ rest items h.
      subst (λ t. ItemsFrom first t (numbered n item ∷ items)) (sym (text_before rest))
      (skips ((line ++ 10 ∷ more) ++ rest) (numbered n item ∷ items) (step rest items h))
  item_after_skipped None was mid left taken step = last_by was mid left taken step

-- an item of a line that the input's end closes, if there is memory for it
pub last_owned : (r : Result OwnedItem StreamError) (line : List ℕ) (item : Item) → IfOk r (λ owned. ShowsOwned owned item)
    → ((number : ℕ) → ItemsFrom number line (numbered number item ∷ []))
    → IfOk r (λ owned. (shown : Item) × ShowsOwned owned shown × ((number : ℕ) → ItemsFrom number line (numbered number shown ∷ [])))
last_owned (Ok owned) line item shows is = (item, shows, is)
last_owned (Err error) line item shows is = tt

-- an item after which the reading goes on, if the number of the next line fits
pub takes_next : (r : Result Step StreamError) (number lines : ℕ) (line bytes : List ℕ) (was left : Option (List ℕ)) (found : OwnedItem)
    (item : Item) → IfOk r (λ step. (step.item ≡ found) × (step.next ≡ Some (number + lines)) × (number + lines < 2 ^ 32))
    → ShowsOwned found item
    → (number + lines < 2 ^ 32 → IsNextItem number (line ++ 10 ∷ bytes) (numbered number item) (number + lines)) → TakesItem number line r bytes was left
takes_next (Err error) number lines line bytes was left found item is shows whole = tt
takes_next (Ok step) number lines line bytes was left found item is shows whole = record {
  item = item;
  shows = subst (λ f. ShowsOwned f item) (sym is.0) shows;
  whole = subst (λ next. IsStep number (line ++ 10 ∷ bytes) item next was left) (sym is.1) (whole is.2);
}
