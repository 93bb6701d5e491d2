-- How the sets of an index follow its documents.
use Rattle.std.specs.Prelude.{◌≡◌, ℕ, ◌+◌, ◌<◌, ◌≤◌, not, true, false, ◌&&◌, ◌||◌, ◌==◌, Bool, nat_lt, List, All, Option, Some, None, map, filter}
use Rattle.std.specs.List.{list_any}
use Rattle.query.specs.Trigrams.{TrigramSet, trigrams_of_body}
use Rattle.posting.specs.ListValue.{has, HasRoom}
use Rattle.posting.specs.Postings.{holds, IsPrepared, IsAbsent, AllDiffer}
use Rattle.index.specs.declared.sets.Sets.{Sets}
use Rattle.index.specs.declared.sets.Waiting.{Waiting}
use Rattle.index.specs.declared.sets.Waiting.TheVariants.{One, From}
use Rattle.index.specs.declared.sets.Change.{Change}
use Rattle.index.specs.Private.Numbered.{Document, document_at}
use Rattle.index.specs.Private.Slots.{without_number}

-- There is room for a document with this number and these trigrams in all sets that it goes into.
pub record HasRoomFor (sets : Sets) (number : ℕ) (trigrams : List ℕ) : Type 0 where
  pub live : HasRoom sets.live
  pub postings : IsPrepared sets.postings number trigrams

-- The number is above all others and in no set of these trigrams, which are all different.
pub record IsNew (sets : Sets) (number : ℕ) (trigrams : List ℕ) : Type 0 where
  pub live : All (λ m. m < number) sets.live.members
  pub postings : IsAbsent sets.postings trigrams number
  pub once : AllDiffer trigrams

-- The change from the old trigrams to the new ones: those that only the new have, and those that only the old have.
pub record IsChange (old new : List ℕ) (change : Change) : Type 0 where
  pub fresh : change.fresh ≡ filter (λ t. not (has old t)) new
  pub gone : change.gone ≡ filter (λ t. not (has new t)) old

-- the trigrams of the document with a number; none if there is no such document
abbrev pub trigrams_shown : Option (List ℕ × List ℕ) → TrigramSet
trigrams_shown None trigram = false
trigrams_shown (Some d) trigram = trigrams_of_body d.1 trigram

abbrev pub trigrams_at : List Document → ℕ → TrigramSet
trigrams_at documents number = trigrams_shown (document_at number documents)

-- the trigrams of the body that a document had, if it had one
abbrev pub trigrams_before : Option (List ℕ) → TrigramSet
trigrams_before None trigram = false
trigrams_before (Some old) trigram = trigrams_of_body old trigram

-- whether no document with this number waits to be put into the set of the trigram, or to be taken out of it
abbrev pub is_whole : Option Waiting → ℕ → ℕ → Bool
is_whole None trigram number = true
is_whole (Some (One waiting next old)) trigram number = not (number == waiting) || nat_lt trigram next
is_whole (Some (From first next)) trigram number = nat_lt number first || ((number == first) && nat_lt trigram next)

-- whether the number can still be in the set of the trigram, since the body that its document had before has the trigram
abbrev pub is_left : Option Waiting → ℕ → ℕ → Bool
is_left None trigram number = false
is_left (Some (One waiting next old)) trigram number = (number == waiting) && (not (nat_lt trigram next) && trigrams_before old trigram)
is_left (Some (From first next)) trigram number = false

abbrev pub NoneIsLeft : Option Waiting → Type 0
NoneIsLeft waiting = (trigram number : ℕ) → is_left waiting trigram number ≡ false

-- The live list has the numbers of the documents, and the set of a trigram those of the documents whose
-- body has it, but perhaps for documents that wait: their numbers can be missing, and that of one can still be where the
-- body before had it. They are where both bodies have the trigram.
pub record AreSetsOf (documents : List Document) (sets : Sets) : Type 0 where
  pub live : sets.live.members ≡ map (λ d. d.number) documents
  pub postings : (trigram number : ℕ) → is_whole sets.waiting trigram number ≡ true → holds sets.postings trigram number ≡ trigrams_at documents number trigram
  pub few : (trigram number : ℕ) → holds sets.postings trigram number ≡ true
      → (trigrams_at documents number trigram || is_left sets.waiting trigram number) ≡ true
  pub both : (trigram number : ℕ) → is_left sets.waiting trigram number ≡ true → trigrams_at documents number trigram ≡ true
      → holds sets.postings trigram number ≡ true

-- what waits when the document that waits alone has come to the next trigram
abbrev pub still_waiting : ℕ → Option (List ℕ) → Option ℕ → Option Waiting
still_waiting number old None = None
still_waiting number old (Some next) = Some (One number next old)

-- what waits when the first document of those from a number on that wait has come to the next trigram
abbrev pub waiting_from : ℕ → Option ℕ → Waiting
waiting_from number None = From (number + 1) 0
waiting_from number (Some next) = From number next

-- The document with this number is one of those from some number on, which all wait.
pub record IsAmongWaiting (number : ℕ) (waiting : Option Waiting) : Type 0 where
  pub first : ℕ
  pub from : ℕ
  pub is : waiting ≡ Some (From first from)
  pub among : first ≤ number

-- The document with this number waits with all its trigrams, and of the others at least those wait that did before.
pub record WaitsWhole (number : ℕ) (before after : Option Waiting) : Type 0 where
  pub others : (t n : ℕ) → is_whole after t n ≡ true → (is_whole before t n ≡ true) × ((number == n) ≡ false)
  pub none_left : NoneIsLeft after

abbrev pub ReachesNext : Option Waiting → Option ℕ → Option Waiting → Type 0
ReachesNext before next after = (number from : ℕ) (old : Option (List ℕ)) → before ≡ Some (One number from old) → after ≡ still_waiting number old next

-- The sets followed the documents, and do so without the document that has this number and this body.
abbrev pub FollowTakenOut : ℕ → List ℕ → Sets → Sets → Type 0
FollowTakenOut number body before after =
    (documents : List Document) (name : List ℕ) → AreSetsOf documents before → document_at number documents ≡ Some (name, body)
    → AreSetsOf (without_number number documents) after

-- If the sets followed the documents, they do so still, where the document with this number, if there is one, has these trigrams.
abbrev pub StayInStep : ℕ → List ℕ → Sets → Sets → Type 0
StayInStep number trigrams before after =
    (documents : List Document) → AreSetsOf documents before → ((t : ℕ) → has trigrams t ≡ trigrams_at documents number t) → AreSetsOf documents after

-- If the sets followed the documents, of which those from a number on waited, they do so still, where the one with this number is the
-- first of these and has these trigrams.
abbrev pub StayInStepNext : ℕ → List ℕ → Sets → Sets → Type 0
StayInStepNext number trigrams before after =
    (documents : List Document) (first from : ℕ) → AreSetsOf documents before → before.waiting ≡ Some (From first from)
    → ((n : ℕ) → first ≤ n → n < number → document_at n documents ≡ None) → ((t : ℕ) → has trigrams t ≡ trigrams_at documents number t)
    → AreSetsOf documents after

-- whether a document that waits has the number and the trigram
abbrev pub is_waiting : ℕ → List Document → ℕ → ℕ → Bool
is_waiting first documents trigram number = list_any (λ d. not (nat_lt d.number first) && (trigrams_of_body d.body trigram && d.number == number)) documents
