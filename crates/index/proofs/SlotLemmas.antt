-- The slots, and the documents in them.
use Rattle.std.proofs.Common.{◌≡◌, ◌≢◌, ℕ, zero, suc, ◌<◌, ◌≤◌, ◌==◌, nat_lt, Bool, true, false, cond, List, [], ◌∷◌, ◌++◌, map, length, get_or}
use Rattle.std.proofs.Common.{set, Option, Some, None, refl, sym, ◌∙◌, ap, subst, arith, ⊎_elim, is_some, append_assoc}
use Rattle.std.specs.Prelude.{All, filter, slice_get, option_map}
use Rattle.std.specs.List.Sorted.{IsNonDecreasingBy, IsPartitionedBy, IsPartitionPoint}
use Rattle.std.proofs.lemmas.Bool.Decides.{nat_tests}
use Rattle.std.proofs.lemmas.Bool.{cases_eq, cases_lt}
use Rattle.std.proofs.lemmas.List.{map-append, append-nil, get_or_default}
use Rattle.std.proofs.lemmas.List.Elements.{All-head, All-tail, All-nil, All-cons, All-push}
use Rattle.std.proofs.lemmas.Option.{slice_get_within, get_or_from_slice_get}
use Rattle.std.proofs.lemmas.List.Sorted.{IsPartitionedBy-ltb}
use Rattle.std.proofs.lemmas.List.Sums.{length-filter, count_by-le-length}
use Rattle.posting.proofs.Rising.{rising-push}
use Rattle.documents.proofs.RisingLemmas.{below_later, rise-filter}
use Rattle.index.specs.declared.slots.Slot.{Slot}
use Rattle.index.specs.declared.slots.Occupant.{Occupant}
use Rattle.index.specs.Private.Numbered.{Document, document, document_at}
use Rattle.index.specs.Private.Slots.{documents_of_slot, documents_in, numbers_in, RiseTo, texts_of, without_number, with_body_at}

-- ---- the numbers rise

pub non_decreasing : (last : ℕ) (slots : List Slot) → RiseTo last slots → IsNonDecreasingBy (λ s. s.number) slots
non_decreasing last slots rises i j d before inside =
    ⊎_elim (λ same. subst (λ k. (get_or slots i d).number ≤ (get_or slots k d).number) same (omega arith))
    (λ apart. (let less = below_later (λ s. s.number) slots rises.rise i j d (omega arith) inside in omega arith)) (cases_eq i j)

pub partitioned : (last : ℕ) (slots : List Slot) (number : ℕ) → RiseTo last slots → IsPartitionedBy (λ s. nat_lt s.number number) slots
partitioned last slots number rises = IsPartitionedBy-ltb (λ s. s.number) slots number (non_decreasing last slots rises)

-- ---- no slot has the number

abbrev pub Others : ℕ → List Slot → Type 0
Others number slots = All (λ s. s.number ≢ number) slots

pub others_past : (number : ℕ) (slots : List Slot) (place : ℕ)
    → IsPartitionPoint (λ s. nat_lt s.number number ≡ true) (λ s. nat_lt s.number number ≡ false) slots place → place ≡ length slots
    → Others number slots
others_past number slots place point past = λ k d inside. (let less = point.0 k d (omega arith) (omega arith) in λ e. differ (get_or slots k d).number less e)
  where
    differ : (n : ℕ) → nat_lt n number ≡ true → n ≡ number → ⊥
    differ n less e = let below : n < number = grind (arith, nat_tests) in omega arith

pub others_apart : (last number : ℕ) (slots : List Slot) (place : ℕ) (slot : Slot) → RiseTo last slots
    → IsPartitionPoint (λ s. nat_lt s.number number ≡ true) (λ s. nat_lt s.number number ≡ false) slots place
    → slot ≡ get_or slots place slot → slot.number ≢ number → Others number slots
others_apart last number slots place slot rises point read apart =
    λ k d inside. ⊎_elim (λ before. before_is k d before) (λ from. from_is k d from inside) (cases_lt k place)
  where
    below : (n : ℕ) → nat_lt n number ≡ true → n < number
    below n less = grind (arith, nat_tests)

    not_below : (n : ℕ) → nat_lt n number ≡ false → number ≤ n
    not_below n less = grind (arith, nat_tests)

    before_is : (k : ℕ) (d : Slot) → k < place → (get_or slots k d).number ≢ number
    before_is k d before = let less = below (get_or slots k d).number (point.0 k d (omega arith) before) in λ e. omega arith

    from_is : (k : ℕ) (d : Slot) → place ≤ k → k < length slots → (get_or slots k d).number ≢ number
    from_is k d from inside =
        let here = not_below (get_or slots place slot).number (point.1 place slot (omega arith) (omega arith)) in
        let is : slot.number ≡ (get_or slots place slot).number = ap (λ s. s.number) read in
        let rest = non_decreasing last slots rises place k slot from inside in
        let one : get_or slots k slot ≡ get_or slots k d = get_or_default slots k slot d inside in
        let same : (get_or slots k slot).number ≡ (get_or slots k d).number = ap (λ s. s.number) one in
        λ e. omega arith

-- ---- no slot has a number between two

pub others_between : (last first number : ℕ) (slots : List Slot) (place : ℕ) (slot : Slot) → RiseTo last slots
    → IsPartitionPoint (λ s. nat_lt s.number first ≡ true) (λ s. nat_lt s.number first ≡ false) slots place
    → slot ≡ get_or slots place slot → first ≤ number → number < slot.number → Others number slots
others_between last first number slots place slot rises point read from to =
    λ k d inside. ⊎_elim (λ before. before_is k d before) (λ after. after_is k d after inside) (cases_lt k place)
  where
    below : (n : ℕ) → nat_lt n first ≡ true → n < first
    below n less = grind (arith, nat_tests)

    before_is : (k : ℕ) (d : Slot) → k < place → (get_or slots k d).number ≢ number
    before_is k d before = let less = below (get_or slots k d).number (point.0 k d (omega arith) before) in λ e. omega arith

    after_is : (k : ℕ) (d : Slot) → place ≤ k → k < length slots → (get_or slots k d).number ≢ number
    after_is k d after inside =
        let is : slot.number ≡ (get_or slots place slot).number = ap (λ s. s.number) read in
        let rest = non_decreasing last slots rises place k slot after inside in
        let one : get_or slots k slot ≡ get_or slots k d = get_or_default slots k slot d inside in
        let same : (get_or slots k slot).number ≡ (get_or slots k d).number = ap (λ s. s.number) one in
        λ e. omega arith

pub others_behind : (first number : ℕ) (slots : List Slot) (place : ℕ)
    → IsPartitionPoint (λ s. nat_lt s.number first ≡ true) (λ s. nat_lt s.number first ≡ false) slots place → place ≡ length slots
    → first ≤ number → Others number slots
others_behind first number slots place point past from =
    λ k d inside. (let less = below (get_or slots k d).number (point.0 k d (omega arith) (omega arith)) in λ e. omega arith)
  where
    below : (n : ℕ) → nat_lt n first ≡ true → n < first
    below n less = grind (arith, nat_tests)

document_at-skip : (number other : ℕ) (occupant : Option Occupant) (ds : List Document) → other ≢ number
    → document_at number (documents_of_slot other occupant ++ ds) ≡ document_at number ds
unfolding document_at
document_at-skip number other None ds apart = refl
document_at-skip number other (Some occupant) ds apart =
    let no : (other == number) ≡ false = grind (arith, nat_tests) in
    rw no refl

without-skip : (number other : ℕ) (occupant : Option Occupant) (ds : List Document) → other ≢ number
    → without_number number (documents_of_slot other occupant ++ ds) ≡ documents_of_slot other occupant ++ without_number number ds
without-skip number other None ds apart = refl
without-skip number other (Some occupant) ds apart =
    let no : (other == number) ≡ false = grind (arith, nat_tests) in
    rw no refl

without-here : (number other : ℕ) (occupant : Option Occupant) (ds : List Document) → other ≡ number
    → without_number number (documents_of_slot other occupant ++ ds) ≡ without_number number ds
without-here number other None ds same = refl
without-here number other (Some occupant) ds same =
    let yes : (other == number) ≡ true = grind (arith, nat_tests) in
    rw yes refl

pub document_at-absent : (number : ℕ) (slots : List Slot) → Others number slots → document_at number (documents_in slots) ≡ None
unfolding document_at documents_in
document_at-absent number [] others = refl
document_at-absent number (s ∷ slots) others =
    document_at-skip number s.number s.occupant (documents_in slots) (All-head (λ t. t.number ≢ number) s slots others)
    ∙ document_at-absent number slots (All-tail (λ t. t.number ≢ number) s slots others)

pub without-absent : (number : ℕ) (slots : List Slot) → Others number slots → documents_in slots ≡ without_number number (documents_in slots)
unfolding documents_in
without-absent number [] others = refl
without-absent number (s ∷ slots) others =
    let rest = without-absent number slots (All-tail (λ t. t.number ≢ number) s slots others) in
    ap (λ ds. documents_of_slot s.number s.occupant ++ ds) rest
    ∙ sym (without-skip number s.number s.occupant (documents_in slots) (All-head (λ t. t.number ≢ number) s slots others))

-- ---- the slot with the number

unfoldable pub Rising : List Slot → Type 0
Rising [] = Unit {0}
Rising (s ∷ slots) = All (λ t. s.number < t.number) slots × Rising slots

rising_of : (slots : List Slot) → ((i j : ℕ) (d : Slot) → i < j → j < length slots → (get_or slots i d).number < (get_or slots j d).number) → Rising slots
unfolding Rising
rising_of [] less = tt
rising_of (s ∷ slots) less = (
  λ k d inside.
      less 0 (suc k) d (omega arith) (omega arith),
  rising_of slots (λ i j d before inside. less (suc i) (suc j) d (omega arith) (omega arith)),
)

pub rising : (last : ℕ) (slots : List Slot) → RiseTo last slots → Rising slots
rising last slots rises = rising_of slots (below_later (λ s. s.number) slots rises.rise)

above_are_others : (number : ℕ) (slots : List Slot) (s : Slot) → s.number ≡ number → All (λ t. s.number < t.number) slots → Others number slots
above_are_others number slots s same above = λ k d inside. (let less = above k d inside in λ e. omega arith)

place_above : (s : Slot) (slots : List Slot) (place : ℕ) (slot : Slot) → All (λ t. s.number < t.number) slots
    → slice_get slots place ≡ Some slot → s.number < slot.number
place_above s slots place slot above at =
    subst (λ t. s.number < t.number) (get_or_from_slice_get slots place slot slot at)
    (above place slot (slice_get_within slots place slot at))

pub document_at-here : (number : ℕ) (slots : List Slot) (place : ℕ) (slot : Slot) → Rising slots → slice_get slots place ≡ Some slot
    → slot.number ≡ number → document_at number (documents_in slots) ≡ option_map texts_of slot.occupant
unfolding document_at documents_in Rising
document_at-here number [] place slot rises at same = cc
document_at-here number (s ∷ slots) zero slot rises at same =
    let is : s ≡ slot = cc in
    here s.occupant (ap (λ t. t.number) is ∙ same) (above_are_others number slots s (ap (λ t. t.number) is ∙ same) rises.0)
    ∙ ap (λ t. option_map texts_of t.occupant) is
  where
    here : (occupant : Option Occupant) → s.number ≡ number → Others number slots
        → document_at number (documents_of_slot s.number occupant ++ documents_in slots) ≡ option_map texts_of occupant
    here None e others = document_at-absent number slots others
    here (Some occupant) e others =
        let yes : (s.number == number) ≡ true = grind (arith, nat_tests) in
        rw yes refl
document_at-here number (s ∷ slots) (suc place) slot rises at same =
    let below = place_above s slots place slot rises.0 at in
    document_at-skip number s.number s.occupant (documents_in slots) (λ e. omega arith) ∙ document_at-here number slots place slot rises.1 at same

pub documents_in-emptied : (number : ℕ) (slots : List Slot) (place : ℕ) (slot : Slot) → Rising slots → slice_get slots place ≡ Some slot
    → slot.number ≡ number
    → documents_in (set slots place (record { number = slot.number; occupant = None })) ≡ without_number number (documents_in slots)
unfolding documents_in Rising
documents_in-emptied number [] place slot rises at same = cc
documents_in-emptied number (s ∷ slots) zero slot rises at same =
    let is : s ≡ slot = cc in
    let e : s.number ≡ number = ap (λ t. t.number) is ∙ same in
    sym (without-here number s.number s.occupant (documents_in slots) e ∙ sym (without-absent number slots (above_are_others number slots s e rises.0)))
documents_in-emptied number (s ∷ slots) (suc place) slot rises at same =
    let below = place_above s slots place slot rises.0 at in
    ap (λ ds. documents_of_slot s.number s.occupant ++ ds) (documents_in-emptied number slots place slot rises.1 at same)
    ∙ sym (without-skip number s.number s.occupant (documents_in slots) (λ e. omega arith))

-- ---- another body in the slot with the number

-- no document has the number
pub with_body_at-absent : (number : ℕ) (body : List ℕ) (ds : List Document) → document_at number ds ≡ None → map (with_body_at number body) ds ≡ ds
unfolding document_at
with_body_at-absent number body [] none = refl
with_body_at-absent number body (d ∷ ds) none = go (d.number == number) none (with_body_at-absent number body ds)
  where
    go : (t : Bool) → cond t (Some (d.name, d.body)) (document_at number ds) ≡ None
        → (document_at number ds ≡ None → map (with_body_at number body) ds ≡ ds)
        → cond t (document d.number d.name body) d ∷ map (with_body_at number body) ds ≡ d ∷ ds
    go true h deeper = cc
    go false h deeper = ap (λ xs. d ∷ xs) (deeper h)

with_body_at-skip : (number : ℕ) (body : List ℕ) (other : ℕ) (occupant : Option Occupant) (ds : List Document) → other ≢ number
    → map (with_body_at number body) (documents_of_slot other occupant ++ ds) ≡ documents_of_slot other occupant ++ map (with_body_at number body) ds
with_body_at-skip number body other None ds apart = refl
with_body_at-skip number body other (Some occupant) ds apart =
    let no : (other == number) ≡ false = grind (arith, nat_tests) in
    rw no refl

pub documents_in-exchanged : (number : ℕ) (body : List ℕ) (slots : List Slot) (place : ℕ) (slot : Slot) (occupant : Occupant) → Rising slots
    → slice_get slots place ≡ Some slot → slot.number ≡ number → slot.occupant ≡ Some occupant
    → documents_in (set slots place (record { number = slot.number; occupant = Some (record { name = occupant.name; held = body }) }))
    ≡ map (with_body_at number body) (documents_in slots)
unfolding documents_in Rising
documents_in-exchanged number body [] place slot occupant rises at same full = cc
documents_in-exchanged number body (s ∷ slots) zero slot occupant rises at same full =
    let is : s ≡ slot = cc in
    let e : s.number ≡ number = ap (λ t. t.number) is ∙ same in
    let others = document_at-absent number slots (above_are_others number slots s e rises.0) in
    let yes : (s.number == number) ≡ true = grind (arith, nat_tests) in
    let here : s.occupant ≡ Some occupant = ap (λ t. t.occupant) is ∙ full in
    let number_is : slot.number ≡ s.number = ap (λ t. t.number) (sym is) in
    rw (here, yes) (ap (λ n. document n occupant.name body ∷ documents_in slots) number_is
    ∙ ap (λ xs. document s.number occupant.name body ∷ xs) (sym (with_body_at-absent number body (documents_in slots) others)))
documents_in-exchanged number body (s ∷ slots) (suc place) slot occupant rises at same full =
    let below = place_above s slots place slot rises.0 at in
    ap (λ ds. documents_of_slot s.number s.occupant ++ ds) (documents_in-exchanged number body slots place slot occupant rises.1 at same full)
    ∙ sym (with_body_at-skip number body s.number s.occupant (documents_in slots) (λ e. omega arith))

-- ---- empty slots dropped

abbrev pub is_full : Slot → Bool
is_full slot = is_some slot.occupant

pub documents_in-compact : (slots : List Slot) → documents_in (filter is_full slots) ≡ documents_in slots
unfolding documents_in
documents_in-compact [] = refl
documents_in-compact (s ∷ slots) = go s.occupant refl (documents_in-compact slots)
  where
    go : (occupant : Option Occupant) → s.occupant ≡ occupant → documents_in (filter is_full slots) ≡ documents_in slots
        → documents_in (cond (is_some s.occupant) (s ∷ filter is_full slots) (filter is_full slots))
        ≡ documents_of_slot s.number s.occupant ++ documents_in slots
    go None e rest = rw e rest
    go (Some occupant) e rest = rw e (ap (λ ds. document s.number occupant.name occupant.held ∷ ds) rest)

pub length-full : (slots : List Slot) → length (filter is_full slots) ≡ length (documents_in slots)
unfolding documents_in
length-full [] = refl
length-full (s ∷ slots) = go s.occupant refl (length-full slots)
  where
    go : (occupant : Option Occupant) → s.occupant ≡ occupant → length (filter is_full slots) ≡ length (documents_in slots)
        → length (cond (is_some s.occupant) (s ∷ filter is_full slots) (filter is_full slots))
        ≡ length (documents_of_slot s.number s.occupant ++ documents_in slots)
    go None e rest = rw e rest
    go (Some occupant) e rest = rw e (ap suc rest)

numbers_in-filter : (p : Slot → Bool) (n : ℕ) (slots : List Slot)
    → ((k : ℕ) (d : ℕ) → k < length (numbers_in slots) → get_or (numbers_in slots) k d ≤ n) → All (λ m. m ≤ n) (numbers_in (filter p slots))
numbers_in-filter p n [] below = All-nil (λ m. m ≤ n)
numbers_in-filter p n (s ∷ slots) below = go (p s) (numbers_in-filter p n slots (All-tail (λ m. m ≤ n) s.number (numbers_in slots) below))
  where
    go : (t : Bool) → All (λ m. m ≤ n) (numbers_in (filter p slots)) → All (λ m. m ≤ n) (numbers_in (cond t (s ∷ filter p slots) (filter p slots)))
    go true rest = All-cons (λ m. m ≤ n) s.number (numbers_in (filter p slots)) (All-head (λ m. m ≤ n) s.number (numbers_in slots) below) rest
    go false rest = rest

pub RiseTo-filter : (p : Slot → Bool) (last : ℕ) (slots : List Slot) → RiseTo last slots → RiseTo last (filter p slots)
RiseTo-filter p last slots rises = record {
  rise = rise-filter (λ s. s.number) p slots rises.rise;
  below = numbers_in-filter p last slots rises.below;
}

-- ---- one more slot

pub documents_in-push : (slots : List Slot) (slot : Slot)
    → documents_in (slots ++ slot ∷ []) ≡ documents_in slots ++ documents_of_slot slot.number slot.occupant
unfolding documents_in
documents_in-push [] slot = append-nil (documents_of_slot slot.number slot.occupant)
documents_in-push (s ∷ slots) slot =
    ap (λ ds. documents_of_slot s.number s.occupant ++ ds) (documents_in-push slots slot)
    ∙ sym (append_assoc (documents_of_slot s.number s.occupant) (documents_in slots) (documents_of_slot slot.number slot.occupant))

pub RiseTo-push : (last : ℕ) (slots : List Slot) (slot : Slot) → RiseTo last slots → last < slot.number → RiseTo slot.number (slots ++ slot ∷ [])
RiseTo-push last slots slot rises above = record {
  rise =
      rw (map-append (λ s. s.number) slots (slot ∷ []))
      (rising-push (numbers_in slots) slot.number rises.rise (λ k d inside. (let low = rises.below k d inside in omega arith)));
  below =
      rw (map-append (λ s. s.number) slots (slot ∷ []))
      (All-push (λ n. n ≤ slot.number) (numbers_in slots) slot.number (λ k d inside. (let low = rises.below k d inside in omega arith))
      (omega arith));
}

-- no more documents than slots
pub length-documents_in : (slots : List Slot) → length (documents_in slots) ≤ length slots
length-documents_in slots = omega (arith, length-full slots, length-filter is_full slots, count_by-le-length is_full slots)
