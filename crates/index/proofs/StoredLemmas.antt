-- Documents whose numbers rise, and their sets.
use Rattle.std.proofs.Common.{◌≡◌, ◌≢◌, ℕ, suc, ◌+◌, ◌<◌, ◌≤◌, ◌==◌, ◌||◌, ◌&&◌, Bool, true, false, not, cond, nat_lt, List, [], ◌∷◌, ◌++◌, map}
use Rattle.std.proofs.Common.{◌⊎◌, inl, inr, take, add-one, Result, Ok, Err, OnOk, length, get_or, Option, Some, None, Contains, refl, sym, ◌∙◌, ap, subst, arith}
use Rattle.std.specs.Prelude.{All, IsSome, IsOk, filter, option_map}
use Rattle.std.specs.List.Sorted.{IsStrictlyIncreasing}
use Rattle.std.proofs.lemmas.Bool.{false≢true}
use Rattle.std.proofs.lemmas.Bool.Decides.{nat_tests}
use Rattle.std.proofs.lemmas.List.{length-map, get_or-map, get_or_default, map-append}
use Rattle.std.proofs.lemmas.List.Elements.{All-head, All-tail, All-nil, All-cons, All-append, All-contains_itself, All-map}
use Rattle.std.proofs.lemmas.List.Kept.{AllPairs-from_increasing, IsStrictlyIncreasing-filter}
use Rattle.std.proofs.lemmas.Option.{some_pair_parts}
use Rattle.std.proofs.lemmas.List.Folds.{list_any-append}
use Rattle.std.proofs.Math.Seq.{take-suc}
use Rattle.std.proofs.lemmas.List.Sums.{sum-map, sum_by-cons}
use Rattle.std.proofs.Math.Bool.{or-false, and-false, and-true}
use Rattle.std.specs.Cmp.{both_ways}
use Rattle.lines.specs.Lines.{lines_of}
use Rattle.query.specs.Trigrams.{ListsTrigrams, trigrams_of_body}
use Rattle.posting.specs.ListValue.{has, without}
use Rattle.posting.specs.declared.filling.Entry.{Entry}
use Rattle.posting.specs.Postings.{holds, SameSets, is_listed, IsPrepared, IsAbsent, AllDiffer}
use Rattle.posting.proofs.Members.{has_at, All-has}
use Rattle.posting.proofs.SetLemmas.{has-filter}
use Rattle.posting.proofs.Fillings.{or_left, or_right}
use Rattle.index.specs.declared.slots.Slot.{Slot}
use Rattle.index.specs.declared.slots.Occupant.{Occupant}
use Rattle.index.specs.declared.sets.Sets.{Sets}
use Rattle.index.specs.declared.sets.Waiting.TheVariants.{From}
use Rattle.index.specs.declared.sets.Change.{Change}
use Rattle.index.specs.declared.store.Store.{Store}
use Rattle.index.specs.Private.Numbered.{Document, document, document_at, body_bytes}
use Rattle.index.specs.Private.Slots.{documents_of_slot, documents_in, numbers_in, RiseTo, FewAreEmpty, without_number, with_body_at}
use Rattle.index.specs.Private.Sets.{IsNew, IsChange, trigrams_shown, trigrams_at, is_whole, is_left, NoneIsLeft, is_waiting, AreSetsOf, IsAmongWaiting, WaitsWhole}
use Rattle.index.specs.Private.Store.{stored, IsStore, IsReadyFor}
use Rattle.index.proofs.DocumentLemmas.{numbers-replaced}
use Rattle.documents.proofs.RisingLemmas.{below_later}
use Rattle.index.proofs.SlotLemmas.{Rising, rising, with_body_at-absent, documents_in-push}

-- ---- each number is below those after it

abbrev pub Numbered : List Document → Type 0
Numbered [] = Unit {0}
Numbered (d ∷ ds) = All (λ e. d.number < e.number) ds × Numbered ds

pub Numbered-rise : (ds : List Document) → IsStrictlyIncreasing (map (λ d. d.number) ds) → Numbered ds
Numbered-rise ds rise = go ds (below_later (λ d. d.number) ds rise)
  where
    go : (ds : List Document) → ((i j : ℕ) (d : Document) → i < j → j < length ds → (get_or ds i d).number < (get_or ds j d).number) → Numbered ds
    go [] less = tt
    go (d ∷ ds) less = (
      λ k x inside.
          less 0 (suc k) x (omega arith) (omega arith),
      go ds (λ i j x before inside. less (suc i) (suc j) x (omega arith) (omega arith)),
    )

All-documents_in : (P : ℕ → Type 0) (slots : List Slot) → All (λ s. P s.number) slots → All (λ d. P d.number) (documents_in slots)
unfolding documents_in
All-documents_in P [] each = All-nil (λ d. P d.number)
All-documents_in P (s ∷ slots) each =
    All-append (λ d. P d.number) (documents_of_slot s.number s.occupant) (documents_in slots)
    (one s.occupant (All-head (λ t. P t.number) s slots each)) (All-documents_in P slots (All-tail (λ t. P t.number) s slots each))
  where
    one : (occupant : Option Occupant) → P s.number → All (λ d. P d.number) (documents_of_slot s.number occupant)
    one None p = All-nil (λ d. P d.number)
    one (Some occupant) p = All-cons (λ d. P d.number) (document s.number occupant.name occupant.held) [] p (All-nil (λ d. P d.number))

Numbered-rising : (slots : List Slot) → Rising slots → Numbered (documents_in slots)
unfolding documents_in Rising
Numbered-rising [] rises = tt
Numbered-rising (s ∷ slots) rises = go s.occupant (All-documents_in (λ n. s.number < n) slots rises.0) (Numbered-rising slots rises.1)
  where
    go : (occupant : Option Occupant) → All (λ d. s.number < d.number) (documents_in slots) → Numbered (documents_in slots)
        → Numbered (documents_of_slot s.number occupant ++ documents_in slots)
    go None above rest = rest
    go (Some occupant) above rest = (above, rest)

pub Numbered-stored : (last : ℕ) (slots : List Slot) → RiseTo last slots → Numbered (documents_in slots)
Numbered-stored last slots rises = Numbered-rising slots (rising last slots rises)

pub numbers_at_most : (last : ℕ) (slots : List Slot) → RiseTo last slots → All (λ d. d.number ≤ last) (documents_in slots)
numbers_at_most last slots rises =
    All-documents_in (λ n. n ≤ last) slots (λ k d inside.
    (let low = rises.below k d.number (omega (arith, length-map slots (λ s. s.number))) in
    let is : get_or (numbers_in slots) k d.number ≡ (get_or slots k d).number = get_or-map (λ s. s.number) slots k d d.number inside in
    omega arith))

-- ---- documents by their numbers

pub document_at-none : (number : ℕ) (ds : List Document) → All (λ d. d.number ≢ number) ds → document_at number ds ≡ None
unfolding document_at
document_at-none number [] others = refl
document_at-none number (d ∷ ds) others =
    let differs = All-head (λ e. e.number ≢ number) d ds others in
    let no : (d.number == number) ≡ false = grind (arith, nat_tests) in
    rw no (document_at-none number ds (All-tail (λ e. e.number ≢ number) d ds others))

pub document_at-above : (number last : ℕ) (ds : List Document) → All (λ d. d.number ≤ last) ds → last < number → document_at number ds ≡ None
document_at-above number last ds low above = document_at-none number ds (λ k d inside. (let under = low k d inside in λ e. omega arith))

or_else : Option (List ℕ × List ℕ) → Option (List ℕ × List ℕ) → Option (List ℕ × List ℕ)
or_else None other = other
or_else (Some d) other = Some d

document_at-append : (number : ℕ) (xs ys : List Document) → document_at number (xs ++ ys) ≡ or_else (document_at number xs) (document_at number ys)
unfolding document_at or_else
document_at-append number [] ys = refl
document_at-append number (x ∷ xs) ys = go (x.number == number) (document_at-append number xs ys)
  where
    go : (t : Bool) → document_at number (xs ++ ys) ≡ or_else (document_at number xs) (document_at number ys)
        → cond t (Some (x.name, x.body)) (document_at number (xs ++ ys))
        ≡ or_else (cond t (Some (x.name, x.body)) (document_at number xs)) (document_at number ys)
    go true e = refl
    go false e = e

pub document_at-kept : (gone number : ℕ) (ds : List Document) → document_at number (without_number gone ds) ≡ cond (number == gone) None (document_at number ds)
unfolding document_at
document_at-kept gone number [] = none (number == gone)
  where
    nothing : Option (List ℕ × List ℕ)
    nothing = None

    none : (t : Bool) → nothing ≡ cond t None None
    none true = refl
    none false = refl
document_at-kept gone number (d ∷ ds) = go (d.number == gone) refl (d.number == number) refl (document_at-kept gone number ds)
  where
    pick : (t : Bool) → (d.number == gone) ≡ t → (u : Bool) → (d.number == number) ≡ u
        → document_at number (without_number gone ds) ≡ cond (number == gone) None (document_at number ds)
        → document_at number (cond (not t) (d ∷ without_number gone ds) (without_number gone ds))
        ≡ cond (number == gone) None (cond u (Some (d.name, d.body)) (document_at number ds))
    pick true e true same deeper =
        let here : (number == gone) ≡ true = grind (arith, nat_tests) in
        let none : document_at number (without_number gone ds) ≡ None = rw here at deeper in
        rw here none
    pick true e false same deeper = deeper
    pick false e true same deeper =
        let here : (number == gone) ≡ false = grind (arith, nat_tests) in
        rw same (rw here refl)
    pick false e false same deeper = rw same deeper

    go : (t : Bool) → (d.number == gone) ≡ t → (u : Bool) → (d.number == number) ≡ u
        → document_at number (without_number gone ds) ≡ cond (number == gone) None (document_at number ds)
        → document_at number (cond (not (d.number == gone)) (d ∷ without_number gone ds) (without_number gone ds))
        ≡ cond (number == gone) None (cond (d.number == number) (Some (d.name, d.body)) (document_at number ds))
    go t e u same deeper = rw (e, same) (pick t e u same deeper)

-- ---- trigrams

pub listed : (body trigrams : List ℕ) → ListsTrigrams body trigrams → (t : ℕ) → has trigrams t ≡ trigrams_of_body body t
listed body trigrams h t = both_ways (has trigrams t) (trigrams_of_body body t) forth back
  where
    forth : has trigrams t ≡ true → trigrams_of_body body t ≡ true
    forth e = (h.members t).0 (All-has (Contains trigrams) trigrams t (All-contains_itself trigrams) e)

    back : trigrams_of_body body t ≡ true → has trigrams t ≡ true
    back e =
        let at = (h.members t).1 e in
        has_at trigrams at.0 t at.1 (get_or_default trigrams at.0 0 t at.1 ∙ at.2)

and_same : (b : Bool) → (b && not (b && true)) ≡ false
and_same true = refl
and_same false = refl

and_none : (a b : Bool) → (a && not (b && false)) ≡ a
and_none true true = refl
and_none true false = refl
and_none false b = refl

pub numbers-kept : (gone : ℕ) (ds : List Document) → map (λ d. d.number) (without_number gone ds) ≡ without gone (map (λ d. d.number) ds)
numbers-kept gone [] = refl
numbers-kept gone (d ∷ ds) = go (not (d.number == gone)) (numbers-kept gone ds)
  where
    go : (t : Bool) → map (λ x. x.number) (without_number gone ds) ≡ without gone (map (λ x. x.number) ds)
        → map (λ x. x.number) (cond t (d ∷ without_number gone ds) (without_number gone ds))
        ≡ cond t (d.number ∷ without gone (map (λ x. x.number) ds)) (without gone (map (λ x. x.number) ds))
    go true e = ap (λ xs. d.number ∷ xs) e
    go false e = e

pub all_differ : (xs : List ℕ) → IsStrictlyIncreasing xs → AllDiffer xs
all_differ xs rise = λ i j d before inside. (let less = AllPairs-from_increasing xs rise i j d before inside in λ e. omega arith)

or_rises : (a b x : Bool) → (a ≡ true → b ≡ true) → (a || x) ≡ true → (b || x) ≡ true
or_rises a true x up is = refl
or_rises true false x up is = absurd (false≢true (up refl))
or_rises false false x up is = is

and_rises : (a b x : Bool) → (a ≡ true → b ≡ true) → (a && x) ≡ true → (b && x) ≡ true
and_rises true b x up is = rw (up refl) is
and_rises false b x up is = absurd (false≢true is)

not_held : (a : Bool) → (a ≡ true → ⊥) → a ≡ false
not_held true never = absurd (never refl)
not_held false never = refl

-- The sets follow the documents if each change of the sets would, from all that the documents had, make all that they have.
followed : (ds ds' : List Document) (old new : Sets) (f : ℕ → ℕ → Bool → Bool) → AreSetsOf ds old → new.waiting ≡ old.waiting
    → ((t n : ℕ) (a b : Bool) → (a ≡ true → b ≡ true) → f t n a ≡ true → f t n b ≡ true)
    → ((t n : ℕ) → holds new.postings t n ≡ f t n (holds old.postings t n)) → ((t n : ℕ) → f t n (trigrams_at ds n t) ≡ trigrams_at ds' n t)
    → new.live.members ≡ map (λ d. d.number) ds' → AreSetsOf ds' new
followed ds ds' old new f kept waiting rises sets moved live = record {
  live = live;
  postings = λ t n whole. sets t n ∙ ap (f t n) (kept.postings t n (rw waiting at whole)) ∙ moved t n;
  few = λ t n held. few t n (is_left new.waiting t n) refl held;
  both = λ t n left there.
      sets t n ∙ rises t n (trigrams_at ds n t) (holds old.postings t n) (kept.both t n (rw waiting at left)) (moved t n ∙ there);
}
  where
    first_one : (a b : Bool) → b ≡ false → (a || b) ≡ true → a ≡ true
    first_one true b e either = refl
    first_one false b e either = absurd (false≢true (sym e ∙ either))

    few : (t n : ℕ) (left : Bool) → is_left new.waiting t n ≡ left → holds new.postings t n ≡ true
        → (trigrams_at ds' n t || is_left new.waiting t n) ≡ true
    few t n true e held = or_right (trigrams_at ds' n t) (is_left new.waiting t n) e
    few t n false e held =
        or_left (trigrams_at ds' n t) (is_left new.waiting t n)
        (sym (moved t n)
        ∙ rises t n (holds old.postings t n) (trigrams_at ds n t)
        (λ was. first_one (trigrams_at ds n t) (is_left old.waiting t n) (rw waiting at e) (kept.few t n was)) (sym (sets t n) ∙ held))

-- the sets after room is made
pub AreSetsOf-same : (ds : List Document) (old new : Sets) → AreSetsOf ds old → new.live.members ≡ old.live.members → SameSets old.postings new.postings
    → new.waiting ≡ old.waiting → AreSetsOf ds new
AreSetsOf-same ds old new kept live sets waiting =
    followed ds ds old new (λ t n b. b) kept waiting (λ t n a b up is. up is) sets (λ t n. refl) (live ∙ kept.live)

pub IsStore-room : (last : ℕ) (old new : Store) → IsStore last old → new.slots.items ≡ old.slots.items → AreSetsOf (stored old) new.sets
    → new.count ≡ old.count → new.held_bytes ≡ old.held_bytes → IsStore last new
IsStore-room last old new kept items sets count bytes = record {
  slots = subst (RiseTo last) (sym items) kept.slots;
  few = subst FewAreEmpty (sym items) kept.few;
  sets = subst (λ xs. AreSetsOf (documents_in xs) new.sets) (sym items) sets;
  counted = count ∙ (kept.counted ∙ ap (λ xs. length (documents_in xs)) (sym items));
  bytes = bytes ∙ (kept.bytes ∙ ap (λ xs. body_bytes (documents_in xs)) (sym items));
}

-- where no number is left in sets of a body that its document no longer has
pub held_shown : (ds : List Document) (sets : Sets) → AreSetsOf ds sets → NoneIsLeft sets.waiting → (t n : ℕ) → holds sets.postings t n ≡ true
    → trigrams_at ds n t ≡ true
held_shown ds sets kept none t n held = go (trigrams_at ds n t) (is_left sets.waiting t n) (none t n) (kept.few t n held)
  where
    go : (a b : Bool) → b ≡ false → (a || b) ≡ true → a ≡ true
    go true b e either = refl
    go false b e either = absurd (false≢true (sym e ∙ either))

-- the sets after a document is taken out
pub AreSetsOf-take : (ds : List Document) (gone : ℕ) (name body trigrams : List ℕ) (old new : Sets) → AreSetsOf ds old
    → document_at gone ds ≡ Some (name, body) → ListsTrigrams body trigrams → new.live.members ≡ without gone old.live.members → new.waiting ≡ old.waiting
    → ((trigram n : ℕ) → holds new.postings trigram n ≡ (holds old.postings trigram n && not (has trigrams trigram && n == gone)))
    → AreSetsOf (without_number gone ds) new
AreSetsOf-take ds gone name body trigrams old new kept at lists live waiting sets =
    followed ds (without_number gone ds) old new (λ trigram number b. b && not (has trigrams trigram && number == gone)) kept waiting
    (λ trigram number a b up is. and_rises a b (not (has trigrams trigram && number == gone)) up is) sets
    (λ trigram number.
    left_over trigram number (number == gone) refl ∙ ap (λ found. trigrams_shown found trigram) (sym (document_at-kept gone number ds)))
    (live ∙ (ap (without gone) kept.live ∙ sym (numbers-kept gone ds)))
  where
    left_over : (trigram number : ℕ) (t : Bool) → (number == gone) ≡ t
        → (trigrams_at ds number trigram && not (has trigrams trigram && number == gone))
        ≡ trigrams_shown (cond (number == gone) None (document_at number ds)) trigram
    left_over trigram number true e =
        let same : number ≡ gone = grind (arith, nat_tests) in
        let was : trigrams_at ds number trigram ≡ trigrams_of_body body trigram =
        ap (λ n. trigrams_shown (document_at n ds) trigram) same ∙ ap (λ found. trigrams_shown found trigram) at in
        rw e (rw was (rw (listed body trigrams lists trigram) (and_same (trigrams_of_body body trigram))))
    left_over trigram number false e = rw e (and_none (trigrams_at ds number trigram) (has trigrams trigram))

-- the sets after a document is put in
pub AreSetsOf-put : (ds : List Document) (number : ℕ) (name body trigrams : List ℕ) (old new : Sets) → AreSetsOf ds old
    → document_at number ds ≡ None → ListsTrigrams body trigrams → new.live.members ≡ old.live.members ++ number ∷ [] → new.waiting ≡ old.waiting
    → ((trigram n : ℕ) → holds new.postings trigram n ≡ (holds old.postings trigram n || (has trigrams trigram && number == n)))
    → AreSetsOf (ds ++ document number name body ∷ []) new
unfolding document_at or_else
AreSetsOf-put ds number name body trigrams old new kept fresh lists live waiting sets =
    followed ds (ds ++ document number name body ∷ []) old new (λ trigram n b. b || (has trigrams trigram && number == n)) kept waiting
    (λ trigram n a b up is. or_rises a b (has trigrams trigram && number == n) up is) sets
    (λ trigram n.
    come_in trigram n (document_at n ds) (number == n) refl (λ e. ap (λ m. document_at m ds) (sym e) ∙ fresh)
    ∙ ap (λ found. trigrams_shown found trigram) (sym (document_at-append n ds (document number name body ∷ []))))
    (live ∙ (ap (λ xs. xs ++ number ∷ []) kept.live ∙ sym (map-append (λ d. d.number) ds (document number name body ∷ []))))
  where
    come_in : (trigram n : ℕ) (found : Option (List ℕ × List ℕ)) (t : Bool) → (number == n) ≡ t → (number ≡ n → found ≡ None)
        → (trigrams_shown found trigram || (has trigrams trigram && number == n))
        ≡ trigrams_shown (or_else found (document_at n (document number name body ∷ []))) trigram
    come_in trigram n None true e new_here = rw e (and-true (has trigrams trigram) ∙ listed body trigrams lists trigram)
    come_in trigram n None false e new_here = rw e (and-false (has trigrams trigram))
    come_in trigram n (Some d) true e new_here =
        let same : number ≡ n = grind (arith, nat_tests) in
        let clash = new_here same in
        cc
    come_in trigram n (Some d) false e new_here = rw e (rw (and-false (has trigrams trigram)) (or-false (trigrams_of_body d.1 trigram)))

-- a number above all others
pub all_below : (ds : List Document) (last number : ℕ) (sets : Sets) → AreSetsOf ds sets → All (λ d. d.number ≤ last) ds → last < number
    → All (λ m. m < number) sets.live.members
all_below ds last number sets kept low above =
    subst (λ xs. All (λ m. m < number) xs) (sym kept.live)
    (All-map (λ m. m < number) (λ d. d.number) ds (λ k d inside. (let under = low k d inside in omega arith)))

-- a number above all others is new to the sets
pub IsNew-above : (ds : List Document) (last number : ℕ) (body trigrams : List ℕ) (sets : Sets) → AreSetsOf ds sets → NoneIsLeft sets.waiting
    → All (λ d. d.number ≤ last) ds → last < number → ListsTrigrams body trigrams → IsNew sets number trigrams
IsNew-above ds last number body trigrams sets kept none low above lists = record {
  live = all_below ds last number sets kept low above;
  postings =
      λ trigram there.
      not_held (holds sets.postings trigram number)
      (λ held. false≢true (sym (ap (λ found. trigrams_shown found trigram) (document_at-above number last ds low above)) ∙ held_shown ds sets kept none trigram number held));
  once = all_differ trigrams lists.rising;
}

-- ---- another body

pub document_at-replaced : (number : ℕ) (body : List ℕ) (ds : List Document) (n : ℕ)
    → document_at n (map (with_body_at number body) ds) ≡ cond (n == number) (option_map (λ d. (d.0, body)) (document_at n ds)) (document_at n ds)
unfolding document_at
document_at-replaced number body [] n = none (n == number)
  where
    nothing : Option (List ℕ × List ℕ)
    nothing = None

    none : (t : Bool) → nothing ≡ cond t None None
    none true = refl
    none false = refl
document_at-replaced number body (d ∷ ds) n = go (d.number == number) refl (d.number == n) refl (document_at-replaced number body ds n)
  where
    go : (t : Bool) → (d.number == number) ≡ t → (u : Bool) → (d.number == n) ≡ u
        → document_at n (map (with_body_at number body) ds) ≡ cond (n == number) (option_map (λ e. (e.0, body)) (document_at n ds)) (document_at n ds)
        → document_at n (cond (d.number == number) (document d.number d.name body) d ∷ map (with_body_at number body) ds)
        ≡ cond (n == number) (option_map (λ e. (e.0, body)) (cond (d.number == n) (Some (d.name, d.body)) (document_at n ds)))
        (cond (d.number == n) (Some (d.name, d.body)) (document_at n ds))
    go true e true same deeper =
        let here : (n == number) ≡ true = grind (arith, nat_tests) in
        rw (e, same, here) refl
    go false e true same deeper =
        let here : (n == number) ≡ false = grind (arith, nat_tests) in
        rw (e, same, here) refl
    go true e false same deeper = rw (e, same) deeper
    go false e false same deeper = rw (e, same) deeper

-- a body that was found is that of a document
pub found_body : (found : Option (List ℕ × List ℕ)) (body : List ℕ) → Some body ≡ option_map (λ d. d.1) found
    → (name : List ℕ) × (found ≡ Some (name, body))
found_body None body e = cc
found_body (Some d) body e = let same : body ≡ d.1 = cc in (d.0, ap (λ b. Some (d.0, b)) (sym same))

pub not_lost : (found : Option (List ℕ × List ℕ)) → None ≡ option_map (λ d. d.1) found → IsSome found → ⊥
not_lost None e there = false≢true there
not_lost (Some d) e there = cc

-- the change from the trigrams that a document has to those of another body
pub IsReadyFor-change : (store : Store) (number : ℕ) (name old body old_trigrams new_trigrams : List ℕ) (change : Change) → NoneIsLeft store.sets.waiting
    → document_at number (stored store) ≡ Some (name, old) → ListsTrigrams old old_trigrams → ListsTrigrams body new_trigrams
    → IsChange old_trigrams new_trigrams change → IsPrepared store.sets.postings number change.fresh → IsReadyFor store number body change
IsReadyFor-change store number name old body old_trigrams new_trigrams change none at was is h room = record {
  there = subst IsSome (sym at) refl;
  fresh =
      λ t.
      ap (λ xs. has xs t) h.fresh
      ∙ (has-filter (λ n. not (has old_trigrams n)) new_trigrams t
      ∙ (ap (λ b. b && not (has old_trigrams t)) (listed body new_trigrams is t) ∙ ap (λ b. trigrams_of_body body t && not b) (old_at t)));
  gone =
      λ t.
      ap (λ xs. has xs t) h.gone
      ∙ (has-filter (λ n. not (has new_trigrams n)) old_trigrams t
      ∙ (ap (λ b. b && not (has new_trigrams t)) (old_at t)
      ∙ ap (λ b. trigrams_at (stored store) number t && not b) (listed body new_trigrams is t)));
  once =
      subst AllDiffer (sym h.fresh)
      (all_differ (filter (λ n. not (has old_trigrams n)) new_trigrams)
      (IsStrictlyIncreasing-filter (λ n. not (has old_trigrams n)) new_trigrams is.rising));
  room = room;
  none_left = none;
}
  where
    old_at : (t : ℕ) → has old_trigrams t ≡ trigrams_at (stored store) number t
    old_at t = listed old old_trigrams was t ∙ ap (λ found. trigrams_shown found t) (sym at)

-- the sets after the body of a document is replaced
pub AreSetsOf-replace : (ds : List Document) (number : ℕ) (name old_body body fresh gone : List ℕ) (old new : Sets) → AreSetsOf ds old
    → document_at number ds ≡ Some (name, old_body)
    → ((t : ℕ) → has fresh t ≡ (trigrams_of_body body t && not (trigrams_at ds number t)))
    → ((t : ℕ) → has gone t ≡ (trigrams_at ds number t && not (trigrams_of_body body t)))
    → new.live.members ≡ old.live.members → new.waiting ≡ old.waiting
    → ((trigram n : ℕ) → holds new.postings trigram n
    ≡ ((holds old.postings trigram n || (has fresh trigram && number == n)) && not (has gone trigram && n == number)))
    → AreSetsOf (map (with_body_at number body) ds) new
AreSetsOf-replace ds number name old_body body fresh gone old new kept at fresh_is gone_is live waiting sets =
    followed ds (map (with_body_at number body) ds) old new
    (λ trigram n b. (b || (has fresh trigram && number == n)) && not (has gone trigram && n == number)) kept waiting
    (λ trigram n a b up is.
    and_rises (a || (has fresh trigram && number == n)) (b || (has fresh trigram && number == n)) (not (has gone trigram && n == number))
    (or_rises a b (has fresh trigram && number == n) up) is) sets
    (λ trigram n. moved trigram n (n == number) refl ∙ ap (λ found. trigrams_shown found trigram) (sym (document_at-replaced number body ds n)))
    (live ∙ (kept.live ∙ sym (numbers-replaced (λ d. d.number == number) body ds)))
  where
    exchanged : (was is : Bool) → ((was || ((is && not was) && true)) && not ((was && not is) && true)) ≡ is
    exchanged true true = refl
    exchanged true false = refl
    exchanged false true = refl
    exchanged false false = refl

    same_as : (was f g : Bool) → ((was || (f && false)) && not (g && false)) ≡ was
    same_as true true true = refl
    same_as true true false = refl
    same_as true false true = refl
    same_as true false false = refl
    same_as false true true = refl
    same_as false true false = refl
    same_as false false true = refl
    same_as false false false = refl

    moved : (trigram n : ℕ) (t : Bool) → (n == number) ≡ t
        → ((trigrams_at ds n trigram || (has fresh trigram && number == n)) && not (has gone trigram && n == number))
        ≡ trigrams_shown (cond (n == number) (option_map (λ d. (d.0, body)) (document_at n ds)) (document_at n ds)) trigram
    moved trigram n true e =
        let same : n ≡ number = grind (arith, nat_tests) in
        let back : (number == n) ≡ true = grind (arith, nat_tests) in
        let was : trigrams_at ds n trigram ≡ trigrams_at ds number trigram = ap (λ m. trigrams_shown (document_at m ds) trigram) same in
        let there : document_at n ds ≡ Some (name, old_body) = ap (λ m. document_at m ds) same ∙ at in
        rw (e, back, was, fresh_is trigram, gone_is trigram, there) (exchanged (trigrams_at ds number trigram) (trigrams_of_body body trigram))
    moved trigram n false e =
        let back : (number == n) ≡ false = grind (arith, nat_tests) in
        rw (e, back) (same_as (trigrams_at ds n trigram) (has fresh trigram) (has gone trigram))

-- ---- the bytes of the bodies

pub body_bytes-cons : (d : Document) (ds : List Document) → body_bytes (d ∷ ds) ≡ length d.body + body_bytes ds
body_bytes-cons d ds =
    sum-map (λ x. length x.body) (d ∷ ds)
    ∙ (sum_by-cons (λ x. length x.body) d ds ∙ ap (λ n. length d.body + n) (sym (sum-map (λ x. length x.body) ds)))

pub body_bytes-push : (ds : List Document) (d : Document) → body_bytes (ds ++ d ∷ []) ≡ body_bytes ds + length d.body
body_bytes-push [] d = refl
body_bytes-push (x ∷ ds) d = omega (arith, body_bytes-push ds d, body_bytes-cons x ds, body_bytes-cons x (ds ++ d ∷ []))

without-all_others : (gone : ℕ) (ds : List Document) → All (λ d. d.number ≢ gone) ds → without_number gone ds ≡ ds
without-all_others gone [] others = refl
without-all_others gone (d ∷ ds) others =
    let differs = All-head (λ e. e.number ≢ gone) d ds others in
    let no : (d.number == gone) ≡ false = grind (arith, nat_tests) in
    rw no (ap (λ xs. d ∷ xs) (without-all_others gone ds (All-tail (λ e. e.number ≢ gone) d ds others)))

pub length-without : (gone : ℕ) (ds : List Document) (name body : List ℕ) → Numbered ds → document_at gone ds ≡ Some (name, body)
    → length (without_number gone ds) + 1 ≡ length ds
unfolding document_at
length-without gone [] name body numbered at = cc
length-without gone (d ∷ ds) name body numbered at = go (d.number == gone) refl at (length-without gone ds name body numbered.1)
  where
    go : (t : Bool) → (d.number == gone) ≡ t → cond t (Some (d.name, d.body)) (document_at gone ds) ≡ Some (name, body)
        → (document_at gone ds ≡ Some (name, body) → length (without_number gone ds) + 1 ≡ length ds)
        → length (cond (not (d.number == gone)) (d ∷ without_number gone ds) (without_number gone ds)) + 1 ≡ length (d ∷ ds)
    go true e found deeper =
        let same : d.number ≡ gone = grind (arith, nat_tests) in
        let rest : without_number gone ds ≡ ds = without-all_others gone ds (λ k x inside. (let above = numbered.0 k x inside in λ n. omega arith)) in
        rw (e, rest) (omega arith)
    go false e found deeper =
        let rest = deeper found in
        rw e (omega (arith, rest))

pub body_bytes-without : (gone : ℕ) (ds : List Document) (name body : List ℕ) → Numbered ds → document_at gone ds ≡ Some (name, body)
    → body_bytes (without_number gone ds) + length body ≡ body_bytes ds
unfolding document_at
body_bytes-without gone [] name body numbered at = cc
body_bytes-without gone (d ∷ ds) name body numbered at =
    go (d.number == gone) refl at (body_bytes-without gone ds name body numbered.1) ∙ sym (body_bytes-cons d ds)
  where
    go : (t : Bool) → (d.number == gone) ≡ t → cond t (Some (d.name, d.body)) (document_at gone ds) ≡ Some (name, body)
        → (document_at gone ds ≡ Some (name, body) → body_bytes (without_number gone ds) + length body ≡ body_bytes ds)
        → body_bytes (cond (not (d.number == gone)) (d ∷ without_number gone ds) (without_number gone ds)) + length body
        ≡ length d.body + body_bytes ds
    go true e found deeper =
        let same : d.number ≡ gone = grind (arith, nat_tests) in
        let is : d.body ≡ body = (some_pair_parts d.name name d.body body found).1 in
        let size : length d.body ≡ length body = ap length is in
        let rest : without_number gone ds ≡ ds = without-all_others gone ds (λ k x inside. (let above = numbered.0 k x inside in λ n. omega arith)) in
        rw (e, rest) (omega (arith, size))
    go false e found deeper =
        let rest = deeper found in
        rw e (omega (arith, rest, body_bytes-cons d (without_number gone ds)))

pub body_bytes-replaced : (number : ℕ) (ds : List Document) (name old body : List ℕ) → Numbered ds → document_at number ds ≡ Some (name, old)
    → body_bytes (map (with_body_at number body) ds) + length old ≡ body_bytes ds + length body
unfolding document_at
body_bytes-replaced number [] name old body numbered at = cc
body_bytes-replaced number (d ∷ ds) name old body numbered at =
    go (d.number == number) refl at (body_bytes-replaced number ds name old body numbered.1)
  where
    go : (t : Bool) → (d.number == number) ≡ t → cond t (Some (d.name, d.body)) (document_at number ds) ≡ Some (name, old)
        → (document_at number ds ≡ Some (name, old)
        → body_bytes (map (with_body_at number body) ds) + length old ≡ body_bytes ds + length body)
        → body_bytes (cond (d.number == number) (document d.number d.name body) d ∷ map (with_body_at number body) ds) + length old
        ≡ body_bytes (d ∷ ds) + length body
    go true e found deeper =
        let same : d.number ≡ number = grind (arith, nat_tests) in
        let is : d.body ≡ old = (some_pair_parts d.name name d.body old found).1 in
        let size : length d.body ≡ length old = ap length is in
        let none = document_at-none number ds (λ k x inside. (let above = numbered.0 k x inside in λ n. omega arith)) in
        let rest : map (with_body_at number body) ds ≡ ds = with_body_at-absent number body ds none in
        rw (e, rest) (omega (arith, size, body_bytes-cons d ds, body_bytes-cons (document d.number d.name body) ds))
    go false e found deeper =
        let rest = deeper found in
        rw e (omega (arith, rest, body_bytes-cons d ds, body_bytes-cons d (map (with_body_at number body) ds)))

-- ---- a number that no document has

pub without-absent_number : (gone : ℕ) (ds : List Document) → document_at gone ds ≡ None → without_number gone ds ≡ ds
unfolding document_at
without-absent_number gone [] none = refl
without-absent_number gone (d ∷ ds) none = go (d.number == gone) none (without-absent_number gone ds)
  where
    go : (t : Bool) → cond t (Some (d.name, d.body)) (document_at gone ds) ≡ None
        → (document_at gone ds ≡ None → without_number gone ds ≡ ds)
        → cond (not t) (d ∷ without_number gone ds) (without_number gone ds) ≡ d ∷ ds
    go true h deeper = cc
    go false h deeper = ap (λ xs. d ∷ xs) (deeper h)

pub RiseTo-same : (last : ℕ) (old new : List Slot) → numbers_in new ≡ numbers_in old → RiseTo last old → RiseTo last new
RiseTo-same last old new same rises = record {
  rise = subst IsStrictlyIncreasing (sym same) rises.rise;
  below = subst (All (λ n. n ≤ last)) (sym same) rises.below;
}

pub RiseTo-none : RiseTo 0 []
RiseTo-none = record { rise = λ k inside. absurd (omega arith); below = All-nil (λ n. n ≤ 0) }

-- ---- documents that wait

-- the sets after a document is put in whose trigrams wait
pub AreSetsOf-later : (ds : List Document) (number : ℕ) (name body : List ℕ) (old new : Sets) → AreSetsOf ds old → NoneIsLeft old.waiting
    → NoneIsLeft new.waiting → new.live.members ≡ old.live.members ++ number ∷ [] → new.postings ≡ old.postings
    → ((t n : ℕ) → is_whole new.waiting t n ≡ true → (is_whole old.waiting t n ≡ true) × ((number == n) ≡ false))
    → AreSetsOf (ds ++ document number name body ∷ []) new
unfolding document_at or_else
AreSetsOf-later ds number name body old new kept none none_now live same waiting = record {
  live = live ∙ (ap (λ xs. xs ++ number ∷ []) kept.live ∙ sym (map-append (λ d. d.number) ds (document number name body ∷ [])));
  postings =
      λ t n whole.
      (let both = waiting t n whole in
      ap (λ sets. holds sets t n) same ∙ kept.postings t n both.0
      ∙ (passed t n (document_at n ds) (number == n) both.1
      ∙ ap (λ found. trigrams_shown found t) (sym (document_at-append n ds (document number name body ∷ [])))));
  few =
      λ t n held.
      or_left (trigrams_at (ds ++ document number name body ∷ []) n t) (is_left new.waiting t n)
      (ap (λ found. trigrams_shown found t) (document_at-append n ds (document number name body ∷ []))
      ∙ stays t (document_at n ds) (document_at n (document number name body ∷ []))
      (held_shown ds old kept none t n (sym (ap (λ sets. holds sets t n) same) ∙ held)));
  both = λ t n left there. absurd (false≢true (sym (none_now t n) ∙ left));
}
  where
    passed : (t n : ℕ) (found : Option (List ℕ × List ℕ)) (same : Bool) → same ≡ false
        → trigrams_shown found t ≡ trigrams_shown (or_else found (cond same (Some (name, body)) None)) t
    passed t n (Some d) same e = refl
    passed t n None true e = absurd (false≢true (sym e))
    passed t n None false e = refl

    stays : (t : ℕ) (found other : Option (List ℕ × List ℕ)) → trigrams_shown found t ≡ true → trigrams_shown (or_else found other) t ≡ true
    stays t (Some d) other is = is
    stays t None other is = absurd (false≢true is)

-- none of the fresh trigrams' sets has the number
pub fresh_are_absent : (ds : List Document) (number : ℕ) (body fresh : List ℕ) (sets : Sets) → AreSetsOf ds sets → NoneIsLeft sets.waiting
    → ((t : ℕ) → has fresh t ≡ (trigrams_of_body body t && not (trigrams_at ds number t))) → IsAbsent sets.postings fresh number
fresh_are_absent ds number body fresh sets kept none_left fresh_is t there =
    not_held (holds sets.postings t number)
    (λ held. false≢true (sym (none (trigrams_of_body body t)) ∙ (ap (λ b. trigrams_of_body body t && not b) (sym (held_shown ds sets kept none_left t number held)) ∙ sym (fresh_is t) ∙ there)))
  where
    none : (b : Bool) → (b && not true) ≡ false
    none true = refl
    none false = refl

-- what waits, in two lists of documents
waiting-append : (first : ℕ) (xs ys : List Document) (t n : ℕ) → is_waiting first (xs ++ ys) t n ≡ (is_waiting first xs t n || is_waiting first ys t n)
waiting-append first xs ys t n =
    list_any-append (λ (d : Document). not (nat_lt d.number first) && (trigrams_of_body d.body t && d.number == n)) xs ys

-- one more slot
pub waiting-slot : (first : ℕ) (slots : List Slot) (at : ℕ) (slot : Slot) → at < length slots → slot ≡ get_or slots at slot → (t n : ℕ)
    → is_waiting first (documents_in (take (at + 1) slots)) t n
    ≡ (is_waiting first (documents_in (take at slots)) t n || is_waiting first (documents_of_slot slot.number slot.occupant) t n)
waiting-slot first slots at slot inside is t n =
    let next : take (at + 1) slots ≡ take at slots ++ slot ∷ [] =
    ap (λ k. take k slots) (add-one at) ∙ take-suc slots at slot inside ∙ ap (λ x. take at slots ++ x ∷ []) (sym is) in
    rw (next, documents_in-push (take at slots) slot)
    (waiting-append first (documents_in (take at slots)) (documents_of_slot slot.number slot.occupant) t n)

pub listed-push : (old new : List Entry) (e : Entry) → new ≡ old ++ e ∷ [] → (t n : ℕ)
    → is_listed new t n ≡ (is_listed old t n || (has e.trigrams.now t && e.number == n))
listed-push old new e is t n =
    rw (is, list_any-append (λ (x : Entry). has x.trigrams.now t && x.number == n) old (e ∷ []))
    (ap (λ b. is_listed old t n || b) (or-false (has e.trigrams.now t && e.number == n)))

-- the entry of a document
pub entry_of : (first number : ℕ) (name body trigrams : List ℕ) → first ≤ number → ListsTrigrams body trigrams → (t n : ℕ)
    → (has trigrams t && number == n) ≡ is_waiting first (document number name body ∷ []) t n
entry_of first number name body trigrams high lists t n =
    let not_low : nat_lt number first ≡ false = grind (arith, nat_tests) in
    rw (not_low, listed body trigrams lists t) (sym (or-false (trigrams_of_body body t && number == n)))

-- of documents with different numbers those wait that have the number and the trigram
pub waiting_are : (first : ℕ) (ds : List Document) → Numbered ds → (t n : ℕ) → is_waiting first ds t n ≡ (not (nat_lt n first) && trigrams_at ds n t)
unfolding document_at
waiting_are first [] numbered t n = none (nat_lt n first)
  where
    none : (b : Bool) → false ≡ (not b && false)
    none true = refl
    none false = refl
waiting_are first (d ∷ ds) numbered t n = go (d.number == n) refl (waiting_are first ds numbered.1 t n)
  where
    go : (same : Bool) → (d.number == n) ≡ same → is_waiting first ds t n ≡ (not (nat_lt n first) && trigrams_at ds n t)
        → ((not (nat_lt d.number first) && (trigrams_of_body d.body t && d.number == n)) || is_waiting first ds t n)
        ≡ (not (nat_lt n first) && trigrams_shown (cond (d.number == n) (Some (d.name, d.body)) (document_at n ds)) t)
    go true e later =
        let same : d.number ≡ n = grind (arith, nat_tests) in
        let rest : document_at n ds ≡ None = document_at-none n ds (λ k x inside. (let above = numbered.0 k x inside in λ at. omega arith)) in
        rw (e, later, rest, same) (one (not (nat_lt n first)) (trigrams_of_body d.body t))
      where
        one : (a b : Bool) → ((a && (b && true)) || (a && false)) ≡ (a && b)
        one true true = refl
        one true false = refl
        one false b = refl
    go false e later = rw (e, later) (other (not (nat_lt d.number first)) (trigrams_of_body d.body t) (not (nat_lt n first) && trigrams_at ds n t))
      where
        other : (a b c : Bool) → ((a && (b && false)) || c) ≡ c
        other true true c = refl
        other true false c = refl
        other false b c = refl

ok_holds : {T E P : Type 0} (r : Result T E) → OnOk r P → IsOk r → P
ok_holds (Ok x) p done = p
ok_holds (Err e) p done = absurd (false≢true done)

-- the sets after some of the documents that wait, or all, are put into them
pub AreSetsOf-filled : {T E : Type 0} (ds : List Document) → Numbered ds → (first : ℕ) (entries : List Entry) (old new : Sets) (r : Result T E) → AreSetsOf ds old
    → NoneIsLeft old.waiting → NoneIsLeft new.waiting → ((t n : ℕ) → nat_lt n first ≡ true → is_whole old.waiting t n ≡ true) → ((t n : ℕ) → is_listed entries t n ≡ is_waiting first ds t n)
    → new.live.members ≡ old.live.members
    → OnOk r ((t n : ℕ) → holds new.postings t n ≡ (holds old.postings t n || is_listed entries t n))
    → ((t n : ℕ) → holds old.postings t n ≡ true → holds new.postings t n ≡ true)
    → ((t n : ℕ) → holds new.postings t n ≡ true → (holds old.postings t n || is_listed entries t n) ≡ true)
    → ((new.waiting ≡ old.waiting) ⊎ IsOk r) → AreSetsOf ds new
AreSetsOf-filled ds numbered first entries old new r kept none none_now below entries_are live ok stays grown waiting = record {
  live = live ∙ kept.live;
  postings = λ t n whole. postings t n whole waiting;
  few = λ t n held. or_left (trigrams_at ds n t) (is_left new.waiting t n) (few t n held);
  both = λ t n left there. absurd (false≢true (sym (none_now t n) ∙ left));
}
  where
    listed_at : (t n : ℕ) → is_listed entries t n ≡ (not (nat_lt n first) && trigrams_at ds n t)
    listed_at t n = entries_are t n ∙ waiting_are first ds numbered t n

    second : (a b : Bool) → (a && b) ≡ true → b ≡ true
    second true b is = is
    second false b is = absurd (false≢true is)

    either : (a b c : Bool) → (a || b) ≡ true → (a ≡ true → c ≡ true) → (b ≡ true → c ≡ true) → c ≡ true
    either true b c is left right = left refl
    either false b c is left right = right is

    few : (t n : ℕ) → holds new.postings t n ≡ true → trigrams_at ds n t ≡ true
    few t n held =
        either (holds old.postings t n) (is_listed entries t n) (trigrams_at ds n t) (grown t n held) (held_shown ds old kept none t n)
        (λ there. second (not (nat_lt n first)) (trigrams_at ds n t) (sym (listed_at t n) ∙ there))

    before : (t n : ℕ) → is_whole old.waiting t n ≡ true → holds new.postings t n ≡ trigrams_at ds n t
    before t n whole =
        both_ways (holds new.postings t n) (trigrams_at ds n t) (few t n)
        (λ there. stays t n (kept.postings t n whole ∙ there))

    postings : (t n : ℕ) → is_whole new.waiting t n ≡ true → (new.waiting ≡ old.waiting) ⊎ IsOk r → holds new.postings t n ≡ trigrams_at ds n t
    postings t n whole (inl same) = before t n (rw same at whole)
    postings t n whole (inr done) = cases (nat_lt n first) refl
      where
        cases : (low : Bool) → nat_lt n first ≡ low → holds new.postings t n ≡ trigrams_at ds n t
        cases true e = before t n (below t n e)
        cases false e =
            let all = ok_holds r ok done in
            both_ways (holds new.postings t n) (trigrams_at ds n t) (few t n)
            (λ there. all t n ∙ right (holds old.postings t n) (is_listed entries t n) (listed_at t n ∙ rw (e, there) refl))
          where
            right : (a b : Bool) → b ≡ true → (a || b) ≡ true
            right true b is = refl
            right false b is = is

-- a body without bytes has no trigrams
no_trigrams : (t : ℕ) → trigrams_of_body [] t ≡ false
unfolding trigrams_of_body lines_of
no_trigrams t = refl

pub lists_nothing : (none : List ℕ) → none ≡ [] → ListsTrigrams [] none
lists_nothing none e =
    rw e
    (record {
      rising = λ k inside. absurd (omega arith);
      members = λ t. (λ there. absurd (omega (arith, there.1)), λ is. absurd (false≢true (sym (no_trigrams t) ∙ is)));
    })

-- the sets after they are emptied
pub AreSetsOf-over : (ds : List Document) (old new : Sets) → AreSetsOf ds old → new.live ≡ old.live
    → ((t n : ℕ) → holds new.postings t n ≡ false) → new.waiting ≡ Some (From 0 0) → AreSetsOf ds new
AreSetsOf-over ds old new kept live none waits = record {
  live = ap (λ l. l.members) live ∙ kept.live;
  postings = λ t n whole. absurd (false≢true (sym (all_wait t n (nat_lt n 0) refl (nat_lt t 0) refl) ∙ (sym (ap (λ w. is_whole w t n) waits) ∙ whole)));
  few = λ t n held. absurd (false≢true (sym (none t n) ∙ held));
  both = λ t n left there. absurd (false≢true (sym (ap (λ w. is_left w t n) waits) ∙ left));
}
  where
    never : (n : ℕ) → nat_lt n 0 ≡ true → ⊥
    never n low = let less : n < 0 = grind (arith, nat_tests) in omega arith

    all_wait : (t n : ℕ) (a : Bool) → nat_lt n 0 ≡ a → (b : Bool) → nat_lt t 0 ≡ b → is_whole (Some (From 0 0)) t n ≡ false
    all_wait t n true e b f = absurd (never n e)
    all_wait t n false e true f = absurd (never t f)
    all_wait t n false e false f = rw (e, f) (nothing (n == 0))
      where
        nothing : (b : Bool) → (false || (b && false)) ≡ false
        nothing true = refl
        nothing false = refl

-- the sets after the body of a document that waits is replaced
pub AreSetsOf-waits : (ds : List Document) (number : ℕ) (name old_body body trigrams : List ℕ) (old new : Sets) → AreSetsOf ds old
    → document_at number ds ≡ Some (name, old_body) → ListsTrigrams old_body trigrams
    → IsAmongWaiting number old.waiting → WaitsWhole number old.waiting new.waiting → new.live.members ≡ old.live.members
    → ((t n : ℕ) → holds new.postings t n ≡ (holds old.postings t n && not (has trigrams t && n == number)))
    → AreSetsOf (map (with_body_at number body) ds) new
AreSetsOf-waits ds number name old_body body trigrams old new kept at lists among waits live sets = record {
  live = live ∙ (kept.live ∙ sym (numbers-replaced (λ d. d.number == number) body ds));
  postings = λ t n whole. there t n whole (n == number) refl;
  few = λ t n held. or_left (trigrams_at (map (with_body_at number body) ds) n t) (is_left new.waiting t n) (still t n held (n == number) refl);
  both = λ t n left there. absurd (false≢true (sym (waits.none_left t n) ∙ left));
}
  where
    none_left : NoneIsLeft old.waiting
    none_left t n = ap (λ w. is_left w t n) among.is

    left_as : (was f : Bool) → (was && not (f && false)) ≡ was
    left_as true true = refl
    left_as true false = refl
    left_as false true = refl
    left_as false false = refl

    none : (was f : Bool) → (was ≡ true → f ≡ true) → (was && not (f && true)) ≡ false
    none true true h = refl
    none true false h = absurd (false≢true (h refl))
    none false true h = refl
    none false false h = refl

    sets_are : (t n : ℕ) (same : Bool) → (n == number) ≡ same
        → holds new.postings t n ≡ (holds old.postings t n && not (has trigrams t && same))
    sets_are t n same e = subst (λ b. holds new.postings t n ≡ (holds old.postings t n && not (has trigrams t && b))) e (sets t n)

    other_at : (n : ℕ) → (n == number) ≡ false → document_at n (map (with_body_at number body) ds) ≡ document_at n ds
    other_at n e =
        subst (λ b. document_at n (map (with_body_at number body) ds) ≡ cond b (option_map (λ d. (d.0, body)) (document_at n ds)) (document_at n ds)) e
        (document_at-replaced number body ds n)

    there : (t n : ℕ) → is_whole new.waiting t n ≡ true → (same : Bool) → (n == number) ≡ same
        → holds new.postings t n ≡ trigrams_at (map (with_body_at number body) ds) n t
    there t n whole true e =
        let other : (number == n) ≡ false = (waits.others t n whole).1 in
        absurd (grind (arith, nat_tests))
    there t n whole false e =
        sets_are t n false e
        ∙ (left_as (holds old.postings t n) (has trigrams t)
        ∙ (kept.postings t n (waits.others t n whole).0 ∙ ap (λ found. trigrams_shown found t) (sym (other_at n e))))

    still : (t n : ℕ) → holds new.postings t n ≡ true → (same : Bool) → (n == number) ≡ same
        → trigrams_at (map (with_body_at number body) ds) n t ≡ true
    still t n held true e =
        let same : n ≡ number = grind (arith, nat_tests) in
        let is : document_at n ds ≡ Some (name, old_body) = ap (λ m. document_at m ds) same ∙ at in
        absurd
        (false≢true
        (sym
        (sets_are t n true e
        ∙ none (holds old.postings t n) (has trigrams t)
        (λ was. listed old_body trigrams lists t ∙ (ap (λ found. trigrams_shown found t) (sym is) ∙ held_shown ds old kept none_left t n was)))
        ∙ held))
    still t n held false e =
        ap (λ found. trigrams_shown found t) (other_at n e)
        ∙ held_shown ds old kept none_left t n (sym (sets_are t n false e ∙ left_as (holds old.postings t n) (has trigrams t)) ∙ held)
