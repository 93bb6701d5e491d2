-- Tables of sets, as a number goes into or out of one set after another.
use Rattle.std.proofs.Common.{◌≡◌, ◌≢◌, ℕ, ◌<◌, ◌≤◌, Bool, true, false, not, ◌&&◌, ◌||◌, ◌==◌, List, [], ◌∷◌, ◌++◌, length, append_assoc}
use Rattle.std.proofs.Common.{length-append, get_or, refl, sym, ap, ◌∙◌, arith}
use Rattle.std.specs.Prelude.{All}
use Rattle.std.proofs.lemmas.Bool.{false≢true}
use Rattle.std.proofs.lemmas.Bool.Decides.{nat_tests}
use Rattle.std.proofs.lemmas.List.{append-nil, get_or_append_left}
use Rattle.std.proofs.Math.Seq.{get_or-append_seam}
use Rattle.std.proofs.lemmas.List.Elements.{All-from_get_or, All-push, All-weaker}
use Rattle.std.proofs.Math.Bool.{or-false, or-true, and-true}
use Rattle.posting.specs.ListValue.{has, without}
use Rattle.posting.specs.Postings.{NumberSet, slot_limit, set_of, holds, IsPrepared, IsAbsent, AllDiffer, KeepsRoom, WithdrawsNumber, GivesBack}
use Rattle.posting.proofs.SetLemmas.{has-push, has-filter}
use Rattle.posting.proofs.Members.{has_at, All-has, lacks_from_all}

-- what holds for each number in a list holds for all
pub All-from_has : (P : ℕ → Type 0) (xs : List ℕ) → ((m : ℕ) → has xs m ≡ true → P m) → All P xs
All-from_has P xs each = All-from_get_or P xs 0 (λ i inside. each (get_or xs i 0) (has_at xs i (get_or xs i 0) inside refl))

-- a list that is gone through: the numbers past, and those left
pub passed-next : {X : Type 0} (all past left new : List X) (m : X) → all ≡ past ++ left → left ≡ m ∷ new → all ≡ past ++ m ∷ new
passed-next all past left new m e h = e ∙ ap (λ xs. past ++ xs) h

pub passed-more : {X : Type 0} (all past left new : List X) (m : X) → all ≡ past ++ left → left ≡ m ∷ new → all ≡ (past ++ m ∷ []) ++ new
passed-more all past left new m e h = e ∙ (ap (λ xs. past ++ xs) h ∙ sym (append_assoc past (m ∷ []) new))

pub passed-all : (all past left : List ℕ) → all ≡ past ++ left → left ≡ [] → all ≡ past
passed-all all past left e h = e ∙ (ap (λ xs. past ++ xs) h ∙ append-nil past)

-- where all differ, the next one isn't among those before it
pub next_is_new : (past : List ℕ) (m : ℕ) (left : List ℕ) → AllDiffer (past ++ m ∷ left) → has past m ≡ false
next_is_new past m left differ = lacks_from_all past m (All-from_get_or (λ d. d ≢ m) past 0 apart)
  where
    apart : (k : ℕ) → k < length past → get_or past k 0 ≢ m
    apart k inside e =
        differ k (length past) 0 inside (omega (arith, length-append past (m ∷ left)))
        (get_or_append_left past (m ∷ left) 0 k inside ∙ e ∙ sym (get_or-append_seam past m left 0))

next_is_there : (past : List ℕ) (m : ℕ) (left : List ℕ) → has (past ++ m ∷ left) m ≡ true
next_is_there past m left = has_at (past ++ m ∷ left) (length past) m (omega (arith, length-append past (m ∷ left))) (get_or-append_seam past m left 0)

-- The number was put into the sets of some trigrams, and the other sets are as they were.
pub record Added (old new : List NumberSet) (trigrams : List ℕ) (number : ℕ) : Type 0 where
  pub done : (t n : ℕ) → has trigrams t ≡ true → holds new t n ≡ (holds old t n || number == n)
  pub left : (t : ℕ) → has trigrams t ≡ false → set_of new t ≡ set_of old t

pub added_none : (table : List NumberSet) (number : ℕ) → Added table table [] number
added_none table number = record { done = λ t n there. absurd (false≢true there); left = λ t _. refl }

pub added_more : (old now new : List NumberSet) (past : List ℕ) (m number : ℕ) → Added old now past number → has past m ≡ false
    → ((n : ℕ) → holds new m n ≡ (holds now m n || number == n)) → ((t : ℕ) → t ≢ m → set_of new t ≡ set_of now t)
    → Added old new (past ++ m ∷ []) number
added_more old now new past m number h fresh at others = record {
  done = λ t n there. came t n (rw (has-push past m t) at there) (m == t) refl;
  left = λ t absent. stayed t (rw (has-push past m t) at absent) (m == t) refl;
}
  where
    same_at : set_of now m ≡ set_of old m
    same_at = h.left m fresh

    came : (t n : ℕ) → (has past t || m == t) ≡ true → (same : Bool) → (m == t) ≡ same → holds new t n ≡ (holds old t n || number == n)
    came t n there true e =
        let is : m ≡ t = grind (arith, nat_tests) in
        rw (← is) (at n ∙ ap (λ s. has s.members n || number == n) same_at)
    came t n there false e =
        let ne : t ≢ m = grind (arith, nat_tests) in
        ap (λ s. has s.members n) (others t ne) ∙ h.done t n (sym (or-false (has past t)) ∙ rw e at there)

    stayed : (t : ℕ) → (has past t || m == t) ≡ false → (same : Bool) → (m == t) ≡ same → set_of new t ≡ set_of old t
    stayed t absent true e = absurd (false≢true (sym (rw (e, or-true (has past t)) at absent)))
    stayed t absent false e =
        let ne : t ≢ m = grind (arith, nat_tests) in
        others t ne ∙ h.left t (sym (or-false (has past t)) ∙ rw e at absent)

-- the next set has room for the number, and does not have it
pub next_has_room : (old now : List NumberSet) (past : List ℕ) (m : ℕ) (left : List ℕ) (number : ℕ) → Added old now past number
    → AllDiffer (past ++ m ∷ left) → IsPrepared old number (past ++ m ∷ left) → number < (set_of now m).limit
next_has_room old now past m left number h differ prepared =
    rw (h.left m (next_is_new past m left differ))
    (All-has (λ t. number < (set_of old t).limit) (past ++ m ∷ left) m prepared (next_is_there past m left))

pub next_lacks : (old now : List NumberSet) (past : List ℕ) (m : ℕ) (left : List ℕ) (number : ℕ) → Added old now past number
    → AllDiffer (past ++ m ∷ left) → IsAbsent old (past ++ m ∷ left) number → has (set_of now m).members number ≡ false
next_lacks old now past m left number h differ absent =
    rw (h.left m (next_is_new past m left differ)) (absent m (next_is_there past m left))

pub holds-added : (old new : List NumberSet) (trigrams : List ℕ) (number : ℕ) → Added old new trigrams number → (t n : ℕ)
    → holds new t n ≡ (holds old t n || (has trigrams t && number == n))
holds-added old new trigrams number h t n = cases (has trigrams t) refl
  where
    cases : (named : Bool) → has trigrams t ≡ named → holds new t n ≡ (holds old t n || (has trigrams t && number == n))
    cases true e = rw e (h.done t n e)
    cases false e = rw e (ap (λ s. has s.members n) (h.left t e) ∙ sym (or-false (holds old t n)))

twice : (held named is : Bool) → ((held && not (named && is)) && not is) ≡ (held && not ((named || true) && is))
twice true true true = refl
twice true true false = refl
twice true false true = refl
twice true false false = refl
twice false named is = refl

once : (held named is : Bool) → (held && not (named && is)) ≡ (held && not ((named || false) && is))
once held true is = refl
once held false is = refl

-- The number was taken out of the sets of some trigrams, and those that are empty have no memory but their slots.
pub record Withdrawn (old new : List NumberSet) (trigrams : List ℕ) (number : ℕ) : Type 0 where
  pub sets : WithdrawsNumber old new trigrams number
  pub empty : GivesBack new trigrams

pub withdrawn_none : (table : List NumberSet) (number : ℕ) → Withdrawn table table [] number
withdrawn_none table number = record { sets = λ t n. sym (and-true (holds table t n)); empty = λ t there none. absurd (false≢true there) }

pub withdrawn_more : (old now new : List NumberSet) (past : List ℕ) (m number : ℕ) → Withdrawn old now past number
    → (set_of new m).members ≡ without number (set_of now m).members → ((t : ℕ) → t ≢ m → set_of new t ≡ set_of now t)
    → ((set_of new m).members ≡ [] → (set_of new m).limit ≤ slot_limit) → Withdrawn old new (past ++ m ∷ []) number
withdrawn_more old now new past m number h at others empty = record {
  sets = λ t n. rw (has-push past m t) (sets t n (m == t) refl);
  empty = λ t there none. gone t (rw (has-push past m t) at there) none (m == t) refl;
}
  where
    sets : (t n : ℕ) (same : Bool) → (m == t) ≡ same → holds new t n ≡ (holds old t n && not ((has past t || m == t) && n == number))
    sets t n true e =
        let is : m ≡ t = grind (arith, nat_tests) in
        rw e
        (ap (λ ms. has ms n) (rw is at at) ∙ has-filter (λ k. not (k == number)) (set_of now t).members n
        ∙ ap (λ b. b && not (n == number)) (h.sets t n) ∙ twice (holds old t n) (has past t) (n == number))
    sets t n false e =
        let ne : t ≢ m = grind (arith, nat_tests) in
        rw e (ap (λ s. has s.members n) (others t ne) ∙ h.sets t n ∙ once (holds old t n) (has past t) (n == number))

    gone : (t : ℕ) → (has past t || m == t) ≡ true → (set_of new t).members ≡ [] → (same : Bool) → (m == t) ≡ same → (set_of new t).limit ≤ slot_limit
    gone t there none true e =
        let is : m ≡ t = grind (arith, nat_tests) in
        rw (← is) (empty (rw (← is) at none))
    gone t there none false e =
        let ne : t ≢ m = grind (arith, nat_tests) in
        let same = others t ne in
        rw same (h.empty t (sym (or-false (has past t)) ∙ rw e at there) (ap (λ s. s.members) (sym same) ∙ none))

-- where memory is given back afterwards
pub withdrawn_ends : (old now new : List NumberSet) (trigrams : List ℕ) (number : ℕ) → Withdrawn old now trigrams number
    → ((t : ℕ) → (set_of new t).members ≡ (set_of now t).members) → ((t : ℕ) → (set_of now t).limit ≤ slot_limit → (set_of new t).limit ≤ slot_limit)
    → Withdrawn old new trigrams number
withdrawn_ends old now new trigrams number h members limits = record {
  sets = λ t n. ap (λ ms. has ms n) (members t) ∙ h.sets t n;
  empty = λ t there none. limits t (h.empty t there (sym (members t) ∙ none));
}

-- Some trigrams' sets were given room for the number, and no set changed.
pub record Prepared (old new : List NumberSet) (number : ℕ) (trigrams : List ℕ) : Type 0 where
  pub sets : (t : ℕ) → (set_of new t).members ≡ (set_of old t).members
  pub room : KeepsRoom old new
  pub prepared : IsPrepared new number trigrams

pub prepared_none : (table : List NumberSet) (number : ℕ) → Prepared table table number []
prepared_none table number =
    record { sets = λ t. refl; room = λ t. omega arith; prepared = λ k d inside. absurd (omega arith) }

pub prepared_more : (old now new : List NumberSet) (number : ℕ) (past : List ℕ) (m : ℕ) → Prepared old now number past
    → ((t : ℕ) → (set_of new t).members ≡ (set_of now t).members) → KeepsRoom now new → number < (set_of new m).limit
    → Prepared old new number (past ++ m ∷ [])
prepared_more old now new number past m h sets room at = record {
  sets = λ t. sets t ∙ h.sets t;
  room = λ t. omega (arith, room t, h.room t);
  prepared =
      All-push (λ t. number < (set_of new t).limit) past m
      (All-weaker (λ t. number < (set_of now t).limit) (λ t. number < (set_of new t).limit) (λ t some. omega (arith, room t)) past h.prepared) at;
}
