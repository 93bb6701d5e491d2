-- The sets of all parts, of which one is changed.
use Rattle.std.proofs.Common.{All, ◌≡◌, ◌≢◌, ℕ, ◌+◌, ◌-◌, ◌<◌, ◌≤◌, ◌⊎◌, inl, inr, false, zero, suc, List, [], ◌∷◌, length, get_or, set, refl, sym, ap, ◌∙◌, arith}
use Rattle.std.proofs.lemmas.Bool.{cases_eq, false≢true}
use Rattle.std.proofs.lemmas.List.{get_or-set_same, get_or-set_other, get_or_read}
use Rattle.posting.specs.ListValue.{has}
use Rattle.posting.specs.Postings.{NumberSet, no_numbers, set_of, holds}
use Rattle.posting.specs.Private.Pages.{trigram_count}
use Rattle.posting.specs.Private.Parts.{part_of, place_in_part, set_among, whole_of}
use Rattle.posting.proofs.Members.{has_at}
use Rattle.posting.proofs.Tables.{set_of-table, tables_relate}

-- a trigram is known by its part and its place there
pub same_trigram : (t u : ℕ) → part_of t ≡ part_of u → place_in_part t ≡ place_in_part u → t ≡ u
same_trigram t u part place = omega arith

pub set_among-is : (first : ℕ) (parts : List (List NumberSet)) (t : ℕ) → set_among first parts t ≡ set_of (get_or parts (part_of t - first) []) (place_in_part t)
unfolding set_among
set_among-is first parts t = refl

-- the set of a trigram whose part has this number
pub among_at : (first : ℕ) (parts : List (List NumberSet)) (t k : ℕ) → part_of t ≡ first + k → set_among first parts t ≡ set_of (get_or parts k []) (place_in_part t)
among_at first parts t k is =
    let e : part_of t - first ≡ k = omega arith in
    set_among-is first parts t ∙ ap (λ i. set_of (get_or parts i []) (place_in_part t)) e

pub whole_at : (parts : List (List NumberSet)) (t : ℕ) → t < trigram_count → set_of (whole_of parts) t ≡ set_of (get_or parts (part_of t) []) (place_in_part t)
whole_at parts t below = set_of-table (set_among 0 parts) t below ∙ among_at 0 parts t (part_of t) (omega arith)

-- a part that is written
pub among_written : (first : ℕ) (parts : List (List NumberSet)) (k : ℕ) (x : List NumberSet) (t : ℕ) → k < length parts → part_of t ≡ first + k
    → set_among first (set parts k x) t ≡ set_of x (place_in_part t)
among_written first parts k x t inside is =
    among_at first (set parts k x) t k is ∙ ap (λ p. set_of p (place_in_part t)) (get_or-set_same parts k x [] inside)

pub among_other : (first : ℕ) (parts : List (List NumberSet)) (k : ℕ) (x : List NumberSet) (t : ℕ) → first ≤ part_of t → part_of t ≢ first + k
    → set_among first (set parts k x) t ≡ set_among first parts t
among_other first parts k x t from ne =
    let other : part_of t - first ≢ k = λ e. ne (omega arith) in
    set_among-is first (set parts k x) t
    ∙ ap (λ p. set_of p (place_in_part t)) (get_or-set_other parts k (part_of t - first) x [] other) ∙ sym (set_among-is first parts t)

-- a relation that holds for each set of the part that is written holds for all sets
pub written_relate : (R : NumberSet → NumberSet → Type 0) (parts : List (List NumberSet)) (k : ℕ) (x : List NumberSet) → k < length parts
    → ((s : NumberSet) → R s s) → ((l : ℕ) → R (set_of (get_or parts k []) l) (set_of x l)) → (t : ℕ) → R (set_of (whole_of parts) t) (set_of (whole_of (set parts k x)) t)
written_relate R parts k x inside same each t =
    tables_relate R (set_among 0 parts) (set_among 0 (set parts k x)) (same no_numbers) t (cases (cases_eq (part_of t) k))
  where
    cases : (part_of t ≡ k) ⊎ (part_of t ≢ k) → R (set_among 0 parts t) (set_among 0 (set parts k x) t)
    cases (inl e) =
        let here : part_of t ≡ 0 + k = omega (arith, e) in
        rw (among_at 0 parts t k here, among_written 0 parts k x t inside here) (each (place_in_part t))
    cases (inr ne) = rw (among_other 0 parts k x t (omega arith) (λ e. ne (omega (arith, e)))) (same (set_among 0 parts t))

-- the other sets, where one set of a part is changed
pub written_others : (parts : List (List NumberSet)) (k : ℕ) (x : List NumberSet) (u : ℕ) → k < length parts → k ≡ part_of u
    → ((l : ℕ) → l ≢ place_in_part u → set_of x l ≡ set_of (get_or parts k []) l) → (t : ℕ) → t ≢ u
    → set_of (whole_of (set parts k x)) t ≡ set_of (whole_of parts) t
written_others parts k x u inside is others t ne =
    tables_relate (λ a b. b ≡ a) (set_among 0 parts) (set_among 0 (set parts k x)) refl t (cases (cases_eq (part_of t) k))
  where
    cases : (part_of t ≡ k) ⊎ (part_of t ≢ k) → set_among 0 (set parts k x) t ≡ set_among 0 parts t
    cases (inl e) =
        let here : part_of t ≡ 0 + k = omega (arith, e) in
        among_written 0 parts k x t inside here
        ∙ others (place_in_part t) (λ same. ne (same_trigram t u (e ∙ is) same))
        ∙ sym (among_at 0 parts t k here)
    cases (inr differs) = among_other 0 parts k x t (omega arith) (λ e. differs (omega (arith, e)))

-- ---- one set, as the function finds and leaves it

-- the set of a trigram, read from the part that has it
pub set_was : (parts : List (List NumberSet)) (table : List NumberSet) (t k l : ℕ) (read : List NumberSet) → whole_of parts ≡ table → k < length parts
    → k ≡ part_of t → l ≡ place_in_part t → read ≡ get_or parts k read → t < trigram_count → set_of table t ≡ set_of (get_or parts k read) l
set_was parts table t k l read view inside part place is below =
    let there : get_or parts k [] ≡ get_or parts k read = sym (get_or_read parts k read inside is []) ∙ is in
    rw (← view) (whole_at parts t below ∙ ap (λ i. set_of (get_or parts i []) (place_in_part t)) (sym part) ∙ ap (λ p. set_of p (place_in_part t)) there
    ∙ ap (set_of (get_or parts k read)) (sym place))

pub set_is : (parts : List (List NumberSet)) (t k l : ℕ) (x : List NumberSet) → k < length parts → k ≡ part_of t → l ≡ place_in_part t → t < trigram_count
    → set_of (whole_of (set parts k x)) t ≡ set_of x l
set_is parts t k l x inside part place below =
    let here : part_of t ≡ 0 + k = omega arith in
    set_of-table (set_among 0 (set parts k x)) t below ∙ among_written 0 parts k x t inside here ∙ ap (set_of x) (sym place)

pub others_are : (parts : List (List NumberSet)) (table : List NumberSet) (u k l : ℕ) (read x : List NumberSet) → whole_of parts ≡ table → k < length parts
    → k ≡ part_of u → l ≡ place_in_part u → read ≡ get_or parts k read → ((m : ℕ) → m ≢ l → set_of x m ≡ set_of (get_or parts k read) m) → (t : ℕ) → t ≢ u
    → set_of (whole_of (set parts k x)) t ≡ set_of table t
others_are parts table u k l read x view inside part place is others t ne =
    let there : get_or parts k read ≡ get_or parts k [] = sym is ∙ get_or_read parts k read inside is [] in
    rw (← view)
    (written_others parts k x u inside part
    (λ m differs. others m (λ same. differs (same ∙ place)) ∙ ap (λ p. set_of p m) there) t ne)

-- a relation between each set of the part before and after gives one for all trigrams
pub all_relate : (R : NumberSet → NumberSet → Type 0) (parts : List (List NumberSet)) (table : List NumberSet) (k : ℕ) (read x : List NumberSet)
    → whole_of parts ≡ table → k < length parts → read ≡ get_or parts k read → ((s : NumberSet) → R s s)
    → ((m : ℕ) → R (set_of (get_or parts k read) m) (set_of x m)) → (t : ℕ) → R (set_of table t) (set_of (whole_of (set parts k x)) t)
all_relate R parts table k read x view inside is same each t =
    let there : get_or parts k read ≡ get_or parts k [] = sym is ∙ get_or_read parts k read inside is [] in
    rw (← view) (written_relate R parts k x inside same (λ m. rw there at (each m)) t)

-- ---- parts without a number

-- No set of these parts has a number.
pub record AreBare (parts : List (List NumberSet)) : Type 0 where
  pub each : (k l n : ℕ) → holds (get_or parts k []) l n ≡ false

pub bare_none : AreBare []
bare_none = record { each = λ k l n. refl }

pub bare_more : (p : List NumberSet) (parts : List (List NumberSet)) → ((l n : ℕ) → holds p l n ≡ false) → AreBare parts → AreBare (p ∷ parts)
bare_more p parts one others = record { each = each }
  where
    each : (k l n : ℕ) → holds (get_or (p ∷ parts) k []) l n ≡ false
    each zero l n = one l n
    each (suc k) l n = others.each k l n

pub bare_all : (parts : List (List NumberSet)) → All (λ p. (l n : ℕ) → holds p l n ≡ false) parts → AreBare parts
bare_all [] none = bare_none
bare_all (p ∷ parts) none = bare_more p parts (none 0 [] (omega arith)) (bare_all parts (λ k d inside. none (suc k) d (omega arith)))

pub bare_whole : (parts : List (List NumberSet)) → AreBare parts → (t n : ℕ) → holds (whole_of parts) t n ≡ false
bare_whole parts bare t n =
    ap (λ ms. has ms n)
    (tables_relate (λ a b. b.members ≡ []) (λ s. no_numbers) (set_among 0 parts) refl t
    (no_members (set_among 0 parts t).members (λ m. ap (λ s. has s.members m) (set_among-is 0 parts t) ∙ bare.each (part_of t - 0) (place_in_part t) m)))
  where
    no_members : (xs : List ℕ) → ((m : ℕ) → has xs m ≡ false) → xs ≡ []
    no_members [] none = refl
    no_members (x ∷ xs) none = absurd (false≢true (sym (none x) ∙ has_at (x ∷ xs) 0 x (omega arith) refl))
