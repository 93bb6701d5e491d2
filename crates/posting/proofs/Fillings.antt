-- Parts whose sets get numbers.
use Rattle.std.proofs.Common.{◌≡◌, ◌≢◌, ℕ, ◌+◌, ◌-◌, ◌<◌, ◌≤◌, ◌⊎◌, inl, inr, Bool, true, false, ◌||◌, ◌&&◌, ◌==◌, List, [], ◌∷◌, ◌++◌, length, get_or, set, take, drop, refl, sym, ap, ◌∙◌, add-one, arith}
use Rattle.std.proofs.Common.{Result, Ok, Err, OnOk, OnErr, length-append}
use Rattle.std.specs.Prelude.{IsOk}
use Rattle.std.proofs.lemmas.Bool.{cases_eq, cases_lt, eq-eqb, false≢true}
use Rattle.std.proofs.lemmas.Bool.Decides.{nat_tests}
use Rattle.std.proofs.lemmas.List.{get_or-append_right, get_or_append_left, get_or_read, length-set, take-append-drop}
use Rattle.std.proofs.lemmas.Result.{on_ok_weaker, on_err_weaker}
use Rattle.posting.specs.ListValue.{has}
use Rattle.std.proofs.lemmas.List.Folds.{list_any-append}
use Rattle.std.proofs.Math.Bool.{or-false}
use Rattle.std.proofs.Math.Seq.{take-suc}
use Rattle.posting.specs.declared.filling.Entry.{Entry}
use Rattle.posting.specs.Postings.{NumberSet, set_of, holds, SameSets, is_listed}
use Rattle.posting.proofs.SetLemmas.{has-append}
use Rattle.posting.specs.Private.Pages.{trigram_count}
use Rattle.posting.specs.Private.Parts.{part_of, place_in_part, set_among, whole_of, holds_among, IsAmong, Grows, Fills}
use Rattle.posting.proofs.Tables.{set_of-table, set_of-past}
use Rattle.posting.proofs.PageLemmas.{either_way}
use Rattle.posting.proofs.PartLemmas.{same_trigram, set_among-is, among_at, among_written, among_other}

-- what is so where one of two tests is
pub one_of_two : {A : Type 0} (a b : Bool) → (a || b) ≡ true → (a ≡ true → A) → (b ≡ true → A) → A
one_of_two true b either left right = left refl
one_of_two false b either left right = right either

pub or_left : (a b : Bool) → a ≡ true → (a || b) ≡ true
or_left true b is = refl
or_left false b is = absurd (false≢true is)

pub or_right : (a b : Bool) → b ≡ true → (a || b) ≡ true
or_right true b is = refl
or_right false b is = is

pub and_left : (a b : Bool) → (a && b) ≡ true → a ≡ true
and_left true b is = refl
and_left false b is = is

pub and_right : (a b : Bool) → (a && b) ≡ true → b ≡ true
and_right true b is = is
and_right false b is = absurd (false≢true is)

-- ---- one after the other

pub grows_none : (first : ℕ) (parts : List (List NumberSet)) (more : ℕ → ℕ → Bool) → Grows first parts parts more
grows_none first parts more = record {
  count = refl;
  kept = λ t n among held. held;
  few = λ t n among held. or_left (holds_among first parts t n) (more t n) held;
}

pub grows_on : (first : ℕ) (old now new : List (List NumberSet)) (a b c : ℕ → ℕ → Bool) → Grows first old now a → Grows first now new b
    → ((t n : ℕ) → a t n ≡ true → c t n ≡ true) → ((t n : ℕ) → b t n ≡ true → c t n ≡ true) → Grows first old new c
grows_on first old now new a b c one then left right = record {
  count = then.count ∙ one.count;
  kept = λ t n among held. then.kept t n (moved t among) (one.kept t n among held);
  few = λ t n among held.
      one_of_two (holds_among first now t n) (b t n) (then.few t n (moved t among) held)
      (λ was. one_of_two (holds_among first old t n) (a t n) (one.few t n among was)
      (λ first_was. or_left (holds_among first old t n) (c t n) first_was) (λ is. or_right (holds_among first old t n) (c t n) (left t n is)))
      (λ is. or_right (holds_among first old t n) (c t n) (right t n is));
}
  where
    moved : (t : ℕ) → IsAmong first (length old) t → IsAmong first (length now) t
    moved t among = rw one.count among

pub fills_on : (first : ℕ) (now new : List (List NumberSet)) (a b c : ℕ → ℕ → Bool) → Fills first now a → Grows first now new b → Fills first new b
    → ((t n : ℕ) → c t n ≡ true → (a t n || b t n) ≡ true) → Fills first new c
fills_on first now new a b c one grown then either = record {
  bound = λ t n is. one_of_two (a t n) (b t n) (either t n is) (one.bound t n) (then.bound t n);
  all = λ t n among is.
      one_of_two (a t n) (b t n) (either t n is)
      (λ left. let back : IsAmong first (length now) t = rw (sym grown.count) among in grown.kept t n back (one.all t n back left))
      (λ right. then.all t n among right);
}

-- ---- side by side

joined_left : (first : ℕ) (xs ys : List (List NumberSet)) (t n : ℕ) → first ≤ part_of t → part_of t < first + length xs
    → holds_among first (xs ++ ys) t n ≡ holds_among first xs t n
joined_left first xs ys t n from before =
    ap (λ s. has s.members n)
    (set_among-is first (xs ++ ys) t
    ∙ ap (λ p. set_of p (place_in_part t)) (get_or_append_left xs ys [] (part_of t - first) (omega arith)) ∙ sym (set_among-is first xs t))

joined_right : (first next : ℕ) (xs ys : List (List NumberSet)) (t n : ℕ) → next ≡ first + length xs → next ≤ part_of t
    → holds_among first (xs ++ ys) t n ≡ holds_among next ys t n
joined_right first next xs ys t n is from =
    let same : part_of t - first - length xs ≡ part_of t - next = omega arith in
    ap (λ s. has s.members n)
    (set_among-is first (xs ++ ys) t
    ∙ ap (λ p. set_of p (place_in_part t))
    (get_or-append_right xs ys (length xs) (part_of t - first) [] refl (omega arith) ∙ ap (λ i. get_or ys i []) same) ∙ sym (set_among-is next ys t))

pub grows_joined : (first next : ℕ) (xs xs' ys ys' : List (List NumberSet)) (more : ℕ → ℕ → Bool) → next ≡ first + length xs → Grows first xs xs' more
    → Grows next ys ys' more → Grows first (xs ++ ys) (xs' ++ ys') more
grows_joined first next xs xs' ys ys' more is left right = record {
  count = omega (arith, length-append xs ys, length-append xs' ys', left.count, right.count);
  kept = λ t n among held. kept t n among held (cases_lt (part_of t) next);
  few = λ t n among held. few t n among held (cases_lt (part_of t) next);
}
  where
    is' : next ≡ first + length xs'
    is' = omega (arith, left.count, is)

    kept : (t n : ℕ) → IsAmong first (length (xs ++ ys)) t → holds_among first (xs ++ ys) t n ≡ true → (part_of t < next) ⊎ (next ≤ part_of t)
        → holds_among first (xs' ++ ys') t n ≡ true
    kept t n among held (inl before) =
        joined_left first xs' ys' t n among.from (omega (arith, before, is'))
        ∙ left.kept t n (record { number = among.number; from = among.from; before = omega (arith, before, is) })
        (sym (joined_left first xs ys t n among.from (omega (arith, before, is))) ∙ held)
    kept t n among held (inr after) =
        joined_right first next xs' ys' t n is' after
        ∙ right.kept t n (record { number = among.number; from = after; before = omega (arith, among.before, length-append xs ys, is) })
        (sym (joined_right first next xs ys t n is after) ∙ held)

    few : (t n : ℕ) → IsAmong first (length (xs ++ ys)) t → holds_among first (xs' ++ ys') t n ≡ true → (part_of t < next) ⊎ (next ≤ part_of t)
        → (holds_among first (xs ++ ys) t n || more t n) ≡ true
    few t n among held (inl before) =
        rw (joined_left first xs ys t n among.from (omega (arith, before, is)))
        (left.few t n (record { number = among.number; from = among.from; before = omega (arith, before, is) })
        (sym (joined_left first xs' ys' t n among.from (omega (arith, before, is'))) ∙ held))
    few t n among held (inr after) =
        rw (joined_right first next xs ys t n is after)
        (right.few t n (record { number = among.number; from = after; before = omega (arith, among.before, length-append xs ys, is) })
        (sym (joined_right first next xs' ys' t n is' after) ∙ held))

pub fills_joined : (first next : ℕ) (xs ys : List (List NumberSet)) (more : ℕ → ℕ → Bool) → next ≡ first + length xs → Fills first xs more
    → Fills next ys more → Fills first (xs ++ ys) more
fills_joined first next xs ys more is left right = record {
  bound = left.bound;
  all = λ t n among listed. all t n among listed (cases_lt (part_of t) next);
}
  where
    all : (t n : ℕ) → IsAmong first (length (xs ++ ys)) t → more t n ≡ true → (part_of t < next) ⊎ (next ≤ part_of t)
        → holds_among first (xs ++ ys) t n ≡ true
    all t n among listed (inl before) =
        joined_left first xs ys t n among.from (omega (arith, before, is))
        ∙ left.all t n (record { number = among.number; from = among.from; before = omega (arith, before, is) }) listed
    all t n among listed (inr after) =
        joined_right first next xs ys t n is after
        ∙ right.all t n (record { number = among.number; from = after; before = omega (arith, among.before, length-append xs ys, is) }) listed

-- ---- one number is put into one set

-- within one part a trigram is known by its place
place_tells : (first k u t : ℕ) → part_of u ≡ first + k → part_of t ≡ first + k → (place_in_part u == place_in_part t) ≡ (u == t)
place_tells first k u t is is' = cases (cases_eq u t)
  where
    cases : (u ≡ t) ⊎ (u ≢ t) → (place_in_part u == place_in_part t) ≡ (u == t)
    cases (inl e) = rw e (eq-eqb (place_in_part t) (place_in_part t) refl ∙ sym (eq-eqb t t refl))
    cases (inr ne) =
        let apart : place_in_part u ≢ place_in_part t = λ same. ne (same_trigram u t (is ∙ sym is') same) in
        let left : (place_in_part u == place_in_part t) ≡ false = grind (arith, nat_tests, apart) in
        let right : (u == t) ≡ false = grind (arith, nat_tests, ne) in
        left ∙ sym right

-- A set gets at most this number, and no other set changes.
pub record GetsAtMost (old new : List NumberSet) (l number : ℕ) : Type 0 where
  pub kept : (m n : ℕ) → holds old m n ≡ true → holds new m n ≡ true
  pub few : (m n : ℕ) → holds new m n ≡ true → (holds old m n || (l == m && number == n)) ≡ true

pub gets_at_most : {T E : Type 0} (old new : List NumberSet) (l number : ℕ) (r : Result T E)
    → OnOk r ((m n : ℕ) → holds new m n ≡ (holds old m n || (l == m && number == n))) → OnErr r (SameSets old new) → GetsAtMost old new l number
gets_at_most old new l number r ok err =
    either_way r
    (on_ok_weaker r
    (λ (gets : (m n : ℕ) → holds new m n ≡ (holds old m n || (l == m && number == n))).
    (record { kept = λ m n held. gets m n ∙ or_left (holds old m n) (l == m && number == n) held; few = λ m n held. sym (gets m n) ∙ held })) ok)
    (on_err_weaker r
    (λ (same : SameSets old new).
    (record { kept = λ m n held. same m n ∙ held; few = λ m n held. or_left (holds old m n) (l == m && number == n) (sym (same m n) ∙ held) })) err)

pub grows_put : (first : ℕ) (parts : List (List NumberSet)) (k : ℕ) (x : List NumberSet) (u number : ℕ) → k < length parts → part_of u ≡ first + k
    → GetsAtMost (get_or parts k []) x (place_in_part u) number → Grows first parts (set parts k x) (λ t n. u == t && number == n)
grows_put first parts k x u number inside is gets = record {
  count = length-set parts k x;
  kept = λ t n among held. kept t n among held (cases_eq (part_of t) (first + k));
  few = λ t n among held. few t n among held (cases_eq (part_of t) (first + k));
}
  where
    kept : (t n : ℕ) → IsAmong first (length parts) t → holds_among first parts t n ≡ true → (part_of t ≡ first + k) ⊎ (part_of t ≢ first + k)
        → holds_among first (set parts k x) t n ≡ true
    kept t n among held (inl here) =
        ap (λ s. has s.members n) (among_written first parts k x t inside here)
        ∙ gets.kept (place_in_part t) n (sym (ap (λ s. has s.members n) (among_at first parts t k here)) ∙ held)
    kept t n among held (inr other) = ap (λ s. has s.members n) (among_other first parts k x t among.from other) ∙ held

    few : (t n : ℕ) → IsAmong first (length parts) t → holds_among first (set parts k x) t n ≡ true → (part_of t ≡ first + k) ⊎ (part_of t ≢ first + k)
        → (holds_among first parts t n || (u == t && number == n)) ≡ true
    few t n among held (inl here) =
        let got = gets.few (place_in_part t) n (sym (ap (λ s. has s.members n) (among_written first parts k x t inside here)) ∙ held) in
        rw (ap (λ s. has s.members n) (among_at first parts t k here)) (rw (place_tells first k u t is here) at got)
    few t n among held (inr other) =
        or_left (holds_among first parts t n) (u == t && number == n) (sym (ap (λ s. has s.members n) (among_other first parts k x t among.from other)) ∙ held)

-- what is of one trigram
pub of_one : (u number t n : ℕ) → u < trigram_count → (u == t && number == n) ≡ true → t < trigram_count
of_one u number t n below is =
    let same : (u == t) ≡ true = and_left (u == t) (number == n) is in
    let e : u ≡ t = grind (arith, nat_tests, same) in
    rw e at below

pub fills_put : (first : ℕ) (parts : List (List NumberSet)) (k : ℕ) (x : List NumberSet) (u number : ℕ) → u < trigram_count → k < length parts → part_of u ≡ first + k
    → ((m n : ℕ) → holds x m n ≡ (holds (get_or parts k []) m n || (place_in_part u == m && number == n)))
    → Fills first (set parts k x) (λ t n. u == t && number == n)
fills_put first parts k x u number below inside is gets = record { bound = λ t n. of_one u number t n below; all = all }
  where
    all : (t n : ℕ) → IsAmong first (length (set parts k x)) t → (u == t && number == n) ≡ true → holds_among first (set parts k x) t n ≡ true
    all t n among listed =
        let same : (u == t) ≡ true = and_left (u == t) (number == n) listed in
        let e : u ≡ t = grind (arith, nat_tests, same) in
        let here : part_of t ≡ first + k = rw e at is in
        let told : (place_in_part u == place_in_part t && number == n) ≡ true = rw (place_tells first k u t is here) listed in
        ap (λ s. has s.members n) (among_written first parts k x t inside here)
        ∙ gets (place_in_part t) n ∙ or_right (holds (get_or parts k []) (place_in_part t) n) (place_in_part u == place_in_part t && number == n) told

-- the same, as the function finds the part
pub grows_found : {T E : Type 0} (first : ℕ) (parts : List (List NumberSet)) (part k l : ℕ) (read x : List NumberSet) (u number : ℕ) (r : Result T E)
    → k ≡ part - first → first ≤ part → part ≡ part_of u → l ≡ place_in_part u → k < length parts → read ≡ get_or parts k read
    → OnOk r ((m n : ℕ) → holds x m n ≡ (holds (get_or parts k read) m n || (l == m && number == n))) → OnErr r (SameSets (get_or parts k read) x)
    → Grows first parts (set parts k x) (λ t n. u == t && number == n)
grows_found first parts part k l read x u number r is from told place inside found ok err =
    let there : get_or parts k read ≡ get_or parts k [] = sym found ∙ get_or_read parts k read inside found [] in
    grows_put first parts k x u number inside (omega arith)
    (rw place at (gets_at_most (get_or parts k []) x l number r (rw there at ok) (rw there at err)))

pub fills_found : {T E : Type 0} (first : ℕ) (parts : List (List NumberSet)) (part k l : ℕ) (read x : List NumberSet) (u number : ℕ) (r : Result T E)
    → u < trigram_count → k ≡ part - first → first ≤ part → part ≡ part_of u → l ≡ place_in_part u → k < length parts → read ≡ get_or parts k read
    → OnOk r ((m n : ℕ) → holds x m n ≡ (holds (get_or parts k read) m n || (l == m && number == n)))
    → OnOk r (Fills first (set parts k x) (λ t n. u == t && number == n))
fills_found first parts part k l read x u number r below is from told place inside found ok =
    let there : get_or parts k read ≡ get_or parts k [] = sym found ∙ get_or_read parts k read inside found [] in
    on_ok_weaker r
    (λ (gets : (m n : ℕ) → holds x m n ≡ (holds (get_or parts k read) m n || (l == m && number == n))).
    fills_put first parts k x u number below inside (omega arith) (rw (there, place) at gets)) ok

-- ---- one trigram after the other

distribute : (a b c : Bool) → ((a || b) && c) ≡ ((a && c) || (b && c))
distribute true b true = refl
distribute true true false = refl
distribute true false false = refl
distribute false b c = refl

-- the trigrams past, and one more
past_one : (all past left : List ℕ) (m number t n : ℕ) → all ≡ past ++ m ∷ left
    → (has all t && number == n) ≡ ((has past t && number == n) || ((m == t || has left t) && number == n))
past_one all past left m number t n e =
    rw (e, has-append past (m ∷ left) t) (distribute (has past t) (m == t || has left t) (number == n))

and_or : (a b c : Bool) → (a && c) ≡ true → ((a || b) && c) ≡ true
and_or true b c is = is
and_or false b c is = absurd (false≢true is)

pub grows_trigram : (first : ℕ) (old now new : List (List NumberSet)) (all past left : List ℕ) (m number : ℕ) → all ≡ past ++ m ∷ left
    → Grows first old now (λ t n. has past t && number == n) → Grows first now new (λ t n. m == t && number == n)
    → Grows first old new (λ t n. has all t && number == n)
grows_trigram first old now new all past left m number e one then =
    grows_on first old now new (λ t n. has past t && number == n) (λ t n. m == t && number == n) (λ t n. has all t && number == n) one then
    (λ t n is. past_one all past left m number t n e ∙ or_left (has past t && number == n) ((m == t || has left t) && number == n) is)
    (λ t n is.
    past_one all past left m number t n e
    ∙ or_right (has past t && number == n) ((m == t || has left t) && number == n) (and_or (m == t) (has left t) (number == n) is))

pub fills_trigram : (first : ℕ) (now new : List (List NumberSet)) (past : List ℕ) (m number : ℕ) → Fills first now (λ t n. has past t && number == n)
    → Grows first now new (λ t n. m == t && number == n) → Fills first new (λ t n. m == t && number == n)
    → Fills first new (λ t n. has (past ++ m ∷ []) t && number == n)
fills_trigram first now new past m number one grown then =
    fills_on first now new (λ t n. has past t && number == n) (λ t n. m == t && number == n) (λ t n. has (past ++ m ∷ []) t && number == n) one grown then
    (λ t n is.
    ap (λ b. (has past t && number == n) || (b && number == n)) (sym (or-false (m == t)))
    ∙ sym (past_one (past ++ m ∷ []) past [] m number t n refl) ∙ is)

-- ---- one entry after the other

entry_next : (entries : List Entry) (at : ℕ) (e : Entry) → at < length entries → e ≡ get_or entries at e → (t n : ℕ)
    → is_listed (take (at + 1) entries) t n ≡ (is_listed (take at entries) t n || (has e.trigrams.now t && e.number == n))
entry_next entries at e inside is t n =
    let next : take (at + 1) entries ≡ take at entries ++ e ∷ [] =
    ap (λ k. take k entries) (add-one at) ∙ take-suc entries at e inside ∙ ap (λ x. take at entries ++ x ∷ []) (sym is) in
    rw (next, list_any-append (λ (x : Entry). has x.trigrams.now t && x.number == n) (take at entries) (e ∷ []))
    (ap (λ b. is_listed (take at entries) t n || b) (or-false (has e.trigrams.now t && e.number == n)))

-- what is listed at the beginning is listed
pub listed_more : (entries : List Entry) (at t n : ℕ) → is_listed (take at entries) t n ≡ true → is_listed entries t n ≡ true
listed_more entries at t n is =
    ap (λ xs. is_listed xs t n) (sym (take-append-drop at entries))
    ∙ list_any-append (λ (x : Entry). has x.trigrams.now t && x.number == n) (take at entries) (drop at entries)
    ∙ or_left (is_listed (take at entries) t n) (is_listed (drop at entries) t n) is

-- both have gone well
pub fills_both : {S T U E : Type 0} (first next : ℕ) (xs ys : List (List NumberSet)) (more : ℕ → ℕ → Bool) (one : Result S E) (other : Result T E) (r : Result U E)
    → next ≡ first + length xs → OnOk one (Fills first xs more) → OnOk other (Fills next ys more) → OnOk r (IsOk one) → OnOk r (IsOk other)
    → OnOk r (Fills first (xs ++ ys) more)
fills_both first next xs ys more one other (Err e) is below above left right = tt
fills_both first next xs ys more (Ok a) (Ok b) (Ok c) is below above left right = fills_joined first next xs ys more is below above
fills_both first next xs ys more (Err a) other (Ok c) is below above left right = absurd (false≢true left)
fills_both first next xs ys more (Ok a) (Err b) (Ok c) is below above left right = absurd (false≢true right)

-- ---- all parts

bool_same : (a b : Bool) → (a ≡ true → b ≡ true) → (b ≡ true → a ≡ true) → a ≡ b
bool_same true b there back = sym (there refl)
bool_same false true there back = back refl
bool_same false false there back = refl

whole_past : (parts : List (List NumberSet)) (t n : ℕ) → trigram_count ≤ t → holds (whole_of parts) t n ≡ false
whole_past parts t n past = ap (λ s. has s.members n) (set_of-past (set_among 0 parts) t past)

whole_here : (parts : List (List NumberSet)) (t n : ℕ) → t < trigram_count → holds (whole_of parts) t n ≡ holds_among 0 parts t n
whole_here parts t n below = ap (λ s. has s.members n) (set_of-table (set_among 0 parts) t below)

among_all : (parts : List (List NumberSet)) (t : ℕ) → length parts ≡ 8 → t < trigram_count → IsAmong 0 (length parts) t
among_all parts t all below = record { number = below; from = omega arith; before = omega (arith, all) }

pub whole_kept : (old new : List (List NumberSet)) (table : List NumberSet) (more : ℕ → ℕ → Bool) → length old ≡ 8 → whole_of old ≡ table → Grows 0 old new more
    → (t n : ℕ) → holds table t n ≡ true → holds (whole_of new) t n ≡ true
whole_kept old new table more all view grown t n = rw (← view) (cases (cases_lt t trigram_count))
  where
    cases : (t < trigram_count) ⊎ (trigram_count ≤ t) → holds (whole_of old) t n ≡ true → holds (whole_of new) t n ≡ true
    cases (inl below) held = whole_here new t n below ∙ grown.kept t n (among_all old t all below) (sym (whole_here old t n below) ∙ held)
    cases (inr past) held = absurd (false≢true (sym (whole_past old t n past) ∙ held))

pub whole_grown : (old new : List (List NumberSet)) (table : List NumberSet) (more : ℕ → ℕ → Bool) → length old ≡ 8 → whole_of old ≡ table → Grows 0 old new more
    → (t n : ℕ) → holds (whole_of new) t n ≡ true → (holds table t n || more t n) ≡ true
whole_grown old new table more all view grown t n = rw (← view) (cases (cases_lt t trigram_count))
  where
    cases : (t < trigram_count) ⊎ (trigram_count ≤ t) → holds (whole_of new) t n ≡ true → (holds (whole_of old) t n || more t n) ≡ true
    cases (inl below) held =
        rw (whole_here old t n below) (grown.few t n (among_all old t all below) (sym (whole_here new t n below) ∙ held))
    cases (inr past) held = absurd (false≢true (sym (whole_past new t n past) ∙ held))

pub whole_filled : {T E : Type 0} (old new : List (List NumberSet)) (table : List NumberSet) (more : ℕ → ℕ → Bool) (r : Result T E) → length old ≡ 8
    → whole_of old ≡ table → Grows 0 old new more → OnOk r (Fills 0 new more) → OnOk r ((t n : ℕ) → holds (whole_of new) t n ≡ (holds table t n || more t n))
whole_filled old new table more r all view grown filled =
    on_ok_weaker r
    (λ (fills : Fills 0 new more) t n.
    bool_same (holds (whole_of new) t n) (holds table t n || more t n) (whole_grown old new table more all view grown t n)
    (λ either.
    one_of_two (holds table t n) (more t n) either (whole_kept old new table more all view grown t n)
    (λ listed.
    (let below = fills.bound t n listed in
    whole_here new t n below ∙ fills.all t n (among_all new t (grown.count ∙ all) below) listed)))) filled
