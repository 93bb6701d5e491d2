-- A number that is moved from the sets of some trigrams to those of others, a piece of them at a time.
use Rattle.std.proofs.Common.{◌≡◌, ◌≢◌, ℕ, ◌<◌, ◌≤◌, Bool, true, false, not, ◌||◌, ◌&&◌, ◌==◌, nat_le, nat_lt, List, [], Option, Some, None, refl, sym, ap, subst, ◌∙◌, ◌⊎◌, inl, inr, arith}
use Rattle.std.proofs.lemmas.Bool.{false≢true, or_cases}
use Rattle.std.proofs.lemmas.Bool.Decides.{nat_tests}
use Rattle.std.proofs.lemmas.List.Elements.{All-weaker, All-filter}
use Rattle.std.specs.Prelude.{All, IfSome, IfNone}
use Rattle.posting.specs.ListValue.{has, without}
use Rattle.posting.specs.Postings.{NumberSet, set_of, holds, MovesNumber, IsMovedUntil}
use Rattle.posting.specs.Private.Gaps.{IsLower, not_below}
use Rattle.posting.specs.Private.Moves.{MovesIn, IsMovedIn}
use Rattle.posting.specs.declared.list.Taken.{Taken}
use Rattle.posting.proofs.SetLemmas.{has-filter, has-without}
use Rattle.posting.proofs.Members.{lacks_below, All-has}
use Rattle.posting.proofs.Fillings.{one_of_two, or_left, or_right, and_left, and_right}

-- `olds` and `news` are left of the old and the new trigrams. The sets of those before them, from `from` on, are as they are to be.
pub record Moves (old new : List ℕ) (from number : ℕ) (before now : List NumberSet) (olds news : List ℕ) : Type 0 where
  pub as_old : (t : ℕ) → (has olds t || has news t) ≡ true → has olds t ≡ has old t
  pub as_new : (t : ℕ) → (has olds t || has news t) ≡ true → has news t ≡ has new t
  pub moved : MovesNumber before now number old new
  pub put : (t : ℕ) → from ≤ t → (has olds t || has news t) ≡ false → has new t ≡ true → has old t ≡ false → holds now t number ≡ true
  pub gone : (t : ℕ) → from ≤ t → (has olds t || has news t) ≡ false → has new t ≡ false → has old t ≡ true → holds now t number ≡ false

not_true : (b : Bool) → not b ≡ true → b ≡ false
not_true true e = absurd (false≢true e)
not_true false e = refl

other_one : (a b : Bool) → (a || b) ≡ true → b ≡ false → a ≡ true
other_one true b e f = refl
other_one false b e f = absurd (false≢true (sym f ∙ e))

first_one : (a b : Bool) → (a || b) ≡ true → a ≡ false → b ≡ true
first_one true b e f = absurd (false≢true (sym f))
first_one false b e f = e

-- ---- at the beginning

left_high : (a b high : Bool) → ((a && high) || (b && high)) ≡ true → ((a && high) ≡ a) × ((b && high) ≡ b)
left_high true true true e = (refl, refl)
left_high true false true e = (refl, refl)
left_high false true true e = (refl, refl)
left_high false false high e = (refl, refl)
left_high true true false e = absurd (false≢true e)
left_high true false false e = absurd (false≢true e)
left_high false true false e = absurd (false≢true e)

none_left : (a b high : Bool) → high ≡ true → ((a && high) || (b && high)) ≡ false → (a ≡ false) × (b ≡ false)
none_left true b true h e = absurd (false≢true (sym e))
none_left false true true h e = absurd (false≢true (sym e))
none_left false false true h e = (refl, refl)
none_left a b false h e = absurd (false≢true h)

pub moves_none : (old new : List ℕ) (from number : ℕ) (table : List NumberSet) (olds news : List ℕ) → olds ≡ not_below from old → news ≡ not_below from new
    → Moves old new from number table table olds news
moves_none old new from number table olds news olds_are news_are = record {
  as_old = λ t left. has_olds t ∙ (left_high (has old t) (has new t) (nat_le from t) (sym (is_left t) ∙ left)).0;
  as_new = λ t left. has_news t ∙ (left_high (has old t) (has new t) (nat_le from t) (sym (is_left t) ∙ left)).1;
  moved = record {
    kept = λ t n held. or_left (holds table t n) ((has old t && not (has new t)) && number == n) held;
    grown = λ t n held. or_left (holds table t n) ((has new t && not (has old t)) && number == n) held;
  };
  put = λ t high none there absent. absurd (false≢true (sym (nothing t high none).1 ∙ there));
  gone = λ t high none absent there. absurd (false≢true (sym (nothing t high none).0 ∙ there));
}
  where
    has_olds : (t : ℕ) → has olds t ≡ (has old t && nat_le from t)
    has_olds t = ap (λ xs. has xs t) olds_are ∙ has-filter (λ n. nat_le from n) old t

    has_news : (t : ℕ) → has news t ≡ (has new t && nat_le from t)
    has_news t = ap (λ xs. has xs t) news_are ∙ has-filter (λ n. nat_le from n) new t

    is_left : (t : ℕ) → (has olds t || has news t) ≡ ((has old t && nat_le from t) || (has new t && nat_le from t))
    is_left t = ap (λ b. b || has news t) (has_olds t) ∙ ap (λ b. (has old t && nat_le from t) || b) (has_news t)

    nothing : (t : ℕ) → from ≤ t → (has olds t || has news t) ≡ false → (has old t ≡ false) × (has new t ≡ false)
    nothing t high none =
        let le : nat_le from t ≡ true = grind (arith, nat_tests) in
        none_left (has old t) (has new t) (nat_le from t) le (sym (is_left t) ∙ none)

-- ---- the set of one trigram

-- where the number is taken out of it
module _ (before after : List NumberSet) (number trigram : ℕ) (is_old is_new : Bool) (none : is_new ≡ false)
    (at : (set_of after trigram).members ≡ without number (set_of before trigram).members) (others : (t : ℕ) → t ≢ trigram → set_of after t ≡ set_of before t) where
  removed : (t n : ℕ) → holds after t n ≡ (holds before t n && not (trigram == t && n == number))
  removed t n = cases (trigram == t) refl
    where
      stays : (b : Bool) → b ≡ (b && true)
      stays true = refl
      stays false = refl

      cases : (same : Bool) → (trigram == t) ≡ same → holds after t n ≡ (holds before t n && not (trigram == t && n == number))
      cases true e =
          let is : trigram ≡ t = grind (arith, nat_tests) in
          rw e (ap (λ ms. has ms n) (rw is at at) ∙ has-without number (set_of before t).members n)
      cases false e =
          let other : t ≢ trigram = grind (arith, nat_tests) in
          rw e (ap (λ s. has s.members n) (others t other) ∙ stays (holds before t n))

  pub removed_in : MovesIn before after number trigram is_old is_new
  removed_in = record {
    kept = λ t n held.
        (let swapped : (number == n) ≡ (n == number) = grind (arith, nat_tests) in
        rw (removed t n, none, swapped) (stays (holds before t n) (trigram == t) (n == number) held));
    grown = λ t n held.
        or_left (holds before t n) ((trigram == t && not is_old) && number == n)
        (and_left (holds before t n) (not (trigram == t && n == number)) (sym (removed t n) ∙ held));
  }
    where
      stays : (b e f : Bool) → b ≡ true → ((b && not (e && f)) || ((e && true) && f)) ≡ true
      stays true true true is = refl
      stays true true false is = refl
      stays true false f is = refl
      stays false e f is = absurd (false≢true is)

  pub is_removed : IsMovedIn after number trigram is_old is_new
  is_removed = record {
    put = λ there absent. absurd (false≢true (sym none ∙ there));
    gone = λ absent.
        (let same : (trigram == trigram) ≡ true = grind (arith, nat_tests) in
        let one : (number == number) ≡ true = grind (arith, nat_tests) in
        removed trigram number ∙ rw (same, one) (never (holds before trigram number)));
  }
    where
      never : (b : Bool) → (b && false) ≡ false
      never true = refl
      never false = refl

-- ---- one more trigram

module _ (old new : List ℕ) (from number : ℕ) (before now : List NumberSet) (olds news : List ℕ) (next : Taken) (olds' news' : List ℕ)
    (h : Moves old new from number before now olds news) (l : IsLower olds news next olds' news') where
  abbrev m : ℕ
  m = next.number

  old_here : next.in_left ≡ has old m
  old_here = l.in_left ∙ h.as_old m l.there

  new_here : next.in_right ≡ has new m
  new_here = l.in_right ∙ h.as_new m l.there

  one_here : (next.in_left || next.in_right) ≡ true
  one_here = ap (λ b. b || next.in_right) l.in_left ∙ (ap (λ b. has olds m || b) l.in_right ∙ l.there)

  only_old : (t n : ℕ) → ((m == t && not next.in_right) && number == n) ≡ true → ((has old t && not (has new t)) && number == n) ≡ true
  only_old t n is =
      let both = and_left (m == t && not next.in_right) (number == n) is in
      let here : (m == t) ≡ true = and_left (m == t) (not next.in_right) both in
      let same : m ≡ t = grind (arith, nat_tests) in
      let none : next.in_right ≡ false = not_true next.in_right (and_right (m == t) (not next.in_right) both) in
      let there : has old t ≡ true = ap (has old) (sym same) ∙ (sym old_here ∙ other_one next.in_left next.in_right one_here none) in
      let absent : has new t ≡ false = ap (has new) (sym same) ∙ (sym new_here ∙ none) in
      let one : (number == n) ≡ true = and_right (m == t && not next.in_right) (number == n) is in
      rw (there, absent, one) refl

  only_new : (t n : ℕ) → ((m == t && not next.in_left) && number == n) ≡ true → ((has new t && not (has old t)) && number == n) ≡ true
  only_new t n is =
      let both = and_left (m == t && not next.in_left) (number == n) is in
      let here : (m == t) ≡ true = and_left (m == t) (not next.in_left) both in
      let same : m ≡ t = grind (arith, nat_tests) in
      let none : next.in_left ≡ false = not_true next.in_left (and_right (m == t) (not next.in_left) both) in
      let there : has new t ≡ true = ap (has new) (sym same) ∙ (sym new_here ∙ first_one next.in_left next.in_right one_here none) in
      let absent : has old t ≡ false = ap (has old) (sym same) ∙ (sym old_here ∙ none) in
      let one : (number == n) ≡ true = and_right (m == t && not next.in_left) (number == n) is in
      rw (there, absent, one) refl

  module _ (after : List NumberSet) (one : MovesIn now after number m next.in_left next.in_right) where
    pub moves_on : MovesNumber before after number old new
    moves_on = record {
      kept = λ t n held.
          one_of_two (holds now t n) ((has old t && not (has new t)) && number == n) (h.moved.kept t n held)
          (λ was.
          one_of_two (holds after t n) ((m == t && not next.in_right) && number == n) (one.kept t n was)
          (λ still. or_left (holds after t n) ((has old t && not (has new t)) && number == n) still)
          (λ is. or_right (holds after t n) ((has old t && not (has new t)) && number == n) (only_old t n is)))
          (λ is. or_right (holds after t n) ((has old t && not (has new t)) && number == n) is);
      grown = λ t n held.
          one_of_two (holds now t n) ((m == t && not next.in_left) && number == n) (one.grown t n held) (h.moved.grown t n)
          (λ is. or_right (holds before t n) ((has new t && not (has old t)) && number == n) (only_new t n is));
    }

    -- of the other trigrams the same ones are left
    olds_same : (t : ℕ) → (t == m) ≡ false → has olds' t ≡ has olds t
    olds_same t other = ap (λ xs. has xs t) l.left_is ∙ (has-without m olds t ∙ rw other (and_true (has olds t)))
      where
        and_true : (b : Bool) → (b && true) ≡ b
        and_true true = refl
        and_true false = refl

    news_same : (t : ℕ) → (t == m) ≡ false → has news' t ≡ has news t
    news_same t other = ap (λ xs. has xs t) l.right_is ∙ (has-without m news t ∙ rw other (and_true (has news t)))
      where
        and_true : (b : Bool) → (b && true) ≡ b
        and_true true = refl
        and_true false = refl

    left_same : (t : ℕ) → (t == m) ≡ false → (has olds' t || has news' t) ≡ (has olds t || has news t)
    left_same t other = ap (λ b. b || has news' t) (olds_same t other) ∙ ap (λ b. has olds t || b) (news_same t other)

    and_false : (b : Bool) → (b && false) ≡ false
    and_false true = refl
    and_false false = refl

    left_none : (t : ℕ) → (t == m) ≡ true → (has olds' t || has news' t) ≡ false
    left_none t here =
        let old_none : has olds' t ≡ false = ap (λ xs. has xs t) l.left_is ∙ (has-without m olds t ∙ rw here (and_false (has olds t))) in
        let new_none : has news' t ≡ false = ap (λ xs. has xs t) l.right_is ∙ (has-without m news t ∙ rw here (and_false (has news t))) in
        rw (old_none, new_none) refl

    still_held : (t : ℕ) → (t == m) ≡ false → holds now t number ≡ true → holds after t number ≡ true
    still_held t other held =
        one_of_two (holds after t number) ((m == t && not next.in_right) && number == number) (one.kept t number held) (λ still. still)
        (λ is.
        (let here : (m == t) ≡ true = and_left (m == t) (not next.in_right) (and_left (m == t && not next.in_right) (number == number) is) in
        let same : (t == m) ≡ true = grind (arith, nat_tests) in
        absurd (false≢true (sym other ∙ same))))

    still_gone : (t : ℕ) → (t == m) ≡ false → holds now t number ≡ false → (b : Bool) → holds after t number ≡ b → b ≡ false
    still_gone t other none false e = refl
    still_gone t other none true e =
        one_of_two (holds now t number) ((m == t && not next.in_left) && number == number) (one.grown t number e)
        (λ was. absurd (false≢true (sym none ∙ was)))
        (λ is.
        (let here : (m == t) ≡ true = and_left (m == t) (not next.in_left) (and_left (m == t && not next.in_left) (number == number) is) in
        let same : (t == m) ≡ true = grind (arith, nat_tests) in
        absurd (false≢true (sym other ∙ same))))

    pub moves_more : IsMovedIn after number m next.in_left next.in_right → Moves old new from number before after olds' news'
    moves_more done = record {
      as_old = λ t left. as_old t left (t == m) refl;
      as_new = λ t left. as_new t left (t == m) refl;
      moved = moves_on;
      put = λ t high none there absent. put t high none there absent (t == m) refl;
      gone = λ t high none absent there. gone t high none absent there (t == m) refl;
    }
      where
        as_old : (t : ℕ) → (has olds' t || has news' t) ≡ true → (b : Bool) → (t == m) ≡ b → has olds' t ≡ has old t
        as_old t left true e = absurd (false≢true (sym (left_none t e) ∙ left))
        as_old t left false e = olds_same t e ∙ h.as_old t (sym (left_same t e) ∙ left)

        as_new : (t : ℕ) → (has olds' t || has news' t) ≡ true → (b : Bool) → (t == m) ≡ b → has news' t ≡ has new t
        as_new t left true e = absurd (false≢true (sym (left_none t e) ∙ left))
        as_new t left false e = news_same t e ∙ h.as_new t (sym (left_same t e) ∙ left)

        put : (t : ℕ) → from ≤ t → (has olds' t || has news' t) ≡ false → has new t ≡ true → has old t ≡ false → (b : Bool) → (t == m) ≡ b
            → holds after t number ≡ true
        put t high none there absent true e =
            let same : t ≡ m = grind (arith, nat_tests) in
            ap (λ u. holds after u number) same
            ∙ done.put (new_here ∙ (ap (has new) (sym same) ∙ there)) (old_here ∙ (ap (has old) (sym same) ∙ absent))
        put t high none there absent false e = still_held t e (h.put t high (sym (left_same t e) ∙ none) there absent)

        gone : (t : ℕ) → from ≤ t → (has olds' t || has news' t) ≡ false → has new t ≡ false → has old t ≡ true → (b : Bool) → (t == m) ≡ b
            → holds after t number ≡ false
        gone t high none absent there true e =
            let same : t ≡ m = grind (arith, nat_tests) in
            ap (λ u. holds after u number) same ∙ done.gone (new_here ∙ (ap (has new) (sym same) ∙ absent))
        gone t high none absent there false e =
            still_gone t e (h.gone t high (sym (left_same t e) ∙ none) absent there) (holds after t number) refl

  -- the trigrams before it are done
  pub moved_before : IsMovedUntil now number old new from (Some m)
  moved_before = record {
    put = λ t high low there absent. h.put t high (before_all t low) there absent;
    gone = λ t high low absent there. h.gone t high (before_all t low) absent there;
  }
    where
      before_all : (t : ℕ) → nat_lt t m ≡ true → (has olds t || has news t) ≡ false
      before_all t low =
          let less : t < m = grind (arith, nat_tests) in
          ap (λ b. b || has news t) (lacks_below olds t (All-weaker (λ k. m ≤ k) (λ k. t < k) (λ k le. omega (arith, less, le)) olds l.least_left))
          ∙ lacks_below news t (All-weaker (λ k. m ≤ k) (λ k. t < k) (λ k le. omega (arith, less, le)) news l.least_right)

-- ---- at the end

pub moved_all : (old new : List ℕ) (from number : ℕ) (before now : List NumberSet) (olds news : List ℕ) → Moves old new from number before now olds news
    → olds ≡ [] → news ≡ [] → IsMovedUntil now number old new from None
moved_all old new from number before now olds news h no_old no_new = record {
  put = λ t high low there absent. h.put t high (none t) there absent;
  gone = λ t high low absent there. h.gone t high (none t) absent there;
}
  where
    none : (t : ℕ) → (has olds t || has news t) ≡ false
    none t = ap (λ xs. has xs t || has news t) no_old ∙ ap (λ xs. has xs t) no_new

-- where memory is given back afterwards
module _ (now after : List NumberSet) (number : ℕ) (old new : List ℕ) (members : (t : ℕ) → (set_of after t).members ≡ (set_of now t).members) where
  pub moved_same : (before : List NumberSet) → MovesNumber before now number old new → MovesNumber before after number old new
  moved_same before h = record {
    kept = λ t n held. ap (λ ms. has ms n || ((has old t && not (has new t)) && number == n)) (members t) ∙ h.kept t n held;
    grown = λ t n held. h.grown t n (ap (λ ms. has ms n) (sym (members t)) ∙ held);
  }

  pub until_same : (from : ℕ) (next : Option ℕ) → IsMovedUntil now number old new from next → IsMovedUntil after number old new from next
  until_same from next h = record {
    put = λ t high low there absent. ap (λ ms. has ms number) (members t) ∙ h.put t high low there absent;
    gone = λ t high low absent there. ap (λ ms. has ms number) (members t) ∙ h.gone t high low absent there;
  }

-- ---- the lower of two trigrams

pub lower_fits : (P : ℕ → Type 0) (left right left' right' : List ℕ) (next : Taken) → IsLower left right next left' right' → All P left → All P right → P next.number
lower_fits P left right left' right' next l in_left in_right = by (or_cases (has left next.number) (has right next.number) l.there)
  where
    by : (has left next.number ≡ true) ⊎ (has right next.number ≡ true) → P next.number
    by (inl e) = All-has P left next.number in_left e
    by (inr e) = All-has P right next.number in_right e

module _ (P : ℕ → Type 0) (left right left' right' : List ℕ) where
  pub left_fits : (found : Option Taken) → IfSome found (λ next. IsLower left right next left' right') → IfNone found ((left' ≡ left) × (right' ≡ right))
      → All P left → All P left'
  left_fits None some none fit = subst (All P) (sym none.0) fit
  left_fits (Some next) some none fit = subst (All P) (sym some.left_is) (All-filter (λ n. not (n == next.number)) P left fit)

  pub right_fits : (found : Option Taken) → IfSome found (λ next. IsLower left right next left' right') → IfNone found ((left' ≡ left) × (right' ≡ right))
      → All P right → All P right'
  right_fits None some none fit = subst (All P) (sym none.1) fit
  right_fits (Some next) some none fit = subst (All P) (sym some.right_is) (All-filter (λ n. not (n == next.number)) P right fit)
