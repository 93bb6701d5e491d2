-- What is left of entries whose numbers are put into sets range by range.
use Rattle.std.proofs.Common.{◌≡◌, ◌⊎◌, inl, inr, ℕ, ◌<◌, Bool, true, false, ◌||◌, ◌&&◌, ◌==◌, List, [], ◌∷◌, ◌++◌, length, refl, sym, ap, ◌∙◌}
use Rattle.std.proofs.lemmas.Bool.{false≢true}
use Rattle.std.proofs.lemmas.List.Folds.{list_any-append}
use Rattle.std.proofs.Math.Bool.{or-false}
use Rattle.posting.specs.ListValue.{has}
use Rattle.posting.specs.declared.filling.Left.{Left}
use Rattle.posting.specs.Postings.{NumberSet}
use Rattle.posting.specs.Private.Pages.{trigram_count}
use Rattle.posting.specs.Private.Parts.{holds_among, IsAmong, Grows, Fills, Moves, is_left}
use Rattle.posting.proofs.Fillings.{one_of_two, or_left, or_right, grows_none, grows_on}

either_and : (a b c : Bool) → ((a || b) && c) ≡ true → ((a && c) || (b && c)) ≡ true
either_and true b true is = refl
either_and true b false is = absurd (false≢true is)
either_and false true true is = refl
either_and false true false is = absurd (false≢true is)
either_and false false c is = absurd (false≢true is)

left_and : (a b c : Bool) → (a && c) ≡ true → ((a || b) && c) ≡ true
left_and true b c is = is
left_and false b c is = absurd (false≢true is)

right_and : (a b c : Bool) → (b && c) ≡ true → ((a || b) && c) ≡ true
right_and true true c is = is
right_and true false c is = absurd (false≢true is)
right_and false b c is = is

-- what grows by little grows by more
pub grows_wider : (first : ℕ) (old new : List (List NumberSet)) (a b : ℕ → ℕ → Bool) → Grows first old new a → ((t n : ℕ) → a t n ≡ true → b t n ≡ true)
    → Grows first old new b
grows_wider first old new a b grown wider = grows_on first old new new a a b grown (grows_none first new a) wider wider

-- ---- one after the other

-- one beside the other
pub moves_beside : (first : ℕ) (old now new : List (List NumberSet)) (a b c d all left : ℕ → ℕ → Bool) → Moves first old now a b → Moves first now new c d
    → ((t n : ℕ) → all t n ≡ (a t n || c t n)) → ((t n : ℕ) → left t n ≡ (b t n || d t n)) → Moves first old new all left
moves_beside first old now new a b c d all left one then whole rest = record {
  grown =
      grows_on first old now new a c all one.grown then.grown (λ t n is. whole t n ∙ or_left (a t n) (c t n) is)
      (λ t n is. whole t n ∙ or_right (a t n) (c t n) is);
  got = λ t n among is.
      one_of_two (a t n) (c t n) (sym (whole t n) ∙ is)
      (λ was.
      one_of_two (holds_among first now t n) (b t n) (one.got t n (back t among) was)
      (λ held. or_left (holds_among first new t n) (left t n) (then.grown.kept t n (back t among) held))
      (λ l. or_right (holds_among first new t n) (left t n) (rest t n ∙ or_left (b t n) (d t n) l)))
      (λ was.
      one_of_two (holds_among first new t n) (d t n) (then.got t n among was) (λ held. or_left (holds_among first new t n) (left t n) held)
      (λ l. or_right (holds_among first new t n) (left t n) (rest t n ∙ or_right (b t n) (d t n) l)));
  fewer = λ t n is.
      whole t n
      ∙ one_of_two (b t n) (d t n) (sym (rest t n) ∙ is) (λ l. or_left (a t n) (c t n) (one.fewer t n l))
      (λ l. or_right (a t n) (c t n) (then.fewer t n l));
  bound = λ t n is.
      one_of_two (a t n) (c t n) (sym (whole t n) ∙ is) (λ was. first_bound t n (one.bound t n was)) (λ was. second_bound t n (then.bound t n was));
}
  where
    first_bound : (t n : ℕ) → (t < trigram_count) ⊎ (b t n ≡ true) → (t < trigram_count) ⊎ (left t n ≡ true)
    first_bound t n (inl below) = inl below
    first_bound t n (inr l) = inr (rest t n ∙ or_left (b t n) (d t n) l)

    second_bound : (t n : ℕ) → (t < trigram_count) ⊎ (d t n ≡ true) → (t < trigram_count) ⊎ (left t n ≡ true)
    second_bound t n (inl below) = inl below
    second_bound t n (inr l) = inr (rest t n ∙ or_right (b t n) (d t n) l)

    back : (t : ℕ) → IsAmong first (length new) t → IsAmong first (length now) t
    back t among = rw (sym then.grown.count) among

-- ---- one number, trigram by trigram

abbrev pub left_of : ℕ → List ℕ → ℕ → ℕ → Bool
left_of number trigrams t n = has trigrams t && number == n

pub grows_head : (first : ℕ) (now new : List (List NumberSet)) (m number : ℕ) (rest : List ℕ) → Grows first now new (λ t n. m == t && number == n)
    → Grows first now new (left_of number (m ∷ rest))
grows_head first now new m number rest grown =
    grows_wider first now new (λ t n. m == t && number == n) (left_of number (m ∷ rest)) grown (λ t n is. left_and (m == t) (has rest t) (number == n) is)

-- ---- entry by entry

left_next : (xs : List Left) (x : Left) (t n : ℕ) → is_left (xs ++ x ∷ []) t n ≡ (is_left xs t n || left_of x.number x.trigrams t n)
left_next xs x t n =
    list_any-append (λ (l : Left). has l.trigrams t && l.number == n) xs (x ∷ []) ∙ ap (λ b. is_left xs t n || b) (or-false (left_of x.number x.trigrams t n))

left_first : (xs : List Left) (x : Left) (rest : List Left) (t n : ℕ)
    → is_left (xs ++ x ∷ rest) t n ≡ (is_left xs t n || (left_of x.number x.trigrams t n || is_left rest t n))
left_first xs x rest t n = list_any-append (λ (l : Left). has l.trigrams t && l.number == n) xs (x ∷ rest)

pub moves_entry : (first : ℕ) (old now new : List (List NumberSet)) (past rest : List Left) (x y : Left) → Moves first old now (is_left past) (is_left rest)
    → Moves first now new (left_of x.number x.trigrams) (left_of y.number y.trigrams) → Moves first old new (is_left (past ++ x ∷ [])) (is_left (rest ++ y ∷ []))
moves_entry first old now new past rest x y one then =
    moves_beside first old now new (is_left past) (is_left rest) (left_of x.number x.trigrams) (left_of y.number y.trigrams) (is_left (past ++ x ∷ []))
    (is_left (rest ++ y ∷ [])) one then (left_next past x) (left_next rest y)

-- the entries before one, and that one, are some of all
pub grows_some : (first : ℕ) (old now new : List (List NumberSet)) (past later : List Left) (x : Left) → Grows first old now (is_left past)
    → Grows first now new (left_of x.number x.trigrams) → Grows first old new (is_left (past ++ x ∷ later))
grows_some first old now new past later x one then =
    grows_on first old now new (is_left past) (left_of x.number x.trigrams) (is_left (past ++ x ∷ later)) one then
    (λ t n is.
    left_first past x later t n ∙ or_left (is_left past t n) (left_of x.number x.trigrams t n || is_left later t n) is)
    (λ t n is.
    left_first past x later t n
    ∙ or_right (is_left past t n) (left_of x.number x.trigrams t n || is_left later t n)
    (or_left (left_of x.number x.trigrams t n) (is_left later t n) is))

-- ---- all entries

pub fills_all : (first : ℕ) (old now new : List (List NumberSet)) (a b : ℕ → ℕ → Bool) → Moves first old now a b → Grows first now new b → Fills first new b
    → Fills first new a
fills_all first old now new a b one grown filled = record {
  bound = λ t n is. bound t n (one.bound t n is);
  all = λ t n among is.
      let back : IsAmong first (length now) t = rw (sym grown.count) among in
      one_of_two (holds_among first now t n) (b t n) (one.got t n back is) (λ held. grown.kept t n back held) (λ left. filled.all t n among left);
}
  where
    bound : (t n : ℕ) → (t < trigram_count) ⊎ (b t n ≡ true) → t < trigram_count
    bound t n (inl below) = below
    bound t n (inr left) = filled.bound t n left
