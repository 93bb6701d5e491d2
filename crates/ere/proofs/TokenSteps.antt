-- What the steps of the reader of tokens find at an offset of a text.
use Rattle.std.proofs.Common.{◌≡◌, ◌≢◌, ℕ, ◌+◌, ◌-◌, ◌*◌, ◌<◌, ◌≤◌, min, Bool, true, false, ◌&&◌, ◌||◌, ◌==◌, cond, IsTrue, IsFalse, List}
use Rattle.std.proofs.Common.{[], ◌∷◌, ◌++◌, length, get_or, drop, Option, Some, None, MatchOption, refl, sym, ap, ◌∙◌, subst, arith}
use Rattle.std.proofs.Common.{append_assoc, length-append, inl, inr, ◌⊎◌}
use Rattle.std.specs.List.{AllPass, list_any}
use Rattle.std.proofs.lemmas.List.Elements.{All-push}
use Rattle.std.proofs.lemmas.List.Sums.{fold-append}
use Rattle.std.proofs.lemmas.List.{drop_all}
use native.Mathlib.Decide.{dec_lt}
use Rattle.ere.specs.declared.case.Case.{Case}
use Rattle.ere.specs.ByteSet.{single}
use Rattle.ere.specs.Classes.{is_digit}
use Rattle.ere.specs.Letters.{read_in}
use Rattle.ere.specs.Brackets.{begins_with, SpellsBracket}
use Rattle.ere.specs.Tokens.{Token, set, times, SpellsToken, SpellsInterval, SpellsCount, digit_ahead, decimal_value, token_of_byte, is_escapable}
use Rattle.ere.specs.Tokens.{SpellsToken as spelled, SpellsInterval as interval}
use Rattle.ere.specs.Private.Reading.{begins_longer, NoDuplication, ReadsCount}
use Rattle.ere.proofs.BracketLemmas.{head_of}
use Rattle.ere.proofs.BracketSteps.{eqb_differs}
use Rattle.ere.proofs.Texts.{first_begins, front}
use Rattle.ere.proofs.TokenLemmas.{tail_of, at_byte, no_bracket_byte, no_escape_byte, no_brace_byte, one_token, IntervalView}
use Rattle.ere.proofs.TokenLemmas.{IntervalView as view, interval_view, one_run, all_digits, one_count}

-- No token is at the front.
abbrev pub NoToken : Case → List ℕ → Type 0
NoToken case from = (rest : List ℕ) (t : Token) → SpellsToken case from rest t → ⊥

pub escape_fails : {case : Case} → (from tail : List ℕ) → from ≡ 92 ∷ tail
    → ((b : ℕ) (r : List ℕ) → tail ≡ b ∷ r → IsTrue (is_escapable b) → ⊥) → NoToken case from
escape_fails from tail e none rest t (spelled.byte b f h) = no_escape_byte _ tail t (at_byte _ from b 92 rest tail t f e h)
escape_fails from tail e none rest t (spelled.escaped b f h is) = none b rest (tail_of (sym e ∙ f)) h
escape_fails from tail e none rest t (spelled.bracket items m f h is) = absurd (omega (arith, head_of (sym f ∙ e)))
escape_fails from tail e none rest t (spelled.interval counts l g f d h is) = absurd (omega (arith, head_of (sym f ∙ e)))

pub bracket_fails : {case : Case} → (from tail : List ℕ) → from ≡ 91 ∷ tail
    → ((rest : List ℕ) (m : List Bool) → SpellsBracket case tail rest m → ⊥) → NoToken case from
bracket_fails from tail e none rest t (spelled.byte b f h) = no_bracket_byte _ tail t (at_byte _ from b 91 rest tail t f e h)
bracket_fails from tail e none rest t (spelled.escaped b f h is) = absurd (omega (arith, head_of (sym f ∙ e)))
bracket_fails {case} from tail e none rest t (spelled.bracket items m f h is) = none rest m (subst (λ v. SpellsBracket case v rest m) (tail_of (sym f ∙ e)) h)
bracket_fails from tail e none rest t (spelled.interval counts l g f d h is) = absurd (omega (arith, head_of (sym f ∙ e)))

pub interval_fails : {case : Case} → (from tail : List ℕ) → from ≡ 123 ∷ tail → IsTrue (digit_ahead tail)
    → ((rest : List ℕ) (l : ℕ) (g : Option ℕ) → SpellsInterval tail rest l g → ⊥) → NoToken case from
interval_fails from tail e digit none rest t (spelled.byte b f h) = no_brace_byte _ tail t digit (at_byte _ from b 123 rest tail t f e h)
interval_fails from tail e digit none rest t (spelled.escaped b f h is) = absurd (omega (arith, head_of (sym f ∙ e)))
interval_fails from tail e digit none rest t (spelled.bracket items m f h is) = absurd (omega (arith, head_of (sym f ∙ e)))
interval_fails from tail e digit none rest t (spelled.interval counts l g f d h is) =
    none rest l g (subst (λ v. SpellsInterval v rest l g) (tail_of (sym f ∙ e)) h)

-- Only `*`, `+` and `?` are duplications of one byte.
times_byte : (case : Case) → (b : ℕ) (text : List ℕ) (l : ℕ) (g : Option ℕ) → token_of_byte case b text ≡ Some (times l g) → b ≢ 42 → b ≢ 43 → b ≢ 63 → ⊥
unfolding token_of_byte
times_byte case b text l g e no_star no_plus no_question =
    skip (b == 46) _ _ (λ f. cc)
    (skip (b == 40) _ _ (λ f. cc)
    (skip (b == 41) _ _ (λ f. cc) (skip (b == 124) _ _ (λ f. cc) (skip (b == 94) _ _ (λ f. cc) (skip (b == 36) _ _ (λ f. cc)
    (pass (b == 42) _ _ (eqb_differs b 42 no_star) (pass (b == 43) _ _ (eqb_differs b 43 no_plus) (pass (b == 63) _ _ (eqb_differs b 63 no_question)
    (skip (b == 91 || (b == 92 || (b == 123 && digit_ahead text))) _ _ (λ f. cc) (λ f. cc)))))))))) e
  where
    skip : (c : Bool) (x y : Option Token) → (x ≡ Some (times l g) → ⊥) → (y ≡ Some (times l g) → ⊥) → cond c x y ≡ Some (times l g) → ⊥
    skip true x y f h e = f e
    skip false x y f h e = h e

    pass : (c : Bool) (x y : Option Token) → c ≡ false → (y ≡ Some (times l g) → ⊥) → cond c x y ≡ Some (times l g) → ⊥
    pass true x y f h e = absurd (cc)
    pass false x y f h e = h e

pub no_duplication : {case : Case} → (from : List ℕ) (b : ℕ) (rest : List ℕ) → from ≡ b ∷ rest → b ≢ 42 → b ≢ 43 → b ≢ 63 → b ≢ 123 → NoDuplication case from
no_duplication from b rest e star plus question brace r l g (spelled.byte c f h) =
    times_byte _ b rest l g (at_byte _ from c b r rest (times l g) f e h) star plus question
no_duplication from b rest e star plus question brace r l g (spelled.escaped c f h is) = absurd (cc)
no_duplication from b rest e star plus question brace r l g (spelled.bracket items m f h is) = absurd (cc)
no_duplication from b rest e star plus question brace r l g (spelled.interval counts m k f d h is) = brace (head_of (sym e ∙ f))

-- A text that begins with another token begins with no duplication.
pub no_duplication_other : {case : Case} → (from q : List ℕ) (t : Token) → SpellsToken case from q t
    → ((l : ℕ) (g : Option ℕ) → t ≡ times l g → ⊥) → NoDuplication case from
no_duplication_other from q t h other r l g k = other l g (one_token from q r t (times l g) h k).1

pub other_byte : (case : Case) → (b : ℕ) (rest : List ℕ) → b ≢ 46 → b ≢ 40 → b ≢ 41 → b ≢ 124 → b ≢ 94 → b ≢ 36 → b ≢ 42 → b ≢ 43 → b ≢ 63
    → IsFalse (begins_longer b rest) → token_of_byte case b rest ≡ Some (set (read_in case (single b)))
unfolding token_of_byte
other_byte case b rest n46 n40 n41 n124 n94 n36 n42 n43 n63 short =
    rw (
      eqb_differs b 46 n46,
      eqb_differs b 40 n40,
      eqb_differs b 41 n41,
      eqb_differs b 124 n124,
      eqb_differs b 94 n94,
      eqb_differs b 36 n36,
      eqb_differs b 42 n42,
      eqb_differs b 43 n43,
      eqb_differs b 63 n63,
      short,
    ) refl

-- the digits read so far, and what they spell up to 256
pub record CountedTo (from rest : List ℕ) (value count : ℕ) : Type 0 where
  pub digits : List ℕ
  pub is_front : from ≡ digits ++ rest
  pub decimal : AllPass is_digit digits
  pub value_is : value ≡ min (decimal_value digits) 256
  pub long : length digits ≡ count

pub counted_more : (from rest : List ℕ) (b value count : ℕ) → CountedTo from (b ∷ rest) value count → is_digit b ≡ true
    → CountedTo from rest (min (value * 10 + (b - 48)) 256) (count + 1)
counted_more from rest b value count r digit = record {
  digits = r.digits ++ b ∷ [];
  is_front = r.is_front ∙ sym (append_assoc r.digits (b ∷ []) rest);
  decimal = All-push (λ d. is_digit d ≡ true) r.digits b r.decimal digit;
  value_is =
      let all : decimal_value (r.digits ++ b ∷ []) ≡ 10 * decimal_value r.digits + (b - 48) =
      fold-append (λ v d. 10 * v + (d - 48)) 0 r.digits (b ∷ []) in
      let so_far = r.value_is in omega (arith, all, so_far);
  long = length-append r.digits (b ∷ []) ∙ omega (arith, r.long);
}

-- the interval's first count, and what follows its digits
pub low_view : (from tail : List ℕ) (count : Option ℕ) (r : ReadsCount from tail count) (rest : List ℕ) (l : ℕ) (g : Option ℕ)
    → SpellsInterval from rest l g → IntervalView r.digits tail rest l g
low_view from tail count r rest l g h = interval_view from r.digits tail rest l g r.is_front r.decimal r.ends h

pub low_fails : (from tail : List ℕ) → ReadsCount from tail None → (rest : List ℕ) (l : ℕ) (g : Option ℕ) → SpellsInterval from rest l g → ⊥
low_fails from tail r rest l g h = go (low_view from tail None r rest l g h)
  where
    go : IntervalView r.digits tail rest l g → ⊥
    go (view.exactly e a i) = r.counted l a
    go (view.at_least e a i) = r.counted l a
    go (view.between high most e a c o i) = r.counted l a

pub exactly_found : (from tail rest : List ℕ) (n : ℕ) → ReadsCount from tail (Some n) → tail ≡ 125 ∷ rest → SpellsInterval from rest n (Some n)
exactly_found from tail rest n r e = interval.exactly r.digits (r.is_front ∙ ap (λ t. r.digits ++ t) e) r.counted refl

pub at_least_found : (from tail rest : List ℕ) (n : ℕ) → ReadsCount from tail (Some n) → tail ≡ 44 ∷ 125 ∷ rest → SpellsInterval from rest n None
at_least_found from tail rest n r e = interval.at_least r.digits (r.is_front ∙ ap (λ t. r.digits ++ t) e) r.counted refl

pub between_found : (from tail behind tail2 rest : List ℕ) (n m : ℕ) → ReadsCount from tail (Some n) → tail ≡ 44 ∷ behind
    → ReadsCount behind tail2 (Some m) → tail2 ≡ 125 ∷ rest → n ≤ m → SpellsInterval from rest n (Some m)
between_found from tail behind tail2 rest n m r e q f order =
    interval.between r.digits q.digits m
    (r.is_front ∙ ap (λ t. r.digits ++ t) (e ∙ ap (λ t. 44 ∷ t) (q.is_front ∙ ap (λ t. q.digits ++ t) f))) r.counted q.counted order
    refl

pub begins_not : (from : List ℕ) (b : ℕ) (rest : List ℕ) → from ≡ b ∷ rest → false ≡ begins_with b from → ⊥
begins_not from b rest e h = absurd (let t : IsTrue (begins_with b from) = rw e (first_begins b rest) in cc)

pub tail_fails : (from tail : List ℕ) (count : Option ℕ) → ReadsCount from tail count → false ≡ begins_with 125 tail
    → false ≡ begins_with 44 tail → (rest : List ℕ) (l : ℕ) (g : Option ℕ) → SpellsInterval from rest l g → ⊥
tail_fails from tail count r no_brace no_comma rest l g h = go (low_view from tail count r rest l g h)
  where
    go : IntervalView r.digits tail rest l g → ⊥
    go (view.exactly e a i) = begins_not tail 125 rest e no_brace
    go (view.at_least e a i) = begins_not tail 44 (125 ∷ rest) e no_comma
    go (view.between high most e a c o i) = begins_not tail 44 (high ++ 125 ∷ rest) e no_comma

-- After a comma that no `}` follows, an interval fails unless a count that is not below the first and a `}` follow.
pub comma_fails : (from tail behind tail2 : List ℕ) (count count2 : Option ℕ) → ReadsCount from tail count → tail ≡ 44 ∷ behind
    → false ≡ begins_with 125 behind → (q : ReadsCount behind tail2 count2)
    → ((rest : List ℕ) (l m : ℕ) → tail2 ≡ 125 ∷ rest → SpellsCount q.digits m → MatchOption count (Unit {0}) (λ n. l ≡ n) → l ≤ m → ⊥)
    → (rest : List ℕ) (l : ℕ) (g : Option ℕ) → SpellsInterval from rest l g → ⊥
comma_fails from tail behind tail2 count count2 r e no_brace q none rest l g h = go (low_view from tail count r rest l g h)
  where
    least_is : (c : Option ℕ) → MatchOption c ((n : ℕ) → SpellsCount r.digits n → ⊥) (SpellsCount r.digits) → SpellsCount r.digits l
        → MatchOption c (Unit {0}) (λ n. l ≡ n)
    least_is None k a = tt
    least_is (Some n) k a = one_count r.digits l n a k

    go : IntervalView r.digits tail rest l g → ⊥
    go (view.exactly f a i) = absurd (omega (arith, head_of (sym e ∙ f)))
    go (view.at_least f a i) = begins_not behind 125 rest (tail_of (sym e ∙ f)) no_brace
    go (view.between high most f a c o i) =
        let same =
        one_run high q.digits (125 ∷ rest) tail2 (all_digits high c.decimal) (all_digits q.digits q.decimal) refl q.ends
        (sym (tail_of (sym e ∙ f)) ∙ q.is_front) in
        none rest l most (sym same.1) (subst (λ v. SpellsCount v most) same.0 c) (least_is count r.counted a) o

pub digit_inside : (text : List ℕ) (at : ℕ) → true ≡ digit_ahead (drop at text) → (at < length text) × (is_digit (get_or text at 0) ≡ true)
digit_inside text at h = go (dec_lt at (length text))
  where
    go : Dec (at < length text) → (at < length text) × (is_digit (get_or text at 0) ≡ true)
    go (yes inside) = (inside, sym (h ∙ ap digit_ahead (front text at inside)))
    go (no outside) = absurd (let none : true ≡ digit_ahead [] = h ∙ ap digit_ahead (drop_all at text (omega arith)) in cc)

-- a byte that begins no longer token
pub short_byte : (b : ℕ) (rest : List ℕ) → b ≢ 91 → b ≢ 92 → (digit_ahead rest ≡ false) ⊎ (b ≢ 123) → IsFalse (begins_longer b rest)
short_byte b rest no_bracket no_escape why = rw (eqb_differs b 91 no_bracket, eqb_differs b 92 no_escape) (last why)
  where
    last : (digit_ahead rest ≡ false) ⊎ (b ≢ 123) → IsFalse (b == 123 && digit_ahead rest)
    last (inl none) = falls (b == 123) (digit_ahead rest) none
      where
        falls : (x y : Bool) → y ≡ false → IsFalse (x && y)
        falls true y e = e
        falls false y e = refl
    last (inr other) = rw (eqb_differs b 123 other) refl

pub none_of_four : (b : ℕ) (r : Bool) → r ≡ list_any (λ y. y == b) (42 ∷ 43 ∷ 63 ∷ 123 ∷ []) → IsFalse r → (b ≢ 42) × (b ≢ 43) × (b ≢ 63) × (b ≢ 123)
none_of_four b r v none = (not_at 42 refl, not_at 43 refl, not_at 63 refl, not_at 123 refl)
  where
    not_at : (n : ℕ) → list_any (λ y. y == n) (42 ∷ 43 ∷ 63 ∷ 123 ∷ []) ≡ true → b ≢ n
    not_at n h e = absurd (let t : r ≡ true = v ∙ ap (λ x. list_any (λ y. y == x) (42 ∷ 43 ∷ 63 ∷ 123 ∷ [])) e ∙ h in cc)
