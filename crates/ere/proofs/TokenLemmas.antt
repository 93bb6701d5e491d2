-- Tokens: each text has at most one at its front, and a text is made of tokens in one way at most.
use Rattle.std.proofs.Common.{◌≡◌, ℕ, ◌≤◌, true, IsTrue, IsFalse, List, [], ◌∷◌, ◌++◌, length, drop, Option, Some, None, refl, sym, ap, ◌∙◌, subst, arith}
use Rattle.std.specs.List.{AllPass, AllByRecursion}
use Rattle.std.proofs.lemmas.List.Elements.{recursion_from_All}
use Rattle.ere.specs.declared.case.Case.{Case}
use Rattle.ere.specs.ByteSet.{single}
use Rattle.ere.specs.Classes.{is_digit}
use Rattle.ere.specs.Letters.{read_in}
use Rattle.ere.specs.Brackets.{SpellsBracket}
use Rattle.ere.specs.Tokens.{Token, set, times, Tokens, SpellsToken, SpellsInterval, SpellsCount, digit_ahead, token_of_byte}
use Rattle.ere.specs.Tokens.{SpellsToken as spelled, SpellsInterval as interval, Tokens as tokens}
use Rattle.ere.proofs.BracketLemmas.{head_of, one_bracket}

abbrev pub AllDigits : List ℕ → Type 0
AllDigits digits = AllByRecursion (λ b. is_digit b ≡ true) digits

pub tail_of : {x y : ℕ} {r q : List ℕ} → x ∷ r ≡ y ∷ q → r ≡ q
tail_of e = ap (drop 1) e

-- A text has one run of digits at its front, up to the first byte that is not a digit.
pub one_run : (a b r q : List ℕ) → AllDigits a → AllDigits b → IsFalse (digit_ahead r) → IsFalse (digit_ahead q) → a ++ r ≡ b ++ q → (a ≡ b) × (r ≡ q)
one_run [] [] r q x y f g e = (refl, e)
one_run [] (c ∷ b) r q x y f g e = absurd (let digit : digit_ahead r ≡ true = rw e y.0 in cc)
one_run (c ∷ a) [] r q x y f g e = absurd (let digit : digit_ahead q ≡ true = rw (sym e) x.0 in cc)
one_run (c ∷ a) (d ∷ b) r q x y f g e =
    let rest = one_run a b r q x.1 y.1 f g (tail_of e) in
    let first : c ≡ d = head_of e in
    let others = rest.0 in
    (cc, rest.1)

pub all_digits : (digits : List ℕ) → AllPass is_digit digits → AllDigits digits
all_digits digits h = recursion_from_All (λ b. is_digit b ≡ true) digits h

-- an interval, after the digits of its first count
pub data IntervalView (digits tail rest : List ℕ) (least : ℕ) (greatest : Option ℕ) : Type 0 where
  exactly : tail ≡ 125 ∷ rest → SpellsCount digits least → greatest ≡ Some least → IntervalView digits tail rest least greatest
  at_least : tail ≡ 44 ∷ 125 ∷ rest → SpellsCount digits least → greatest ≡ None → IntervalView digits tail rest least greatest
  between : (high : List ℕ) (most : ℕ) → tail ≡ 44 ∷ (high ++ 125 ∷ rest) → SpellsCount digits least → SpellsCount high most → least ≤ most
      → greatest ≡ Some most → IntervalView digits tail rest least greatest

pub interval_view : (from digits tail rest : List ℕ) (least : ℕ) (greatest : Option ℕ) → from ≡ digits ++ tail → AllPass is_digit digits
    → IsFalse (digit_ahead tail) → SpellsInterval from rest least greatest → IntervalView digits tail rest least greatest
interval_view from digits tail rest least greatest e d f (interval.exactly other g count is) =
    let same = one_run other digits (125 ∷ rest) tail (all_digits other count.decimal) (all_digits digits d) refl f (sym g ∙ e) in
    exactly (sym same.1) (subst (λ v. SpellsCount v least) same.0 count) is
interval_view from digits tail rest least greatest e d f (interval.at_least other g count is) =
    let same = one_run other digits (44 ∷ 125 ∷ rest) tail (all_digits other count.decimal) (all_digits digits d) refl f (sym g ∙ e) in
    at_least (sym same.1) (subst (λ v. SpellsCount v least) same.0 count) is
interval_view from digits tail rest least greatest e d f (interval.between other high most g count count2 order is) =
    let same = one_run other digits (44 ∷ (high ++ 125 ∷ rest)) tail (all_digits other count.decimal) (all_digits digits d) refl f (sym g ∙ e) in
    between high most (sym same.1) (subst (λ v. SpellsCount v least) same.0 count) count2 order is

pub one_count : (digits : List ℕ) (m n : ℕ) → SpellsCount digits m → SpellsCount digits n → m ≡ n
one_count digits m n a b = a.value ∙ sym b.value

-- a count has a digit, and `}` is not a digit
pub no_empty_count : (high rest r : List ℕ) (most : ℕ) → 125 ∷ r ≡ high ++ 125 ∷ rest → SpellsCount high most → ⊥
no_empty_count high rest r most e count =
    let none : [] ≡ high = (one_run [] high (125 ∷ r) (125 ∷ rest) tt (all_digits high count.decimal) refl refl e).0 in
    let short : 0 ≡ length high = ap length none in
    absurd (omega (arith, count.some))

one_interval_view : (digits tail r q : List ℕ) (l m : ℕ) (g h : Option ℕ) → IntervalView digits tail r l g → IntervalView digits tail q m h
    → (r ≡ q) × (l ≡ m) × (g ≡ h)
one_interval_view digits tail r q l m g h (exactly e a i) (exactly f b j) =
    let same = one_count digits l m a b in (tail_of (sym e ∙ f), same, i ∙ ap Some same ∙ sym j)
one_interval_view digits tail r q l m g h (exactly e a i) (at_least f b j) = absurd (omega (arith, head_of (sym e ∙ f)))
one_interval_view digits tail r q l m g h (exactly e a i) (between high most f b c o j) = absurd (omega (arith, head_of (sym e ∙ f)))
one_interval_view digits tail r q l m g h (at_least e a i) (exactly f b j) = absurd (omega (arith, head_of (sym e ∙ f)))
one_interval_view digits tail r q l m g h (at_least e a i) (at_least f b j) = (tail_of (tail_of (sym e ∙ f)), one_count digits l m a b, i ∙ sym j)
one_interval_view digits tail r q l m g h (at_least e a i) (between high most f b c o j) = absurd (no_empty_count high q r most (tail_of (sym e ∙ f)) c)
one_interval_view digits tail r q l m g h (between high most e a c o i) (exactly f b j) = absurd (omega (arith, head_of (sym e ∙ f)))
one_interval_view digits tail r q l m g h (between high most e a c o i) (at_least f b j) = absurd (no_empty_count high r q most (sym (tail_of (sym e ∙ f))) c)
one_interval_view digits tail r q l m g h (between high most e a c o i) (between high2 most2 f b c2 o2 j) =
    let same = one_run high high2 (125 ∷ r) (125 ∷ q) (all_digits high c.decimal) (all_digits high2 c2.decimal) refl refl (tail_of (sym e ∙ f)) in
    let counts = one_count high2 most most2 (subst (λ v. SpellsCount v most) same.0 c) c2 in
    (tail_of same.1, one_count digits l m a b, i ∙ ap Some counts ∙ sym j)

pub one_interval : (from r q : List ℕ) (l m : ℕ) (g h : Option ℕ) → SpellsInterval from r l g → SpellsInterval from q m h → (r ≡ q) × (l ≡ m) × (g ≡ h)
one_interval from r q l m g h (interval.exactly digits e count is) b =
    one_interval_view digits (125 ∷ r) r q l m g h (exactly refl count is) (interval_view from digits (125 ∷ r) q m h e count.decimal refl b)
one_interval from r q l m g h (interval.at_least digits e count is) b =
    one_interval_view digits (44 ∷ 125 ∷ r) r q l m g h (at_least refl count is) (interval_view from digits (44 ∷ 125 ∷ r) q m h e count.decimal refl b)
one_interval from r q l m g h (interval.between digits high most e count count2 order is) b =
    one_interval_view digits (44 ∷ (high ++ 125 ∷ r)) r q l m g h (between high most refl count count2 order is)
    (interval_view from digits (44 ∷ (high ++ 125 ∷ r)) q m h e count.decimal refl b)

-- a byte that begins a longer token is not a token by itself
pub no_bracket_byte : (case : Case) → (text : List ℕ) (t : Token) → token_of_byte case 91 text ≡ Some t → ⊥
unfolding token_of_byte
no_bracket_byte case text t e = absurd (cc)

pub no_escape_byte : (case : Case) → (text : List ℕ) (t : Token) → token_of_byte case 92 text ≡ Some t → ⊥
unfolding token_of_byte
no_escape_byte case text t e = absurd (cc)

pub no_brace_byte : (case : Case) → (text : List ℕ) (t : Token) → IsTrue (digit_ahead text) → token_of_byte case 123 text ≡ Some t → ⊥
unfolding token_of_byte
no_brace_byte case text t h e = let none : token_of_byte case 123 text ≡ None = rw h refl in absurd (cc)

pub at_byte : (case : Case) → (from : List ℕ) (b c : ℕ) (rest more : List ℕ) (t : Token) → from ≡ b ∷ rest → from ≡ c ∷ more
    → token_of_byte case b rest ≡ Some t → token_of_byte case c more ≡ Some t
at_byte case from b c rest more t e f h =
    subst (λ v. token_of_byte case v more ≡ Some t) (head_of (sym e ∙ f))
    (subst (λ v. token_of_byte case b v ≡ Some t) (tail_of (sym e ∙ f)) h)

pub one_token : {case : Case} → (from r q : List ℕ) (s t : Token) → SpellsToken case from r s → SpellsToken case from q t → (r ≡ q) × (s ≡ t)
one_token from r q s t (spelled.byte b e h) (spelled.byte c f k) =
    let same = at_byte _ from b c r q s e f h in
    (tail_of (sym e ∙ f), let both : Some s ≡ Some t = sym same ∙ k in cc)
one_token from r q s t (spelled.byte b e h) (spelled.escaped c f k is) = absurd (no_escape_byte _ (c ∷ q) s (at_byte _ from b 92 r (c ∷ q) s e f h))
one_token from r q s t (spelled.byte b e h) (spelled.bracket items m f k is) = absurd (no_bracket_byte _ items s (at_byte _ from b 91 r items s e f h))
one_token from r q s t (spelled.byte b e h) (spelled.interval counts l g f d k is) = absurd (no_brace_byte _ counts s d (at_byte _ from b 123 r counts s e f h))
one_token from r q s t (spelled.escaped c f k is) (spelled.byte b e h) = absurd (no_escape_byte _ (c ∷ r) t (at_byte _ from b 92 q (c ∷ r) t e f h))
one_token {case} from r q s t (spelled.escaped c f k is) (spelled.escaped b e h is2) =
    let same : c ≡ b = head_of (tail_of (sym f ∙ e)) in
    (tail_of (tail_of (sym f ∙ e)), is ∙ ap (λ v. set (read_in case (single v))) same ∙ sym is2)
one_token from r q s t (spelled.escaped c f k is) (spelled.bracket items m e h is2) = absurd (omega (arith, head_of (sym f ∙ e)))
one_token from r q s t (spelled.escaped c f k is) (spelled.interval counts l g e d h is2) = absurd (omega (arith, head_of (sym f ∙ e)))
one_token from r q s t (spelled.bracket items m f k is) (spelled.byte b e h) = absurd (no_bracket_byte _ items t (at_byte _ from b 91 q items t e f h))
one_token from r q s t (spelled.bracket items m e h is2) (spelled.escaped c f k is) = absurd (omega (arith, head_of (sym f ∙ e)))
one_token {case} from r q s t (spelled.bracket items m e h is) (spelled.bracket others n f k is2) =
    let found = one_bracket items r q m n h (subst (λ v. SpellsBracket case v q n) (tail_of (sym f ∙ e)) k) in
    (found.0, is ∙ ap set found.1 ∙ sym is2)
one_token from r q s t (spelled.bracket items m e h is2) (spelled.interval counts l g f d k is) = absurd (omega (arith, head_of (sym f ∙ e)))
one_token from r q s t (spelled.interval counts l g f d k is) (spelled.byte b e h) = absurd (no_brace_byte _ counts t d (at_byte _ from b 123 q counts t e f h))
one_token from r q s t (spelled.interval counts l g e d h is2) (spelled.escaped c f k is) = absurd (omega (arith, head_of (sym f ∙ e)))
one_token from r q s t (spelled.interval counts l g f d k is) (spelled.bracket items m e h is2) = absurd (omega (arith, head_of (sym f ∙ e)))
one_token from r q s t (spelled.interval counts l g e d h is) (spelled.interval others m k f c j is2) =
    let found = one_interval counts r q l m g k h (subst (λ v. SpellsInterval v q m k) (tail_of (sym f ∙ e)) j) in
    (found.0, is ∙ ap (λ v. times v g) found.1 ∙ ap (times m) found.2 ∙ sym is2)

pub no_token : {case : Case} → (r : List ℕ) (t : Token) → SpellsToken case [] r t → ⊥
no_token r t (spelled.byte b e h) = absurd (cc)
no_token r t (spelled.escaped b e h is) = absurd (cc)
no_token r t (spelled.bracket items m e h is) = absurd (cc)
no_token r t (spelled.interval counts l g e d h is) = absurd (cc)

-- A text is made of tokens in one way at most.
pub one_tokens : {case : Case} → (from : List ℕ) (ts us : List Token) → Tokens case from ts → Tokens case from us → ts ≡ us
one_tokens from [] [] a b = refl
one_tokens {case} from [] (u ∷ us) a b = absurd (some_of from u us a b)
  where
    some_of : (from : List ℕ) (u : Token) (us : List Token) → Tokens case from [] → Tokens case from (u ∷ us) → ⊥
    some_of from u us tokens.none (tokens.more {rest = r} s b) = no_token r u s
one_tokens {case} from (t ∷ ts) [] a b = absurd (none_of from t ts a b)
  where
    none_of : (from : List ℕ) (u : Token) (us : List Token) → Tokens case from (u ∷ us) → Tokens case from [] → ⊥
    none_of from u us (tokens.more {rest = r} s b) tokens.none = no_token r u s
one_tokens {case} from (t ∷ ts) (u ∷ us) (tokens.more {rest = r} s a) (tokens.more {rest = q} v b) =
    let first = one_token from r q t u s v in
    let others = one_tokens r ts us a (subst (λ w. Tokens case w us) (sym first.0) b) in
    let same = first.1 in
    cc
