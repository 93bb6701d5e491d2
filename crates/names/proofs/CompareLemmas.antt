-- Names that are given in two parts.
use Rattle.std.proofs.Common.{◌≡◌, ℕ, zero, suc, ◌+◌, ◌-◌, ◌<◌, ◌≤◌, ◌==◌, ◌&&◌, Bool, true, false, List, [], ◌∷◌, ◌++◌, length, take, drop, get_or, refl, sym, ◌∙◌, ap, arith}
use Rattle.std.specs.Prelude.{bytes_eq, min}
use Rattle.std.specs.Ordering.{nat_cmp, ordering_then, is_eq}
use Rattle.std.specs.Cmp.Lexicographic.{slice_cmp, bytes_decides}
use Rattle.std.specs.declared.cmp.Ordering.{Ordering}
use Rattle.std.specs.declared.cmp.Ordering.TheVariants.{Less, Equal, Greater}
use Rattle.std.proofs.lemmas.List.{take_min, drop_min, take-append-le, take_rest, take_more, map_push, append-nil, take-append-drop}
use Rattle.std.proofs.lemmas.Bool.{false≢true}
use Rattle.names.specs.Private.Entries.{with_prefix}
use Rattle.std.proofs.lemmas.Cmp.{nat_eq_equiv}
use Rattle.prefixes.specs.Under.{begins_with}

then_then : (a b c : Ordering) → ordering_then a (ordering_then b c) ≡ ordering_then (ordering_then a b) c
then_then Less b c = refl
then_then Equal b c = refl
then_then Greater b c = refl

pub compare_parts : (p s t : List ℕ) → slice_cmp nat_cmp (p ++ s) t ≡ ordering_then (slice_cmp nat_cmp p (take (length p) t)) (slice_cmp nat_cmp s (drop (length p) t))
compare_parts [] s t = refl
compare_parts (x ∷ p) s [] = refl
compare_parts (x ∷ p) s (y ∷ t) =
    ap (ordering_then (nat_cmp x y)) (compare_parts p s t)
    ∙ then_then (nat_cmp x y) (slice_cmp nat_cmp p (take (length p) t)) (slice_cmp nat_cmp s (drop (length p) t))

pub begins_short : (text p s : List ℕ) → length text ≤ length p → begins_with text (p ++ s) ≡ begins_with text p
begins_short text p s short = ap (bytes_eq text) (take-append-le (length text) p s short)

and_and : (a b c : Bool) → (a && (b && c)) ≡ ((a && b) && c)
and_and true b c = refl
and_and false b c = refl

pub begins_long : (text p s : List ℕ) → length p ≤ length text → begins_with text (p ++ s) ≡ (begins_with p text && begins_with (drop (length p) text) s)
begins_long text [] s long = refl
begins_long [] (x ∷ p) s long = absurd (omega arith)
begins_long (t ∷ text) (x ∷ p) s long =
    let turn : (t == x) ≡ (x == t) = nat_eq_equiv.symm t x in
    ap (λ u. u && begins_with text (p ++ s)) turn
    ∙ (ap (λ rest. (x == t) && rest) (begins_long text p s (omega arith))
    ∙ and_and (x == t) (bytes_eq p (take (length p) text)) (begins_with (drop (length p) text) s))

pub compared_equal : (p s t : List ℕ) (same : ℕ) (first second : Ordering) → same ≡ min (length p) (length t) → first ≡ slice_cmp nat_cmp p (take same t) → first ≡ Equal
    → second ≡ slice_cmp nat_cmp s (drop same t) → second ≡ slice_cmp nat_cmp (p ++ s) t
compared_equal p s t same first second is one equal two =
    two ∙ (ap (slice_cmp nat_cmp s) (ap (λ n. drop n t) is ∙ drop_min (length p) t)
    ∙ sym (compare_parts p s t ∙ ap (λ o. ordering_then o (slice_cmp nat_cmp s (drop (length p) t)))
    (sym (ap (slice_cmp nat_cmp p) (ap (λ n. take n t) is ∙ take_min (length p) t)) ∙ (sym one ∙ equal))))

then_other : (o later : Ordering) → (o ≡ Equal → ⊥) → o ≡ ordering_then o later
then_other Less later apart = refl
then_other Equal later apart = absurd (apart refl)
then_other Greater later apart = refl

pub compared_other : (p s t : List ℕ) (same : ℕ) (first : Ordering) → same ≡ min (length p) (length t) → first ≡ slice_cmp nat_cmp p (take same t) → (first ≡ Equal → ⊥)
    → first ≡ slice_cmp nat_cmp (p ++ s) t
compared_other p s t same first is one apart =
    then_other first (slice_cmp nat_cmp s (drop (length p) t)) apart
    ∙ (ap (λ o. ordering_then o (slice_cmp nat_cmp s (drop (length p) t))) (one ∙ ap (slice_cmp nat_cmp p) (ap (λ n. take n t) is ∙ take_min (length p) t))
    ∙ sym (compare_parts p s t))

pub drop_parts : (count : ℕ) (p s : List ℕ) → drop count (p ++ s) ≡ drop count p ++ drop (count - length p) s
drop_parts zero [] s = refl
drop_parts zero (x ∷ p) s = ap (λ n. x ∷ (p ++ drop n s)) nothing
  where
    nothing : 0 ≡ 0 - suc (length p)
    nothing = omega arith
drop_parts (suc count) [] s = ap (λ n. drop n s) all
  where
    all : suc count ≡ suc count - 0
    all = omega arith
drop_parts (suc count) (x ∷ p) s = drop_parts count p s ∙ ap (λ n. drop count p ++ drop n s) (same count (length p))
  where
    same : (a b : ℕ) → a - b ≡ suc a - suc b
    same a b = omega arith

pub begin_long : (text p s needle : List ℕ) (r : Bool) → length p < length text → begins_with p text ≡ true
    → needle ≡ take (length text - length p) (drop (length p) text) → r ≡ begins_with needle s → r ≡ begins_with text (p ++ s)
begin_long text p s needle r long begun needle_is is =
    is
    ∙ (ap (λ n. begins_with n s) (needle_is ∙ take_rest text (length p))
    ∙ sym (begins_long text p s (omega arith) ∙ ap (λ t. t && begins_with (drop (length p) text) s) begun))

pub begin_other : (text p s : List ℕ) (r : Bool) → length p < length text → r ≡ begins_with p text → r ≡ false → r ≡ begins_with text (p ++ s)
begin_other text p s r long is none =
    none ∙ sym (begins_long text p s (omega arith) ∙ ap (λ t. t && begins_with (drop (length p) text) s) (sym is ∙ none))

pub begun_by : (prefix name : List ℕ) → begins_with prefix name ≡ true → prefix ++ drop (length prefix) name ≡ name
begun_by prefix name e =
    ap (λ p. p ++ drop (length prefix) name) ((bytes_decides prefix (take (length prefix) name)).0 e) ∙ take-append-drop (length prefix) name

pub without_step : (prefix : List ℕ) (suffixes names new : List (List ℕ)) (at : ℕ) (name piece : List ℕ) → with_prefix prefix suffixes ≡ take at names
    → at < length names → name ≡ get_or names at [] → begins_with prefix name ≡ true → piece ≡ take (length name - length prefix) (drop (length prefix) name)
    → new ≡ suffixes ++ (piece ++ ([] ++ [])) ∷ [] → with_prefix prefix new ≡ take (at + 1) names
without_step prefix suffixes names new at name piece before inside name_is begun piece_is new_is =
    let last : piece ++ ([] ++ []) ≡ drop (length prefix) name = append-nil piece ∙ (piece_is ∙ take_rest name (length prefix)) in
    ap (with_prefix prefix) new_is
    ∙ (map_push (λ n. prefix ++ n) suffixes (piece ++ ([] ++ []))
    ∙ (ap (λ n. with_prefix prefix suffixes ++ (prefix ++ n) ∷ []) last
    ∙ (ap (λ n. with_prefix prefix suffixes ++ n ∷ []) (begun_by prefix name begun ∙ name_is)
    ∙ (ap (λ ns. ns ++ get_or names at [] ∷ []) before ∙ sym (take_more names at [] inside)))))

pub is_equal : (o : Ordering) → is_eq o ≡ true → o ≡ Equal
is_equal Less e = absurd (false≢true e)
is_equal Equal e = refl
is_equal Greater e = absurd (false≢true e)
