-- Known texts are words: each operation, over arbitrary sets of words.
use Rattle.std.proofs.Common.{◌≡◌, ℕ, zero, suc, ◌+◌, ◌-◌, ◌<◌, ◌≤◌, Bool, true, false, cond, ◌==◌, List, [], ◌++◌, refl, sym, ap, subst}
use Rattle.std.proofs.Common.{◌∙◌, arith, inl, inr, ⊎_elim, Some, None}
use Rattle.std.proofs.lemmas.Bool.Decides.{nat_tests}
use Rattle.std.proofs.lemmas.List.{append_assoc, append-nil}
use Rattle.ere.proofs.Words.{WordSet, IsPower}
use Rattle.trigram.specs.Texts.{Texts, union, joins}
use Rattle.trigram.specs.Analysis.{Analysis, known, loose, just_empty, settle_known, are_kept, loosen, either, both, copies_of, optional, repeated}
use Rattle.trigram.proofs.MemberLemmas.{IsIn, IsIn-union_cases, IsIn-from_joins}
use Rattle.trigram.proofs.CoverLemmas.{Concat, Either, Repeated, AtMost}

-- Each text of a known set is a word.
abbrev pub IsExact : Analysis → WordSet → Type 0
IsExact (known texts) words = (word : List ℕ) → IsIn word texts → words word
IsExact (loose nullable prefixes suffixes condition) words = Unit {0}

pub exact_wider : (a : Analysis) (words wider : WordSet) → ((w : List ℕ) → words w → wider w) → IsExact a words → IsExact a wider
exact_wider (known texts) words wider f h = λ w i. f w (h w i)
exact_wider (loose n p s c) words wider f h = tt

pub exact_loosen : (a : Analysis) (words : WordSet) → IsExact (loosen a) words
exact_loosen (known texts) words = tt
exact_loosen (loose n p s c) words = tt

exact_settle_known : (texts : Texts) (words : WordSet) → ((w : List ℕ) → IsIn w texts → words w) → IsExact (settle_known texts) words
exact_settle_known texts words h = go (are_kept texts)
  where
    go : (b : Bool) → IsExact (cond b (known texts) (loosen (known texts))) words
    go true = h
    go false = tt

pub exact_either : (a b : Analysis) (words others : WordSet) → IsExact a words → IsExact b others → IsExact (either a b) (Either words others)
exact_either (known x) (known y) words others h k =
    exact_settle_known (union x y) (Either words others) (λ w i. ⊎_elim (λ j. inl (h w j)) (λ j. inr (k w j)) (IsIn-union_cases x y w i))
exact_either (known x) (loose m q t d) words others h k = tt
exact_either (loose n p s c) (known y) words others h k = tt
exact_either (loose n p s c) (loose m q t d) words others h k = tt

pub exact_both : (a b : Analysis) (words others : WordSet) → IsExact a words → IsExact b others → IsExact (both a b) (Concat words others)
exact_both (known x) (known y) words others h k =
    exact_settle_known (joins x y) (Concat words others) (λ w i. let r = IsIn-from_joins x y w i in (r.0, r.1, r.2, h r.0 r.3, k r.1 r.4))
exact_both (known x) (loose m q t d) words others h k = tt
exact_both (loose n p s c) (known y) words others h k = tt
exact_both (loose n p s c) (loose m q t d) words others h k = tt

exact_both_loosen : (a b : Analysis) (words : WordSet) → IsExact (both a (loosen b)) words
exact_both_loosen (known x) (known y) words = tt
exact_both_loosen (known x) (loose m q t d) words = tt
exact_both_loosen (loose n p s c) (known y) words = tt
exact_both_loosen (loose n p s c) (loose m q t d) words = tt

pub one_power : (words : WordSet) (w : List ℕ) → words w → IsPower words 1 w
unfolding IsPower
one_power words w h = ([], w, refl, refl, h)

pub exact_copies : (a : Analysis) (words : WordSet) → IsExact a words → (n : ℕ) → IsExact (copies_of a n) (IsPower words (suc n))
unfolding copies_of IsPower
exact_copies a words h zero = exact_wider a words (IsPower words (suc zero)) (one_power words) h
exact_copies a words h (suc n) = exact_both (copies_of a n) a (IsPower words (suc n)) words (exact_copies a words h n) h

no_power : (words : WordSet) (w : List ℕ) → w ≡ [] → IsPower words 0 w
unfolding IsPower
no_power words w e = e

exact_at_most_one : (a : Analysis) (words : WordSet) → IsExact a words → IsExact (optional a 1) (AtMost words 1)
exact_at_most_one (known x) words h =
    exact_settle_known (union x just_empty) (AtMost words 1) (λ w i.
    ⊎_elim (λ j. (1, omega arith, one_power words w (h w j)))
    (λ j. ⊎_elim (λ e. (0, omega arith, no_power words w (sym e))) (λ none. absurd none) j) (IsIn-union_cases x just_empty w i))
exact_at_most_one (loose n p s c) words h = tt

pub exact_optional : (a : Analysis) (words : WordSet) → IsExact a words → (most : ℕ) → IsExact (optional a most) (AtMost words most)
exact_optional a words h zero = λ w i. ⊎_elim (λ e. (0, omega arith, no_power words w (sym e))) (λ none. absurd none) i
exact_optional a words h (suc zero) = exact_at_most_one a words h
exact_optional a words h (suc (suc k)) = many
  where
    not_zero : (suc (suc k) == 0) ≡ false
    not_zero = grind (arith, nat_tests)

    not_one : (suc (suc k) == 1) ≡ false
    not_one = grind (arith, nat_tests)

    many : IsExact (optional a (suc (suc k))) (AtMost words (suc (suc k)))
    many = rw (not_zero, not_one) tt

pub exact_at_least : (a : Analysis) (words : WordSet) (least : ℕ) → IsExact (repeated a least None) (Repeated words least None)
exact_at_least a words zero = tt
exact_at_least a words (suc zero) = exact_loosen a (Repeated words 1 None)
exact_at_least a words (suc (suc k)) = many
  where
    not_zero : (suc (suc k) == 0) ≡ false
    not_zero = grind (arith, nat_tests)

    not_one : (suc (suc k) == 1) ≡ false
    not_one = grind (arith, nat_tests)

    many : IsExact (repeated a (suc (suc k)) None) (Repeated words (suc (suc k)) None)
    many = rw (not_zero, not_one) (exact_both_loosen (copies_of a (suc (suc k) - 2)) a (Repeated words (suc (suc k)) None))

power_join : (words : WordSet) (m k n : ℕ) (w : List ℕ) → n ≡ m + k → Concat (IsPower words m) (IsPower words k) w → IsPower words n w
unfolding IsPower
power_join words m zero n w e h =
    let same : m ≡ n = omega arith in
    subst (λ j. IsPower words j w) same (subst (λ t. IsPower words m t) (sym (h.2 ∙ ap (λ t. h.0 ++ t) h.4 ∙ append-nil h.0)) h.3)
power_join words m (suc k) n w e h =
    let same : suc (m + k) ≡ n = omega arith in
    let last = h.4 in
    subst (λ j. IsPower words j w) same (
      h.0 ++ last.0,
      last.1,
      h.2 ∙ ap (λ t. h.0 ++ t) last.2 ∙ sym (append_assoc h.0 last.0 last.1),
      power_join words m k (m + k) (h.0 ++ last.0) refl (h.0, last.0, refl, h.3, last.3),
      last.4,
    )

exact_exactly : (a : Analysis) (words : WordSet) → IsExact a words → (least most : ℕ) → 0 < least → least ≡ most
    → IsExact (copies_of a (least - 1)) (Repeated words least (Some most))
exact_exactly a words h least most some same =
    exact_wider (copies_of a (least - 1)) (IsPower words (suc (least - 1))) (Repeated words least (Some most))
    (λ w i. let is : suc (least - 1) ≡ least = omega (arith, some) in (least, omega arith, omega (arith, same), subst (λ j. IsPower words j w) is i))
    (exact_copies a words h (least - 1))

exact_range : (a : Analysis) (words : WordSet) → IsExact a words → (least most : ℕ) → 0 < least → least ≤ most
    → IsExact (both (copies_of a (least - 1)) (optional a (most - least))) (Repeated words least (Some most))
exact_range a words h least most some below =
    exact_wider (both (copies_of a (least - 1)) (optional a (most - least)))
    (Concat (IsPower words (suc (least - 1))) (AtMost words (most - least))) (Repeated words least (Some most))
    (λ w i.
    let last = i.4 in (
      least + last.0,
      omega arith,
      omega (arith, last.1, below),
      power_join words (suc (least - 1)) last.0 (least + last.0) w (omega (arith, some)) (i.0, i.1, i.2, i.3, last.2),
    ))
    (exact_both (copies_of a (least - 1)) (optional a (most - least)) (IsPower words (suc (least - 1))) (AtMost words (most - least))
    (exact_copies a words h (least - 1)) (exact_optional a words h (most - least)))

pub exact_between : (a : Analysis) (words : WordSet) → IsExact a words → (least most : ℕ) → least ≤ most
    → IsExact (repeated a least (Some most)) (Repeated words least (Some most))
exact_between a words h zero most below =
    exact_wider (optional a most) (AtMost words most) (Repeated words 0 (Some most)) (λ w i. (i.0, omega arith, i.1, i.2))
    (exact_optional a words h most)
exact_between a words h (suc k) most below = go (suc k == most) refl
  where
    not_zero : (suc k == 0) ≡ false
    not_zero = grind (arith, nat_tests)

    equal : (suc k == most) ≡ true → suc k ≡ most
    equal e = grind (arith, nat_tests)

    go : (b : Bool) → (suc k == most) ≡ b → IsExact (repeated a (suc k) (Some most)) (Repeated words (suc k) (Some most))
    go true e = rw (not_zero, e) (exact_exactly a words h (suc k) most (omega arith) (equal e))
    go false e = rw (not_zero, e) (exact_range a words h (suc k) most (omega arith) below)
