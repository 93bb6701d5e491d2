-- Which numbers a list has after each change.
use Rattle.std.specs.Prelude.{◌≡◌, ℕ, Bool, true, false, ◌&&◌, ◌||◌, ◌==◌, List, [], ◌∷◌, ◌++◌, filter, Contains}
use Rattle.std.proofs.Common.{refl, sym, ap, ◌∙◌, arith}
use Rattle.std.proofs.lemmas.Bool.Decides.{nat_tests}
use Rattle.std.proofs.lemmas.List.Folds.{list_any-append, Any-from_list_any}
use Rattle.std.proofs.Math.Bool.{or-false, and-false}
use Rattle.segments.specs.Contents.{has}

pub has-append : (xs ys : List ℕ) (n : ℕ) → has (xs ++ ys) n ≡ (has xs n || has ys n)
has-append xs ys n = list_any-append (λ m. m == n) xs ys

-- after a push
pub has-push : (xs : List ℕ) (m n : ℕ) → has (xs ++ m ∷ []) n ≡ (has xs n || m == n)
has-push xs m n = has-append xs (m ∷ []) n ∙ ap (λ b. has xs n || b) (or-false (m == n))

pub has-filter : (p : ℕ → Bool) (xs : List ℕ) (n : ℕ) → has (filter p xs) n ≡ (has xs n && p n)
has-filter p [] n = refl
has-filter p (x ∷ xs) n = cases (p x) (x == n) refl refl (has-filter p xs n)
  where
    cases : (keeps same : Bool) → p x ≡ keeps → (x == n) ≡ same → has (filter p xs) n ≡ (has xs n && p n) → has (filter p (x ∷ xs)) n ≡ (has (x ∷ xs) n && p n)
    cases true true e f later = let is : x ≡ n = grind (arith, nat_tests) in rw e (rw f (sym (rw is at e)))
    cases true false e f later = rw e (rw f later)
    cases false true e f later =
        let is : x ≡ n = grind (arith, nat_tests) in
        let fails : p n ≡ false = rw is at e in
        rw e (rw f (later ∙ ap (λ b. has xs n && b) fails ∙ and-false (has xs n) ∙ sym fails))
    cases false false e f later = rw e (rw f later)

pub contains-has : (xs : List ℕ) (n : ℕ) → has xs n ≡ true → Contains xs n
contains-has xs n there =
    let found = Any-from_list_any (λ m. m == n) xs there in
    let is : found.1 ≡ n = grind (arith, nat_tests, found.4) in
    (found.0, found.2, rw is at found.3)
