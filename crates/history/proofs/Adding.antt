-- The exchange that adds an entry keeps the rule of a history.
use Rattle.std.proofs.Common.{◌≡◌, ℕ, ◌+◌, ◌<◌, ◌==◌, Bool, true, false, List, [], ◌∷◌, ◌++◌, length, Option, refl, ap, sym, subst, arith, inl, length-append}
use Rattle.std.proofs.lemmas.List.{append-nil}
use Rattle.std.proofs.lemmas.Bool.Decides.{nat_tests}
use mathlib.Core.List.{IsPrefix}
use prog.Atomic.{either}
use Rattle.logbook.specs.Pages.{Cell, cell, keeps, no_nib, step, Moves, Goes}
use Rattle.history.specs.Private.Counting.{IsCounted, Adds}
use Rattle.history.proofs.Beginnings.{prefix_whole}

abbrev shown : {E : Type 0} → List E → List E
shown log = []

abbrev moved : {E : Type 0} → List E → List E → ℕ → Type 0
moved xs ys n = Unit {0}

abbrev AddGoes : {E : Type 0} (v : List E) (ask : E) (s : Option ℕ) (old new : ℕ) → List Cell → List E → Type 0
AddGoes v ask s old new cells log =
    Goes IsCounted shown moved 0 (v, (no_nib, s)) (λ n. either (n == old) new n) (Adds (step 0 old new ask) (v, (no_nib, s))) cells log

adds_goes : {E : Type 0} (v log : List E) (ask : E) (s : Option ℕ) (old new : ℕ) → length v ≡ old → new ≡ old + 1 → IsPrefix v log
    → (b : Bool) → (length log == old) ≡ b
    → AddGoes v ask s old new ((length log, true) ∷ (0, true) ∷ []) log
adds_goes v log ask s old new len next pre true is =
    let here : length log ≡ old = grind (arith, nat_tests) in
    let same : v ≡ log = prefix_whole v log pre (omega arith) in
    let n : either (length log == old) new (length log) ≡ length (log ++ ask ∷ []) = rw is (omega (arith, length-append log (ask ∷ []))) in (
      keeps,
      ask ∷ [],
      s,
      tt,
      record { words = ap (λ (k : ℕ). (k, true) ∷ (0, true) ∷ []) n },
      inl (refl, refl),
      rw is (ap (λ w. w ++ ask ∷ []) (sym same)),
    )
adds_goes v log ask s old new len next pre false is =
    let all : log ++ [] ≡ log = append-nil log in
    let n : either (length log == old) new (length log) ≡ length (log ++ []) = rw is (ap length (sym all)) in (
      keeps,
      [],
      s,
      tt,
      record { words = ap (λ (k : ℕ). (k, true) ∷ (0, true) ∷ []) n },
      inl (refl, refl),
      rw is tt,
    )

pub adds_moves : {E : Type 0} (v : List E) (ask : E) (s : Option ℕ) (old new : ℕ) → length v ≡ old → new ≡ old + 1
    → Moves IsCounted shown moved 0 (v, (no_nib, s)) (λ n. either (n == old) new n) (Adds (step 0 old new ask) (v, (no_nib, s)))
adds_moves v ask s old new len next cs log kept pre away =
    let P : List Cell → Type 0 = λ c. (0 < length c) × ((cell c 0).1 ≡ true) × AddGoes v ask s old new c log in
    subst P (sym kept.words) (omega arith, refl, adds_goes v log ask s old new len next pre (length log == old) refl)
