-- Tests of lines and names.
use Rattle.std.proofs.Common.{◌≡◌, ℕ, ◌+◌, ◌<◌, Bool, true, false, not, List, [], ◌∷◌, length, get_or, Some, refl, sym, ap, subst}
use Rattle.std.specs.Prelude.{◌↔◌, IsTrue, All}
use Rattle.std.proofs.lemmas.List.Elements.{All-nil, All-push, All-pop}
use Rattle.ere.specs.Language.{ContainsMatch}
use Rattle.documents.specs.declared.document.SharedDocument.{SharedDocument}
use Rattle.prepare.specs.Pattern.{Pattern, Test, Passes, with_match}
use Rattle.search.specs.Selects.{Selects, done, keep, skip, IsAdmitted, IsNamed, IsNamedForAll}
use Rattle.search.specs.Private.Ways.{IsBegun}
use Rattle.prepare.specs.declared.asked.Test.{Test as PreparedTest}
use Rattle.prepare.specs.Tests.{test_of}
use Rattle.prepare.proofs.TestLemmas.{first_tests, next_tests}

pub passes_found : (test : Test) (found : Bool) (text : List ℕ) → test.inverted ≡ false → IsTrue found ↔ ContainsMatch test.tree text
    → IsTrue found ↔ Passes test text
passes_found test found text is same = subst (λ i. IsTrue found ↔ Passes (record { tree = test.tree; inverted = i }) text) (sym is) same

pub passes_not_found : (test : Test) (found : Bool) (text : List ℕ) → test.inverted ≡ true → IsTrue found ↔ ContainsMatch test.tree text
    → IsTrue (not found) ↔ Passes test text
passes_not_found test found text is same =
    subst (λ i. IsTrue (not found) ↔ Passes (record { tree = test.tree; inverted = i }) text) (sym is) (turned found same)
  where
    turned : (found : Bool) → IsTrue found ↔ ContainsMatch test.tree text → IsTrue (not found) ↔ (ContainsMatch test.tree text → ⊥)
    turned true same = (λ h. absurd (cc), λ none. absurd (none (same.0 refl)))
    turned false same = (λ h. λ match. absurd (cc (same.1 match)), λ none. refl)

pub is_with_match : (test : Test) → test.inverted ≡ false → with_match test.tree ≡ test
is_with_match test is = ap (λ i. record { tree = test.tree; inverted = i }) (sym is)

-- the bytes of a name are the name
pub passed_by_name : (test : Test) (name bytes : List ℕ) (passed : Bool) → bytes ≡ name → IsTrue passed ↔ Passes test bytes → IsTrue passed ↔ Passes test name
passed_by_name test name bytes passed same is = subst (λ text. IsTrue passed ↔ Passes test text) same is

-- ---- names that pass tests

-- what is kept of what is kept
pub Selects-both : {X : Type 0} {P Q : X → Type 0} {all middle kept : List X} → Selects P all middle → Selects Q middle kept
    → Selects (λ x. P x × Q x) all kept
Selects-both done done = done
Selects-both (keep has s) (keep also t) = keep (has, also) (Selects-both s t)
Selects-both (keep has s) (skip none t) = skip (λ h. none h.1) (Selects-both s t)
Selects-both (skip none s) t = skip (λ h. none h.0) (Selects-both s t)

pub Selects-same : {X : Type 0} {P Q : X → Type 0} {all kept : List X} → ((x : X) → P x ↔ Q x) → Selects P all kept → Selects Q all kept
Selects-same same done = done
Selects-same same (keep {x} has s) = keep ((same x).0 has) (Selects-same same s)
Selects-same same (skip {x} none s) = skip (λ h. none ((same x).1 h)) (Selects-same same s)

-- one more test
pub named_by_more : (tests : List PreparedTest) (at : ℕ) (test : PreparedTest) (all middle kept : List SharedDocument) → at < length tests
    → test ≡ get_or tests at test → Selects (IsNamedForAll (first_tests tests at)) all middle → Selects (IsNamed (test_of test)) middle kept
    → Selects (IsNamedForAll (first_tests tests (at + 1))) all kept
named_by_more tests at test all middle kept low is before named =
    let next = next_tests tests at test low is in
    Selects-same
    (λ document. (
      λ h. subst (λ ts. All (λ t. IsNamed t document) ts) (sym next) (All-push (λ t. IsNamed t document) (first_tests tests at) (test_of test) h.0 h.1),
      λ h. All-pop (λ t. IsNamed t document) (first_tests tests (at + 1)) (first_tests tests at) (Some (test_of test)) next h,
    )) (Selects-both before named)

pub named_by_none : (tests : List PreparedTest) (all : List SharedDocument) → Selects (IsNamedForAll (first_tests tests 0)) all all
named_by_none tests all = every all
  where
    every : (all : List SharedDocument) → Selects (IsNamedForAll (first_tests tests 0)) all all
    every [] = done
    every (document ∷ all) = keep (All-nil (λ t. IsNamed t document)) (every all)

-- what is kept of the documents for what their names begin with, and then for the tests
pub admitted_by_both : (pattern : Pattern) (all middle kept : List SharedDocument) → Selects (IsBegun pattern) all middle
    → Selects (IsNamedForAll pattern.names) middle kept → Selects (IsAdmitted pattern) all kept
admitted_by_both pattern all middle kept begun named =
    Selects-same (λ document. (λ h. record { passes = h.1; within = h.0 }, λ h. (h.within, h.passes))) (Selects-both begun named)

pub begun_by_none : (pattern : Pattern) → ((name : List ℕ) → pattern.within name ≡ true) → (all : List SharedDocument) → Selects (IsBegun pattern) all all
begun_by_none pattern every [] = done
begun_by_none pattern every (document ∷ all) = keep (every document.name) (begun_by_none pattern every all)
