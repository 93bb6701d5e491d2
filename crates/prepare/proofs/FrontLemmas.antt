-- Texts with which names begin.
use Rattle.std.proofs.Common.{◌≡◌, ℕ, ◌+◌, ◌<◌, ◌≤◌, List, map, length, get_or, take, sym, ◌∙◌, ap, subst, arith}
use Rattle.std.specs.Prelude.{All}
use Rattle.std.proofs.lemmas.List.{get_or-map, length-map, take_all}
use Rattle.std.proofs.lemmas.List.Elements.{All-get_or, All-push, All-weaker}
use Rattle.prepare.specs.Front.{IsFrontOf, front_by}
use Rattle.prepare.specs.Pattern.{Test, Passes}
use Rattle.prepare.specs.Tests.{test_of}
use Rattle.prepare.specs.declared.asked.Test.{Test as PreparedTest}
use Rattle.prepare.proofs.TestLemmas.{first_tests, next_tests}

-- what one of the tests shows of the names that pass it holds for all names that pass the tests
pub front-one : (tests : List PreparedTest) (at : ℕ) (test : PreparedTest) (text : List ℕ) → at < length tests → test ≡ get_or tests at test
    → ((name : List ℕ) → Passes (test_of test) name → take (length text) name ≡ text) → IsFrontOf (map test_of tests) text
front-one tests at test text low is begins name passes =
    let one : Passes (get_or (map test_of tests) at (test_of test)) name =
    All-get_or (λ t. Passes t name) (map test_of tests) at (test_of test) (omega (arith, length-map tests test_of)) passes in
    begins name (subst (λ t. Passes t name) (get_or-map test_of tests at test (test_of test) low ∙ ap test_of (sym is)) one)

-- Each of these tests shows no longer text by itself.
abbrev pub AreNoLonger : List Test → List ℕ → Type 0
AreNoLonger tests text = All (λ test. length (front_by test) ≤ length text) tests

pub one-more-longer : (tests : List PreparedTest) (at : ℕ) (test : PreparedTest) (old new : List ℕ) → at < length tests → test ≡ get_or tests at test
    → length old ≤ length new → length (front_by (test_of test)) ≤ length new → AreNoLonger (first_tests tests at) old
    → AreNoLonger (first_tests tests (at + 1)) new
one-more-longer tests at test old new low is longer this before =
    subst (λ ts. AreNoLonger ts new) (sym (next_tests tests at test low is))
    (All-push (λ t. length (front_by t) ≤ length new) (first_tests tests at) (test_of test)
    (All-weaker (λ t. length (front_by t) ≤ length old) (λ t. length (front_by t) ≤ length new) (λ t shorter. omega arith) (first_tests tests at) before) this)

pub all-longer : (tests : List PreparedTest) (at : ℕ) (text : List ℕ) → length tests ≤ at → AreNoLonger (first_tests tests at) text
    → AreNoLonger (map test_of tests) text
all-longer tests at text whole before = subst (λ ts. AreNoLonger (map test_of ts) text) (take_all at tests whole) before
