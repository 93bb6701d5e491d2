-- The first tests of some.
use Rattle.std.proofs.Common.{◌≡◌, ℕ, suc, ◌+◌, ◌<◌, List, [], ◌∷◌, ◌++◌, map, length, take, get_or, sym, ◌∙◌, ap, arith}
use Rattle.std.proofs.Math.Seq.{take-suc}
use Rattle.std.proofs.lemmas.List.{map-append}
use Rattle.prepare.specs.Pattern.{Test}
use Rattle.prepare.specs.declared.asked.Test.{Test as PreparedTest}
use Rattle.prepare.specs.Tests.{test_of}

abbrev pub first_tests : List PreparedTest → ℕ → List Test
first_tests tests count = map test_of (take count tests)

pub next_tests : (tests : List PreparedTest) (at : ℕ) (test : PreparedTest) → at < length tests → test ≡ get_or tests at test
    → first_tests tests (at + 1) ≡ first_tests tests at ++ test_of test ∷ []
next_tests tests at test low is =
    let next : at + 1 ≡ suc at = omega arith in
    ap (λ n. map test_of (take n tests)) next
    ∙ (ap (map test_of) (take-suc tests at test low)
    ∙ (map-append test_of (take at tests) (get_or tests at test ∷ []) ∙ ap (λ t. first_tests tests at ++ test_of t ∷ []) (sym is)))
