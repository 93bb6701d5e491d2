use Rattle.std.proofs.Common.{◌≡◌, ◌∙◌, ◌<◌, ℕ, List, [], ◌∷◌, length, refl, arith, rules, tests}
use Rattle.std.specs.List.{list_all}
use Rattle.std.proofs.lemmas.Bool.Decides.{nat_tests}
use Rattle.std.proofs.lemmas.Iterator.{YieldsList-from_slice}
use Rattle.std.proofs.lemmas.Iterator.Search.{all_from_yields_List}
use Rattle.ere.specs.Classes.{is_digit}
use Rattle.script.specs.Items.{is_number}
use Rattle.script.proofs.cuts.is_number.Goals as goal

number_of_digits : (text : List ℕ) → 0 < length text → list_all is_digit text ≡ is_number text
number_of_digits [] some = absurd (omega arith)
number_of_digits (b ∷ digits) some = refl

pub returns-then-not-is_empty : goal.returns-then-not-is_empty
returns-then-not-is_empty c =
    let text = c.args.text.now in
    let some : 0 < length text = grind (arith, nat_tests, c.is_empty.ensures, c.if-not-is_empty.true) in
    let all : c.all.result ≡ list_all is_digit text =
    all_from_yields_List is_digit _ _ _ c.all.ensures.ran (YieldsList-from_slice text cc) (λ x b q k. search (rules, tests)) in
    all ∙ number_of_digits text some
