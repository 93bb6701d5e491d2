use Rattle.std.proofs.Common.{◌≡◌, List, ℕ, Option, take, subst}
use Rattle.std.specs.Prelude.{IfSome}
use Rattle.program.proofs.laws.reads_are_one.Goals as goal

pub returns-clause-read : goal.returns-clause-read
returns-clause-read g c = λ path all most bytes only is.
    subst (λ (found : Option (List ℕ)). IfSome found (λ all. bytes ≡ take most all)) (only is.all is.opened) is.read

pub returns-clause-load : goal.returns-clause-load
returns-clause-load g c = λ most path bytes none is. none is.regular
