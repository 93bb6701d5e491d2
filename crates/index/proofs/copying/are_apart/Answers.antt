use Rattle.std.proofs.Common.{◌≡◌, true, false, not, Bool, refl, sym, ◌∙◌}
use Rattle.std.proofs.lemmas.Bool.{false≢true}
use Rattle.index.proofs.ApartLemmas.{apart}
use Rattle.index.proofs.copying.are_apart.Goals as goal

not_true : (t : Bool) → not t ≡ true → t ≡ false
not_true true e = absurd (false≢true e)
not_true false e = refl

pub returns-then-not-begins : goal.returns-then-not-begins
returns-then-not-begins c = λ yes.
    apart c.args.from.now c.args.to.now (sym c.if-not-begins.ensures)
    (sym c.begins-then-not-begins.ensures ∙ not_true c.begins-then-not-begins.result yes)
