use Rattle.std.proofs.Common.{◌≡◌, ℕ, ◌++◌, [], ◌∷◌, List, None, ap, subst, ◌∙◌, arith}
use Rattle.std.specs.Prelude.{Option, replicate}
use Rattle.std.proofs.lemmas.List.{replicate_more}
use Rattle.versions.proofs.fresh.no_places.Goals as goal

pub loop-number-preserved : goal.loop-number-preserved
loop-number-preserved c =
    c.in_ok-push.ensures.items
    ∙ (ap (λ (ps : List (Option ℕ)). ps ++ None ∷ []) c.loop-number.invariant ∙ replicate_more c.loop-number._number None)

pub returns : goal.returns
returns c =
    let end = c.loop-number.auto._number-end in
    let past = c.loop-number-test.false in
    let same : c.loop-number._number ≡ c.args.count = omega (arith, end, past) in
    subst (λ (n : ℕ). c.loop-number.places.items ≡ replicate n None) same c.loop-number.invariant
