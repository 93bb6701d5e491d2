use Rattle.std.proofs.Common.{◌≡◌, Bool, true, false, not, inl, inr, refl, sym, ◌∙◌}
use Rattle.std.proofs.lemmas.Bool.{false≢true}
use Rattle.search.proofs.side_by_side.fits.Goals as goal

negated : (a b : Bool) → a ≡ not b → a ≡ true → b ≡ false
negated a true e t = absurd (false≢true (sym e ∙ t))
negated a false e t = refl

pub returns-then-before-eq0 : goal.returns-then-before-eq0
returns-then-before-eq0 c = λ _. inl c.if-before-eq0.true

pub returns-then-back : goal.returns-then-back
returns-then-back c = λ t. absurd (false≢true t)

pub returns : goal.returns
returns c = λ t. inr (c.if-back.false, sym c.is_over.ensures ∙ negated _ _ refl t)
