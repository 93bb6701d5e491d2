use Rattle.std.proofs.Common.{rules, ◌≡◌, ℕ, ◌<◌, ◌&&◌, ◌==◌, not, ap, ◌∙◌}
use Rattle.ere.specs.ByteSet.{has, complement}
use Rattle.ere.specs.Private.SetWords.{has_byte, values_of}
use Rattle.ere.proofs.SetWords.{but_is, values_all, are_line_bytes}
use Rattle.ere.proofs.byte_set.ByteSet.complement.Goals as goal

pub invariant_of-result : goal.invariant_of-result
invariant_of-result c =
    let each : (b : ℕ) → b < 256
    → has_byte c.without-words.result b ≡ ((not (has_byte c.self.inside.words b) && not (b == 0)) && not (b == 10)) =
    λ b below.
    c.without-words.ensures.each b
    ∙ ap (λ t. t && not (b == 10))
    (c.without-above.ensures.each b ∙ ap (λ t. t && not (b == 0)) (c.all_but-others.ensures.each b below)) in
    are_line_bytes c.without-words.result (λ b. not (has (values_of c.self.inside.words) b)) c.without-words.ensures.whole (search rules)
    (but_is c.self.inside.words c.without-words.result c.self.invariant each)

pub returns : goal.returns
returns c =
    let each : (b : ℕ) → b < 256
    → has_byte c.without-words.result b ≡ ((not (has_byte c.self.inside.words b) && not (b == 0)) && not (b == 10)) =
    λ b below.
    c.without-words.ensures.each b
    ∙ ap (λ t. t && not (b == 10))
    (c.without-above.ensures.each b ∙ ap (λ t. t && not (b == 0)) (c.all_but-others.ensures.each b below)) in
    values_all c.without-words.result (λ b. not (has (values_of c.self.inside.words) b))
    (but_is c.self.inside.words c.without-words.result c.self.invariant each) ∙ ap complement c.self.view_is
