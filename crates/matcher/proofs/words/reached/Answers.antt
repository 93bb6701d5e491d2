use Rattle.std.proofs.Common.{◌∙◌, ◌+◌, sym, arith}
use Rattle.ere.specs.Bits.{has_bit}
use Rattle.matcher.specs.Private.Moving.{passes}
use Rattle.ere.proofs.Bits.{has_zero}
use Rattle.matcher.proofs.Shifting.{flood_from, flood_none}
use Rattle.matcher.proofs.words.reached.Goals as goal

pub returns-then-word-eq0 : goal.returns-then-word-eq0
returns-then-word-eq0 c =
    λ b inside.
    has_zero b
    ∙ sym
    (rw c.if-word-eq0.true
    (flood_none (has_bit 0) (λ n. passes c.args.members.now c.args.line.now (c.args.base + n)) has_zero b))

pub returns : goal.returns
returns c =
    λ b inside.
    c.flooded.ensures b inside
    ∙ flood_from (has_bit c.args.word) (λ n. passes c.args.members.now c.args.line.now (c.args.base + n)) (has_bit c.passing.result)
    0 (λ n low. absurd (omega arith)) (λ n from within. c.passing.ensures n within) b inside
