use Rattle.std.proofs.Common.{◌≡◌, ℕ, ◌+◌, ◌<◌, ◌&&◌, ◌||◌}
use Rattle.ere.specs.Bits.{has_bit}
use Rattle.matcher.specs.Private.Moving.{passes}
use Rattle.matcher.proofs.words.followed_each.Given as goal

-- The bits found so far, and those of the rest that pass, are all bits of the word that pass.
abbrev pub invariant-loop-rest : goal.invariant-loop-rest
invariant-loop-rest l =
    (b : ℕ) → b < 64
    → (has_bit l.found b || (has_bit l.rest b && passes l.members l.line (l.base + b)))
    ≡ (has_bit l.word b && passes l.members l.line (l.base + b))

abbrev pub decreases-loop-rest : goal.decreases-loop-rest
decreases-loop-rest l = l.rest
