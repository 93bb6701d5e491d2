use Rattle.std.proofs.Common.{◌≡◌, ℕ, Bool, ◌&&◌, nat_lt}
use Rattle.ere.specs.ByteSet.{set_of}
use Rattle.ere.proofs.byte_set.ByteSet.of.Given as goal

abbrev pub invariant-loop-i : goal.invariant-loop-i
invariant-loop-i g l = (passes : ℕ → Bool) → ((b : ℕ) (r : Bool) → g.F.Fn.post l.test (b, tt) r → r ≡ passes b) → l.set ≡ set_of (λ b. nat_lt b l.i && passes b)
