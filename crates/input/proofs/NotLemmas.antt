-- What the result of a test with a `!` means.
use Rattle.std.proofs.Common.{◌≡◌, Bool, true, false, not, refl, sym, true≢false}

pub if_not : (b : Bool) → not b ≡ true → b ≡ false
if_not true e = absurd (true≢false (sym e))
if_not false e = refl

pub unless_not : (b : Bool) → not b ≡ false → b ≡ true
unless_not true e = refl
unless_not false e = absurd (true≢false e)
