use Rattle.std.proofs.Common.{◌≡◌, ℕ, ◌||◌, get_or, false, take}
use Rattle.segments.specs.Contents.{has}
use Rattle.segments.proofs.within.mark.Given as goal

abbrev pub invariant-loop-place : goal.invariant-loop-place
invariant-loop-place l = (p : ℕ) → get_or l.marks p false ≡ (get_or l.initial.marks p false || has (take l.place-index l.places) p)
