use Rattle.std.proofs.Common.{◌≡◌, false, take, drop}
use Rattle.std.specs.List.{list_any}
use Rattle.names.specs.Contents.{is_long_copy}
use Rattle.names.proofs.chunk.Chunk.has_long_copy.Given as goal

abbrev pub invariant-loop-place : goal.invariant-loop-place
invariant-loop-place l = list_any (λ e. is_long_copy l.most l.from l.to e.0) (drop l.at (take l.place l.self)) ≡ false
