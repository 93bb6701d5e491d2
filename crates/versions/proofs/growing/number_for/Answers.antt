use Rattle.std.proofs.Common.{subst}
use Rattle.std.specs.Prelude.{IfSome}
use Rattle.versions.specs.Private.Growing.{IsPlaced}
use Rattle.versions.specs.Private.Growing.IsNumberFor.{known}
use Rattle.versions.proofs.growing.number_for.Goals as goal

pub returns-in-Some-placed : goal.returns-in-Some-placed
returns-in-Some-placed c =
    known
    (subst (IsPlaced c.args.names.now c.args.puts.now c.in-Some-placed.number) (c.is_same.ensures c.if-is_same.true)
    (subst (λ r. IfSome r (λ found. IsPlaced c.args.names.now c.args.puts.now found.0 found.1.now)) c.in-Some-placed.is c.placed.ensures))
