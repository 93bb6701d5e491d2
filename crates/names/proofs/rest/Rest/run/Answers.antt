use Rattle.std.proofs.Common.{◌≡◌, [], IfNone, IfSome, subst}
use Rattle.names.specs.declared.edge.Edge.TheVariants.{Before}
use Rattle.names.specs.Private.Entries.{passes, CutsAt, HasFirst}
use Rattle.names.proofs.OrderLemmas.{falls}
use Rattle.names.proofs.RestLemmas.{run_to_end, run_to_first}
use Rattle.names.proofs.rest.Rest.run.Goals as goal

pub place-requires : goal.place-requires
place-requires c = falls Before c.deref.result.now c.args.chunk.now c.requires.rise

pub returns-in-None : goal.returns-in-None
returns-in-None c =
    run_to_end c.args.chunk.now c.args.self.now c.args.at c.len-end.result c.requires.inside c.len-end.ensures.len
    (subst (λ found. IfNone found (c.args.self.now ≡ [])) c.in-None.is c.in_ok-first_name.ensures.none)

pub returns-in-Some : goal.returns-in-Some
returns-in-Some c =
    run_to_first c.args.chunk.now c.args.self.now c.in-Some.name.items c.args.at c.place.result c.max.result c.requires.inside
    (subst (λ n. CutsAt (passes Before n) c.args.chunk.now c.place.result) c.deref.ensures.value c.place.ensures) c.max.ensures
    (subst (λ found. IfSome found (λ name. HasFirst name.items c.args.self.now)) c.in-Some.is c.in_ok-first_name.ensures.some)
