use Rattle.std.proofs.Common.{length, ap, arith}
use Rattle.names.specs.Private.Entries.{with_prefix}
use Rattle.names.proofs.PairLemmas.{length-pairs}
use Rattle.names.proofs.draft.Draft.len.Goals as goal

pub returns : goal.returns
returns c =
    let same = c.self.invariant.same in
    let long = c.self.inside.contents.ok.0 in
    omega (arith, c.len.ensures, long, same, length-pairs (with_prefix c.self.inside.stem.items c.self.inside.rests) c.self.inside.contents.items c.self.invariant.same, ap length c.self.view_is)
