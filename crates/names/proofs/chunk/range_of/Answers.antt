use Rattle.std.proofs.Common.{subst}
use Rattle.std.proofs.lemmas.List.{take_all}
use Rattle.names.specs.Private.Entries.{LieWithin}
use Rattle.names.proofs.NumberLemmas.{lie_more}
use Rattle.names.proofs.chunk.range_of.Goals as goal

pub loop-content-preserved : goal.loop-content-preserved
loop-content-preserved c =
    lie_more c.loop-content.oldest c.loop-content.newest c.min-oldest.result c.max-newest.result c.loop-content.content-index c.args.contents.now c.content-item.result
    c.loop-content-test.true c.content-item.is c.loop-content.invariant c.min-oldest.ensures c.max-newest.ensures

pub returns : goal.returns
returns c =
    subst (LieWithin c.loop-content.oldest c.loop-content.newest) (take_all c.loop-content.content-index c.args.contents.now c.loop-content-test.false)
    c.loop-content.invariant
