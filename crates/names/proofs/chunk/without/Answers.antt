use Rattle.std.proofs.Common.{◌-◌, length, take, drop, refl, sym, arith}
use Rattle.names.proofs.CompareLemmas.{without_step}
use Rattle.names.proofs.chunk.without.Goals as goal

pub loop-at-preserved : goal.loop-at-preserved
loop-at-preserved c =
    let name = c.at-name.result.now in
    let prefix = c.args.prefix.now in
    without_step prefix c.loop-at.suffixes c.args.names.now c.in_ok-suffixes.suffixes c.loop-at.at name (take (length name - length prefix) (drop (length prefix) name))
    c.loop-at.invariant (omega arith) c.at-name.ensures (sym c.if-not-starts_with.ensures.value) refl c.in_ok-suffixes.ensures
