use Rattle.std.proofs.Common.{◌+◌, ◌-◌, ◌/◌, true, false, subst, arith}
use Rattle.names.specs.Private.Entries.{passes, IsLastPass}
use Rattle.names.proofs.PartLemmas.{opening_all, opening_up, opening_down, opened}
use Rattle.names.proofs.builder.open_at.Goals as goal

pub loop-low-init : goal.loop-low-init
loop-low-init c = opening_all (passes c.args.edge c.args.text.now) c.args.chunks.now

pub loop-low-preserved-then-last_is_before : goal.loop-low-preserved-then-last_is_before
loop-low-preserved-then-last_is_before c =
    let p = passes c.args.edge c.args.text.now in
    opening_up p c.args.chunks.now c.loop-low.low c.loop-low.high (c.loop-low.low + (c.loop-low.high - c.loop-low.low) / 2) c.index-chunks-middle.result c.requires
    c.loop-low.invariant (omega arith) (subst (λ es. IsLastPass p es true) c.index-chunks-middle.is c.if-last_is_before.ensures)

pub loop-low-preserved : goal.loop-low-preserved
loop-low-preserved c =
    let p = passes c.args.edge c.args.text.now in
    opening_down p c.args.chunks.now c.loop-low.low c.loop-low.high (c.loop-low.low + (c.loop-low.high - c.loop-low.low) / 2) c.index-chunks-middle.result c.requires
    c.loop-low.invariant (omega arith) (omega arith) (subst (λ es. IsLastPass p es false) c.index-chunks-middle.is c.if-last_is_before.ensures)

pub returns : goal.returns
returns c = opened (passes c.args.edge c.args.text.now) c.args.chunks.now c.loop-low.low c.loop-low.high c.loop-low.invariant c.loop-low-test.false
