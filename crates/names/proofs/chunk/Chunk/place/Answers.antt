use Rattle.std.proofs.Common.{◌+◌, ◌-◌, ◌/◌, sym, subst, arith}
use Rattle.names.specs.Private.Entries.{passes}
use Rattle.names.proofs.PartLemmas.{Narrows, narrows_all, narrows_up, narrows_down, narrowed, some_entry}
use Rattle.names.proofs.chunk.Chunk.place.Goals as goal

pub loop-low-init : goal.loop-low-init
loop-low-init c =
    let p = passes c.args.edge c.args.text.now in
    subst (Narrows p c.args.self.now 0) (sym c.len-high.ensures.len) (narrows_all p c.args.self.now)

pub loop-low-preserved-then-is_before : goal.loop-low-preserved-then-is_before
loop-low-preserved-then-is_before c =
    narrows_up (passes c.args.edge c.args.text.now) c.args.self.now c.loop-low.low c.loop-low.high (c.loop-low.low + (c.loop-low.high - c.loop-low.low) / 2) some_entry
    c.requires c.loop-low.invariant (omega arith) (sym (c.if-is_before.ensures some_entry))

pub loop-low-preserved : goal.loop-low-preserved
loop-low-preserved c =
    narrows_down (passes c.args.edge c.args.text.now) c.args.self.now c.loop-low.low c.loop-low.high (c.loop-low.low + (c.loop-low.high - c.loop-low.low) / 2) some_entry
    c.requires c.loop-low.invariant (omega arith) (omega arith) (sym (c.if-is_before.ensures some_entry))

pub returns : goal.returns
returns c = narrowed (passes c.args.edge c.args.text.now) c.args.self.now c.loop-low.low c.loop-low.high c.loop-low.invariant c.loop-low-test.false
