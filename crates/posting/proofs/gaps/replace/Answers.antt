use Rattle.std.proofs.Common.{◌≡◌, ◌∙◌, arith, refl}
use Rattle.posting.proofs.Cuts.{closing_begins, closing_len, closing_more, closing_ends}
use Rattle.posting.proofs.Walks.{all_written}
use Rattle.posting.proofs.gaps.replace.Goals as goal

pub loop-place-init : goal.loop-place-init
loop-place-init c =
    let len = rw c.as_mut_slice.ensures.value at c.write_gap-end.ensures.len in
    record {
      closing =
          rw (all_written c.args.bytes.now.items c.write_gap-end.new.bytes len)
          (closing_begins c.args.bytes.now.items c.args.from c.args.gap c.write_gap-end.result c.write_gap-end.new.bytes
          (omega (arith, c.requires.fits, c.requires.within)) c.write_gap-end.ensures.place
          (rw c.as_mut_slice.ensures.value at c.write_gap-end.ensures.bytes));
      capacity = refl;
    }

pub remove-requires : goal.remove-requires
remove-requires c =
    let len = closing_len c.args.bytes.now.items c.args.from c.args.gap c.loop-place.bytes.items c.loop-place._place c.loop-place.invariant.closing in
    (omega arith, omega (arith, len, c.loop-place-test.true, c.requires.within, c.write_gap-end.ensures.place))

pub loop-place-preserved : goal.loop-place-preserved
loop-place-preserved c = record {
  closing =
      rw c.remove.ensures.items
      (closing_more c.args.bytes.now.items c.args.from c.args.gap c.loop-place.bytes.items c.loop-place._place c.write_gap-end.result
      c.loop-place.invariant.closing c.write_gap-end.ensures.place (omega (arith, c.loop-place-test.true, c.requires.within)));
  capacity = c.remove.ensures.capacity ∙ c.loop-place.invariant.capacity;
}

pub returns-clause-items : goal.returns-clause-items
returns-clause-items c =
    let at : c.loop-place._place ≡ c.args.to = omega (arith, c.loop-place-test.false, c.requires.fits, c.write_gap-end.ensures.place) in
    rw (← at) (closing_ends c.args.bytes.now.items c.args.from c.args.gap c.loop-place.bytes.items c.loop-place._place c.loop-place.invariant.closing)

pub returns-clause-len : goal.returns-clause-len
returns-clause-len c =
    let len = closing_len c.args.bytes.now.items c.args.from c.args.gap c.loop-place.bytes.items c.loop-place._place c.loop-place.invariant.closing in
    omega (arith, len, c.loop-place-test.false, c.requires.fits, c.requires.within)

pub returns-clause-capacity : goal.returns-clause-capacity
returns-clause-capacity c = c.loop-place.invariant.capacity
