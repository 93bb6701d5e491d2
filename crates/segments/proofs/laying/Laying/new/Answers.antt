use Rattle.std.proofs.Common.{[], ap}
use Rattle.segments.specs.Private.Table.{laid}
use Rattle.segments.proofs.TableLemmas.{empty_table, no_sets, none_counted}
use Rattle.segments.proofs.laying.Laying.new.Goals as goal

pub invariant_of-result : goal.invariant_of-result
invariant_of-result c = rw (c.new.ensures.items, c.new-2.ensures.items, c.new-3.ensures.items) (record {
  table = empty_table c.args.count c.requires;
  counted = none_counted c.args.count [];
})

pub returns : goal.returns
returns c = rw (c.new.ensures.items, c.new-2.ensures.items, c.new-3.ensures.items) (ap (laid c.args.count) (no_sets c.args.count []))
