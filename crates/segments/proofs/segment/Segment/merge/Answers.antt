use Rattle.segments.specs.Contents.{contents_in}
use Rattle.segments.specs.Private.Joins.{IsJoined}
use Rattle.segments.proofs.Building.{few_numbers}
use Rattle.segments.proofs.Joining.{joined_segment, joined_contents}
use Rattle.segments.proofs.segment.Segment.merge.Goals as goal
use Rattle.segments.proofs.segment.Segment.merge.Goals.{In_ok-table}

table_is : (c : In_ok-table) → IsJoined c.in_ok-numbers.numbers.items (contents_in c.args.segments.now) c.in_ok-table.table
table_is c = rw c.as_slice.ensures.value at c.in_ok-table.ensures

pub joined-requires-clause-rising : goal.joined-requires-clause-rising
joined-requires-clause-rising c = rw c.as_slice.ensures.value c.in_ok-numbers.ensures.rising

pub joined-requires-clause-few : goal.joined-requires-clause-few
joined-requires-clause-few c =
    rw c.as_slice.ensures.value (few_numbers c.in_ok-numbers.numbers.items c.in_ok-numbers.ensures.rising c.in_ok-numbers.ensures.small)

pub invariant_of-result : goal.invariant_of-result
invariant_of-result c =
    joined_segment c.args.keep.now c.in_ok-numbers.numbers.items (contents_in c.args.segments.now) c.requires.differ c.requires.rising
    c.in_ok-numbers.ensures c.in_ok-table.table (table_is (goal.at.invariant_of-result c).In_ok-table)

pub returns : goal.returns
returns c =
    joined_contents c.args.keep.now c.in_ok-numbers.numbers.items (contents_in c.args.segments.now) c.requires.differ c.requires.rising
    c.in_ok-numbers.ensures c.in_ok-table.table (table_is (goal.at.returns c).In_ok-table)
