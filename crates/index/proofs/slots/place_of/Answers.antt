use Rattle.std.proofs.Common.{rules, nat_lt}
use Rattle.std.proofs.lemmas.List.Sorted.{IsPartitionPoint-from_clause}
use Rattle.index.proofs.SlotLemmas.{partitioned, others_past, others_apart}
use Rattle.index.proofs.slots.place_of.Goals as goal

pub returns-then-place-slots-clause-none : goal.returns-then-place-slots-clause-none
returns-then-place-slots-clause-none c =
    let point =
    IsPartitionPoint-from_clause (λ s. nat_lt s.number c.args.number) c.args.slots.now c.partition_point-place.result
    c.partition_point-place.ensures.partitioned (partitioned c.requires.0 c.args.slots.now c.args.number c.requires.1)
    (λ a r f' k. search rules) in
    others_past c.args.number c.args.slots.now c.partition_point-place.result point c.if-place-slots.true

pub returns-then-slot-number-clause-none : goal.returns-then-slot-number-clause-none
returns-then-slot-number-clause-none c =
    let point =
    IsPartitionPoint-from_clause (λ s. nat_lt s.number c.args.number) c.args.slots.now c.partition_point-place.result
    c.partition_point-place.ensures.partitioned (partitioned c.requires.0 c.args.slots.now c.args.number c.requires.1)
    (λ a r f' k. search rules) in
    others_apart c.requires.0 c.args.number c.args.slots.now c.partition_point-place.result c.index-slots-place.result c.requires.1 point
    c.index-slots-place.is c.if-slot-number.true
