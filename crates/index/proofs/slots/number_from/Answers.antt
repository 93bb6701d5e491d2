use Rattle.std.proofs.Common.{rules, nat_lt, ap, arith}
use Rattle.std.proofs.lemmas.List.Sorted.{IsPartitionPoint-from_clause}
use Rattle.index.proofs.SlotLemmas.{partitioned, others_between, others_behind, document_at-absent}
use Rattle.index.proofs.slots.number_from.Goals as goal

pub returns-then-place-slots-clause-none : goal.returns-then-place-slots-clause-none
returns-then-place-slots-clause-none c = λ n from.
    let point =
    IsPartitionPoint-from_clause (λ s. nat_lt s.number c.args.first) c.args.slots.now c.partition_point-place.result
    c.partition_point-place.ensures.partitioned (partitioned c.requires.0 c.args.slots.now c.args.first c.requires.1)
    (λ a r f' k. search rules) in
    document_at-absent n c.args.slots.now
    (others_behind c.args.first n c.args.slots.now c.partition_point-place.result point c.if-place-slots.true from)

pub returns-clause-some : goal.returns-clause-some
returns-clause-some c = λ n from to.
    let point =
    IsPartitionPoint-from_clause (λ s. nat_lt s.number c.args.first) c.args.slots.now c.partition_point-place.result
    c.partition_point-place.ensures.partitioned (partitioned c.requires.0 c.args.slots.now c.args.first c.requires.1)
    (λ a r f' k. search rules) in
    document_at-absent n c.args.slots.now
    (others_between c.requires.0 c.args.first n c.args.slots.now c.partition_point-place.result c.index-slots-place.result c.requires.1 point
    c.index-slots-place.is from (omega (arith, to, ap (λ s. s.number) c.index-slots-place.is)))
