use Rattle.std.proofs.Common.{map, ◌∙◌, ap, arith}
use Rattle.std.specs.Prelude.{sum}
use Rattle.index.specs.Private.Contents.{names_count}
use Rattle.index.proofs.CountLemmas.{count-more, count-fits, count-end, count-single}
use Rattle.index.proofs.catalog.count_names.Goals as goal

pub returns-then-is_empty-clause-count : goal.returns-then-is_empty-clause-count
returns-then-is_empty-clause-count g c =
    c.len.ensures ∙ count-single c.args.groups.now (c.is_empty.ensures.0 c.if-is_empty.true) c.args.chosen.now.members

pub loop-number-init : goal.loop-number-init
loop-number-init g c =
    let same = ap (λ ns. sum (map (names_count c.args.groups.now) ns)) (c.into_iter-number-iterator.ensures.into_iter_gives ∙ c.numbers-numbers.ensures.members) in
    omega (arith, same)

pub overflow_add-count : goal.overflow_add-count
overflow_add-count g c =
    let fits =
    count-fits (names_count c.args.groups.now) (sum (map (names_count c.args.groups.now) c.args.chosen.now.members)) c.loop-number.count
    c.loop-number.number-iterator c.next.new.self c.in-Some.number c.in-Some.ensures.steps c.loop-number.invariant c.names_of-names.result
    c.names_of-names.ensures c.requires in
    omega (arith, fits)

pub loop-number-preserved : goal.loop-number-preserved
loop-number-preserved g c =
    count-more (names_count c.args.groups.now) (sum (map (names_count c.args.groups.now) c.args.chosen.now.members)) c.loop-number.count
    c.loop-number.number-iterator c.next.new.self c.in-Some.number c.in-Some.ensures.steps c.loop-number.invariant c.names_of-names.result c.names_of-names.ensures

pub returns-clause-count : goal.returns-clause-count
returns-clause-count g c =
    count-end (names_count c.args.groups.now) (sum (map (names_count c.args.groups.now) c.args.chosen.now.members)) c.loop-number.count
    c.loop-number.number-iterator c.in-None.ensures.steps.0 c.loop-number.invariant
