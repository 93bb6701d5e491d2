use Rattle.std.proofs.Common.{◌≡◌, false, take, drop, sym, ◌∙◌, ap, subst, arith}
use Rattle.std.specs.List.{list_any}
use Rattle.names.specs.Contents.{is_long_copy}
use Rattle.names.proofs.PartLemmas.{some_entry}
use Rattle.names.proofs.LongLemmas.{none_yet, none_more, one_there}
use Rattle.names.proofs.chunk.Chunk.has_long_copy.Goals as goal

pub loop-place-init : goal.loop-place-init
loop-place-init c = none_yet (λ e. is_long_copy c.args.most c.args.from.now c.args.to.now e.0) c.args.self.now c.args.at

pub loop-place-preserved : goal.loop-place-preserved
loop-place-preserved c =
    none_more (λ e. is_long_copy c.args.most c.args.from.now c.args.to.now e.0) c.args.self.now c.args.at c.loop-place.place some_entry (omega arith) (omega arith)
    c.loop-place.invariant (ap (is_long_copy c.args.most c.args.from.now c.args.to.now) (c.name.ensures some_entry) ∙ sym c.if-is_long_copy.ensures)

pub returns-then-is_long_copy : goal.returns-then-is_long_copy
returns-then-is_long_copy c =
    sym (one_there (λ e. is_long_copy c.args.most c.args.from.now c.args.to.now e.0) c.args.self.now c.args.at c.loop-place.place c.args.end some_entry (omega arith)
    c.loop-place-test.true c.requires.inside
    (ap (is_long_copy c.args.most c.args.from.now c.args.to.now) (c.name.ensures some_entry) ∙ sym c.if-is_long_copy.ensures))

pub returns : goal.returns
returns c =
    let same : c.loop-place.place ≡ c.args.end = omega arith in
    sym (subst (λ n. list_any (λ e. is_long_copy c.args.most c.args.from.now c.args.to.now e.0) (drop c.args.at (take n c.args.self.now)) ≡ false) same
    c.loop-place.invariant)
