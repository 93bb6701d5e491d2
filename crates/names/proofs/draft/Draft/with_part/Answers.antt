use Rattle.std.proofs.Common.{◌≡◌, ◌++◌, [], length, take, drop, sym, ap, ◌∙◌, arith}
use Rattle.std.proofs.lemmas.Bool.{eqb-true}
use Rattle.std.proofs.lemmas.Result.{IfOk-weaker}
use Rattle.std.proofs.lemmas.List.{append-nil, nil_from_length}
use Rattle.names.specs.Private.Entries.{begun_within}
use Rattle.names.proofs.RunLemmas.{plain_run}
use Rattle.names.proofs.PartLemmas.{begun_none, part_step}
use Rattle.names.proofs.draft.Draft.with_part.Goals as goal

pub returns-then-is_empty : goal.returns-then-is_empty
returns-then-is_empty c =
    let es = c.args.chunk.now in
    let beginning = c.args.beginning.now in
    let empty : beginning ≡ [] = nil_from_length beginning (eqb-true (length beginning) 0 (sym c.if-is_empty.ensures)) in
    IfOk-weaker c.with_run.result (λ draft. draft ≡ c.args.self ++ drop c.args.from (take c.args.to es))
    (λ draft. draft ≡ c.args.self ++ begun_within c.args.from c.args.to c.args.count beginning es)
    (λ draft made. made ∙ ap (λ rest. c.args.self ++ rest) (sym (plain_run c.args.count beginning es c.args.from c.args.to c.if-count-eq0.true empty))) c.with_run.ensures

pub loop-at-init : goal.loop-at-init
loop-at-init c =
    sym (ap (λ rest. c.args.self ++ rest) (begun_none c.args.count c.args.beginning.now c.args.chunk.now c.args.from) ∙ append-nil c.args.self)

pub loop-at-preserved : goal.loop-at-preserved
loop-at-preserved c =
    part_step c.args.self c.loop-at.draft c.in_ok-draft.draft c.args.chunk.now c.args.from c.loop-at.at c.args.count c.min.result c.saturating_sub-rest.result
    c.min-in-loop-at.result c.args.beginning.now c.name.result.0.now c.name.result.1.now c.in_ok-share.field-0 c.loop-at.invariant (omega arith) (omega arith)
    c.name.ensures (λ d. c.in_ok-share.ensures ∙ c.content.ensures d) c.min.ensures c.saturating_sub-rest.ensures c.min-in-loop-at.ensures c.in_ok-draft.ensures
