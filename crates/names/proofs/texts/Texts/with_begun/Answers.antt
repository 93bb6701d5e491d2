use Rattle.std.proofs.Common.{◌++◌, sym, ap, ◌∙◌, arith}
use Rattle.std.proofs.lemmas.List.{append-nil}
use Rattle.names.specs.Private.Entries.{with_prefix}
use Rattle.names.proofs.RunLemmas.{run_none, texts_step}
use Rattle.names.proofs.texts.Texts.with_begun.Goals as goal

pub loop-at-init : goal.loop-at-init
loop-at-init c =
    sym (ap (λ run. c.args.self ++ with_prefix c.args.beginning.now run) (run_none c.args.others.now c.args.from) ∙ append-nil c.args.self)

pub loop-at-preserved : goal.loop-at-preserved
loop-at-preserved c =
    texts_step c.args.beginning.now c.args.self c.loop-at.texts c.in_ok-texts.texts c.args.others.now c.args.from c.loop-at.at c.at.result.now (omega arith) (omega arith)
    c.loop-at.invariant c.at.ensures c.in_ok-texts.ensures
