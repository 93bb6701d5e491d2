use Rattle.std.proofs.Common.{◌≡◌, ◌+◌, ◌++◌, drop, fold, sym, subst, ◌∙◌}
use Rattle.published.specs.Private.Shelf.{operated}
use Rattle.published.proofs.LackingLemmas.{carried_further}
use Rattle.published.proofs.log.fill_ahead.Goals as goal

pub returns-clause-same : goal.returns-clause-same
returns-clause-same g c =
    let pending = c.args.pending.now.items in
    let spare = c.args.spare.now in
    let filled = c.carry_out_all.new.copy in
    let ahead = c.args.ahead in
    let more = c.carry_out_all.result in
    let cut = c.split_at_mut-lacking in
    let whole : pending ≡ cut.result.0.now ++ cut.result.1.now = sym c.make_contiguous.ensures.value ∙ cut.ensures.value in
    subst (λ all. fold operated filled (drop (ahead + more) all) ≡ fold operated spare (drop ahead all)) (sym whole)
    (carried_further spare filled cut.result.0.now cut.result.1.now ahead more cut.ensures.front_len c.carry_out_all.ensures.done)
