use Rattle.std.proofs.Common.{sym, ◌∙◌}
use Rattle.views.proofs.NearLemmas.{left_by_next, leads_on, passed}
use Rattle.views.proofs.near.pass.Goals as goal

pub returns-then-not-begins_at : goal.returns-then-not-begins_at
returns-then-not-begins_at c = λ hits leads.
    leads_on c.args.most hits c.args.line c.args.far c.args.ahead.now (sym c.begins_at.ensures ∙ c.if-not-begins_at.true) leads

pub returns : goal.returns
returns c = λ hits leads.
    passed c.args.most hits c.args.line c.args.far c.args.ahead.now c.next.new.self
    (left_by_next c.args.ahead.now c.next.new.self c.args.line c.next.result (sym c.begins_at.ensures ∙ c.if-not-begins_at.false) c.next.ensures.steps)
    leads
