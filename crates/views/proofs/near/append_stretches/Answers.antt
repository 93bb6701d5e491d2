use Rattle.std.proofs.Common.{◌≡◌, ◌<◌, [], length, sym, ◌∙◌, ap, subst, arith}
use Rattle.std.specs.Prelude.{MatchBool}
use Rattle.std.proofs.lemmas.Bool.Decides.{nat_tests}
use Rattle.views.specs.Private.Near.{Leads}
use Rattle.views.proofs.NearLemmas.{far_is_none, leads_first, leads_on, walk_begin, walk_end, walk_far, walk_near, walk_none}
use Rattle.views.proofs.near.append_stretches.Goals as goal

pub loop-rest-init : goal.loop-rest-init
loop-rest-init g c =
    let hits = c.args.hits.now in
    record {
      walk = walk_begin c.args.zero c.args.most hits c.args.document.now.name c.args.document.now.held c.args.out.now.items c.as_bytes-rest.result.now (c.as_bytes-rest.ensures.bytes ∙ c.body.ensures);
      leads = c.pass-far.ensures hits (subst (λ a. Leads c.args.most hits 0 0 a) (sym c.again-ahead.ensures) (leads_first c.args.most hits c.requires.rising));
      room = omega (arith, c.as_bytes-rest.ensures.body.short, ap length c.as_bytes-rest.ensures.bytes);
      few = omega arith;
    }

pub returns-then-is_empty-clause-rows : goal.returns-then-is_empty-clause-rows
returns-then-is_empty-clause-rows g c =
    let at = c.loop-rest in
    walk_none c.args.zero c.args.most c.args.hits.now c.args.document.now.name c.args.document.now.held c.args.out.now.items at.out.items
    at.rows at.line at.next at.far at.ahead at.rest.now at.invariant.walk at.invariant.leads (subst (λ b. MatchBool b (at.ahead ≡ []) (0 < length at.ahead)) c.if-is_empty.true c.is_empty-then-not-is_close.ensures)
    (sym c.is_close.ensures ∙ c.if-not-is_close.true)

pub loop-rest-preserved-then-not-is_close : goal.loop-rest-preserved-then-not-is_close
loop-rest-preserved-then-not-is_close g c =
    let at = c.loop-rest in
    let away = sym c.is_close.ensures ∙ c.if-not-is_close.true in
    let shorter : length c.split_line.result.1.now < length at.rest.now = c.split_line.ensures.shorter in
    record {
      walk =
          walk_far c.args.zero c.args.most c.args.hits.now c.args.document.now.name c.args.document.now.held c.args.out.now.items at.out.items
          at.rows at.line at.next at.far at.ahead at.rest.now at.invariant.walk at.invariant.leads c.split_line.result.0.now
          c.split_line.result.1.now c.split_line.ensures.lines away;
      leads = leads_on c.args.most c.args.hits.now at.line at.far at.ahead (far_is_none c.args.most at.far at.ahead at.line at.invariant.leads.above away) at.invariant.leads;
      room = omega (arith, at.invariant.room);
      few = omega (arith, at.invariant.few);
    }

pub loop-rest-preserved : goal.loop-rest-preserved
loop-rest-preserved g c =
    let at = c.loop-rest in
    let shorter : length c.split_line.result.1.now < length at.rest.now = c.split_line.ensures.shorter in
    record {
      walk =
          walk_near c.args.zero c.args.most c.args.hits.now c.args.document.now.name c.args.document.now.held c.args.out.now.items at.out.items
          at.rows at.line at.next at.far at.ahead at.rest.now at.invariant.walk at.invariant.leads c.split_line.result.0.now
          c.split_line.result.1.now c.split_line.ensures.lines c.in_ok-rows.field-0 c.append_line.new.out.items
          (sym c.is_close.ensures ∙ c.if-not-is_close.false) c.in_ok-rows.ensures.rows c.in_ok-rows.ensures.text;
      leads = c.pass-far-in-loop-rest.ensures c.args.hits.now at.invariant.leads;
      room = omega (arith, at.invariant.room);
      few = omega (arith, at.invariant.few, c.in_ok-rows.ensures.few);
    }

pub returns-clause-rows : goal.returns-clause-rows
returns-clause-rows g c =
    let at = c.loop-rest in
    let empty : length at.rest.now ≡ 0 = grind (arith, nat_tests) in
    walk_end c.args.zero c.args.most c.args.hits.now c.args.document.now.name c.args.document.now.held c.args.out.now.items at.out.items
    at.rows at.line at.next at.far at.ahead at.rest.now at.invariant.walk empty
