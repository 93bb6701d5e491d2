use Rattle.views.specs.Hits.{hit_of}
use Rattle.search.proofs.JoinLemmas.{one-more_line}
use Rattle.search.proofs.ahead.append_first.Goals as goal

pub loop-at-preserved : goal.loop-at-preserved
loop-at-preserved g c =
    one-more_line c.args.zero c.args.lines c.loop-at.at (hit_of c.in-Some.hit) c.args.out.now.items c.loop-at.out.items c.append_hit.new.out.items
    c.in-Some.ensures c.loop-at.invariant c.in_ok-append_hit.ensures.ok
