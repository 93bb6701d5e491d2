use Rattle.std.proofs.Common.{◌+◌, arith}
use Rattle.engine.proofs.CutLemmas.{end_none, end_some}
use Rattle.search.proofs.PieceLemmas.{line_at_end, line_with_feed}
use Rattle.search.proofs.piece.first_line_end.Goals as goal

pub returns-in-Some : goal.returns-in-Some
returns-in-Some c =
    let is = end_some c.args.text.now c.args.most c.in-Some.at (omega (arith, c.requires.long)) c.in-Some.ensures in
    line_with_feed c.args.most c.args.text.now (c.args.most + c.in-Some.at) c.requires.no_feed is (omega (arith, c.in-Some.ensures.0.high))

pub returns-in-None : goal.returns-in-None
returns-in-None c = line_at_end c.args.most c.args.text.now c.requires.no_feed (end_none c.args.text.now c.args.most (omega (arith, c.requires.long)) c.in-None.ensures)
