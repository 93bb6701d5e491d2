use Rattle.std.proofs.Common.{subst}
use Rattle.engine.specs.FirstLine.{HasNoFeed}
use Rattle.search.proofs.piece.piece_end.Goals as goal

pub first_line_end-requires-clause-no_feed : goal.first_line_end-requires-clause-no_feed
first_line_end-requires-clause-no_feed c = subst (λ n. HasNoFeed c.args.text.now n c.args.most) c.in-0.is c.line_start.ensures.no_feed
