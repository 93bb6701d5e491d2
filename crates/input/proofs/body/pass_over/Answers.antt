use Rattle.std.proofs.Common.{◌++◌}
use Rattle.std.proofs.KnownBytes.{Consumes-trans}
use Rattle.input.specs.Private.Bytes.{Passes}
use Rattle.input.proofs.ErrLemmas.{at_err}
use Rattle.input.proofs.NotLemmas.{if_not}
use Rattle.input.proofs.BodyLemmas.{passes_more, passes_to_end}
use Rattle.input.proofs.body.pass_over.Goals as goal

pub returns-in_err-piece : goal.returns-in_err-piece
returns-in_err-piece g c =
    let (done, before, counted, within) = c.loop.invariant in
    let (bytes, taken, grown) = c.pass_piece.ensures in (
      done ++ bytes,
      Consumes-trans _ _ _ done bytes before taken,
      at_err c.from_residual.result
          (λ r. Passes c.args.size r (done ++ bytes) (g.I.Read.remaining c.args.input.now) (g.I.Read.remaining c.pass_piece.new.input))
          c.from_residual.ensures.0 (λ e. tt),
    )

pub returns-then-not-piece : goal.returns-then-not-piece
returns-then-not-piece g c =
    let (done, before, counted, within) = c.loop.invariant in
    let (bytes, taken, (more, few, end)) = c.in_ok-piece.ensures in
    passes_to_end _ _ _ c.args.size done bytes c.loop.passed c.in_ok-piece.piece.passed before counted taken more few within
    (end (if_not _ c.if-not-piece.true)) c.both-passed.result c.both-passed.ensures.0 c.both-passed.ensures.1

pub loop-preserved : goal.loop-preserved
loop-preserved g c =
    let (done, before, counted, within) = c.loop.invariant in
    let (bytes, taken, (more, few, end)) = c.in_ok-piece.ensures in
    passes_more _ _ _ c.args.size done bytes c.loop.passed c.in_ok-piece.piece.passed before counted taken more few within
    c.both-passed.result c.both-passed.ensures.0 c.both-passed.ensures.1
