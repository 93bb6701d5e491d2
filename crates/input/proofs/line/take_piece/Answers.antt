use Rattle.std.proofs.Common.{[], take, sym, subst, append-nil}
use Rattle.std.specs.Io.BufRead.{FillKeeps}
use Rattle.std.proofs.KnownBytes.{Consumes-nil, Consumes-kept}
use Rattle.std.proofs.BufReadLemmas.{Consumes_shown}
use Rattle.input.specs.Private.Lines.{Grows}
use Rattle.input.proofs.ErrLemmas.{at_err}
use Rattle.input.proofs.LineLemmas.{grows_by_piece}
use Rattle.input.proofs.line.take_piece.Goals as goal

pub returns-in_err-append_piece : goal.returns-in_err-append_piece
returns-in_err-append_piece g c = (
  [],
  Consumes-kept _ _ _ [] (Consumes-nil _) c.fill_buf.follows.holds-at-none.0,
  at_err c.from_residual-in_err-append_piece.result (λ r.
      Grows c.args.text.now.items r c.append_piece.new.text.items [] (g.I.Read.remaining c.args.input.now)
      (g.I.Read.remaining c.fill_buf.follows.lender-at-none)) c.from_residual-in_err-append_piece.ensures.0 (λ e. tt),
)

pub returns-in_err-interrupted-in-Err : goal.returns-in_err-interrupted-in-Err
returns-in_err-interrupted-in-Err g c = (
  [],
  Consumes-kept _ _ _ [] (Consumes-nil _) c.fill_buf.follows.holds-at-none.0,
  at_err c.from_residual.result (λ r.
      Grows c.args.text.now.items r c.args.text.now.items [] (g.I.Read.remaining c.args.input.now)
      (g.I.Read.remaining c.fill_buf.follows.lender-at-none)) c.from_residual.ensures.0 (λ e. tt),
)

pub returns-in-Err : goal.returns-in-Err
returns-in-Err g c = ([], Consumes-kept _ _ _ [] (Consumes-nil _) c.fill_buf.follows.holds-at-none.0, (tt, sym (append-nil _)))

pub returns : goal.returns
returns g c =
    let shown = c.in-Ok.shown.now in
    let rested = c.fill_buf.follows.lender-at-none in
    let filled = subst (FillKeeps _ (g.I.Read.remaining rested) (g.I.BufRead.consumable_len rested)) c.in-Ok.is c.fill_buf.follows.holds-at-none in
    let piece = c.piece_of-piece in
    let moved =
    Consumes_shown _ _ _ _ shown piece.result.taken piece.ensures.within c.in-Ok.ensures.front c.in-Ok.ensures.end filled.0 filled.1
    c.consume.ensures.bytes in (
      take piece.result.taken shown,
      moved.0,
      grows_by_piece piece.result.after shown _ _ _ piece.result.taken _ _ piece.ensures.piece c.in_ok-append_piece.ensures moved.1,
    )
