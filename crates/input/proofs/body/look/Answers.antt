use Rattle.std.proofs.Common.{[], take, refl, subst}
use Rattle.std.specs.Io.BufRead.{FillKeeps}
use Rattle.std.proofs.KnownBytes.{Consumes-nil, Consumes-kept}
use Rattle.std.proofs.BufReadLemmas.{Consumes_shown}
use Rattle.input.specs.Private.Bytes.{Looks}
use Rattle.input.proofs.ErrLemmas.{at_err}
use Rattle.input.proofs.BodyLemmas.{closes_by_next_byte}
use Rattle.input.proofs.body.look.Goals as goal

pub returns-in_err-interrupted-in-Err : goal.returns-in_err-interrupted-in-Err
returns-in_err-interrupted-in-Err g c = (
  [],
  Consumes-kept _ _ _ [] (Consumes-nil _) c.fill_buf.follows.holds-at-none.0,
  at_err c.from_residual.result
      (λ r. Looks r [] (g.I.Read.remaining c.args.input.now) (g.I.Read.remaining c.fill_buf.follows.lender-at-none))
      c.from_residual.ensures.0 (λ e. tt),
)

pub returns-in-Err : goal.returns-in-Err
returns-in-Err g c = ([], Consumes-kept _ _ _ [] (Consumes-nil _) c.fill_buf.follows.holds-at-none.0, refl)

pub returns : goal.returns
returns g c =
    let shown = c.in-Ok.shown.now in
    let rested = c.fill_buf.follows.lender-at-none in
    let filled = subst (FillKeeps _ (g.I.Read.remaining rested) (g.I.BufRead.consumable_len rested)) c.in-Ok.is c.fill_buf.follows.holds-at-none in
    let next = c.next_byte_of-next in
    let moved =
    Consumes_shown _ _ _ _ shown next.result.taken next.ensures.within c.in-Ok.ensures.front c.in-Ok.ensures.end filled.0 filled.1
    c.consume.ensures.bytes in
    (take next.result.taken shown, moved.0, closes_by_next_byte next.result.closing shown next.result.taken _ _ next.ensures.front moved.1)
