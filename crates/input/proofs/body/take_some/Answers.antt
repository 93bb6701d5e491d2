use Rattle.std.proofs.Common.{[], take, sym, subst, arith, length-take, append-nil, rules, true≢false, zero-le}
use Rattle.std.specs.Io.BufRead.{FillKeeps}
use Rattle.std.proofs.KnownBytes.{Consumes-nil, Consumes-kept}
use Rattle.std.proofs.BufReadLemmas.{Consumes_shown}
use Rattle.input.specs.Private.Bytes.{Appends}
use Rattle.input.proofs.ErrLemmas.{at_err}
use Rattle.input.proofs.BodyLemmas.{none_if_not_more}
use Rattle.input.proofs.body.take_some.Goals as goal

pub returns-in_err-append : goal.returns-in_err-append
returns-in_err-append g c = (
  [],
  Consumes-kept _ _ _ [] (Consumes-nil _) c.fill_buf.follows.holds-at-none.0,
  at_err c.from_residual-in_err-append.result (λ r.
      Appends c.args.most c.args.body.now.items r c.append.new.text.items [] (g.I.Read.remaining c.args.input.now)
      (g.I.Read.remaining c.fill_buf.follows.lender-at-none)) c.from_residual-in_err-append.ensures.0 (λ e. tt),
)

pub returns-in_err-interrupted-in-Err : goal.returns-in_err-interrupted-in-Err
returns-in_err-interrupted-in-Err g c = (
  [],
  Consumes-kept _ _ _ [] (Consumes-nil _) c.fill_buf.follows.holds-at-none.0,
  at_err c.from_residual.result (λ r.
      Appends c.args.most c.args.body.now.items r c.args.body.now.items [] (g.I.Read.remaining c.args.input.now)
      (g.I.Read.remaining c.fill_buf.follows.lender-at-none)) c.from_residual.ensures.0 (λ e. tt),
)

pub returns-in-Err : goal.returns-in-Err
returns-in-Err g c = ([], Consumes-kept _ _ _ [] (Consumes-nil _) c.fill_buf.follows.holds-at-none.0, (sym (append-nil _), zero-le, λ e. absurd (true≢false e)))

pub returns : goal.returns
returns g c =
    let shown = c.in-Ok.shown.now in
    let rested = c.fill_buf.follows.lender-at-none in
    let filled = subst (FillKeeps _ (g.I.Read.remaining rested) (g.I.BufRead.consumable_len rested)) c.in-Ok.is c.fill_buf.follows.holds-at-none in
    let taken = c.min-taken.result in
    let moved =
    Consumes_shown _ _ _ _ shown taken (omega (arith, c.min-taken.ensures)) c.in-Ok.ensures.front c.in-Ok.ensures.end filled.0 filled.1
    c.consume.ensures.bytes in (
      take taken shown,
      moved.0,
      (
        c.in_ok-append.ensures.appended,
        omega (arith, c.min-taken.ensures, length-take taken shown),
        λ e. moved.1 (none_if_not_more _ _ (search rules) e),
      ),
    )
