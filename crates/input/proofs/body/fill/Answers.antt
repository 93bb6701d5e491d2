use Rattle.std.proofs.Common.{◌++◌}
use Rattle.std.proofs.KnownBytes.{Consumes-trans}
use Rattle.input.specs.Private.Bytes.{Fills}
use Rattle.input.proofs.ErrLemmas.{at_err}
use Rattle.input.proofs.body.fill.Goals as goal

pub returns-in_err-more : goal.returns-in_err-more
returns-in_err-more g c =
    let (bytes, taken, grown) = c.take_some.ensures in (
      c.loop.body.items ++ bytes,
      Consumes-trans _ _ _ c.loop.body.items bytes c.loop.invariant.taken taken,
      at_err c.from_residual.result (λ r.
          Fills c.args.size r c.take_some.new.body.items (c.loop.body.items ++ bytes) (g.I.Read.remaining c.args.input.now)
          (g.I.Read.remaining c.take_some.new.input)) c.from_residual.ensures.0 (λ e. tt),
    )
