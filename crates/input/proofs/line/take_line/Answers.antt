use Rattle.std.proofs.Common.{◌++◌, sym, subst}
use Rattle.std.specs.Io.KnownBytes.{Consumes}
use Rattle.std.proofs.KnownBytes.{Consumes-nil, Consumes-trans}
use Rattle.script.specs.Items.{IsLine}
use Rattle.input.specs.Private.Lines.{IsLineTaken}
use Rattle.input.proofs.ErrLemmas.{at_err}
use Rattle.input.proofs.LineLemmas.{line_goes_on, line_closed, line_ended}
use Rattle.input.proofs.line.take_line.Goals as goal

pub loop-init : goal.loop-init
loop-init g c = record {
  line = subst IsLine (sym c.clear.ensures.items) tt;
  taken = subst (Consumes _ _) (sym c.clear.ensures.items) (Consumes-nil _);
}

pub loop-preserved : goal.loop-preserved
loop-preserved g c =
    let (bytes, taken, grown) = c.take_piece.ensures in
    let more =
    line_goes_on (g.I.Read.remaining c.args.input.now) (g.I.Read.remaining c.loop.input) (g.I.Read.remaining c.take_piece.new.input)
    c.loop.text.items c.take_piece.new.text.items bytes c.loop.invariant.line c.loop.invariant.taken taken c.take_piece.result grown
    (cc) in
    record { line = more.0; taken = more.1 }

pub returns-in_err-after : goal.returns-in_err-after
returns-in_err-after g c =
    let (bytes, taken, grown) = c.take_piece.ensures in (
      c.loop.text.items ++ bytes,
      Consumes-trans _ _ _ c.loop.text.items bytes c.loop.invariant.taken taken,
      at_err c.from_residual.result (λ r.
          IsLineTaken r c.take_piece.new.text.items (c.loop.text.items ++ bytes) (g.I.Read.remaining c.args.input.now)
          (g.I.Read.remaining c.take_piece.new.input)) c.from_residual.ensures.0 (λ e. tt),
    )

pub returns-in-LineFeed : goal.returns-in-LineFeed
returns-in-LineFeed g c =
    let (bytes, taken, grown) = c.take_piece.ensures in
    line_closed (g.I.Read.remaining c.args.input.now) (g.I.Read.remaining c.loop.input) (g.I.Read.remaining c.take_piece.new.input)
    c.loop.text.items c.take_piece.new.text.items bytes c.loop.invariant.line c.loop.invariant.taken taken c.take_piece.result grown
    (cc)

pub returns-in-InputEnd : goal.returns-in-InputEnd
returns-in-InputEnd g c =
    let (bytes, taken, grown) = c.take_piece.ensures in
    line_ended (g.I.Read.remaining c.args.input.now) (g.I.Read.remaining c.loop.input) (g.I.Read.remaining c.take_piece.new.input)
    c.loop.text.items c.take_piece.new.text.items bytes c.loop.invariant.line c.loop.invariant.taken taken c.take_piece.result grown
    (cc)

pub returns : goal.returns
returns g c = (c.loop.text.items, c.loop.invariant.taken, tt)
