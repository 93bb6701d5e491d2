use Rattle.std.proofs.Common.{[], ◌++◌, refl, sym, ap, subst, ◌∙◌, IsTrue, IsFalse}
use Rattle.std.proofs.KnownBytes.{Consumes-nil, Consumes-trans}
use Rattle.script.specs.Items.{is_blank}
use Rattle.input.specs.Private.Lines.{Skips, IsNextLine}
use Rattle.input.proofs.ErrLemmas.{at_err}
use Rattle.input.proofs.LineLemmas.{skips_more, skips_all, takes_line}
use Rattle.input.proofs.line.next_line.Goals as goal

pub loop-closed-init : goal.loop-closed-init
loop-closed-init g c = ([], Consumes-nil _, λ rest items h. h)

pub returns-in_err-closed : goal.returns-in_err-closed
returns-in_err-closed g c =
    let (skipped, before, skips) = c.loop-closed.invariant in
    let (bytes, taken, is) = c.take_line.ensures in (
      skipped ++ bytes,
      Consumes-trans _ _ _ skipped bytes before taken,
      at_err c.from_residual.result (λ r.
          IsNextLine c.args.first r c.take_line.new.text.items (skipped ++ bytes) (g.I.Read.remaining c.args.input.now)
          (g.I.Read.remaining c.take_line.new.input)) c.from_residual.ensures.0 (λ e. tt),
    )

pub returns-then-not-is_blank_line : goal.returns-then-not-is_blank_line
returns-then-not-is_blank_line g c =
    let (skipped, before, skips) = c.loop-closed.invariant in
    let (bytes, taken, is) = c.in_ok-closed.ensures in
    let not_blank : IsFalse (is_blank c.take_line.new.text.items) =
    ap is_blank (sym c.as_slice.ensures.value) ∙ sym c.is_blank_line.ensures ∙ c.if-not-is_blank_line.true in
    takes_line _ _ _ c.args.first c.loop-closed.line skipped c.take_line.new.text.items bytes before skips taken c.in_ok-closed.closed
    record { line = c.loop-closed.line; closed = c.in_ok-closed.closed } refl refl is not_blank

pub returns-then-not-closed : goal.returns-then-not-closed
returns-then-not-closed g c =
    let (skipped, before, skips) = c.loop-closed.invariant in
    let (bytes, taken, is) = c.in_ok-closed.ensures in
    let blank : IsTrue (is_blank c.take_line.new.text.items) = ap is_blank (sym c.as_slice.ensures.value) ∙ sym c.is_blank_line.ensures ∙ c.if-not-is_blank_line.false in
    skips_all _ _ _ c.args.first c.loop-closed.line skipped c.take_line.new.text.items bytes before skips taken c.in_ok-closed.closed
    c.if-not-closed.true is blank

pub returns-in_err-next : goal.returns-in_err-next
returns-in_err-next g c =
    let (skipped, before, skips) = c.loop-closed.invariant in
    let (bytes, taken, is) = c.take_line.ensures in (
      skipped ++ bytes,
      Consumes-trans _ _ _ skipped bytes before taken,
      at_err c.from_residual-in_err-next.result (λ r.
          IsNextLine c.args.first r c.take_line.new.text.items (skipped ++ bytes) (g.I.Read.remaining c.args.input.now)
          (g.I.Read.remaining c.take_line.new.input)) c.from_residual-in_err-next.ensures.0 (λ e. tt),
    )

pub loop-closed-preserved : goal.loop-closed-preserved
loop-closed-preserved g c =
    let (skipped, before, skips) = c.loop-closed.invariant in
    let (bytes, taken, is) = c.in_ok-closed.ensures in
    let blank : IsTrue (is_blank c.take_line.new.text.items) = ap is_blank (sym c.as_slice.ensures.value) ∙ sym c.is_blank_line.ensures ∙ c.if-not-is_blank_line.false in
    let (all, all_taken, more) =
    skips_more _ _ _ c.args.first c.loop-closed.line skipped c.take_line.new.text.items bytes before skips taken c.in_ok-closed.closed
    c.if-not-closed.false is blank in
    (all, all_taken, subst (Skips c.args.first all) (sym c.in_ok-next.ensures.0) more)
