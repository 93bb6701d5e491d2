use Rattle.std.proofs.Common.{◌+◌, arith, drop}
use Rattle.ere.proofs.BracketLemmas.{range_end_is}
use Rattle.ere.proofs.BracketSteps.{IsAhead-range_ahead, if_err, end_found, plain_from, open_end_begins}
use Rattle.ere.proofs.brackets.range_at.Goals as goal

pub byte_or_symbol_at-requires : goal.byte_or_symbol_at-requires
byte_or_symbol_at-requires c = (IsAhead-range_ahead c.args.text.now c.args.dash c.requires).inside

pub returns-in_err-high-clause-err : goal.returns-in_err-high-clause-err
returns-in_err-high-clause-err c = if_err c.from_residual.result _ (λ high rest end order. c.in_err-high.ensures.err high rest (range_end_is _ high rest end))

pub returns-clause-ok : goal.returns-clause-ok
returns-clause-ok c =
    let ahead = IsAhead-range_ahead c.args.text.now c.args.dash c.requires in (
      c.in_ok-high.high,
      end_found (drop (c.args.dash + 1) c.args.text.now) _ _
          (open_end_begins c.args.text.now (c.args.dash + 1) ahead.inside ahead.open_end)
          (plain_from _ c.if-opens.ensures c.if-opens-2.ensures) c.in_ok-high.ensures.ok,
      omega arith,
      c.between.ensures,
    )
