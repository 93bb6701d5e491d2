use Rattle.std.proofs.Common.{arith}
use Rattle.ere.proofs.BracketSteps.{Opens-opens_with, symbol_ends, symbol_elsewhere, symbol_found}
use Rattle.ere.proofs.brackets.symbol_at.Goals as goal

pub returns-in-None-clause-err : goal.returns-in-None-clause-err
returns-in-None-clause-err c = λ x rest e. c.in-None.ensures.none (_) (omega arith) (symbol_ends c.args.text.now c.args.at c.args.mark x rest e)

pub returns-in-Some-clause-ok : goal.returns-in-Some-clause-ok
returns-in-Some-clause-ok c =
    symbol_found c.args.text.now c.args.at c.args.mark c.in-Some.end (Opens-opens_with _ _ _ c.requires.opens) c.if-end-at.true
    c.in-Some.ensures.found.1 c.in-Some.ensures.found.2

pub returns-in-Some-2-clause-err : goal.returns-in-Some-2-clause-err
returns-in-Some-2-clause-err c =
    symbol_elsewhere c.args.text.now c.args.at c.args.mark c.in-Some.end c.requires.mark.1 c.in-Some.ensures.found.0
    c.in-Some.ensures.found.2 c.in-Some.ensures.first c.if-end-at.false
