use Rattle.std.proofs.lemmas.Result.{err_from_is_err_and}
use Rattle.request.proofs.Refusals.{no_find}
use Rattle.request.proofs.find.read_find.Goals as goal

pub returns-in_err-read-clause-refused : goal.returns-in_err-read-clause-refused
returns-in_err-read-clause-refused c =
    let p = err_from_is_err_and c.from_residual.result c.from_residual.ensures.1 in
    rw (p.1, p.2) (λ real. no_find c.args.text.now c.in_err-read.field-0.0 real (c.in_err-read.ensures.err real))
