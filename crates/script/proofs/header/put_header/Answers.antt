use Rattle.script.proofs.PutLemmas.{no_header_without_space, no_header_without_size}
use Rattle.script.proofs.header.put_header.Goals as goal

pub returns-in_err-name : goal.returns-in_err-name
returns-in_err-name c = rw c.from_residual.ensures (no_header_without_space c.args.fields.now c.in_err-name.ensures)

pub returns-in_err-size : goal.returns-in_err-size
returns-in_err-size c =
    rw c.from_residual-in_err-size.ensures
    (no_header_without_size c.args.fields.now c.in_ok-name.name.now c.in_ok-name.digits.now c.in_ok-name.ensures
    c.in_err-size.ensures.size)
