use Rattle.std.proofs.lemmas.Result.{on_ok_weaker, on_err_weaker}
use Rattle.transcript.proofs.WriteLemmas.{both_whole, front_of_second}
use Rattle.transcript.proofs.output.write_behind.Goals as goal

pub returns-clause-ok : goal.returns-clause-ok
returns-clause-ok g c =
    let one = rw c.deref.ensures.value at c.in_default.ensures.ok in
    on_ok_weaker c.write_whole-2.result
    (λ two. both_whole _ _ _ c.args.text.now.items c.args.bytes.now c.clear.new.self.items c.clear.ensures.items one two) c.write_whole-2.ensures.ok

pub returns-clause-err : goal.returns-clause-err
returns-clause-err g c =
    let one = rw c.deref.ensures.value at c.in_default.ensures.ok in
    on_err_weaker c.write_whole-2.result (λ some. front_of_second _ _ _ c.args.text.now.items c.args.bytes.now one some) c.write_whole-2.ensures.err
