use Rattle.std.proofs.Common.{subst, List, ℕ}
use Rattle.std.proofs.lemmas.Result.{on_ok_weaker, on_err_weaker}
use Rattle.transcript.specs.Written.{AppendsAllBut, AppendsFront}
use Rattle.transcript.proofs.WriteLemmas.{behind_head}
use Rattle.transcript.proofs.output.write_entry.Goals as goal

pub returns-in-Ok-clause-ok : goal.returns-in-Ok-clause-ok
returns-in-Ok-clause-ok g c =
    on_ok_weaker c.write_others.result (λ wrote.
    subst (λ (t : List ℕ). AppendsAllBut (g.W.Write.contents c.args.out.now) (g.W.Write.contents c.write_others.new.out) t
    c.write_others.new.text.items)
    (behind_head c.args.stats c.args.entry.now c.args.text.now.items c.append_head.new.out.items c.in-Ok.ensures) wrote)
    c.write_others.ensures.ok

pub returns-in-Ok-clause-err : goal.returns-in-Ok-clause-err
returns-in-Ok-clause-err g c =
    on_err_weaker c.write_others.result (λ some.
    subst (λ (t : List ℕ). AppendsFront (g.W.Write.contents c.args.out.now) (g.W.Write.contents c.write_others.new.out) t)
    (behind_head c.args.stats c.args.entry.now c.args.text.now.items c.append_head.new.out.items c.in-Ok.ensures) some)
    c.write_others.ensures.err
