use Rattle.std.proofs.Common.{ap, ◌∙◌, ◌++◌, subst, List, ℕ}
use Rattle.std.proofs.lemmas.Result.{on_ok_weaker}
use Rattle.transcript.specs.Heads.{head_of_entry}
use Rattle.transcript.specs.Written.{AppendsAllBut, AppendsFront}
use Rattle.transcript.proofs.WriteLemmas.{held_in_part, held_none, on_err_weaker}
use Rattle.tsearch.proofs.AheadLemmas.{without_first}
use Rattle.tsearch.proofs.write.write_now.Goals as goal

pub returns-in-Err-write_others-clause-err : goal.returns-in-Err-write_others-clause-err
returns-in-Err-write_others-clause-err g c =
    subst (λ (t : List ℕ). AppendsFront (g.O.Write.contents c.args.out.now) (g.O.Write.contents c.write_others.new.out) t)
    (without_first c.args.ahead c.args.stats c.args.entry.now c.append_head.new.out.items c.remove_first.new.text.items
    (c.in-Ok.ensures ∙ ap (λ t. t ++ head_of_entry c.args.stats c.args.entry.now) c.clear.ensures.items) c.requires c.remove_first.ensures)
    c.in-Err-write_others.ensures.err

pub returns-clause-ok : goal.returns-clause-ok
returns-clause-ok g c =
    let held =
    subst (λ (t : List ℕ). AppendsAllBut (g.O.Write.contents c.args.out.now) (g.O.Write.contents c.write_others.new.out) t c.write_others.new.text.items)
    (without_first c.args.ahead c.args.stats c.args.entry.now c.append_head.new.out.items c.remove_first.new.text.items
    (c.in-Ok.ensures ∙ ap (λ t. t ++ head_of_entry c.args.stats c.args.entry.now) c.clear.ensures.items) c.requires c.remove_first.ensures)
    c.in_default.ensures.ok in
    on_ok_weaker c.write_last.result (λ last. held_none _ _ _ _ _ held last) (rw c.deref.ensures.value at c.write_last.ensures.ok)

pub returns-clause-err : goal.returns-clause-err
returns-clause-err g c =
    let held =
    subst (λ (t : List ℕ). AppendsAllBut (g.O.Write.contents c.args.out.now) (g.O.Write.contents c.write_others.new.out) t c.write_others.new.text.items)
    (without_first c.args.ahead c.args.stats c.args.entry.now c.append_head.new.out.items c.remove_first.new.text.items
    (c.in-Ok.ensures ∙ ap (λ t. t ++ head_of_entry c.args.stats c.args.entry.now) c.clear.ensures.items) c.requires c.remove_first.ensures)
    c.in_default.ensures.ok in
    on_err_weaker c.write_last.result (λ some. held_in_part _ _ _ _ _ held some) (rw c.deref.ensures.value at c.write_last.ensures.err)
