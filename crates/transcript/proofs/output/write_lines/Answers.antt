use Rattle.std.proofs.Common.{◌≡◌, [], ◌++◌, refl, sym, ap, ◌∙◌, rules}
use Rattle.std.proofs.lemmas.Result.{on_ok_weaker, on_err_weaker}
use Rattle.views.specs.Text.{text_of_hits}
use Rattle.views.proofs.PartLemmas.{text-split}
use Rattle.transcript.proofs.WriteLemmas.{done_in_part, done_more, done_all}
use Rattle.transcript.proofs.output.write_lines.Goals as goal

pub returns-in-Err-clause-err : goal.returns-in-Err-clause-err
returns-in-Err-clause-err g c =
    let some = rw c.deref.ensures.value at c.in-Err.ensures.err in
    done_in_part _ _ _ _ c.loop-rest.formed.items _ (text_of_hits c.args.zero c.loop-rest.rest) _ c.loop-rest.invariant refl some

pub loop-rest-preserved : goal.loop-rest-preserved
loop-rest-preserved g c =
    let formed = c.loop-rest.formed.items in
    let cut = c.split_at-piece in
    let others = text_of_hits c.args.zero cut.result.1 in
    let piece = text-split c.args.zero c.loop-rest.rest cut.result.0 cut.result.1 _ cut.ensures.front cut.ensures.back in
    let next = piece ∙ ap (λ t. t ++ others) (sym c.in-Ok.ensures.next) in
    let wrote = rw c.deref.ensures.value at c.in-Ok.ensures.ok in
    done_more _ _ _ _ formed _ (c.in-Ok.next.items ++ others) _ c.loop-rest.invariant (ap (λ t. formed ++ t) next) _ wrote

pub returns-clause-ok : goal.returns-clause-ok
returns-clause-ok g c =
    let formed = c.loop-rest.formed.items in
    let rest = c.loop-rest.rest in
    let none : rest ≡ [] = search rules in
    let one = rw c.deref-2.ensures.value at c.write_behind.ensures.ok in
    on_ok_weaker c.write_behind.result
    (λ wrote. done_all _ _ _ _ _ (ap (text_of_hits c.args.zero) none)
    (done_more _ _ _ _ formed _ (text_of_hits c.args.zero rest) _ c.loop-rest.invariant refl _ wrote)) one

pub returns-clause-err : goal.returns-clause-err
returns-clause-err g c =
    let one = rw c.deref-2.ensures.value at c.write_behind.ensures.err in
    on_err_weaker c.write_behind.result
    (λ some. done_in_part _ _ _ _ c.loop-rest.formed.items _ (text_of_hits c.args.zero c.loop-rest.rest) _ c.loop-rest.invariant refl some) one
