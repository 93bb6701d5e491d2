use Rattle.std.proofs.Common.{◌≡◌, ◌∷◌, length, sym, ◌∙◌, ap, subst, arith, List}
use Rattle.std.specs.Vec.Iter.{into_iter_items}
use Rattle.std.proofs.lemmas.List.{nil_from_length}
use Rattle.std.proofs.lemmas.Result.{on_ok_weaker, on_err_weaker}
use Rattle.std.specs.Io.KnownBytes.{Appends}
use Rattle.transcript.specs.declared.entry.Entry.{Entry}
use Rattle.transcript.specs.Transcript.{text_of_transcript}
use Rattle.transcript.specs.Written.{AppendsFront}
use Rattle.transcript.proofs.WriteLemmas.{done_all, done_in_part, done_more, held_in_part, held_none}
use Rattle.transcript.proofs.output.write_transcript.Goals as goal

pub returns-in-Err-clause-err : goal.returns-in-Err-clause-err
returns-in-Err-clause-err g c =
    let at = c.loop-entry in
    let steps : into_iter_items at.entry-iterator ≡ c.in-Some.entry ∷ into_iter_items c.next.new.self = c.in-Some.ensures.steps.0 in
    let next = ap (λ es. text_of_transcript c.args.stats es) steps in
    subst (λ (es : List Entry). AppendsFront (g.W.Write.contents c.args.out.now) (g.W.Write.contents c.write_entry.new.out)
    (text_of_transcript c.args.stats es)) c.into_iter-entry-iterator.ensures.into_iter_gives.0
    (done_in_part _ _ _ _ _ _ _ _ at.invariant.so_far next c.in-Err.ensures.err)

pub loop-entry-preserved-in_default : goal.loop-entry-preserved-in_default
loop-entry-preserved-in_default g c =
    let at = c.loop-entry in
    let steps : into_iter_items at.entry-iterator ≡ c.in-Some.entry ∷ into_iter_items c.next.new.self = c.in-Some.ensures.steps.0 in
    let next = ap (λ es. text_of_transcript c.args.stats es) steps in
    record {
      so_far = done_more _ _ _ _ _ _ _ _ at.invariant.so_far next _ c.in_default.ensures.ok;
      len = (let gone = c.in-Some.ensures.steps.1 in let short = ap length steps in omega (arith, at.invariant.len));
    }

pub loop-entry-preserved-in_default-2 : goal.loop-entry-preserved-in_default-2
loop-entry-preserved-in_default-2 g c =
    let at = c.loop-entry in
    let steps : into_iter_items at.entry-iterator ≡ c.in-Some.entry ∷ into_iter_items c.next.new.self = c.in-Some.ensures.steps.0 in
    let next = ap (λ es. text_of_transcript c.args.stats es) steps in
    record {
      so_far = done_more _ _ _ _ _ _ _ _ at.invariant.so_far next _ c.in_default.ensures.ok;
      len = (let gone = c.in-Some.ensures.steps.1 in let short = ap length steps in omega (arith, at.invariant.len));
    }

pub loop-entry-preserved-in_default-3 : goal.loop-entry-preserved-in_default-3
loop-entry-preserved-in_default-3 g c =
    let at = c.loop-entry in
    let steps : into_iter_items at.entry-iterator ≡ c.in-Some.entry ∷ into_iter_items c.next.new.self = c.in-Some.ensures.steps.0 in
    let next = ap (λ es. text_of_transcript c.args.stats es) steps in
    record {
      so_far = done_more _ _ _ _ _ _ _ _ at.invariant.so_far next _ c.in_default.ensures.ok;
      len = (let gone = c.in-Some.ensures.steps.1 in let short = ap length steps in omega (arith, at.invariant.len));
    }

pub loop-entry-preserved : goal.loop-entry-preserved
loop-entry-preserved g c =
    let at = c.loop-entry in
    let steps : into_iter_items at.entry-iterator ≡ c.in-Some.entry ∷ into_iter_items c.next.new.self = c.in-Some.ensures.steps.0 in
    let next = ap (λ es. text_of_transcript c.args.stats es) steps in
    record {
      so_far = done_more _ _ _ _ _ _ _ _ at.invariant.so_far next _ c.in_default.ensures.ok;
      len = (let gone = c.in-Some.ensures.steps.1 in let short = ap length steps in omega (arith, at.invariant.len));
    }

pub returns-clause-ok : goal.returns-clause-ok
returns-clause-ok g c =
    let at = c.loop-entry in
    let none = nil_from_length (into_iter_items at.entry-iterator) (sym at.invariant.len ∙ c.in-None.ensures.steps.0) in
    let held = done_all _ _ _ _ _ (ap (λ es. text_of_transcript c.args.stats es) none) at.invariant.so_far in
    on_ok_weaker c.write_whole.result (λ last.
    subst (λ (es : List Entry). Appends (g.W.Write.contents c.args.out.now) (g.W.Write.contents c.write_whole.new.out)
    (text_of_transcript c.args.stats es)) c.into_iter-entry-iterator.ensures.into_iter_gives.0 (held_none _ _ _ _ _ held last))
    (rw c.deref.ensures.value at c.write_whole.ensures.ok)

pub returns-clause-err : goal.returns-clause-err
returns-clause-err g c =
    let at = c.loop-entry in
    let none = nil_from_length (into_iter_items at.entry-iterator) (sym at.invariant.len ∙ c.in-None.ensures.steps.0) in
    let held = done_all _ _ _ _ _ (ap (λ es. text_of_transcript c.args.stats es) none) at.invariant.so_far in
    on_err_weaker c.write_whole.result (λ some.
    subst (λ (es : List Entry). AppendsFront (g.W.Write.contents c.args.out.now) (g.W.Write.contents c.write_whole.new.out)
    (text_of_transcript c.args.stats es)) c.into_iter-entry-iterator.ensures.into_iter_gives.0 (held_in_part _ _ _ _ _ held some))
    (rw c.deref.ensures.value at c.write_whole.ensures.err)
