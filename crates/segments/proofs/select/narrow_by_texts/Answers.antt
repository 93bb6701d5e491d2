use Rattle.std.proofs.Common.{◌≡◌, ◌∙◌, ap, arith, length, get_or, false}
use Rattle.std.specs.Prelude.{filter}
use Rattle.std.specs.List.{list_all}
use Rattle.std.proofs.lemmas.List.{take_at}
use Rattle.std.proofs.lemmas.Result.{IfOk-weaker}
use Rattle.query.specs.Trigrams.{TrigramSet, has_all_trigrams}
use Rattle.query.specs.Texts.{texts_of}
use Rattle.query.specs.Pairs.{texts_in}
use Rattle.query.specs.Query.{texts}
use Rattle.segments.specs.Private.Selection.{chosen, places_within}
use Rattle.segments.proofs.Selection.{has_text_of, found_fits, marked_more, marked_ends, text_narrowed, texts_selected}
use Rattle.segments.proofs.select.narrow_by_texts.Goals as goal
use Rattle.segments.proofs.select.narrow_by_texts.Given.{Over}
use Rattle.segments.proofs.select.narrow_by_texts.Goals.{After-as_slice-in-loop-text-2}

-- what is found for one text
for_text : (g : Over) (c : After-as_slice-in-loop-text-2 g)
    → c.in_ok-found.found.items ≡ filter (λ n. has_text_of c.args.table.now n c.text-item.result) (places_within c.args.count c.args.within)
for_text g c =
    let ts = c.in_ok-trigrams.trigrams.items in
    let text = c.text-item.result.items in
    let same : (set : TrigramSet) → list_all set ts ≡ has_all_trigrams text set = λ set. rw c.as_slice.ensures.value at (c.in_ok-trigrams.ensures set) in
    text_narrowed c.args.table.now ts text (places_within c.args.count c.args.within) c.in_ok-found.found.items same
    (rw c.as_slice-in-loop-text.ensures.value at c.in_ok-found.ensures.found)

pub mark-requires : goal.mark-requires
mark-requires g c =
    rw (c.as_slice-in-loop-text-2.ensures.value, c.deref_mut.ensures.value)
    (found_fits (λ n. has_text_of c.args.table.now n c.text-item.result) (places_within c.args.count c.args.within) c.in_ok-found.found.items (length c.loop-text.marks.items)
    (for_text g c) c.loop-text.invariant.fits)

pub loop-text-preserved : goal.loop-text-preserved
loop-text-preserved g c =
    let more = c.mark.new.marks in
    let marks = c.loop-text.marks.items in
    let kept : length more ≡ c.loop-text.marks.len = omega arith in
    rw (take_at more _ c.loop-text.marks.len kept)
    (marked_more (has_text_of c.args.table.now) c.deref-text-items.result.now c.loop-text.text-index c.text-item.result (places_within c.args.count c.args.within)
    c.in_ok-found.found.items marks more c.loop-text-test.true c.text-item.is
    (for_text g (goal.at.loop-text-preserved g c).After-as_slice-in-loop-text-2) (omega arith)
    (λ n. rw (c.deref_mut.ensures.value, c.as_slice-in-loop-text-2.ensures.value) at (c.mark.ensures n)) c.loop-text.invariant)

pub returns-clause-chosen : goal.returns-clause-chosen
returns-clause-chosen g c =
    let sets = c.args.table.now in
    let within = places_within c.args.count c.args.within in
    let vecs = c.deref-text-items.result.now in
    let marks = c.loop-text.marks.items in
    IfOk-weaker c.marked_within.result (λ v. v.items ≡ filter (λ n. get_or marks n false) within) (λ v. v.items ≡ chosen sets (texts (texts_in c.args.pairs.now)) within)
    (λ v e.
    texts_selected sets vecs (texts_in c.args.pairs.now) within v.items (ap texts_of c.deref-text-items.ensures.value ∙ c.in_ok-texts.ensures)
    (marked_ends (has_text_of sets) vecs c.loop-text.text-index within v.items marks c.loop-text-test.false c.loop-text.invariant e))
    (rw c.deref.ensures.value at c.marked_within.ensures.marked)
