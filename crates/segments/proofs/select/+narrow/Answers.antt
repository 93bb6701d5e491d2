use Rattle.std.proofs.Common.{◌≡◌, ◌+◌, arith, length, get_or, false, map, sym, ap, ◌∙◌}
use Rattle.std.specs.Prelude.{filter}
use Rattle.std.proofs.lemmas.List.{take_at}
use Rattle.std.proofs.lemmas.Result.{IfOk-weaker}
use Rattle.query.specs.declared.query.Query.TheVariants as query
use Rattle.query.specs.Query.{one_of, formulas_of, formula_of}
use Rattle.segments.specs.Private.Selection.{chosen, places_within}
use Rattle.segments.proofs.Selection.{chosen-Any, chosen-None, chosen-Has, chosen-Pairs, chosen-And, chosen-Or, is_met_by}
use Rattle.segments.proofs.Selection.{narrowed_none, narrowed_first, narrowed_more, narrowed_same, narrowed_ends, rises_too, all_selected}
use Rattle.segments.proofs.Selection.{found_fits, marked_more, marked_ends, one_selected}
use Rattle.segments.proofs.select.+narrow.Goals as goal
use Rattle.segments.proofs.select.+narrow.Goals.{narrow_by_all-in-Some+in_ok-found-in-Some, narrow_by_all-in-None+in_ok-found-in-None}
use Rattle.segments.proofs.select.+narrow.Goals.{narrow_by_all-then-i-first+in_ok-found, narrow_by_all-else-i-first}

pub narrow-returns-then-is_none_within-clause-chosen : goal.narrow-returns-then-is_none_within-clause-chosen
narrow-returns-then-is_none_within-clause-chosen g t c =
    c.new.ensures.items ∙ ap (chosen c.args.table.now (formula_of c.args.query.now)) (sym (c.is_none_within.ensures c.if-is_none_within.true))

pub narrow-returns-in-Any-clause-chosen : goal.narrow-returns-in-Any-clause-chosen
narrow-returns-in-Any-clause-chosen g t c = rw (c.in-Any.is, chosen-Any c.args.table.now (places_within c.args.count c.args.within)) c.all_within.ensures.all

pub narrow-returns-in-None-clause-chosen : goal.narrow-returns-in-None-clause-chosen
narrow-returns-in-None-clause-chosen g t c = rw (c.in-None.is, chosen-None c.args.table.now (places_within c.args.count c.args.within)) c.new-in-None.ensures.items

pub narrow-returns-in-Has-clause-chosen : goal.narrow-returns-in-Has-clause-chosen
narrow-returns-in-Has-clause-chosen g t c =
    rw (c.in-Has.is, chosen-Has c.args.table.now c.in-Has.trigram (places_within c.args.count c.args.within)) c.those_with.ensures.found

pub narrow-returns-in-Pairs-clause-chosen : goal.narrow-returns-in-Pairs-clause-chosen
narrow-returns-in-Pairs-clause-chosen g t c =
    rw (c.in-Pairs.is, chosen-Pairs c.args.table.now c.in-Pairs.pairs (places_within c.args.count c.args.within)) (rw c.deref.ensures at c.narrow_by_texts.ensures.chosen)

pub narrow-returns-in-And-clause-chosen : goal.narrow-returns-in-And-clause-chosen
narrow-returns-in-And-clause-chosen g t c =
    rw (c.in-And.is, chosen-And c.args.table.now c.in-And.members (places_within c.args.count c.args.within)) (rw c.as_slice.ensures.value at c.narrow_by_all.ensures.chosen)

pub narrow-returns-in-Or-clause-chosen : goal.narrow-returns-in-Or-clause-chosen
narrow-returns-in-Or-clause-chosen g t c =
    rw (c.in-Or.is, chosen-Or c.args.table.now c.in-Or.members (places_within c.args.count c.args.within)) (rw c.as_slice-in-Or.ensures.value at c.narrow_by_any.ensures.chosen)

pub narrow_by_all-loop-i-init : goal.narrow_by_all-loop-i-init
narrow_by_all-loop-i-init g t c =
    let test = is_met_by c.args.table.now in
    let members = c.args.members.now in
    let first = c.in_ok-first.first in
    let within = places_within c.args.count c.args.within in
    elim c.match-get.branch [
      | narrow_by_all-in-Some+in_ok-found-in-Some w ↦
          let found = w.in_ok-found-in-Some.found.items in
          rw w.found-is
          (rises_too test members first 0 within found
          (narrowed_first test members first w.in-Some.member.now within found w.in-Some.ensures.lookup.3.0
          (w.in-Some.ensures.lookup.3.1 w.in-Some.member.now) w.in_ok-found-in-Some.ensures.chosen) c.requires.rises)
      | narrow_by_all-in-None+in_ok-found-in-None w ↦
          let found = w.in_ok-found-in-None.found.items in
          rw w.found-is
          (rises_too test members first 0 within found
          (narrowed_none test members first within found w.in-None.ensures.lookup.3 w.in_ok-found-in-None.ensures.all) c.requires.rises)
    ]

pub narrow_by_all-loop-i-preserved : goal.narrow_by_all-loop-i-preserved
narrow_by_all-loop-i-preserved g t c =
    let test = is_met_by c.args.table.now in
    let members = c.args.members.now in
    let first = c.in_ok-first.first in
    let within = places_within c.args.count c.args.within in
    let l = c.loop-i in
    elim c.if-i-first.branch [
      | narrow_by_all-then-i-first+in_ok-found w ↦
          rw w.found-is
          (rises_too test members first (l.i + 1) within w.in_ok-found.found.items
          (narrowed_more test members first l.i w.index-members-i.result within l.found.items w.in_ok-found.found.items c.loop-i-test.true
          w.index-members-i.is l.invariant.is (rw w.as_slice.ensures.value at w.in_ok-found.ensures.chosen)) c.requires.rises)
      | narrow_by_all-else-i-first w ↦
          rw w.found-is
          (rises_too test members first (l.i + 1) within l.found.items
          (narrowed_same test members first l.i query.Any within l.found.items c.loop-i-test.true (omega (arith, w.if-i-first.false)) l.invariant.is)
          c.requires.rises)
    ]

pub narrow_by_all-returns-clause-chosen : goal.narrow_by_all-returns-clause-chosen
narrow_by_all-returns-clause-chosen g t c =
    let sets = c.args.table.now in
    let within = places_within c.args.count c.args.within in
    all_selected sets c.args.members.now within c.loop-i.found.items
    (narrowed_ends (is_met_by sets) c.args.members.now c.in_ok-first.first c.loop-i.i within c.loop-i.found.items c.loop-i-test.false
    c.loop-i.invariant.is)

pub narrow_by_any-mark-requires : goal.narrow_by_any-mark-requires
narrow_by_any-mark-requires g t c =
    rw (c.as_slice.ensures.value, c.deref_mut.ensures.value)
    (found_fits (λ n. is_met_by c.args.table.now n c.member-item.result) (places_within c.args.count c.args.within) c.in_ok-found.found.items
    (length c.loop-member.marks.items) c.in_ok-found.ensures.chosen c.loop-member.invariant.fits)

pub narrow_by_any-loop-member-preserved : goal.narrow_by_any-loop-member-preserved
narrow_by_any-loop-member-preserved g t c =
    let more = c.mark.new.marks in
    let kept : length more ≡ c.loop-member.marks.len = omega arith in
    rw (take_at more _ c.loop-member.marks.len kept)
    (marked_more (is_met_by c.args.table.now) c.args.members.now c.loop-member.member-index c.member-item.result (places_within c.args.count c.args.within)
    c.in_ok-found.found.items c.loop-member.marks.items more c.loop-member-test.true c.member-item.is c.in_ok-found.ensures.chosen (omega arith)
    (λ n. rw (c.deref_mut.ensures.value, c.as_slice.ensures.value) at (c.mark.ensures n)) c.loop-member.invariant)

pub narrow_by_any-returns-clause-chosen : goal.narrow_by_any-returns-clause-chosen
narrow_by_any-returns-clause-chosen g t c =
    let sets = c.args.table.now in
    let within = places_within c.args.count c.args.within in
    let marks = c.loop-member.marks.items in
    IfOk-weaker c.marked_within.result (λ v. v.items ≡ filter (λ n. get_or marks n false) within)
    (λ v. v.items ≡ chosen sets (one_of (formulas_of (map formula_of c.args.members.now))) within)
    (λ v e.
    one_selected sets c.args.members.now within v.items
    (marked_ends (is_met_by sets) c.args.members.now c.loop-member.member-index within v.items marks c.loop-member-test.false c.loop-member.invariant e))
    (rw c.deref.ensures.value at c.marked_within.ensures.marked)
