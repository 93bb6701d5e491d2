use Rattle.std.proofs.Common.{◌≡◌, ◌<◌, ◌+◌, ◌-◌, ◌∷◌, [], length, take, drop, sym, subst, arith}
use Rattle.std.proofs.lemmas.Bool.Decides.{nat_tests}
use Rattle.std.proofs.lemmas.List.{length-take, length-drop}
use Rattle.std.proofs.lemmas.Result.{on_ok_weaker}
use Rattle.prepare.specs.Tests.{test_of}
use Rattle.lines.specs.Lines.{lines_of}
use Rattle.views.specs.Found.{found, numbered}
use Rattle.search.specs.Private.Added.{AddsPlaces}
use Rattle.views.proofs.LineLemmas.{room-rest, numbered-first, numbered-last, numbered-empty}
use Rattle.search.proofs.PlaceLemmas.{first_is_there, rest_is_there, go_on, at_end, at_last}
use Rattle.search.proofs.UpToLemmas.{first_all, cut_here, reached, selection_of_text}
use Rattle.search.proofs.matching.scan_lines.Goals as goal

pub loop-end-preserved : goal.loop-end-preserved
loop-end-preserved g c =
    let at = c.loop-end in
    let text = at.rest.now in
    let end = c.in-Some.end in
    let rest = take (length text - (end + 1)) (drop (end + 1) text) in
    let low : end < length text = c.in-Some.ensures.0.high in
    record {
      so_far =
          λ body name there.
          go_on (test_of c.args.test.now) c.args.document name body (found name at.line (take end text) ∷ [])
          (numbered name (at.line + 1) (lines_of rest)) (numbered name at.line (lines_of text))
          (numbered name c.args.from (lines_of c.args.text.now)) c.args.places.now.items at.places.items c.scan_line.new.places.items
          (numbered-first name at.line text end c.in-Some.ensures) (at.invariant.so_far body name there)
          (c.in_ok-scan_line.ensures.places name body (first_is_there body at.at text end (omega arith) (at.invariant.there body there)));
      way = c.scan_line.ensures.way;
      there = λ body there. rest_is_there body at.at text (end + 1) (omega arith) (at.invariant.there body there);
      place = omega (arith, at.invariant.place, length-take (length text - (end + 1)) (drop (end + 1) text), length-drop (end + 1) text);
      room = room-rest at.line (c.args.from + length c.args.text.now) text end c.in-Some.ensures at.invariant.room;
    }

pub returns-then-is_empty-clause-places : goal.returns-then-is_empty-clause-places
returns-then-is_empty-clause-places g c = λ body name there.
    let at = c.loop-end in
    let empty : length at.rest.now ≡ 0 = grind (arith, nat_tests) in
    first_all c.args.most (test_of c.args.test.now) c.args.document name body (numbered name c.args.from (lines_of c.args.text.now))
    c.args.places.now.items at.places.items
    (at_end (test_of c.args.test.now) c.args.document name body (numbered name at.line (lines_of at.rest.now))
    (numbered name c.args.from (lines_of c.args.text.now)) c.args.places.now.items at.places.items
    (numbered-empty name at.line at.rest.now empty) (at.invariant.so_far body name there))

pub returns-clause-places : goal.returns-clause-places
returns-clause-places g c =
    let at = c.loop-end in
    let text = at.rest.now in
    let some : 0 < length text = grind (arith, nat_tests) in
    on_ok_weaker c.scan_line-2.result (λ added. λ body name there.
    first_all c.args.most (test_of c.args.test.now) c.args.document name body (numbered name c.args.from (lines_of c.args.text.now))
    c.args.places.now.items c.scan_line-2.new.places.items
    (at_last (test_of c.args.test.now) c.args.document name body (numbered name at.line (lines_of text))
    (numbered name c.args.from (lines_of c.args.text.now)) c.args.places.now.items at.places.items c.scan_line-2.new.places.items
    (at.invariant.so_far body name there)
    (subst (λ lines. AddsPlaces (test_of c.args.test.now) c.args.document name body lines at.places.items c.scan_line-2.new.places.items)
    (sym (numbered-last name at.line text some c.in_default.ensures)) (added name body (at.invariant.there body there))))) c.scan_line-2.ensures.places

pub returns-then-is_reached-clause-places : goal.returns-then-is_reached-clause-places
returns-then-is_reached-clause-places g c = λ body name there.
    let at = c.loop-end in
    let test = test_of c.args.test.now in
    let text = at.rest.now in
    let end = c.in-Some.end in
    let rest = take (length text - (end + 1)) (drop (end + 1) text) in
    let low : end < length text = c.in-Some.ensures.0.high in
    let new = c.scan_line.new.places.items in
    let size : c.len.result ≡ length new = omega (arith, c.len.ensures, c.scan_line.new.places.ok) in
    cut_here c.args.most test c.args.document name body (found name at.line (take end text) ∷ []) (numbered name (at.line + 1) (lines_of rest))
    (numbered name at.line (lines_of text)) (numbered name c.args.from (lines_of c.args.text.now)) c.args.places.now.items at.places.items new
    (numbered-first name at.line text end c.in-Some.ensures) (at.invariant.so_far body name there)
    (first_all c.args.most test c.args.document name body (found name at.line (take end text) ∷ []) at.places.items new
    (c.in_ok-scan_line.ensures.places name body (first_is_there body at.at text end (omega arith) (at.invariant.there body there))))
    (reached c.args.most c.is_reached.result c.len.result (length new) c.is_reached.ensures size c.if-is_reached.true)
    (selection_of_text test name (at.line + 1) rest)
