use Rattle.std.proofs.Common.{◌≡◌, ◌+◌, ◌-◌, refl, length, take, drop, arith}
use Rattle.std.proofs.lemmas.List.{length-take, length-drop}
use Rattle.prepare.specs.Tests.{test_of}
use Rattle.lines.specs.Lines.{lines_of}
use Rattle.documents.specs.Text.{greatest_body}
use Rattle.views.specs.Found.{numbered, lines_of_document}
use Rattle.search.proofs.PieceLemmas.{rest_of, room_for_lines, room_after, numbered-pieces}
use Rattle.search.proofs.PlaceLemmas.{first_is_there, rest_is_there, go_on}
use Rattle.search.proofs.UpToLemmas.{all_added, cut_here, last_added, reached, not_reached, selection_of_text}
use Rattle.search.proofs.matching.scan_body.Goals as goal

pub overflow_cast-line : goal.overflow_cast-line
overflow_cast-line g c =
    let at = c.loop-end in
    let most =
    room_for_lines at.rest.now at.end at.line c.lines_before.result (1 + greatest_body) c.lines_before.ensures at.invariant.piece.inside
    at.invariant.room in
    omega (arith, most)

pub overflow_add-line : goal.overflow_add-line
overflow_add-line g c =
    let at = c.loop-end in
    let most =
    room_for_lines at.rest.now at.end at.line c.lines_before.result (1 + greatest_body) c.lines_before.ensures at.invariant.piece.inside
    at.invariant.room in
    omega (arith, most)

pub loop-end-preserved : goal.loop-end-preserved
loop-end-preserved g c =
    let at = c.loop-end in
    let text = at.rest.now in
    let body = c.args.body.now in
    let lines = c.lines_before.result in
    let whole_lines = at.invariant.piece.whole_lines c.loop-end-test.true in
    record {
      so_far =
          λ name.
          go_on (test_of c.args.test.now) c.args.document name body (numbered name at.line (lines_of (take at.end text)))
          (numbered name (at.line + lines) (lines_of (rest_of text at.end))) (numbered name at.line (lines_of text))
          (lines_of_document name body) c.args.places.now.items at.places.items c.scan_piece.new.places.items
          (numbered-pieces name at.line text at.end whole_lines lines c.lines_before.ensures) (at.invariant.so_far name)
          (all_added c.args.most (test_of c.args.test.now) c.args.document name body (numbered name at.line (lines_of (take at.end text)))
          at.places.items c.scan_piece.new.places.items
          (not_reached c.args.most c.is_reached.result c.len.result (length c.scan_piece.new.places.items) c.is_reached.ensures
          (omega (arith, c.len.ensures, c.scan_piece.new.places.ok)) c.if-is_reached.false)
          (c.in_ok-scan_piece.ensures.places body name
          (first_is_there body at.offset text at.end at.invariant.piece.inside at.invariant.there)));
      way = c.scan_piece.ensures.way;
      there = rest_is_there body at.offset text at.end at.invariant.piece.inside at.invariant.there;
      place =
          omega (
            arith,
            at.invariant.place,
            at.invariant.piece.inside,
            length-take (length text - at.end) (drop at.end text),
            length-drop at.end text,
          );
      room = room_after text at.end at.line lines (1 + greatest_body) c.lines_before.ensures at.invariant.piece.inside at.invariant.room;
      piece = c.piece_end-end-in-loop-end.ensures;
    }

pub returns-clause-places : goal.returns-clause-places
returns-clause-places g c = λ name.
    let at = c.loop-end in
    let body = c.args.body.now in
    last_added c.args.most (test_of c.args.test.now) c.args.document name body (numbered name at.line (lines_of at.rest.now)) (lines_of_document name body)
    c.args.places.now.items at.places.items c.scan_piece-2.new.places.items (at.invariant.so_far name)
    (c.in_ok-scan_piece-2.ensures.places body name at.invariant.there)

pub returns-then-is_reached-clause-places : goal.returns-then-is_reached-clause-places
returns-then-is_reached-clause-places g c = λ name.
    let at = c.loop-end in
    let test = test_of c.args.test.now in
    let text = at.rest.now in
    let body = c.args.body.now in
    let new = c.scan_piece.new.places.items in
    let lines = length (lines_of (take at.end text)) in
    let size : c.len.result ≡ length new = omega (arith, c.len.ensures, c.scan_piece.new.places.ok) in
    cut_here c.args.most test c.args.document name body (numbered name at.line (lines_of (take at.end text)))
    (numbered name (at.line + lines) (lines_of (rest_of text at.end))) (numbered name at.line (lines_of text))
    (lines_of_document name body) c.args.places.now.items at.places.items new
    (numbered-pieces name at.line text at.end (at.invariant.piece.whole_lines c.loop-end-test.true) lines refl) (at.invariant.so_far name)
    (c.in_ok-scan_piece.ensures.places body name
    (first_is_there body at.offset text at.end at.invariant.piece.inside at.invariant.there))
    (reached c.args.most c.is_reached.result c.len.result (length new) c.is_reached.ensures size c.if-is_reached.true)
    (selection_of_text test name (at.line + lines) (rest_of text at.end))
