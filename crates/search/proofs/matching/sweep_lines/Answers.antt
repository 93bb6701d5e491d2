use Rattle.std.proofs.Common.{◌≡◌, ◌≤◌, ◌+◌, ◌-◌, length, take, drop, sym, subst, arith}
use Rattle.std.proofs.lemmas.List.{length-take, length-drop}
use Rattle.lines.specs.Lines.{lines_of}
use Rattle.engine.proofs.SameLineLemmas.{line_finder_kept}
use Rattle.views.specs.Found.{numbered}
use Rattle.search.specs.Private.Added.{AddsPlaces}
use Rattle.search.proofs.PlaceLemmas.{rest_is_there, no_place, go_on, at_last}
use Rattle.prepare.specs.Pattern.{with_match}
use Rattle.search.proofs.SweepLemmas.{none_numbered, lines_through, numbered-through, numbered-to_end, first_place, left_after, room_left}
use Rattle.search.proofs.UpToLemmas.{first_all, cut_here, reached, selection_of_text}
use Rattle.search.proofs.matching.sweep_lines.Goals as goal

pub returns-then-first-rest-clause-places : goal.returns-then-first-rest-clause-places
returns-then-first-rest-clause-places c = λ tree body stands name there.
    let at = c.loop-first in
    let text = at.rest.now in
    let first = c.in-Some.first in
    let is = c.in-Some.ensures.some tree (line_finder_kept tree c.args.finder.now at.finder at.invariant.same stands) in
    first_all c.args.most (with_match tree) c.args.document name body (numbered name c.args.from (lines_of c.args.text.now))
    c.args.places.now.items c.push.new.self.items
    (at_last (with_match tree) c.args.document name body (numbered name at.line (lines_of text)) (numbered name c.args.from (lines_of c.args.text.now))
    c.args.places.now.items at.places.items c.push.new.self.items (at.invariant.so_far tree body name stands there)
    (subst (λ lines. AddsPlaces (with_match tree) c.args.document name body lines at.places.items c.push.new.self.items)
    (sym (numbered-to_end tree name at.line text first is c.if-first-rest.true))
    (first_place tree c.args.document name body at.line at.at text first is c.in-Some.ensures.inside (at.invariant.there body there)
    at.places.items c.push.new.self.items c.in_ok-push.ensures.items)))

pub loop-first-preserved : goal.loop-first-preserved
loop-first-preserved c =
    let at = c.loop-first in
    let text = at.rest.now in
    let first = c.in-Some.first in
    let rest = take (length text - (first.end + 1)) (drop (first.end + 1) text) in
    let low : first.end + 1 ≤ length text = omega (arith, c.if-first-rest.false, c.in-Some.ensures.inside.inside) in
    record {
      so_far =
          λ tree body name stands there.
          (let is = c.in-Some.ensures.some tree (line_finder_kept tree c.args.finder.now at.finder at.invariant.same stands) in
          go_on (with_match tree) c.args.document name body (numbered name at.line (lines_through is))
          (numbered name (at.line + first.before + 1) (lines_of rest)) (numbered name at.line (lines_of text))
          (numbered name c.args.from (lines_of c.args.text.now)) c.args.places.now.items at.places.items c.push.new.self.items
          (numbered-through tree name at.line text first is rest (left_after text first)) (at.invariant.so_far tree body name stands there)
          (first_place tree c.args.document name body at.line at.at text first is c.in-Some.ensures.inside (at.invariant.there body there)
          at.places.items c.push.new.self.items c.in_ok-push.ensures.items));
      same = λ tree stands. c.in-Some.ensures.same tree (at.invariant.same tree stands);
      there = λ body there. rest_is_there body at.at text (first.end + 1) low (at.invariant.there body there);
      place =
          omega (
            arith,
            low,
            at.invariant.place,
            length-take (length text - (first.end + 1)) (drop (first.end + 1) text),
            length-drop (first.end + 1) text,
          );
      room =
          room_left at.line (c.args.from + length c.args.text.now) text first c.in-Some.ensures.inside c.if-first-rest.false
          at.invariant.room;
    }

pub returns-clause-places : goal.returns-clause-places
returns-clause-places c = λ tree body stands name there.
    let at = c.loop-first in
    let text = at.rest.now in
    first_all c.args.most (with_match tree) c.args.document name body (numbered name c.args.from (lines_of c.args.text.now))
    c.args.places.now.items at.places.items
    (at_last (with_match tree) c.args.document name body (numbered name at.line (lines_of text)) (numbered name c.args.from (lines_of c.args.text.now))
    c.args.places.now.items at.places.items at.places.items (at.invariant.so_far tree body name stands there)
    (no_place (with_match tree) c.args.document name body (numbered name at.line (lines_of text)) at.places.items
    (none_numbered tree name at.line (lines_of text) (c.in_default.ensures.none tree (line_finder_kept tree c.args.finder.now at.finder at.invariant.same stands)))))

pub returns-then-is_reached-clause-places : goal.returns-then-is_reached-clause-places
returns-then-is_reached-clause-places c = λ tree body stands name there.
    let at = c.loop-first in
    let text = at.rest.now in
    let first = c.in-Some.first in
    let rest = take (length text - (first.end + 1)) (drop (first.end + 1) text) in
    let new = c.push.new.self.items in
    let size : c.len.result ≡ length new = omega (arith, c.len.ensures, c.push.new.self.ok) in
    let is = c.in-Some.ensures.some tree (line_finder_kept tree c.args.finder.now at.finder at.invariant.same stands) in
    cut_here c.args.most (with_match tree) c.args.document name body (numbered name at.line (lines_through is))
    (numbered name (at.line + first.before + 1) (lines_of rest)) (numbered name at.line (lines_of text))
    (numbered name c.args.from (lines_of c.args.text.now)) c.args.places.now.items at.places.items new
    (numbered-through tree name at.line text first is rest (left_after text first)) (at.invariant.so_far tree body name stands there)
    (first_all c.args.most (with_match tree) c.args.document name body (numbered name at.line (lines_through is)) at.places.items new
    (first_place tree c.args.document name body at.line at.at text first is c.in-Some.ensures.inside (at.invariant.there body there)
    at.places.items new c.in_ok-push.ensures.items))
    (reached c.args.most c.is_reached.result c.len.result (length new) c.is_reached.ensures size c.if-is_reached.true)
    (selection_of_text (with_match tree) name (at.line + first.before + 1) rest)
