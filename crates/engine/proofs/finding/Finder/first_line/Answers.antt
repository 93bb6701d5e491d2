use Rattle.std.proofs.Common.{sym, subst, ◌<◌, length, arith}
use Rattle.regex_hir.specs.Find.{find}
use Rattle.regex_meta.specs.Programs.{pattern_of}
use Rattle.engine.specs.FirstLine.{IsLineStart, IsLineEnd}
use Rattle.engine.proofs.MatchLemmas.{no_match}
use Rattle.engine.proofs.CutLemmas.{found_match, found_nothing, nothing_after, first_of_line, inside_text}
use Rattle.engine.proofs.SameLineLemmas.{no_match_either, first_of_either}
use Rattle.engine.proofs.finding.Finder.first_line.Goals as goal

pub line_start-start-requires : goal.line_start-start-requires
line_start-start-requires c =
    (found_match (pattern_of c.args.self.now.searcher.program.now) c.args.text.now 0 c.in-Some.from c.in-Some.field-0-1 c.in-Some.ensures.found).inside

pub lines_before-before-requires-clause-inside : goal.lines_before-before-requires-clause-inside
lines_before-before-requires-clause-inside c =
    let re = pattern_of c.args.self.now.searcher.program.now in
    let m = found_match re c.args.text.now 0 c.in-Some.from c.in-Some.field-0-1 c.in-Some.ensures.found in
    omega (arith, m.inside, c.line_start-start.ensures.low)

pub line_end-end-requires : goal.line_end-end-requires
line_end-end-requires c =
    (found_match (pattern_of c.args.self.now.searcher.program.now) c.args.text.now 0 c.in-Some.from c.in-Some.field-0-1 c.in-Some.ensures.found).inside

pub returns-in_default-clause-none : goal.returns-in_default-clause-none
returns-in_default-clause-none c =
    let re = pattern_of c.args.self.now.searcher.program.now in
    λ tree stands.
    no_match_either tree stands.other c.args.text.now stands.same
    (no_match stands.other re stands.of c.args.text.now (found_nothing (find re c.args.text.now 0) c.in_default.ensures.found))

pub returns-then-start-text-clause-none : goal.returns-then-start-text-clause-none
returns-then-start-text-clause-none c = λ tree stands.
    let re = pattern_of c.args.self.now.searcher.program.now in
    let m = found_match re c.args.text.now 0 c.in-Some.from c.in-Some.field-0-1 c.in-Some.ensures.found in
    no_match_either tree stands.other c.args.text.now stands.same
    (nothing_after stands.other re stands.of c.args.text.now m.m m.is c.line_start-start.result
    (subst (λ i. IsLineStart c.args.text.now i c.line_start-start.result) (sym m.starts) c.line_start-start.ensures) c.if-start-text.true)

pub returns-clause-some : goal.returns-clause-some
returns-clause-some c = λ tree stands.
    let re = pattern_of c.args.self.now.searcher.program.now in
    let m = found_match re c.args.text.now 0 c.in-Some.from c.in-Some.field-0-1 c.in-Some.ensures.found in
    let some : c.line_start-start.result < length c.args.text.now = omega (arith, c.line_start-start.ensures.low, m.inside, c.if-start-text.false) in
    first_of_either tree stands.other c.args.text.now _ stands.same
    (first_of_line stands.other re stands.of c.args.text.now m.m m.is c.line_start-start.result c.line_end-end.result c.lines_before-before.result
    some (subst (λ i. IsLineStart c.args.text.now i c.line_start-start.result) (sym m.starts) c.line_start-start.ensures)
    (subst (λ i. IsLineEnd c.args.text.now i c.line_end-end.result) (sym m.starts) c.line_end-end.ensures)
    c.lines_before-before.ensures)

pub returns-clause-inside : goal.returns-clause-inside
returns-clause-inside c =
    inside_text c.args.text.now c.in-Some.from c.line_start-start.result c.line_end-end.result c.lines_before-before.result
    c.line_start-start.ensures c.line_end-end.ensures c.lines_before-before.ensures
