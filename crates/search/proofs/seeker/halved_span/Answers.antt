use Rattle.std.proofs.Common.{length}
use Rattle.spans.specs.Passes.{HasNoSpanAt, IsLongestEnd, NoSpanBegins}
use Rattle.search.specs.Private.Seekers.{IsLeastStart}
use Rattle.search.proofs.SeekerLemmas.{first_of_least, none_halved, none_of, some_end, some_of}
use Rattle.search.proofs.seeker.halved_span.Goals as goal

pub longest_end-requires : goal.longest_end-requires
longest_end-requires g c = (c.requires.0, c.least_start.ensures.same c.requires.0 c.requires.1)

pub returns-in_default-clause-found : goal.returns-in_default-clause-found
returns-in_default-clause-found g c = λ tree is.
    let line = c.args.line.now in
    let words = c.args.whole_words in
    none_halved line tree words c.args.from
    (none_of (NoSpanBegins line tree words c.args.from (length line)) (IsLeastStart line tree words c.args.from (length line)) c.in_ok-start.field-0
    c.in_default.is (c.in_ok-start.ensures.found tree is))

pub returns-in-Some-longest-clause-found : goal.returns-in-Some-longest-clause-found
returns-in-Some-longest-clause-found g c = λ tree is.
    let line = c.args.line.now in
    let words = c.args.whole_words in
    first_of_least line tree words c.args.from c.in-Some.start c.in-Some-longest.end
    (some_of (NoSpanBegins line tree words c.args.from (length line)) (IsLeastStart line tree words c.args.from (length line)) c.in_ok-start.field-0
    c.in-Some.start c.in-Some.is (c.in_ok-start.ensures.found tree is))
    (some_of (HasNoSpanAt line tree words c.in-Some.start) (IsLongestEnd line tree words c.in-Some.start) c.in_ok-longest.longest c.in-Some-longest.end
    c.in-Some-longest.is (c.in_ok-longest.ensures.found tree (c.least_start.ensures.same tree is)))

pub returns-in-None-clause-found : goal.returns-in-None-clause-found
returns-in-None-clause-found g c = λ tree is.
    let line = c.args.line.now in
    let words = c.args.whole_words in
    absurd (some_end line tree words c.args.from (length line) c.in-Some.start
    (some_of (NoSpanBegins line tree words c.args.from (length line)) (IsLeastStart line tree words c.args.from (length line)) c.in_ok-start.field-0
    c.in-Some.start c.in-Some.is (c.in_ok-start.ensures.found tree is)) (none_of (HasNoSpanAt line tree words c.in-Some.start) (IsLongestEnd line tree words c.in-Some.start) c.in_ok-longest.longest c.in-None.is
    (c.in_ok-longest.ensures.found tree (c.least_start.ensures.same tree is))))
