use Rattle.search.specs.Private.Seekers.{IsLeastStart}
use Rattle.spans.specs.Passes.{NoSpanBegins}
use Rattle.search.proofs.SeekerLemmas.{empty_first, first_by_halving, none_of, some_of}
use Rattle.search.proofs.seeker.halved_start.Goals as goal

pub returns-in-Some-clause-found : goal.returns-in-Some-clause-found
returns-in-Some-clause-found g c = λ tree is.
    let line = c.args.line.now in
    let words = c.args.whole_words in
    let past = c.unwrap_or-past.result in
    first_by_halving line tree words c.first_empty-empty.result past c.in-Some.start c.unwrap_or-past.ensures (c.first_empty-empty.ensures tree is)
    (some_of (NoSpanBegins line tree words 0 past) (IsLeastStart line tree words 0 past) c.in_ok-start.field-0 c.in-Some.start c.in-Some.is
    (c.in_ok-start.ensures.found tree is))

pub returns-in-None-clause-found : goal.returns-in-None-clause-found
returns-in-None-clause-found g c = λ tree is.
    let line = c.args.line.now in
    let words = c.args.whole_words in
    let past = c.unwrap_or-past.result in
    empty_first line tree words c.first_empty-empty.result past c.unwrap_or-past.ensures (c.first_empty-empty.ensures tree is)
    (none_of (NoSpanBegins line tree words 0 past) (IsLeastStart line tree words 0 past) c.in_ok-start.field-0 c.in-None.is
    (c.in_ok-start.ensures.found tree is))
