use Rattle.regex_meta.specs.Programs.{pattern_of}
use Rattle.engine.proofs.CutLemmas.{found_match}
use Rattle.engine.proofs.NextLemmas.{next_match, none_next}
use Rattle.engine.proofs.finding.Finder.next_match.Goals as goal

pub returns-in-Some-clause-within : goal.returns-in-Some-clause-within
returns-in-Some-clause-within c =
    (found_match (pattern_of c.args.self.now.searcher.program.now) c.args.line.now c.args.from c.in-Some.start c.in-Some.end c.in-Some.ensures.found).inside

pub returns-in-Some-clause-found : goal.returns-in-Some-clause-found
returns-in-Some-clause-found c = λ tree stands.
    let re = pattern_of c.args.self.now.searcher.program.now in
    next_match tree re stands c.args.line.now c.requires.no_feed c.args.from c.in-Some.start c.in-Some.end
    (found_match re c.args.line.now c.args.from c.in-Some.start c.in-Some.end c.in-Some.ensures.found)

pub returns-in-None-clause-found : goal.returns-in-None-clause-found
returns-in-None-clause-found c = λ tree stands.
    none_next tree (pattern_of c.args.self.now.searcher.program.now) stands c.args.line.now c.requires.no_feed c.args.from c.in-None.ensures.found
