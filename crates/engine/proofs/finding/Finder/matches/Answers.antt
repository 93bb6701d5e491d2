use Rattle.regex_meta.specs.Programs.{pattern_of}
use Rattle.engine.proofs.CutLemmas.{line_matches}
use Rattle.engine.proofs.finding.Finder.matches.Goals as goal

pub returns-clause-found : goal.returns-clause-found
returns-clause-found c =
    λ tree stands.
    let found =
    line_matches stands.other (pattern_of c.args.self.now.searcher.program.now) stands.of c.args.line.now c.requires c.is_match.result
    c.is_match.ensures.found in
    (λ h. (stands.same c.args.line.now).1 (found.0 h), λ m. found.1 ((stands.same c.args.line.now).0 m))
