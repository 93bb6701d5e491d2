use Rattle.std.proofs.Common.{Bool, MatchOption, Some, ap, arith, false, refl, sym, subst, ◌∙◌}
use Rattle.std.proofs.lemmas.Result.{IfOk-weaker}
use Rattle.spans.specs.FirstStart.{HasNoStart, IsFirstStart}
use Rattle.spans.specs.Passes.{HasNoEmpty, IsFirstEmpty}
use Rattle.search.proofs.SeekerLemmas.{empty_first, finder_in, first_by_finder, some_of}
use Rattle.search.proofs.seeker.Seeker.first_start.Goals as goal

pub halved_start-requires : goal.halved_start-requires
halved_start-requires g c = (c.requires.seeks.0, c.requires.seeks.1.simulation)

pub halved_start-requires-in-None : goal.halved_start-requires-in-None
halved_start-requires-in-None g c = (c.requires.seeks.0, c.requires.seeks.1.simulation)

pub halved_start-requires-then-line-longest : goal.halved_start-requires-then-line-longest
halved_start-requires-then-line-longest g c = (c.requires.seeks.0, c.requires.seeks.1.simulation)

pub returns-then-line-longest-clause-found : goal.returns-then-line-longest-clause-found
returns-then-line-longest-clause-found g c =
    IfOk-weaker c.halved_start-then-line-longest.result _ _ (λ found is tree seeks.
    subst (λ (w : Bool). MatchOption found (HasNoStart c.args.line.now tree w) (IsFirstStart c.args.line.now tree w)) (sym c.if-whole_words.false)
    (is tree seeks.simulation)) c.halved_start-then-line-longest.ensures.found

pub returns-then-whole_words-clause-found : goal.returns-then-whole_words-clause-found
returns-then-whole_words-clause-found g c =
    IfOk-weaker c.halved_start.result _ _ (λ found is tree seeks.
    subst (λ (w : Bool). MatchOption found (HasNoStart c.args.line.now tree w) (IsFirstStart c.args.line.now tree w)) (sym c.if-whole_words.true)
    (is tree seeks.simulation)) c.halved_start.ensures.found

pub returns-in-None-clause-found : goal.returns-in-None-clause-found
returns-in-None-clause-found g c =
    IfOk-weaker c.halved_start-in-None.result _ _ (λ found is tree seeks.
    subst (λ (w : Bool). MatchOption found (HasNoStart c.args.line.now tree w) (IsFirstStart c.args.line.now tree w)) (sym c.if-whole_words.false)
    (is tree seeks.simulation)) c.halved_start-in-None.ensures.found

pub first_empty-requires : goal.first_empty-requires
first_empty-requires g c = (c.requires.seeks.0, c.requires.seeks.1.simulation)

pub returns-in-Some-eq0-clause-found : goal.returns-in-Some-eq0-clause-found
returns-in-Some-eq0-clause-found g c = λ tree seeks.
    let line = c.args.line.now in
    let empty =
    some_of (HasNoEmpty line tree false) (IsFirstEmpty line tree false) c.first_empty.result 0 (c.in-Some-eq0.is ∙ ap Some c.in-Some-eq0.field-0-test)
    (c.first_empty.ensures tree seeks.simulation) in
    subst (λ (w : Bool). IsFirstStart line tree w 0) (sym c.if-whole_words.false)
    (empty_first line tree false (Some 0) 0 refl empty (λ start end s. omega arith))

pub returns-in-Some-next_match-clause-found : goal.returns-in-Some-next_match-clause-found
returns-in-Some-next_match-clause-found g c = λ tree seeks.
    subst (λ (w : Bool). IsFirstStart c.args.line.now tree w c.in-Some-next_match.found.start) (sym c.if-whole_words.false)
    (first_by_finder c.args.line.now tree c.in-Some-next_match.found.start c.in-Some-next_match.found.end
    (c.in-Some-next_match.ensures.found tree (finder_in tree c.args.self.now c.in-Some.finder c.in-Some.is seeks)))
