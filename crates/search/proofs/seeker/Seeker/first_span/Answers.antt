use Rattle.std.proofs.lemmas.Result.{IfOk-weaker}
use Rattle.search.proofs.SeekerLemmas.{first_behind, tried_from, tried_span}
use Rattle.search.proofs.seeker.Seeker.first_span.Goals as goal

pub halved_span-requires : goal.halved_span-requires
halved_span-requires g c = (c.requires.seeks.0, (c.try_starts.ensures.same c.requires.seeks.0 c.requires.seeks.1).simulation)

pub returns-in-Span-clause-found : goal.returns-in-Span-clause-found
returns-in-Span-clause-found g c = λ tree seeks.
    tried_span c.args.line.now tree c.args.whole_words c.args.from c.in_ok-span.field-0 c.in-Span.span c.in-Span.is
    (c.in_ok-span.ensures.tried tree seeks)

pub returns-clause-found : goal.returns-clause-found
returns-clause-found g c =
    IfOk-weaker c.halved_span.result _ _ (λ found is tree seeks.
    first_behind c.args.line.now tree c.args.whole_words c.args.from c.in-From.next found
    (tried_from c.args.line.now tree c.args.whole_words c.args.from c.in_ok-span.field-0 c.in-From.next c.in-From.is
    (c.in_ok-span.ensures.tried tree seeks)) (is tree (c.try_starts.ensures.same tree seeks).simulation)) c.halved_span.ensures.found
