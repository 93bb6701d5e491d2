use Rattle.std.proofs.Common.{◌∷◌, [], sym, ◌∙◌}
use Rattle.std.proofs.lemmas.Bool.{false≢true}
use Rattle.prepare.specs.Tests.{test_of}
use Rattle.views.specs.Found.{found}
use Rattle.search.specs.Selects.{done, skip}
use Rattle.search.proofs.PlaceLemmas.{no_place, line_place}
use Rattle.search.proofs.matching.scan_line.Goals as goal

pub returns-then-not-passed-clause-places : goal.returns-then-not-passed-clause-places
returns-then-not-passed-clause-places g c = λ name body there.
    no_place (test_of c.args.test.now) c.args.document name body (found name c.args.line c.args.text.now ∷ []) c.args.places.now.items
    (skip (λ h. false≢true (sym c.if-not-passed.true ∙ c.in_ok-passed.ensures.passes.1 h)) done)

pub returns-clause-places : goal.returns-clause-places
returns-clause-places g c = λ name body there.
    line_place (test_of c.args.test.now) c.args.document name body c.args.line c.args.offset c.args.text.now there
    (c.in_ok-passed.ensures.passes.0 c.if-not-passed.false) c.args.places.now.items c.push.new.self.items c.in_ok-push.ensures.items
