use Rattle.std.proofs.Common.{◌∷◌, ◌++◌, [], sym, ◌∙◌, ap, subst, arith}
use Rattle.std.specs.Prelude.{All}
use Rattle.prepare.specs.Tests.{test_of}
use Rattle.views.specs.Places.{IsPlaced, hits_at}
use Rattle.search.specs.Selects.{IsAsked}
use Rattle.search.specs.Private.Added.{AddsUpTo}
use Rattle.search.specs.Private.Documents.{lines_of_taken}
use Rattle.search.proofs.PlaceLemmas.{adds_as, placed_with, adds_with, placed_none, adds_none}
use Rattle.search.proofs.matching.add_document.Goals as goal

pub returns-in_ok-push-clause-placed : goal.returns-in_ok-push-clause-placed
returns-in_ok-push-clause-placed g c =
    let most = c.args.most in
    let test = test_of c.args.test.now in
    let documents = c.args.documents.now.items in
    let document = c.args.document.now in
    let old = c.args.places.now.items in
    let new = c.scan_body.new.places.items in
    let adds = adds_as most test c.in-Ok.number documents document c.body.result.now old new
    (omega (arith, c.in-Ok.ensures, c.len.ensures, c.args.documents.now.ok)) c.body.ensures c.in_ok-scan_body.ensures.places in
    subst (λ ds. All (IsPlaced ds) new) (sym (c.in_ok-push.ensures.items ∙ ap (λ d. documents ++ d ∷ []) c.in_ok-share.ensures))
    (placed_with most test documents document old new c.requires.placed adds)

pub returns-in_ok-push-clause-hits : goal.returns-in_ok-push-clause-hits
returns-in_ok-push-clause-hits g c =
    let most = c.args.most in
    let test = test_of c.args.test.now in
    let documents = c.args.documents.now.items in
    let document = c.args.document.now in
    let old = c.args.places.now.items in
    let new = c.scan_body.new.places.items in
    let adds = adds_as most test c.in-Ok.number documents document c.body.result.now old new
    (omega (arith, c.in-Ok.ensures, c.len.ensures, c.args.documents.now.ok)) c.body.ensures c.in_ok-scan_body.ensures.places in
    subst (λ ds. AddsUpTo most (IsAsked test) (lines_of_taken document) (hits_at documents old) (hits_at ds new))
    (sym (c.in_ok-push.ensures.items ∙ ap (λ d. documents ++ d ∷ []) c.in_ok-share.ensures))
    (adds_with most test documents document old new c.requires.placed adds)

pub returns-else-len-before-clause-placed : goal.returns-else-len-before-clause-placed
returns-else-len-before-clause-placed g c =
    let most = c.args.most in
    let test = test_of c.args.test.now in
    let documents = c.args.documents.now.items in
    let document = c.args.document.now in
    let old = c.args.places.now.items in
    let new = c.scan_body.new.places.items in
    let adds = adds_as most test c.in-Ok.number documents document c.body.result.now old new
    (omega (arith, c.in-Ok.ensures, c.len.ensures, c.args.documents.now.ok)) c.body.ensures c.in_ok-scan_body.ensures.places in
    placed_none most test documents document old new c.requires.placed adds
    (omega (arith, c.if-len-before.false, c.len-2.ensures, c.len-before.ensures, c.args.places.now.ok, c.scan_body.new.places.ok))

pub returns-else-len-before-clause-hits : goal.returns-else-len-before-clause-hits
returns-else-len-before-clause-hits g c =
    let most = c.args.most in
    let test = test_of c.args.test.now in
    let documents = c.args.documents.now.items in
    let document = c.args.document.now in
    let old = c.args.places.now.items in
    let new = c.scan_body.new.places.items in
    let adds = adds_as most test c.in-Ok.number documents document c.body.result.now old new
    (omega (arith, c.in-Ok.ensures, c.len.ensures, c.args.documents.now.ok)) c.body.ensures c.in_ok-scan_body.ensures.places in
    adds_none most test documents document old new c.requires.placed adds
    (omega (arith, c.if-len-before.false, c.len-2.ensures, c.len-before.ensures, c.args.places.now.ok, c.scan_body.new.places.ok))
