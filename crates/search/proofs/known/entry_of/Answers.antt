use Rattle.std.proofs.Common.{◌≡◌, length, sym, ◌∙◌, arith}
use Rattle.prepare.specs.Tests.{test_of}
use Rattle.search.proofs.KnownLemmas.{entry-is, was_false}
use Rattle.search.proofs.UpToLemmas.{not_reached}
use Rattle.search.proofs.known.entry_of.Goals as goal

pub returns-clause-entry : goal.returns-clause-entry
returns-clause-entry g c =
    let most = c.args.most in
    let items = c.scan_body.new.places.items in
    let size : c.len.result ≡ length items = omega (arith, c.len.ensures, c.scan_body.new.places.ok) in
    entry-is most (test_of c.args.test.now) _ c.body.result.now c.new-places.result.items c.new-places.ensures.items
    (c.body.ensures ∙ sym c.in_ok-held.ensures) c.in_ok-scan_body.ensures.places
    (λ whole full. not_reached most c.is_reached.result c.len.result (length items) c.is_reached.ensures size (was_false c.is_reached.result whole) full)
