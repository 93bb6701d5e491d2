use Rattle.std.proofs.Common.{◌≡◌, map, get_or, subst, arith}
use Rattle.std.proofs.lemmas.List.{take_all}
use Rattle.search.specs.Selects.{Selects, IsNamedForAll}
use Rattle.prepare.specs.Tests.{test_of}
use Rattle.search.proofs.TestLemmas.{admitted_by_both, named_by_none, named_by_more}
use Rattle.prepare.specs.Prepared.{pattern_of}
use Rattle.search.proofs.names.named.Goals as goal

pub loop-test-init : goal.loop-test-init
loop-test-init g c = named_by_none c.args.prepared.now.names.items c.in_ok-begun.begun.items

pub loop-test-preserved : goal.loop-test-preserved
loop-test-preserved g c =
    let tests = c.args.prepared.now.names.items in
    named_by_more tests c.loop-test.test-index c.test-item.result c.in_ok-begun.begun.items c.loop-test.kept.items c.in_ok-kept.kept.items
    (omega (arith, c.loop-test-test.true, c.deref-test-items.ensures.len))
    (subst (λ items. c.test-item.result ≡ get_or items c.loop-test.test-index c.test-item.result) c.deref-test-items.ensures.value c.test-item.is)
    c.loop-test.invariant c.in_ok-kept.ensures.kept

pub returns-clause-kept : goal.returns-clause-kept
returns-clause-kept g c =
    let tests = c.args.prepared.now.names.items in
    let begun = c.in_ok-begun.begun.items in
    admitted_by_both (pattern_of c.args.prepared.now) c.args.documents.items begun c.loop-test.kept.items c.in_ok-begun.ensures.kept
    (subst (λ ts. Selects (IsNamedForAll (map test_of ts)) begun c.loop-test.kept.items)
    (take_all c.loop-test.test-index tests (omega (arith, c.loop-test-test.false, c.deref-test-items.ensures.len, c.loop-test.auto)))
    c.loop-test.invariant)
