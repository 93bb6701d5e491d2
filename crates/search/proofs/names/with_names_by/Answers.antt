use Rattle.std.proofs.Common.{◌≡◌, ◌≢◌, ◌<◌, ◌∷◌, ℕ, length, slice_index, sym, ◌∙◌, subst, ap, arith}
use Rattle.std.specs.Vec.Iter.{into_iter_items}
use Rattle.std.proofs.lemmas.Bool.{false≢true}
use Rattle.std.proofs.lemmas.List.{nil_from_length}
use Rattle.prepare.specs.Tests.{test_of}
use Rattle.search.specs.Selects.{Selects, IsNamed}
use Rattle.search.proofs.NameLemmas.{no_feed_in_name, keeps_one, keeps_none, keeps_end}
use Rattle.search.proofs.TestLemmas.{passed_by_name}
use Rattle.search.proofs.names.with_names_by.Goals as goal

pub passes-requires-clause-no_feed : goal.passes-requires-clause-no_feed
passes-requires-clause-no_feed g c =
    subst (λ bytes. (k : ℕ) → k < length bytes → slice_index bytes k ≢ 10) (sym c.as_bytes.ensures.bytes)
    (no_feed_in_name c.in-Some.document.name c.as_bytes.ensures.name)

pub loop-document-preserved : goal.loop-document-preserved
loop-document-preserved g c =
    let at = c.loop-document in
    let steps : into_iter_items at.document-iterator ≡ c.in-Some.document ∷ into_iter_items c.next.new.self = c.in-Some.ensures.steps.0 in
    record {
      so_far =
          keeps_none (IsNamed (test_of c.args.test.now)) (into_iter_items c.into_iter-document-iterator.result) at.kept.items
          (into_iter_items at.document-iterator) (into_iter_items c.next.new.self) c.in-Some.document steps at.invariant.so_far
          (λ h. false≢true (sym c.if-passed.false ∙ (passed_by_name (test_of c.args.test.now) c.in-Some.document.name _ c.in_ok-passed.passed c.as_bytes.ensures.bytes c.in_ok-passed.ensures.passes).1 h));
      len = (let gone = c.in-Some.ensures.steps.1 in let short = ap length steps in omega (arith, at.invariant.len));
      way = c.passes.ensures.way;
    }

pub loop-document-preserved-in-Continue-branch-3 : goal.loop-document-preserved-in-Continue-branch-3
loop-document-preserved-in-Continue-branch-3 g c =
    let at = c.loop-document in
    let steps : into_iter_items at.document-iterator ≡ c.in-Some.document ∷ into_iter_items c.next.new.self = c.in-Some.ensures.steps.0 in
    record {
      so_far =
          keeps_one (IsNamed (test_of c.args.test.now)) (into_iter_items c.into_iter-document-iterator.result) at.kept.items
          (into_iter_items at.document-iterator) (into_iter_items c.next.new.self) c.in-Some.document steps at.invariant.so_far
          c.push.new.self.items ((passed_by_name (test_of c.args.test.now) c.in-Some.document.name _ c.in_ok-passed.passed c.as_bytes.ensures.bytes c.in_ok-passed.ensures.passes).0 c.if-passed.true) c.in_ok-push.ensures.items;
      len = (let gone = c.in-Some.ensures.steps.1 in let short = ap length steps in omega (arith, at.invariant.len));
      way = c.passes.ensures.way;
    }

pub returns-clause-kept : goal.returns-clause-kept
returns-clause-kept g c =
    let at = c.loop-document in
    let none = nil_from_length (into_iter_items at.document-iterator) (sym at.invariant.len ∙ c.in-None.ensures.steps.0) in
    subst (λ all. Selects (IsNamed (test_of c.args.test.now)) all at.kept.items) c.into_iter-document-iterator.ensures.into_iter_gives.0
    (keeps_end (IsNamed (test_of c.args.test.now)) (into_iter_items c.into_iter-document-iterator.result) at.kept.items
    (into_iter_items at.document-iterator) none at.invariant.so_far)
