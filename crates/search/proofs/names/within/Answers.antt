use Rattle.std.proofs.Common.{◌≡◌, ◌∷◌, length, sym, ◌∙◌, subst, ap, arith}
use Rattle.std.specs.Vec.Iter.{into_iter_items}
use Rattle.std.proofs.lemmas.Bool.{false≢true}
use Rattle.std.proofs.lemmas.List.{nil_from_length}
use Rattle.prepare.specs.Prepared.{pattern_of}
use Rattle.search.specs.Selects.{Selects}
use Rattle.search.specs.Private.Ways.{IsBegun}
use Rattle.search.proofs.NameLemmas.{keeps_one, keeps_none, keeps_end}
use Rattle.search.proofs.TestLemmas.{begun_by_none}
use Rattle.search.proofs.names.within.Goals as goal

pub returns-then-not-has_prefixes-clause-kept : goal.returns-then-not-has_prefixes-clause-kept
returns-then-not-has_prefixes-clause-kept g c =
    begun_by_none (pattern_of c.args.prepared.now) (c.has_prefixes.ensures c.if-not-has_prefixes.true) c.args.documents.items

pub loop-document-preserved : goal.loop-document-preserved
loop-document-preserved g c =
    let at = c.loop-document in
    let pattern = pattern_of c.args.prepared.now in
    let steps : into_iter_items at.document-iterator ≡ c.in-Some.document ∷ into_iter_items c.next.new.self = c.in-Some.ensures.steps.0 in
    record {
      so_far =
          keeps_none (IsBegun pattern) (into_iter_items c.into_iter-document-iterator.result) at.kept.items (into_iter_items at.document-iterator)
          (into_iter_items c.next.new.self) c.in-Some.document steps at.invariant.so_far
          (λ h. false≢true (sym c.if-is_within.false ∙ (c.is_within.ensures ∙ (ap pattern.within c.as_bytes.ensures.bytes ∙ h))));
      len = (let gone = c.in-Some.ensures.steps.1 in let short = ap length steps in omega (arith, at.invariant.len));
    }

pub loop-document-preserved-in-Continue-branch-2 : goal.loop-document-preserved-in-Continue-branch-2
loop-document-preserved-in-Continue-branch-2 g c =
    let at = c.loop-document in
    let pattern = pattern_of c.args.prepared.now in
    let steps : into_iter_items at.document-iterator ≡ c.in-Some.document ∷ into_iter_items c.next.new.self = c.in-Some.ensures.steps.0 in
    record {
      so_far =
          keeps_one (IsBegun pattern) (into_iter_items c.into_iter-document-iterator.result) at.kept.items (into_iter_items at.document-iterator)
          (into_iter_items c.next.new.self) c.in-Some.document steps at.invariant.so_far c.push.new.self.items
          (sym (ap pattern.within c.as_bytes.ensures.bytes) ∙ (sym c.is_within.ensures ∙ c.if-is_within.true)) c.in_ok-push.ensures.items;
      len = (let gone = c.in-Some.ensures.steps.1 in let short = ap length steps in omega (arith, at.invariant.len));
    }

pub returns-clause-kept : goal.returns-clause-kept
returns-clause-kept g c =
    let at = c.loop-document in
    let pattern = pattern_of c.args.prepared.now in
    let none = nil_from_length (into_iter_items at.document-iterator) (sym at.invariant.len ∙ c.in-None.ensures.steps.0) in
    subst (λ all. Selects (IsBegun pattern) all at.kept.items) c.into_iter-document-iterator.ensures.into_iter_gives.0
    (keeps_end (IsBegun pattern) (into_iter_items c.into_iter-document-iterator.result) at.kept.items
    (into_iter_items at.document-iterator) none at.invariant.so_far)
