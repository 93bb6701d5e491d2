use Rattle.std.proofs.Common.{◌≡◌, length, sym, ◌∙◌, subst}
use Rattle.std.specs.Prelude.{All}
use Rattle.documents.specs.Shared.{documents_shared}
use Rattle.std.proofs.lemmas.Result.{IfOk-weaker}
use Rattle.search.specs.Front.{AreFronted}
use Rattle.search.specs.Private.Gathered.{HaveOwnNames, Joins, shown_with}
use Rattle.search.specs.Private.Known.{AreTold, HasBody, IsEntry, IsTold}
use Rattle.search.specs.declared.known.Known.{Known}
use Rattle.prepare.specs.Tests.{test_of}
use Rattle.prepare.specs.declared.pattern.Prepared.{Prepared}
use Rattle.search.proofs.KnownLemmas.{body_by, kept-bodies, told-by}
use Rattle.prepare.specs.Request.{Request}
use Rattle.views.specs.Scan.{candidates_of}
use Rattle.views.specs.ShownOf.{IsShownOf}
use Rattle.search.proofs.AnswerLemmas.{shown-is}
use Rattle.search.proofs.taken.Taken.show.Goals as goal

pub gather_part-requires : goal.gather_part-requires
gather_part-requires g c = record {
  known =
      subst (λ (k : Known). All (IsEntry (test_of c.with_known-wanted.result.prepared.now.line)) k.entries.items) (sym c.with_known-wanted.ensures.known)
      (subst (λ (p : Prepared). All (IsEntry (test_of p.line)) c.in_ok-known.known.entries.items) (sym c.with_known-wanted.ensures.prepared)
      c.in_ok-known.ensures.entries);
}

pub returns-clause-shown : goal.returns-clause-shown
returns-clause-shown g c =
    let taken = c.args.self in
    let wanted = c.with_known-wanted.result in
    let known = c.in_ok-known.known.entries.items in
    let joined = c.in_ok-joined.joined in
    let kept = c.in_ok-kept.kept.items in
    IfOk-weaker c.with_counts.result _ _ (λ shown same. λ state request of.
    let order = subst (λ (r : Request). AreFronted state r.pattern (documents_shared taken.candidates.items)) (sym of.prepared) of.candidates in
    let body = body_by taken.candidates.items in
    let have = kept-bodies taken.candidates.items kept of.same c.in_ok-kept.ensures.kept in
    let entries = c.in_ok-known.ensures.bodies body (subst (λ ds. All (HasBody body) ds) (sym c.as_slice.ensures.value) have) in
    let told = subst (λ (k : Known). All (IsTold k.entries.items) kept) (sym c.with_known-wanted.ensures.known) (told-by body known kept entries have) in
    let joins =
    subst (λ ds. HaveOwnNames ds → AreTold wanted ds → Joins wanted wanted.limit ds joined) c.as_slice-2.ensures.value c.in_ok-joined.ensures.joins in
    subst (λ s. IsShownOf state request s) (sym same)
    (subst (λ r. IsShownOf state r (shown_with taken.prepared.now.view taken.version taken.documents taken.count joined)) of.prepared
    (shown-is state taken.prepared.now taken.candidates.items kept wanted joined order c.in_ok-kept.ensures.kept (c.with_known-wanted.ensures.prepared ∙ c.wanted_by-wanted.ensures.prepared)
    (c.with_known-wanted.ensures.limit ∙ c.wanted_by-wanted.ensures.limit) (c.with_known-wanted.ensures.view ∙ c.wanted_by-wanted.ensures.view)
    (λ own. joins own told) taken.version taken.documents taken.count of.version of.documents
    (subst (λ (r : Request). taken.count ≡ length (candidates_of state r.pattern.line)) (sym of.prepared) of.count)))) c.with_counts.ensures.shown
