use Rattle.std.proofs.Common.{sym, subst}
use Rattle.std.specs.Prelude.{All}
use Rattle.documents.specs.Shared.{documents_shared}
use Rattle.search.specs.Front.{AreFronted}
use Rattle.search.specs.Private.Known.{HasBody, IsEntry, IsTold}
use Rattle.search.specs.declared.known.Known.{Known}
use Rattle.prepare.specs.Tests.{test_of}
use Rattle.prepare.specs.declared.pattern.Prepared.{Prepared}
use Rattle.search.proofs.KnownLemmas.{body_by, kept-bodies, told-by}
use Rattle.prepare.specs.Prepared.{request_of}
use Rattle.prepare.specs.Request.{Request}
use Rattle.views.specs.Scan.{IsScanOf}
use Rattle.search.proofs.AnswerLemmas.{hits-are}
use Rattle.search.proofs.taken.Taken.answer_watched.Goals as goal

pub gather-requires : goal.gather-requires
gather-requires g c = record {
  known =
      subst (λ (k : Known). All (IsEntry (test_of c.with_known-wanted.result.prepared.now.line)) k.entries.items) (sym c.with_known-wanted.ensures.known)
      (subst (λ (p : Prepared). All (IsEntry (test_of p.line)) c.in_ok-known.known.entries.items) (sym c.with_known-wanted.ensures.prepared)
      c.in_ok-known.ensures.entries);
}

pub returns-clause-answer : goal.returns-clause-answer
returns-clause-answer g c = λ state request of.
    let taken = c.args.self in
    let kept = c.in_ok-kept.kept.items in
    let own = request_of taken.prepared.now in
    let order = subst (λ (r : Request). AreFronted state r.pattern (documents_shared taken.candidates.items)) (sym of.prepared) of.candidates in
    let body = body_by taken.candidates.items in
    let have = kept-bodies taken.candidates.items kept of.same c.in_ok-kept.ensures.kept in
    let entries = c.in_ok-known.ensures.bodies body (subst (λ ds. All (HasBody body) ds) (sym c.as_slice.ensures.value) have) in
    let told =
    subst (λ ds. All (IsTold c.with_known-wanted.result.known.now.entries.items) ds) (sym c.as_slice-2.ensures.value)
    (subst (λ (k : Known). All (IsTold k.entries.items) kept) (sym c.with_known-wanted.ensures.known)
    (told-by body c.in_ok-known.known.entries.items kept entries have)) in
    record {
      version = of.version;
      hits =
          subst (λ (r : Request). IsScanOf state r.pattern c.in_ok-gathered.gathered.hits) of.prepared
          (hits-are state taken.prepared.now taken.candidates.items kept c.as_slice-2.result.now _ c.in_ok-gathered.gathered order
          c.in_ok-kept.ensures.kept c.as_slice-2.ensures.value c.with_known-wanted.ensures.prepared c.with_known-wanted.ensures.view c.with_known-wanted.ensures.limit
          (λ own. c.in_ok-gathered.ensures.gathers own told));
      documents = of.documents;
      candidates = of.count;
    }
