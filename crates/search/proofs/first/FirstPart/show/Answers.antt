use Rattle.std.proofs.Common.{◌≡◌, ◌++◌, Bool, true, false, not, length, refl, sym, subst}
use Rattle.std.proofs.lemmas.Bool.{true≢false}
use Rattle.documents.specs.Shared.{documents_shared}
use Rattle.search.specs.Front.{AreFronted}
use Rattle.search.specs.Private.Gathered.{HaveOwnNames, Joins, shown_with}
use Rattle.std.specs.Prelude.{All}
use Rattle.search.specs.Private.Known.{AreTold, IsTold}
use Rattle.search.specs.declared.known.Known.{Known}
use Rattle.search.proofs.KnownLemmas.{none-told}
use Rattle.prepare.specs.Request.{Request}
use Rattle.views.specs.Scan.{candidates_of}
use Rattle.views.specs.ShownOf.{IsShownOf}
use Rattle.search.proofs.FirstLemmas.{part-shown}
use Rattle.search.proofs.first.FirstPart.show.Goals as goal

was_true : (b : Bool) → not b ≡ false → b ≡ true
was_true true e = refl
was_true false e = absurd (true≢false e)

pub returns-clause-shown : goal.returns-clause-shown
returns-clause-shown g c = λ state request part.
    let taken = c.args.self.taken in
    let wanted = c.wanted_by-wanted.result in
    let joined = c.in_ok-joined.joined in
    let kept = c.in_ok-kept.kept.items in
    let of = part.taken in
    let order =
    subst (λ (r : Request). AreFronted state r.pattern (documents_shared (taken.candidates.items ++ part.others))) (sym of.prepared) of.candidates in
    let told =
    subst (λ (k : Known). All (IsTold k.entries.items) kept) (sym c.wanted_by-wanted.ensures.known)
    (subst (λ es. All (IsTold es) kept) (sym c.none-none.ensures) (none-told kept)) in
    let joins =
    subst (λ ds. HaveOwnNames ds → AreTold wanted ds → Joins wanted wanted.limit ds joined) c.as_slice.ensures.value c.in_ok-joined.ensures.joins in
    subst (λ s. IsShownOf state request s) (sym c.in_ok-shown.ensures.shown)
    (subst (λ r. IsShownOf state r (shown_with taken.prepared.now.view taken.version taken.documents taken.count joined)) of.prepared
    (part-shown state taken.prepared.now taken.candidates.items part.others kept wanted joined of.is_state order c.in_ok-kept.ensures.kept
    c.wanted_by-wanted.ensures.prepared c.wanted_by-wanted.ensures.limit c.wanted_by-wanted.ensures.view (λ own. joins own told) (was_true joined.more c.if-not-joined.false) taken.version
    taken.documents taken.count of.version of.documents
    (subst (λ (r : Request). taken.count ≡ length (candidates_of state r.pattern.line)) (sym of.prepared) of.count)))
