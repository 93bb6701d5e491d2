use Rattle.std.proofs.Common.{sym, subst}
use Rattle.std.specs.Prelude.{All}
use Rattle.std.proofs.lemmas.List.Elements.{All-append, All-drop, All-take}
use Rattle.std.proofs.lemmas.Result.{IfOk-at_ok}
use Rattle.prepare.specs.Tests.{test_of}
use Rattle.search.specs.Private.Known.{EntryHasBody, HasBody, IsEntry}
use Rattle.search.proofs.known.+entries_by_parts.Goals as goal

pub returns-clause-entries : goal.returns-clause-entries
returns-clause-entries g t c =
    let P = IsEntry (test_of c.args.wanted.now.prepared.now.line) in
    subst (λ es. All P es) (sym c.in_ok-append.ensures.items)
    (All-append P c.in_ok-entries.entries.items c.in_ok-rest.rest.items (IfOk-at_ok _ c.in_ok-entries.was c.join-found.ensures.first.0)
    (IfOk-at_ok _ c.in_ok-rest.was c.join-found.ensures.second.0))

pub returns-clause-bodies : goal.returns-clause-bodies
returns-clause-bodies g t c = λ body have.
    let P = EntryHasBody body in
    let documents = c.args.documents.now in
    let front = subst (λ ds. All (HasBody body) ds) (sym c.split_at.ensures.front) (All-take (HasBody body) c.in_ok-at.at documents have) in
    let back = subst (λ ds. All (HasBody body) ds) (sym c.split_at.ensures.back) (All-drop (HasBody body) c.in_ok-at.at documents have) in
    subst (λ es. All P es) (sym c.in_ok-append.ensures.items)
    (All-append P c.in_ok-entries.entries.items c.in_ok-rest.rest.items
    (IfOk-at_ok _ c.in_ok-entries.was c.join-found.ensures.first.1.0 body front)
    (IfOk-at_ok _ c.in_ok-rest.was c.join-found.ensures.second.1.0 body back))
