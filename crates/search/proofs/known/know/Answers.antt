use Rattle.std.proofs.Common.{sym, subst}
use Rattle.std.specs.Prelude.{All}
use Rattle.std.proofs.lemmas.Result.{IfOk-weaker}
use Rattle.prepare.specs.Tests.{test_of}
use Rattle.search.specs.Private.Known.{EntryHasBody, HasBody, IsEntry}
use Rattle.search.proofs.known.know.Goals as goal

pub returns-clause-entries : goal.returns-clause-entries
returns-clause-entries g c =
    IfOk-weaker c.with_numbers.result _ _ (λ known same.
    subst (λ es. All (IsEntry (test_of c.args.wanted.now.prepared.now.line)) es) (sym same) c.in_ok-entries.ensures.entries) c.with_numbers.ensures.entries

pub returns-clause-bodies : goal.returns-clause-bodies
returns-clause-bodies g c =
    IfOk-weaker c.with_numbers.result _ _ (λ known same. λ body have.
    subst (λ es. All (EntryHasBody body) es) (sym same)
    (c.in_ok-entries.ensures.bodies body
    (subst (λ ds. All (HasBody body) ds) (sym c.as_slice.ensures.value) (c.in_ok-found.ensures.bodies body have)))) c.with_numbers.ensures.entries
