use Rattle.std.proofs.Common.{◌≡◌, length, sym, subst, arith}
use Rattle.std.proofs.lemmas.Bool.Decides.{nat_tests}
use Rattle.std.proofs.lemmas.List.{nil_from_length}
use Rattle.std.proofs.lemmas.Result.{on_ok_weaker}
use Rattle.search.specs.Private.Gathered.{GathersMore}
use Rattle.search.proofs.GathersLemmas.{gathers-by, gathers-none, gathers-over}
use Rattle.search.proofs.gathered.gather_compiled.Goals as goal

pub returns-then-is_empty-clause-gathers : goal.returns-then-is_empty-clause-gathers
returns-then-is_empty-clause-gathers g c = λ told.
    let empty : length c.args.documents.now ≡ 0 = grind (arith, nat_tests) in
    subst (λ ds. GathersMore c.args.wanted.now ds c.args.gathered.now c.args.gathered.now) (sym (nil_from_length c.args.documents.now empty))
    (gathers-none c.args.wanted.now c.args.gathered.now)

pub returns-then-gathered-clause-gathers : goal.returns-then-gathered-clause-gathers
returns-then-gathered-clause-gathers g c = λ told. gathers-over c.args.wanted.now c.args.documents.now c.args.gathered.now c.if-gathered.true

pub returns-clause-gathers : goal.returns-clause-gathers
returns-clause-gathers g c =
    on_ok_weaker c.gather_by.result (λ more. λ told before own is. more told before own (gathers-by is)) c.gather_by.ensures.gathers
