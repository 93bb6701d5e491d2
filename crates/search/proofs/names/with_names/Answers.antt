use Rattle.std.proofs.Common.{◌≡◌, [], length, sym, ◌∙◌, subst, arith}
use Rattle.std.proofs.lemmas.Bool.Decides.{nat_tests}
use Rattle.std.proofs.lemmas.List.{nil_from_length}
use Rattle.ere.specs.Tree.{form}
use Rattle.search.specs.Selects.{IsNamed, Selects, done}
use Rattle.prepare.specs.Tests.{test_of}
use Rattle.search.proofs.WayLemmas.{finds_by_matcher}
use Rattle.search.proofs.names.with_names.Goals as goal

pub returns-then-is_empty-clause-kept : goal.returns-then-is_empty-clause-kept
returns-then-is_empty-clause-kept g c =
    let empty : length c.as_slice.result.now ≡ 0 = grind (arith, nat_tests) in
    let none : c.args.documents.items ≡ [] = sym c.as_slice.ensures.value ∙ nil_from_length c.as_slice.result.now empty in
    subst (λ ds. Selects (IsNamed (test_of c.args.test.now)) ds ds) (sym none) done

pub with_names_by-requires : goal.with_names_by-requires
with_names_by-requires g c = finds_by_matcher (form c.args.test.now.tree) (c.is_quick.ensures.0 c.if-is_quick.true)
