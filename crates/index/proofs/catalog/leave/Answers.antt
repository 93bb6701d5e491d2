use Rattle.std.proofs.Common.{◌≡◌, true, sym, subst, refl}
use Rattle.std.specs.Prelude.{IfSome}
use Rattle.index.specs.Private.Contents.{IsLeft, has_name}
use Rattle.index.specs.Private.Store.{stored}
use Rattle.index.proofs.LeaveLemmas.{left-last}
use Rattle.index.proofs.catalog.leave.Goals as goal

pub returns-clause-left : goal.returns-clause-left
returns-clause-left c =
    let contents = stored c.args.store.now in
    let name = c.args.name.now in
    let had = subst (λ o. IfSome o (λ n. has_name c.args.groups.now contents n name ≡ true)) c.in-Some.is c.requires.name in
    subst (λ o. IsLeft o name contents c.args.groups.now (stored c.take_out.new.self) c.part.new.groups) (sym c.in-Some.is)
    (left-last contents c.args.groups.now c.part.new.groups c.in-Some.number name (stored c.take_out.new.self) c.requires.groups had
    (c.if-part.ensures.goes refl) c.take_out.ensures.documents)
