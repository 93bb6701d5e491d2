use Rattle.std.proofs.Common.{refl, sym, ◌∙◌, ap, map}
use Rattle.documents.specs.State.{body_bytes}
use Rattle.index.specs.Private.Plain.{plain_documents}
use Rattle.index.specs.Private.Store.{stored}
use Rattle.index.specs.Private.Contents.{body_at}
use Rattle.index.proofs.IndexLemmas.{put-named}
use Rattle.index.proofs.NamedLemmas.{shown}
use Rattle.index.proofs.LeaveLemmas.{on_err}
use Rattle.index.proofs.CopyingLemmas.{entered-one, entered-unchanged}
use Rattle.index.proofs.copying.enter_one.Goals as goal

pub returns-in_err-enter_copy-clause-err : goal.returns-in_err-enter_copy-clause-err
returns-in_err-enter_copy-clause-err c =
    on_err c.from_residual.result
    (entered-unchanged (stored c.args.store.now) c.args.numbers.now c.enter_copy.new.numbers c.args.groups.now c.enter_copy.new.groups
    c.in_err-enter_copy.ensures.err c.in_err-enter_copy.ensures.kept)

pub returns-in_err-enter_copy-clause-kept : goal.returns-in_err-enter_copy-clause-kept
returns-in_err-enter_copy-clause-kept c =
    on_err c.from_residual.result
    (c.requires.bytes ∙ ap (λ es. body_bytes (plain_documents (map (shown (stored c.args.store.now)) es))) (sym c.in_err-enter_copy.ensures.err))

pub returns-clause-ok : goal.returns-clause-ok
returns-clause-ok c =
    let new = c.in_ok-enter_copy.ensures in
    entered-one (stored c.args.store.now) c.args.numbers.now c.enter_copy.new.numbers c.args.groups.now c.enter_copy.new.groups c.args.copy.now new.numbers
    new.ordered new.len new.name new.ok

pub returns-clause-bytes : goal.returns-clause-bytes
returns-clause-bytes c =
    let contents = stored c.args.store.now in
    c.in-Some.ensures
    ∙ ap body_bytes
    (sym (put-named c.args.numbers.now c.enter_copy.new.numbers contents contents c.args.copy.now.name (body_at contents c.args.copy.now.number)
    c.args.copy.now.number c.in_ok-enter_copy.ensures.numbers refl (λ q n of_q e. refl)))
