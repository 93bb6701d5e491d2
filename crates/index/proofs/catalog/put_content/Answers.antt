use Rattle.std.proofs.Common.{◌+◌, ◌<◌, ◌^◌, ◌++◌, ◌∷◌, [], length, ◌∙◌, ap, sym, subst}
use Rattle.documents.specs.Text.{IsName}
use Rattle.index.specs.Private.Numbered.{document, body_bytes}
use Rattle.index.specs.Private.Store.{stored}
use Rattle.index.proofs.StoredLemmas.{lists_nothing}
use Rattle.index.proofs.catalog.put_content.Goals as goal

pub put_later-requires-clause-store : goal.put_later-requires-clause-store
put_later-requires-clause-store c = (c.requires.store.0, c.enter.ensures.store c.requires.store.0 c.requires.store.1, c.requires.store.2)

pub put_later-requires-clause-room : goal.put_later-requires-clause-room
put_later-requires-clause-room c = c.in_ok-own.ensures.room [] (lists_nothing c.in_ok-none.none c.in_ok-none.ensures)

pub put_later-requires-clause-bytes : goal.put_later-requires-clause-bytes
put_later-requires-clause-bytes c = subst (λ ds. body_bytes ds + length c.args.held < 2 ^ 64) (sym c.enter.ensures.documents) c.requires.bytes

pub returns-then-later-clause-name : goal.returns-then-later-clause-name
returns-then-later-clause-name c = subst IsName c.in_ok-own.ensures.name.0 c.in_ok-own.ensures.name.1

pub returns-then-later-clause-documents : goal.returns-then-later-clause-documents
returns-then-later-clause-documents c =
    c.put_later.ensures.documents
    ∙ ap (λ ds. ds ++ document c.args.number c.in_ok-own.own c.args.held ∷ []) c.enter.ensures.documents
    ∙ ap (λ n. stored c.args.store.now ++ document c.args.number n c.args.held ∷ []) c.in_ok-own.ensures.name.0

pub put_in-requires-clause-store : goal.put_in-requires-clause-store
put_in-requires-clause-store c = (c.requires.store.0, c.enter-2.ensures.store c.requires.store.0 c.requires.store.1, c.requires.store.2)

pub put_in-requires-clause-room : goal.put_in-requires-clause-room
put_in-requires-clause-room c = c.in_ok-own-2.ensures.room c.args.held c.trigrams.ensures.trigrams

pub put_in-requires-clause-bytes : goal.put_in-requires-clause-bytes
put_in-requires-clause-bytes c = subst (λ ds. body_bytes ds + length c.args.held < 2 ^ 64) (sym c.enter-2.ensures.documents) c.requires.bytes

pub returns-clause-name : goal.returns-clause-name
returns-clause-name c = subst IsName c.in_ok-own-2.ensures.name.0 c.in_ok-own-2.ensures.name.1

pub returns-clause-documents : goal.returns-clause-documents
returns-clause-documents c =
    c.put_in.ensures.documents
    ∙ ap (λ ds. ds ++ document c.args.number c.in_ok-own-2.own c.args.held ∷ []) c.enter-2.ensures.documents
    ∙ ap (λ n. stored c.args.store.now ++ document c.args.number n c.args.held ∷ []) c.in_ok-own-2.ensures.name.0
