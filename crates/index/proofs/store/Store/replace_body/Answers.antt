use Rattle.std.proofs.Common.{◌+◌, ◌<◌, ◌^◌, map, length, ◌∙◌, ap, sym, subst}
use Rattle.index.specs.Private.Numbered.{body_bytes}
use Rattle.index.specs.Private.Slots.{with_body_at}
use Rattle.index.proofs.store.Store.replace_body.Goals as goal

pub replace-requires-clause-store : goal.replace-requires-clause-store
replace-requires-clause-store c = (c.requires.store.0, c.prepare.ensures.store c.requires.store.0 c.requires.store.1)

pub replace-requires-clause-room : goal.replace-requires-clause-room
replace-requires-clause-room c = c.in_ok-change.ensures.ok c.args.held c.trigrams.ensures.trigrams

pub replace-requires-clause-bytes : goal.replace-requires-clause-bytes
replace-requires-clause-bytes c =
    subst (λ ds. body_bytes ds + length c.args.held < 2 ^ 64) (sym c.prepare.ensures.documents) c.requires.bytes

pub returns-clause-ok : goal.returns-clause-ok
returns-clause-ok c = c.replace.ensures.documents ∙ ap (map (with_body_at c.args.number c.args.held)) c.prepare.ensures.documents

pub returns-clause-store : goal.returns-clause-store
returns-clause-store c = λ last is. c.replace.ensures.store last (c.prepare.ensures.store last is)
