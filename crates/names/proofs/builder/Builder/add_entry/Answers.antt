use Rattle.std.proofs.Common.{◌++◌, ◌∷◌, [], ◌∙◌, ap}
use Rattle.std.proofs.lemmas.List.{append-nil}
use Rattle.names.specs.Private.Entries.{joined}
use Rattle.names.proofs.BuilderLemmas.{drafted_behind}
use Rattle.names.proofs.builder.Builder.add_entry.Goals as goal

pub returns : goal.returns
returns c =
    let entry = (c.args.name.now, c.args.content) ∷ [] in
    drafted_behind (joined c.self.inside.chunks.items) c.self.inside.draft c.in_ok-draft.draft entry c.args.self.now (c.self.view_is ∙ c.in_ok-make_room.ensures)
    (c.in_ok-draft.ensures
    ∙ (ap (λ n. c.replace-draft.result ++ (n, c.args.content) ∷ []) (append-nil c.args.name.now) ∙ ap (λ d. d ++ entry) c.replace-draft.ensures.value))
