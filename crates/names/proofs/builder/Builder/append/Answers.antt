use Rattle.std.proofs.Common.{◌++◌, ◌∙◌, ap}
use Rattle.names.specs.Private.Entries.{begun_within, joined}
use Rattle.names.proofs.BuilderLemmas.{drafted_behind}
use Rattle.names.proofs.builder.Builder.append.Goals as goal

pub returns : goal.returns
returns c =
    let part = begun_within c.args.from c.args.to c.args.count c.args.beginning.now c.args.chunk.now in
    drafted_behind (joined c.self.inside.chunks.items) c.self.inside.draft c.in_ok-draft.draft part c.args.self.now (c.self.view_is ∙ c.in_ok-make_room.ensures)
    (c.in_ok-draft.ensures ∙ ap (λ d. d ++ part) c.replace-draft.ensures.value)
