use Rattle.names.proofs.BuilderLemmas.{closed_behind}
use Rattle.names.proofs.builder.Builder.make_room.Goals as goal

pub returns : goal.returns
returns c =
    closed_behind c.self.inside.chunks.items c.close.new.chunks.items c.self.inside.draft c.close.new.draft c.args.self.now c.self.view_is c.in_ok-close.ensures.closed
    c.in_ok-close.ensures.none
