use Rattle.std.proofs.lemmas.Result.{on_ok_weaker}
use Rattle.names.proofs.BuilderLemmas.{added_behind}
use Rattle.names.proofs.builder.Builder.add.Goals as goal

pub returns : goal.returns
returns c =
    on_ok_weaker c.push.result
    (λ made. added_behind c.self.inside.chunks.items c.close.new.chunks.items c.push.new.chunks.items c.self.inside.draft c.close.new.draft c.args.chunk c.args.self.now
    c.self.view_is c.in_ok-close.ensures.closed c.in_ok-close.ensures.none made) c.push.ensures
