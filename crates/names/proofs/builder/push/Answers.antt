use Rattle.std.proofs.Common.{ap, ◌∙◌}
use Rattle.names.specs.Private.Entries.{joined}
use Rattle.names.proofs.PartLemmas.{joined-push}
use Rattle.names.proofs.BuilderLemmas.{pushed_both}
use Rattle.names.proofs.builder.push.Goals as goal

pub returns-then-not-has_room : goal.returns-then-not-has_room
returns-then-not-has_room c = ap joined c.in_ok-push.ensures.items ∙ joined-push c.args.chunks.now.items c.args.chunk

pub returns : goal.returns
returns c =
    pushed_both c.args.chunks.now.items c.pop.new.self.items c.push-2.new.self.items c.in-Some.last c.args.chunk c.in_ok-both.field-0 c.in-Some.ensures.items
    c.in_ok-both.ensures c.in_ok-push-3.ensures.items
