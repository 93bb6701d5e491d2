use Rattle.std.proofs.Common.{◌<◌, ◌++◌, length, take, ap, sym, ◌∙◌, arith}
use Rattle.std.proofs.lemmas.Result.{on_ok_weaker}
use Rattle.names.specs.Private.Entries.{joined, passes}
use Rattle.names.proofs.PartLemmas.{opens_at_end}
use Rattle.names.proofs.BuilderLemmas.{chunk_falls, before_done}
use Rattle.names.proofs.builder.Builder.add_before.Goals as goal

pub returns-then-open-chunks : goal.returns-then-open-chunks
returns-then-open-chunks c =
    c.in_ok-add_all.ensures
    ∙ (ap (λ es. es ++ joined (take c.open_at-open.result c.args.chunks.now)) c.in_ok-reserve.ensures
    ∙ ap (λ rest. c.args.self.now ++ rest)
    (sym (opens_at_end (passes c.args.edge c.args.text.now) c.args.chunks.now c.open_at-open.result c.open_at-open.ensures (omega arith))))

pub place-requires : goal.place-requires
place-requires c =
    let within = c.open_at-open.ensures.inside in
    chunk_falls (passes c.args.edge c.args.text.now) c.args.chunks.now c.open_at-open.result 0 c.index-chunks-open.result c.open_at-open.ensures (omega (arith, within))
    c.index-chunks-open.is c.requires

pub returns : goal.returns
returns c =
    let within = c.open_at-open.ensures.inside in
    let inside : c.open_at-open.result < length c.args.chunks.now = omega (arith, within) in
    on_ok_weaker c.add_part.result (λ made.
    before_done (passes c.args.edge c.args.text.now) c.args.chunks.now c.open_at-open.result c.place.result c.index-chunks-open.result c.open_at-open.ensures inside
    c.index-chunks-open.is c.args.self.now c.add_all.new.self c.add_part.new.self c.place.ensures
    (c.in_ok-add_all.ensures ∙ ap (λ es. es ++ joined (take c.open_at-open.result c.args.chunks.now)) c.in_ok-reserve.ensures) made) c.add_part.ensures
