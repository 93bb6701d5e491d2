use Rattle.std.proofs.Common.{◌+◌, ◌-◌, ◌<◌, ◌++◌, length, take, drop, refl, ap, sym, ◌∙◌, arith}
use Rattle.std.proofs.lemmas.List.{append-nil}
use Rattle.std.proofs.lemmas.Result.{on_ok_weaker}
use Rattle.names.specs.Private.Entries.{passes}
use Rattle.names.proofs.PartLemmas.{none_behind_end}
use Rattle.names.proofs.BuilderLemmas.{chunk_falls, behind_done}
use Rattle.names.proofs.builder.Builder.add_behind.Goals as goal

pub returns-then-open-chunks : goal.returns-then-open-chunks
returns-then-open-chunks c =
    let old = c.args.self.now in
    sym (ap (λ rest. old ++ rest)
    (none_behind_end (passes c.args.edge c.args.text.now) c.args.chunks.now c.open_at-open.result c.open_at-open.ensures (omega arith)) ∙ append-nil old)

pub place-requires : goal.place-requires
place-requires c =
    let within = c.open_at-open.ensures.inside in
    chunk_falls (passes c.args.edge c.args.text.now) c.args.chunks.now c.open_at-open.result 0 c.index-chunks-open.result c.open_at-open.ensures (omega (arith, within))
    c.index-chunks-open.is c.requires

pub returns : goal.returns
returns c =
    let chunks = c.args.chunks.now in
    let within = c.open_at-open.ensures.inside in
    let inside : c.open_at-open.result < length chunks = omega (arith, within) in
    on_ok_weaker c.add_all.result (λ made.
    behind_done (passes c.args.edge c.args.text.now) chunks c.open_at-open.result c.place.result c.index-chunks-open.result c.open_at-open.ensures inside
    c.index-chunks-open.is c.args.self.now c.add_part.new.self c.add_all.new.self
    (take (length chunks - (c.open_at-open.result + 1)) (drop (c.open_at-open.result + 1) chunks)) c.len.result c.place.ensures c.len.ensures.len
    c.in_ok-add_part.ensures refl made) c.add_all.ensures
