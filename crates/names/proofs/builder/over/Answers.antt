use Rattle.std.proofs.Common.{◌++◌, ◌∙◌, ap}
use Rattle.std.specs.Ordering.{nat_cmp}
use Rattle.std.specs.Cmp.Lexicographic.{slice_cmp}
use Rattle.std.specs.FinMap.{is_sorted}
use Rattle.names.specs.Private.Entries.{joined, laid_over}
use Rattle.names.proofs.RestLemmas.{chunk_rises, chunk_step, chunks_end}
use Rattle.names.proofs.builder.over.Goals as goal

pub from_chunk-rest-requires : goal.from_chunk-rest-requires
from_chunk-rest-requires c = c.requires.others_rise

pub loop-chunk-init : goal.loop-chunk-init
loop-chunk-init c =
    ap (λ xs. xs ++ laid_over (joined c.args.chunks.now) c.from_chunk-rest.result) c.new-made.ensures
    ∙ ap (laid_over (joined c.args.chunks.now)) c.from_chunk-rest.ensures

pub add_over-requires : goal.add_over-requires
add_over-requires c =
    ap (is_sorted (slice_cmp nat_cmp)) c.chunk-item.is
    ∙ chunk_rises c.args.chunks.now c.loop-chunk.chunk-index c.chunk-item.result c.loop-chunk-test.true c.requires.rise

pub loop-chunk-preserved : goal.loop-chunk-preserved
loop-chunk-preserved c =
    chunk_step c.args.chunks.now c.loop-chunk.chunk-index c.chunk-item.result c.loop-chunk.made c.add_over.new.self
    c.loop-chunk.rest c.in_ok-rest.rest (laid_over (joined c.args.chunks.now) (joined c.args.others.now)) c.loop-chunk-test.true c.chunk-item.is
    c.loop-chunk.invariant c.in_ok-rest.ensures

pub returns : goal.returns
returns c =
    chunks_end c.args.chunks.now c.loop-chunk.chunk-index c.loop-chunk.made c.loop-chunk.rest c.add_rest.new.self
    (laid_over (joined c.args.chunks.now) (joined c.args.others.now)) c.loop-chunk-test.false c.loop-chunk.invariant c.in_ok-add_rest.ensures
