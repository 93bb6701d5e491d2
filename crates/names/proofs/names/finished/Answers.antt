use Rattle.std.proofs.Common.{◌∙◌, ap, arith}
use Rattle.std.specs.Ordering.{nat_cmp}
use Rattle.std.specs.Cmp.Lexicographic.{slice_cmp}
use Rattle.std.specs.FinMap.{is_sorted}
use Rattle.names.proofs.PartLemmas.{is_version, length_more, bytes_more}
use Rattle.names.proofs.names.finished.Goals as goal

pub loop-chunk-preserved : goal.loop-chunk-preserved
loop-chunk-preserved c =
    let chunks = c.deref-chunk-items.result.now in
    let count_is = c.loop-chunk.invariant.count_is in
    let bytes_are = c.loop-chunk.invariant.bytes_are in
    let more = c.in-Some.ensures in
    let more_bytes = c.in-Some-checked_add.ensures in
    let len = c.len.ensures.len in
    let bytes = c.bytes.ensures in
    record {
      count_is = omega (arith, more, len, count_is, length_more chunks c.loop-chunk.chunk-index c.chunk-item.result c.loop-chunk-test.true c.chunk-item.is);
      bytes_are = omega (arith, more_bytes, bytes, bytes_are, bytes_more chunks c.loop-chunk.chunk-index c.chunk-item.result c.loop-chunk-test.true c.chunk-item.is);
    }

pub invariant_of-result : goal.invariant_of-result
invariant_of-result c =
    is_version c.in_ok-chunks.chunks.items c.deref-chunk-items.result.now c.loop-chunk.chunk-index c.loop-chunk.count c.loop-chunk.bytes
    (ap (is_sorted (slice_cmp nat_cmp)) c.in_ok-chunks.ensures ∙ c.requires)
    c.deref-chunk-items.ensures.value c.loop-chunk-test.false c.loop-chunk.invariant.count_is c.loop-chunk.invariant.bytes_are
