use Rattle.std.proofs.Common.{[], ◌<◌, length, ◌∙◌, ap, subst, arith}
use Rattle.std.proofs.lemmas.List.{get_or_default}
use Rattle.names.specs.Private.Entries.{rest_of}
use Rattle.names.proofs.RestLemmas.{rest_start}
use Rattle.names.proofs.rest.Rest.from_chunk.Goals as goal

pub invariant_of-result : goal.invariant_of-result
invariant_of-result c = record {
  rise = c.requires;
  inside = λ below. absurd (omega (arith, below, c.if-chunk-chunks.true));
}

pub returns-then-chunk-chunks : goal.returns-then-chunk-chunks
returns-then-chunk-chunks c = rest_start c.args.chunks.now c.args.chunk

pub invariant_of-result-2 : goal.invariant_of-result-2
invariant_of-result-2 c = record {
  rise = c.requires;
  inside = λ below.
      subst (λ xs. c.first-at.result < length xs)
      (c.index-chunks-chunk.is ∙ get_or_default c.args.chunks.now c.args.chunk c.index-chunks-chunk.result [] below) c.first-at.ensures.inside;
}

pub returns : goal.returns
returns c = ap (rest_of c.args.chunks.now c.args.chunk) c.first-at.ensures.place ∙ rest_start c.args.chunks.now c.args.chunk
