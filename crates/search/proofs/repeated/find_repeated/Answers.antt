use Rattle.search.specs.Private.Known.{HasBody}
use Rattle.search.proofs.KnownLemmas.{at-place}
use Rattle.search.proofs.repeated.find_repeated.Goals as goal

pub loop-document-preserved : goal.loop-document-preserved
loop-document-preserved g c =
    let at = c.loop-document in
    record {
      bodies =
          λ body have.
          c.in_ok-keep_if_first.ensures body
          (at-place (HasBody body) c.args.documents.now at.document-index c.document-item.result c.loop-document-test.true c.document-item.is have)
          (at.invariant.bodies body have);
    }
