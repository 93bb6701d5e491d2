use Rattle.std.proofs.Common.{◌≡◌, length, take, refl, ap, arith}
use Rattle.search.specs.Private.Ways.{bytes_in}
use Rattle.search.proofs.FewLemmas.{bytes_in-more}
use Rattle.search.proofs.matching.few_documents.Goals as goal

pub loop-at-init : goal.loop-at-init
loop-at-init c = record { left = refl; at = omega arith }

pub loop-at-preserved : goal.loop-at-preserved
loop-at-preserved c =
    let more = bytes_in-more c.args.documents.now c.loop-at.at c.index-documents-at.result c.loop-at-test.true c.index-documents-at.is in
    record {
      left = omega (arith, more, c.body_size-size.ensures, c.if-size-left.false, c.loop-at.invariant.left);
      at = omega (arith, c.loop-at-test.true);
    }

pub returns-then-size-left : goal.returns-then-size-left
returns-then-size-left c =
    let quick = c.is_quick.ensures.0 (cc) in
    let more = bytes_in-more c.args.documents.now c.loop-at.at c.index-documents-at.result c.loop-at-test.true c.index-documents-at.is in
    record {
      some = c.loop-at.invariant.at;
      quick = λ some. quick;
      within = omega (arith, c.loop-at.invariant.left);
      most = λ flat inside. omega (arith, more, c.body_size-size.ensures, c.if-size-left.true, c.loop-at.invariant.left);
    }

pub returns : goal.returns
returns c =
    let quick = c.is_quick.ensures.0 (cc) in
    let end : c.loop-at.at ≡ length c.args.documents.now = omega (arith, c.loop-at-test.false, c.loop-at.invariant.at) in
    let bytes : bytes_in (take c.loop-at.at c.args.documents.now) ≡ bytes_in (take (length c.args.documents.now) c.args.documents.now) =
    ap (λ n. bytes_in (take n c.args.documents.now)) end in
    record {
      some = omega arith;
      quick = λ some. quick;
      within = omega (arith, bytes, c.loop-at.invariant.left);
      most = λ quick inside. absurd (omega (arith, inside));
    }
