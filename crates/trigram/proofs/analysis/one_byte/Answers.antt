use Rattle.std.proofs.Common.{◌<◌, true, false, length, ap, sym, ◌∙◌, arith}
use Rattle.query.proofs.Forms.{formula_of-Any}
use Rattle.query.specs.declared.query.Query.TheVariants as query
use Rattle.query.specs.Query.{formula_of, is_met}
use Rattle.trigram.specs.Private.Values.{texts_of}
use Rattle.trigram.specs.Analysis.{just_empty, bytes_in}
use Rattle.trigram.proofs.AnalysisLemmas.{loose_same, any_is_met, one_byte_loose}
use Rattle.trigram.proofs.analysis.one_byte.Goals as goal

pub returns : goal.returns
returns c =
    let many : 16 < length (bytes_in c.args.set.now) = omega (arith, ap length c.in_ok-bytes.ensures, c.in_ok-bytes.bytes.ok.0) in
    record {
      plain = rw formula_of-Any tt;
      is =
          loose_same false (texts_of c.in_ok-just_empty.field-0.items) just_empty (texts_of c.in_ok-just_empty-2.field-0.items) just_empty
          (is_met (formula_of query.Any)) (λ _. true) c.in_ok-just_empty.ensures c.in_ok-just_empty-2.ensures any_is_met
          ∙ sym (one_byte_loose c.args.set.now many);
    }
