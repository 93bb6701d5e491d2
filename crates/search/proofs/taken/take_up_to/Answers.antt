use Rattle.std.proofs.Common.{map, ◌∙◌, ap, refl, arith}
use Rattle.std.proofs.lemmas.List.{length-map}
use Rattle.query.specs.Query.{formula_of}
use Rattle.documents.specs.Shared.{document_of}
use Rattle.prepare.specs.Prepared.{pattern_of}
use Rattle.search.proofs.CandidateLemmas.{counted, candidates_under}
use Rattle.search.proofs.FirstLemmas.{shared_of, shared-others}
use Rattle.search.proofs.taken.take_up_to.Goals as goal

pub returns-clause-taken : goal.returns-clause-taken
returns-clause-taken g c =
    let state = g.C.Corpus.state c.args.corpus.now in
    let prepared = c.args.prepared.now in
    let pattern = pattern_of prepared in
    let formula = formula_of prepared.query in
    let items = c.in_ok-found.found.documents.items in
    let found = c.in_ok-found.ensures.fronted in
    let first = found.are.first in
    record {
      others = map shared_of first.others;
      is =
          record {
            prepared = refl;
            version = c.version.ensures.version;
            documents = c.documents.ensures;
            count = found.are.count ∙ counted state pattern formula prepared.filter;
            is_state = c.version.ensures.state;
            candidates =
                record {
                  fronts = found.fronts;
                  named = found.named;
                  are = shared-others items first.others ∙ first.whole ∙ candidates_under state pattern formula prepared.filter found.fronts;
                };
            same = found.are.same;
          };
      all_or_most = λ fewer. ap (λ ds. map shared_of ds) (first.all_or_most (omega (arith, fewer, length-map items document_of)));
    }
