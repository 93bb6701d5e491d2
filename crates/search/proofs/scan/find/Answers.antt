use Rattle.std.proofs.lemmas.Result.{IfOk-weaker}
use Rattle.prepare.specs.Prepared.{request_of}
use Rattle.search.proofs.scan.find.Goals as goal

pub returns : goal.returns
returns g c = IfOk-weaker c.answer.result _ _ (λ answer is. is (g.C.Corpus.state c.args.corpus.now) (request_of c.args.prepared.now) c.in_ok-take.ensures) c.answer.ensures
