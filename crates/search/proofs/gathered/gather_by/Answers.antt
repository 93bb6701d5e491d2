use Rattle.search.proofs.GathersLemmas.{gathers-none, gathers-next, gathers-rest, gathers-end}
use Rattle.search.proofs.KnownLemmas.{told-at}
use Rattle.search.proofs.gathered.gather_by.Goals as goal

pub loop-document-init : goal.loop-document-init
loop-document-init g c =
    record { so_far = λ told. gathers-none c.args.wanted.now c.args.gathered.now; way = c.requires.way; seeker = c.requires.seeker }

pub loop-document-preserved : goal.loop-document-preserved
loop-document-preserved g c =
    let at = c.loop-document in
    record {
      so_far =
          λ told.
          gathers-next c.args.wanted.now c.args.documents.now c.args.gathered.now at.gathered c.gather_one.new.gathered at.document-index
          c.document-item.result c.loop-document-test.true c.document-item.is (at.invariant.so_far told)
          (c.in_ok-gather_one.ensures.gathers
          (told-at c.args.wanted.now.known.now.entries.items c.args.documents.now at.document-index c.document-item.result c.loop-document-test.true
          c.document-item.is told));
      way = c.gather_one.ensures.way;
      seeker = c.gather_one.ensures.seeker;
    }

pub returns-then-gathered-clause-gathers : goal.returns-then-gathered-clause-gathers
returns-then-gathered-clause-gathers g c = λ told.
    let at = c.loop-document in
    gathers-rest c.args.wanted.now c.args.documents.now c.args.gathered.now at.gathered at.gathered at.document-index c.if-gathered.true
    (at.invariant.so_far told)

pub returns-clause-gathers : goal.returns-clause-gathers
returns-clause-gathers g c = λ told.
    let at = c.loop-document in
    gathers-end c.args.wanted.now c.args.documents.now c.args.gathered.now at.gathered at.gathered at.document-index c.loop-document-test.false
    (at.invariant.so_far told)
