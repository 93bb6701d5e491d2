use Rattle.std.proofs.Common.{take}
use Rattle.ere.specs.Tree.{form}
use Rattle.search.specs.Private.Gathered.{GathersMore}
use Rattle.search.specs.Private.Known.{AreTold}
use Rattle.search.specs.Private.Seekers.{CanShow}
use Rattle.search.specs.Private.Ways.{Finds}
use Rattle.search.proofs.gathered.gather_by.Given as goal

abbrev pub invariant-loop-document : goal.invariant-loop-document
invariant-loop-document g l = record {
  so_far : AreTold l.wanted l.documents → GathersMore l.wanted (take l.document-index l.documents) l.initial.gathered l.gathered;
  way : Finds (form l.wanted.prepared.now.line.tree) l.way;
  seeker : CanShow l.wanted l.seeker;
}
