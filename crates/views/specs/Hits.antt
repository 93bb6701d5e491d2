-- Hits and answers as contracts see them.
use Rattle.views.specs.declared.places.Hit.{Hit as ShownHit}
use Rattle.views.specs.declared.answer.Contents.{Contents}
use Rattle.views.specs.Found.{Hit, Answer}

abbrev pub hit_of : ShownHit → Hit
hit_of hit = record { name = hit.name.now; line = hit.line; text = hit.text.now }

abbrev pub answer_of : Contents → Answer
answer_of contents = record {
  version = contents.version;
  hits = contents.hits;
  documents = contents.documents;
  candidates = contents.candidates;
}
