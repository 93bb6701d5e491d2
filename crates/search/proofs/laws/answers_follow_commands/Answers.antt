use Rattle.std.proofs.Common.{List, sym, subst, refl}
use Rattle.documents.specs.declared.command.Command.{Command}
use Rattle.documents.specs.Documents.{IsPutLast, document, documents_of}
use Rattle.documents.specs.State.{state_of}
use Rattle.documents.proofs.LawLemmas.{found-last, last-found}
use Rattle.documents.proofs.ListedLemmas.{found-listed, listed-found}
use Rattle.prepare.specs.Pattern.{Pattern}
use Rattle.views.specs.Found.{Hit}
use Rattle.views.specs.Scan.{IsHit}
use Rattle.search.specs.Commands.{IsHitOfPut}
use Rattle.search.proofs.laws.answers_follow_commands.Goals as goal

to_put : (commands : List Command) (pattern : Pattern) (found : Hit) → IsHit (state_of commands) pattern found → IsHitOfPut commands pattern found
to_put commands pattern found h = record {
  body = h.document.body;
  put =
      subst (λ name. IsPutLast commands name h.document.body) (sym h.named)
      (found-last commands h.document.name h.document.body (found-listed (documents_of commands) h.document h.there));
  counted = h.counted;
  line = h.line;
  hit = h.hit;
  admitted = h.admitted;
}

from_put : (commands : List Command) (pattern : Pattern) (found : Hit) → IsHitOfPut commands pattern found → IsHit (state_of commands) pattern found
from_put commands pattern found h = record {
  document = document found.name h.body;
  there = listed-found (documents_of commands) (document found.name h.body) (last-found commands found.name h.body h.put);
  named = refl;
  counted = h.counted;
  line = h.line;
  hit = h.hit;
  admitted = h.admitted;
}

pub returns-clause-version : goal.returns-clause-version
returns-clause-version c = λ commands pattern answer is. is.version

pub returns-clause-hits : goal.returns-clause-hits
returns-clause-hits c =
    λ commands pattern answer found is.
    (λ h. to_put commands pattern found ((is.hits.exact found).0 h), λ h. (is.hits.exact found).1 (from_put commands pattern found h))
