use Rattle.std.proofs.Common.{◌++◌, List, drop, take, ap, sym, ◌∙◌, subst, append_assoc, arith}
use Rattle.std.proofs.lemmas.List.{append-nil, take-append-drop}
use Rattle.documents.specs.Shared.{documents_shared, NumbersTellBodies}
use Rattle.search.proofs.KnownLemmas.{told-take}
use Rattle.documents.specs.declared.document.SharedDocument.{SharedDocument}
use Rattle.prepare.specs.Prepared.{request_of}
use Rattle.search.specs.Front.{AreFronted}
use Rattle.search.specs.Taken.{IsTakenAmong}
use Rattle.search.proofs.first.take_first.Goals as goal

pub returns-then-len-most-clause-first : goal.returns-then-len-most-clause-first
returns-then-len-most-clause-first g c =
    let taken = c.in_ok-taken.taken in
    let up_to = c.in_ok-taken.ensures.taken in
    subst (λ ds. IsTakenAmong ds (g.C.Corpus.state c.args.corpus.now) (request_of c.args.prepared.now) taken)
    (ap (λ ds. taken.candidates.items ++ ds) (up_to.all_or_most (omega (arith, c.len.ensures, c.if-len-most.true, taken.candidates.ok)))
    ∙ append-nil taken.candidates.items) up_to.is

pub returns-clause-first : goal.returns-clause-first
returns-clause-first g c =
    let items = c.in_ok-taken.taken.candidates.items in
    let up_to = c.in_ok-taken.ensures.taken in
    let few = c.in_ok-few.few in
    let others = drop few items ++ up_to.others in
    let same =
    ap (λ ds. ds ++ others) c.truncate.ensures.items
    ∙ (sym (append_assoc (take few items) (drop few items) up_to.others) ∙ ap (λ ds. ds ++ up_to.others) (take-append-drop few items)) in
    record {
      others = others;
      taken =
          record {
            prepared = up_to.is.prepared;
            version = up_to.is.version;
            documents = up_to.is.documents;
            count = up_to.is.count;
            is_state = up_to.is.is_state;
            candidates =
                subst (λ (ds : List SharedDocument). AreFronted (g.C.Corpus.state c.args.corpus.now) (request_of c.args.prepared.now).pattern (documents_shared ds)) (sym same)
                up_to.is.candidates;
            same = subst NumbersTellBodies (sym c.truncate.ensures.items) (told-take few items up_to.is.same);
          };
    }
