use Rattle.std.proofs.Common.{◌≡◌, ap, subst}
use Rattle.transcript.specs.declared.entry.SearchReason.TheVariants.{OutOfMemory}
use Rattle.prepare.specs.Prepared.{request_of}
use Rattle.steps.specs.Asked.{Asks}
use Rattle.service.specs.declared.reply.Reply.TheVariants.{Search}
use Rattle.service.specs.Private.Closing.{IsRefused, asked_for, refused, with_search}
use Rattle.service.proofs.ServiceLemmas.{memory_is_fault}
use Rattle.service.proofs.service.Service.open.Goals as goal

pub returns-in-Ok-await_answer : goal.returns-in-Ok-await_answer
returns-in-Ok-await_answer g c =
    let item = ap (λ r. r.item) c.request.view_is in
    asked_for (request_of c.request.inside.prepared)
    (subst (λ i. Asks i (request_of c.request.inside.prepared)) item c.request.invariant)
    (ap Search c.in-Ok-await_answer.ensures.number)
    (subst (λ i. c.await_answer.new.self ≡ with_search i c.args.self.now) item c.in-Ok-await_answer.ensures.ok)

pub returns-in-Err : goal.returns-in-Err
returns-in-Err g c =
    refused OutOfMemory (memory_is_fault c.args.request.item c.requires.search)
    (subst (λ s. IsRefused OutOfMemory s c.refuse-in-Err.result c.refuse-in-Err.new.self) c.in-Err.ensures.err c.refuse-in-Err.ensures)

pub returns-in_default : goal.returns-in_default
returns-in_default g c = refused OutOfMemory (memory_is_fault c.args.request.item c.requires.search) c.refuse.ensures
