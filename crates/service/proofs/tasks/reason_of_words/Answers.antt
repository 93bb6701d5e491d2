use Rattle.std.proofs.Common.{◌++◌, ◌∙◌, ap, refl}
use Rattle.request.specs.Faults.{reason_of}
use Rattle.service.specs.Private.Entries.{bad_words}
use Rattle.service.proofs.tasks.reason_of_words.Goals as goal

pub returns-in-Ok : goal.returns-in-Ok
returns-in-Ok c =
    bad_words c.write_reason.new.text c.in_default.not-OutOfMemory
    (c.in-Ok.ensures ∙ ap (λ t. t ++ reason_of c.args.fault) c.new-words.ensures.items) refl
