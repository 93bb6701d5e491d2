use Rattle.service.proofs.ItemLemmas.{search_fault, search_in_fault}
use Rattle.service.proofs.tasks.prepare.Goals as goal

pub returns-in-Err-clause-err : goal.returns-in-Err-clause-err
returns-in-Err-clause-err c =
    rw (c.in-Search.is, c.reason_of_fault.ensures, ← c.deref.ensures.value) (search_fault c.in-Search.case c.deref.result.now c.in-Err.error c.in-Err.ensures.refused)

pub returns-in-Err-within_with_case-clause-err : goal.returns-in-Err-within_with_case-clause-err
returns-in-Err-within_with_case-clause-err c =
    rw
    (c.in-SearchIn.is, c.reason_of_fault-in-Err-within_with_case.ensures, ← c.deref-in-SearchIn.ensures.value, ← c.deref-in-SearchIn-2.ensures.value)
    (search_in_fault c.in-SearchIn.case c.deref-in-SearchIn.result.now c.deref-in-SearchIn-2.result.now c.in-Err-within_with_case.error.in_name
    c.in-Err-within_with_case.error.error c.in-Err-within_with_case.ensures.refused)
