use Rattle.service.proofs.ItemLemmas.{find_pattern_fault, find_words_fault}
use Rattle.service.proofs.tasks.prepare_find.Goals as goal

pub returns-in-Err-clause-err : goal.returns-in-Err-clause-err
returns-in-Err-clause-err c =
    find_words_fault c.args.words.now c.in-Err.fault c.reason_of_words.result c.in-Err.ensures.fault c.reason_of_words.ensures

pub returns-clause-err : goal.returns-clause-err
returns-clause-err c =
    rw c.reason_of_find.ensures (find_pattern_fault c.args.words.now _ _ c.in-Err-find.error c.in-Ok.ensures.find c.in-Err-find.ensures.refused)
