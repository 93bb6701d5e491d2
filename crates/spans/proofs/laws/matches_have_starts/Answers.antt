use Rattle.spans.proofs.StartLaws.{found_plain, found_whole}
use Rattle.spans.proofs.laws.matches_have_starts.Goals as goal

pub returns-clause-matches : goal.returns-clause-matches
returns-clause-matches c = found_plain

pub returns-clause-whole_words : goal.returns-clause-whole_words
returns-clause-whole_words c = found_whole
