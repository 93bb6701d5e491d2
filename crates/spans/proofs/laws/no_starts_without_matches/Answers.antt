use Rattle.spans.proofs.StartLaws.{no_start_plain, no_start_whole}
use Rattle.spans.proofs.laws.no_starts_without_matches.Goals as goal

pub returns-clause-matches : goal.returns-clause-matches
returns-clause-matches c = no_start_plain

pub returns-clause-whole_words : goal.returns-clause-whole_words
returns-clause-whole_words c = no_start_whole
