-- What the sink of a run does with news.
use Rattle.std.specs.Prelude.{◌≡◌, ◌<◌}
use Rattle.service.specs.Collected.{CollectedState, number_in, pushed, filled}
use Rattle.transcript.specs.declared.entry.Entry.TheVariants.{SearchRefused}
use Rattle.transcript.specs.declared.entry.SearchReason.TheVariants.{OutOfMemory}
use Rattle.event_loop.specs.declared.sink.News.{News}
use Rattle.event_loop.specs.declared.sink.News.TheVariants as news

-- Collected entries take the news.
abbrev pub Collects : CollectedState → News → CollectedState → Type 0
Collects old (news.Entry entry) new = new ≡ pushed entry old
Collects old (news.Open search) new = new ≡ pushed (SearchRefused search OutOfMemory) old
Collects old (news.Answer entry) new = 0 < number_in entry → new ≡ filled entry old
