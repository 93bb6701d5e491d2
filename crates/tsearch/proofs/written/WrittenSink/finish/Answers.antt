use Rattle.std.proofs.Common.{ap, ◌∙◌, subst}
use Rattle.std.proofs.lemmas.Result.{on_ok_weaker, on_err_weaker}
use Rattle.std.specs.Io.KnownBytes.{Appends}
use Rattle.transcript.specs.Transcript.{text_of_entry}
use Rattle.transcript.specs.Written.{AppendsFront}
use Rattle.tsearch.specs.Private.Sinks.{marks_with}
use Rattle.tsearch.proofs.AheadLemmas.{head_is_longer, rest_written, rest_in_part}
use Rattle.tsearch.proofs.written.WrittenSink.finish.Goals as goal

pub show-requires-after_bounds : goal.show-requires-after_bounds
show-requires-after_bounds g c κs within = head_is_longer c.args.ahead c.args.self.now.stats c.args.entry c.requires.search c.requires.few

pub returns-clause-ok : goal.returns-clause-ok
returns-clause-ok g c =
    on_ok_weaker c.show.result
    (λ wrote first start is. (
      c.show.ensures.marks.1 ∙ is.0,
      c.show.ensures.marks.0 ∙ ap (λ m. marks_with m c.args.entry) is.1,
      subst (λ b. Appends (g.O.Write.contents start) (g.O.Write.contents c.show.new.out) (text_of_entry b c.args.entry)) is.0
          (rest_written c.args.ahead c.args.self.now.stats c.args.entry c.requires.search c.requires.few _ _ _ is.2 wrote),
    )) c.show.ensures.ok

pub returns-clause-err : goal.returns-clause-err
returns-clause-err g c =
    on_err_weaker c.show.result
    (λ some first start is.
    subst (λ b. AppendsFront (g.O.Write.contents start) (g.O.Write.contents c.show.new.out) (text_of_entry b c.args.entry)) is.0
    (rest_in_part c.args.ahead c.args.self.now.stats c.args.entry c.requires.search c.requires.few _ _ _ is.2 some)) c.show.ensures.err
