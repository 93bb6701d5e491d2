use Rattle.std.proofs.Common.{refl}
use Rattle.script.specs.Items.{missing_body, bad_put, truncated}
use Rattle.script.specs.Line.{shown_item}
use Rattle.input.proofs.TakingLemmas.{last_bad_put, last_other, last_owned}
use Rattle.input.proofs.stream.last_item.Goals as goal

pub returns-in-Put : goal.returns-in-Put
returns-in-Put c = (truncated, refl, λ number. missing_body c.in-Put.name.now c.in-Put.size c.in-Put.ensures)

pub returns-in-BadPut : goal.returns-in-BadPut
returns-in-BadPut c = (
  bad_put,
  refl,
  λ number. last_bad_put number c.args.line.now c.requires.is_line c.requires.not_blank c.in-BadPut.ensures.0 c.in-BadPut.ensures.1,
)

pub returns-in-Other : goal.returns-in-Other
returns-in-Other c =
    last_owned c.of.result c.args.line.now (shown_item c.in-Other.item) c.of.ensures.shows
    (λ number. last_other number c.args.line.now c.requires.is_line _ c.in-Other.ensures.0 c.in-Other.ensures.1 c.in-Other.ensures.2)
