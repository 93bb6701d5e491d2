use Rattle.std.proofs.Common.{◌+◌, [], refl}
use Rattle.std.proofs.KnownBytes.{Consumes-nil}
use Rattle.script.specs.Items.{bad_put}
use Rattle.script.specs.Line.{shown_item}
use Rattle.input.proofs.TakingLemmas.{step_bad_put, step_other, takes_next}
use Rattle.input.proofs.stream.take_item.Goals as goal

pub returns-in-Put : goal.returns-in-Put
returns-in-Put g c =
    let (bytes, taken, takes) = c.take_put.ensures in
    (bytes, taken, takes c.args.line.now c.in-Put.ensures)

pub returns-in-BadPut : goal.returns-in-BadPut
returns-in-BadPut g c = (
  [],
  Consumes-nil _,
  record {
    item = bad_put;
    shows = refl;
    whole = step_bad_put c.args.number c.args.line.now c.requires.is_line _ _ c.in-BadPut.ensures.0 c.in-BadPut.ensures.1;
  },
)

pub returns-in-Ok : goal.returns-in-Ok
returns-in-Ok g c = (
  [],
  Consumes-nil _,
  takes_next c.go_on_after.result c.args.number 1 c.args.line.now [] _ _ c.in-Ok.item (shown_item c.in-Other.item)
      c.go_on_after.ensures c.in-Ok.ensures.shows
      (λ few.
      step_other c.args.number c.args.line.now c.requires.is_line (shown_item c.in-Other.item) (c.args.number + 1) c.in-Other.ensures.0
      c.in-Other.ensures.1 c.in-Other.ensures.2 refl),
)
