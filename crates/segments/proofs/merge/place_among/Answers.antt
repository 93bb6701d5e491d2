use Rattle.std.proofs.Common.{arith, Ok, Err}
use Rattle.segments.proofs.Joining.{place_found, place_missing}
use Rattle.segments.proofs.Members.{SearchedFor, searched_for}
use Rattle.segments.proofs.merge.place_among.Goals as goal

pub overflow_cast-result : goal.overflow_cast-result
overflow_cast-result c = omega (arith, c.in-Ok.ensures.bound, c.requires.few)

pub returns-in-Ok-clause-place : goal.returns-in-Ok-clause-place
returns-in-Ok-clause-place c =
    let ns = c.args.numbers.now in
    let searched : SearchedFor ns c.args.number (Ok c.in-Ok.place) = searched_for ns c.args.number (Ok c.in-Ok.place) c.requires.rising c.in-Ok.ensures.position in
    place_found ns c.args.number c.in-Ok.place c.requires.rising searched.0 searched.1

pub returns-in-Err-clause-place : goal.returns-in-Err-clause-place
returns-in-Err-clause-place c =
    let ns = c.args.numbers.now in
    let searched : SearchedFor ns c.args.number (Err c.in-Err.field-0) = searched_for ns c.args.number (Err c.in-Err.field-0) c.requires.rising c.in-Err.ensures.position in
    place_missing ns c.args.number c.in-Err.field-0 searched
