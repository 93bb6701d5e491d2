use Rattle.std.proofs.Common.{◌≡◌, ◌<◌, ap, ◌∙◌, length, get_or, arith, Ok, Err}
use Rattle.std.specs.List.{slice_range}
use Rattle.segments.specs.Private.Table.{sets_from, places_of, begin_at}
use Rattle.segments.specs.Private.PlaceBytes.{places_in}
use Rattle.segments.proofs.TableLemmas.{found, missing, ends_at, spelled_at}
use Rattle.segments.proofs.PlaceLemmas.{no_places, places_of_none}
use Rattle.segments.proofs.Members.{SearchedFor}
use Rattle.segments.proofs.table.Table.places_near.Goals as goal

pub part-requires : goal.part-requires
part-requires c =
    let inside = c.self.inside in
    let place = c.in-Ok.place in
    let low : place < length inside.ends.items = omega (arith, c.in-Ok.ensures.0, ap length c.as_slice.ensures.value, c.self.invariant.table.same) in
    let ends = ends_at 0 inside.ends.items (length inside.bytes.items) place c.self.invariant.table.ends low in
    rw (c.as_slice-in-Ok.ensures.value, c.as_slice-in-Ok-2.ensures.value) (record { number = low; rise = ends.0; within = ends.1 })

pub new-requires : goal.new-requires
new-requires c =
    let s = c.self.inside in
    let place = c.in-Ok.place in
    let low : place < length s.ends.items = omega (arith, c.in-Ok.ensures.0, ap length c.as_slice.ensures.value, c.self.invariant.table.same) in
    rw (c.part.ensures, c.as_slice-in-Ok.ensures.value, c.as_slice-in-Ok-2.ensures.value)
    (spelled_at s.count 0 s.ends.items s.bytes.items place c.self.invariant.table.spelled low)

pub returns-in-Ok : goal.returns-in-Ok
returns-in-Ok c =
    let s = c.self.inside in
    let place = c.in-Ok.place in
    let searched : SearchedFor s.trigrams.items c.args.trigram (Ok place) = rw c.as_slice.ensures.value at c.in-Ok.ensures in
    let here : places_in s.count (slice_range c.as_slice-in-Ok-2.result.now (begin_at 0 c.as_slice-in-Ok.result.now place) (get_or c.as_slice-in-Ok.result.now place 0))
    ≡ places_of (sets_from s.count 0 s.trigrams.items s.ends.items s.bytes.items) c.args.trigram =
    rw (c.as_slice-in-Ok-2.ensures.value, c.as_slice-in-Ok.ensures.value)
    (found s.count s.trigrams.items s.ends.items s.bytes.items c.args.trigram place c.self.invariant.table searched.0 searched.1) in
    c.new.ensures ∙ ap (places_in s.count) c.part.ensures ∙ here ∙ ap (λ sets. places_of sets c.args.trigram) c.self.view_is

pub new-requires-in-Err : goal.new-requires-in-Err
new-requires-in-Err c = no_places c.self.inside.count c.self.invariant.table.few

pub returns-in-Err : goal.returns-in-Err
returns-in-Err c =
    let s = c.self.inside in
    let searched : SearchedFor s.trigrams.items c.args.trigram (Err c.in-Err.place) = rw c.as_slice.ensures.value at c.in-Err.ensures in
    c.new-in-Err.ensures ∙ places_of_none s.count c.self.invariant.table.few
    ∙ missing s.count s.trigrams.items s.ends.items s.bytes.items c.args.trigram c.in-Err.place c.self.invariant.table searched
    ∙ ap (λ sets. places_of sets c.args.trigram) c.self.view_is
