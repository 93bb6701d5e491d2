use Rattle.std.proofs.Common.{◌<◌, ◌∙◌}
use Rattle.std.specs.Prelude.{eqb}
use Rattle.std.proofs.lemmas.List.Filters.{dedup_is, All-dedup}
use Rattle.std.proofs.lemmas.Map.Keys.{IsStrictlyIncreasing-dedup}
use Rattle.segments.specs.Private.Keys.{place_in}
use Rattle.segments.proofs.Building.{precedes_none, has_keys}
use Rattle.segments.proofs.keys.table_of.Goals as goal

pub lay-requires-clause-rising : goal.lay-requires-clause-rising
lay-requires-clause-rising c = rw (c.deref.ensures.value, dedup_is _ _ _ c.dedup.ensures.filtered) (IsStrictlyIncreasing-dedup _ c.requires.sorted)

pub lay-requires-clause-above : goal.lay-requires-clause-above
lay-requires-clause-above c = rw c.new.ensures (precedes_none c.deref.result.now)

pub lay-requires-clause-below : goal.lay-requires-clause-below
lay-requires-clause-below c =
    rw (c.new.ensures, c.deref.ensures.value, dedup_is _ _ _ c.dedup.ensures.filtered) (record {
      few = c.requires.below.few;
      below = All-dedup eqb (λ k. place_in k < c.args.count) c.args.keys.items c.requires.below.below;
    })

pub returns : goal.returns
returns c =
    has_keys c.args.keys.items c.deref.result.now c.finish.result (c.deref.ensures.value ∙ dedup_is _ _ _ c.dedup.ensures.filtered)
    (rw c.finish.ensures (rw c.new.ensures at c.in_ok-lay.ensures.adds))
