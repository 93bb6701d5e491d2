use Rattle.std.proofs.Common.{◌≡◌, ◌++◌, ◌∙◌, ap, arith, length}
use Rattle.segments.specs.Private.PlaceBytes.{set_bytes}
use Rattle.segments.specs.Private.Table.{Laid}
use Rattle.segments.proofs.TableLemmas.{with_set, still_table, still_counted}
use Rattle.segments.proofs.laying.Laying.with.Goals as goal
use Rattle.segments.proofs.laying.Laying.with.Goals.{In_ok-push-2}

-- the end is how many bytes there are then
end_is : (c : In_ok-push-2) → c.len.result ≡ length (c.more.inside.bytes.items ++ set_bytes c.more.inside.count c.args.places.now)
end_is c = c.len.ensures ∙ c.push_set.new.bytes.ok.0 ∙ ap length c.in_ok-push_set.ensures

pub push_set-requires : goal.push_set-requires
push_set-requires c =
    let count : c.more.inside.count ≡ c.args.self.count = ap (λ (l : Laid). l.count) c.more.view_is in
    rw count c.requires.places

pub invariant_of-more : goal.invariant_of-more
invariant_of-more c =
    let inside = c.more.inside in
    let count : inside.count ≡ c.args.self.count = ap (λ (l : Laid). l.count) c.more.view_is in
    rw (c.in_ok-push-2.ensures.items, c.in_ok-push.ensures.items, c.in_ok-push_set.ensures, end_is (goal.at.invariant_of-more c).In_ok-push-2) (record {
      table =
          still_table inside.count inside.trigrams.items inside.ends.items inside.bytes.items c.args.trigram c.args.places.now c.more.invariant.table
          (rw count c.requires.places) c.args.self c.more.view_is c.requires.above;
      counted =
          still_counted inside.count inside.trigrams.items inside.ends.items inside.bytes.items c.args.trigram c.args.places.now c.more.invariant.table
          (rw count c.requires.places) inside.pairs c.saturating_add.result c.more.invariant.counted (omega (arith, c.saturating_add.ensures));
    })

pub returns : goal.returns
returns c =
    let inside = c.more.inside in
    let count : inside.count ≡ c.args.self.count = ap (λ (l : Laid). l.count) c.more.view_is in
    rw (c.in_ok-push-2.ensures.items, c.in_ok-push.ensures.items, c.in_ok-push_set.ensures, end_is (goal.at.returns c).In_ok-push-2)
    (with_set inside.count inside.trigrams.items inside.ends.items inside.bytes.items c.args.trigram c.args.places.now c.more.invariant.table
    (rw count c.requires.places) c.args.self c.more.view_is)
