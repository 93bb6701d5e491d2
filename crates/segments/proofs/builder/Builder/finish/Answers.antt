use Rattle.std.proofs.Common.{◌≡◌, ◌<◌, ◌∙◌, sym, length}
use Rattle.segments.specs.Private.Keyed.{contents_keyed}
use Rattle.segments.specs.Private.Keys.{place_in, HasKeys}
use Rattle.segments.proofs.Building.{few_numbers, built_segment, built_contents, has_same_keys}
use Rattle.segments.proofs.Keyings.{keyed_numbers, keyed_keys, keyed_order}
use Rattle.segments.proofs.Members.{All-same}
use Rattle.segments.proofs.builder.Builder.finish.Goals as goal
use Rattle.segments.proofs.builder.Builder.finish.Goals.{In_ok-table}

has : (c : In_ok-table) → HasKeys c.self.inside.keys.items c.in_ok-table.table
has c = has_same_keys c.self.inside.keys.items c.in_ok-in_order.field-0.items c.in_ok-table.table c.in_ok-in_order.ensures.same c.in_ok-table.ensures

pub in_order-requires-clause-small : goal.in_order-requires-clause-small
in_order-requires-clause-small c = c.self.invariant.trigrams

pub in_order-requires-clause-places : goal.in_order-requires-clause-places
in_order-requires-clause-places c = c.self.invariant.order

pub table_of-requires-clause-below : goal.table_of-requires-clause-below
table_of-requires-clause-below c =
    let s = c.self.inside in
    let are = c.self.invariant in
    let count : c.len.result ≡ length s.numbers.items = c.len.ensures ∙ s.numbers.ok.0 in
    rw count (record {
      few = few_numbers s.numbers.items are.rising are.small;
      below = All-same (λ k. place_in k < length s.numbers.items) c.in_ok-in_order.field-0.items s.keys.items c.in_ok-in_order.ensures.same are.places;
    })

pub of-requires : goal.of-requires
of-requires c =
    let s = c.self.inside in
    let ns = s.numbers.items in
    let keys = s.keys.items in
    let are = c.self.invariant in
    built_segment (contents_keyed ns keys) ns keys c.in_ok-table.table (sym (keyed_numbers ns keys are)) are.small (keyed_order ns keys are)
    (keyed_keys ns keys are) (has (goal.at.of-requires c).In_ok-table)

pub returns : goal.returns
returns c =
    let s = c.self.inside in
    let ns = s.numbers.items in
    let keys = s.keys.items in
    let are = c.self.invariant in
    c.of.ensures
    ∙ built_contents (contents_keyed ns keys) ns keys c.in_ok-table.table (sym (keyed_numbers ns keys are)) are.small (keyed_order ns keys are)
    (keyed_keys ns keys are) (has (goal.at.returns c).In_ok-table)
    ∙ c.self.view_is
