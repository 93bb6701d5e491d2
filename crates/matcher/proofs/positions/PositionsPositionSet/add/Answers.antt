use Rattle.std.proofs.Common.{◌≡◌, ◌∙◌, refl, sym, length, arith}
use Rattle.matcher.proofs.Joining.{added_first, added_more, added_found, added_fresh, fresh_bounded, found_bounded, added_grows, trimmed}
use Rattle.matcher.proofs.positions.PositionsPositionSet.add.Goals as goal

pub joined-first-requires : goal.joined-first-requires
joined-first-requires g c = record { ordered = (c.self.invariant.ordered, c.fresh.invariant.ordered) }

pub loop-i-init : goal.loop-i-init
loop-i-init g c = record {
  added = added_first c.self.inside.words c.fresh.inside.words c.fresh.inside.first c.fresh.inside.end c.self.invariant.whole c.fresh.invariant;
  first = refl;
  end = refl;
  fresh_first = refl;
  fresh_end = refl;
}

pub loop-i-preserved : goal.loop-i-preserved
loop-i-preserved g c = record {
  added = added_more _ _ _ _ _ _ _ _ c.loop-i.invariant.added (omega arith) (omega (arith, c.fresh.invariant.inside)) c.without.ensures c.either.ensures;
  first = c.loop-i.invariant.first;
  end = c.loop-i.invariant.end;
  fresh_first = c.loop-i.invariant.fresh_first;
  fresh_end = c.loop-i.invariant.fresh_end;
}

pub invariant_of-fresh : goal.invariant_of-fresh
invariant_of-fresh g c =
    let limit : c.loop-i.i ≡ c.fresh.inside.end = omega (arith, c.fresh.invariant.ordered) in
    trimmed _ c.loop-i.fresh-inside.first c.loop-i.fresh-inside.end _
    (rw (c.loop-i.invariant.fresh_first, c.loop-i.invariant.fresh_end)
    (fresh_bounded c.self.inside.words c.fresh.inside.words c.loop-i.self-inside.words c.loop-i.fresh-inside.words
    c.fresh.inside.first c.loop-i.i c.fresh.inside.end c.loop-i.invariant.added c.fresh.invariant limit))
    c.first_held-fresh-inside.ensures.between c.first_held-fresh-inside.ensures.none

pub invariant_of-self : goal.invariant_of-self
invariant_of-self g c =
    let limit : c.loop-i.i ≡ c.fresh.inside.end = omega (arith, c.fresh.invariant.ordered) in
    found_bounded c.self.inside.words c.fresh.inside.words c.loop-i.self-inside.words c.loop-i.fresh-inside.words c.fresh.inside.first
    c.loop-i.i c.fresh.inside.end c.loop-i.invariant.added c.fresh.invariant limit c.self.inside.first c.self.inside.end
    c.joined-first.result.0 c.joined-first.result.1 c.self.invariant c.joined-first.ensures.ordered
    (c.joined-first.ensures.inside g.row.N c.self.invariant.inside c.fresh.invariant.inside) c.joined-first.ensures.right
    c.joined-first.ensures.left

pub returns-clause-both : goal.returns-clause-both
returns-clause-both g c =
    let limit : c.loop-i.i ≡ c.fresh.inside.end = omega (arith, c.fresh.invariant.ordered) in
    rw (← c.self.view_is, ← c.fresh.view_is)
    (added_found c.self.inside.words c.fresh.inside.words c.loop-i.self-inside.words c.loop-i.fresh-inside.words c.fresh.inside.first
    c.loop-i.i c.fresh.inside.end c.loop-i.invariant.added c.fresh.invariant limit)

pub returns-clause-new : goal.returns-clause-new
returns-clause-new g c =
    let limit : c.loop-i.i ≡ c.fresh.inside.end = omega (arith, c.fresh.invariant.ordered) in
    rw (← c.self.view_is, ← c.fresh.view_is)
    (added_fresh c.self.inside.words c.fresh.inside.words c.loop-i.self-inside.words c.loop-i.fresh-inside.words c.fresh.inside.first
    c.loop-i.i c.fresh.inside.end c.loop-i.invariant.added c.fresh.invariant limit)

pub returns-clause-grown : goal.returns-clause-grown
returns-clause-grown g c =
    let limit : c.loop-i.i ≡ c.fresh.inside.end = omega (arith, c.fresh.invariant.ordered) in
    let whole : length c.loop-i.self-inside.words ≡ length c.self.inside.words = c.loop-i.invariant.added.found_whole ∙ sym c.self.invariant.whole in
    rw (← c.self.view_is)
    (added_grows c.self.inside.words c.fresh.inside.words c.loop-i.self-inside.words c.loop-i.fresh-inside.words whole
    (added_found c.self.inside.words c.fresh.inside.words c.loop-i.self-inside.words c.loop-i.fresh-inside.words
    c.fresh.inside.first c.loop-i.i c.fresh.inside.end c.loop-i.invariant.added c.fresh.invariant limit)
    (added_fresh c.self.inside.words c.fresh.inside.words c.loop-i.self-inside.words c.loop-i.fresh-inside.words
    c.fresh.inside.first c.loop-i.i c.fresh.inside.end c.loop-i.invariant.added c.fresh.invariant limit) c.is_empty.result
    c.is_empty.ensures)
