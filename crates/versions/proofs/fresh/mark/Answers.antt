use Rattle.std.proofs.Common.{◌-◌, arith}
use Rattle.versions.proofs.FreshLemmas.{marks_nothing, marks_one}
use Rattle.versions.proofs.fresh.mark.Goals as goal

pub returns-then-number-first : goal.returns-then-number-first
returns-then-number-first c =
    let low = c.if-number-first.true in
    marks_nothing c.args.first c.args.number c.args.place c.args.places.now.items (λ k inside is. omega (arith, low, is))

pub returns-then-at-len : goal.returns-then-at-len
returns-then-at-len c =
    let from = c.if-number-first.false in
    let within = c.if-at-len.true in
    let len = c.len.ensures in
    let ok = c.args.places.now.ok.0 in
    marks_one c.args.first c.args.number c.args.place (c.args.number - c.args.first) c.args.places.now.items (omega (arith, within, len, ok)) (omega (arith, from))

pub returns-else-at-len : goal.returns-else-at-len
returns-else-at-len c =
    let from = c.if-number-first.false in
    let past = c.if-at-len.false in
    let len = c.len.ensures in
    let ok = c.args.places.now.ok.0 in
    marks_nothing c.args.first c.args.number c.args.place c.args.places.now.items (λ k inside is. omega (arith, from, past, len, ok, inside, is))
