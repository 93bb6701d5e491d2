use Rattle.std.proofs.Common.{◌≡◌, ◌+◌, ◌*◌, ◌/◌, ◌++◌, OnOk, length, arith, rules}
use Rattle.posting.specs.Postings.{is_listed}
use Rattle.posting.specs.Private.Parts.{Grows, Fills}
use Rattle.posting.proofs.Fillings.{grows_joined, fills_both}
use Rattle.posting.proofs.filling.+fill_parts.Goals as goal

pub returns-clause-grown : goal.returns-clause-grown
returns-clause-grown g t c =
    let xs = c.split_at_mut-front.result.0.now in
    let ys = c.split_at_mut-front.result.1.now in
    let xs' = c.join_mut-one.new.f.4.now in
    let ys' = c.join_mut-one.new.g.4.now in
    let next = c.args.first + length c.args.parts.now * (c.min-threads.result / 2) / c.min-threads.result in
    let whole : c.args.parts.now ≡ xs ++ ys = c.split_at_mut-front.ensures.value in
    let after : next ≡ c.args.first + length xs = omega (arith, c.split_at_mut-front.ensures.front_len) in
    let below : Grows c.args.first xs xs' (is_listed c.args.entries.now) = search rules in
    let above : Grows next ys ys' (is_listed c.args.entries.now) = search rules in
    let left : c.front-1.given.0 ≡ xs' = search rules in
    let right : c.back-1.given.0 ≡ ys' = search rules in
    rw (whole, left, right) (grows_joined c.args.first next xs xs' ys ys' (is_listed c.args.entries.now) after below above)

pub returns-clause-ok : goal.returns-clause-ok
returns-clause-ok g t c =
    let xs = c.split_at_mut-front.result.0.now in
    let xs' = c.join_mut-one.new.f.4.now in
    let ys' = c.join_mut-one.new.g.4.now in
    let next = c.args.first + length c.args.parts.now * (c.min-threads.result / 2) / c.min-threads.result in
    let after : next ≡ c.args.first + length xs = omega (arith, c.split_at_mut-front.ensures.front_len) in
    let grown : Grows c.args.first xs xs' (is_listed c.args.entries.now) = search rules in
    let below : OnOk c.join_mut-one.result.0 (Fills c.args.first xs' (is_listed c.args.entries.now)) = search rules in
    let above : OnOk c.join_mut-one.result.1 (Fills next ys' (is_listed c.args.entries.now)) = search rules in
    let left : c.front-1.given.0 ≡ xs' = search rules in
    let right : c.back-1.given.0 ≡ ys' = search rules in
    rw (left, right)
    (fills_both c.args.first next xs' ys' (is_listed c.args.entries.now) c.join_mut-one.result.0 c.join_mut-one.result.1 c.both.result
    (omega (arith, after, grown.count)) below above c.both.ensures.one c.both.ensures.other)
