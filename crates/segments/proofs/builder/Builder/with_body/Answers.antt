use Rattle.std.proofs.Common.{◌≡◌, ◌<◌, ◌∙◌, arith, length}
use Rattle.std.specs.List.{All}
use Rattle.std.proofs.lemmas.List.Elements.{All-from_get_or}
use Rattle.segments.proofs.Keyings.{next_fits, with_body}
use Rattle.segments.proofs.builder.Builder.with_body.Goals as goal

pub overflow_cast-place : goal.overflow_cast-place
overflow_cast-place c =
    let s = c.more.inside in
    let le = next_fits s.numbers.items s.keys.items c.args.self c.args.number c.more.invariant c.more.view_is c.requires in
    let count : c.len-place.result ≡ length s.numbers.items = c.len-place.ensures ∙ s.numbers.ok.0 in
    omega (arith, le, count)

pub invariant_of-more : goal.invariant_of-more
invariant_of-more c =
    let s = c.more.inside in
    let body = c.args.body.now in
    let count : c.len-place.result ≡ length s.numbers.items = c.len-place.ensures ∙ s.numbers.ok.0 in
    let small : All (λ b. b < 256) body = All-from_get_or (λ b. b < 256) body 0 (λ i inside. omega (arith, c.type_inv.body i)) in
    rw c.in_ok-push.ensures.items
    (with_body s.numbers.items s.keys.items c.push_trigrams.new.keys.items c.args.self c.args.number c.len-place.result body c.more.invariant c.more.view_is
    c.requires (omega arith) count small c.in_ok-push_trigrams.ensures).0

pub returns : goal.returns
returns c =
    let s = c.more.inside in
    let body = c.args.body.now in
    let count : c.len-place.result ≡ length s.numbers.items = c.len-place.ensures ∙ s.numbers.ok.0 in
    let small : All (λ b. b < 256) body = All-from_get_or (λ b. b < 256) body 0 (λ i inside. omega (arith, c.type_inv.body i)) in
    rw c.in_ok-push.ensures.items
    (with_body s.numbers.items s.keys.items c.push_trigrams.new.keys.items c.args.self c.args.number c.len-place.result body c.more.invariant c.more.view_is
    c.requires (omega arith) count small c.in_ok-push_trigrams.ensures).1
