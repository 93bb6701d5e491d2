use Rattle.std.proofs.Common.{◌≡◌, ◌∙◌, arith, length, refl}
use Rattle.segments.proofs.Keyings.{next_fits, with_content}
use Rattle.segments.proofs.builder.Builder.with_analysed.Goals as goal

pub overflow_cast-place : goal.overflow_cast-place
overflow_cast-place c =
    let s = c.more.inside in
    let le = next_fits s.numbers.items s.keys.items c.args.self c.args.content.number c.more.invariant c.more.view_is c.requires.above in
    let count : c.len-place.result ≡ length s.numbers.items = c.len-place.ensures ∙ s.numbers.ok.0 in
    omega (arith, le, count)

pub invariant_of-more : goal.invariant_of-more
invariant_of-more c =
    let s = c.more.inside in
    let ts = c.args.content.trigrams.now in
    let count : c.len-place.result ≡ length s.numbers.items = c.len-place.ensures ∙ s.numbers.ok.0 in
    rw c.in_ok-push.ensures.items
    (with_content s.numbers.items s.keys.items c.push_keys.new.keys.items ts ts c.args.self c.args.content.number c.len-place.result c.more.invariant
    c.more.view_is c.requires.above (omega arith) count c.in_ok-push_keys.ensures.is (λ t. refl) c.requires.rising c.in_ok-push_keys.ensures.small).0

pub returns : goal.returns
returns c =
    let s = c.more.inside in
    let ts = c.args.content.trigrams.now in
    let count : c.len-place.result ≡ length s.numbers.items = c.len-place.ensures ∙ s.numbers.ok.0 in
    rw c.in_ok-push.ensures.items
    (with_content s.numbers.items s.keys.items c.push_keys.new.keys.items ts ts c.args.self c.args.content.number c.len-place.result c.more.invariant
    c.more.view_is c.requires.above (omega arith) count c.in_ok-push_keys.ensures.is (λ t. refl) c.requires.rising c.in_ok-push_keys.ensures.small).1
