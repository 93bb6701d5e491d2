use Rattle.std.proofs.Common.{◌≡◌, ◌+◌, ◌<◌, ◌++◌, false, true, map, length, take, sym, ◌∙◌, ap, arith}
use Rattle.std.specs.Prelude.{filter, nat_le}
use Rattle.std.proofs.lemmas.Bool.Decides.{nat_tests}
use Rattle.std.proofs.lemmas.List.{append-nil, map_push, take_all}
use Rattle.names.specs.Contents.{contents_of, is_since}
use Rattle.names.proofs.NumberLemmas.{none_since, content_more, passed_on, passed_by}
use Rattle.names.proofs.chunk.Chunk.push_since.Goals as goal

pub returns-then-newest-number : goal.returns-then-newest-number
returns-then-newest-number c =
    let old = contents_of c.args.found.now.items in
    sym (ap (λ cs. old ++ cs)
    (none_since c.args.number c.range-newest.result.0 c.range-newest.result.1 (map (λ e. e.1) c.args.self.now) c.range-newest.ensures c.if-newest-number.true)
    ∙ append-nil old)

pub loop-at-init : goal.loop-at-init
loop-at-init c = sym (append-nil (contents_of c.args.found.now.items))

pub loop-at-preserved-then-content-number : goal.loop-at-preserved-then-content-number
loop-at-preserved-then-content-number c =
    let es = c.args.self.now in
    let at = c.loop-at.at in
    let x = c.content-content.result.now in
    let long = c.len-at-end.ensures.len in
    let inside : at < length es = omega (arith, c.loop-at-test.true, long) in
    let low = c.if-content-number.true in
    let fails : nat_le c.args.number x.number ≡ false = grind (arith, nat_tests) in
    passed_by (is_since c.args.number) (contents_of c.args.found.now.items) (contents_of c.loop-at.found.items) (map (λ e. e.1) (take at es))
    (map (λ e. e.1) (take (at + 1) es)) x c.loop-at.invariant (content_more es at x inside c.content-content.ensures) fails

pub loop-at-preserved : goal.loop-at-preserved
loop-at-preserved c =
    let es = c.args.self.now in
    let at = c.loop-at.at in
    let x = c.content-content.result.now in
    let long = c.len-at-end.ensures.len in
    let inside : at < length es = omega (arith, c.loop-at-test.true, long) in
    let high = c.if-content-number.false in
    let passes : nat_le c.args.number x.number ≡ true = grind (arith, nat_tests) in
    passed_on (is_since c.args.number) (contents_of c.args.found.now.items) (contents_of c.loop-at.found.items) (map (λ e. e.1) (take at es))
    (map (λ e. e.1) (take (at + 1) es)) x c.loop-at.invariant (content_more es at x inside c.content-content.ensures) (contents_of c.push.new.self.items) passes
    (ap contents_of c.in_ok-push.ensures.items ∙ map_push (λ b. b.now) c.loop-at.found.items c.content-content.result)

pub returns : goal.returns
returns c =
    let old = contents_of c.args.found.now.items in
    let long = c.len-at-end.ensures.len in
    c.loop-at.invariant
    ∙ ap (λ es. old ++ filter (is_since c.args.number) (map (λ e. e.1) es)) (take_all c.loop-at.at c.args.self.now (omega (arith, c.loop-at-test.false, long)))
