use Rattle.std.proofs.Common.{◌≡◌, ◌∙◌, ap, length, take, arith}
use Rattle.std.proofs.lemmas.Result.{IfOk-weaker}
use Rattle.std.proofs.lemmas.List.{take_all, length-map, length-take-le}
use Rattle.documents.specs.State.{State}
use Rattle.versions.specs.Updates.{after, command_of, commands_of}
use Rattle.versions.proofs.AfterLemmas.{version-after, after_next}
use Rattle.versions.proofs.draft.Draft.after.Goals as goal

pub with-requires : goal.with-requires
with-requires c =
    let l = c.loop-update in
    let done = commands_of (take l.update-index c.args.updates.now) in
    let same = ap (λ (s : State). s.version) l.invariant in
    let sum = version-after done c.args.self.now in
    let long = length-map (take l.update-index c.args.updates.now) command_of in
    let part = length-take-le l.update-index c.args.updates.now (let at = c.loop-update-test.true in omega (arith, at)) in
    let at = c.loop-update-test.true in
    let few = c.requires in
    omega (arith, same, sum, long, part, at, few)

pub settled-requires : goal.settled-requires
settled-requires c =
    let l = c.loop-update in
    let done = commands_of (take l.update-index c.args.updates.now) in
    let same = ap (λ (s : State). s.version) l.invariant in
    let sum = version-after done c.args.self.now in
    let long = length-map (take l.update-index c.args.updates.now) command_of in
    let all = ap length (take_all l.update-index c.args.updates.now c.loop-update-test.false) in
    let few = c.requires in
    omega (arith, same, sum, long, all, few)

pub loop-update-preserved : goal.loop-update-preserved
loop-update-preserved c =
    after_next c.args.updates.now c.loop-update.update-index c.update-item.result c.args.self.now c.loop-update.next c.in_ok-next.next c.loop-update-test.true
    c.update-item.is c.loop-update.invariant c.in_ok-next.ensures

pub returns : goal.returns
returns c =
    IfOk-weaker c.settled.result (λ draft. draft ≡ c.loop-update.next) (λ draft. draft ≡ after (commands_of c.args.updates.now) c.args.self.now)
    (λ draft is.
    is
    ∙ (c.loop-update.invariant
    ∙ ap (λ us. after (commands_of us) c.args.self.now) (take_all c.loop-update.update-index c.args.updates.now c.loop-update-test.false))) c.settled.ensures
