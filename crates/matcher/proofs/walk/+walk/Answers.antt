use Rattle.std.proofs.Common.{◌≡◌, ◌+◌, ◌-◌, refl, length, map, drop, sym, ap, subst, ◌∙◌, arith}
use Rattle.ere.specs.Tree.{form, trees_of}
use Rattle.ere.proofs.Forms.{form-Empty, form-Set, form-Start, form-End, form-Cat, form-Alt, form-Repeat}
use Rattle.spans.specs.Spans.{Spans, SpansEach, SpansSome, Steps}
use Rattle.matcher.specs.Private.Moves.{Moves, MovesPast}
use Rattle.matcher.proofs.Walks as walks
use Rattle.matcher.proofs.Rounds as rounds
use Rattle.matcher.proofs.walk.+walk.Goals as goal

pub advance-returns-in-Empty : goal.advance-returns-in-Empty
advance-returns-in-Empty g t c = rw (ap form c.in-Empty.is ∙ form-Empty) (walks.moves_empty c.args.line.now (g.S.PositionSet.words c.args.at.now))

pub advance-returns-in-Set : goal.advance-returns-in-Set
advance-returns-in-Set g t c = rw (ap form c.in-Set.is ∙ form-Set c.in-Set.members) c.step.ensures

pub advance-returns-in-Start : goal.advance-returns-in-Start
advance-returns-in-Start g t c =
    rw (ap form c.in-Start.is ∙ form-Start)
    (walks.moves_start c.args.line.now (g.S.PositionSet.words c.args.at.now) (g.S.PositionSet.words c.keep.new.self) c.keep.ensures)

pub advance-returns-in-End : goal.advance-returns-in-End
advance-returns-in-End g t c =
    rw (ap form c.in-End.is ∙ form-End)
    (walks.moves_end c.args.line.now (g.S.PositionSet.words c.args.at.now) (g.S.PositionSet.words c.keep-in-End.new.self)
    c.keep-in-End.ensures)

pub advance-returns-in-Cat : goal.advance-returns-in-Cat
advance-returns-in-Cat g t c =
    rw (ap form c.in-Cat.is ∙ form-Cat c.in-Cat.members)
    (walks.moves_cat c.args.line.now _ (g.S.PositionSet.words c.args.at.now) (g.S.PositionSet.words c.advance_each.new.at)
    (rw (← c.deref.ensures.value) c.advance_each.ensures))

pub advance-returns-in-Alt : goal.advance-returns-in-Alt
advance-returns-in-Alt g t c =
    rw (ap form c.in-Alt.is ∙ form-Alt c.in-Alt.members)
    (walks.moves_alt c.args.line.now _ (g.S.PositionSet.words c.args.at.now) (g.S.PositionSet.words c.advance_some.new.at)
    (rw (← c.deref-in-Alt.ensures.value) c.advance_some.ensures))

pub advance-returns-in-Repeat : goal.advance-returns-in-Repeat
advance-returns-in-Repeat g t c =
    rw (ap form c.in-Repeat.is ∙ form-Repeat c.in-Repeat.body c.in-Repeat.least c.in-Repeat.greatest)
    (rw (← c.deref-in-Repeat.ensures) c.advance_counted.ensures)

pub advance_over-returns-in-Set : goal.advance_over-returns-in-Set
advance_over-returns-in-Set g t c = rw (ap form c.in-Set.is ∙ form-Set c.in-Set.members) c.step.ensures

pub advance_at_most-loop-round-init : goal.advance_at_most-loop-round-init
advance_at_most-loop-round-init g t c =
    rw c.copy.ensures (walks.widened_by_none (Spans c.args.line.now (form c.args.body.now)) (g.S.PositionSet.words c.args.at.now))

pub advance_at_most-loop-round-preserved : goal.advance_at_most-loop-round-preserved
advance_at_most-loop-round-preserved g t c =
    walks.widened_by_more (Spans c.args.line.now (form c.args.body.now)) c.loop-round._round (c.loop-round._round + 1)
    (g.S.PositionSet.words c.args.at.now) (g.S.PositionSet.words c.loop-round.found) (g.S.PositionSet.words c.loop-round.at)
    (g.S.PositionSet.words c.advance.new.at) (g.S.PositionSet.words c.add.new.self) (g.S.PositionSet.words c.add.new.fresh) refl
    c.loop-round.invariant c.advance.ensures c.add.ensures.both c.add.ensures.new

pub advance_at_most-returns : goal.advance_at_most-returns
advance_at_most-returns g t c =
    let all_rounds : c.loop-round._round ≡ c.args.count = omega arith in
    rw (c.copy-2.ensures, ← all_rounds)
    (walks.moves_few (Spans c.args.line.now (form c.args.body.now)) c.loop-round._round (g.S.PositionSet.words c.args.at.now)
    (g.S.PositionSet.words c.loop-round.found) (g.S.PositionSet.words c.loop-round.at) c.loop-round.invariant)

pub advance_at_most-returns-then-not-add : goal.advance_at_most-returns-then-not-add
advance_at_most-returns-then-not-add g t c =
    rw c.copy-then-not-add.ensures
    (walks.moves_few_closed (Spans c.args.line.now (form c.args.body.now)) (c.loop-round._round + 1) c.args.count
    (g.S.PositionSet.words c.args.at.now) (g.S.PositionSet.words c.add.new.self) (g.S.PositionSet.words c.add.new.fresh)
    (omega arith)
    (walks.widened_by_more (Spans c.args.line.now (form c.args.body.now)) c.loop-round._round (c.loop-round._round + 1)
    (g.S.PositionSet.words c.args.at.now) (g.S.PositionSet.words c.loop-round.found) (g.S.PositionSet.words c.loop-round.at)
    (g.S.PositionSet.words c.advance.new.at) (g.S.PositionSet.words c.add.new.self) (g.S.PositionSet.words c.add.new.fresh) refl
    c.loop-round.invariant c.advance.ensures c.add.ensures.both c.add.ensures.new) c.if-not-add.ensures.grown)

pub advance_counted-returns-then-most-least : goal.advance_counted-returns-then-most-least
advance_counted-returns-then-most-least g t c =
    rw c.in-Some.is
    (walks.moves_impossible c.args.line.now (form c.args.body.now) c.args.least c.in-Some.most (g.S.PositionSet.words c.args.at.now)
    (g.S.PositionSet.words c.clear.new.self) c.if-most-least.true c.clear.ensures.none)

pub advance_counted-returns-else-most-least : goal.advance_counted-returns-else-most-least
advance_counted-returns-else-most-least g t c =
    rw c.in-Some.is
    (walks.moves_between c.args.line.now (form c.args.body.now) c.args.least c.in-Some.most (c.in-Some.most - c.args.least)
    (g.S.PositionSet.words c.args.at.now) (g.S.PositionSet.words c.advance_exactly.new.at)
    (g.S.PositionSet.words c.advance_at_most.new.at) (omega arith) c.advance_exactly.ensures c.advance_at_most.ensures)

pub advance_each-returns-then-is_empty : goal.advance_each-returns-then-is_empty
advance_each-returns-then-is_empty g t c =
    let rest : Moves (SpansEach c.args.line.now (trees_of (map form (drop (c.loop-member.member-index + 1) c.args.members.now))))
    (g.S.PositionSet.words c.advance_over.new.at) (g.S.PositionSet.words c.advance_over.new.at) =
    walks.moves_none _ (g.S.PositionSet.words c.advance_over.new.at) (g.S.PositionSet.words c.advance_over.new.at)
    (c.if-is_empty.ensures) (c.if-is_empty.ensures) in
    c.loop-member.invariant (g.S.PositionSet.words c.advance_over.new.at)
    (walks.moves_members c.args.line.now c.args.members.now c.loop-member.member-index c.member-item.result
    (g.S.PositionSet.words c.loop-member.at) (g.S.PositionSet.words c.advance_over.new.at)
    (g.S.PositionSet.words c.advance_over.new.at) c.loop-member-test.true c.member-item.is c.advance_over.ensures rest)

pub advance_each-loop-member-preserved : goal.advance_each-loop-member-preserved
advance_each-loop-member-preserved g t c =
    λ to h.
    c.loop-member.invariant to
    (walks.moves_members c.args.line.now c.args.members.now c.loop-member.member-index c.member-item.result
    (g.S.PositionSet.words c.loop-member.at) (g.S.PositionSet.words c.advance_over.new.at) to c.loop-member-test.true
    c.member-item.is c.advance_over.ensures h)

pub advance_each-returns : goal.advance_each-returns
advance_each-returns g t c =
    c.loop-member.invariant (g.S.PositionSet.words c.loop-member.at)
    (walks.moves_no_members c.args.line.now c.args.members.now c.loop-member.member-index (g.S.PositionSet.words c.loop-member.at)
    c.loop-member-test.false)

pub advance_exactly-returns-then-can_be_empty : goal.advance_exactly-returns-then-can_be_empty
advance_exactly-returns-then-can_be_empty g t c =
    walks.moves_exactly (Spans c.args.line.now (form c.args.body.now)) c.args.count (g.S.PositionSet.words c.args.at.now)
    (g.S.PositionSet.words c.advance_at_most.new.at) (c.if-can_be_empty.ensures refl c.args.line.now) c.advance_at_most.ensures

pub advance_exactly-loop-word-init : goal.advance_exactly-loop-word-init
advance_exactly-loop-word-init g t c = walks.moves_zero_steps (Spans c.args.line.now (form c.args.body.now)) (g.S.PositionSet.words c.args.at.now)

pub advance_exactly-returns-then-is_empty : goal.advance_exactly-returns-then-is_empty
advance_exactly-returns-then-is_empty g t c =
    walks.moves_no_more (Spans c.args.line.now (form c.args.body.now)) c.loop-word._word c.args.count (g.S.PositionSet.words c.args.at.now)
    (g.S.PositionSet.words c.loop-word.at) (omega arith) c.loop-word.invariant c.if-is_empty.ensures

pub advance_exactly-loop-word-preserved : goal.advance_exactly-loop-word-preserved
advance_exactly-loop-word-preserved g t c =
    walks.moves_more_steps (Spans c.args.line.now (form c.args.body.now)) c.loop-word._word (c.loop-word._word + 1)
    (g.S.PositionSet.words c.args.at.now) (g.S.PositionSet.words c.loop-word.at) (g.S.PositionSet.words c.advance.new.at) refl
    c.loop-word.invariant c.advance.ensures

pub advance_some-loop-i-init : goal.advance_some-loop-i-init
advance_some-loop-i-init g t c =
    walks.moves_by_no_member c.args.line.now c.args.members.now (length c.args.members.now) (g.S.PositionSet.words c.args.at.now)
    (g.S.PositionSet.words c.none-found.result) (omega arith) c.none-found.ensures

pub advance_some-loop-i-preserved : goal.advance_some-loop-i-preserved
advance_some-loop-i-preserved g t c =
    let next : c.loop-i.i ≡ (c.loop-i.i - 1) + 1 = omega arith in
    let rest : Moves (SpansSome c.args.line.now (trees_of (map form (drop ((c.loop-i.i - 1) + 1) c.args.members.now))))
    (g.S.PositionSet.words c.args.at.now) (g.S.PositionSet.words c.loop-i.found) =
    subst (λ i.
    Moves (SpansSome c.args.line.now (trees_of (map form (drop i c.args.members.now)))) (g.S.PositionSet.words c.args.at.now)
    (g.S.PositionSet.words c.loop-i.found)) next c.loop-i.invariant in
    let one : Moves (Spans c.args.line.now (form c.index-members-i.result)) (g.S.PositionSet.words c.args.at.now)
    (g.S.PositionSet.words c.advance_over.new.at) =
    rw c.copy.ensures at c.advance_over.ensures in
    walks.moves_by_member c.args.line.now c.args.members.now (c.loop-i.i - 1) c.index-members-i.result (g.S.PositionSet.words c.args.at.now)
    (g.S.PositionSet.words c.advance_over.new.at) (g.S.PositionSet.words c.loop-i.found) (g.S.PositionSet.words c.add.new.self)
    (omega arith) c.index-members-i.is one rest c.add.ensures.both

pub advance_any-returns-in-Set : goal.advance_any-returns-in-Set
advance_any-returns-in-Set g t c = rw (ap form c.in-Set.is ∙ form-Set c.in-Set.members) c.sweep.ensures

pub advance_counted-returns-then-least-eq0 : goal.advance_counted-returns-then-least-eq0
advance_counted-returns-then-least-eq0 g t c =
    let none : Moves (Steps (Spans c.args.line.now (form c.args.body.now)) 0) (g.S.PositionSet.words c.args.at.now)
    (g.S.PositionSet.words c.advance_exactly-then-joins_words.new.at) =
    rw c.if-least-eq0.true at c.advance_exactly-then-joins_words.ensures in
    rw (c.in-None.is, c.if-least-eq0.true)
    (walks.moves_optional c.args.line.now (form c.args.body.now) (g.S.PositionSet.words c.args.at.now)
    (g.S.PositionSet.words c.advance_exactly-then-joins_words.new.at)
    (g.S.PositionSet.words c.advance_at_most-then-least-eq0.new.at) (c.if-joins_words.ensures refl c.args.line.now) none
    c.advance_at_most-then-least-eq0.ensures)

pub advance_counted-returns-else-least-eq0 : goal.advance_counted-returns-else-least-eq0
advance_counted-returns-else-least-eq0 g t c =
    rw c.in-None.is
    (walks.moves_joined c.args.line.now (form c.args.body.now) c.args.least (g.S.PositionSet.words c.args.at.now)
    (g.S.PositionSet.words c.advance_exactly-then-joins_words.new.at) (c.if-joins_words.ensures refl c.args.line.now) (omega arith)
    c.advance_exactly-then-joins_words.ensures)

pub advance_counted-returns-then-least-eq0-2 : goal.advance_counted-returns-then-least-eq0-2
advance_counted-returns-then-least-eq0-2 g t c =
    rw (c.in-None.is, c.if-least-eq0-2.true)
    (walks.moves_at_least c.args.line.now (form c.args.body.now) 0 (g.S.PositionSet.words c.args.at.now)
    (g.S.PositionSet.words c.args.at.now) (g.S.PositionSet.words c.advance_any.new.at)
    (walks.moves_zero_steps (Spans c.args.line.now (form c.args.body.now)) (g.S.PositionSet.words c.args.at.now))
    c.advance_any.ensures)

pub advance_counted-returns-else-least-eq0-2 : goal.advance_counted-returns-else-least-eq0-2
advance_counted-returns-else-least-eq0-2 g t c =
    rw c.in-None.is
    (rounds.moves_some_more_words c.args.line.now (form c.args.body.now) c.args.least (c.args.least - 1)
    (g.S.PositionSet.words c.args.at.now) (g.S.PositionSet.words c.advance_exactly-else-least-eq0-2.new.at)
    (g.S.PositionSet.words c.advance_more.new.at) (omega arith) c.advance_exactly-else-least-eq0-2.ensures c.advance_more.ensures)

pub advance_past-returns-in-Cat : goal.advance_past-returns-in-Cat
advance_past-returns-in-Cat g t c =
    rw (ap form c.in-Cat.is ∙ form-Cat c.in-Cat.members)
    (rounds.past_cat c.args.line.now _ (g.S.PositionSet.words c.args.done.now) (g.S.PositionSet.words c.args.at.now)
    (g.S.PositionSet.words c.each_past.new.at) (rw (← c.deref.ensures.value) c.each_past.ensures))

pub advance_past-returns-in-Alt : goal.advance_past-returns-in-Alt
advance_past-returns-in-Alt g t c =
    rw (ap form c.in-Alt.is ∙ form-Alt c.in-Alt.members)
    (rounds.past_alt c.args.line.now _ (g.S.PositionSet.words c.args.done.now) (g.S.PositionSet.words c.args.at.now)
    (g.S.PositionSet.words c.some_past.new.at) (rw (← c.deref-in-Alt.ensures.value) c.some_past.ensures))

pub advance_past-returns-in-Repeat : goal.advance_past-returns-in-Repeat
advance_past-returns-in-Repeat g t c =
    rw (ap form c.in-Repeat.is ∙ form-Repeat c.in-Repeat.body c.in-Repeat.least c.in-Repeat.greatest)
    (rw (← c.deref-in-Repeat.ensures) c.repeat_past.ensures)

pub optional_past-returns : goal.optional_past-returns
optional_past-returns g t c =
    rounds.past_optional c.args.line.now (form c.args.body.now) (g.S.PositionSet.words c.args.done.now)
    (g.S.PositionSet.words c.args.at.now) (g.S.PositionSet.words c.advance_past.new.at) (g.S.PositionSet.words c.add.new.self)
    c.advance_past.ensures (rw c.copy.ensures at c.add.ensures.both)

pub repeat_past-returns-then-least-eq0-2 : goal.repeat_past-returns-then-least-eq0-2
repeat_past-returns-then-least-eq0-2 g t c =
    rw (c.in-None.is, c.if-least-eq0-2.true)
    (rounds.past_star c.args.line.now (form c.args.body.now) (g.S.PositionSet.words c.args.done.now)
    (g.S.PositionSet.words c.args.at.now) (g.S.PositionSet.words c.any_past.new.at) c.any_past.ensures)

pub repeat_past-returns-then-least-eq1 : goal.repeat_past-returns-then-least-eq1
repeat_past-returns-then-least-eq1 g t c =
    rw (c.in-None.is, c.if-least-eq1.true)
    (rounds.past_plus c.args.line.now (form c.args.body.now) (g.S.PositionSet.words c.args.done.now)
    (g.S.PositionSet.words c.args.at.now) (g.S.PositionSet.words c.more_past.new.at) c.more_past.ensures)

pub any_past-returns : goal.any_past-returns
any_past-returns g t c =
    rounds.past_any (Spans c.args.line.now (form c.args.body.now)) (g.S.PositionSet.words c.args.done.now)
    (g.S.PositionSet.words c.args.at.now) (g.S.PositionSet.words c.more_past.new.at) (g.S.PositionSet.words c.add.new.self)
    c.more_past.ensures (rw c.copy.ensures at c.add.ensures.both)

pub each_past-returns-then-is_empty : goal.each_past-returns-then-is_empty
each_past-returns-then-is_empty g t c =
    c.loop-member.invariant (g.S.PositionSet.words c.member_past-leads.new.at)
    (rounds.past_members c.args.line.now c.args.members.now c.loop-member.member-index c.member-item.result
    (g.S.PositionSet.words c.args.done.now) (g.S.PositionSet.words c.loop-member.at)
    (g.S.PositionSet.words c.member_past-leads.new.at) (g.S.PositionSet.words c.member_past-leads.new.at) c.loop-member.leads
    c.member_past-leads.result c.loop-member-test.true c.member-item.is c.member_past-leads.ensures.moved
    c.member_past-leads.ensures.next
    (rounds.past_nothing c.member_past-leads.result _ (g.S.PositionSet.words c.args.done.now)
    (g.S.PositionSet.words c.member_past-leads.new.at) c.if-is_empty.ensures))

pub each_past-loop-member-preserved : goal.each_past-loop-member-preserved
each_past-loop-member-preserved g t c =
    λ to h.
    c.loop-member.invariant to
    (rounds.past_members c.args.line.now c.args.members.now c.loop-member.member-index c.member-item.result
    (g.S.PositionSet.words c.args.done.now) (g.S.PositionSet.words c.loop-member.at)
    (g.S.PositionSet.words c.member_past-leads.new.at) to c.loop-member.leads c.member_past-leads.result c.loop-member-test.true
    c.member-item.is c.member_past-leads.ensures.moved c.member_past-leads.ensures.next h)

pub each_past-returns : goal.each_past-returns
each_past-returns g t c =
    c.loop-member.invariant (g.S.PositionSet.words c.loop-member.at)
    (rounds.past_if c.loop-member.leads _ (g.S.PositionSet.words c.args.done.now) (g.S.PositionSet.words c.loop-member.at)
    (g.S.PositionSet.words c.loop-member.at)
    (walks.moves_no_members c.args.line.now c.args.members.now c.loop-member.member-index (g.S.PositionSet.words c.loop-member.at)
    c.loop-member-test.false))

pub member_past-returns-in-Set-clause-moved : goal.member_past-returns-in-Set-clause-moved
member_past-returns-in-Set-clause-moved g t c =
    rw (ap form c.in-Set.is ∙ form-Set c.in-Set.members)
    (rounds.past_if c.args.leads _ (g.S.PositionSet.words c.args.done.now) (g.S.PositionSet.words c.args.at.now)
    (g.S.PositionSet.words c.step.new.self) c.step.ensures)

pub more_past-returns-in-Set : goal.more_past-returns-in-Set
more_past-returns-in-Set g t c =
    rw (ap form c.in-Set.is ∙ form-Set c.in-Set.members)
    (rounds.past_of_moves _ (g.S.PositionSet.words c.args.done.now) (g.S.PositionSet.words c.args.at.now)
    (g.S.PositionSet.words c.sweep.new.self)
    (rounds.moves_more _ (g.S.PositionSet.words c.args.at.now) (g.S.PositionSet.words c.step.new.self)
    (g.S.PositionSet.words c.sweep.new.self) c.step.ensures c.sweep.ensures))

pub more_past-returns : goal.more_past-returns
more_past-returns g t c =
    rw c.copy-2.ensures
    (c.rounds_past.ensures (g.S.PositionSet.words c.args.at.now)
    (c.begin_plain.ensures (g.S.PositionSet.words c.args.done.now) (g.S.PositionSet.words c.args.at.now)
    (rounds.rounded_first (Spans c.args.line.now (form c.args.body.now)) (g.S.PositionSet.words c.args.done.now)
    (g.S.PositionSet.words c.args.at.now) (g.S.PositionSet.words c.none-found.result) (g.S.PositionSet.words c.add.new.self)
    (g.S.PositionSet.words c.add.new.fresh) c.none-found.ensures (rw c.copy.ensures at c.add.ensures.both)
    (rw c.copy.ensures at c.add.ensures.new))))

pub begin_plain-returns : goal.begin_plain-returns
begin_plain-returns g t c = λ done start h.
    c.window_by_window.ensures done start
    (rounds.rounded_on (Spans c.args.line.now (form c.args.body.now)) done start (g.S.PositionSet.words c.args.found.now)
    (g.S.PositionSet.words c.args.known.now) (g.S.PositionSet.words c.args.at.now) (g.S.PositionSet.words c.go_on.new.at)
    (g.S.PositionSet.words c.go_on.new.found) (g.S.PositionSet.words c.go_on.new.known) c.go_on.ensures h)

pub rounds_past-returns-then-is_empty : goal.rounds_past-returns-then-is_empty
rounds_past-returns-then-is_empty g t c = λ start h.
    rounds.rounded_all (Spans c.args.line.now (form c.args.body.now)) (g.S.PositionSet.words c.args.done.now) start
    (g.S.PositionSet.words c.args.found.now) (g.S.PositionSet.words c.args.done.now) (g.S.PositionSet.words c.args.known.now)
    (g.S.PositionSet.words c.args.at.now) h c.if-is_empty.ensures

pub rounds_past-loop-grown-init : goal.rounds_past-loop-grown-init
rounds_past-loop-grown-init g t c = λ start h. rw c.copy.ensures h

pub rounds_past-loop-grown-preserved : goal.rounds_past-loop-grown-preserved
rounds_past-loop-grown-preserved g t c = λ start h.
    rw c.copy-in-loop-grown.ensures
    (rounds.rounded_more (Spans c.args.line.now (form c.args.body.now)) (g.S.PositionSet.words c.args.done.now) start
    (g.S.PositionSet.words c.loop-grown.found) (g.S.PositionSet.words c.loop-grown.over)
    (g.S.PositionSet.words c.loop-grown.known) (g.S.PositionSet.words c.loop-grown.at)
    (g.S.PositionSet.words c.advance_past.new.at) (g.S.PositionSet.words c.add.new.self) (g.S.PositionSet.words c.add.new.fresh)
    (g.S.PositionSet.words c.add-grown.new.self) (g.S.PositionSet.words c.add-grown.new.fresh) (c.loop-grown.invariant start h) c.advance_past.ensures
    c.add.ensures.both c.add.ensures.new c.add-grown.ensures.both c.add-grown.ensures.new)

pub rounds_past-returns : goal.rounds_past-returns
rounds_past-returns g t c = λ start h.
    rounds.rounded_all (Spans c.args.line.now (form c.args.body.now)) (g.S.PositionSet.words c.args.done.now) start
    (g.S.PositionSet.words c.add.new.self) (g.S.PositionSet.words c.loop-grown.known)
    (g.S.PositionSet.words c.add-grown.new.self) (g.S.PositionSet.words c.add-grown.new.fresh)
    (rounds.rounded_more (Spans c.args.line.now (form c.args.body.now)) (g.S.PositionSet.words c.args.done.now) start
    (g.S.PositionSet.words c.loop-grown.found) (g.S.PositionSet.words c.loop-grown.over)
    (g.S.PositionSet.words c.loop-grown.known) (g.S.PositionSet.words c.loop-grown.at)
    (g.S.PositionSet.words c.advance_past.new.at) (g.S.PositionSet.words c.add.new.self) (g.S.PositionSet.words c.add.new.fresh)
    (g.S.PositionSet.words c.add-grown.new.self) (g.S.PositionSet.words c.add-grown.new.fresh) (c.loop-grown.invariant start h) c.advance_past.ensures
    c.add.ensures.both c.add.ensures.new c.add-grown.ensures.both c.add-grown.ensures.new)
    (rw c.if-not-grown.true at c.add-grown.ensures.grown)

pub go_on-returns : goal.go_on-returns
go_on-returns g t c =
    record {
      next = (g.S.PositionSet.words c.advance.new.at);
      unfound = (g.S.PositionSet.words c.add.new.fresh);
      moves = c.advance.ensures;
      finds = c.add.ensures.both;
      new = c.add.ensures.new;
      knows = c.add-2.ensures.both;
      new_known = c.add-2.ensures.new;
    }

pub window_by_window-loop-window-preserved : goal.window_by_window-loop-window-preserved
window_by_window-loop-window-preserved g t c = λ done start h. c.over_window.ensures done start (c.loop-window.invariant done start h)

pub over_window-returns : goal.over_window-returns
over_window-returns g t c = λ done start h.
    rounds.rounded_part _ (Spans c.args.line.now (form c.args.body.now)) (λ i k r. c.requires.longer c.args.line.now _ i k r) done
    start (g.S.PositionSet.words c.args.found.now)
    (g.S.PositionSet.words c.args.known.now) (g.S.PositionSet.words c.args.at.now)
    (g.S.PositionSet.words c.take_window-last.new.here) (g.S.PositionSet.words c.widen.new.here) (g.S.PositionSet.words c.go_on.new.at)
    (g.S.PositionSet.words c.take_window-last.new.self) (g.S.PositionSet.words c.widen.new.known)
    (g.S.PositionSet.words c.go_on.new.known) (g.S.PositionSet.words c.go_on.new.found) (g.S.PositionSet.words c.add.new.self)
    c.take_window-last.ensures c.widen.ensures c.go_on.ensures c.add.ensures.both h

pub widen-loop-round-init : goal.widen-loop-round-init
widen-loop-round-init g t c = rw c.copy.ensures (rounds.widened_first (Spans c.args.line.now (form c.args.body.now))
    (g.S.PositionSet.words c.args.here.now) (g.S.PositionSet.words c.args.known.now))

pub widen-loop-round-preserved : goal.widen-loop-round-preserved
widen-loop-round-preserved g t c =
    rounds.widened_more (Spans c.args.line.now (form c.args.body.now)) (g.S.PositionSet.words c.args.here.now)
    (g.S.PositionSet.words c.args.known.now) (g.S.PositionSet.words c.loop-round.here) (g.S.PositionSet.words c.loop-round.known)
    (g.S.PositionSet.words c.loop-round.next) (g.S.PositionSet.words c.advance.new.at)
    (g.S.PositionSet.words c.add-has_new.new.self) (g.S.PositionSet.words c.add-has_new.new.fresh) (g.S.PositionSet.words c.add.new.self)
    (g.S.PositionSet.words c.add.new.fresh) c.loop-round.invariant c.advance.ensures c.add-has_new.ensures.both c.add-has_new.ensures.new c.add.ensures.both
    c.add.ensures.new

pub advance_while_new-loop-word-init : goal.advance_while_new-loop-word-init
advance_while_new-loop-word-init g t c = walks.moves_zero_steps (Spans c.args.line.now (form c.args.body.now)) (g.S.PositionSet.words c.args.at.now)

pub advance_while_new-returns-then-is_empty : goal.advance_while_new-returns-then-is_empty
advance_while_new-returns-then-is_empty g t c =
    walks.moves_no_more (Spans c.args.line.now (form c.args.body.now)) c.loop-word._word c.args.count (g.S.PositionSet.words c.args.at.now)
    (g.S.PositionSet.words c.loop-word.at) (omega arith) c.loop-word.invariant c.if-is_empty.ensures

pub advance_while_new-returns-then-is_same : goal.advance_while_new-returns-then-is_same
advance_while_new-returns-then-is_same g t c =
    let same : g.S.PositionSet.words c.advance.new.at ≡ g.S.PositionSet.words c.loop-word.at = rw c.copy.ensures at (c.is_same.ensures c.if-is_same.true) in
    walks.moves_still (Spans c.args.line.now (form c.args.body.now)) (c.loop-word._word + 1) c.args.count
    (g.S.PositionSet.words c.args.at.now) (g.S.PositionSet.words c.advance.new.at) (omega arith)
    (walks.moves_more_steps (Spans c.args.line.now (form c.args.body.now)) c.loop-word._word (c.loop-word._word + 1)
    (g.S.PositionSet.words c.args.at.now) (g.S.PositionSet.words c.loop-word.at) (g.S.PositionSet.words c.advance.new.at) refl
    c.loop-word.invariant c.advance.ensures)
    (subst (λ set. Moves (Spans c.args.line.now (form c.args.body.now)) set (g.S.PositionSet.words c.advance.new.at)) (sym same) c.advance.ensures)

pub advance_while_new-loop-word-preserved : goal.advance_while_new-loop-word-preserved
advance_while_new-loop-word-preserved g t c =
    walks.moves_more_steps (Spans c.args.line.now (form c.args.body.now)) c.loop-word._word (c.loop-word._word + 1)
    (g.S.PositionSet.words c.args.at.now) (g.S.PositionSet.words c.loop-word.at) (g.S.PositionSet.words c.advance.new.at) refl
    c.loop-word.invariant c.advance.ensures

pub some_past-loop-place-init : goal.some_past-loop-place-init
some_past-loop-place-init g t c =
    rounds.past_of_moves _ (g.S.PositionSet.words c.args.done.now) (g.S.PositionSet.words c.args.at.now)
    (g.S.PositionSet.words c.none-found.result)
    (walks.moves_by_no_member c.args.line.now c.args.members.now (length c.args.members.now) (g.S.PositionSet.words c.args.at.now)
    (g.S.PositionSet.words c.none-found.result) (omega arith) c.none-found.ensures)

pub some_past-loop-place-preserved : goal.some_past-loop-place-preserved
some_past-loop-place-preserved g t c =
    let next : c.loop-place.place ≡ (c.loop-place.place - 1) + 1 = omega arith in
    let rest : MovesPast (SpansSome c.args.line.now (trees_of (map form (drop ((c.loop-place.place - 1) + 1) c.args.members.now))))
    (g.S.PositionSet.words c.args.done.now) (g.S.PositionSet.words c.args.at.now) (g.S.PositionSet.words c.loop-place.found) =
    subst (λ i.
    MovesPast (SpansSome c.args.line.now (trees_of (map form (drop i c.args.members.now)))) (g.S.PositionSet.words c.args.done.now)
    (g.S.PositionSet.words c.args.at.now) (g.S.PositionSet.words c.loop-place.found)) next c.loop-place.invariant in
    let one : MovesPast (Spans c.args.line.now (form c.index-members-place.result)) (g.S.PositionSet.words c.args.done.now)
    (g.S.PositionSet.words c.args.at.now) (g.S.PositionSet.words c.advance_past.new.at) =
    rw c.copy.ensures at c.advance_past.ensures in
    rounds.past_by_member c.args.line.now c.args.members.now (c.loop-place.place - 1) c.index-members-place.result
    (g.S.PositionSet.words c.args.done.now) (g.S.PositionSet.words c.args.at.now) (g.S.PositionSet.words c.advance_past.new.at)
    (g.S.PositionSet.words c.loop-place.found) (g.S.PositionSet.words c.add.new.self) (omega arith) c.index-members-place.is one rest
    c.add.ensures.both
