use Rattle.std.proofs.Common.{◌++◌, [], inl, inr, refl, subst, rules}
use Rattle.std.proofs.KnownBytes.{Consumes-nil, Consumes-trans}
use Rattle.script.specs.Items.{ItemsFrom, done}
use Rattle.input.specs.Stream.{StreamState}
use Rattle.input.proofs.NotLemmas.{unless_not}
use Rattle.input.proofs.NextLemmas.{takes_step}
use Rattle.input.proofs.stream.ItemStream.next_item.Goals as goal

pub returns-then-self-clause-taken : goal.returns-then-self-clause-taken
returns-then-self-clause-taken g c = ([], Consumes-nil _, (done, search rules, inl (search rules)))

pub returns-in-Ok-None-clause-taken : goal.returns-in-Ok-None-clause-taken
returns-in-Ok-None-clause-taken g c =
    let (bytes, taken, (none, end)) = rw c.in-Ok-None.field-0-is at c.in-Ok-None.ensures in
    (bytes, taken, (subst (λ (p : StreamState). ItemsFrom p.line bytes []) c.self.view_is none, refl, inr end))

pub returns-in-Ok-take_item-clause-taken : goal.returns-in-Ok-take_item-clause-taken
returns-in-Ok-take_item-clause-taken g c =
    let (bytes, taken, line) = rw c.in-Ok-Some.field-0-is at c.in-Ok-Some.ensures in
    let (more, consumed, step) = rw c.as_slice-2.ensures.value at c.in-Ok-take_item.ensures in (
      bytes ++ more,
      Consumes-trans _ _ _ bytes more taken consumed,
      takes_step _ _ _ c.in-Ok-Some.start _ bytes c.self.view_is c.in-Ok-take_item.field-0 c.go_on.ensures more _ _ _ taken line
          (unless_not _ c.if-not-start.false) step,
    )

pub returns-in-Err-take_item-clause-taken : goal.returns-in-Err-take_item-clause-taken
returns-in-Err-take_item-clause-taken g c =
    let (bytes, taken, line) = c.in-Ok-Some.ensures in
    let (more, consumed, nothing) = c.take_item.ensures in
    (bytes ++ more, Consumes-trans _ _ _ bytes more taken consumed, tt)
