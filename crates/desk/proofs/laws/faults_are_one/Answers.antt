use Rattle.std.proofs.Common.{◌∙◌, refl, sym, arith, true≢false}
use Rattle.desk.specs.Desk.{DeskState, IsFull, HasRoom}
use Rattle.desk.specs.Laws.{PutFaultsAreOne, RemoveFaultsAreOne}
use Rattle.desk.specs.declared.error.PutErrorKind.TheVariants as put_error
use Rattle.desk.specs.declared.error.RemoveError.TheVariants as remove_error
use Rattle.desk.proofs.laws.faults_are_one.Goals as goal

full_or_room : (desk : DeskState) → IsFull desk → HasRoom desk → ⊥
full_or_room desk full room = absurd (omega (arith, full, room))

one_put_fault : PutFaultsAreOne
one_put_fault desk put_error.Full put_error.Full is is' = refl
one_put_fault desk put_error.Full put_error.OutOfMemory is is' = absurd (full_or_room desk is is')
one_put_fault desk put_error.OutOfMemory put_error.Full is is' = absurd (full_or_room desk is' is)
one_put_fault desk put_error.OutOfMemory put_error.OutOfMemory is is' = refl

one_remove_fault : RemoveFaultsAreOne
one_remove_fault desk found remove_error.NoSuchFile remove_error.NoSuchFile is is' = refl
one_remove_fault desk found remove_error.NoSuchFile remove_error.Full is is' = absurd (true≢false (sym is'.0 ∙ is))
one_remove_fault desk found remove_error.NoSuchFile remove_error.OutOfMemory is is' = absurd (true≢false (sym is'.0 ∙ is))
one_remove_fault desk found remove_error.Full remove_error.NoSuchFile is is' = absurd (true≢false (sym is.0 ∙ is'))
one_remove_fault desk found remove_error.Full remove_error.Full is is' = refl
one_remove_fault desk found remove_error.Full remove_error.OutOfMemory is is' = absurd (full_or_room desk is.1 is'.1)
one_remove_fault desk found remove_error.OutOfMemory remove_error.NoSuchFile is is' = absurd (true≢false (sym is.0 ∙ is'))
one_remove_fault desk found remove_error.OutOfMemory remove_error.Full is is' = absurd (full_or_room desk is'.1 is.1)
one_remove_fault desk found remove_error.OutOfMemory remove_error.OutOfMemory is is' = refl

pub returns-clause-put : goal.returns-clause-put
returns-clause-put c = one_put_fault

pub returns-clause-remove : goal.returns-clause-remove
returns-clause-remove c = one_remove_fault
