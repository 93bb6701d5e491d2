-- What a desk is refused for is determined.
use Rattle.std.specs.Prelude.{◌≡◌, Bool}
use Rattle.desk.specs.Desk.{DeskState, IsPutFault, IsRemoveFault}
use Rattle.desk.specs.declared.error.PutErrorKind.{PutErrorKind}
use Rattle.desk.specs.declared.error.RemoveError.{RemoveError}

-- A put has one fault at most.
abbrev pub PutFaultsAreOne : Type 0
PutFaultsAreOne = (desk : DeskState) (fault fault' : PutErrorKind) → IsPutFault fault desk → IsPutFault fault' desk → fault ≡ fault'

-- A remove has one fault at most.
abbrev pub RemoveFaultsAreOne : Type 0
RemoveFaultsAreOne =
    (desk : DeskState) (found : Bool) (fault fault' : RemoveError) → IsRemoveFault fault found desk → IsRemoveFault fault' found desk → fault ≡ fault'
