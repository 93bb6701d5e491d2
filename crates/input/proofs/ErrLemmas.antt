-- What holds of a result that is an error.
use Rattle.std.proofs.Common.{Result, Ok, Err, IsErr, sym, true≢false}

pub at_err : {T E : Type 0} (r : Result T E) (P : Result T E → Type 0) → IsErr r → ((e : E) → P (Err e)) → P r
at_err (Ok x) P is on_err = absurd (true≢false (sym is))
at_err (Err e) P is on_err = on_err e
