-- What passes over a line tell together.
use Rattle.std.proofs.Common.{◌-◌}
