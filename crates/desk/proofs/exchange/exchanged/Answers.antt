use Rattle.std.proofs.Common.{rules}
use Rattle.desk.proofs.Turns.{turns_at}
use Rattle.desk.proofs.exchange.exchanged.Goals as goal

pub show_as-requires : goal.show_as-requires
show_as-requires g c = turns_at _ _ _ c.args.first (search rules) (λ exact. c.requires.exact)
