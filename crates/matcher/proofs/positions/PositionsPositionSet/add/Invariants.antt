use Rattle.std.proofs.Common.{◌≡◌}
use Rattle.matcher.proofs.Joining.{IsAddedTo}
use Rattle.matcher.proofs.positions.PositionsPositionSet.add.Given as goal

abbrev pub invariant-loop-i : goal.invariant-loop-i
invariant-loop-i g l = record {
  added : IsAddedTo g.row.N l.initial.self-inside.words l.initial.fresh-inside.words l.self-inside.words l.fresh-inside.words l.initial.i l.i;
  first : l.self-inside.first ≡ l.initial.self-inside.first;
  end : l.self-inside.end ≡ l.initial.self-inside.end;
  fresh_first : l.fresh-inside.first ≡ l.initial.fresh-inside.first;
  fresh_end : l.fresh-inside.end ≡ l.initial.fresh-inside.end;
}
