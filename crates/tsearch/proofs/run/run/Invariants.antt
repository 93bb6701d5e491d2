use Rattle.std.proofs.Common.{Some}
use Rattle.tsearch.proofs.run.run.Given as goal

-- the opening that was just made
abbrev pub ghosts-run_as-J-Naming : goal.ghosts-run_as-J-Naming
ghosts-run_as-J-Naming g a = record { book = a.opened.opening }

-- the history that was just opened, and the script
abbrev pub ghosts-run_as-K-Naming : goal.ghosts-run_as-K-Naming
ghosts-run_as-K-Naming g a = record { book = a.history.book; input = Some a.script.now }
