use Rattle.tsearch.proofs.serving.serve.Given as goal

-- the opening that was just made
abbrev pub ghosts-serve_as-J-Naming : goal.ghosts-serve_as-J-Naming
ghosts-serve_as-J-Naming g a = record { book = a.opened.opening }

-- the history that was just opened, and the input
abbrev pub ghosts-serve_as-K-Naming : goal.ghosts-serve_as-K-Naming
ghosts-serve_as-K-Naming g a = record { book = a.history.book; input = g.I.Read.remaining a.input }
