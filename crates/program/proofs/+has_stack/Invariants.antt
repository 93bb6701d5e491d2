use Rattle.program.proofs.+has_stack.Given as goal

-- proposed from what the function passes where it calls itself
abbrev pub decreases-has_stack : goal.decreases-has_stack
decreases-has_stack l = l.pieces
