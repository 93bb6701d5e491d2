use Rattle.std.proofs.Common.{arith}
use Rattle.std.proofs.lemmas.Bool.Decides.{nat_tests}
use Rattle.simulation.specs.declared.sequence.Packed.{Packed}
use Rattle.simulation.specs.Private.Sequences.{Holds, Then, WordsOf, WordsOfSequence}
use Rattle.simulation.proofs.Sequences as sequences
use Rattle.simulation.proofs.sequence.settled.Goals as goal

pub returns : goal.returns
returns c =
    let rest : Packed = record { node = c.in_ok-run_of.field-0; size = c.words_for.result; gaps = c.gaps_of_row.result } in
    sequences.ok_as (λ packed. Holds (Then (WordsOf c.args.sequence.before) (WordsOf rest)) packed c.args.copies)
    (λ packed. Holds (WordsOfSequence c.args.sequence) packed c.args.copies)
    (λ packed holds.
    sequences.settled_row c.args.sequence rest packed c.args.copies (rw (← c.deref.ensures.value) c.in_ok-run_of.ensures) (rw (← c.deref-2.ensures.value) c.gaps_of_row.ensures) holds)
    c.pair.result c.pair.ensures

pub returns-then-is_empty : goal.returns-then-is_empty
returns-then-is_empty c = sequences.settled_none c.args.sequence c.args.copies (grind (arith, nat_tests)) c.requires.valid
