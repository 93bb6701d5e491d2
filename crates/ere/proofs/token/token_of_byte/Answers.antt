use Rattle.std.proofs.Common.{◌≡◌, arith, sym, subst, ap, Some, None, refl}
use Rattle.ere.specs.Tokens.{token_of_byte, set}
use Rattle.ere.specs.Tokens as token
use Rattle.ere.proofs.TokenSteps.{other_byte}
use Rattle.ere.proofs.token.token_of_byte.Goals as goal

pub returns-in-46 : goal.returns-in-46
unfolding token_of_byte
returns-in-46 c =
    λ rest _.
    subst (λ b. token_of_byte c.args.case b rest ≡ Some (token.set c.all.result)) (sym c.in-46.is)
    (ap (λ s. Some (set s)) (sym c.all.ensures))

pub returns-in-40 : goal.returns-in-40
unfolding token_of_byte
returns-in-40 c = λ rest _. subst (λ b. token_of_byte c.args.case b rest ≡ Some (token.opens)) (sym c.in-40.is) refl

pub returns-in-41 : goal.returns-in-41
unfolding token_of_byte
returns-in-41 c = λ rest _. subst (λ b. token_of_byte c.args.case b rest ≡ Some (token.closes)) (sym c.in-41.is) refl

pub returns-in-124 : goal.returns-in-124
unfolding token_of_byte
returns-in-124 c = λ rest _. subst (λ b. token_of_byte c.args.case b rest ≡ Some (token.bar)) (sym c.in-124.is) refl

pub returns-in-94 : goal.returns-in-94
unfolding token_of_byte
returns-in-94 c = λ rest _. subst (λ b. token_of_byte c.args.case b rest ≡ Some (token.at_start)) (sym c.in-94.is) refl

pub returns-in-36 : goal.returns-in-36
unfolding token_of_byte
returns-in-36 c = λ rest _. subst (λ b. token_of_byte c.args.case b rest ≡ Some (token.at_end)) (sym c.in-36.is) refl

pub returns-in-42 : goal.returns-in-42
unfolding token_of_byte
returns-in-42 c = λ rest _. subst (λ b. token_of_byte c.args.case b rest ≡ Some (token.times 0 None)) (sym c.in-42.is) refl

pub returns-in-43 : goal.returns-in-43
unfolding token_of_byte
returns-in-43 c = λ rest _. subst (λ b. token_of_byte c.args.case b rest ≡ Some (token.times 1 None)) (sym c.in-43.is) refl

pub returns-in-63 : goal.returns-in-63
unfolding token_of_byte
returns-in-63 c = λ rest _. subst (λ b. token_of_byte c.args.case b rest ≡ Some (token.times 0 (Some 1))) (sym c.in-63.is) refl

pub returns-in_default : goal.returns-in_default
returns-in_default c =
    λ rest short.
    subst (λ s. token_of_byte c.args.case c.args.byte rest ≡ Some (set s)) (sym c.single_in.ensures)
    (other_byte _ c.args.byte rest (omega arith) (omega arith) (omega arith) (omega arith) (omega arith) (omega arith) (omega arith)
    (omega arith) (omega arith) short)
