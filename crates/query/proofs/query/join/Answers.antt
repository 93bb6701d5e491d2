use Rattle.std.proofs.Common.{◌≡◌, ◌≢◌, Bool, true, false, refl, sym, ◌∙◌}
use Rattle.std.proofs.lemmas.Bool.{true≢false}
use mathlib.Core.Bool.{beq}
use Rattle.query.specs.Query.{formula_of}
use Rattle.query.proofs.QueryLemmas.{reduced_from_plain, join_idle_left, join_settled_left, join_idle_right, join_settled_right}
use Rattle.query.proofs.query.join.Goals as goal

same_truth : (a b : Bool) → beq a b ≡ true → a ≡ b
same_truth true true e = refl
same_truth true false e = sym e
same_truth false true e = e
same_truth false false e = refl

other_truth : (a b : Bool) → beq a b ≡ false → a ≢ b
other_truth true true e = λ _. true≢false e
other_truth true false e = true≢false
other_truth false true e = λ same. true≢false (sym same)
other_truth false false e = λ _. true≢false e

pub members_of-requires : goal.members_of-requires
members_of-requires c = reduced_from_plain (formula_of c.args.left) (sym c.constant_of.ensures ∙ c.in_default.is) c.requires.left

pub members_of-requires-2 : goal.members_of-requires-2
members_of-requires-2 c = reduced_from_plain (formula_of c.args.right) (sym c.constant_of-2.ensures ∙ c.in_default-constant_of.is) c.requires.right

pub returns-then-met-idle : goal.returns-then-met-idle
returns-then-met-idle c =
    join_idle_left c.args.connective (formula_of c.args.left) (formula_of c.args.right) c.in-Some.met
    (sym c.in-Some.is ∙ c.constant_of.ensures) (same_truth c.in-Some.met c.idle.result c.if-met-idle.true ∙ c.idle.ensures)
    c.requires.right

pub returns-in-Some : goal.returns-in-Some
returns-in-Some c =
    join_settled_left c.args.connective (formula_of c.args.left) (formula_of c.args.right) c.in-Some.met
    (sym c.in-Some.is ∙ c.constant_of.ensures)
    (λ same. other_truth c.in-Some.met c.idle.result c.if-met-idle.false (same ∙ sym c.idle.ensures)) c.requires.left

pub returns-then-met-idle-2 : goal.returns-then-met-idle-2
returns-then-met-idle-2 c =
    join_idle_right c.args.connective (formula_of c.args.left) (formula_of c.args.right) c.in-Some-constant_of.met
    (sym c.in-Some-constant_of.is ∙ c.constant_of-2.ensures)
    (same_truth c.in-Some-constant_of.met c.idle-in-Some-constant_of.result c.if-met-idle-2.true ∙ c.idle-in-Some-constant_of.ensures)
    c.requires.left

pub returns-in-Some-constant_of : goal.returns-in-Some-constant_of
returns-in-Some-constant_of c =
    join_settled_right c.args.connective (formula_of c.args.left) (formula_of c.args.right) c.in-Some-constant_of.met
    (sym c.in-Some-constant_of.is ∙ c.constant_of-2.ensures) (λ same.
    other_truth c.in-Some-constant_of.met c.idle-in-Some-constant_of.result c.if-met-idle-2.false
    (same ∙ sym c.idle-in-Some-constant_of.ensures)) c.requires.right
