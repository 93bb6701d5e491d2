use Rattle.std.proofs.Common.{rules}
use Rattle.ere.specs.Classes.{class_named, is_upper, is_lower, is_alpha, is_digit, is_alnum, is_xdigit, is_punct, is_graph, is_print}
use Rattle.ere.specs.Classes.{is_blank, is_space, is_cntrl}
use Rattle.ere.proofs.classes.class_named.Goals as goal

pub returns-then-eq : goal.returns-then-eq
unfolding class_named
returns-then-eq c = let members = c.of.ensures is_upper (λ b r h. h) in search rules

pub returns-then-eq-2 : goal.returns-then-eq-2
unfolding class_named
returns-then-eq-2 c = let members = c.of-then-eq-2.ensures is_lower (λ b r h. h) in search rules

pub returns-then-eq-3 : goal.returns-then-eq-3
unfolding class_named
returns-then-eq-3 c = let members = c.of-then-eq-3.ensures is_alpha (λ b r h. h) in search rules

pub returns-then-eq-4 : goal.returns-then-eq-4
unfolding class_named
returns-then-eq-4 c = let members = c.of-then-eq-4.ensures is_digit (λ b r h. h) in search rules

pub returns-then-eq-5 : goal.returns-then-eq-5
unfolding class_named
returns-then-eq-5 c = let members = c.of-then-eq-5.ensures is_alnum (λ b r h. h) in search rules

pub returns-then-eq-6 : goal.returns-then-eq-6
unfolding class_named
returns-then-eq-6 c = let members = c.of-then-eq-6.ensures is_xdigit (λ b r h. h) in search rules

pub returns-then-eq-7 : goal.returns-then-eq-7
unfolding class_named
returns-then-eq-7 c = let members = c.of-then-eq-7.ensures is_punct (λ b r h. h) in search rules

pub returns-then-eq-8 : goal.returns-then-eq-8
unfolding class_named
returns-then-eq-8 c = let members = c.of-then-eq-8.ensures is_graph (λ b r h. h) in search rules

pub returns-then-eq-9 : goal.returns-then-eq-9
unfolding class_named
returns-then-eq-9 c = let members = c.of-then-eq-9.ensures is_print (λ b r h. h) in search rules

pub returns-then-eq-10 : goal.returns-then-eq-10
unfolding class_named
returns-then-eq-10 c = let members = c.of-then-eq-10.ensures is_blank (λ b r h. h) in search rules

pub returns-then-eq-11 : goal.returns-then-eq-11
unfolding class_named
returns-then-eq-11 c = let members = c.of-then-eq-11.ensures is_space (λ b r h. h) in search rules

pub returns-then-eq-12 : goal.returns-then-eq-12
unfolding class_named
returns-then-eq-12 c = let members = c.of-then-eq-12.ensures is_cntrl (λ b r h. h) in search rules

pub returns-else-eq-12 : goal.returns-else-eq-12
unfolding class_named
returns-else-eq-12 c = search rules
