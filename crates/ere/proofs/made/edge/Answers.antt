use Rattle.std.proofs.Common.{ap, ◌∙◌}
use Rattle.ere.specs.ByteSet.{complement}
use Rattle.ere.specs.Classes.{is_word_byte}
use Rattle.ere.specs.Tree.{alt, form, more, none, set}
use Rattle.ere.proofs.Forms.{form-Alt, form-Set}
use Rattle.ere.proofs.FrameLemmas.{forms_two}
use Rattle.ere.proofs.made.edge.Goals as goal

pub returns-clause-ok : goal.returns-clause-ok
returns-clause-ok c =
    let is_gap = c.complement.ensures ∙ ap complement (c.of.ensures is_word_byte (λ b r h. h)) in
    form-Alt c.push-2.new.self
    ∙ ap alt (forms_two _ _ _ c.args.anchor _ c.new-members.ensures.items c.in_ok-push.ensures.items c.in_ok-push-2.ensures.items
    ∙ ap (λ t. more (form c.args.anchor) (more t none)) (form-Set c.complement.result ∙ ap set is_gap))
