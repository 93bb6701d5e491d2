use Rattle.std.proofs.Common.{◌≡◌, ℕ, List, length, map, take, ap, ◌∙◌}
use Rattle.std.proofs.lemmas.Result.{IfOk-weaker}
use Rattle.ere.specs.Language.{ContainsMatch}
use Rattle.ere.specs.Tree.{form, trees_of}
use Rattle.ere.proofs.Forms.{form-Empty, form-Set, form-Start, form-End, form-Alt, form-Repeat}
use Rattle.prepare.specs.Anchored.{anchored_text, bytes_after_start}
use Rattle.prepare.proofs.AnchoredLemmas.{begins_with_items, text_of_cat}
use Rattle.prepare.proofs.anchored.anchored_text.Goals as goal

pub returns-in-Empty-clause-text : goal.returns-in-Empty-clause-text
returns-in-Empty-clause-text c = rw (ap form c.in-Empty.is ∙ form-Empty) c.new.ensures.items

pub returns-in-Set-clause-text : goal.returns-in-Set-clause-text
returns-in-Set-clause-text c = rw (ap form c.in-Set.is ∙ form-Set _) c.new-in-Set.ensures.items

pub returns-in-Start-clause-text : goal.returns-in-Start-clause-text
returns-in-Start-clause-text c = rw (ap form c.in-Start.is ∙ form-Start) c.new-in-Start.ensures.items

pub returns-in-End-clause-text : goal.returns-in-End-clause-text
returns-in-End-clause-text c = rw (ap form c.in-End.is ∙ form-End) c.new-in-End.ensures.items

pub returns-in-Alt-clause-text : goal.returns-in-Alt-clause-text
returns-in-Alt-clause-text c = rw (ap form c.in-Alt.is ∙ form-Alt _) c.new-in-Alt.ensures.items

pub returns-in-Repeat-clause-text : goal.returns-in-Repeat-clause-text
returns-in-Repeat-clause-text c = rw (ap form c.in-Repeat.is ∙ form-Repeat _ _ _) c.new-in-Repeat.ensures.items

pub returns-in-Cat-clause-text : goal.returns-in-Cat-clause-text
returns-in-Cat-clause-text c =
    IfOk-weaker c.bytes_after_start.result (λ text. text.items ≡ bytes_after_start (trees_of (map form c.deref.result.now)))
    (λ text. text.items ≡ anchored_text (form c.args.tree.now))
    (λ text e. e ∙ text_of_cat c.args.tree.now c.in-Cat.members c.deref.result.now c.in-Cat.is c.deref.ensures.value) c.bytes_after_start.ensures

pub returns-in-Cat-clause-begins : goal.returns-in-Cat-clause-begins
returns-in-Cat-clause-begins c =
    IfOk-weaker c.bytes_after_start.result (λ text. text.items ≡ bytes_after_start (trees_of (map form c.deref.result.now)))
    (λ text. (line : List ℕ) → ContainsMatch (form c.args.tree.now) line → take (length text.items) line ≡ text.items)
    (λ text e. begins_with_items (form c.args.tree.now) text.items
    (e ∙ text_of_cat c.args.tree.now c.in-Cat.members c.deref.result.now c.in-Cat.is c.deref.ensures.value)) c.bytes_after_start.ensures
