use Rattle.std.proofs.Common.{◌≡◌, [], ◌∷◌, ◌++◌, None, ◌∙◌, ap, subst, rules}
use Rattle.input.specs.Read.{InboxState, inbox_state, IsReadOf}
use Rattle.input.proofs.inbox.Inbox.hold.Goals as goal

pub returns-then-not-follows-clause-read : goal.returns-then-not-follows-clause-read
returns-then-not-follows-clause-read g c = subst (λ (s : InboxState). IsReadOf g.K.Naming.input s.came) c.self.view_is c.self.invariant.0

pub returns-in-Ok-clause-ok : goal.returns-in-Ok-clause-ok
returns-in-Ok-clause-ok g c =
    let last = c.args.sent.item in
    let held : c.push_back.new.self.items ≡ c.self.inside.held.items ++ last ∷ [] = c.in-Ok.ensures.items in
    let came : c.args.sent.read ≡ c.self.inside.came ++ last ∷ [] = search rules in
    let over : c.self.inside.over ≡ None = ap (λ (s : InboxState). s.over) c.self.view_is ∙ c.requires in
    (cc) ∙ ap (λ (s : InboxState). inbox_state (s.held ++ last ∷ []) (s.came ++ last ∷ []) None) c.self.view_is
