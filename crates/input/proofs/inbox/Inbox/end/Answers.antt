use Rattle.std.proofs.Common.{Some, ap, ◌∙◌, rules}
use Rattle.input.specs.Read.{EndState, InboxState, inbox_state}
use Rattle.input.proofs.inbox.Inbox.end.Goals as goal

pub returns-clause-ok : goal.returns-clause-ok
returns-clause-ok g c = (
  search rules,
  ap (λ (s : InboxState). inbox_state s.held s.came (Some c.ended.inside.failed)) c.self.view_is
      ∙ ap (λ (e : EndState). inbox_state c.args.self.now.held c.args.self.now.came (Some e.failed)) c.ended.view_is,
)
