-- Laws of answers and of what is shown of them: each is the contract of a function that does nothing.
use Rattle.std.specs.Prelude.{◌≡◌}
use Rattle.documents.specs.State.{State}
use Rattle.prepare.specs.Pattern.{Pattern}
use Rattle.prepare.specs.Request.{Request}
use Rattle.views.specs.Found.{Answer}
use Rattle.views.specs.Scan.{IsAnswerOf}
use Rattle.views.specs.ShownOf.{IsShownOf}
use Rattle.views.specs.Shown.{Shown, timed}
use Rattle.views.specs.declared.shown.Times.{Times}

-- In a state a pattern has at most one answer.
abbrev pub AnswersAreOne : Type 0
AnswersAreOne = (state : State) (pattern : Pattern) (answer other : Answer) → IsAnswerOf state pattern answer → IsAnswerOf state pattern other
    → answer ≡ other

-- In a state at most one thing is what a request shows, whatever its view, but for how it was made.
abbrev pub ShownAreOne : Type 0
ShownAreOne = (state : State) (request : Request) (shown other : Shown) → IsShownOf state request shown → IsShownOf state request other
    → shown ≡ record other { found_by = shown.found_by; times = shown.times }

-- Times change nothing of what a request shows.
abbrev pub TimesShowNothing : Type 0
TimesShowNothing = (state : State) (request : Request) (shown : Shown) (times : Times) → IsShownOf state request shown
    → IsShownOf state request (timed times shown)
