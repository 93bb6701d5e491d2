use Rattle.std.proofs.Common.{◌≡◌, [], ◌∷◌, ◌++◌, None, refl, ◌∙◌, rules}
use Rattle.input.specs.Read.{FeedState, feed_state}
use Rattle.input.proofs.FeedLemmas.{fed_item, fed_error, read_of}
use Rattle.input.proofs.feed.Feed.next.Goals as goal

pub after-requires : goal.after-requires
after-requires g c =
    let input = g.K.Naming.input in
    let was : FeedState = feed_state c.self.inside.read c.self.inside.stream c.self.inside.failed (g.I.Read.remaining c.self.inside.input) in
    let left = g.I.Read.remaining c.next_item.new.input in
    let stream = c.next_item.new.self in
    let now = c.self.inside.read ++ c.in-Ok-Some.item ∷ [] in
    let clean : c.self.inside.failed ≡ None = search rules in
    let next = rw c.in-Ok-Some.field-0-is at c.in-Ok-Some.ensures.taken in
    read_of input (feed_state now stream None left)
    (fed_item input was c.self.invariant clean next.0 left next.1 c.in-Ok-Some.item stream next.2
    (λ e. let both = (c.in-Ok-Some.ensures.over e).0 in let some = c.in-Ok-Some.field-0-is in cc) now refl None refl)

pub invariant_of-self : goal.invariant_of-self
invariant_of-self g c =
    let was : FeedState = feed_state c.self.inside.read c.self.inside.stream c.self.inside.failed (g.I.Read.remaining c.self.inside.input) in
    let clean : c.self.inside.failed ≡ None = search rules in
    let next = rw c.in-Ok-Some.field-0-is at c.in-Ok-Some.ensures.taken in
    fed_item g.K.Naming.input was c.self.invariant clean next.0 (g.I.Read.remaining c.next_item.new.input) next.1 c.in-Ok-Some.item
    c.next_item.new.self next.2 (λ e. let both = (c.in-Ok-Some.ensures.over e).0 in let some = c.in-Ok-Some.field-0-is in cc)
    c.again.result (c.again.ensures ∙ c.in-Some.ensures.1) c.self.inside.failed clean

pub invariant_of-self-in-None : goal.invariant_of-self-in-None
invariant_of-self-in-None g c =
    let was : FeedState = feed_state c.self.inside.read c.self.inside.stream c.self.inside.failed (g.I.Read.remaining c.self.inside.input) in
    let clean : c.self.inside.failed ≡ None = search rules in
    let next = rw c.in-Ok-Some.field-0-is at c.in-Ok-Some.ensures.taken in
    fed_error g.K.Naming.input was c.self.invariant clean next.0 (g.I.Read.remaining c.next_item.new.input) next.1
    (λ e. let both = (c.in-Ok-Some.ensures.over e).0 in let some = c.in-Ok-Some.field-0-is in cc)

pub invariant_of-self-in-Err : goal.invariant_of-self-in-Err
invariant_of-self-in-Err g c =
    let was : FeedState = feed_state c.self.inside.read c.self.inside.stream c.self.inside.failed (g.I.Read.remaining c.self.inside.input) in
    let clean : c.self.inside.failed ≡ None = search rules in
    let next = c.in-Err.ensures.taken in
    fed_error g.K.Naming.input was c.self.invariant clean next.0 (g.I.Read.remaining c.next_item.new.input) next.1
    (λ e. let both = (c.in-Err.ensures.over e).0 in cc)
