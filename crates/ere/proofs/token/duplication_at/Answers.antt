use Rattle.std.proofs.Common.{◌≡◌, ℕ, Option, subst, refl, drop}
use Rattle.ere.specs.Tokens.{SpellsToken, times}
use Rattle.ere.specs.Private.Reading.{meaning}
use Rattle.ere.specs.declared.token.Token.{Token}
use Rattle.ere.specs.declared.token.Token.TheVariants.{Set, Opens, Closes, Bar, AtStart, AtEnd, Times}
use Rattle.ere.proofs.TokenSteps.{no_duplication_other}
use Rattle.ere.proofs.token.duplication_at.Goals as goal

pub returns-then-not-begins_duplication-clause-none : goal.returns-then-not-begins_duplication-clause-none
returns-then-not-begins_duplication-clause-none c = c.if-not-begins_duplication.ensures.none c.args.case refl

pub returns-in-Times-clause-ok : goal.returns-in-Times-clause-ok
returns-in-Times-clause-ok c =
    subst (λ t. SpellsToken c.args.case (drop c.args.at c.args.text.now) (drop c.in_ok-token.after c.args.text.now) (meaning t))
    c.in-Times.is c.in_ok-token.ensures.ok

means_times : (t : Token) (l : ℕ) (g : Option ℕ) → meaning t ≡ times l g → t ≡ Times l g
means_times (Set members) l g e = absurd (cc)
means_times Opens l g e = absurd (cc)
means_times Closes l g e = absurd (cc)
means_times Bar l g e = absurd (cc)
means_times AtStart l g e = absurd (cc)
means_times AtEnd l g e = absurd (cc)
means_times (Times m h) l g e = cc

pub returns-in_default : goal.returns-in_default
returns-in_default c =
    record {
      ok = tt;
      after = tt;
      none =
          no_duplication_other _ _ (meaning c.in_ok-token.token) c.in_ok-token.ensures.ok
          (λ l g e. c.in_default.not-Times l g (means_times _ l g e));
      err = tt;
    }
