-- Puts that wait, and are entered together.
use Rattle.std.proofs.Common.{◌≡◌, ℕ, ◌+◌, ◌<◌, ◌⊎◌, inl, inr, List, [], ◌∷◌, ◌++◌, length, Some, Contains, sym, ◌∙◌, ap, subst, arith, suc}
use Rattle.std.specs.FinMap.{get, insert}
use Rattle.std.proofs.lemmas.List.{length-append, length-map, map-append}
use Rattle.std.proofs.lemmas.List.Elements.{Contains-append_cases, Contains-append_right}
use Rattle.documents.proofs.ElementLemmas.{Contains-cons, Contains-head}
use Rattle.documents.specs.declared.command.Command.TheVariants.{Put as put_command}
use Rattle.documents.specs.State.{State, state, applied}
use Rattle.documents.specs.Text.{IsName, IsBody}
use Rattle.names.specs.declared.content.Content.{Content}
use Rattle.names.specs.declared.puts.Put.{Put}
use Rattle.names.specs.Contents.{Contents, content_put, with_all}
use Rattle.segments.specs.Contents.{Content as Trigrams}
use Rattle.versions.specs.Updates.{after}
use Rattle.versions.specs.Private.Version.{bodies_of, IsDraft, IsEntry, IsVersion}
use Rattle.versions.specs.Private.Growing.{commands_put, AreNumbered, IsGrowing, IsNamed, IsWaiting, IsNumberFor}
use Rattle.versions.specs.Private.Growing.IsPlaced.{named, waiting}
use Rattle.versions.specs.Private.Growing.IsNumberFor.{new, known}
use Rattle.versions.proofs.BodyLemmas.{R, bodies-insert}
use Rattle.versions.proofs.VersionLemmas.{put_or_before}
use Rattle.versions.proofs.AfterLemmas.{version-after, after-append}

nothing : (p : Put) → Contains [] p → ⊥
nothing p there = let inside = there.1 in omega (arith, inside)

abbrev content : ℕ → List ℕ → Content
content number held = record { number = number; held = held }

pub none_numbered : (version : ℕ) (contents : Contents) (puts : List Put) → puts ≡ [] → AreNumbered version contents puts
none_numbered version contents puts none =
    subst (AreNumbered version contents) (sym none)
    (record {
      named = λ p there. absurd (nothing p there);
      before = λ p there. absurd (nothing p there);
      known = λ p there. absurd (nothing p there);
      same = λ p q there. absurd (nothing p there);
    })

-- what a draft is grown from
pub grown_none : (version analysed : ℕ) (contents : Contents) (all : List Trigrams) (puts : List Put) → IsDraft version analysed contents all → puts ≡ []
    → IsGrowing version analysed contents all puts
grown_none version analysed contents all puts is none = record { is = is; numbered = none_numbered version contents puts none }

-- ---- one more put

module _ (version analysed : ℕ) (contents : Contents) (all : List Trigrams) (puts : List Put) (p : Put) (is : IsVersion version analysed contents all)
    (are : AreNumbered version contents puts) where
  -- its content is a new one, some name's, or that of a put before it
  record Numbered : Type 0 where
    less : p.number < version + length puts + 1
    named : p.number < version → IsNamed contents (content_put p)
    alike : (q : Put) → Contains puts q → q.number ≡ p.number → q.held.now ≡ p.held.now

  by_new : p.number ≡ version + length puts → Numbered
  by_new n = record {
    less = omega (arith, n);
    named = λ below. absurd (omega (arith, below, n));
    alike = λ q there e. (let most = are.before q there in absurd (omega (arith, most, e, n)));
  }

  by_name : (c : Content) → IsNamed contents c → c.number ≡ p.number → c.held ≡ p.held.now → Numbered
  by_name c at number_is body_is =
      let below = (is.named at.name c at.found).before in
      record {
        less = omega (arith, below, number_is);
        named = λ _. subst (IsNamed contents) (content_is c number_is body_is) at;
        alike = λ q there e. (let other = are.known q there (omega (arith, e, below, number_is)) in
            is.same other.name at.name (content_put q) c other.found at.found (e ∙ sym number_is) ∙ body_is);
      }
    where
      content_is : (c : Content) → c.number ≡ p.number → c.held ≡ p.held.now → c ≡ content_put p
      content_is c n b =
          ap (λ (number : ℕ). content number c.held) n ∙ ap (content p.number) b

  by_put : IsWaiting puts p.number p.held.now → Numbered
  by_put w =
      let below = are.before w.put w.there in
      let number_is = w.number_is in
      record {
        less = omega (arith, below, number_is);
        named = λ old. subst (IsNamed contents) (content_is w.number_is w.body_is) (are.known w.put w.there (omega (arith, old, number_is)));
        alike = λ q there e. are.same q w.put there w.there (e ∙ sym w.number_is) ∙ w.body_is;
      }
    where
      content_is : w.put.number ≡ p.number → w.put.held.now ≡ p.held.now → content_put w.put ≡ content_put p
      content_is n b = ap (λ (number : ℕ). content number w.put.held.now) n ∙ ap (content p.number) b

  numbered : IsNumberFor version contents puts p.held.now p.number → Numbered
  numbered (new n) = by_new n
  numbered (known (named c at n b)) = by_name c at n b
  numbered (known (waiting w)) = by_put w

  module _ (name_is : IsName p.name.now) (body_is : IsBody p.held.now) (number_is : IsNumberFor version contents puts p.held.now p.number) where
    which : (q : Put) → Contains (puts ++ p ∷ []) q → Contains puts q ⊎ (p ≡ q)
    which q there = go (Contains-append_cases puts (p ∷ []) q there)
      where
        only : (p ≡ q) ⊎ Contains [] q → p ≡ q
        only (inl now) = now
        only (inr none) = absurd (nothing q none)

        go : Contains puts q ⊎ Contains (p ∷ []) q → Contains puts q ⊎ (p ≡ q)
        go (inl old) = inl old
        go (inr one) = inr (only (Contains-cons p [] q one))

    mine : Numbered
    mine = numbered number_is

    longer : length (puts ++ p ∷ []) ≡ length puts + 1
    longer = length-append puts (p ∷ [])

    more_named : (q : Put) → Contains puts q ⊎ (p ≡ q) → IsName q.name.now × IsBody q.held.now
    more_named q (inl old) = are.named q old
    more_named q (inr now) = subst (λ (q : Put). IsName q.name.now × IsBody q.held.now) now (name_is, body_is)

    more_before : (q : Put) → Contains puts q ⊎ (p ≡ q) → q.number < version + length (puts ++ p ∷ [])
    more_before q (inl old) = let most = are.before q old in let e = longer in omega (arith, most, e)
    more_before q (inr now) = let most = mine.less in let same : p.number ≡ q.number = ap (λ (q : Put). q.number) now in let e = longer in omega (arith, most, same, e)

    more_known : (q : Put) → Contains puts q ⊎ (p ≡ q) → q.number < version → IsNamed contents (content_put q)
    more_known q (inl old) = are.known q old
    more_known q (inr now) = subst (λ (q : Put). q.number < version → IsNamed contents (content_put q)) now mine.named

    more_same : (q r : Put) → Contains puts q ⊎ (p ≡ q) → Contains puts r ⊎ (p ≡ r) → q.number ≡ r.number → q.held.now ≡ r.held.now
    more_same q r (inl old) (inl too) e = are.same q r old too e
    more_same q r (inl old) (inr now) e =
        mine.alike q old (e ∙ ap (λ (x : Put). x.number) (sym now)) ∙ ap (λ (x : Put). x.held.now) now
    more_same q r (inr now) (inl old) e =
        sym (mine.alike r old (sym e ∙ ap (λ (x : Put). x.number) (sym now)) ∙ ap (λ (x : Put). x.held.now) now)
    more_same q r (inr now) (inr too) e = ap (λ (x : Put). x.held.now) (sym now ∙ too)

    pub one_more_numbered : AreNumbered version contents (puts ++ p ∷ [])
    one_more_numbered = record {
      named = λ q there. more_named q (which q there);
      before = λ q there. more_before q (which q there);
      known = λ q there. more_known q (which q there);
      same = λ q r there too. more_same q r (which q there) (which r too);
    }

-- the puts after one more, as the vector has them
pub grown_more : (version analysed : ℕ) (contents : Contents) (all : List Trigrams) (puts more : List Put) (p : Put) (body : List ℕ)
    → IsGrowing version analysed contents all puts → more ≡ puts ++ p ∷ [] → IsName p.name.now → IsBody p.held.now → p.held.now ≡ body
    → IsNumberFor version contents puts body p.number → IsGrowing version analysed contents all more
grown_more version analysed contents all puts more p body is more_is name_is body_is same number_is =
    subst (IsGrowing version analysed contents all) (sym more_is)
    (record {
      is = is.is;
      numbered =
          one_more_numbered version analysed contents all puts p is.is.is is.numbered name_is body_is
          (subst (λ b. IsNumberFor version contents puts b p.number) (sym same) number_is);
    })

-- ---- what the puts leave

-- what has a name then was put, or had it before
abbrev Origin : List Put → Contents → List ℕ → Content → Type 0
Origin puts old name c = ((p : Put) × Contains puts p × (p.name.now ≡ name) × (content_put p ≡ c)) ⊎ (get {R = R} old name ≡ Some c)

origin : (puts : List Put) (old : Contents) (name : List ℕ) (c : Content) → get {R = R} (with_all puts old) name ≡ Some c → Origin puts old name c
origin [] old name c found = inr found
origin (p ∷ puts) old name c found = go (origin puts (insert old p.name.now (content_put p)) name c found)
  where
    at : ((p.name.now ≡ name) × (content_put p ≡ c)) ⊎ (get {R = R} old name ≡ Some c) → Origin (p ∷ puts) old name c
    at (inl now) = inl (p, Contains-head p puts, now.0, now.1)
    at (inr before) = inr before

    go : Origin puts (insert old p.name.now (content_put p)) name c → Origin (p ∷ puts) old name c
    go (inl later) = inl (later.0, Contains-append_right (p ∷ []) puts later.0 later.1, later.2, later.3)
    go (inr first) = at (put_or_before old p.name.now (content_put p) name c first)

module _ (version analysed : ℕ) (puts : List Put) (old : Contents) (all : List Trigrams) (is : IsVersion version analysed old all)
    (are : AreNumbered version old puts) where
  put_entry : (p : Put) → Contains puts p → IsEntry (version + length puts) analysed all p.name.now (content_put p)
  put_entry p there = record {
    name_is = (are.named p there).0;
    body_is = (are.named p there).1;
    before = are.before p there;
    is_said = λ less. (let most = is.order in let at = are.known p there (omega (arith, less, most)) in (is.named at.name (content_put p) at.found).is_said less);
  }

  entry_then : (name : List ℕ) (c : Content) → Origin puts old name c → IsEntry (version + length puts) analysed all name c
  entry_then name c (inl put) =
      subst (λ n. IsEntry (version + length puts) analysed all n c) put.2
      (subst (IsEntry (version + length puts) analysed all put.0.name.now) put.3 (put_entry put.0 put.1))
  entry_then name c (inr before) = (let e = is.named name c before in record {
    name_is = e.name_is;
    body_is = e.body_is;
    before = (let less = e.before in omega (arith, less));
    is_said = e.is_said;
  })

  -- a put's number tells its body among the contents that were there
  put_tells : (p : Put) → Contains puts p → (other : List ℕ) (d : Content) → get {R = R} old other ≡ Some d → p.number ≡ d.number → p.held.now ≡ d.held
  put_tells p there other d found e =
      let less = (is.named other d found).before in
      let at = are.known p there (omega (arith, less, e)) in
      is.same at.name other (content_put p) d at.found found e

  tells : (name other : List ℕ) (c d : Content) → Origin puts old name c → Origin puts old other d → c.number ≡ d.number → c.held ≡ d.held
  tells name other c d (inl p) (inl q) e =
      ap (λ (x : Content). x.held) (sym p.3)
      ∙ (are.same p.0 q.0 p.1 q.1 (ap (λ (x : Content). x.number) p.3 ∙ (e ∙ ap (λ (x : Content). x.number) (sym q.3)))
      ∙ ap (λ (x : Content). x.held) q.3)
  tells name other c d (inl p) (inr found) e =
      ap (λ (x : Content). x.held) (sym p.3) ∙ put_tells p.0 p.1 other d found (ap (λ (x : Content). x.number) p.3 ∙ e)
  tells name other c d (inr found) (inl q) e =
      sym (ap (λ (x : Content). x.held) (sym q.3) ∙ put_tells q.0 q.1 name c found (ap (λ (x : Content). x.number) q.3 ∙ sym e))
  tells name other c d (inr one) (inr two) e = is.same name other c d one two e

  -- the names after the puts are those of a version
  pub puts_version : IsVersion (version + length puts) analysed (with_all puts old) all
  puts_version = record {
    named = λ name c found. entry_then name c (origin puts old name c found);
    same = λ name other c d found there. tells name other c d (origin puts old name c found) (origin puts old other d there);
    differ = is.differ;
    below = is.below;
    order = (let most = is.order in omega (arith, most));
  }

-- and the documents are those that the commands leave
pub puts_after : (version : ℕ) (puts : List Put) (old : Contents)
    → state (version + length puts) (bodies_of (with_all puts old)) ≡ after (commands_put puts) (state version (bodies_of old))
puts_after version [] old = ap (λ n. state n (bodies_of old)) (let e : version + 0 ≡ version = omega arith in e)
puts_after version (p ∷ puts) old =
    ap (λ n. state n (bodies_of (with_all puts (insert old p.name.now (content_put p))))) (let e : version + suc (length puts) ≡ version + 1 + length puts = omega arith in e)
    ∙ (puts_after (version + 1) puts (insert old p.name.now (content_put p))
    ∙ ap (λ ds. after (commands_put puts) (state (version + 1) ds)) (bodies-insert old p.name.now (content_put p)))

-- one more put
pub put_after : (puts more : List Put) (p : Put) (name body : List ℕ) (draft now : State) → after (commands_put puts) draft ≡ now → more ≡ puts ++ p ∷ []
    → p.name.now ≡ name → p.held.now ≡ body → after (commands_put more) draft ≡ applied (put_command name body) now
put_after puts more p name body draft now view_is is name_is body_is =
    ap (λ ps. after (commands_put ps) draft) is
    ∙ (ap (λ cs. after cs draft) (map-append (λ (p : Put). put_command p.name.now p.held.now) puts (p ∷ []))
    ∙ (after-append (commands_put puts) (commands_put (p ∷ [])) draft
    ∙ (ap (λ n. applied (put_command n p.held.now) (after (commands_put puts) draft)) name_is
    ∙ (ap (λ b. applied (put_command name b) (after (commands_put puts) draft)) body_is
    ∙ ap (applied (put_command name body)) view_is))))

pub version_waiting : (puts : List Put) (draft now : State) → after (commands_put puts) draft ≡ now → now.version ≡ draft.version + length puts
version_waiting puts draft now view_is =
    ap (λ (s : State). s.version) (sym view_is)
    ∙ (version-after (commands_put puts) draft
    ∙ ap (λ n. draft.version + n) (length-map puts (λ (p : Put). put_command p.name.now p.held.now)))
