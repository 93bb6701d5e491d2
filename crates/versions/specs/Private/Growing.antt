-- Puts that wait.
use Rattle.std.specs.Prelude.{◌≡◌, ℕ, ◌+◌, ◌<◌, List, Contains, Some, map, length}
use Rattle.std.specs.FinMap.{get}
use Rattle.documents.specs.declared.command.Command.{Command}
use Rattle.documents.specs.declared.command.Command.TheVariants.{Put as put_command}
use Rattle.documents.specs.Text.{IsName, IsBody}
use Rattle.names.specs.declared.puts.Put.{Put}
use Rattle.names.specs.declared.content.Content.{Content}
use Rattle.names.specs.Contents.{Contents, content_put}
use Rattle.segments.specs.Contents.{Content as Trigrams}
use Rattle.versions.specs.Private.Version.{IsDraft}

-- the commands of these puts
abbrev pub commands_put : List Put → List Command
commands_put puts = map (λ p. put_command p.name.now p.held.now) puts

-- Some name has the content.
pub record IsNamed (contents : Contents) (content : Content) : Type 0 where
  pub name : List ℕ
  pub found : get contents name ≡ Some content

-- One of the puts makes a content with this number and body.
pub record IsWaiting (puts : List Put) (number : ℕ) (body : List ℕ) : Type 0 where
  pub put : Put
  pub there : Contains puts put
  pub number_is : put.number ≡ number
  pub body_is : put.held.now ≡ body

-- A content with this number and body has a name, or one of the puts makes it.
pub data IsPlaced (contents : Contents) (puts : List Put) (number : ℕ) (body : List ℕ) : Type 0 where
  named : (content : Content) → IsNamed contents content → content.number ≡ number → content.held ≡ body → IsPlaced contents puts number body
  waiting : IsWaiting puts number body → IsPlaced contents puts number body

-- The number of the content that one more put of this body makes: no content has it, or one with the same body.
pub data IsNumberFor (version : ℕ) (contents : Contents) (puts : List Put) (body : List ℕ) (number : ℕ) : Type 0 where
  new : number ≡ version + length puts → IsNumberFor version contents puts body number
  known : IsPlaced contents puts number body → IsNumberFor version contents puts body number

-- The puts are of names and bodies. The number of one is above those of all contents, or it is that of a content with the same body.
pub record AreNumbered (version : ℕ) (contents : Contents) (puts : List Put) : Type 0 where
  pub named : (p : Put) → Contains puts p → IsName p.name.now × IsBody p.held.now
  pub before : (p : Put) → Contains puts p → p.number < version + length puts
  pub known : (p : Put) → Contains puts p → p.number < version → IsNamed contents (content_put p)
  pub same : (p q : Put) → Contains puts p → Contains puts q → p.number ≡ q.number → p.held.now ≡ q.held.now

-- A draft, and puts that it lacks.
pub record IsGrowing (version analysed : ℕ) (contents : Contents) (all : List Trigrams) (puts : List Put) : Type 0 where
  pub is : IsDraft version analysed contents all
  pub numbered : AreNumbered version contents puts
