-- What an index holds: how many commands were applied to it, and the documents that they leave.
use Rattle.std.specs.Prelude.{ℕ, ◌+◌, List, All, map, length, sum, refl}
use Rattle.std.specs.Coded.{Coded, code_by, coded×, coded_ℕ, coded_list}
use Rattle.std.specs.FinMap.{code}
use Rattle.documents.specs.declared.command.Command.{Command}
use Rattle.documents.specs.Documents.{Documents, documents_after, documents_of, listed}
use Rattle.documents.specs.Text.{IsName, IsBody}

-- version: the number of commands
pub record State : Type 0 where
  pub version : ℕ
  pub documents : Documents

-- the state of a version and documents
abbrev pub state : ℕ → Documents → State
state version documents = record { version = version; documents = documents }

-- a state is stored as the pair of its fields
abbrev pub state_code : Coded State
state_code =
    code_by (ℕ × Documents) (coded× coded_ℕ (code (coded_list coded_ℕ) (coded_list coded_ℕ))) (λ s. (s.version, s.documents)) (λ p. state p.0 p.1) (λ _. refl)

-- the state that a list of commands leaves
abbrev pub state_of : List Command → State
state_of commands = state (length commands) (documents_of commands)

-- The state after one more command. It depends only on the state and the command.
abbrev pub applied : Command → State → State
applied command s = state (s.version + 1) (documents_after command s.documents)

-- the total length of all bodies, in bytes
abbrev pub body_bytes : Documents → ℕ
body_bytes documents = sum (map (λ d. length d.body) (listed documents))

-- Each name is a name, and each body a body.
abbrev pub IsState : State → Type 0
IsState s = All (λ d. IsName d.name × IsBody d.body) (listed s.documents)
