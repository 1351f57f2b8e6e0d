-- A command line whose words are known apart.
use Rattle.std.specs.Prelude.{◌≡◌, ◌≢◌, ◌≤◌, ℕ, Bool, true, List, [], ◌∷◌, length}
use Rattle.gj_words.specs.Grammar.{IsInBounds, command_words, takes_json, takes_jumps}
use Rattle.gj_words.specs.Bare.{are_hyphenless}
use Rattle.gj_words.specs.declared.line.Line.{Line}
use Rattle.gj_words.specs.declared.line.Operands.{Operands}
use Rattle.gj_words.specs.declared.line.Operands.TheVariants.{Nothing, One, Two}
use Rattle.gj_words.specs.declared.requests.Command.{Command}
use Rattle.gj_words.specs.declared.requests.Request.{Request}

-- the words behind the command word
abbrev pub words_behind : Operands → List (List ℕ)
words_behind Nothing = []
words_behind (One a) = a.now ∷ []
words_behind (Two a b) = a.now ∷ b.now ∷ []

-- the words of the line
abbrev pub words_of : Line → List (List ℕ)
words_of line = line.name.now ∷ words_behind line.operands

-- the words are no line: they are none, or more than three, or one begins with `-`
abbrev pub AreNoLine : List (List ℕ) → Type 0
AreNoLine words =
    (name : List ℕ) (rest : List (List ℕ)) → length rest ≤ 2 → are_hyphenless (name ∷ rest) ≡ true →
    words ≢ name ∷ rest

-- this word, and these behind it, are the words of the command
pub record IsCommandOf (name : List ℕ) (behind : List (List ℕ)) (command : Command) : Type 0 where
  pub in_bounds : IsInBounds command
  pub words : command_words command ≡ name ∷ behind

-- these words without flags, and the flags that are given, are the request
pub record IsRequestOf (words : List (List ℕ)) (json jumps : Bool) (request : Request) :
    Type 0 where
  pub in_bounds : IsInBounds request.command
  pub words_are : command_words request.command ≡ words
  pub json_is : request.json ≡ json
  pub jumps_is : request.jumps ≡ jumps
  pub json_allowed : json ≡ true → takes_json request.command ≡ true
  pub jumps_allowed : jumps ≡ true → takes_jumps request.command ≡ true
