-- The words of a command line, and the request that they spell. Source: own.
use Rattle.std.specs.Prelude.{◌≡◌, ◌≤◌, ◌<◌, ℕ, Bool, true, false, List, [], ◌∷◌, ◌++◌, codes, decimal}
use Rattle.gj_shape.specs.Limits.{greatest_order}
use Rattle.gj_words.specs.declared.requests.Command.{Command}
use Rattle.gj_words.specs.declared.requests.Command.TheVariants.{Minimal, Extreme, Cut, Check, Show, Faces, Demo, Mixed, Problem, Derive, Fill, Group, Times, Mirror, Restrict}
use Rattle.gj_words.specs.declared.requests.Request.{Request}

-- the words of a command
abbrev pub command_words : Command → List (List ℕ)
command_words Minimal = codes "minimal" ∷ []
command_words Extreme = codes "extreme" ∷ []
command_words Cut = codes "cut" ∷ []
command_words Check = codes "check" ∷ []
command_words Show = codes "show" ∷ []
command_words Faces = codes "faces" ∷ []
command_words (Demo n) = codes "demo" ∷ decimal n ∷ []
command_words Mixed = codes "mixed" ∷ []
command_words Problem = codes "problem" ∷ []
command_words Derive = codes "derive" ∷ []
command_words Fill = codes "fill" ∷ []
command_words Group = codes "group" ∷ []
command_words (Times n j) = codes "times" ∷ decimal n ∷ decimal j ∷ []
command_words Mirror = codes "mirror" ∷ []
command_words (Restrict d) = codes "restrict" ∷ decimal d ∷ []

-- the number of `demo` lies from 1 to 249, the first of `times` from 1 to 500, the second from 0 on
-- below the first, and that of `restrict` from 2 to 1,000
abbrev pub IsInBounds : Command → Type 0
IsInBounds (Demo n) = (1 ≤ n) × (n ≤ 249)
IsInBounds (Times n j) = (1 ≤ n) × (n ≤ 500) × (j < n)
IsInBounds (Restrict d) = (2 ≤ d) × (d ≤ greatest_order)
IsInBounds _ = Unit {0}

-- the commands with which the flag `--json` may stand, and those with which `--jumps` may
abbrev pub takes_json : Command → Bool
takes_json Minimal = true
takes_json Extreme = true
takes_json Show = true
takes_json _ = false

abbrev pub takes_jumps : Command → Bool
takes_jumps Extreme = true
takes_jumps Faces = true
takes_jumps _ = false

-- the words of the flags
abbrev pub json_word : List ℕ
json_word = codes "--json"

abbrev pub jumps_word : List ℕ
jumps_word = codes "--jumps"

-- the words are these with the flag of this word once at any place, or if it is not given these
-- alone
abbrev pub HasFlag : List ℕ → Bool → List (List ℕ) → List (List ℕ) → Type 0
HasFlag flag true bare words = (front : List (List ℕ)) × (back : List (List ℕ))
    × (bare ≡ front ++ back) × (words ≡ front ++ flag ∷ back)
HasFlag flag false bare words = words ≡ bare

-- the words are those of the command with each flag that is given
abbrev pub HasFlags : Request → List (List ℕ) → Type 0
HasFlags request words =
    (some : List (List ℕ)) × HasFlag json_word request.json (command_words request.command) some
    × HasFlag jumps_word request.jumps some words

-- the words spell the request
pub record SpellRequest (words : List (List ℕ)) (request : Request) : Type 0 where
  pub in_bounds : IsInBounds request.command
  pub json_allowed : request.json ≡ true → takes_json request.command ≡ true
  pub jumps_allowed : request.jumps ≡ true → takes_jumps request.command ≡ true
  pub placed : HasFlags request words
