-- What is promised of a run that ends with Done: which input spells which thing, and what holds of
-- the text that is written for it (own).
use Rattle.std.specs.Prelude.{ℕ, ◌≡◌, Bool, true, false, List}

-- how a thing is given: an input spells it; or no input is read, and it is this thing
pub data Form (Thing : Type 0) : Type 1 where
  reading : (List ℕ → Thing → Type 0) → Form Thing
  reading_nothing : Thing → Form Thing

-- an input is read
abbrev pub reads : {Thing : Type 0} → Form Thing → Bool
reads (reading spells) = true
reads (reading_nothing given) = false

-- the input spells the thing
abbrev pub Spells : {Thing : Type 0} → Form Thing → List ℕ → Thing → Type 0
Spells (reading spells) input thing = spells input thing
Spells (reading_nothing given) input thing = thing ≡ given

-- how a thing is given, and what holds of a text that is written for it with Done
pub record Promise : Type 1 where
  pub Thing : Type 0
  pub form : Form Thing
  pub headline : Thing → List ℕ → Type 0

-- the input spells a thing, and the text keeps what is promised of it
pub record IsTrueReply (promise : Promise) (input text : List ℕ) : Type 0 where
  pub thing : promise.Thing
  pub spelled : Spells promise.form input thing
  pub holds : promise.headline thing text
