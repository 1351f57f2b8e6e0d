-- A thing with the text that tells it, so that lines of the text can be spoken of (own).
use Rattle.std.specs.Prelude.{ℕ, ◌≡◌, List}

pub record Told (A : Type 0) : Type 0 where
  pub text : List ℕ
  pub told : A

-- the input is the text, and tells the thing
abbrev pub IsTold : {A : Type 0} → (List ℕ → A → Type 0) → List ℕ → Told A → Type 0
IsTold Tells input t = (t.text ≡ input) × Tells input t.told
