-- Parts of texts that spell lists: things of one part, one behind another (own).
use Rattle.std.specs.Prelude.{ℕ, zero, suc, ◌≡◌, ◌⊎◌, List, [], ◌∷◌, ◌++◌}
use Rattle.std.proofs.Common.{inl, inr}
use Rattle.gj_forms.specs.Parts.{Part, empty_part, then_part, made_part, where_part, loop_part}

-- one more behind these
abbrev pub one_more : {A : Type 0} → Part A → List A → Part (List A ⊎ List A)
one_more p items = made_part (λ a next. next ≡ inl (items ++ a ∷ [])) p

-- one more behind these if the text begins so; else these are all
abbrev pub next_while : {A : Type 0} → (List ℕ → Type 0) → Part A → List A → Part (List A ⊎ List A)
next_while Begins p items = where_part Begins (one_more p items) (empty_part (inr items))

abbrev pub while_part : {A : Type 0} → (List ℕ → Type 0) → Part A → List A → Part (List A)
while_part Begins p = loop_part (next_while Begins p)

-- these are all if the text begins so; else there is one more behind these
abbrev pub next_until : {A : Type 0} → (List ℕ → Type 0) → Part A → List A → Part (List A ⊎ List A)
next_until Begins p items = where_part Begins (empty_part (inr items)) (one_more p items)

abbrev pub until_part : {A : Type 0} → (List ℕ → Type 0) → Part A → List A → Part (List A)
until_part Begins p = loop_part (next_until Begins p)

-- the part reads what is printed of a thing, where such a rest follows, and nothing else
pub record IsPrinted {A : Type 0} (p : Part A) (Follows : List ℕ → Type 0) (print : A → List ℕ)
    (Has : A → Type 0) : Type 0 where
  pub reads : (a : A) (rest : List ℕ) → Has a → Follows rest → p.Reads (print a ++ rest) a rest
  pub found : (text rest : List ℕ) (a : A) → p.Reads text a rest → (text ≡ print a ++ rest) × Has a

-- so many more behind these; with them they are all
abbrev pub times_part : {A : Type 0} → Part A → ℕ → List A → Part (List A)
times_part p zero items = empty_part items
times_part p (suc n) items = then_part p (λ a. times_part p n (items ++ a ∷ []))
