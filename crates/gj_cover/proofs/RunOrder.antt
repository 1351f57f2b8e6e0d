-- Short lists of runs in order.
use Rattle.std.proofs.Common.{◌≡◌, ℕ, List, [], ◌∷◌, ◌++◌, subst}
use Rattle.std.proofs.lemmas.List.Elements.{All-nil, All-cons}
use Rattle.gj_faces.specs.Runs.{IsRunOf, EndsBefore, AreInOrder}
use Rattle.gj_faces.specs.declared.run.Run.{Run}
use Rattle.gj_cover.proofs.LineLists.{no_end}

pub none_in_order : (q : ℕ) → AreInOrder q []
none_in_order q = record {
  each = All-nil (IsRunOf q);
  ascending = λ before r s after e. absurd (no_end before r (s ∷ after) e);
}

one_alone : (x : Run) (before : List Run) (r s : Run) (after : List Run) →
    x ∷ [] ≡ before ++ r ∷ s ∷ after → ⊥
one_alone x [] r s after e = cc
one_alone x (b ∷ before) r s after e =
    let tails : [] ≡ before ++ r ∷ s ∷ after = cc in no_end before r (s ∷ after) tails

two_follow : (x y : Run) → EndsBefore x y → (before : List Run) (r s : Run) (after : List Run) →
    x ∷ y ∷ [] ≡ before ++ r ∷ s ∷ after → EndsBefore r s
two_follow x y h [] r s after e =
    let first : x ≡ r = cc in
    let second : y ≡ s = cc in
    subst (EndsBefore r) second (subst (λ z. EndsBefore z y) first h)
two_follow x y h (b ∷ before) r s after e =
    let tails : y ∷ [] ≡ before ++ r ∷ s ∷ after = cc in absurd (one_alone y before r s after tails)

pub two_in_order : (q : ℕ) (x y : Run) → IsRunOf q x → IsRunOf q y → EndsBefore x y →
    AreInOrder q (x ∷ y ∷ [])
two_in_order q x y first second h = record {
  each = All-cons (IsRunOf q) x (y ∷ []) first
      (All-cons (IsRunOf q) y [] second (All-nil (IsRunOf q)));
  ascending = two_follow x y h;
}
