-- The fractions of the first entries of a list, read one after another.
use Rattle.std.proofs.Common.{◌≡◌, ℕ, zero, suc, ◌+◌, ◌<◌, List, [], ◌∷◌, ◌++◌, length, map, take, get_or, sym, ap, subst, ◌∙◌, arith}
use Rattle.std.specs.List.{AllZip}
use Rattle.std.proofs.lemmas.List.{map-append, take_more}
use Rattle.std.proofs.lemmas.Slice.Zip.{all_zipped_more}
use Rattle.gj_frac.specs.declared.Frac.{Frac}
use Rattle.serde_json.specs.View.{view}
use Rattle.serde_json.specs.declared.value.Value.{Value}
use Rattle.gj_json.specs.JsonFunction.{SpellsNumber}

-- the first n values spell the fractions
abbrev pub SpellSoFar : List Value → ℕ → List Frac → Type 0
SpellSoFar vs n xs = AllZip SpellsNumber (map view (take n vs)) xs

pub one_more : (vs : List Value) (n : ℕ) (v : Value) (xs : List Frac) (x : Frac) → n < length vs →
    SpellSoFar vs n xs →
    v ≡ get_or vs n v → SpellsNumber (view v) x → SpellSoFar vs (n + 1) (xs ++ x ∷ [])
one_more vs n v xs x some so_far is h =
    let next : map view (take (n + 1) vs) ≡ map view (take n vs) ++ view v ∷ [] =
    ap (map view) (take_more vs n v some ∙ ap (λ w. take n vs ++ w ∷ []) (sym is))
    ∙ map-append view (take n vs) (v ∷ []) in
    subst (λ ds. AllZip SpellsNumber ds (xs ++ x ∷ [])) (sym next)
    (all_zipped_more SpellsNumber (map view (take n vs)) xs (view v) x so_far h)

-- an entry that spells none
pub none_at : (vs : List Value) (n : ℕ) (v : Value) → n < length vs → v ≡ get_or vs n v →
    ((x : Frac) → SpellsNumber (view v) x → ⊥) →
    (xs : List Frac) → AllZip SpellsNumber (map view vs) xs → ⊥
none_at [] n v some is none xs h = absurd (omega arith)
none_at (w ∷ vs) zero v some is none [] h = absurd h
none_at (w ∷ vs) zero v some is none (x ∷ xs) h =
    none x (subst (λ u. SpellsNumber (view u) x) (sym is) h.0)
none_at (w ∷ vs) (suc n) v some is none [] h = absurd h
none_at (w ∷ vs) (suc n) v some is none (x ∷ xs) h = none_at vs n v (omega arith) is none xs h.1
