-- How many indices pass a test.
use Rattle.std.proofs.Common.{◌≡◌, ℕ, zero, suc, ◌<◌, ◌≤◌, Bool, true, false, cond, refl, sym, ap, ◌∙◌, inl, inr, arith}
use Rattle.std.proofs.lemmas.Bool.Decides.{eqb_tells}
use Rattle.gj_loops.specs.IndexSets.{count_below}

not_more : (p r : Bool) → (r ≡ true → p ≡ true) → cond r 1 0 ≤ cond p 1 0
not_more true true h = omega arith
not_more true false h = omega arith
not_more false true h = let e : false ≡ true = h refl in cc
not_more false false h = omega arith

at_most : (p r : ℕ → Bool) (n : ℕ) → ((i : ℕ) → r i ≡ true → p i ≡ true) →
    count_below r n ≤ count_below p n
unfolding count_below
at_most p r zero h = omega arith
at_most p r (suc n) h =
    let rest = at_most p r n h in
    let last = not_more (p n) (r n) (h n) in
    omega arith

-- a test that passes no more and fails once more
pub fewer_below : (p r : ℕ → Bool) (n x : ℕ) → x < n → ((i : ℕ) → r i ≡ true → p i ≡ true) →
    p x ≡ true → r x ≡ false →
    count_below r n < count_below p n
unfolding count_below
fewer_below p r zero x below h yes' no' = absurd (omega arith)
fewer_below p r (suc n) x below h yes' no' = elim (eqb_tells x n) [
  | inl (_, same) ↦
      let rest = at_most p r n h in
      let passes : p n ≡ true = ap p (sym same) ∙ yes' in
      let fails : r n ≡ false = ap r (sym same) ∙ no' in
      let up : ◌≡◌ {A = ℕ} (cond (p n) 1 0) 1 = ap (λ b. cond b 1 0) passes in
      let down : ◌≡◌ {A = ℕ} (cond (r n) 1 0) 0 = ap (λ b. cond b 1 0) fails in
      omega arith
  | inr (_, other) ↦
      let rest = fewer_below p r n x (let in' : x < n = omega arith in in') h yes' no' in
      let last = not_more (p n) (r n) (h n) in
      omega arith
]
