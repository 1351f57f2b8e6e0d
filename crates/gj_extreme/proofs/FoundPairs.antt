-- The rows of tight pairs as a set gives them.
use Rattle.std.proofs.Common.{◌≡◌, ℕ, ◌+◌, ◌<◌, ◌≤◌, ◌↔◌, ◌++◌, ◌∷◌, List, false, IsTrue, ap, subst, sym, ◌∙◌, inl, inr, arith}
use Rattle.std.proofs.lemmas.Bool.{cases_lt}
use Rattle.gj_loops.specs.IndexSets.{has, IsFirst}
use Rattle.gj_loops.specs.declared.index_set.IndexSet.{IndexSet}
use Rattle.gj_shape.specs.Additive.{IsTight}
use Rattle.gj_shape.specs.FunctionData.{FunctionData}
use Rattle.gj_shape.specs.declared.extremality.RowName.{RowName}
use Rattle.gj_shape.specs.declared.extremality.RowName.TheVariants.{Pair}
use Rattle.gj_faces.specs.TightPairs.{IsTightIn, AreTightPairsOf}
use Rattle.gj_faces.specs.declared.tight_pairs.TightPairs.{TightPairs}
use Rattle.gj_extreme.specs.RowsToCome.{pairs_from}
use Rattle.gj_extreme.proofs.RowOrder.{no_pairs, next_pair, skipped_pairs}

-- the set is a row of the pairs
pub record IsRow (pairs : TightPairs) (a : ℕ) (row : IndexSet) : Type 0 where
  pub tells : (b : ℕ) → b < pairs.order → IsTrue (has row b) ↔ IsTightIn pairs a b
  pub within : (b : ℕ) → pairs.order ≤ b → has row b ≡ false

loose : (f : FunctionData) (pairs : TightPairs) (a k : ℕ) (row : IndexSet) →
    AreTightPairsOf f pairs → IsRow pairs a row → k < f.order →
    has row k ≡ false → IsTight f a k → ⊥
loose f pairs a k row p r below not tight =
    let yes' = (r.tells k (subst (λ n. k < n) (sym p.order) below)).1 ((p.tell a k).1 tight) in
    cc (yes', not)

pub found_below : (f : FunctionData) (pairs : TightPairs) (a from b : ℕ) (row : IndexSet) →
    AreTightPairsOf f pairs → IsRow pairs a row →
    IsFirst row from b → b < f.order
found_below f pairs a from b row p r first = elim (cases_lt b f.order) [
  | inl below ↦ below
  | inr past ↦
      let not = r.within b (subst (λ n. n ≤ b) (sym p.order) past) in
      let found = first.found in absurd (cc (not, found))
]

pub found_next : (f : FunctionData) (pairs : TightPairs) (a from b : ℕ) (row : IndexSet)
    (behind : List RowName) →
    AreTightPairsOf f pairs → IsRow pairs a row → IsFirst row from b →
    pairs_from f a from ++ behind ≡ Pair a b ∷ (pairs_from f a (b + 1) ++ behind)
found_next f pairs a from b row behind p r first =
    let below = found_below f pairs a from b row p r first in
    skipped_pairs f a from b behind first.behind (omega arith)
    (λ k low high. loose f pairs a k row p r (omega arith) (first.before k low high))
    ∙ next_pair f a b behind below
    ((p.tell a b).0 ((r.tells b (subst (λ n. b < n) (sym p.order) below)).0 first.found))

pub found_none : (f : FunctionData) (pairs : TightPairs) (a from : ℕ) (row : IndexSet)
    (behind : List RowName) →
    AreTightPairsOf f pairs → IsRow pairs a row → from ≤ f.order →
    ((k : ℕ) → from ≤ k → has row k ≡ false) →
    pairs_from f a from ++ behind ≡ behind
found_none f pairs a from row behind p r low none =
    skipped_pairs f a from f.order behind low (omega arith)
    (λ k from_k below. loose f pairs a k row p r below (none k from_k))
    ∙ ap (λ l. l ++ behind) (no_pairs f a f.order (omega arith))
