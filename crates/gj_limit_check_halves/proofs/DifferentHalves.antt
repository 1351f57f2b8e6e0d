-- Halves of which some number differs.
use Rattle.std.proofs.Common.{◌≡◌, ◌≢◌, ℕ, suc, ◌<◌, Bool, true, false, not, ℤ, pos, List, [], ◌∷◌, length, get_or, refl, sym, ap, ◌∙◌, inl, inr, arith}
use Rattle.std.specs.Cmp.Lexicographic.{pointwise, pointwise_decides}
use Rattle.std.specs.Ordering.{int_eq}
use Rattle.std.proofs.lemmas.Bool.{cases_Bool}
use Rattle.std.proofs.lemmas.Bool.Decides.{Decides-int_eq, not_from_Decides}
use Rattle.gj_shape.specs.FunctionData.{at}
use Rattle.gj_shape.specs.declared.extremality.LimitHalves.{LimitHalves}
use Rattle.gj_shape.proofs.AtLemmas.{at_below}
use Rattle.gj_limit_proof.specs.LimitRules.{MeetsLimitSame}
use Rattle.gj_limit_proof.specs.LimitText.{AreLimitHalvesInBounds}

-- the lists have other numbers there
record DifferAt (xs ys : List ℤ) : Type 0 where
  index : ℕ
  below : index < length xs
  apart : get_or xs index (pos 0) ≢ get_or ys index (pos 0)

behind : (x y : ℤ) (xs ys : List ℤ) → DifferAt xs ys → DifferAt (x ∷ xs) (y ∷ ys)
behind x y xs ys d = record {
  index = suc d.index;
  below = let low = d.below in omega arith;
  apart =
      d.apart;
}

differ_at : (xs ys : List ℤ) → length xs ≡ length ys → xs ≢ ys → DifferAt xs ys
differ_at [] [] len other = absurd (other refl)
differ_at [] (y ∷ ys) len other = absurd (omega arith)
differ_at (x ∷ xs) [] len other = absurd (omega arith)
differ_at (x ∷ xs) (y ∷ ys) len other =
    elim (cases_Bool (int_eq x y)) [
      | inl same ↦
          let heads = (Decides-int_eq x y).0 same in
          behind x y xs ys (differ_at xs ys (omega arith) (λ tails. other (λ k. heads k ∷ tails k)))
      | inr apart ↦ record {
        index = 0;
        below = omega arith;
        apart =
            not_from_Decides (int_eq x y) (Decides-int_eq x y) apart;
      }
    ]

-- at an index that is read modulo their length
pub different_at : (xs ys : List ℤ) → length xs ≡ length ys → xs ≢ ys →
    (i : ℕ) × (at xs i ≢ at ys i)
different_at xs ys len other =
    let d = differ_at xs ys len other in
    let below = d.below in (
      d.index,
      λ same. d.apart (sym (at_below xs d.index below) ∙ same ∙ at_below ys d.index (omega arith)),
    )

-- equal lists have equal numbers
same_at : (xs ys : List ℤ) → xs ≡ ys → (i : ℕ) → (at xs i ≢ at ys i) → ⊥
same_at xs ys e i other = other (ap (λ zs. at zs i) e)

-- the test of the code
abbrev pub TellsUnequal : Bool → List ℤ → List ℤ → Type 0
TellsUnequal b xs ys = b ≡ not (pointwise int_eq xs ys)

pub unequal : (b : Bool) (xs ys : List ℤ) → TellsUnequal b xs ys → b ≡ true → xs ≢ ys
unequal b xs ys told yes' same =
    let no' = (pointwise_decides Decides-int_eq xs ys).1 same in
    let b_is : b ≡ false = told ∙ ap not no' in cc

pub equal : (b : Bool) (xs ys : List ℤ) → TellsUnequal b xs ys → b ≡ false → xs ≡ ys
equal b xs ys told no' =
    (pointwise_decides Decides-int_eq xs ys).0 (not_false (pointwise int_eq xs ys) (sym told ∙ no'))
  where
    not_false : (t : Bool) → not t ≡ false → t ≡ true
    not_false true e = refl
    not_false false e = absurd (let k : true ≡ false = e in cc)

-- ---- halves

pub left_differs : (h : LimitHalves) → AreLimitHalvesInBounds h → h.first.left ≢ h.second.left →
    MeetsLimitSame h
left_differs h b other =
    let d = different_at h.first.left h.second.left (b.first.left_length ∙ sym b.second.left_length)
    other in (d.0, inl d.1)

pub value_differs : (h : LimitHalves) → AreLimitHalvesInBounds h → h.first.value ≢ h.second.value →
    MeetsLimitSame h
value_differs h b other =
    let d = different_at h.first.value h.second.value
    (b.first.value_length ∙ sym b.second.value_length) other in (d.0, inr (inl d.1))

pub right_differs : (h : LimitHalves) → AreLimitHalvesInBounds h → h.first.right ≢ h.second.right →
    MeetsLimitSame h
right_differs h b other =
    let d = different_at h.first.right h.second.right
    (b.first.right_length ∙ sym b.second.right_length) other in (d.0, inr (inr d.1))

pub none_differs : (h : LimitHalves) → h.first.left ≡ h.second.left →
    h.first.value ≡ h.second.value → h.first.right ≡ h.second.right →
    MeetsLimitSame h → ⊥
none_differs h left value right (i, inl other) = same_at h.first.left h.second.left left i other
none_differs h left value right (i, inr (inl other)) =
    same_at h.first.value h.second.value value i other
none_differs h left value right (i, inr (inr other)) =
    same_at h.first.right h.second.right right i other
