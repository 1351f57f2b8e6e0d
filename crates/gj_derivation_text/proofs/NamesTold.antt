-- Names that are told one after another, and indices.
use Rattle.std.proofs.Common.{◌≡◌, ◌≢◌, ◌⊎◌, inl, inr, ℕ, ◌+◌, ◌<◌, ◌≤◌, Bool, true, false, cond, ltb, ltb-true, ltb-false, Option, Some, None, List, [], ◌∷◌, ◌++◌, All, Contains, length, nat_eq, append-nil, append_assoc, length-append, refl, sym, ap, subst, ◌∙◌, arith}
use Rattle.std.specs.Cmp.Lexicographic.{pointwise, bytes_decides}
use Rattle.std.specs.List.{position, position_or_len}
use Rattle.std.proofs.Math.Seq.{get_or-append_seam}
use Rattle.std.proofs.lemmas.Bool.{false≢true}
use Rattle.std.proofs.lemmas.List.{get_or_append_left}
use Rattle.std.proofs.lemmas.List.Elements.{All-nil, All-push}
use Rattle.std.proofs.lemmas.List.Quantifiers.{position-Some}
use Rattle.std.proofs.lemmas.List.Sums.{fails_before_first}
use Rattle.gj_lex.specs.Name.{IsName}
use Rattle.gj_problem_text.specs.CutText.{name_at, AreNames}
use Rattle.gj_derivation_text.specs.OpenSteps.{index_in}
use Rattle.gj_derivation_text.specs.Readable.{AreNewBelow}

-- ---- indices

-- an index is below the number of names
pub index_below : (names : List (List ℕ)) (name : List ℕ) (i : ℕ) → index_in names name ≡ Some i →
    i < length names
index_below names name i is = (position-Some (pointwise nat_eq name) names i [] is).0

-- one more index that is new
pub one_more_index : (n : ℕ) (taken indices : List ℕ) (i : ℕ) → AreNewBelow n taken indices →
    i < n → (Contains (taken ++ indices) i → ⊥) →
    AreNewBelow n taken (indices ++ i ∷ [])
one_more_index n taken [] i h below new =
    (below, λ k. new (subst (λ (xs : List ℕ). Contains xs i) (sym (append-nil taken)) k), tt)
one_more_index n taken (j ∷ indices) i h below new = (
  h.0,
  h.1,
  one_more_index n (taken ++ j ∷ []) indices i h.2 below
      (λ k. new (subst (λ (xs : List ℕ). Contains xs i) (append_assoc taken (j ∷ []) indices) k)),
)

-- ---- names

-- a name without an index is none of the names
not_among : (names : List (List ℕ)) (name : List ℕ) → index_in names name ≡ None → (i : ℕ) →
    i < length names → name_at names i ≡ name → ⊥
not_among names name none i below same = by (ltb (position_or_len test names) (length names)) refl
  where
    test : List ℕ → Bool
    test = pointwise nat_eq name

    by : (b : Bool) → ltb (position_or_len test names) (length names) ≡ b → ⊥
    by true is = let s = ap (λ b. cond b (Some (position_or_len test names)) None) is in absurd cc
    by false is =
        false≢true
        (sym (fails_before_first test names i []
        (omega (arith, ltb-false (position_or_len test names) (length names) is)))
        ∙ (bytes_decides name (name_at names i)).1 (sym same))

-- the index is one of the names before, or that of the last
place_of : (i n : ℕ) → i < n + 1 → (i < n) ⊎ (i ≡ n)
place_of i n below = by (ltb i n) refl
  where
    by : (b : Bool) → ltb i n ≡ b → (i < n) ⊎ (i ≡ n)
    by true is = inl (ltb-true i n is)
    by false is = inr (omega (arith, ltb-false i n is))

pub no_names : AreNames []
no_names = record { are = All-nil IsName; different = λ i j below. absurd (omega arith) }

pub one_more_name : (names : List (List ℕ)) (name : List ℕ) → AreNames names → IsName name →
    index_in names name ≡ None →
    AreNames (names ++ name ∷ [])
one_more_name names name h is none =
    record { are = All-push IsName names name h.are is; different = different }
  where
    all : List (List ℕ)
    all = names ++ name ∷ []

    before : (i : ℕ) → i < length names → name_at all i ≡ name_at names i
    before i below = get_or_append_left names (name ∷ []) [] i below

    last : (i : ℕ) → i ≡ length names → name_at all i ≡ name
    last i e = ap (name_at all) e ∙ get_or-append_seam names name [] []

    by : (i j : ℕ) → (i < length names) ⊎ (i ≡ length names) →
        (j < length names) ⊎ (j ≡ length names) → name_at all i ≡ name_at all j → i ≡ j
    by i j (inl p) (inl q) e = h.different i j p q (sym (before i p) ∙ e ∙ before j q)
    by i j (inl p) (inr q) e =
        absurd (not_among names name none i p (sym (before i p) ∙ e ∙ last j q))
    by i j (inr p) (inl q) e =
        absurd (not_among names name none j q (sym (before j q) ∙ sym e ∙ last i p))
    by i j (inr p) (inr q) e = p ∙ sym q

    different : (i j : ℕ) → i < length all → j < length all → name_at all i ≡ name_at all j → i ≡ j
    different i j p q e =
        by i j (place_of i (length names) (omega (arith, length-append names (name ∷ []))))
        (place_of j (length names) (omega (arith, length-append names (name ∷ [])))) e
