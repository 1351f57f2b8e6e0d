-- Where the rules of a claim that a function is not extreme hold, its halves show it.
use Rattle.std.proofs.Common.{◌≡◌, ℕ, zero, suc, inl, inr, ◌+◌, ◌*◌, ◌%◌, ◌<◌, ◌≤◌, ℤ, pos, ◌+ℤ◌, ◌*ℤ◌, ◌≤ℤ◌, List, [], ◌∷◌, unsigned_abs, refl, sym, ap, ap₂, subst, ◌∙◌, arith}
use Rattle.std.specs.Prelude.{All}
use Rattle.std.specs.List.{range_with_len}
use Rattle.std.proofs.Math.Nat.{mod-lt, mod-mod}
use Rattle.std.proofs.lemmas.Bool.{cases_eq}
use Rattle.std.proofs.lemmas.Int.{ints}
use Rattle.std.proofs.lemmas.List.Elements.{All-head, All-tail}
use Rattle.gj_lemmas.proofs.Lists.{All-front, All-back}
use Rattle.gj_lemmas.proofs.Quotients.{same_at_remainder}
use Rattle.gj_shape.specs.FunctionData.{FunctionData, IsWithinBounds, at}
use Rattle.gj_shape.specs.Table.{table, IsMinimalTable, IsMinimal}
use Rattle.gj_shape.specs.declared.extremality.Halves.{Halves}
use Rattle.gj_theory.proofs.MinimalFromTests.{minimal_from_tests}
use Rattle.gj_proof.specs.declared.claim.Claim.TheVariants.{NotExtreme}
use Rattle.gj_proof.specs.ProofText.{HasText}
use Rattle.gj_proof.specs.Rules.{Demand, MeetsAverage, MeetsSame, IsMinimalHalf, pair_demands, DemandHolds, MeetsRules}
use Rattle.gj_proof.specs.Meaning.{ShowHalves, ClaimHolds}

-- the demand on the average of each pair
pub average_of_pairs : (P : Demand → Type 0) (a n i : ℕ) → a ≤ i → i < a + n →
    All P (pair_demands (range_with_len a n)) →
    P (Demand.average i)
average_of_pairs P a zero i from below h = absurd (omega arith)
average_of_pairs P a (suc n) i from below h =
    let later = pair_demands (range_with_len (a + 1) n) in
    let behind = All-tail P (Demand.range a) (Demand.average a ∷ later) h in
    elim (cases_eq i a) [
      | inl e ↦ subst (λ (k : ℕ). P (Demand.average k)) (sym e)
          (All-head P (Demand.average a) later behind)
      | inr other ↦ average_of_pairs P (a + 1) n i (omega arith) (omega arith)
          (All-tail P (Demand.average a) later behind)
    ]

-- what the rules on halves say, if the order is m times the function's and the scale c times that
-- of its table
record MeetHalves (f : FunctionData) (h : Halves) (m c : ℕ) : Type 0 where
  order : h.order ≡ f.order * m
  scale : h.scale ≡ pos (c * (f.scale * m))
  average : (i : ℕ) → i < h.order → MeetsAverage f h i
  first : IsMinimalHalf f h h.first
  second : IsMinimalHalf f h h.second
  same : MeetsSame h

halves_shown : (f : FunctionData) (h : Halves) (m c : ℕ) → IsMinimal f → 2 ≤ h.order →
    pos 1 ≤ℤ h.scale →
    MeetHalves f h m c → ShowHalves f h
halves_shown f h m c minimal order_low scale_low meets = (
  m,
  c,
  m_some,
  meets.order,
  meets.scale,
  record {
    factor = factor_some c refl;
    first = over h.first (meets.first m meets.order);
    second = over h.second (meets.second m meets.order);
    average = λ i.
        let r = i % n in
        let below : r < h.order = subst (λ (k : ℕ). r < k) (sym meets.order) (mod-lt i n_some) in
        ap₂ (λ x y. x +ℤ y) (at_rest (at h.first)
        (over h.first (meets.first m meets.order)).has_period i)
        (at_rest (at h.second) (over h.second (meets.second m meets.order)).has_period i)
        ∙ meets.average r below m c meets.order meets.scale
        ∙ ap (λ x. pos (2 * c) *ℤ x) (sym (at_rest (table f m) (minimal m m_some).has_period i));
    index = meets.same.0;
    different = meets.same.1;
  },
)
  where
    n : ℕ
    n = f.order * m

    m_some : 0 < m
    m_some = some m refl
      where
        some : (k : ℕ) → k ≡ m → 0 < k
        some zero e =
            let none : f.order * m ≡ 0 = ap (λ k. f.order * k) (sym e)
            ∙ (let z : f.order * zero ≡ 0 = omega arith in z) in
            let order = meets.order in absurd (omega arith)
        some (suc k) e = omega arith

    n_some : 0 < n
    n_some = let order = meets.order in omega arith

    factor_some : (k : ℕ) → k ≡ c → 0 < c
    factor_some zero e =
        let none : c * (f.scale * m) ≡ 0 = ap (λ k. k * (f.scale * m)) (sym e)
        ∙ (let z : zero * (f.scale * m) ≡ 0 = omega arith in z) in
        let low : pos 1 ≤ℤ pos 0 =
        subst (λ (x : ℤ). pos 1 ≤ℤ x) (meets.scale ∙ ap pos none) scale_low in
        absurd (omega (arith, ints))
    factor_some (suc k) e = omega arith

    over : (values : List ℤ) →
        IsMinimalTable (at values) h.order (f.place * m) (unsigned_abs h.scale) →
        IsMinimalTable (at values) n (f.place * m) (c * (f.scale * m))
    over values t =
        subst (λ (k : ℕ). IsMinimalTable (at values) k (f.place * m) (c * (f.scale * m)))
        meets.order
        (subst (λ (s : ℤ). IsMinimalTable (at values) h.order (f.place * m) (unsigned_abs s))
        meets.scale t)

    at_rest : (t : ℕ → ℤ) → ((i : ℕ) → t (i + n) ≡ t i) → (i : ℕ) → t i ≡ t (i % n)
    at_rest t period i = same_at_remainder t n period i (i % n) (sym (mod-mod i n))

pub halves_meaning : (f : FunctionData) (h : Halves) → IsWithinBounds f → HasText (NotExtreme f h) →
    MeetsRules (NotExtreme f h) → ClaimHolds (NotExtreme f h)
halves_meaning f h b text rules =
    let P : Demand → Type 0 = DemandHolds (NotExtreme f h) in
    let pairs = pair_demands (range_with_len 0 h.order) in
    let last = Demand.first ∷ Demand.second ∷ Demand.same ∷ [] in
    let early = All-front P (Demand.minimal ∷ Demand.continuous ∷ Demand.scale ∷ pairs) last
    rules in
    let late = All-back P (Demand.minimal ∷ Demand.continuous ∷ Demand.scale ∷ pairs) last rules in
    let is_minimal = minimal_from_tests f b
    (All-head P Demand.minimal (Demand.continuous ∷ Demand.scale ∷ pairs) early) in
    let one = All-tail P Demand.minimal (Demand.continuous ∷ Demand.scale ∷ pairs) early in
    let two = All-tail P Demand.continuous (Demand.scale ∷ pairs) one in
    let grid = All-head P Demand.scale pairs two in
    let behind = All-tail P Demand.first (Demand.second ∷ Demand.same ∷ []) late in (
      All-head P Demand.continuous (Demand.scale ∷ pairs) one,
      is_minimal,
      halves_shown f h grid.0 grid.1 is_minimal text.order_low text.scale_low record {
        order = grid.2;
        scale = grid.3;
        average = λ i below. average_of_pairs P 0 h.order i (omega arith) (omega arith)
            (All-tail P Demand.scale pairs two);
        first = All-head P Demand.first (Demand.second ∷ Demand.same ∷ []) late;
        second = All-head P Demand.second (Demand.same ∷ []) behind;
        same = All-head P Demand.same [] (All-tail P Demand.second (Demand.same ∷ []) behind);
      },
    )
