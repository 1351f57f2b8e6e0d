-- Where the rules of a claim that a function is not extreme hold, its halves show it.
use Rattle.std.proofs.Common.{◌≡◌, ℕ, zero, suc, ◌+◌, ◌*◌, ◌%◌, ◌<◌, ℤ, pos, ◌+ℤ◌, ◌*ℤ◌, ◌≤ℤ◌, List, [], ◌∷◌, length, unsigned_abs, refl, sym, ap, ap₂, subst, ◌∙◌, arith}
use Rattle.std.specs.List.{range_with_len}
use Rattle.std.proofs.Math.Nat.{mod-lt, mod-mod, mul-pos, mul-lt-mul_of_pos_right}
use Rattle.std.proofs.lemmas.Int.{ints}
use Rattle.std.proofs.lemmas.List.Elements.{All-head, All-tail}
use Rattle.gj_lemmas.proofs.Lists.{All-front, All-back}
use Rattle.gj_lemmas.proofs.Quotients.{same_at_remainder}
use Rattle.gj_shape.specs.FunctionData.{FunctionData, IsWithinBounds, IsPiecewise, at}
use Rattle.gj_shape.specs.Refinement.{refined, entry_or_value}
use Rattle.gj_shape.specs.Table.{IsMinimal}
use Rattle.gj_shape.specs.declared.extremality.LimitHalves.{LimitHalves}
use Rattle.gj_shape.specs.declared.extremality.SideNumbers.{SideNumbers}
use Rattle.gj_shape.proofs.AtLemmas.{at_wrapped}
use Rattle.gj_shape.proofs.TableLemmas.{at_plus_order, entry_period, period_of_parts, pieces_of}
use Rattle.gj_theory.proofs.MinimalFromTests.{minimal_by_tests}
use Rattle.gj_limit_averages.specs.Averages.{IsMinimalOver}
use Rattle.gj_proof.specs.Rules.{Demand, pair_demands}
use Rattle.gj_check.proofs.HalvesMeaning.{average_of_pairs}
use Rattle.gj_limit_proof.specs.declared.claim.LimitClaim.TheVariants.{NotExtreme}
use Rattle.gj_limit_proof.specs.LimitMeaning.{half_of, ShowLimitHalves, LimitClaimHolds}
use Rattle.gj_limit_proof.specs.LimitRules.{MeetsLimitAverage, PassesAsHalf, MeetsLimitSame, DemandHolds, MeetsLimitRules}
use Rattle.gj_limit_proof.specs.LimitText.{AreLimitHalvesInBounds, AreSideNumbersWithin}

-- what the rules on halves say, if the order is m times the function's and the scale c m times its
record MeetHalves (f : FunctionData) (h : LimitHalves) (m c : ℕ) : Type 0 where
  order : h.order ≡ f.order * m
  scale : h.scale ≡ pos (c * (f.scale * m))
  average : (i : ℕ) → i < h.order → MeetsLimitAverage f h i
  first : PassesAsHalf f h h.first
  second : PassesAsHalf f h h.second
  same : MeetsLimitSame h

-- the numbers of the function on a finer grid have its order as a period
entry_period_of : (f : FunctionData) (xs : List ℤ) (m a r : ℕ) → IsPiecewise f →
    length xs ≡ f.order →
    entry_or_value f xs m (a + f.order) r ≡ entry_or_value f xs m a r
entry_period_of f xs m a zero h e = ap (λ z. pos m *ℤ z) (at_plus_order xs a f.order e)
entry_period_of f xs m a (suc r) h e = entry_period f m a (suc r) h

refined_period : (f : FunctionData) (xs : List ℤ) (m i : ℕ) → 0 < m → IsPiecewise f →
    length xs ≡ f.order →
    refined f xs m (i + f.order * m) ≡ refined f xs m i
refined_period f xs m i some h e =
    period_of_parts (entry_or_value f xs m) f.order m i some (λ a r. entry_period_of f xs m a r h e)

module _ (f : FunctionData) (h : LimitHalves) (m c : ℕ) (l : IsWithinBounds f)
    (b : AreLimitHalvesInBounds h)
    (meets : MeetHalves f h m c) where
  m_some : 0 < m
  m_some = some m refl
    where
      some : (k : ℕ) → k ≡ m → 0 < k
      some zero e =
          let none : f.order * m ≡ 0 = ap (λ k. f.order * k) (sym e)
          ∙ (let z : f.order * zero ≡ 0 = omega arith in z) in
          let order = meets.order in
          let low = b.order_low in
          absurd (omega arith)
      some (suc k) e = omega arith

  c_some : 0 < c
  c_some = some c refl
    where
      some : (k : ℕ) → k ≡ c → 0 < k
      some zero e =
          let none : c * (f.scale * m) ≡ 0 = ap (λ k. k * (f.scale * m)) (sym e)
          ∙ (let z : zero * (f.scale * m) ≡ 0 = omega arith in z) in
          let low : pos 1 ≤ℤ pos 0 =
          subst (λ (x : ℤ). pos 1 ≤ℤ x) (meets.scale ∙ ap pos none) b.scale_low in
          absurd (omega (arith, ints))
      some (suc k) e = omega arith

  scale_is : unsigned_abs h.scale ≡ c * (f.scale * m)
  scale_is = ap unsigned_abs meets.scale

  -- one of the halves
  half_over : (s : SideNumbers) → AreSideNumbersWithin h.order s → PassesAsHalf f h s →
      IsMinimalOver f m c (half_of f m h s)
  half_over s within passes =
      let low = b.order_low in
      let order = meets.order in
      let place = mul-lt-mul_of_pos_right l.place_high m_some in
      let scale = mul-pos c_some (mul-pos l.scale_low m_some) in
      let scale_same = scale_is in
      let pieces : IsPiecewise (half_of f m h s) = record {
        order_low = b.order_low;
        place_low = mul-pos l.place_low m_some;
        place_high = omega arith;
        scale_low = omega arith;
        left_length = within.left_length;
        value_length = within.value_length;
        right_length = within.right_length;
      } in
      record {
        order = meets.order;
        place = refl;
        scale = scale_is;
        left_length = within.left_length;
        value_length = within.value_length;
        right_length = within.right_length;
        minimal = minimal_by_tests (half_of f m h s) pieces (passes m meets.order);
      }

  -- on one side, at every index
  average_on : (xs first second : List ℤ) → length xs ≡ f.order → length first ≡ h.order →
      length second ≡ h.order →
      ((i : ℕ) → i < h.order → at first i +ℤ at second i ≡ pos (2 * c) *ℤ refined f xs m i) →
      (i : ℕ) → at first i +ℤ at second i ≡ pos (2 * c) *ℤ refined f xs m i
  average_on xs first second len first_len second_len all i =
      let n = h.order in
      let low = b.order_low in
      let r = i % n in
      let below : r < n = mod-lt i (omega arith) in
      let period : (j : ℕ) → refined f xs m (j + n) ≡ refined f xs m j = λ j.
      ap (λ k. refined f xs m (j + k)) meets.order
      ∙ refined_period f xs m j m_some (pieces_of l) len in
      ap₂ (λ x y. x +ℤ y) (sym (at_wrapped first i r n first_len refl))
      (sym (at_wrapped second i r n second_len refl))
      ∙ all r below
      ∙ ap (λ x. pos (2 * c) *ℤ x) (same_at_remainder (refined f xs m) n period r i (mod-mod i n))

  halves_shown : IsMinimal f → ShowLimitHalves f h
  halves_shown minimal = (
    m,
    c,
    meets.scale,
    record {
      finer = m_some;
      factor = c_some;
      first = half_over h.first b.first meets.first;
      second = half_over h.second b.second meets.second;
      average = record {
        left = average_on f.left h.first.left h.second.left l.left_length b.first.left_length
            b.second.left_length
            (λ i below. (meets.average i below).left m c meets.order meets.scale);
        value = average_on f.value h.first.value h.second.value l.value_length b.first.value_length
            b.second.value_length
            (λ i below. (meets.average i below).value m c meets.order meets.scale);
        right = average_on f.right h.first.right h.second.right l.right_length b.first.right_length
            b.second.right_length
            (λ i below. (meets.average i below).right m c meets.order meets.scale);
      };
      different = meets.same;
    },
  )

pub halves_meaning : (f : FunctionData) (h : LimitHalves) → IsWithinBounds f →
    AreLimitHalvesInBounds h →
    MeetsLimitRules (NotExtreme f h) → LimitClaimHolds (NotExtreme f h)
halves_meaning f h l b rules =
    let P : Demand → Type 0 = DemandHolds (NotExtreme f h) in
    let pairs = pair_demands (range_with_len 0 h.order) in
    let last = Demand.first ∷ Demand.second ∷ Demand.same ∷ [] in
    let early = All-front P (Demand.minimal ∷ Demand.scale ∷ pairs) last rules in
    let late = All-back P (Demand.minimal ∷ Demand.scale ∷ pairs) last rules in
    let is_minimal = minimal_by_tests f (pieces_of l)
    (All-head P Demand.minimal (Demand.scale ∷ pairs) early) in
    let two = All-tail P Demand.minimal (Demand.scale ∷ pairs) early in
    let grid = All-head P Demand.scale pairs two in
    let behind = All-tail P Demand.first (Demand.second ∷ Demand.same ∷ []) late in (
      is_minimal,
      halves_shown f h grid.0 grid.1 l b (record {
        order = grid.2;
        scale = grid.3;
        average = λ i below. average_of_pairs P 0 h.order i (omega arith) (omega arith)
            (All-tail P Demand.scale pairs two);
        first = All-head P Demand.first (Demand.second ∷ Demand.same ∷ []) late;
        second = All-head P Demand.second (Demand.same ∷ []) behind;
        same = All-head P Demand.same [] (All-tail P Demand.second (Demand.same ∷ []) behind);
      }) is_minimal,
    )
