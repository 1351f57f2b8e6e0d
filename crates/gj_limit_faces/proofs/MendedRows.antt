-- Rows of limits that are made of a row of values.
use Rattle.std.proofs.Common.{◌≡◌, ◌≢◌, ◌↔◌, ◌⊎◌, ℕ, ◌+◌, ◌%◌, ◌<◌, pos, Bool, true, eqb, cond, List, [], ◌∷◌, ◌++◌, length, get_or, inl, inr, refl, sym, ap, subst, ◌∙◌, arith}
use Rattle.std.proofs.Math.Nat.{mod-add-mod}
use Rattle.std.proofs.lemmas.Bool.{cases_lt, cases_eq, eq-eqb, ne_eqb}
use Rattle.std.proofs.lemmas.List.{get_or_append_left, get_or_push, length_push}
use Rattle.std.proofs.lemmas.Nat.{mod_below}
use Rattle.gj_loops.specs.IndexSets.{has}
use Rattle.gj_loops.specs.declared.index_set.IndexSet.{IndexSet}
use Rattle.gj_shape.specs.FunctionData.{FunctionData, IsWithinBounds, at}
use Rattle.gj_shape.proofs.AtLemmas.{at_wrapped, at_plus_length}
use Rattle.gj_limit_faces.specs.Terms.{numbers_on, limit_by, terms_with}
use Rattle.gj_limit_faces.specs.ValueRows.{IsContinuousAt, AreJumps, value_slack, IsValueRow, IsTouched, IsMended}
use Rattle.gj_limit_faces.specs.declared.terms.Side.{Side}
use Rattle.gj_limit_faces.specs.declared.terms.Side.TheVariants.{Left, Value, Right}
use Rattle.gj_limit_faces.specs.declared.terms.Terms.{Terms}
use Rattle.gj_limit_faces.proofs.RowSets.{Tells}

-- one more point at which the function may jump
pub jumps_more : (f : FunctionData) (jumps : List ℕ) (i : ℕ) →
    ((m : ℕ) → m < length jumps → get_or jumps m 0 < i) →
    ((j : ℕ) → j < i → IsContinuousAt f j
    ⊎ ((m : ℕ) × (m < length jumps) × (get_or jumps m 0 ≡ j))) →
    ((m : ℕ) → m < length (jumps ++ i ∷ []) → get_or (jumps ++ i ∷ []) m 0 < i + 1)
    × ((j : ℕ) → j < i + 1 → IsContinuousAt f j
    ⊎ ((m : ℕ) × (m < length (jumps ++ i ∷ [])) × (get_or (jumps ++ i ∷ []) m 0 ≡ j)))
jumps_more f jumps i low all = (
  λ m below. elim (cases_lt m (length jumps)) [
    | inl before ↦
        let here = get_or_append_left jumps (i ∷ []) 0 m before in
        let less = low m before in
        omega (arith, here, less)
    | inr last ↦
        let end : length jumps ≡ m = omega (arith, last, below, longer) in
        let here = get_or_push jumps i 0 m end in
        omega (arith, here)
  ],
  λ j below. elim (cases_lt j i) [
    | inl before ↦ elim (all j before) [
      | inl calm ↦ inl calm
      | inr (m, inside, is) ↦
          inr (m, omega (arith, inside, longer), get_or_append_left jumps (i ∷ []) 0 m inside ∙ is)
    ]
    | inr last ↦
        let end : i ≡ j = omega (arith, last, below) in
        inr (length jumps, omega (arith, longer), get_or_push jumps i 0 (length jumps) refl ∙ end)
  ],
)
  where
    longer : length (jumps ++ i ∷ []) ≡ length jumps + 1
    longer = length_push jumps i

module _ (f : FunctionData) (bounds : IsWithinBounds f) where
  -- where the function does not jump
  side_is : (s : Side) (i : ℕ) → IsContinuousAt f i → at (numbers_on f s) i ≡ at f.value i
  side_is Left i here = here.0
  side_is Value i here = refl
  side_is Right i here = here.1

  continuous_at : (i : ℕ) → IsContinuousAt f (i % f.order) → IsContinuousAt f i
  continuous_at i here =
      let value = at_wrapped f.value i (i % f.order) f.order bounds.value_length refl in (
        sym (at_wrapped f.left i (i % f.order) f.order bounds.left_length refl) ∙ here.0 ∙ value,
        sym (at_wrapped f.right i (i % f.order) f.order bounds.right_length refl) ∙ here.1 ∙ value,
      )

  limit_is : (t : Terms) (a b : ℕ) → IsContinuousAt f (a + t.right) →
      IsContinuousAt f (b + t.above) → IsContinuousAt f (a + t.right + (b + t.above)) →
      limit_by f t a b ≡ value_slack f (a + t.right) (b + t.above)
  limit_is t a b first second both =
      let x = side_is t.x (a + t.right) first in
      let y = side_is t.y (b + t.above) second in
      let sum = side_is t.sum (a + t.right + (b + t.above)) both in
      cc (x, y, sum)

  -- a row of the values off lanes
  pub value_row_is : (a right : ℕ) (set : IndexSet) → IsContinuousAt f (a + right) →
      ((b : ℕ) → Tells (has set b) b f.order
      (limit_by f (terms_with Value Value Value right 0) a b ≡ pos 0)) →
      IsValueRow f (a + right) set
  value_row_is a right set here told = record {
    continuous = here;
    each = λ b.
        let up : b + 0 ≡ b = omega arith in
        subst (λ k. Tells (has set b) b f.order (value_slack f (a + right) k ≡ pos 0)) up (told b);
  }

  -- the row of the values at the corners of squares
  pub moved_plain : (x b above : ℕ) (set : IndexSet) → above ≡ 0 → IsValueRow f x set →
      Tells (has set b) b f.order (value_slack f x (b + above) ≡ pos 0)
  moved_plain x b above set none row =
      let up : b ≡ b + above = omega (arith, none) in
      subst (λ k. Tells (has set b) b f.order (value_slack f x k ≡ pos 0)) up (row.each b)

  pub moved_turned : (x b above n : ℕ) (set : IndexSet) (r : Bool) → above ≡ 1 → n ≡ f.order →
      IsValueRow f x set → r ≡ has set (cond (eqb (b + 1) n) 0 (b + 1)) →
      Tells r b f.order (value_slack f x (b + above) ≡ pos 0)
  moved_turned x b above n set r one n_is row is = elim (cases_eq (b + 1) n) [
    | inl end ↦
        let test : cond (eqb (b + 1) n) 0 (b + 1) ≡ 0 =
        ap (λ t. cond t 0 (b + 1)) (eq-eqb (b + 1) n end) in
        let there = is ∙ ap (has set) test in
        let count = bounds.value_length in
        let turn : b + above ≡ 0 + length f.value = omega (arith, one, end, n_is, count) in
        let second : at f.value (b + above) ≡ at f.value 0 =
        ap (at f.value) turn ∙ at_plus_length f.value 0 in
        let turn_sum : x + (b + above) ≡ x + 0 + length f.value = omega (arith, turn) in
        let sum : at f.value (x + (b + above)) ≡ at f.value (x + 0) =
        ap (at f.value) turn_sum ∙ at_plus_length f.value (x + 0) in
        let same : value_slack f x (b + above) ≡ value_slack f x 0 = cc (second, sum) in
        let some = bounds.order_low in (
          λ yes'. let here = (row.each 0).0 (sym there ∙ yes') in
              (omega (arith, end, n_is), same ∙ here.1),
          λ (low, p). there ∙ (row.each 0).1 (omega (arith, some), sym same ∙ p),
        )
    | inr before ↦
        let test : cond (eqb (b + 1) n) 0 (b + 1) ≡ b + 1 =
        ap (λ t. cond t 0 (b + 1)) (ne_eqb (b + 1) n before) in
        let there = is ∙ ap (has set) test in
        let up : b + 1 ≡ b + above = omega (arith, one) in (
          λ yes'. let here = (row.each (b + 1)).0 (sym there ∙ yes') in
              let low = here.0 in
              (omega (arith, low), subst (λ k. value_slack f x k ≡ pos 0) up here.1),
          λ (low, p). there ∙ (row.each (b + 1)).1 (
            omega (arith, low, before, n_is),
            subst (λ k. value_slack f x k ≡ pos 0) (sym up) p,
          ),
        )
  ]

  -- nothing is mended yet
  pub mended_start : (t : Terms) (a : ℕ) (jumps : List ℕ) (set : IndexSet) → AreJumps f jumps →
      IsContinuousAt f (a + t.right) → ((b : ℕ) → Tells (has set b) b f.order
      (value_slack f (a + t.right) (b + t.above) ≡ pos 0)) → IsMended f t a jumps 0 set
  mended_start t a jumps set all here told = record {
    each = λ b free.
        let same : b < f.order →
        limit_by f t a b ≡ value_slack f (a + t.right) (b + t.above) = λ low.
        limit_is t a b here
        (calm (b + t.above) (λ m below e. free m (omega arith) below (low, inl (sym e))))
        (calm (a + t.right + (b + t.above))
        (λ m below e. free m (omega arith) below (low, inr (sym e)))) in (
          λ yes'. let there = (told b).0 yes' in (there.0, same there.0 ∙ there.1),
          λ (low, p). (told b).1 (low, sym (same low) ∙ p),
        );
  }
    where
      calm : (i : ℕ) → ((m : ℕ) → m < length jumps → get_or jumps m 0 ≡ i % f.order → ⊥) →
          IsContinuousAt f i
      calm i none =
          let two = bounds.order_low in
          elim (all.each (i % f.order) (mod_below i f.order (omega (arith, two)))) [
            | inl found ↦ continuous_at i found
            | inr (m, below, is) ↦ absurd (none m below is)
          ]

  -- both indices that a point touches are mended
  pub mended_more : (t : Terms) (a : ℕ) (jumps : List ℕ) (n step b c : ℕ)
      (set middle more : IndexSet) → IsMended f t a jumps n set →
      step ≡ (a + t.right + t.above) % f.order → b < f.order → c < f.order →
      ((d : ℕ) → d < f.order → (d + t.above) % f.order ≡ get_or jumps n 0 → d ≡ b) →
      ((d : ℕ) → d < f.order → (d + step) % f.order ≡ get_or jumps n 0 → d ≡ c) →
      ((has middle b ≡ true) ↔ (limit_by f t a b ≡ pos 0)) →
      ((d : ℕ) → d ≢ b → has middle d ≡ has set d) →
      ((has more c ≡ true) ↔ (limit_by f t a c ≡ pos 0)) →
      ((d : ℕ) → d ≢ c → has more d ≡ has middle d) → IsMended f t a jumps (n + 1) more
  mended_more t a jumps n step b c set middle more old step_is b_low c_low at_b at_c told_b rest_b
      told_c rest_c = record {
        each = λ d free. elim (cases_eq d c) [
          | inl is ↦ subst (λ k. Tells (has more k) k f.order (limit_by f t a k ≡ pos 0)) (sym is) (
            λ yes'. (c_low, told_c.0 yes'),
            λ (low, p). told_c.1 p,
          )
          | inr other ↦ subst (λ x. Tells x d f.order (limit_by f t a d ≡ pos 0))
              (sym (rest_c d other)) (elim (cases_eq d b) [
                | inl is ↦
                    subst (λ k. Tells (has middle k) k f.order (limit_by f t a k ≡ pos 0)) (sym is) (
                      λ yes'. (b_low, told_b.0 yes'),
                      λ (low, p). told_b.1 p,
                    )
                | inr neither ↦ subst (λ x. Tells x d f.order (limit_by f t a d ≡ pos 0))
                    (sym (rest_b d neither)) (old.each d (λ m most below touched.
                    elim (cases_eq m n) [
                      | inl e ↦ untouched d other neither
                          (subst (λ k. IsTouched f t a (get_or jumps k 0) d) e touched)
                      | inr e ↦ free m (omega (arith, e, most)) below touched
                    ]))
              ])
        ];
      }
    where
      untouched : (d : ℕ) → d ≢ c → d ≢ b → IsTouched f t a (get_or jumps n 0) d → ⊥
      untouched d other neither (low, inl corner) = neither (at_b d low corner)
      untouched d other neither (low, inr sum) =
          let turned : d + step ≡ (a + t.right + t.above) % f.order + d =
          omega (arith, step_is) in
          let whole : a + t.right + t.above + d ≡ a + t.right + (d + t.above) = omega arith in
          other (at_c d low (ap (λ k. k % f.order) turned
          ∙ mod-add-mod (a + t.right + t.above) f.order d ∙ ap (λ k. k % f.order) whole ∙ sum))
