-- The demands on the groups of a claim that a function that may jump is extreme, by those on the
-- groups alone.
use Rattle.std.proofs.Common.{◌≡◌, ◌↔◌, ℕ, ◌+◌, ◌-◌, ◌%◌, ◌<◌, ℤ, ◌+ℤ◌, List, [], ◌∷◌, ◌++◌, All, length, map, get_or, refl, sym, ap, subst, subst₂, ◌∙◌, append_assoc}
use Rattle.std.specs.List.{range_with_len}
use Rattle.std.proofs.Math.Nat.{mod-lt}
use Rattle.std.proofs.lemmas.List.Elements.{All-nil, All-cons, All-append}
use Rattle.gj_lemmas.specs.FirstThatFails.{IsFirstFailing}
use Rattle.gj_lemmas.proofs.Lists.{All-front}
use Rattle.gj_shape.specs.Cover.{components_in}
use Rattle.gj_shape.specs.Elimination.{KeptRow}
use Rattle.gj_shape.specs.FunctionData.{FunctionData}
use Rattle.gj_shape.specs.declared.extremality.CoverLine.{CoverLine}
use Rattle.gj_limit_system.specs.LimitRows.{row_value}
use Rattle.gj_limit_system.specs.Unknowns.{right_column, slope_column, columns_for, value_from, interval_before, limits_from}
use Rattle.gj_limit_system.specs.declared.limit_row.LimitRow.{LimitRow}
use Rattle.gj_proof.specs.declared.numbers.Numbers.{Numbers}
use Rattle.gj_proof.specs.PresentRows.{arithmetic_of, AreNumbersOf, entries_or_none}
use Rattle.gj_proof.specs.ProofText.{modulus_lines}
use Rattle.gj_proof.specs.Rules.{Demand, AtIndex, MeetsReduce, MeetsSize, MeetsPivotBy, step_demands_by, line_of_demand}
use Rattle.gj_proof.specs.Rules.Demand.{row, reduce, size, pivot}
use Rattle.gj_check_groups.specs.GroupOutcomes.{stepped}
use Rattle.gj_check_groups.specs.Groups.{IsRuleOf}
use Rattle.gj_check_groups.specs.declared.failure.GroupFailure.{GroupFailure}
use Rattle.gj_check_groups.proofs.ClaimGroups.{Agree, IsNumbering, IsOnGroups, steps_on_groups}
use Rattle.gj_limit_proof.specs.declared.claim.LimitClaim.TheVariants.{Extreme}
use Rattle.gj_limit_proof.specs.declared.claim.LimitPivotRow.{LimitPivotRow}
use Rattle.gj_limit_proof.specs.LimitRowsKept.{unit_at, begun_row, row_kept_by, rows_behind_by, rows_before_by}
use Rattle.gj_limit_proof.specs.LimitRules.{IfGroupOf, group_demands_by, DemandHolds}
use Rattle.gj_limit_proof.specs.LimitText.{HasNumber}
use Rattle.gj_limit_check_groups.specs.LimitGroups.{LimitGroupHolds, IsFirstLimitGroupFailure}
use Rattle.gj_limit_check.proofs.PlainClaims.{number_in_groups}

-- ---- numbers of components that agree below the order

limits_agree : (q : ℕ) (one other : ℕ → ℕ) (x : ℕ → ℤ) → Agree q one other → 0 < q →
    limits_from q one x ≡ limits_from q other x
limits_agree q one other x same some =
    λ k. record {
      left = λ i.
          x (right_column q (interval_before q i))
          +ℤ x (slope_column q (same (interval_before q i) (mod-lt (i + (q - 1)) some) k));
      value = λ i. value_from q x (i % q);
      right = λ i. x (right_column q (i % q));
    }

-- the row that a group begins with
begun_agrees : (numbers : Numbers) (f : FunctionData) (one other : ℕ → ℕ) (n : ℕ)
    (name : LimitRow) → Agree f.order one other → 0 < f.order →
    begun_row (arithmetic_of numbers) f one n name
    ≡ begun_row (arithmetic_of numbers) f other n name
begun_agrees numbers f one other n name same some =
    λ k. (arithmetic_of numbers).read
    (map (λ c. row_value f.place (limits_agree f.order one other (unit_at c) same some k) name)
    (range_with_len 0 n))

-- the rows that groups keep
kept_agree : (numbers : Numbers) (f : FunctionData) (one other : ℕ → ℕ) (n : ℕ)
    (kept : List KeptRow) (rows : List LimitPivotRow) →
    Agree f.order one other → 0 < f.order →
    rows_behind_by (arithmetic_of numbers) f one n kept rows
    ≡ rows_behind_by (arithmetic_of numbers) f other n kept rows
kept_agree numbers f one other n kept [] same some = refl
kept_agree numbers f one other n kept (g ∷ rows) same some =
    let first : row_kept_by (arithmetic_of numbers) f one n kept g
    ≡ row_kept_by (arithmetic_of numbers) f other n kept g =
    ap (λ begun. let k : KeptRow = record {
      number = length kept;
      reduce = g.reduce;
      pivot = g.pivot;
      entries = entries_or_none
          ((arithmetic_of numbers).keep (stepped numbers kept begun g.reduce) g.pivot);
    } in k) (begun_agrees numbers f one other n g.name same some) in
    ap (λ k. rows_behind_by (arithmetic_of numbers) f one n (kept ++ k ∷ []) rows) first
    ∙ kept_agree numbers f one other n
    (kept ++ row_kept_by (arithmetic_of numbers) f other n kept g ∷ []) rows same some

-- ---- demand by demand

on_groups : (numbers : Numbers) (g : ℕ) (rows : List LimitPivotRow) →
    All IsOnGroups (group_demands_by numbers g rows)
on_groups numbers g [] = All-nil IsOnGroups
on_groups numbers g (one ∷ rows) =
    let steps = step_demands_by numbers g 0 one.reduce in
    let more = group_demands_by numbers (g + 1) rows in
    All-cons IsOnGroups (row g) (steps ++ pivot g ∷ more) tt
    (All-append IsOnGroups steps (pivot g ∷ more) (steps_on_groups numbers g 0 one.reduce)
    (All-cons IsOnGroups (pivot g) more tt (on_groups numbers (g + 1) rows)))

-- the first demand on the groups of a claim that fails, its rule, and the number of its line
pub record FirstGroupFails (numbers : Numbers) (f : FunctionData) (lines : List CoverLine)
    (rows : List LimitPivotRow) (failure : GroupFailure) : Type 0 where
  pub before : List Demand
  pub demand : Demand
  pub first : IsFirstFailing (All (DemandHolds (Extreme numbers f lines rows)))
      (group_demands_by numbers 0 rows) before demand
  pub rule_is : IsRuleOf failure.rule demand
  pub number : HasNumber (Extreme numbers f lines rows) (line_of_demand demand)
      (f.order + length lines + 5 + length (modulus_lines numbers) + failure.below)

module _ (numbers : Numbers) (f : FunctionData) (lines : List CoverLine) (component : ℕ → ℕ)
    (count : ℕ) (rows : List LimitPivotRow)
    (are : IsNumbering f lines component count) (some : 0 < f.order) where
  abbrev n : ℕ
  n = columns_for f.order count

  -- the demands of the claim
  abbrev C : Demand → Type 0
  C = DemandHolds (Extreme numbers f lines rows)

  -- those on the groups alone
  abbrev H : Demand → Type 0
  H = LimitGroupHolds numbers f component n rows

  -- what the claim has by any numbers
  abbrev InClaim : ℕ → (ℕ → List KeptRow → List ℤ → LimitPivotRow → Type 0) → Type 0
  InClaim g P =
      (other : ℕ → ℕ) → AreNumbersOf f lines other →
      IfGroupOf numbers f other (columns_for f.order (components_in lines)) rows g
      (P (columns_for f.order (components_in lines)))

  to_claim : (g : ℕ) (P : ℕ → List KeptRow → List ℤ → LimitPivotRow → Type 0) →
      IfGroupOf numbers f component n rows g (P n) → InClaim g P
  to_claim g P h other others before one after place index =
      let same : Agree f.order component other = λ i low. sym (are.only other others i low) in
      subst (λ (k : ℕ). P (columns_for f.order k)
      (rows_before_by (arithmetic_of numbers) f other (columns_for f.order k) before)
      (begun_row (arithmetic_of numbers) f other (columns_for f.order k) one.name) one) are.count
      (subst₂ (λ (ks : List KeptRow) (xs : List ℤ). P n ks xs one)
      (kept_agree numbers f component other n [] before same some)
      (begun_agrees numbers f component other n one.name same some)
      (h before one after place index))

  from_claim : (g : ℕ) (P : ℕ → List KeptRow → List ℤ → LimitPivotRow → Type 0) → InClaim g P →
      IfGroupOf numbers f component n rows g (P n)
  from_claim g P h before one after place index =
      subst (λ (k : ℕ). P (columns_for f.order k)
      (rows_before_by (arithmetic_of numbers) f component (columns_for f.order k) before)
      (begun_row (arithmetic_of numbers) f component (columns_for f.order k) one.name) one)
      (sym are.count)
      (h component are.numbers before one after place index)

  -- a rule on the r-th step
  abbrev OnStep : ℕ → (List KeptRow → List ℤ → ℕ → Type 0) → ℕ → List KeptRow → List ℤ →
      LimitPivotRow → Type 0
  OnStep r P m kept begun one =
      AtIndex one.reduce r (λ steps c. P kept (stepped numbers kept begun steps) c)

  -- the rule on the pivot
  abbrev OnPivot : ℕ → List KeptRow → List ℤ → LimitPivotRow → Type 0
  OnPivot m kept begun one =
      MeetsPivotBy numbers m kept (stepped numbers kept begun one.reduce) one.pivot

  -- a demand says the same of the claim and of its groups
  same_demand : (d : Demand) → IsOnGroups d → H d ↔ C d
  same_demand (row g) on = (λ h. h, λ h. h)
  same_demand (reduce g r) on =
      (to_claim g (OnStep r MeetsReduce), from_claim g (OnStep r MeetsReduce))
  same_demand (size g r) on = (to_claim g (OnStep r MeetsSize), from_claim g (OnStep r MeetsSize))
  same_demand (pivot g) on = (to_claim g OnPivot, from_claim g OnPivot)
  same_demand _ on = absurd on

  -- if all demands on the groups hold, they hold of the claim
  pub groups_hold : All H (group_demands_by numbers 0 rows) →
      All C (group_demands_by numbers 0 rows)
  groups_hold h k d low =
      (same_demand (get_or (group_demands_by numbers 0 rows) k d)
      (on_groups numbers 0 rows k d low)).0 (h k d low)

  pub groups_fail : (failure : GroupFailure) →
      IsFirstLimitGroupFailure numbers f component n rows failure →
      FirstGroupFails numbers f lines rows failure
  groups_fail failure h =
      let split : group_demands_by numbers 0 rows ≡ (h.before ++ h.demand ∷ []) ++ h.first.after =
      h.first.place ∙ sym (append_assoc h.before (h.demand ∷ []) h.first.after) in
      let on : All IsOnGroups (h.before ++ h.demand ∷ []) =
      All-front IsOnGroups (h.before ++ h.demand ∷ []) h.first.after
      (subst (All IsOnGroups) split (on_groups numbers 0 rows)) in
      let on_before = All-front IsOnGroups h.before (h.demand ∷ []) on in
      let first_line = f.order + length lines + 5 + length (modulus_lines numbers) in
      record {
        before = h.before;
        demand = h.demand;
        first = record {
          after = h.first.after;
          place = h.first.place;
          good = λ k d low. (same_demand (get_or h.before k d) (on_before k d low)).0
              (h.first.good k d low);
          bad = λ all. h.first.bad
              (λ k d low. (same_demand (get_or (h.before ++ h.demand ∷ []) k d) (on k d low)).1
              (all k d low));
        };
        rule_is = h.rule_is;
        number = subst₂ (HasNumber (Extreme numbers f lines rows)) h.line_is
            (ap (λ m. first_line + m) (sym h.below))
            (number_in_groups numbers f lines rows h.above h.line h.under h.place);
      }
