use Rattle.std.proofs.Common.{◌≡◌, ◌↔◌, inl, inr, ℕ, ◌<◌, ◌≤◌, false, IsTrue, subst, sym, ◌∙◌, arith}
use Rattle.std.proofs.lemmas.Bool.{cases_lt, true≢false}
use Rattle.gj_loops.specs.IndexSets.{has}
use Rattle.gj_loops.specs.declared.index_set.IndexSet.{IndexSet}
use Rattle.gj_shape.specs.Additive.{IsTight}
use Rattle.gj_shape.specs.FunctionData.{FunctionData}
use Rattle.gj_faces.specs.Rows.{TellsRow}
use Rattle.gj_faces.specs.RunsBefore.{AreRunsBefore}
use Rattle.gj_faces.specs.TightPairs.{IsTightIn, AreTightPairsOf}
use Rattle.gj_faces.specs.declared.tight_pairs.TightPairs.{TightPairs}
use Rattle.gj_faces.proofs.RunSteps.{all_rows}
use Rattle.gj_faces.proofs.Periods.{tight_is_periodic}
use Rattle.gj_faces.proofs.tight_runs.runs.Goals as goal

-- the row of an index as the tight pairs give it
row_told : (f : FunctionData) (pairs : TightPairs) (a : ℕ) (row : IndexSet) →
    AreTightPairsOf f pairs →
    ((b : ℕ) → b < pairs.order → IsTrue (has row b) ↔ IsTightIn pairs a b) →
    ((b : ℕ) → pairs.order ≤ b → has row b ≡ false) →
    TellsRow f a row
row_told f pairs a row h tells within b =
    let order = h.order in
    elim (cases_lt b pairs.order) [
      | inl below ↦ (
        λ yes. (omega arith, (h.tell a b).0 ((tells b below).0 yes)),
        λ pair.
            (tells b below).1 ((h.tell a b).1 pair.1),
      )
      | inr past ↦ (
        λ yes. absurd (true≢false (sym yes ∙ within b past)),
        λ pair. let below =
            pair.0 in absurd (omega arith),
      )
    ]

pub push_row-requires-clause-row : goal.push_row-requires-clause-row
push_row-requires-clause-row c =
    row_told c.args.shape.now c.in_ok-pairs.pairs c.loop-a.a c.row.result.now c.in_ok-pairs.ensures
    c.row.ensures.tells c.row.ensures.within

pub returns : goal.returns
returns c =
    let f = c.args.shape.now in
    let limits = c.order-a-end.ensures.limits in
    let e : c.loop-a.a ≡ c.args.shape.now.order = omega arith in
    all_rows f.order (IsTight f) c.loop-a.runs.items (omega arith) (tight_is_periodic f limits)
    (subst (λ a. AreRunsBefore f.order (IsTight f) a 0 c.loop-a.runs.items) e c.loop-a.invariant)
