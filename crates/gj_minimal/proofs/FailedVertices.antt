-- From rows of slacks at grid points to the tests there.
use Rattle.std.proofs.Common.{◌≡◌, ◌⊎◌, inl, inr, ℕ, ◌+◌, ◌-◌, ◌*◌, ◌%◌, ◌<◌, ℤ, pos, ◌+ℤ◌, ◌≤ℤ◌, lit<, ap, sym, subst, ◌∙◌, ⊎_elim, arith}
use Rattle.std.proofs.Math.Nat.{add-mod_right}
use Rattle.std.proofs.lemmas.Int.{ints}
use Rattle.std.proofs.lemmas.Bool.{cases_lt}
use Rattle.gj_shape.specs.FunctionData.{FunctionData, IsWithinBounds, at}
use Rattle.gj_shape.specs.declared.faces.Face.{Face}
use Rattle.gj_shape.specs.declared.faces.FaceKind.TheVariants.{Vertex}
use Rattle.gj_theory.specs.EarlierTests.{PassesVertex, PassesSymmetry}
use Rattle.gj_shape.specs.Faces.{slack_from}
use Rattle.gj_theory.proofs.Everywhere.{symmetric_everywhere}
use Rattle.gj_theory.proofs.Lanes.{mirrored_vertex}
use Rattle.gj_minimal.specs.declared.failures.Failure.TheVariants as failure
use Rattle.gj_minimal.specs.FirstFailure.{IsFirstFailingIndex, HoldsBelow}
use Rattle.gj_minimal.specs.Failures.{FailsFirst, AddUpToPlace, PassesAhead, PassesWithSum, PassesVertexRow}

-- ---- of three indices that add up to the place the two least

third_index : (f : FunctionData) (a b : ℕ) → f.place < f.order → a < f.order → b < f.order →
    (c : ℕ) × (c < f.order) × AddUpToPlace f a b c
third_index f a b place_below a_below b_below = elim (cases_lt f.place (a + b)) [
  | inr low ↦ (f.place - (a + b), omega arith, inl (omega arith))
  | inl above ↦ elim (cases_lt (f.place + f.order) (a + b)) [
    | inr low ↦ (f.place + f.order - (a + b), omega arith, inr (inl (omega arith)))
    | inl high ↦ (f.place + 2 * f.order - (a + b), omega arith, inr (inr (omega arith)))
  ]
]

-- in another order
turned_total : (f : FunctionData) (a b c : ℕ) → AddUpToPlace f a b c → AddUpToPlace f a c b
turned_total f a b c total =
    let turned : a + b + c ≡ a + c + b = omega arith in
    subst (λ x. (x ≡ f.place) ⊎ ((x ≡ f.place + f.order) ⊎ (x ≡ f.place + 2 * f.order))) turned
    total

-- the values at the sum of two of them and at the third add up to 1
symmetric_sum : (f : FunctionData) (a b c : ℕ) → IsWithinBounds f → PassesSymmetry f →
    AddUpToPlace f a b c →
    at f.value (a + b) +ℤ at f.value c ≡ pos f.scale
symmetric_sum f a b c limits symmetry total =
    let n = f.order in
    let some : 0 < f.order = let low = limits.order_low in omega arith in
    symmetric_everywhere f.value n f.place f.scale limits.value_length some
    symmetry.mirrors.symmetric (a + b) c
    (elim total [
      | inl e ↦ ap (λ x. x % n) e
      | inr other ↦ elim other [
        | inl e ↦ ap (λ x. x % n) e ∙ add-mod_right f.place n
        | inr e ↦
            let twice : f.place + 2 * f.order ≡ f.place + f.order + f.order = omega arith in
            ap (λ x. x % n) (e ∙ twice) ∙ add-mod_right (f.place + n) n ∙ add-mod_right f.place n
      ]
    ])

-- so the slack is the sum of the three values less 1, whichever two are taken
turned_vertex : (f : FunctionData) (a b c : ℕ) → IsWithinBounds f → PassesSymmetry f →
    AddUpToPlace f a b c →
    PassesVertex f a b → PassesVertex f a c
turned_vertex f a b c limits symmetry total h =
    turned (at f.value a) (at f.value b) (at f.value c) (at f.value (a + b)) (at f.value (a + c))
    (pos f.scale)
    (symmetric_sum f a b c limits symmetry total)
    (symmetric_sum f a c b limits symmetry (turned_total f a b c total)) h
  where
    turned : (x y z s t one : ℤ) → s +ℤ z ≡ one → t +ℤ y ≡ one → pos 0 ≤ℤ slack_from x y s →
        pos 0 ≤ℤ slack_from x z t
    turned x y z s t one first second h = omega (arith, ints)

-- a row passes if the pairs ahead do, and before them as the earlier rows do
pub row_from_ahead : (f : FunctionData) (a : ℕ) → IsWithinBounds f → PassesSymmetry f →
    a < f.order →
    HoldsBelow (PassesVertexRow f) a → PassesAhead f a → PassesVertexRow f a
row_from_ahead f a limits symmetry below rows ahead b b_below =
    of_third (third_index f a b limits.place_high below b_below)
  where
    of_third : (c : ℕ) × (c < f.order) × AddUpToPlace f a b c → PassesVertex f a b
    of_third (c, c_below, total) =
        let other = turned_total f a b c total in
        elim (cases_lt b a) [
          | inl before ↦ mirrored_vertex f b a (rows b before a below)
          | inr ab ↦ elim (cases_lt c a) [
            | inl before ↦
                turned_vertex f a c b limits symmetry other
                (mirrored_vertex f c a (rows c before a below))
            | inr ac ↦ elim (cases_lt c b) [
              | inl cb ↦ turned_vertex f a c b limits symmetry other
                  (ahead c b ac (omega arith) b_below other)
              | inr bc ↦ ahead b c ab bc c_below total
            ]
          ]
        ]

-- the pairs ahead, by the sum of the other two indices
pub ahead_by_sums : (f : FunctionData) (a rest : ℕ) → rest < f.order →
    (a + rest ≡ f.place) ⊎ (a + rest ≡ f.place + f.order) → PassesWithSum f a rest →
    PassesWithSum f a (rest + f.order) →
    PassesAhead f a
ahead_by_sums f a rest below rest_is once again b c ab bc c_below total =
    ⊎_elim (λ e. once b c ab bc c_below e) (λ e. again b c ab bc c_below e)
    (elim rest_is [
      | inl low ↦ elim total [
        | inl e ↦ inl (omega arith)
        | inr other ↦ elim other [
          | inl e ↦ inr (omega arith)
          | inr e ↦ absurd (omega arith)
        ]
      ]
      | inr high ↦ elim total [
        | inl e ↦ absurd (omega arith)
        | inr other ↦ elim other [
          | inl e ↦ inl (omega arith)
          | inr e ↦ inr (omega arith)
        ]
      ]
    ])

-- the first negative slack, row by row, is the first failed test
pub vertex_fails : (f : FunctionData) (a b : ℕ) (face : Face) → PassesSymmetry f →
    face ≡ record { kind = Vertex; a = a; b = b } → a < f.order → HoldsBelow (PassesVertexRow f) a →
    IsFirstFailingIndex (PassesVertex f a) f.order b → FailsFirst f (failure.Corner face 0)
vertex_fails f a b face symmetry is below rows found =
    subst (λ (g : Face). FailsFirst f (failure.Corner g 0)) (sym is) (record {
      test = (below, found.within, lit< tt);
      before = (
        symmetry,
        record {
          rows = λ i j i_below j_below. rows i i_below j j_below;
          row =
              found.before;
        },
      );
      fails = found.fails;
    })
