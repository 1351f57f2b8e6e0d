-- A problem and its multipliers have one problem on the grid, and a row has one row on the grid.
use Rattle.std.proofs.Common.{◌≡◌, ⊎_elim, ℕ, Bool, true, false, Option, Some, None, List, [], ◌∷◌, ◌++◌, length, All, refl, sym, ap, ap₂, subst, subst₂, ◌∙◌, arith}
use Rattle.std.proofs.lemmas.List.Elements.{All-weaker}
use Rattle.gj_frac.specs.declared.Frac.{Frac}
use Rattle.gj_fields.specs.Rational.{whole, rational}
use Rattle.gj_problem.specs.declared.problem.Column.{Column}
use Rattle.gj_problem.specs.declared.problem.Constraint.{Constraint}
use Rattle.gj_problem.specs.declared.problem.Inequality.{Inequality}
use Rattle.gj_problem.specs.declared.problem.Problem.{Problem}
use Rattle.gj_problem.specs.declared.pieces.Piece.{Piece}
use Rattle.gj_problem.specs.declared.problem.Sense.TheVariants.{AtLeast}
use Rattle.gj_problem.specs.RoundedCuts.{AreMoved, IsRoundedCut, IsFirstFreeEntry}
use Rattle.gj_problem.specs.Aggregates.{Weighted, weighted}
use Rattle.gj_problem.proofs.Failing.{true_at, same_first}
use Rattle.gj_problem.proofs.MadePieces.{made_one, none_from_made, zip_one}
use Rattle.gj_problem.proofs.OneMove.{one_below, one_above}
use Rattle.gj_problem.proofs.OneRow.{rational_injective, same_piece}
use Rattle.gj_problem.proofs.OneRounding.{one_rounded_cut, not_first_free, one_free_entry}
use Rattle.gj_problem.proofs.OneTerms.{one_inequality}
use Rattle.gj_relaxed.specs.declared.rows.RightMove.{RightMove}
use Rattle.gj_relaxed.specs.RelaxedProblems.{IsLowered, IsLifted, IsRelaxedColumn, IsOnGrid, side, IsSide, IsRelaxedSide, IsRelaxedConstraint, IsUnnamed, AreRelaxed, IsRelaxedProblem, IsFreeSide, IsFirstFreeSide}
use Rattle.gj_relaxed.specs.RelaxedRows.{IsGap, IsRelaxedRow}
use Rattle.gj_relaxed.proofs.LoosePieces.{same_multiple}
use Rattle.gj_relaxed.proofs.NarrowGaps.{one_move, one_raised_list}

-- ---- rows

one_gap : (columns : ℕ) (ps rs : List Piece) (right right' : Frac) (s t : Piece) →
    IsGap columns ps rs right right' s → IsGap columns ps rs right right' t →
    s ≡ t
one_gap columns ps rs right right' s t h k =
    let same = one_inequality columns s.inequality t.inequality h.terms k.terms
    (λ point. h.surplus point ∙ sym (k.surplus point)) in
    same_piece s t (h.is_whole ∙ sym k.is_whole) (h.entry ∙ sym k.entry)
    (ap (λ (q : Inequality). q.entries) same)
    (ap (λ (q : Inequality). rational q.right) same)

pub one_relaxed_row : (move : RightMove) (n columns : ℕ) (ps rs ts : List Piece)
    (right x y : Frac) → IsRelaxedRow move n columns ps right rs x →
    IsRelaxedRow move n columns ps right ts y → (rs ≡ ts) × (x ≡ y)
one_relaxed_row move n columns ps rs ts right x y h k =
    let raised = one_raised_list n ps h.raised k.raised h.raised_are k.raised_are in
    let rights : x ≡ y = one_move move n right x y h.right_is k.right_is in
    let there : IsGap columns ps h.raised right x k.gap =
    subst₂ (λ (us : List Piece) (z : Frac). IsGap columns ps us right z k.gap) (sym raised)
    (sym rights) k.gap_is in (
      h.relaxed_are ∙ ap₂ (λ (us : List Piece) (s : Piece). us ++ s ∷ []) raised
          (one_gap columns ps h.raised right x h.gap k.gap h.gap_is there)
          ∙ sym k.relaxed_are,
      rights,
    )

-- ---- columns

one_lowered : (n : ℕ) (b x y : Option Frac) → IsLowered n b x → IsLowered n b y → x ≡ y
one_lowered n None x y h k = h ∙ sym k
one_lowered n (Some b) x y h k =
    h.1 ∙ ap (λ (z : Frac). Some z)
    (rational_injective h.0 k.0
    (one_below n (rational b) (rational h.0) (rational k.0) h.2 k.2)) ∙ sym k.1

one_lifted : (n : ℕ) (b x y : Option Frac) → IsLifted n b x → IsLifted n b y → x ≡ y
one_lifted n None x y h k = h ∙ sym k
one_lifted n (Some b) x y h k =
    h.1 ∙ ap (λ (z : Frac). Some z)
    (rational_injective h.0 k.0
    (one_above n (rational b) (rational h.0) (rational k.0) h.2 k.2)) ∙ sym k.1

same_column : (c d : Column) → c.is_whole ≡ d.is_whole → c.lower ≡ d.lower → c.upper ≡ d.upper →
    c ≡ d
same_column c d e f g = λ i. record { is_whole = e i; lower = f i; upper = g i }

one_relaxed_column : (n : ℕ) (c d e : Column) → IsRelaxedColumn n c d → IsRelaxedColumn n c e →
    d ≡ e
one_relaxed_column n c d e h k = by_flag c.is_whole refl
  where
    by_flag : (b : Bool) → c.is_whole ≡ b → d ≡ e
    by_flag true flag = h.is_whole flag ∙ sym (k.is_whole flag)
    by_flag false flag =
        same_column d e (h.continuous flag ∙ sym (k.continuous flag))
        (one_lowered n c.lower d.lower e.lower (h.lower flag) (k.lower flag))
        (one_lifted n c.upper d.upper e.upper (h.upper flag) (k.upper flag))

-- ---- constraints

pub one_side : (w : Weighted) (q r : Inequality) → IsSide w q → IsSide w r → q ≡ r
one_side w = same_multiple (whole (side w)) w.constraint.entries w.constraint.right

one_relaxed_side : (p : Problem) (n : ℕ) (w v u : Weighted) → IsRelaxedSide p n w v →
    IsRelaxedSide p n w u → v ≡ u
one_relaxed_side p n w v u h k =
    let given : k.given ≡ h.given = one_side w k.given h.given k.given_is h.given_is in
    let rounded : h.rounded ≡ k.rounded =
    one_rounded_cut p n h.given h.rounded k.rounded h.rounded_is
    (subst (λ (q : Inequality). IsRoundedCut p n q k.rounded) given k.rounded_is) in
    let constraint : v.constraint ≡ u.constraint =
    h.constraint_is ∙ ap
    (λ (q : Inequality). record { entries = q.entries; sense = AtLeast; right = q.right })
    rounded ∙ sym k.constraint_is in
    let multiplier = rational_injective v.multiplier u.multiplier
    (h.multiplier_is ∙ sym k.multiplier_is) in
    λ i. record { multiplier = multiplier i; constraint = constraint i }

one_relaxed_constraint : (p : Problem) (n : ℕ) (w v u : Weighted) → IsRelaxedConstraint p n w v →
    IsRelaxedConstraint p n w u → v ≡ u
one_relaxed_constraint p n w v u h k =
    ⊎_elim
    (λ (a : IsOnGrid n w.constraint × (v ≡ w)).
    ⊎_elim (λ (b : IsOnGrid n w.constraint × (u ≡ w)). a.1 ∙ sym b.1)
    (λ (b : IsRelaxedSide p n w u). absurd (b.off_grid a.0)) k)
    (λ (a : IsRelaxedSide p n w v).
    ⊎_elim (λ (b : IsOnGrid n w.constraint × (u ≡ w)). absurd (a.off_grid b.0))
    (λ (b : IsRelaxedSide p n w u). one_relaxed_side p n w v u a b) k)
    h

-- ---- problems

same_weighted : (ms ks : List Frac) (cs ds : List Constraint) → length ms ≡ length cs →
    length ks ≡ length ds → weighted ms cs ≡ weighted ks ds →
    (ms ≡ ks) × (cs ≡ ds)
same_weighted [] [] [] [] h k e = (refl, refl)
same_weighted [] ks (c ∷ cs) ds h k e = absurd (omega arith)
same_weighted (m ∷ ms) ks [] ds h k e = absurd (omega arith)
same_weighted [] [] [] (d ∷ ds) h k e = absurd (omega arith)
same_weighted [] (l ∷ ks) [] [] h k e = absurd (omega arith)
same_weighted [] (l ∷ ks) [] (d ∷ ds) h k e = absurd (cc)
same_weighted (m ∷ ms) [] (c ∷ cs) [] h k e = absurd (cc)
same_weighted (m ∷ ms) [] (c ∷ cs) (d ∷ ds) h k e = absurd (omega arith)
same_weighted (m ∷ ms) (l ∷ ks) (c ∷ cs) [] h k e = absurd (omega arith)
same_weighted (m ∷ ms) (l ∷ ks) (c ∷ cs) (d ∷ ds) h k e =
    let first : ◌≡◌ {A = Weighted} (record { multiplier = m; constraint = c })
    (record { multiplier = l; constraint = d }) = cc in
    let tails : weighted ms cs ≡ weighted ks ds = cc in
    let rest = same_weighted ms ks cs ds (omega arith) (omega arith) tails in (
      ap₂ (λ (x : Frac) (xs : List Frac). x ∷ xs) (ap (λ (w : Weighted). w.multiplier) first)
          rest.0,
      ap₂ (λ (x : Constraint) (xs : List Constraint). x ∷ xs)
          (ap (λ (w : Weighted). w.constraint) first) rest.1,
    )

pub one_relaxed_problem : (n : ℕ) (p p' p'' : Problem) (ms ms' ms'' : List Frac) →
    IsRelaxedProblem n p ms p' ms' → IsRelaxedProblem n p ms p'' ms'' →
    (p' ≡ p'') × (ms' ≡ ms'')
one_relaxed_problem n p p' p'' ms ms' ms'' h k =
    let columns = zip_one (IsRelaxedColumn n) (one_relaxed_column n) p.columns p'.columns
    p''.columns h.columns k.columns in
    let made =
    made_one IsUnnamed (IsRelaxedConstraint p n) (one_relaxed_constraint p n)
    (weighted ms p.constraints) (weighted ms' p'.constraints)
    (weighted ms'' p''.constraints) h.constraints k.constraints in
    let both = same_weighted ms' ms'' p'.constraints p''.constraints h.count k.count made in (
      (λ i. record { columns = columns i; constraints = both.1 i }),
      both.0,
    )

-- ---- free columns

-- no column keeps the constraint from the grid
abbrev pub IsHeldSide : Problem → ℕ → Weighted → Type 0
IsHeldSide p n w = (j : ℕ) → IsFreeSide p n w j → ⊥

not_free : (p : Problem) (n : ℕ) (w v : Weighted) → IsRelaxedConstraint p n w v → IsHeldSide p n w
not_free p n w v h j free =
    ⊎_elim (λ (a : IsOnGrid n w.constraint × (v ≡ w)). free.off_grid a.0)
    (λ (a : IsRelaxedSide p n w v).
    let moved = subst (λ (q : Inequality). AreMoved p n q.entries a.rounded_is.entries
    a.rounded_is.shifts)
    (one_side w a.given free.given a.given_is free.given_is) a.rounded_is.moved in
    not_first_free p n free.given.entries a.rounded_is.entries a.rounded_is.shifts j moved
    free.free)
    h

-- no constraint that is relaxed, or is not in the sum, is kept from the grid
pub none_free_sides : (p : Problem) (n : ℕ) (ws vs : List Weighted) → AreRelaxed p n ws vs →
    All (IsHeldSide p n) ws
none_free_sides p n ws vs made =
    none_from_made IsUnnamed (IsRelaxedConstraint p n) (IsHeldSide p n) ws vs made
    (λ w unnamed j free. free.named unnamed)
    (λ w v made. not_free p n w v made)

-- a problem on the grid has no constraint that a column keeps from it
pub no_free_side : (n : ℕ) (p p' : Problem) (ms ms' : List Frac) (j : ℕ) →
    IsRelaxedProblem n p ms p' ms' → IsFirstFreeSide n p ms j → ⊥
no_free_side n p p' ms ms' j h first =
    true_at (IsHeldSide p n) (weighted ms p.constraints) first.before first.after first.next
    first.place
    (none_free_sides p n (weighted ms p.constraints) (weighted ms' p'.constraints) h.constraints) j
    first.free

-- the first that one keeps from it has one such column
pub one_free_side : (n : ℕ) (p : Problem) (ms : List Frac) (i j : ℕ) → IsFirstFreeSide n p ms i →
    IsFirstFreeSide n p ms j → i ≡ j
one_free_side n p ms i j h k =
    let IsKept : Weighted → Type 0 = λ w. (l : ℕ) × IsFreeSide p n w l in
    let none : (ws vs : List Weighted) → AreRelaxed p n ws vs → All (λ w. IsKept w → ⊥) ws =
    λ ws vs made. All-weaker (IsHeldSide p n) (λ w. IsKept w → ⊥)
    (λ w held kept. held kept.0 kept.1) ws (none_free_sides p n ws vs made) in
    let next : h.next ≡ k.next =
    same_first IsKept h.before k.before h.after k.after h.next k.next (sym h.place ∙ k.place)
    (none h.before h.made h.made_are)
    (none k.before k.made k.made_are) (i, h.free) (j, k.free) in
    let there : IsFreeSide p n k.next i =
    subst (λ (w : Weighted). IsFreeSide p n w i) next h.free in
    let given : there.given ≡ k.free.given =
    one_side k.next there.given k.free.given there.given_is k.free.given_is in
    one_free_entry p n k.free.given.entries i j
    (subst (λ (q : Inequality). IsFirstFreeEntry p n q.entries i) given there.free) k.free.free
