-- Tight pairs of a function as rows of sets, and those of a function whose values at opposite
-- points add up to 1 by their sums.
use Rattle.std.proofs.Common.{◌≡◌, ℕ, ◌+◌, ◌-◌, ◌%◌, ◌<◌, ◌↔◌, ℤ, pos, ◌+ℤ◌, IsTrue, List, [], ◌∷◌, ◌++◌, length, refl, sym, ap, ◌∙◌, subst, inl, inr, arith}
use Rattle.std.proofs.Math.Nat.{mod-mod, mod-lt, mod-eq_of_lt, mod-eq-sub-mod}
use Rattle.std.proofs.lemmas.Bool.{cases_lt}
use Rattle.std.proofs.lemmas.Int.{ints}
use Rattle.gj_loops.specs.IndexSets.{has}
use Rattle.gj_loops.specs.declared.index_set.IndexSet.{IndexSet}
use Rattle.gj_shape.specs.Additive.{IsTight}
use Rattle.gj_shape.specs.FunctionData.{FunctionData, IsWithinBounds, at}
use Rattle.gj_faces.proofs.Periods.{tight_is_periodic}
use Rattle.gj_shape.proofs.AtLemmas.{at_same_remainder, at_wrapped}
use Rattle.gj_lemmas.proofs.Choices.{same_tests}
use Rattle.gj_cover.specs.Mirrored.{AreMirrored}
use Rattle.gj_cover.specs.SetRows.{in_row, AreRound, AreColumns}
use Rattle.gj_cover.specs.Sides.{AreOwnSides}
use Rattle.gj_cover.specs.Table.{is_tight_in, IsTightInTable, TellsTight}
use Rattle.gj_cover.specs.declared.table.Table.{Table}
use Rattle.gj_cover.proofs.SetRows.{row_before, row_pushed}

-- ---- opposite points

tight_turned : (f : FunctionData) (a b : ℕ) → IsTight f a b → IsTight f b a
tight_turned f a b h =
    let order : a + b ≡ b + a = omega arith in
    let sums : at f.value b +ℤ at f.value a ≡ at f.value a +ℤ at f.value b = omega (arith, ints) in
    sums ∙ h ∙ ap (at f.value) order

once_less : (q x : ℕ) → (x + q) % q ≡ x % q
once_less q x =
    let less : x + q - q ≡ x = omega arith in
    mod-eq-sub-mod {n = x + q} {m = q} (omega arith) ∙ ap (λ n. n % q) less

-- the point opposite to a sum, and its first index, make the point opposite to its second
opposite : (q k a b : ℕ) → a < q → b < q → (k + (q - (a + b) % q) + a) % q ≡ (k + (q - b)) % q
opposite q k a b a_below b_below = elim (cases_lt (a + b) q) [
  | inl low ↦
      let s = mod-eq_of_lt low in
      let sum : k + (q - (a + b) % q) + a ≡ k + (q - b) = omega (arith, s) in
      ap (λ n. n % q) sum
  | inr high ↦
      let below : a + b - q < q = omega arith in
      let s : (a + b) % q ≡ a + b - q = mod-eq-sub-mod high ∙ mod-eq_of_lt below in
      let sum : k + (q - (a + b) % q) + a ≡ k + (q - b) + q = omega (arith, s) in
      ap (λ n. n % q) sum ∙ once_less q (k + (q - b))
]

-- the values at the points
values : (a b s oa ob k : ℤ) → s +ℤ oa ≡ k → b +ℤ ob ≡ k → (oa +ℤ a ≡ ob) ↔ (a +ℤ b ≡ s)
values a b s oa ob k e g = (λ h. omega (arith, ints), λ h. omega (arith, ints))

pub by_sum : (f : FunctionData) → IsWithinBounds f → AreMirrored f → (a b : ℕ) → a < f.order →
    b < f.order →
    IsTight f (f.place + (f.order - (a + b) % f.order)) a ↔ IsTight f a b
by_sum f w m a b a_below b_below =
    let q = f.order in
    let k = f.place in
    let s = (a + b) % q in
    let some : 0 < q = omega arith in
    let s_below = mod-lt (a + b) some in
    let value = at_wrapped f.value (a + b) s q w.value_length refl in
    let far : at f.value (k + (q - s) + a) ≡ at f.value (k + (q - b)) =
    at_same_remainder f.value (k + (q - s) + a) (k + (q - b))
    (subst (λ n. (k + (q - s) + a) % n ≡ (k + (q - b)) % n) (sym w.value_length)
    (opposite q k a b a_below b_below)) in
    let told = values (at f.value a) (at f.value b) (at f.value s) (at f.value (k + (q - s)))
    (at f.value (k + (q - b))) (pos f.scale)
    (m.each s s_below) (m.each b b_below) in
    (λ h. told.0 (h ∙ far) ∙ value, λ h. told.1 (h ∙ sym value) ∙ sym far)

-- ---- rows

-- one row more
pub row_more : (T : ℕ → ℕ → Type 0) (q n : ℕ) (rows : List IndexSet) (row : IndexSet) →
    length rows ≡ n →
    ((b : ℕ) → b < q → IsTrue (has row b) ↔ T n b) →
    ((a b : ℕ) → a < n → b < q → IsTrue (in_row rows a b) ↔ T a b) →
    (a b : ℕ) → a < n + 1 → b < q → IsTrue (in_row (rows ++ row ∷ []) a b) ↔ T a b
row_more T q n rows row len last before a b below b_below = elim (cases_lt a n) [
  | inl low ↦
      let is = row_before rows a b row (let in' : a < length rows = omega arith in in') in
      let at' = before a b low b_below in
      (λ h. at'.0 (sym is ∙ h), λ h. is ∙ at'.1 h)
  | inr high ↦
      let it : a ≡ n = omega arith in
      let is = row_pushed rows a b row (len ∙ sym it) in
      let at' = subst (λ k. IsTrue (has row b) ↔ T k b) (sym it) (last b b_below) in
      (λ h. at'.0 (sym is ∙ h), λ h. is ∙ at'.1 h)
]

-- the rows have the tight pairs
abbrev pub HavePairs : FunctionData → List IndexSet → Type 0
HavePairs f rows = (a b : ℕ) → a < f.order → b < f.order → IsTrue (in_row rows a b) ↔ IsTight f a b

columns_of : (f : FunctionData) (rows : List IndexSet) → HavePairs f rows →
    AreColumns f.order rows rows
columns_of f rows r a b a_below b_below =
    same_tests (in_row rows b a) (in_row rows a b)
    (λ h. (r a b a_below b_below).1 (tight_turned f b a ((r b a b_below a_below).0 h)))
    (λ h. (r b a b_below a_below).1 (tight_turned f a b ((r a b a_below b_below).0 h)))

-- the rows themselves have the pairs turned around and those with each sum
pub own_sides : (f : FunctionData) (rows : List IndexSet) → IsWithinBounds f → AreMirrored f →
    HavePairs f rows → AreRound f.order rows →
    AreOwnSides f.order rows f.place
own_sides f rows w m r round = record {
  place_below = w.place_high;
  columns_are = columns_of f rows r;
  round = round;
  sums_are = λ a b a_below b_below.
      let q = f.order in
      let far = f.place + (q - (a + b) % q) in
      let told = by_sum f w m a b a_below b_below in
      let there = r (far % q) a (mod-lt far {m = q} (omega arith)) a_below in
      let here = r a b a_below b_below in
      same_tests (in_row rows (far % q) a) (in_row rows a b)
      (λ h. here.1 (told.0
      (tight_is_periodic f w (far % q) a far a (mod-mod far q) refl (there.0 h))))
      (λ h. there.1 (tight_is_periodic f w far a (far % q) a (sym (mod-mod far q)) refl
      (told.1 (here.0 h))));
}

-- the table of the rows
pub tells_pairs : (f : FunctionData) (t : Table) (rows : List IndexSet) → IsWithinBounds f →
    t.order ≡ f.order →
    t.rows.items ≡ rows → HavePairs f rows → TellsTight t (IsTight f)
unfolding IsTightInTable is_tight_in
tells_pairs f t rows w order items h i j =
    let q = f.order in
    let some : 0 < q = let two = w.order_low in omega arith in
    let at' = h (i % q) (j % q) (mod-lt i some) (mod-lt j some) in
    let read : in_row t.rows.items (i % t.order) (j % t.order) ≡ in_row rows (i % q) (j % q) =
    ap (λ n. in_row t.rows.items (i % n) (j % n)) order
    ∙ ap (λ l. in_row l (i % q) (j % q)) items in (
      λ e. tight_is_periodic f w (i % q) (j % q) i j (mod-mod i q) (mod-mod j q)
          (at'.0 (sym read ∙ e)),
      λ e. read ∙ at'.1 (tight_is_periodic f w i j (i % q) (j % q) (sym (mod-mod i q))
          (sym (mod-mod j q)) e),
    )
