-- Rows whose indices are turned, row by row, and rows with the indices turned around.
use Rattle.std.proofs.Common.{◌≡◌, ◌≢◌, ℕ, ◌+◌, ◌%◌, ◌<◌, ◌≤◌, ◌&&◌, ◌||◌, ltb, eqb, Bool, true, false, List, [], ◌∷◌, ◌++◌, length, get_or, refl, sym, ap, ◌∙◌, inl, inr, arith}
use Rattle.std.proofs.Math.Bool.{or-false}
use Rattle.std.proofs.Math.ListN.{set}
use Rattle.std.proofs.Math.Nat.{mod-lt}
use Rattle.std.proofs.lemmas.Bool.{cases_lt, lt-ltb, le-ltb}
use Rattle.std.proofs.lemmas.Bool.Decides.{eqb_tells}
use Rattle.gj_loops.proofs.Bits.{and_all}
use Rattle.gj_loops.specs.IndexSets.{has, IsFirst}
use Rattle.gj_loops.specs.declared.index_set.IndexSet.{IndexSet}
use Rattle.gj_cover.specs.SetRows.{in_row, AreColumns, AreFirsts, AreSeconds}
use Rattle.gj_cover.proofs.SetRows.{row_has, row_before, row_pushed, row_written, row_stays}
use Rattle.gj_cover.proofs.Edges.{one_step}
use Rattle.gj_cover.proofs.Turns.{place_of, turned_place}

pub one_more_turned : (rows turned : List IndexSet) (row new : IndexSet) (n : ℕ) →
    length turned ≡ n → n < length rows →
    row ≡ get_or rows n row →
    ((s : ℕ) → has new s ≡ (ltb s (length rows) && has row (place_of (length rows) n s))) →
    ((a s : ℕ) → a < n → s < length rows →
    in_row turned a s ≡ in_row rows a (place_of (length rows) a s)) →
    (a s : ℕ) → a < n + 1 → s < length rows →
    in_row (turned ++ new ∷ []) a s ≡ in_row rows a (place_of (length rows) a s)
one_more_turned rows turned row new n len within read is before a s below s_below =
    elim (eqb_tells a n) [
      | inl (_, same) ↦
          let place = place_of (length rows) n s in
          row_pushed turned a s new (len ∙ sym same) ∙ is s
          ∙ ap (λ b. b && has row place) (lt-ltb s (length rows) s_below)
          ∙ sym (row_has rows n place row within read)
          ∙ ap (λ k. in_row rows k (place_of (length rows) k s)) (sym same)
      | inr (_, other) ↦
          row_before turned a s new (let low : a < length turned = omega arith in low)
          ∙ before a s (omega arith) s_below
    ]

-- ---- one index is added to the columns of a row

unchanged : (x b y : Bool) → y ≡ false → x ≡ (x || (b && y))
unchanged true b y e = refl
unchanged false true y e = sym e
unchanged false false y e = refl

-- the columns below `from` have it, the others are as before
pub added_one : (old now : List IndexSet) (row column new : IndexSet) (a from n : ℕ) →
    length now ≡ length old →
    IsFirst row from n → n < length now → column ≡ get_or now n column →
    ((i : ℕ) → has new i ≡ (has column i || eqb i a)) →
    ((b i : ℕ) → b < length old → b < from →
    in_row now b i ≡ (in_row old b i || (eqb i a && has row b))) →
    ((b i : ℕ) → b < length old → from ≤ b → in_row now b i ≡ in_row old b i) →
    (b i : ℕ) → b < length old → b < n + 1 →
    in_row (set now n new) b i ≡ (in_row old b i || (eqb i a && has row b))
added_one old now row column new a from n len first within read is done rest b i below low =
    elim (eqb_tells b n) [
      | inl (_, same) ↦
          ap (λ k. in_row (set now n new) k i) same ∙ row_written now n i new within ∙ is i
          ∙ ap (λ x. x || eqb i a) (sym (row_has now n i column within read)
          ∙ ap (λ k. in_row now k i) (sym same)
          ∙ rest b i below (let at : from ≤ b = omega (arith, first.behind) in at))
          ∙ ap (λ x. in_row old b i || x)
          (and_all (eqb i a) (has row b) (ap (has row) same ∙ first.found))
      | inr (_, other) ↦
          row_stays now n b i new (let in' : b < length now = omega arith in in') other
          ∙ (elim (cases_lt b from) [
            | inl before ↦ done b i below before
            | inr behind ↦
                rest b i below behind
                ∙ unchanged (in_row old b i) (eqb i a) (has row b)
                (first.before b behind (let lt : b < n = omega arith in lt))
          ])
    ]

pub others_stay : (old now : List IndexSet) (new : IndexSet) (from n : ℕ) →
    length now ≡ length old → from ≤ n →
    ((b i : ℕ) → b < length old → from ≤ b → in_row now b i ≡ in_row old b i) →
    (b i : ℕ) → b < length old → n + 1 ≤ b → in_row (set now n new) b i ≡ in_row old b i
others_stay old now new from n len low rest b i below past =
    let other : b ≢ n = omega arith in
    row_stays now n b i new (let in' : b < length now = omega arith in in') other
    ∙ rest b i below (let at : from ≤ b = omega arith in at)

-- no place of the row is left
pub all_added : (old now : List IndexSet) (row : IndexSet) (a from : ℕ) →
    ((k : ℕ) → k < length old → from ≤ k → has row k ≡ false) →
    ((b i : ℕ) → b < length old → b < from →
    in_row now b i ≡ (in_row old b i || (eqb i a && has row b))) →
    ((b i : ℕ) → b < length old → from ≤ b → in_row now b i ≡ in_row old b i) →
    (b i : ℕ) → b < length old → in_row now b i ≡ (in_row old b i || (eqb i a && has row b))
all_added old now row a from none done rest b i below = elim (cases_lt b from) [
  | inl before ↦ done b i below before
  | inr behind ↦ rest b i below behind
      ∙ unchanged (in_row old b i) (eqb i a) (has row b) (none b below behind)
]

-- ---- all rows

-- the columns have the rows below n
pub row_added : (rows old new : List IndexSet) (row : IndexSet) (n : ℕ) → n < length rows →
    row ≡ get_or rows n row →
    length old ≡ length rows →
    ((b i : ℕ) → b < length rows → in_row old b i ≡ (ltb i n && in_row rows i b)) →
    ((b i : ℕ) → b < length old → in_row new b i ≡ (in_row old b i || (eqb i n && has row b))) →
    (b i : ℕ) → b < length rows → in_row new b i ≡ (ltb i (n + 1) && in_row rows i b)
row_added rows old new row n within read len before is b i below =
    is b i (let in' : b < length old = omega arith in in')
    ∙ ap (λ x. x || (eqb i n && has row b)) (before b i below)
    ∙ (elim (eqb_tells i n) [
      | inl (t, same) ↦
          let past : ltb i n ≡ false = le-ltb i n (let le : n ≤ i = omega arith in le) in
          let here : ltb i (n + 1) ≡ true =
          lt-ltb i (n + 1) (let lt : i < n + 1 = omega arith in lt) in
          ap (λ x. (x && in_row rows i b) || (eqb i n && has row b)) past
          ∙ ap (λ x. x && has row b) t
          ∙ sym (row_has rows n b row within read) ∙ ap (λ k. in_row rows k b) (sym same)
          ∙ ap (λ x. x && in_row rows i b) (sym here)
      | inr (t, other) ↦ elim (cases_lt i n) [
        | inl low ↦
            let here : ltb i n ≡ true = lt-ltb i n low in
            let there : ltb i (n + 1) ≡ true =
            lt-ltb i (n + 1) (let lt : i < n + 1 = omega arith in lt) in
            ap (λ x. (ltb i n && in_row rows i b) || (x && has row b)) t
            ∙ or-false (ltb i n && in_row rows i b)
            ∙ ap (λ x. x && in_row rows i b) (here ∙ sym there)
        | inr high ↦
            let here : ltb i n ≡ false = le-ltb i n high in
            let there : ltb i (n + 1) ≡ false =
            le-ltb i (n + 1) (let le : n + 1 ≤ i = omega arith in le) in
            ap (λ x. (ltb i n && in_row rows i b) || (x && has row b)) t
            ∙ or-false (ltb i n && in_row rows i b)
            ∙ ap (λ x. x && in_row rows i b) (here ∙ sym there)
      ]
    ])

-- ---- rows by sums

pub firsts_are : (q n : ℕ) (rows turned firsts : List IndexSet) → 0 < q → n ≡ q →
    ((a s : ℕ) → a < n → s < n → in_row turned a s ≡ in_row rows a (place_of n a s)) →
    AreColumns n turned firsts → AreFirsts q rows firsts
firsts_are q n rows turned firsts some same moved columns a b a_below b_below =
    let s = (a + b) % q in
    let s_below = mod-lt (a + b) some in
    let place = turned_place q a s a_below s_below in
    let back : place_of q a s ≡ b =
    one_step q a (place_of q a s) b s place.0 b_below place.1 refl in
    columns a s (omega (arith, a_below)) (omega (arith, s_below))
    ∙ moved a s (omega (arith, a_below)) (omega (arith, s_below))
    ∙ ap (λ m. in_row rows a (place_of m a s)) same ∙ ap (in_row rows a) back

pub seconds_are : (q : ℕ) (rows columns seconds : List IndexSet) → AreColumns q rows columns →
    AreFirsts q columns seconds →
    AreSeconds q rows seconds
seconds_are q rows columns seconds turned firsts a b a_below b_below =
    let order : a + b ≡ b + a = omega arith in
    ap (λ m. in_row seconds (m % q) b) order ∙ firsts b a b_below a_below
    ∙ turned a b a_below b_below
