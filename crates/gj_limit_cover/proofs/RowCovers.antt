-- The triangles of one row of squares, and the intervals that they cover.
use Rattle.std.proofs.Common.{◌≡◌, ◌≢◌, ◌↔◌, ◌⊎◌, ℕ, ◌+◌, ◌%◌, ◌<◌, ◌≤◌, ◌&&◌, ◌||◌, ltb, eqb, Bool, true, false, Some, None, inl, inr, refl, sym, ap, subst, ◌∙◌, arith}
use Rattle.std.proofs.Math.Nat.{mod-lt, mod-eq_of_lt}
use Rattle.std.proofs.lemmas.Bool.{and_parts, and_from, or_cases, or_left, or_right, eq-eqb, eqb-true, cases_lt, cases_order}
use Rattle.gj_faces.proofs.Periods.{same_sum}
use Rattle.gj_loops.specs.IndexSets.{has, IsFirst}
use Rattle.gj_loops.specs.declared.index_set.IndexSet.{IndexSet}
use Rattle.gj_cover.specs.FirstFound.{FindsFirst}
use Rattle.gj_cover.proofs.FirstFaces.{AreSteps, is_step, is_short}
use Rattle.gj_cover.proofs.Turns.{place_of}
use Rattle.gj_cover.proofs.WalkPlaces.{first_face}
use Rattle.gj_shape.specs.Cover.{IsFirstFace}
use Rattle.gj_shape.specs.declared.faces.Face.{Face}
use Rattle.gj_shape.specs.declared.faces.FaceKind.{FaceKind}
use Rattle.gj_shape.specs.declared.faces.FaceKind.TheVariants.{Vertex, Horizontal, Vertical, Diagonal, Lower, Upper}
use Rattle.gj_limit_faces.specs.RowJoins.{IsTightTriangle}
use Rattle.gj_limit_cover.specs.LimitCover.{Covers, ProjectsOn, IsDirectlyCovered}
use Rattle.gj_limit_cover.specs.Links.{IsDirectInRow}
use Rattle.gj_limit_cover.proofs.Complexes.{IsComplex}
use Rattle.gj_limit_cover.proofs.LinkRows.{turned_has}
use Rattle.gj_limit_cover.proofs.Reductions.{covers_reduced}

-- ---- the squares of a row with a triangle that projects on an interval

-- the places at which one set, another or a third has an interval
pub onto_three : (q a i step short b : ℕ) (x : Bool) → a < q → i < q → step < q → short < q →
    1 < q → b < q →
    a ≢ i → (a + step) % q ≡ i → (1 + short) % q ≡ step →
    x ≡ (((false || eqb b i) || eqb b step) || eqb b short) →
    (x ≡ true) ↔ (ProjectsOn q a b (a + b) i ⊎ ProjectsOn q a b (a + b + 1) i)
onto_three q a i step short b x a_low i_low step_low short_low more b_low other step_is short_is
    is =
    let at_a = mod-eq_of_lt a_low in
    let at_b = mod-eq_of_lt b_low in
    let at_i = mod-eq_of_lt i_low in
    let some : 0 < q = omega arith in
    let two = (false || eqb b i) || eqb b step in
    let steps : AreSteps q a step short i = record {
      start = a_low;
      end = i_low;
      step_below = step_low;
      short_below = short_low;
      step_leads = step_is;
      short_leads = short_is;
    } in
    let by_step : (a + b) % q ≡ i % q → x ≡ true = λ e.
    let same = is_step q a step short i b steps b_low (e ∙ at_i) in
    is ∙ or_left two (eqb b short) (or_right (false || eqb b i) (eqb b step) (eq-eqb b step same))
    in
    let by_first : b % q ≡ i % q → x ≡ true = λ e.
    is ∙ or_left two (eqb b short) (or_left (false || eqb b i) (eqb b step)
    (or_right false (eqb b i) (eq-eqb b i (sym at_b ∙ e ∙ at_i)))) in
    let by_short : (a + b + 1) % q ≡ i % q → x ≡ true = λ e.
    let same = is_short q a step short i b steps b_low (e ∙ at_i) in
    is ∙ or_right two (eqb b short) (eq-eqb b short same) in (
      λ yes'. elim (or_cases two (eqb b short) (sym is ∙ yes')) [
        | inl e ↦ elim (or_cases (false || eqb b i) (eqb b step) e) [
          | inl e' ↦ elim (or_cases false (eqb b i) e') [
            | inl no' ↦ cc
            | inr at ↦ inl (inr (inl (ap (λ n. n % q) (eqb-true b i at))))
          ]
          | inr at ↦ inl (inr (inr (ap (λ n. (a + n) % q) (eqb-true b step at) ∙ step_is
              ∙ sym at_i)))
        ]
        | inr at ↦
            let order : a + b + 1 ≡ a + (b + 1) = omega arith in
            let turned : b + 1 ≡ 1 + b = omega arith in
            let next : (b + 1) % q ≡ step % q =
            ap (λ n. n % q) turned ∙ ap (λ n. (1 + n) % q) (eqb-true b short at) ∙ short_is
            ∙ sym (mod-eq_of_lt step_low) in
            inr (inr (inr (ap (λ n. n % q) order ∙ same_sum q a (b + 1) a step refl next ∙ step_is
            ∙ sym at_i)))
      ],
      λ h. elim h [
        | inl lower ↦ elim lower [
          | inl e ↦ absurd (other (sym at_a ∙ e ∙ at_i))
          | inr rest ↦ elim rest [ inl e ↦ by_first e | inr e ↦ by_step e ]
        ]
        | inr upper ↦ elim upper [
          | inl e ↦ absurd (other (sym at_a ∙ e ∙ at_i))
          | inr rest ↦ elim rest [ inl e ↦ by_first e | inr e ↦ by_short e ]
        ]
      ],
    )

module _ (q : ℕ) (T : FaceKind → ℕ → ℕ → ℕ → Type 0) (a i : ℕ) (lower upper : ℕ → Bool)
    (lower_told : (b : ℕ) → (lower b ≡ true) ↔ ((b < q) × IsTightTriangle T Lower a b))
    (upper_told : (b : ℕ) → (upper b ≡ true) ↔ ((b < q) × IsTightTriangle T Upper a b)) where
  -- a triangle that covers the interval is in its set
  pub triangle_has : (kind : FaceKind) (b : ℕ) → b < q → Covers q T kind a b i →
      (lower b || upper b) ≡ true
  triangle_has Vertex b low h = absurd h
  triangle_has Horizontal b low h = absurd h
  triangle_has Vertical b low h = absurd h
  triangle_has Diagonal b low h = absurd h
  triangle_has Lower b low (t, h) = or_left (lower b) (upper b) ((lower_told b).1 (low, t))
  triangle_has Upper b low (t, h) = or_right (lower b) (upper b) ((upper_told b).1 (low, t))

  pub triangle_below : (b : ℕ) → (lower b || upper b) ≡ true → b < q
  triangle_below b e = elim (or_cases (lower b) (upper b) e) [
    | inl x ↦ ((lower_told b).0 x).0
    | inr x ↦ ((upper_told b).0 x).0
  ]

  projects : (kind : FaceKind) (b : ℕ) → Covers q T kind a b i →
      ProjectsOn q a b (a + b) i ⊎ ProjectsOn q a b (a + b + 1) i
  projects Vertex b h = absurd h
  projects Horizontal b h = absurd h
  projects Vertical b h = absurd h
  projects Diagonal b h = absurd h
  projects Lower b (t, h) = inl h
  projects Upper b (t, h) = inr h

  -- and so is its square in that of the squares that are looked at
  pub square_has : (kind : FaceKind) (b : ℕ) (x onto : Bool) → b < q →
      x ≡ ((lower b || upper b) && onto) →
      ((onto ≡ true) ↔ (ProjectsOn q a b (a + b) i ⊎ ProjectsOn q a b (a + b + 1) i)) →
      Covers q T kind a b i → x ≡ true
  square_has kind b x onto low is told h =
      is ∙ and_from (lower b || upper b) onto (triangle_has kind b low h)
      (told.1 (projects kind b h))

  -- ---- the intervals that the triangles cover

  row_cases : (kind : FaceKind) (b : ℕ) → b < q → i < q → a < q → Covers q T kind a b i →
      ((a ≡ i) × ((lower b || upper b) ≡ true)) ⊎ ((lower i || upper i) ≡ true)
      ⊎ (((lower b ≡ true) × ((a + b) % q ≡ i)) ⊎ ((upper b ≡ true) × ((a + 1 + b) % q ≡ i)))
  row_cases Vertex b low i_low a_low h = absurd h
  row_cases Horizontal b low i_low a_low h = absurd h
  row_cases Vertical b low i_low a_low h = absurd h
  row_cases Diagonal b low i_low a_low h = absurd h
  row_cases Lower b low i_low a_low (t, inl e) =
      inl (
        sym (mod-eq_of_lt a_low) ∙ e
            ∙ mod-eq_of_lt i_low,
        or_left (lower b) (upper b) ((lower_told b).1 (low, t)),
      )
  row_cases Lower b low i_low a_low (t, inr (inl e)) =
      let same : b ≡ i = sym (mod-eq_of_lt low) ∙ e ∙ mod-eq_of_lt i_low in
      inr (inl (subst (λ n. (lower n || upper n) ≡ true) same
      (or_left (lower b) (upper b) ((lower_told b).1 (low, t)))))
  row_cases Lower b low i_low a_low (t, inr (inr e)) =
      inr (inr (inl ((lower_told b).1 (low, t), e ∙ mod-eq_of_lt i_low)))
  row_cases Upper b low i_low a_low (t, inl e) =
      inl (
        sym (mod-eq_of_lt a_low) ∙ e
            ∙ mod-eq_of_lt i_low,
        or_right (lower b) (upper b) ((upper_told b).1 (low, t)),
      )
  row_cases Upper b low i_low a_low (t, inr (inl e)) =
      let same : b ≡ i = sym (mod-eq_of_lt low) ∙ e ∙ mod-eq_of_lt i_low in
      inr (inl (subst (λ n. (lower n || upper n) ≡ true) same
      (or_right (lower b) (upper b) ((upper_told b).1 (low, t)))))
  row_cases Upper b low i_low a_low (t, inr (inr e)) =
      let order : a + 1 + b ≡ a + b + 1 = omega arith in
      inr (inr (inr ((upper_told b).1 (low, t), ap (λ n. n % q) order ∙ e ∙ mod-eq_of_lt i_low)))

  covered_by : (b : ℕ) → b < q → ProjectsOn q a b (a + b) i → ProjectsOn q a b (a + b + 1) i →
      (lower b || upper b) ≡ true → IsDirectInRow q T a i
  covered_by b low h k e = elim (or_cases (lower b) (upper b) e) [
    | inl x ↦ let t = ((lower_told b).0 x).1 in (Lower, b, low, (t, h))
    | inr x ↦ let t = ((upper_told b).0 x).1 in (Upper, b, low, (t, k))
  ]

  -- the set of an interval in the row, one of the sums of the triangles, or the row's own interval
  pub direct_row : (x others sums low_sums high_sums own any : Bool) (triangles : ℕ → Bool) →
      a < q →
      x ≡ (others || own) → others ≡ (triangles i || sums) → sums ≡ (low_sums || high_sums) →
      low_sums ≡ (ltb i q && lower (place_of q a i)) →
      high_sums ≡ (ltb i q && upper (place_of q (a + 1) i)) →
      own ≡ (any && eqb i a) → ((b : ℕ) → triangles b ≡ (lower b || upper b)) →
      ((any ≡ true) → (b : ℕ) × (triangles b ≡ true)) → ((b : ℕ) → triangles b ≡ true →
      any ≡ true) →
      (x ≡ true) ↔ ((i < q) × IsDirectInRow q T a i)
  direct_row x others sums low_sums high_sums own any triangles a_low x_is others_is sums_is lows_is
      highs_is own_is triangles_is found all =
      let lows = turned_has q a i lower low_sums (omega arith) lows_is in
      let highs = turned_has q (a + 1) i upper high_sums (omega arith) highs_is in
      let some : 0 < q = omega arith in
      let sum_low : (s k : ℕ) → (s + k) % q ≡ i →
      i < q = λ s k e. subst (λ n. n < q) e (mod-lt (s + k) some) in
      let put_sums : sums ≡ true → x ≡ true = λ e.
      x_is ∙ or_left others own (others_is ∙ or_right (triangles i) sums e) in (
        λ yes'. elim (or_cases others own (sym x_is ∙ yes')) [
          | inl e ↦ elim (or_cases (triangles i) sums (sym others_is ∙ e)) [
            | inl t ↦
                let at = sym (triangles_is i) ∙ t in
                let low = triangle_below i at in
                (low, covered_by i low (inr (inl refl)) (inr (inl refl)) at)
            | inr t ↦ elim (or_cases low_sums high_sums (sym sums_is ∙ t)) [
              | inl l ↦
                  let (k, k_low, sum, at) = lows.0 l in
                  let low = sum_low a k sum in (
                    low,
                    (
                      Lower,
                      k,
                      k_low,
                      (
                        ((lower_told k).0 at).1,
                        inr (inr (sum
                            ∙ sym (mod-eq_of_lt low))),
                      ),
                    ),
                  )
              | inr l ↦
                  let (k, k_low, sum, at) = highs.0 l in
                  let low = sum_low (a + 1) k sum in
                  let order : a + k + 1 ≡ a + 1 + k = omega arith in (
                    low,
                    (
                      Upper,
                      k,
                      k_low,
                      (
                        ((upper_told k).0 at).1,
                        inr (inr (ap (λ n. n % q) order ∙ sum ∙ sym (mod-eq_of_lt low))),
                      ),
                    ),
                  )
            ]
          ]
          | inr e ↦
              let both = and_parts any (eqb i a) (sym own_is ∙ e) in
              let same = eqb-true i a both.1 in
              let low : i < q = subst (λ n. n < q) (sym same) a_low in
              let at = found both.0 in
              let here' = sym (triangles_is at.0) ∙ at.1 in
              let first : a % q ≡ i % q = ap (λ n. n % q) (sym same) in
              (low, covered_by at.0 (triangle_below at.0 here') (inl first) (inl first) here')
        ],
        λ (low, (kind, b, b_low, h)). elim (row_cases kind b b_low low a_low h) [
          | inl (same, at) ↦
              x_is ∙ or_right others own (own_is
              ∙ and_from any (eqb i a) (all b (triangles_is b ∙ at)) (eq-eqb i a (sym same)))
          | inr rest ↦ elim rest [
            | inl at ↦ x_is ∙ or_left others own (others_is
                ∙ or_left (triangles i) sums (triangles_is i ∙ at))
            | inr sum ↦ elim sum [
              | inl (at, e) ↦ put_sums (sums_is
                  ∙ or_left low_sums high_sums (lows.1 (b, b_low, e, at)))
              | inr (at, e) ↦ put_sums (sums_is
                  ∙ or_right low_sums high_sums (highs.1 (b, b_low, e, at)))
            ]
          ]
        ],
      )

-- the squares that are looked at are those of all triangles of the row that cover the interval
pub all_listed : (q n : ℕ) (T : FaceKind → ℕ → ℕ → ℕ →
    Type 0) (a i : ℕ) (lower upper triangles onto : ℕ → Bool)
    (squares : IndexSet) → n ≡ q →
    ((b : ℕ) → (lower b ≡ true) ↔ ((b < q) × IsTightTriangle T Lower a b)) →
    ((b : ℕ) → (upper b ≡ true) ↔ ((b < q) × IsTightTriangle T Upper a b)) →
    ((b : ℕ) → triangles b ≡ (lower b || upper b)) →
    ((b : ℕ) → has squares b ≡ (triangles b && onto b)) →
    ((b : ℕ) → b < n → (onto b ≡ true) ↔
    (ProjectsOn n a b (a + b) i ⊎ ProjectsOn n a b (a + b + 1) i)) →
    (kind : FaceKind) (k : ℕ) → k < q → Covers q T kind a k i → has squares k ≡ true
all_listed q n T a i lower upper triangles onto squares same lower_told upper_told triangles_is
    squares_is told kind k low d =
    square_has q T a i lower upper lower_told upper_told kind k (has squares k) (onto k) low
    (squares_is k ∙ ap (λ x. x && onto k) (triangles_is k))
    (subst (λ m. (onto k ≡ true) ↔ (ProjectsOn m a k (a + k) i ⊎ ProjectsOn m a k (a + k + 1) i))
    same
    (told k (let lt : k < n = omega arith in lt))) d

pub squares_below : (q : ℕ) (T : FaceKind → ℕ → ℕ → ℕ →
    Type 0) (a i : ℕ) (lower upper triangles onto : ℕ → Bool)
    (squares : IndexSet) → ((b : ℕ) → (lower b ≡ true) ↔ ((b < q) × IsTightTriangle T Lower a b)) →
    ((b : ℕ) → (upper b ≡ true) ↔ ((b < q) × IsTightTriangle T Upper a b)) →
    ((b : ℕ) → triangles b ≡ (lower b || upper b)) →
    ((b : ℕ) → has squares b ≡ (triangles b && onto b)) →
    (k : ℕ) → has squares k ≡ true → k < q
squares_below q T a i lower upper triangles onto squares lower_told upper_told triangles_is
    squares_is k e =
    triangle_below q T a i lower upper lower_told upper_told k
    (sym (triangles_is k) ∙ (and_parts (triangles k) (onto k) (sym (squares_is k) ∙ e)).0)

-- ---- rows one after another

-- the intervals that triangles of the first n rows cover
abbrev pub AreDirectBefore : ℕ → (FaceKind → ℕ → ℕ → ℕ → Type 0) → ℕ → (ℕ → Bool) → Type 0
AreDirectBefore q T n set =
    (i : ℕ) → (set i ≡ true) ↔ ((i < q) × ((a : ℕ) × (a < n) × IsDirectInRow q T a i))

pub direct_none : (q : ℕ) (T : FaceKind → ℕ → ℕ → ℕ → Type 0) (set : ℕ → Bool) →
    ((i : ℕ) → set i ≡ false) →
    AreDirectBefore q T 0 set
direct_none q T set none i = (
  λ yes'. let no' = none i in absurd (cc (yes', no')),
  λ (low, (a, a_low, h)). absurd (omega arith),
)

pub direct_more : (q : ℕ) (T : FaceKind → ℕ → ℕ → ℕ → Type 0) (n : ℕ) (old row new : ℕ → Bool) →
    AreDirectBefore q T n old → ((i : ℕ) → (row i ≡ true) ↔ ((i < q) × IsDirectInRow q T n i)) →
    ((i : ℕ) → new i ≡ (old i || row i)) → AreDirectBefore q T (n + 1) new
direct_more q T n old row new h told is i = (
  λ yes'. elim (or_cases (old i) (row i) (sym (is i) ∙ yes')) [
    | inl e ↦ let (low, (a, a_low, d)) = (h i).0 e in
        (low, (a, (let lt : a < n + 1 = omega arith in lt), d))
    | inr e ↦ let (low, d) = (told i).0 e in (low, (n, (let lt : n < n + 1 = omega arith in lt), d))
  ],
  λ (low, (a, a_low, d)). is i ∙ (elim (cases_lt a n) [
    | inl before ↦ or_left (old i) (row i) ((h i).1 (low, (a, before, d)))
    | inr last ↦
        let same : a ≡ n = omega arith in
        or_right (old i) (row i) ((told i).1 (low, subst (λ k. IsDirectInRow q T k i) same d))
  ]),
)

pub direct_all : (q : ℕ) (T : FaceKind → ℕ → ℕ → ℕ → Type 0) (set : ℕ → Bool) → IsComplex q T →
    0 < q →
    AreDirectBefore q T q set → (i : ℕ) → (set i ≡ true) ↔ ((i < q) × IsDirectlyCovered q T i)
direct_all q T set complex some h i = (
  λ yes'. let (low, (a, a_low, (kind, b, b_low, d))) = (h i).0 yes' in (low, (kind, a, b, d)),
  λ (low, (kind, a, b, d)).
      (h i).1 (
        low,
        (
          a % q,
          mod-lt a some,
          (
            kind,
            b % q,
            mod-lt b some,
            covers_reduced q T complex
                kind a b i d,
          ),
        ),
      ),
)

-- ---- the first triangle that covers an interval

abbrev pub IsInRow : ℕ → ℕ → ℕ → ℕ → Type 0
IsInRow q a c b = (c ≡ a) × (b < q)

-- no triangle of the squares (a, b) with b below n covers it
abbrev pub NoneBefore : ℕ → (FaceKind → ℕ → ℕ → ℕ → Type 0) → ℕ → ℕ → ℕ → Type 0
NoneBefore q T a i n = (kind : FaceKind) (b : ℕ) → b < n → b < q → Covers q T kind a b i → ⊥

pub none_more : (q : ℕ) (T : FaceKind → ℕ → ℕ → ℕ → Type 0) (a i from b : ℕ) (set : IndexSet) →
    NoneBefore q T a i from → IsFirst set from b →
    ((kind : FaceKind) (k : ℕ) → k < q → Covers q T kind a k i → has set k ≡ true) →
    NoneBefore q T a i b
none_more q T a i from b set h first all kind k low below d = elim (cases_lt k from) [
  | inl before ↦ h kind k before below d
  | inr behind ↦
      let not = first.before k behind low in
      let yes' = all kind k below d in
      absurd (cc (not, yes'))
]

pub none_next : (q : ℕ) (T : FaceKind → ℕ → ℕ → ℕ → Type 0) (a i b : ℕ) → NoneBefore q T a i b →
    (Covers q T Lower a b i → ⊥) → (Covers q T Upper a b i → ⊥) → NoneBefore q T a i (b + 1)
none_next q T a i b h not_lower not_upper kind k low below d = elim (cases_lt k b) [
  | inl before ↦ h kind k before below d
  | inr last ↦
      let same : k ≡ b = omega arith in
      neither kind (subst (λ n. Covers q T kind a n i) same d)
]
  where
    neither : (kind : FaceKind) → Covers q T kind a b i → ⊥
    neither Vertex d = absurd d
    neither Horizontal d = absurd d
    neither Vertical d = absurd d
    neither Diagonal d = absurd d
    neither Lower d = not_lower d
    neither Upper d = not_upper d

pub none_in_row : (q : ℕ) (T : FaceKind → ℕ → ℕ → ℕ → Type 0) (a i from : ℕ) (set : IndexSet) →
    NoneBefore q T a i from → ((k : ℕ) → from ≤ k → has set k ≡ false) →
    ((kind : FaceKind) (k : ℕ) → k < q → Covers q T kind a k i → has set k ≡ true) →
    FindsFirst (IsInRow q a) (λ kind c b. Covers q T kind c b i) None
none_in_row q T a i from set h none all kind c b (same, below) d =
    let d' = subst (λ n. Covers q T kind n b i) same d in
    elim (cases_lt b from) [
      | inl before ↦ h kind b before below d'
      | inr behind ↦
          let not = none b behind in
          let yes' = all kind b below d' in
          absurd (cc (not, yes'))
    ]

pub lower_found : (q : ℕ) (T : FaceKind → ℕ → ℕ → ℕ → Type 0) (a i b : ℕ) → b < q →
    NoneBefore q T a i b →
    Covers q T Lower a b i →
    FindsFirst (IsInRow q a) (λ kind c d. Covers q T kind c d i)
    (Some (record { kind = Lower; a = a; b = b }))
lower_found q T a i b low h d = record {
  square = (refl, low);
  holds = d;
  first = λ kind c k (same, below) e.
      let e' = subst (λ n. Covers q T kind n k i) same e in
      elim (cases_order k b) [
        | inl at ↦ inr (sym same, inr (sym at, least kind k e'))
        | inr other ↦ elim other [
          | inl before ↦ absurd (h kind k before below e')
          | inr behind ↦ inr (sym same, inl behind)
        ]
      ];
}
  where
    least : (kind : FaceKind) (k : ℕ) → Covers q T kind a k i →
        Rattle.gj_shape.specs.WalkOrder.position_of_kind Lower
        ≤ Rattle.gj_shape.specs.WalkOrder.position_of_kind kind
    least Vertex k e = absurd e
    least Horizontal k e = absurd e
    least Vertical k e = absurd e
    least Diagonal k e = absurd e
    least Lower k e = omega arith
    least Upper k e = omega arith

pub upper_found : (q : ℕ) (T : FaceKind → ℕ → ℕ → ℕ → Type 0) (a i b : ℕ) → b < q →
    NoneBefore q T a i b →
    (Covers q T Lower a b i → ⊥) → Covers q T Upper a b i →
    FindsFirst (IsInRow q a) (λ kind c d. Covers q T kind c d i)
    (Some (record { kind = Upper; a = a; b = b }))
upper_found q T a i b low h not d = record {
  square = (refl, low);
  holds = d;
  first = λ kind c k (same, below) e.
      let e' = subst (λ n. Covers q T kind n k i) same e in
      elim (cases_order k b) [
        | inl at ↦ inr (
          sym same,
          inr (
            sym at,
            greatest kind (subst (λ n. Covers q T kind a n i) at
                e'),
          ),
        )
        | inr other ↦ elim other [
          | inl before ↦ absurd (h kind k before below e')
          | inr behind ↦ inr (sym same, inl behind)
        ]
      ];
}
  where
    greatest : (kind : FaceKind) → Covers q T kind a b i →
        Rattle.gj_shape.specs.WalkOrder.position_of_kind Upper
        ≤ Rattle.gj_shape.specs.WalkOrder.position_of_kind kind
    greatest Vertex e = absurd e
    greatest Horizontal e = absurd e
    greatest Vertical e = absurd e
    greatest Diagonal e = absurd e
    greatest Lower e = absurd (not e)
    greatest Upper e = omega arith

-- no triangle of the rows below n covers it
abbrev pub NoneInRows : ℕ → (FaceKind → ℕ → ℕ → ℕ → Type 0) → ℕ → ℕ → Type 0
NoneInRows q T i n = (kind : FaceKind) (a b : ℕ) → a < n → b < q → Covers q T kind a b i → ⊥

pub row_found : (q : ℕ) (T : FaceKind → ℕ → ℕ → ℕ → Type 0) (i n : ℕ) (f : Face) → n < q →
    NoneInRows q T i n →
    FindsFirst (IsInRow q n) (λ kind c b. Covers q T kind c b i) (Some f) →
    IsFirstFace q (λ kind a b. Covers q T kind a b i) f
row_found q T i n f low h found =
    first_face q (λ kind a b. Covers q T kind a b i) f (subst (λ k. k < q) (sym found.square.0) low)
    found.square.1 found.holds
    (λ kind a b a_low b_low d. elim (cases_order a n) [
      | inl same ↦ found.first kind a b (same, b_low) d
      | inr other ↦ elim other [
        | inl before ↦ absurd (h kind a b before b_low d)
        | inr behind ↦ inl (let lt : f.a < a = omega (arith, found.square.0) in lt)
      ]
    ])

pub not_direct : (q : ℕ) (T : FaceKind → ℕ → ℕ → ℕ → Type 0) (i : ℕ) → IsComplex q T → 0 < q →
    NoneInRows q T i q → IsDirectlyCovered q T i → ⊥
not_direct q T i complex some h (kind, a, b, d) =
    h kind (a % q) (b % q) (mod-lt a some) (mod-lt b some) (covers_reduced q T complex kind a b i d)
