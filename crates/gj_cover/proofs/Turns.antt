-- Places in sets whose indices were turned.
use Rattle.std.proofs.Common.{◌≡◌, inl, inr, ℕ, ◌+◌, ◌-◌, ◌%◌, ◌<◌, ◌≤◌, ◌&&◌, ◌||◌, Bool, true, false, cond, leb, ltb, refl, ap, sym, ◌∙◌, arith}
use Rattle.std.specs.Prelude.{◌==◌, if◌then◌else◌}
use Rattle.std.proofs.Math.Nat.{mod-eq_of_lt, mod-eq-sub-mod, mod_self}
use Rattle.std.proofs.lemmas.Bool.{cases_lt, cases_eq, eq-eqb, ne_eqb, le-ltb, le-leb, lt-leb, and_left, cond_both, leb-true, leb-false, ltb-true, lt-ltb, and_parts}
use Rattle.gj_loops.proofs.Bits.{or_nothing}

-- where an index is that was turned to j by s
abbrev pub place_of : ℕ → ℕ → ℕ → ℕ
place_of q s j = cond (leb s j) (j - s) (j + (q - s))

once_more : (q j : ℕ) → j < q → (j + q) % q ≡ j
once_more q j below =
    let less : j + q - q ≡ j = omega arith in
    mod-eq-sub-mod {n = j + q} {m = q} (omega arith) ∙ ap (λ n. n % q) less ∙ mod-eq_of_lt below

pub place_turned : (q s j : ℕ) → s ≤ q → j < q →
    (place_of q s j < q) × ((s + place_of q s j) % q ≡ j)
place_turned q s j s_most j_below =
    cond_both (leb s j) (j - s) (j + (q - s)) (λ k. (k < q) × ((s + k) % q ≡ j))
    (λ e.
    let le = leb-true s j e in
    let sum : s + (j - s) ≡ j = omega arith in
    (omega arith, ap (λ n. n % q) sum ∙ mod-eq_of_lt j_below))
    (λ e.
    let lt = leb-false s j e in
    let sum : s + (j + (q - s)) ≡ j + q = omega arith in
    (omega arith, ap (λ n. n % q) sum ∙ once_more q j j_below))

pub turned_place : (q s j : ℕ) → s < q → j < q →
    (place_of q s j < q) × ((s + place_of q s j) % q ≡ j)
turned_place q s j s_below j_below = place_turned q s j (omega arith) j_below

doubled : (b : Bool) → (b || b) ≡ b
doubled true = refl
doubled false = refl

-- moved up and down, if q stands for 0 and nothing is behind it
pub round_turn : (q i j : ℕ) (p : ℕ → Bool) (h : Bool) → q ≤ 1024 → i < q → j < q → p q ≡ p 0 →
    ((k : ℕ) → q < k → p k ≡ false) →
    h ≡ ((ltb j 1024 && (leb i j && p (j - i))) || p (j + (q - i))) → h ≡ p (place_of q i j)
round_turn q i j p h few i_below j_below round past is =
    let down = p (j + (q - i)) in
    let up = leb i j && p (j - i) in
    let both : h ≡ (up || down) = is ∙ ap (λ b. (b && up) || down) (lt-ltb j 1024 (omega arith)) in
    elim (cases_lt j i) [
      | inl before ↦
          let le : leb i j ≡ false = lt-leb i j before in
          both ∙ ap (λ b. b || down) (and_left (leb i j) (p (j - i)) le)
          ∙ ap (λ b. p (if b then j - i else j + (q - i))) (sym le)
      | inr behind ↦
          let le : leb i j ≡ true = le-leb i j behind in
          both ∙ ap (λ b. (b && p (j - i)) || down) le
          ∙ elim (cases_eq j i) [
            | inl same ↦
                let first : j - i ≡ 0 = omega arith in
                let last : j + (q - i) ≡ q = omega arith in
                ap (λ b. p (j - i) || b) (ap p last ∙ round ∙ ap p (sym first))
                ∙ doubled (p (j - i))
            | inr differ ↦ sym (or_nothing (p (j - i)) down (past (j + (q - i)) (omega arith)))
          ]
          ∙ ap (λ b. p (if b then j - i else j + (q - i))) (sym le)
    ]

-- one back, below q
pub back_place : (q j : ℕ) (f : ℕ → Bool) (r : Bool) → r ≡ f (if j + 1 == q then 0 else j + 1) →
    (ltb j q && r) ≡ (ltb j q && f ((j + 1) % q))
back_place q j f r is =
    elim (cases_lt j q) [
      | inl below ↦ elim (cases_eq (j + 1) q) [
        | inl last ↦
            ap (λ x. ltb j q && x)
            (is ∙ ap (λ b. f (if b then 0 else j + 1)) (eq-eqb (j + 1) q last)
            ∙ ap f (sym (ap (λ n. n % q) last ∙ mod_self q)))
        | inr other ↦
            let inside : j + 1 < q = omega arith in
            ap (λ x. ltb j q && x)
            (is ∙ ap (λ b. f (if b then 0 else j + 1)) (ne_eqb (j + 1) q other)
            ∙ ap f (sym (mod-eq_of_lt inside)))
      ]
      | inr past ↦ and_left (ltb j q) r (le-ltb j q past)
          ∙ sym (and_left (ltb j q) (f ((j + 1) % q)) (le-ltb j q past))
    ]

-- ---- sets

pub in_below : (q n j : ℕ) (x r : Bool) → n ≡ q → r ≡ (ltb j n && x) → r ≡ true → j < q
in_below q n j x r same is e = let below = ltb-true j n ((and_parts (ltb j n) x (sym is ∙ e)).0) in
    omega arith

pub turned_in : (q n s j : ℕ) (f : ℕ → Bool) (r : Bool) → n ≡ q → j < q →
    r ≡ (ltb j n && f (place_of n s j)) →
    r ≡ f (place_of q s j)
turned_in q n s j f r same below is =
    is ∙ ap (λ k. ltb j k && f (place_of k s j)) same
    ∙ ap (λ b. b && f (place_of q s j)) (lt-ltb j q below)

pub back_in : (q n j : ℕ) (f : ℕ → Bool) (r : Bool) → n ≡ q → j < q →
    r ≡ (ltb j n && f ((j + 1) % n)) →
    r ≡ f ((j + 1) % q)
back_in q n j f r same below is =
    is ∙ ap (λ k. ltb j k && f ((j + 1) % k)) same
    ∙ ap (λ b. b && f ((j + 1) % q)) (lt-ltb j q below)
