-- Sets of places below an order, and what is said of the places in them.
use Rattle.std.proofs.Common.{◌≡◌, ◌↔◌, ◌⊎◌, ℕ, ◌+◌, ◌-◌, ◌%◌, ◌<◌, ◌≤◌, ◌&&◌, ◌||◌, ltb, eqb, cond, Bool, true, inl, inr, sym, ap, subst, ◌∙◌, arith}
use Rattle.std.proofs.Math.Nat.{mod-eq_of_lt, mod_self}
use Rattle.std.proofs.lemmas.Bool.{ltb-true}
use Rattle.std.proofs.lemmas.Bool.{and_parts, and_from, or_cases, or_left, or_right, lt-ltb, eq-eqb, ne_eqb, cases_eq}

-- a set has the places below n of which P is said
abbrev pub Tells : Bool → ℕ → ℕ → Type 0 → Type 0
Tells x b n P = (x ≡ true) ↔ ((b < n) × P)

pub tells_both : (r x y : Bool) (b n : ℕ) (P Q : Type 0) → r ≡ (x && y) → Tells x b n P →
    Tells y b n Q → Tells r b n (P × Q)
tells_both r x y b n P Q is h k = (
  λ yes'. let both = and_parts x y (sym is ∙ yes') in
      let first = h.0 both.0 in (first.0, (first.1, (k.0 both.1).1)),
  λ (low, both). is ∙ and_from x y (h.1 (low, both.0)) (k.1 (low, both.1)),
)

pub tells_three : (r x y z : Bool) (b n : ℕ) (P Q R : Type 0) → r ≡ (x && (y && z)) →
    Tells x b n P → Tells y b n Q → Tells z b n R → Tells r b n (P × Q × R)
tells_three r x y z b n P Q R is h k l = (
  λ yes'. let both = and_parts x (y && z) (sym is ∙ yes') in
      let rest = and_parts y z both.1 in
      let first = h.0 both.0 in (first.0, (first.1, (k.0 rest.0).1, (l.0 rest.1).1)),
  λ (low, all). is ∙ and_from x (y && z) (h.1 (low, all.0))
      (and_from y z (k.1 (low, all.1)) (l.1 (low, all.2))),
)

pub tells_three_back : (r x y z : Bool) (b n : ℕ) (P Q R : Type 0) → r ≡ ((x && y) && z) →
    Tells x b n P → Tells y b n Q → Tells z b n R → Tells r b n (P × Q × R)
tells_three_back r x y z b n P Q R is h k l = (
  λ yes'. let both = and_parts (x && y) z (sym is ∙ yes') in
      let rest = and_parts x y both.0 in
      let first = h.0 rest.0 in (first.0, (first.1, (k.0 rest.1).1, (l.0 both.1).1)),
  λ (low, all). is ∙ and_from (x && y) z (and_from x y (h.1 (low, all.0)) (k.1 (low, all.1)))
      (l.1 (low, all.2)),
)

pub tells_any : (r x y z : Bool) (b n : ℕ) (P Q R : Type 0) → r ≡ ((x || y) || z) →
    Tells x b n P → Tells y b n Q → Tells z b n R → Tells r b n (P ⊎ Q ⊎ R)
tells_any r x y z b n P Q R is h k l = (
  λ yes'. elim (or_cases (x || y) z (sym is ∙ yes')) [
    | inl e ↦ elim (or_cases x y e) [
      | inl e' ↦ let at = h.0 e' in (at.0, inl at.1)
      | inr e' ↦ let at = k.0 e' in (at.0, inr (inl at.1))
    ]
    | inr e ↦ let at = l.0 e in (at.0, inr (inr at.1))
  ],
  λ (low, any). is ∙ (elim any [
    | inl p ↦ or_left (x || y) z (or_left x y (h.1 (low, p)))
    | inr other ↦ elim other [
      | inl p ↦ or_left (x || y) z (or_right x y (k.1 (low, p)))
      | inr p ↦ or_right (x || y) z (l.1 (low, p))
    ]
  ]),
)

-- a set without the places from n on
pub tells_within : (r x : Bool) (b n : ℕ) (P : Type 0) → r ≡ (x && ltb b n) →
    (b < n → (x ≡ true) ↔ P) → (x ≡ true → b < n → P) → Tells r b n P
tells_within r x b n P is h k = (
  λ yes'. let both = and_parts x (ltb b n) (sym is ∙ yes') in
      let low = below b n both.1 in (low, k both.0 low),
  λ (low, p). is ∙ and_from x (ltb b n) ((h low).1 p) (lt-ltb b n low),
)
  where
    below : (b n : ℕ) → ltb b n ≡ true → b < n
    below b n e = ltb-true b n e

-- the places one behind those of a set, modulo the order
pub tells_turned : (q b : ℕ) (x : Bool) (set : ℕ → Bool) (P : ℕ → Type 0) → 2 ≤ q → q ≤ 1000 →
    b < q → ((c : ℕ) → Tells (set c) c q (P c)) →
    x ≡ (ltb b 1024 && set (cond (eqb b 0) (q - 1) (b - 1))) →
    (x ≡ true) ↔ ((c : ℕ) × (c < q) × ((c + 1) % q ≡ b) × P c)
tells_turned q b x set P some few low told is =
    let inside : ltb b 1024 ≡ true = lt-ltb b 1024 (omega arith) in
    elim (cases_eq b 0) [
      | inl first ↦
          let test : cond (eqb b 0) (q - 1) (b - 1) ≡ q - 1 =
          ap (λ t. cond t (q - 1) (b - 1)) (eq-eqb b 0 first) in
          let last : q - 1 < q = omega arith in
          let round : (q - 1 + 1) % q ≡ b =
          ap (λ k. k % q) (let e : q - 1 + 1 ≡ q = omega arith in e) ∙ mod_self q ∙ sym first in (
            λ yes'.
                let both = and_parts (ltb b 1024) (set (cond (eqb b 0) (q - 1) (b - 1))) (sym is
                ∙ yes') in
                let at = (told (q - 1)).0 (sym (ap set test) ∙ both.1) in
                (q - 1, at.0, round, at.1),
            λ (c, c_low, next, p).
                let c_is : c ≡ q - 1 = elim (cases_eq (c + 1) q) [
                  | inl end ↦ omega arith
                  | inr before ↦
                      let e = mod-eq_of_lt {n = c + 1} {m = q} (omega arith) in
                      absurd (omega arith)
                ] in
                is ∙ and_from (ltb b 1024) (set (cond (eqb b 0) (q - 1) (b - 1))) inside
                (ap set test ∙ (told (q - 1)).1 (last, subst P c_is p)),
          )
      | inr later ↦
          let test : cond (eqb b 0) (q - 1) (b - 1) ≡ b - 1 =
          ap (λ t. cond t (q - 1) (b - 1)) (ne_eqb b 0 later) in
          let one : b - 1 < q = omega arith in
          let round : (b - 1 + 1) % q ≡ b =
          ap (λ k. k % q) (let e : b - 1 + 1 ≡ b = omega arith in e) ∙ mod-eq_of_lt low in (
            λ yes'.
                let both = and_parts (ltb b 1024) (set (cond (eqb b 0) (q - 1) (b - 1))) (sym is
                ∙ yes') in
                let at = (told (b - 1)).0 (sym (ap set test) ∙ both.1) in
                (b - 1, at.0, round, at.1),
            λ (c, c_low, next, p).
                let c_is : c ≡ b - 1 = elim (cases_eq (c + 1) q) [
                  | inl end ↦
                      let e : (c + 1) % q ≡ 0 = ap (λ k. k % q) end ∙ mod_self q in
                      absurd (omega arith)
                  | inr before ↦
                      let e = mod-eq_of_lt {n = c + 1} {m = q} (omega arith) in
                      omega arith
                ] in
                is ∙ and_from (ltb b 1024) (set (cond (eqb b 0) (q - 1) (b - 1))) inside
                (ap set test ∙ (told (b - 1)).1 (one, subst P c_is p)),
          )
    ]

-- places of two sets and of the places one behind a third's
pub tells_horizontal : (q b : ℕ) (r any two x y z : Bool) (set : ℕ → Bool) (A B : Type 0)
    (P : ℕ → Type 0) → 2 ≤ q → q ≤ 1000 → r ≡ (any && ltb b q) → any ≡ (two || z) →
    two ≡ (x || y) → Tells x b q A → Tells y b q B → ((c : ℕ) → Tells (set c) c q (P c)) →
    z ≡ (ltb b 1024 && set (cond (eqb b 0) (q - 1) (b - 1))) →
    Tells r b q (A ⊎ B ⊎ ((c : ℕ) × (c < q) × ((c + 1) % q ≡ b) × P c))
tells_horizontal q b r any two x y z set A B P some few r_is any_is two_is h k told z_is =
    let on : any ≡ true → b < q →
    A ⊎ B ⊎ ((c : ℕ) × (c < q) × ((c + 1) % q ≡ b) × P c) = λ yes' low.
    elim (or_cases two z (sym any_is ∙ yes')) [
      | inl e ↦ elim (or_cases x y (sym two_is ∙ e)) [
        | inl e' ↦ inl (h.0 e').1
        | inr e' ↦ inr (inl (k.0 e').1)
      ]
      | inr e ↦ inr (inr ((tells_turned q b z set P some few low told z_is).0 e))
    ] in
    tells_within r any b q (A ⊎ B ⊎ ((c : ℕ) × (c < q) × ((c + 1) % q ≡ b) × P c)) r_is
    (λ low. (
      λ yes'. on yes' low,
      λ p. any_is ∙ (elim p [
        | inl a ↦ or_left two z (two_is ∙ or_left x y (h.1 (low, a)))
        | inr other ↦ elim other [
          | inl a ↦ or_left two z (two_is ∙ or_right x y (k.1 (low, a)))
          | inr a ↦ or_right two z ((tells_turned q b z set P some few low told z_is).1 a)
        ]
      ]),
    ))
    on
