-- Which intervals are in a class, as a list, and the zigzag from it.
use Rattle.std.proofs.Common.{◌≡◌, ℕ, ◌+◌, ◌*◌, ◌/◌, ◌%◌, ◌<◌, ◌==◌, ◌||◌, Bool, true, false, if◌then◌else◌, inl, inr, ℤ, pos, ◌-ℤ◌, List, length, get_or, set, take, map, replicate, [], refl, sym, ap, ◌∙◌, arith}
use Rattle.std.specs.List.{range_with_len, list_any}
use Rattle.std.proofs.Math.Bool.{or-true, or-false}
use Rattle.std.proofs.Math.Nat.{mod-eq_of_lt}
use Rattle.std.proofs.Common.{get_or-set_other, get_or-set_same}
use Rattle.std.proofs.lemmas.List.{get_or-replicate, length-replicate}
use Rattle.std.proofs.lemmas.Bool.{cases_eq, eq-eqb, ne_eqb}
use Rattle.std.proofs.lemmas.List.Folds.{list_any_more}
use Rattle.std.proofs.lemmas.List.FromFn.{fill_by_all, get_or-map-range_with_len}
use Rattle.gj_shape.specs.Perturbation.{zigzag}

abbrev pub is_among : List ℕ → ℕ → Bool
is_among class i = list_any (λ a. a == i) class

-- the marks of the intervals among the first n of the class
pub record AreMarks (marks : List Bool) (q : ℕ) (class : List ℕ) : Type 0 where
  pub whole : length marks ≡ q
  pub same : (i : ℕ) → i < q → get_or marks i false ≡ is_among class i

pub no_marks : (marks : List Bool) (q : ℕ) → marks ≡ replicate q false → AreMarks marks q []
no_marks marks q e = record {
  whole = ap length e ∙ length-replicate q false;
  same = λ i below. ap (λ xs. get_or xs i false) e ∙ get_or-replicate q i false false below;
}

pub one_mark_more : (marks : List Bool) (q n a : ℕ) (class : List ℕ) → n < length class →
    a ≡ get_or class n 0 → a < q →
    AreMarks marks q (take n class) → length (set marks a true) ≡ length marks →
    AreMarks (set marks a true) q (take (n + 1) class)
one_mark_more marks q n a class below e a_below h len = record {
  whole = len ∙ h.whole;
  same = λ i i_below.
      let more : is_among (take (n + 1) class) i ≡ (is_among (take n class) i || (a == i)) =
      list_any_more (λ b. b == i) class n 0 below
      ∙ ap (λ b. (is_among (take n class) i || (b == i))) (sym e) in
      elim (cases_eq i a) [
        | inl here ↦
            let inside : a < length marks = let w = h.whole in omega arith in
            let set_here : get_or (set marks a true) i false ≡ true =
            ap (λ k. get_or (set marks a true) k false) here ∙ (rw get_or-set_same refl) in
            let hit : (a == i) ≡ true = eq-eqb a i (sym here) in
            set_here ∙ sym (more ∙ ap (λ b. (is_among (take n class) i || b)) hit
            ∙ or-true (is_among (take n class) i))
        | inr other ↦
            let miss : (a == i) ≡ false = ne_eqb a i (λ s. other (sym s)) in
            let kept : get_or (set marks a true) i false ≡ get_or marks i false =
            rw get_or-set_other refl in
            kept ∙ h.same i i_below
            ∙ sym (more ∙ ap (λ b. (is_among (take n class) i || b)) miss
            ∙ or-false (is_among (take n class) i))
      ];
}

pub all_marks : (marks : List Bool) (q : ℕ) (class : List ℕ) → AreMarks marks q class →
    marks ≡ map (is_among class) (range_with_len 0 q)
all_marks marks q class h = fill_by_all (is_among class) marks q false h.whole h.same

-- the value of the zigzag at the quarter point r
abbrev pub quarter_value : Bool → ℕ → ℤ
quarter_value chosen r =
    if chosen then (if r == 1 then pos 1 else if r == 3 then pos 0 -ℤ pos 1 else pos 0) else pos 0

pub zigzag_from_marks : (q : ℕ) (class : List ℕ) (i : ℕ) (mark d : Bool) → i < q * 4 →
    mark ≡ get_or (map (is_among class) (range_with_len 0 q)) (i / 4) d →
    quarter_value mark (i % 4) ≡ zigzag q class i
zigzag_from_marks q class i mark d below e =
    let inside : i / 4 < q = omega arith in
    let chosen : mark ≡ is_among class (i / 4) =
    e ∙ get_or-map-range_with_len (is_among class) 0 q (i / 4) (i / 4) d inside (omega arith) in
    ap (λ b. quarter_value b (i % 4)) (chosen ∙ ap (is_among class) (sym (mod-eq_of_lt inside)))
