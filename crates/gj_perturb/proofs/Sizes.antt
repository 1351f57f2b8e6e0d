-- The greatest absolute value of the entries of a list.
use Rattle.std.proofs.Common.{◌≡◌, ℕ, ◌⊎◌, inl, inr, ◌+◌, ◌<◌, ◌≤◌, max, ℤ, pos, List, length, get_or, unsigned_abs, refl, sym, ap, subst, ◌∙◌, below_more, arith}
use Rattle.std.proofs.lemmas.Bool.{cases_lt}
use Rattle.std.proofs.lemmas.List.Elements.{All-from_get_or}
use Rattle.gj_shape.specs.FunctionData.{at}
use Rattle.gj_shape.specs.Perturbation.{IsGreatestSize}
use Rattle.gj_shape.proofs.AtLemmas.{at_below, all_at}

-- the size is reached at an index, or there is none yet
pub record IsReachedSize (xs : List ℤ) (size : ℕ) : Type 0 where
  pub i : ℕ
  pub below : i < length xs
  pub same : unsigned_abs (get_or xs i (pos 0)) ≡ size

pub record IsSizeBelow (xs : List ℤ) (n size : ℕ) : Type 0 where
  pub reached : (size ≡ 0) ⊎ IsReachedSize xs size
  pub greatest : (i : ℕ) → i < n → unsigned_abs (get_or xs i (pos 0)) ≤ size

pub no_size : (xs : List ℤ) → IsSizeBelow xs 0 0
no_size xs = record { reached = inl refl; greatest = λ i below. absurd (omega arith) }

either : (P : ℕ → Type 0) (x y m : ℕ) → m ≡ max x y → P x → P y → P m
either P x y m e first second = elim (cases_lt x y) [
  | inl less ↦ subst P (let same : y ≡ m = omega arith in same) second
  | inr more ↦ subst P (let same : x ≡ m = omega arith in same) first
]

pub one_size_more : (xs : List ℤ) (n size x more : ℕ) → n < length xs → IsSizeBelow xs n size →
    x ≡ unsigned_abs (get_or xs n (pos 0)) → more ≡ max size x → IsSizeBelow xs (n + 1) more
one_size_more xs n size x more below h e m = record {
  reached = either (λ k. (k ≡ 0) ⊎ IsReachedSize xs k) size x more m h.reached
      (inr (record { i = n; below = below; same = sym e }));
  greatest = below_more (λ i. unsigned_abs (get_or xs i (pos 0)) ≤ more) n
      (λ i before. let least = h.greatest i before in omega arith) (omega arith);
}

pub size_of_all : (xs : List ℤ) (size : ℕ) → 0 < length xs → IsSizeBelow xs (length xs) size →
    IsGreatestSize (at xs) size
size_of_all xs size some h = elim h.reached [
  | inl none ↦
      let most = each 0 in
      record {
        i = 0;
        reached =
            (let e : unsigned_abs (at xs 0) ≡ size = omega arith in e);
        greatest = each;
      }
  | inr found ↦
      record {
        i = found.i;
        reached = ap unsigned_abs (at_below xs found.i found.below)
            ∙ found.same;
        greatest = each;
      }
]
  where
    each : (j : ℕ) → unsigned_abs (at xs j) ≤ size
    each j = all_at (λ x. unsigned_abs x ≤ size) xs j some
        (All-from_get_or (λ x. unsigned_abs x ≤ size) xs (pos 0) h.greatest)
