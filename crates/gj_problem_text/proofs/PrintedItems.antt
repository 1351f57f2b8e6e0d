-- Items that are printed one behind another.
use Rattle.std.proofs.Common.{◌≡◌, ℕ, ◌+◌, ◌<◌, ◌≤◌, List, ◌∷◌, ◌++◌, length, drop, get_or, flat_map, sym, ap, ◌∙◌}
use Rattle.std.proofs.lemmas.List.{append_assoc, append-nil, drop_more, drop_all}

pub next_item : {A : Type 0} (xs : List A) (i : ℕ) (x : A) → i < length xs → x ≡ get_or xs i x →
    drop i xs ≡ x ∷ drop (i + 1) xs
next_item xs i x below here = drop_more xs i x below ∙ ap (λ y. y ∷ drop (i + 1) xs) (sym here)

module _ {A : Type 0} (print : A → List ℕ) where
  -- what is printed now, and these items, are all items behind what stood before
  abbrev pub ArePrinted : List ℕ → List A → List ℕ → List A → Type 0
  ArePrinted before xs now left = now ++ flat_map print left ≡ before ++ flat_map print xs

  pub one_printed : (before now next : List ℕ) (xs : List A) (i : ℕ) (x : A) → i < length xs →
      x ≡ get_or xs i x →
      ArePrinted before xs now (drop i xs) → next ≡ now ++ print x →
      ArePrinted before xs next (drop (i + 1) xs)
  one_printed before now next xs i x below here h is =
      ap (λ t. t ++ flat_map print (drop (i + 1) xs)) is
      ∙ append_assoc now (print x) (flat_map print (drop (i + 1) xs))
      ∙ sym (ap (λ (ys : List A). now ++ flat_map print ys) (next_item xs i x below here)) ∙ h

  pub all_printed : (before now : List ℕ) (xs : List A) (i : ℕ) → length xs ≤ i →
      ArePrinted before xs now (drop i xs) →
      now ≡ before ++ flat_map print xs
  all_printed before now xs i end h =
      sym (append-nil now)
      ∙ sym (ap (λ (ys : List A). now ++ flat_map print ys) (drop_all i xs end)) ∙ h
