-- Pieces that are changed in place, one after the other: those before the index have been changed,
-- and the others are as they were.
use Rattle.std.proofs.Common.{◌≡◌, ℕ, ◌+◌, ◌<◌, ◌≤◌, List, [], ◌∷◌, ◌++◌, length, get_or, set, take, drop, append_assoc, append-nil, sym, ap, ap₂, subst, subst₂, ◌∙◌, arith}
use Rattle.std.specs.List.{AllZip}
use Rattle.std.proofs.Math.ListN.{drop_of_length-le}
use Rattle.std.proofs.Math.Seq.{set-append_seam, get_or-append_seam}
use Rattle.std.proofs.lemmas.List.{take_more, take_all, drop_more, length-take-le}
use Rattle.std.proofs.lemmas.List.Elements.{length_all_zip}
use Rattle.gj_problem.specs.declared.pieces.Piece.{Piece}
use Rattle.gj_problem.proofs.MadePieces.{zip_joined}

module _ (R : Piece → Piece → Type 0) (ps now made : List Piece) (i : ℕ) (s : Piece)
    (below : i < length ps) (is : now ≡ made ++ drop i ps)
    (are : AllZip R (take i ps) made) where
  count : length made ≡ i
  count = sym (length_all_zip R (take i ps) made are) ∙ length-take-le i ps (omega (arith, below))

  place : now ≡ made ++ get_or ps i s ∷ drop (i + 1) ps
  place = is ∙ ap (λ (xs : List Piece). made ++ xs) (drop_more ps i s below)

  pub item_is : get_or now i s ≡ get_or ps i s
  item_is =
      ap₂ (λ (xs : List Piece) (k : ℕ). get_or xs k s) place (sym count)
      ∙ get_or-append_seam made (get_or ps i s) (drop (i + 1) ps) s

  pub item_taken : take (i + 1) ps ≡ take i ps ++ get_or now i s ∷ []
  item_taken = take_more ps i s below ∙ ap (λ (z : Piece). take i ps ++ z ∷ []) (sym item_is)

  pub item_set : (t : Piece) → set now i t ≡ (made ++ t ∷ []) ++ drop (i + 1) ps
  item_set t =
      ap₂ (λ (xs : List Piece) (k : ℕ). set xs k t) place (sym count)
      ∙ set-append_seam made (get_or ps i s) (drop (i + 1) ps) t
      ∙ sym (append_assoc made (t ∷ []) (drop (i + 1) ps))

  pub item_changed : (t : Piece) → R (get_or now i s) t →
      AllZip R (take (i + 1) ps) (made ++ t ∷ [])
  item_changed t change =
      subst (λ (xs : List Piece). AllZip R xs (made ++ t ∷ [])) (sym item_taken)
      (zip_joined R (take i ps) (get_or now i s ∷ []) made (t ∷ []) are (change, tt))

pub all_changed : (R : Piece → Piece → Type 0) (ps now made : List Piece) (i : ℕ) → length ps ≤ i →
    now ≡ made ++ drop i ps → AllZip R (take i ps) made →
    AllZip R ps now
all_changed R ps now made i end is are =
    subst₂ (λ (xs ys : List Piece). AllZip R xs ys) (take_all i ps end)
    (sym (is ∙ ap (λ (xs : List Piece). made ++ xs) (drop_of_length-le ps end) ∙ append-nil made))
    are
