-- The lines of claims about functions that jump, written one part after another.
use Rattle.std.proofs.Common.{◌≡◌, ℕ, ◌+◌, List, [], ◌∷◌, ◌++◌, map, flat_map, zero-add, sym, ap, ◌∙◌}
use Rattle.std.specs.List.{range_with_len}
use Rattle.std.proofs.lemmas.Grind.{flat_map-append}
use Rattle.std.proofs.lemmas.List.{append_assoc, append-nil}
use Rattle.std.proofs.lemmas.List.FromFn.{map-range_with_len_more}
use Rattle.gj_shape.specs.declared.extremality.LimitHalves.{LimitHalves}
use Rattle.gj_limit_proof.specs.LimitText.{triple_at, pair_line}
use Rattle.gj_limit_proof.specs.declared.triple.Triple.{Triple}
use Rattle.gj_limit_proof.proofs.Triples.{pair_at}

-- the lines of the first pairs
abbrev pub first_pairs : LimitHalves → ℕ → List ℕ
first_pairs h i = flat_map pair_line (map (pair_at h) (range_with_len 0 i))

one_more : (h : LimitHalves) (i : ℕ) →
    first_pairs h (i + 1) ≡ first_pairs h i ++ pair_line (pair_at h i)
one_more h i =
    ap (flat_map pair_line) (map-range_with_len_more (pair_at h) 0 i i (zero-add i))
    ∙ flat_map-append pair_line (map (pair_at h) (range_with_len 0 i)) (pair_at h i ∷ [])
    ∙ ap (λ t. first_pairs h i ++ t) (append-nil (pair_line (pair_at h i)))

-- one pair more
pub pair_pushed : (h : LimitHalves) (i : ℕ) (s t : Triple) (start head old new : List ℕ) →
    s ≡ triple_at h.first i →
    t ≡ triple_at h.second i → old ≡ start ++ (head ++ first_pairs h i) →
    new ≡ old ++ pair_line (s, t) →
    new ≡ start ++ (head ++ first_pairs h (i + 1))
pair_pushed h i s t start head old new s_is t_is old_is new_is =
    new_is ∙ ap (λ u. u ++ pair_line (s, t)) old_is
    ∙ (λ j. start ++ (head ++ first_pairs h i) ++ pair_line (s_is j, t_is j))
    ∙ regroup start head (first_pairs h i) (pair_line (pair_at h i))
    ∙ ap (λ u. start ++ (head ++ u)) (sym (one_more h i))
  where
    regroup : (a b c d : List ℕ) → a ++ (b ++ c) ++ d ≡ a ++ (b ++ (c ++ d))
    regroup a b c d = simp append_assoc
