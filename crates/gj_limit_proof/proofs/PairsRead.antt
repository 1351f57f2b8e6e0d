-- The lines of halves, read one after another.
use Rattle.std.proofs.Common.{◌≡◌, ℕ, ◌+◌, ◌<◌, ◌≤◌, List, [], ◌∷◌, ◌++◌, map, refl, sym, ap, ◌∙◌}
use Rattle.std.proofs.lemmas.List.{map-append}
use Rattle.gj_forms.proofs.ListRead.{LeavesTimes, times_begin, times_on, times_end}
use Rattle.gj_shape.specs.declared.extremality.SideNumbers.{SideNumbers}
use Rattle.gj_limit_proof.specs.LimitGrammar.{pair_part, pairs_part, side_numbers_of}
use Rattle.gj_limit_proof.specs.declared.triple.Triple.{Triple}
use Rattle.gj_limit_proof.proofs.PairForms.{Pair}

-- i pairs of n are read, as two functions
pub record ArePairsRead (n i : ℕ) (text rest : List ℕ) (first second : SideNumbers) : Type 0 where
  pub pairs : List Pair
  pub leaves : LeavesTimes pair_part n i text rest pairs
  pub first_are : first ≡ side_numbers_of (map (λ (p : Pair). p.0) pairs)
  pub second_are : second ≡ side_numbers_of (map (λ (p : Pair). p.1) pairs)

pub pairs_begin : (n : ℕ) (text : List ℕ) (first second : SideNumbers) →
    first ≡ side_numbers_of [] → second ≡ side_numbers_of [] →
    ArePairsRead n 0 text text first second
pairs_begin n text first second first_is second_is =
    record {
      pairs = [];
      leaves = times_begin pair_part n text;
      first_are = first_is;
      second_are =
          second_is;
    }

pub pairs_on : (n i : ℕ) (text rest behind : List ℕ)
    (first second new_first new_second : SideNumbers) (p : Pair) →
    ArePairsRead n i text rest first second → i < n → pair_part.Reads rest p behind →
    ((ts : List Triple) → first ≡ side_numbers_of ts →
    new_first ≡ side_numbers_of (ts ++ p.0 ∷ [])) →
    ((ts : List Triple) → second ≡ side_numbers_of ts →
    new_second ≡ side_numbers_of (ts ++ p.1 ∷ [])) →
    ArePairsRead n (i + 1) text behind new_first new_second
pairs_on n i text rest behind first second new_first new_second p h below one first_on second_on =
    record {
      pairs = h.pairs ++ p ∷ [];
      leaves = times_on pair_part n i text rest h.pairs h.leaves below behind
          (h.pairs ++ p ∷ []) p one refl;
      first_are = first_on (map (λ (p : Pair). p.0) h.pairs) h.first_are
          ∙ ap side_numbers_of (sym (map-append (λ (p : Pair). p.0) h.pairs (p ∷ [])));
      second_are = second_on (map (λ (p : Pair). p.1) h.pairs) h.second_are
          ∙ ap side_numbers_of (sym (map-append (λ (p : Pair). p.1) h.pairs (p ∷ [])));
    }

pub pairs_end : (n i : ℕ) (text rest : List ℕ) (first second : SideNumbers) →
    ArePairsRead n i text rest first second → n ≤ i →
    (pairs : List Pair) × (pairs_part n).Reads text pairs rest
    × (first ≡ side_numbers_of (map (λ p. p.0) pairs))
    × (second ≡ side_numbers_of (map (λ p. p.1) pairs))
pairs_end n i text rest first second h over =
    (h.pairs, times_end pair_part n i text rest h.pairs h.leaves over, h.first_are, h.second_are)
