-- Things of two lists, printed pair by pair.
use Rattle.std.proofs.Common.{◌≡◌, ℕ, ◌+◌, ◌<◌, ◌≤◌, List, [], ◌∷◌, ◌++◌, length, drop, get_or, flat_map, map, append_assoc, append-nil, refl, sym, ap, ap₂, ◌∙◌}
use Rattle.std.proofs.lemmas.Grind.{flat_map-append}
use Rattle.std.proofs.lemmas.List.{drop_all}
use Rattle.gj_problem.specs.declared.problem.Column.{Column}
use Rattle.gj_problem.specs.declared.problem.Constraint.{Constraint}
use Rattle.gj_problem.specs.declared.problem.Problem.{Problem}
use Rattle.gj_forms.specs.LineForms.{line_of}
use Rattle.gj_problem_text.proofs.PrintedItems.{next_item}
use Rattle.gj_problem_text.specs.PrintedProblem.{column_told, constraint_told, each_told, printed, problem_lines}
use Rattle.gj_problem_text.specs.ProblemLines.{ProblemLine, problem_form}
use Rattle.gj_derivation_text.specs.PrintedDerivation.{each_pair}

module _ {A B C : Type 0} (make : A → B → List C) where
  pub no_pairs : (first : List A) → each_pair make first [] ≡ []
  no_pairs [] = refl
  no_pairs (a ∷ first) = refl

  -- what is made now, and of these pairs, is made of all pairs behind what stood before
  abbrev pub ArePairs : List C → List A → List B → List C → List A → List B → Type 0
  ArePairs before first second now left right = now ++ each_pair make left right
      ≡ before ++ each_pair make first second

  pub one_pair : (before now next : List C) (first : List A) (second : List B) (i : ℕ) (a : A)
      (b : B) → i < length first → i < length second →
      a ≡ get_or first i a → b ≡ get_or second i b →
      ArePairs before first second now (drop i first) (drop i second) → next ≡ now ++ make a b →
      ArePairs before first second next (drop (i + 1) first) (drop (i + 1) second)
  one_pair before now next first second i a b below below' here here' h is =
      let rest = each_pair make (drop (i + 1) first) (drop (i + 1) second) in
      ap (λ (t : List C). t ++ rest) is ∙ append_assoc now (make a b) rest
      ∙ sym (ap₂ (λ (xs : List A) (ys : List B). now ++ each_pair make xs ys)
      (next_item first i a below here) (next_item second i b below' here')) ∙ h

  pub all_pairs : (before now : List C) (first : List A) (second : List B) (i : ℕ) →
      length second ≤ i →
      ArePairs before first second now (drop i first) (drop i second) →
      now ≡ before ++ each_pair make first second
  all_pairs before now first second i end h =
      sym (append-nil now)
      ∙ sym (ap (λ (xs : List C). now ++ xs)
      (ap (each_pair make (drop i first)) (drop_all i second end) ∙ no_pairs (drop i first)))
      ∙ h

pub same_pairs : {A B C : Type 0} (make other : A → B → List C) →
    ((a : A) (b : B) → make a b ≡ other a b) → (first : List A) (second : List B) →
    each_pair make first second ≡ each_pair other first second
same_pairs make other same [] second = refl
same_pairs make other same (a ∷ first) [] = refl
same_pairs make other same (a ∷ first) (b ∷ second) =
    ap₂ (λ xs ys. xs ++ ys) (same a b) (same_pairs make other same first second)

-- ---- the lines of a problem

told_pairs : {A : Type 0} (told : List ℕ → A → List ProblemLine) (names : List (List ℕ))
    (things : List A) →
    printed (each_told told names things) ≡ each_pair (λ name a. printed (told name a)) names things
told_pairs told [] things = refl
told_pairs told (name ∷ names) [] = refl
told_pairs told (name ∷ names) (a ∷ things) =
    flat_map-append (line_of problem_form) (told name a) (each_told told names things)
    ∙ ap (λ xs. printed (told name a) ++ xs) (told_pairs told names things)

-- the columns, and then the constraints
pub problem_is : (names constraints : List (List ℕ)) (p : Problem) →
    problem_lines names constraints p
    ≡ each_pair (λ name (c : Column). line_of problem_form (column_told name c)) names p.columns
    ++ each_pair (λ name (c : Constraint). printed (constraint_told names name c)) constraints
    p.constraints
problem_is names constraints p =
    let columns = each_told (λ name (c : Column). column_told name c ∷ []) names p.columns in
    let others = each_told (constraint_told names) constraints p.constraints in
    flat_map-append (line_of problem_form) columns others
    ∙ ap₂ (λ xs ys. xs ++ ys)
    (told_pairs (λ name (c : Column). column_told name c ∷ []) names p.columns
    ∙ same_pairs (λ name (c : Column). printed (column_told name c ∷ []))
    (λ name (c : Column). line_of problem_form (column_told name c))
    (λ name c. append-nil (line_of problem_form (column_told name c))) names p.columns)
    (told_pairs (constraint_told names) constraints p.constraints)
