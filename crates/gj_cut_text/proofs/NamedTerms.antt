-- Terms with the names of their columns, and their lines.
use Rattle.std.proofs.Common.{◌≡◌, ℕ, List, [], ◌∷◌, ◌++◌, codes, flat_map, get_or, map, refl, sym, ap, ap₂, ◌∙◌, append_assoc}
use Rattle.std.specs.List.{AllZip}
use Rattle.gj_lex.specs.NumberText.{fraction_text}
use Rattle.gj_cut.specs.declared.cut.Term.{Term}
use Rattle.gj_proof.specs.ProofText.{term_line}
use Rattle.gj_proof.specs.declared.cut.CutTerm.{CutTerm}
use Rattle.gj_cut_text.specs.MixedLines.{IsNamedTerm, named_line, weight_line}

-- the term with the name of its column
abbrev pub named_term : List (List ℕ) → Term → CutTerm
named_term columns t = record { name = get_or columns t.column []; entry = t.entry; cut = t.cut }

pub are_named : (columns : List (List ℕ)) (terms : List Term) →
    AllZip (IsNamedTerm columns) terms (map (named_term columns) terms)
are_named columns [] = tt
are_named columns (t ∷ terms) =
    (record { name = refl; entry = refl; cut = refl }, are_named columns terms)

-- lines that are those of a word, each, are so together
lines_of_named : (word : List ℕ) (columns : List (List ℕ)) (line : CutTerm → List ℕ)
    (terms : List Term) →
    ((t : Term) → named_line word columns t ≡ line (named_term columns t)) →
    flat_map (named_line word columns) terms ≡ flat_map line (map (named_term columns) terms)
lines_of_named word columns line [] same = refl
lines_of_named word columns line (t ∷ terms) same =
    ap₂ (λ (xs ys : List ℕ). xs ++ ys) (same t) (lines_of_named word columns line terms same)

pub term_lines_are : (columns : List (List ℕ)) (terms : List Term) →
    flat_map (named_line (codes "term ") columns) terms
    ≡ flat_map term_line (map (named_term columns) terms)
term_lines_are columns terms = lines_of_named (codes "term ") columns term_line terms (λ t. refl)

-- three texts, a space before the second and the third, and a line feed, put together one by one
one_by_one : (first second third : List ℕ) →
    first ++ (32 ∷ (second ++ (32 ∷ (third ++ 10 ∷ []))))
    ≡ ((((first ++ 32 ∷ []) ++ second) ++ 32 ∷ []) ++ third) ++ 10 ∷ []
one_by_one first second third =
    sym (append_assoc (((first ++ 32 ∷ []) ++ second) ++ 32 ∷ []) third (10 ∷ [])
    ∙ append_assoc ((first ++ 32 ∷ []) ++ second) (32 ∷ []) (third ++ 10 ∷ [])
    ∙ append_assoc (first ++ 32 ∷ []) second (32 ∷ (third ++ 10 ∷ []))
    ∙ append_assoc first (32 ∷ []) (second ++ (32 ∷ (third ++ 10 ∷ []))))

pub weight_lines_are : (columns : List (List ℕ)) (terms : List Term) →
    flat_map (named_line (codes "weight ") columns) terms
    ≡ flat_map weight_line (map (named_term columns) terms)
weight_lines_are columns terms =
    lines_of_named (codes "weight ") columns weight_line terms
    (λ t. ap (λ xs. codes "weight " ++ xs)
    (one_by_one (get_or columns t.column []) (fraction_text t.entry) (fraction_text t.cut)))
