-- Lines of a cut, printed part by part.
use Rattle.std.proofs.Common.{◌≡◌, ℕ, List, [], ◌∷◌, ◌++◌, codes, ap, ◌∙◌}
use Rattle.std.proofs.lemmas.List.{append_assoc}
use Rattle.gj_lex.specs.NumberText.{fraction_text}
use Rattle.gj_problem.specs.declared.problem.Entry.{Entry}
use Rattle.gj_problem_text.specs.CutText.{name_at, cut_term_line}

joined : (front name number : List ℕ) → (((front ++ name) ++ 32 ∷ []) ++ number) ++ 10 ∷ []
    ≡ front ++ (name ++ 32 ∷ (number ++ 10 ∷ []))
joined front name number =
    append_assoc ((front ++ name) ++ 32 ∷ []) number (10 ∷ [])
    ∙ append_assoc (front ++ name) (32 ∷ []) (number ++ 10 ∷ [])
    ∙ append_assoc front name (32 ∷ (number ++ 10 ∷ []))

pub term_pushed : (names : List (List ℕ)) (e : Entry) (before a b c d end name : List ℕ) →
    a ≡ before ++ codes "term " → b ≡ a ++ name →
    name ≡ name_at names e.column → c ≡ b ++ 32 ∷ [] → d ≡ c ++ fraction_text e.value →
    end ≡ d ++ 10 ∷ [] →
    end ≡ before ++ cut_term_line names e
term_pushed names e before a b c d end name a_is b_is name_is c_is d_is end_is =
    let x = fraction_text e.value in
    end_is ∙ ap (λ t. t ++ 10 ∷ [])
    (d_is ∙ ap (λ t. t ++ x) (c_is ∙ ap (λ t. t ++ 32 ∷ []) (b_is ∙ ap (λ t. t ++ name) a_is)))
    ∙ joined (before ++ codes "term ") name x
    ∙ ap (λ n. (before ++ codes "term ") ++ (n ++ 32 ∷ (x ++ 10 ∷ []))) name_is
    ∙ append_assoc before (codes "term ") (name_at names e.column ++ 32 ∷ (x ++ 10 ∷ []))

pub three_parts : (front name before a b end : List ℕ) → a ≡ before ++ front → b ≡ a ++ name →
    end ≡ b ++ 10 ∷ [] →
    end ≡ before ++ (front ++ (name ++ 10 ∷ []))
three_parts front name before a b end a_is b_is end_is =
    end_is ∙ ap (λ t. t ++ 10 ∷ []) (b_is ∙ ap (λ t. t ++ name) a_is)
    ∙ append_assoc (before ++ front) name (10 ∷ [])
    ∙ append_assoc before front (name ++ 10 ∷ [])
