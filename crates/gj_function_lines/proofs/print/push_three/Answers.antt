use Rattle.std.proofs.Common.{◌≡◌, List, ℕ, [], ◌∷◌, ◌++◌, ap, ◌∙◌}
use Rattle.std.proofs.lemmas.List.{append_assoc}
use Rattle.std.proofs.lemmas.Result.{IfOk-equal}
use Rattle.gj_lex.specs.NumberText.{fraction_text}
use Rattle.gj_function_lines.proofs.print.push_three.Goals as goal

joined : (before l v r blank a b c d : List ℕ) → a ≡ before ++ l → b ≡ a ++ blank → c ≡ b ++ v →
    d ≡ c ++ blank →
    d ++ r ≡ before ++ (l ++ blank ++ v ++ blank ++ r)
joined before l v r blank a b c d a_is b_is c_is d_is =
    ap (λ t. t ++ r) (d_is
    ∙ ap (λ t. t ++ blank) (c_is ∙ ap (λ t. t ++ v) (b_is ∙ ap (λ t. t ++ blank) a_is)))
    ∙ simp append_assoc

pub returns : goal.returns
returns c =
    let p = c.args.point in
    IfOk-equal c.print_frac-3.result _ _ _ c.print_frac-3.ensures.ok
    (joined c.args.out.now.items (fraction_text p.left) (fraction_text p.value)
    (fraction_text p.right) (32 ∷ []) _ _ _ _
    c.in_ok-print_frac.ensures.ok c.in_ok-extend_from_slice.ensures.items
    c.in_ok-print_frac-2.ensures.ok c.in_ok-extend_from_slice-2.ensures.items)
