use Rattle.std.proofs.Common.{◌≡◌, pos, ◌∷◌, [], ◌++◌, w64, to_z, of_z, ap, subst₂, ◌∙◌, rules}
use Rattle.std.proofs.lemmas.Int.{to_z-of_z}
use Rattle.gj_frac.specs.Fraction.{IsRatio}
use Rattle.gj_lex.specs.NumberText.{fraction_text}
use Rattle.gj_top.proofs.fill.pair_line.Goals as goal

pub returns : goal.returns
returns c =
    let first : to_z w64 (of_z w64 c.from.result) ≡ pos c.args.a =
    to_z-of_z w64 c.from.result (search rules) ∙ c.from.ensures in
    let second : to_z w64 (of_z w64 c.from-2.result) ≡ pos c.args.b =
    to_z-of_z w64 c.from-2.result (search rules) ∙ c.from-2.ensures in
    record {
      a = c.args.a;
      b = c.args.b;
      first = c.requires;
      x = c.ratio.result;
      y = c.ratio-2.result;
      x_is = subst₂ (λ n q. IsRatio c.ratio.result n (pos q)) first c.order.ensures.value
          c.ratio.ensures;
      y_is = subst₂ (λ n q. IsRatio c.ratio-2.result n (pos q)) second c.order-2.ensures.value
          c.ratio-2.ensures;
      spelled = c.in_ok-push-2.ensures.items
          ∙ ap (λ xs. xs ++ 10 ∷ []) (c.in_ok-print_frac-2.ensures.ok
          ∙ ap (λ xs. xs ++ fraction_text c.ratio-2.result) (c.in_ok-push.ensures.items
          ∙ ap (λ xs. xs ++ 32 ∷ []) (c.in_ok-print_frac.ensures.ok
          ∙ ap (λ xs. xs ++ fraction_text c.ratio.result) c.in_ok-text.ensures.items)));
    }
