use Rattle.std.proofs.Common.{◌≡◌, Bool, true, false, not, refl, sym, ◌∙◌, subst, List, ℕ, Contains}
use Rattle.std.proofs.lemmas.Bool.{eqb-true, false≢true}
use Rattle.std.proofs.lemmas.Map.Views.{Contains-from_any}
use Rattle.gj_derivation_text.proofs.indices.Indices.insert.Goals as goal

true_from_not : (b : Bool) → not b ≡ false → b ≡ true
true_from_not true h = refl
true_from_not false h = absurd (false≢true (sym h))

pub returns-clause-known : goal.returns-clause-known
returns-clause-known c = λ is.
    subst (λ (ks : List ℕ). Contains ks c.args.index) c.self.view_is
    (Contains-from_any eqb-true c.args.index c.self.inside.indices.keys
    (true_from_not _ (sym c.in_ok-is_new.ensures.added ∙ is)))
