-- The terms of a row's entries in whole and in continuous columns, and the cut that they make.
use Rattle.std.proofs.Common.{◌≡◌, ℕ, ◌+◌, ◌<◌, ◌++◌, Bool, true, false, cond, List, [], ◌∷◌, length, get_or, take, filter, map, sym, ap, subst₂, ◌∙◌, append-nil}
use Rattle.std.specs.List.{AllZip}
use Rattle.std.proofs.lemmas.List.{take_more}
use Rattle.std.proofs.lemmas.List.Elements.{filter-append}
use Rattle.gj_frac.specs.declared.Frac.{Frac}
use Rattle.gj_rule.specs.Kept.{KeptRule}
use Rattle.gj_rule.specs.Kind.{IsKindWithinBounds, IsKindValue, IsMinimalKind}
use Rattle.gj_rule.specs.declared.kind.RuleKind.{RuleKind}
use Rattle.gj_rule.specs.declared.kind.RuleKind.TheVariants.{Gmic, Table}
use Rattle.gj_row.specs.declared.tableau.Row.{Row}
use Rattle.gj_cut.specs.RowCuts.{HasPart, IsTermOf, IsTermOfKind}
use Rattle.gj_cut.specs.declared.cut.Term.{Term}
use Rattle.gj_cut.proofs.RowTerms.{zip_longer, zip_weaker}
use Rattle.gj_mixed.specs.MixedCuts.{IsWeightTerm, IsWeightTermOf, IsMixedCutOf, IsMixedCutOfKind, IsGmicMixedCutOf, MixedHoldsFor}
use Rattle.gj_mixed.specs.MixedCuts.{whole_entries, continuous_entries}
use Rattle.gj_mixed.specs.Slopes.{IsWeight, AreGmicSlopes, AreSlopesOfKind, KeptSlopes}
use Rattle.gj_mixed.specs.declared.cut.MixedCut.{MixedCut}
use Rattle.gj_mixed.specs.declared.cut.MixedCut.TheVariants.{Cut, Integral, OtherFraction}
use Rattle.gj_mixed.proofs.HeldCuts.{mixed_by_function, mixed_by_gmic}

-- ---- one more item of a list that is gone through

kept_one : {A : Type 0} (p : A → Bool) (x : A) → p x ≡ true → filter p (x ∷ []) ≡ x ∷ []
kept_one p x e = ap (λ b. cond b (x ∷ []) []) e

dropped_one : {A : Type 0} (p : A → Bool) (x : A) → p x ≡ false → filter p (x ∷ []) ≡ []
dropped_one p x e = ap (λ b. cond b (x ∷ []) []) e

-- the items that pass a test, with one more that passes it
pub zip_kept : {A B : Type 0} (R : A → B → Type 0) (p : A → Bool) (xs : List A) (i : ℕ) (x : A)
    (ys zs ws : List B) (y : B) →
    i < length xs → x ≡ get_or xs i x → p x ≡ true → ws ≡ zs → zs ≡ ys ++ y ∷ [] →
    AllZip R (filter p (take i xs)) ys → R x y →
    AllZip R (filter p (take (i + 1) xs)) ws
zip_kept R p xs i x ys zs ws y below here passes same next h last =
    let more : filter p (take (i + 1) xs) ≡ filter p (take i xs) ++ x ∷ [] =
    ap (filter p) (take_more xs i x below ∙ ap (λ z. take i xs ++ z ∷ []) (sym here))
    ∙ filter-append p (take i xs) (x ∷ [])
    ∙ ap (λ vs. filter p (take i xs) ++ vs) (kept_one p x passes) in
    subst₂ (AllZip R) (sym more) (sym (same ∙ next))
    (zip_longer R (filter p (take i xs)) ys x y h last)

-- and with one that fails it
pub zip_dropped : {A B : Type 0} (R : A → B → Type 0) (p : A → Bool) (xs : List A) (i : ℕ) (x : A)
    (ys zs : List B) → i < length xs →
    x ≡ get_or xs i x → p x ≡ false → zs ≡ ys → AllZip R (filter p (take i xs)) ys →
    AllZip R (filter p (take (i + 1) xs)) zs
zip_dropped R p xs i x ys zs below here fails same h =
    let more : filter p (take (i + 1) xs) ≡ filter p (take i xs) =
    ap (filter p) (take_more xs i x below ∙ ap (λ z. take i xs ++ z ∷ []) (sym here))
    ∙ filter-append p (take i xs) (x ∷ [])
    ∙ ap (λ vs. filter p (take i xs) ++ vs) (dropped_one p x fails)
    ∙ append-nil (filter p (take i xs)) in
    subst₂ (AllZip R) (sym more) (sym same) h

-- ---- the cut

-- a cut of values of a minimal kind and weights by its slopes holds
pub mixed_kind_holds : (kind : RuleKind) (up down : Frac) (row : Row) (terms weights : List Term) →
    IsKindWithinBounds kind → IsMinimalKind kind → HasPart kind row.rhs →
    AreSlopesOfKind kind up down →
    AllZip (IsKindValue kind) (map (λ t. t.entry) terms) (map (λ t. t.cut) terms) →
    AllZip (IsWeight up down) (map (λ t. t.entry) weights) (map (λ t. t.cut) weights) →
    MixedHoldsFor row (Cut terms weights)
mixed_kind_holds (Gmic f) up down row terms weights bounded minimal part slopes values weighed =
    mixed_by_gmic f up down (map (λ t. t.entry) terms) (map (λ t. t.entry) weights) row.rhs
    (map (λ t. t.cut) terms) (map (λ t. t.cut) weights) bounded.0 slopes part values weighed
mixed_kind_holds (Table shape) up down row terms weights bounded minimal part slopes values
    weighed =
    mixed_by_function shape up down (map (λ t. t.entry) terms) (map (λ t. t.entry) weights) row.rhs
    (map (λ t. t.cut) terms) (map (λ t. t.cut) weights) bounded slopes.0 minimal slopes.1 part
    values weighed

-- ---- cuts by any rule of a kind and any evaluator of weights

pub mixed_cut_of_kind : {E G : Type 0} (answers : E → Frac → Frac → Type 0) (weighs : G → Frac →
    Frac → Type 0) (rule : KeptRule E)
    (slopes : KeptSlopes G) (continuous : List Bool) (row : Row) (cut : MixedCut) →
    IsMixedCutOf answers weighs rule slopes continuous row cut →
    IsMixedCutOfKind rule.kind slopes.up slopes.down continuous row cut
mixed_cut_of_kind answers weighs rule slopes continuous row (Cut terms weights) h = (
  h.0,
  h.1,
  zip_weaker (IsTermOf answers rule) (IsTermOfKind rule.kind) (whole_entries continuous row.entries)
      terms (λ e t p. p.of_kind) h.2,
  zip_weaker (IsWeightTermOf weighs slopes) (IsWeightTerm slopes.up slopes.down)
      (continuous_entries continuous row.entries) weights (λ e t p. p.of_slopes) h.3,
)
mixed_cut_of_kind answers weighs rule slopes continuous row Integral h = h
mixed_cut_of_kind answers weighs rule slopes continuous row OtherFraction h = h

pub gmic_mixed_cut_of : (f up down : Frac) (continuous : List Bool) (row : Row) (cut : MixedCut) →
    AreGmicSlopes f up down →
    HasPart (Gmic f) row.rhs → IsMixedCutOfKind (Gmic f) up down continuous row cut →
    IsGmicMixedCutOf continuous row cut
gmic_mixed_cut_of f up down continuous row (Cut terms weights) slopes part h =
    (f, up, down, slopes, h)
gmic_mixed_cut_of f up down continuous row Integral slopes part h = h
gmic_mixed_cut_of f up down continuous row OtherFraction slopes part h = absurd (h.1 part)
