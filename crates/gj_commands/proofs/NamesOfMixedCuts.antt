-- The lines of the mixed cuts of a tableau have the names of its variables.
use Rattle.std.proofs.Common.{ℕ, ◌<◌, List, [], ◌∷◌, ◌++◌, All, length, map, sym, subst}
use Rattle.std.specs.List.{AllZip}
use Rattle.std.proofs.lemmas.List.Elements.{All-nil, All-cons, All-head, All-tail, All-get_or}
use Rattle.gj_lex.specs.Name.{IsName}
use Rattle.gj_row.specs.TableauLimits.{IsTableau, IsRowWithinLimits}
use Rattle.gj_row.specs.declared.tableau.Row.{Row}
use Rattle.gj_row.specs.declared.tableau.Tableau.{Tableau}
use Rattle.gj_rule.specs.declared.kind.RuleKind.TheVariants as kind
use Rattle.gj_cut.specs.declared.cut.Term.{Term}
use Rattle.gj_mixed.specs.declared.cut.MixedCut.{MixedCut}
use Rattle.gj_mixed.specs.declared.cut.MixedCut.TheVariants as mixed_cut
use Rattle.gj_proof.specs.declared.cut.CutLine.{CutLine}
use Rattle.gj_proof.specs.declared.cut.CutLine.TheVariants.{Cut, Skip}
use Rattle.gj_proof.specs.declared.cut.CutRule.{CutRule}
use Rattle.gj_proof.specs.declared.cut.CutRule.TheVariants.{Gmic, Table}
use Rattle.gj_proof.specs.declared.cut.CutTerm.{CutTerm}
use Rattle.gj_proof.specs.declared.cut.SkipReason.TheVariants.{Integral, Other}
use Rattle.gj_cut_text.specs.Columns.{continuous_columns}
use Rattle.gj_cut_text.specs.MixedLines.{AreInColumns, IsMixedCutBy, IsMixedLineFor, IsNamedTerm, NamesMixedCut}
use Rattle.gj_cut_text.specs.declared.mixed_lines.MixedLine.{MixedLine}
use Rattle.gj_cut_text.proofs.MixedRowLines.{cut_in_columns, gmic_in_columns}
use Rattle.gj_commands.specs.MixedNames.{HasMixedNames}

abbrev HasTermName : CutTerm → Type 0
HasTermName t = IsName t.name

first_named : (names others : List (List ℕ)) → All IsName (names ++ others) → All IsName names
first_named [] others h = All-nil IsName
first_named (n ∷ names) others h =
    All-cons IsName n names (All-head IsName n (names ++ others) h)
    (first_named names others (All-tail IsName n (names ++ others) h))

rest_named : (names others : List (List ℕ)) → All IsName (names ++ others) → All IsName others
rest_named [] others h = h
rest_named (n ∷ names) others h = rest_named names others (All-tail IsName n (names ++ others) h)

module _ (columns : List (List ℕ)) (are : All IsName columns) where
  abbrev IsBelow : Term → Type 0
  IsBelow t = t.column < length columns

  terms_named : (terms : List Term) (named : List CutTerm) → All IsBelow terms →
      AllZip (IsNamedTerm columns) terms named →
      All HasTermName named
  terms_named [] [] below h = All-nil HasTermName
  terms_named [] (c ∷ named) below h = absurd h
  terms_named (t ∷ terms) [] below h = absurd h
  terms_named (t ∷ terms) (c ∷ named) below h =
      All-cons HasTermName c named
      (subst IsName (sym h.0.name)
      (All-get_or IsName columns t.column [] (All-head IsBelow t terms below) are))
      (terms_named terms named (All-tail IsBelow t terms below) h.1)

  below_by : (r : CutRule) (row : Row) (cut : MixedCut) → IsRowWithinLimits (length columns) row →
      IsMixedCutBy r columns row cut →
      AreInColumns (length columns) cut
  below_by Gmic row cut limits h =
      gmic_in_columns (continuous_columns columns) (length columns) row cut limits h
  below_by (Table f) row cut limits (up, down, slopes, h) =
      cut_in_columns (kind.Table f) up down (continuous_columns columns)
      (length columns) row cut limits h

  line_named : (row : Row) (cut : MixedCut) (line : CutLine) (weights : List CutTerm) →
      IsName row.basic → AreInColumns (length columns) cut →
      NamesMixedCut columns row cut line weights →
      HasMixedNames (record { line = line; weights = weights })
  line_named row (mixed_cut.Cut terms weights) (Cut name right named) weighed basic below n = (
    (subst IsName (sym n.0) basic, terms_named terms named below.0 n.2),
    terms_named weights weighed below.1 n.3,
  )
  line_named row mixed_cut.Integral (Skip name right Integral) weighed basic below n =
      (subst IsName (sym n.0) basic, subst (All HasTermName) (sym n.2) (All-nil HasTermName))
  line_named row mixed_cut.OtherFraction (Skip name right Other) weighed basic below n =
      (subst IsName (sym n.0) basic, subst (All HasTermName) (sym n.2) (All-nil HasTermName))
  line_named row cut line weighed basic below n = absurd n

  all_named : (r : CutRule) (rows : List Row) (lines : List MixedLine) →
      All IsName (map (λ row. row.basic) rows) →
      All (IsRowWithinLimits (length columns)) rows → AllZip (IsMixedLineFor r columns) rows lines →
      All HasMixedNames lines
  all_named r [] [] basic limits h = All-nil HasMixedNames
  all_named r [] (m ∷ lines) basic limits h = absurd h
  all_named r (row ∷ rows) [] basic limits h = absurd h
  all_named r (row ∷ rows) (m ∷ lines) basic limits h =
      let within = All-head (IsRowWithinLimits (length columns)) row rows limits in
      let others = map (λ (row : Row). row.basic) rows in
      All-cons HasMixedNames m lines
      (line_named row h.0.cut m.line m.weights (All-head IsName row.basic others basic)
      (below_by r row h.0.cut within h.0.is_cut) h.0.names)
      (all_named r rows lines (All-tail IsName row.basic others basic)
      (All-tail (IsRowWithinLimits (length columns)) row rows limits) h.1)

pub lines_have_names : (r : CutRule) (t : Tableau) → IsTableau t → (lines : List MixedLine) →
    AllZip (IsMixedLineFor r t.columns) t.rows lines → All HasMixedNames lines
lines_have_names r t is lines h =
    let basic = map (λ (row : Row). row.basic) t.rows in
    all_named t.columns (first_named t.columns basic is.names.valid) r t.rows lines
    (rest_named t.columns basic is.names.valid) is.each_row h
