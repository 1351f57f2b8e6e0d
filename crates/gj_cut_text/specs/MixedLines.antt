-- The lines of rows with continuous columns (Gomory and Johnson 1972; the form is own).
use Rattle.std.specs.Prelude.{ℕ, ◌≡◌, ◌<◌, Bool, true, false, List, [], ◌∷◌, ◌++◌, All, codes, flat_map, get_or, map}
use Rattle.std.specs.List.{AllZip}
use Rattle.gj_frac.specs.declared.Frac.{Frac}
use Rattle.gj_shape.specs.FunctionData.{IsContinuous}
use Rattle.gj_shape.specs.Table.{IsMinimal}
use Rattle.gj_lex.specs.NumberText.{fraction_text}
use Rattle.gj_function_lines.specs.FunctionLines.{line}
use Rattle.gj_row.specs.declared.tableau.Row.{Row}
use Rattle.gj_row.specs.declared.tableau.Tableau.{Tableau}
use Rattle.gj_rule.specs.declared.kind.RuleKind.TheVariants as kind
use Rattle.gj_cut.specs.RowCuts.{IsCutOfKind, IsGmicCutOf}
use Rattle.gj_cut.specs.declared.cut.RowCut.{RowCut}
use Rattle.gj_cut.specs.declared.cut.Term.{Term}
use Rattle.gj_mixed.specs.MixedCuts.{IsMixedCutOfKind, IsGmicMixedCutOf, MixedHoldsFor, without_weights}
use Rattle.gj_mixed.specs.MixedRows.{MixedCutHolds}
use Rattle.gj_mixed.specs.Slopes.{AreSlopesAtZero}
use Rattle.gj_mixed.specs.declared.cut.MixedCut.{MixedCut}
use Rattle.gj_mixed.specs.declared.cut.MixedCut.TheVariants as mixed_cut
use Rattle.gj_proof.specs.ProofText.{row_text}
use Rattle.gj_proof.specs.ProofText.{AreSubjectLines, subject_of_rule}
use Rattle.gj_proof.specs.declared.cut.CutLine.{CutLine}
use Rattle.gj_proof.specs.declared.cut.CutLine.TheVariants.{Cut, Skip}
use Rattle.gj_proof.specs.declared.cut.CutRule.{CutRule}
use Rattle.gj_proof.specs.declared.cut.CutRule.TheVariants.{Gmic, Table}
use Rattle.gj_proof.specs.declared.cut.CutTerm.{CutTerm}
use Rattle.gj_proof.specs.declared.cut.SkipReason.TheVariants.{Integral, Other}
use Rattle.gj_cut_text.specs.Columns.{continuous_columns}
use Rattle.gj_cut_text.specs.declared.mixed_lines.MixedLine.{MixedLine}

-- ---- the line of a row

-- the term with the name of its column
pub record IsNamedTerm (columns : List (List ℕ)) (t : Term) (named : CutTerm) : Type 0 where
  pub name : named.name ≡ get_or columns t.column []
  pub entry : named.entry ≡ t.entry
  pub cut : named.cut ≡ t.cut

-- the cut of the row by the rule: by a function with its slopes at 0, or the mixed-integer cut
abbrev pub IsMixedCutBy : CutRule → List (List ℕ) → Row → MixedCut → Type 0
IsMixedCutBy (Table f) columns row cut =
    (up : Frac) × (down : Frac) × AreSlopesAtZero f up down
    × IsMixedCutOfKind (kind.Table f) up down (continuous_columns columns) row cut
IsMixedCutBy Gmic columns row cut = IsGmicMixedCutOf (continuous_columns columns) row cut

-- the line of a row with this cut, with the names of its columns: the terms of whole columns, and
-- the weights of continuous ones; or why the row has no cut
abbrev pub NamesMixedCut : List (List ℕ) → Row → MixedCut → CutLine → List CutTerm → Type 0
NamesMixedCut columns row (mixed_cut.Cut terms weights) (Cut name right named) weighed =
    (name ≡ row.basic) × (right ≡ row.rhs) × AllZip (IsNamedTerm columns) terms named
    × AllZip (IsNamedTerm columns) weights weighed
NamesMixedCut columns row mixed_cut.Integral (Skip name right Integral) weighed = (name ≡ row.basic)
    × (right ≡ row.rhs) × (weighed ≡ [])
NamesMixedCut columns row mixed_cut.OtherFraction (Skip name right Other) weighed =
    (name ≡ row.basic) × (right ≡ row.rhs) × (weighed ≡ [])
NamesMixedCut columns row cut line weighed = ⊥

-- the line of the row is that of its cut by the rule
pub record IsMixedLineFor («rule» : CutRule) (columns : List (List ℕ)) (row : Row) (m : MixedLine) :
    Type 0 where
  pub cut : MixedCut
  pub is_cut : IsMixedCutBy «rule» columns row cut
  pub names : NamesMixedCut columns row cut m.line m.weights

-- the cut, if there is one, holds at each solution of its row
abbrev pub LineHolds : CutLine → List CutTerm → Type 0
LineHolds (Cut name right terms) weights =
    MixedCutHolds (map (λ t. t.entry) terms) (map (λ t. t.entry) weights) right
    (map (λ t. t.cut) terms) (map (λ t. t.cut) weights)
LineHolds (Skip name right reason) weights = Unit {0}

abbrev pub MixedLineHolds : MixedLine → Type 0
MixedLineHolds m = LineHolds m.line m.weights

-- ---- the text

-- `weight NAME C W`
abbrev pub weight_line : CutTerm → List ℕ
weight_line t = line (codes "weight " ++ t.name ++ codes " " ++ fraction_text t.entry ++ codes " "
    ++ fraction_text t.cut)

-- the line of a term with this word and the name of its column
abbrev pub named_line : List ℕ → List (List ℕ) → Term → List ℕ
named_line word columns t =
    word ++ (get_or columns t.column []
    ++ (32 ∷ (fraction_text t.entry ++ (32 ∷ (fraction_text t.cut ++ 10 ∷ [])))))

-- the lines of a row: those of its whole columns as in a proof text, and a line for each continuous
-- column
abbrev pub mixed_row_text : MixedLine → List ℕ
mixed_row_text m = row_text m.line ++ flat_map weight_line m.weights

-- the text has the lines of each row of the tableau, in their order; each cut holds at every
-- solution of its row
pub record AreMixedCutsOf («rule» : CutRule) (tableau : Tableau) (text : List ℕ) : Type 0 where
  pub lines : List MixedLine
  pub lines_are : AllZip (IsMixedLineFor «rule» tableau.columns) tableau.rows lines
  pub hold : All MixedLineHolds lines
  pub subject : List ℕ
  pub subject_is : AreSubjectLines (subject_of_rule «rule») subject
  pub spelled : text ≡ line (codes "gj-mixed 1") ++ subject ++ flat_map mixed_row_text lines ++ line
      (codes "end")

-- ---- what is made

-- the rule makes cuts: a function is minimal, and continuous if columns are
abbrev pub MakesCutsIn : Bool → CutRule → Type 0
MakesCutsIn mixed Gmic = Unit {0}
MakesCutsIn mixed (Table f) = IsMinimal f × (mixed ≡ true → IsContinuous f)

-- the cut of the row by the rule, where all columns are whole
abbrev pub IsWholeCutBy : CutRule → Row → RowCut → Type 0
IsWholeCutBy (Table f) row cut = IsCutOfKind (kind.Table f) row cut
IsWholeCutBy Gmic row cut = IsGmicCutOf row cut

-- what is made of a row: if columns are continuous, its mixed cut, which holds; else its cut
abbrev pub IsMadeCut : Bool → CutRule → List (List ℕ) → Row → MixedCut → Type 0
IsMadeCut true r columns row cut = IsMixedCutBy r columns row cut × MixedHoldsFor row cut
IsMadeCut false r columns row cut = (whole : RowCut) × (cut ≡ without_weights whole)
    × IsWholeCutBy r row whole

-- the line of a row with what is made of it
pub record IsMadeLine (mixed : Bool) (r : CutRule) (columns : List (List ℕ)) (row : Row)
    (m : MixedLine) : Type 0 where
  pub cut : MixedCut
  pub is_made : IsMadeCut mixed r columns row cut
  pub names : NamesMixedCut columns row cut m.line m.weights

-- the new text is the old one, with the lines of the rows behind it
pub record AppendsLines (mixed : Bool) (r : CutRule) (columns : List (List ℕ)) (rows : List Row)
    (old new : List ℕ) : Type 0 where
  pub lines : List MixedLine
  pub are_made : AllZip (IsMadeLine mixed r columns) rows lines
  pub appended : new ≡ old ++ flat_map mixed_row_text lines

-- the columns of the terms of a cut are among so many
abbrev pub AreInColumns : ℕ → MixedCut → Type 0
AreInColumns n (mixed_cut.Cut terms weights) = All (λ t. t.column < n) terms
    × All (λ t. t.column < n) weights
AreInColumns n mixed_cut.Integral = Unit {0}
AreInColumns n mixed_cut.OtherFraction = Unit {0}
