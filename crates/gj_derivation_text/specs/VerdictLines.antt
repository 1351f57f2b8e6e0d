-- The line that says whether a derivation is accepted (own).
use Rattle.std.specs.Prelude.{ℕ, List, [], ◌∷◌, ◌++◌, codes}
use Rattle.gj_forms.specs.LineForms.{Field, bytes_of}
use Rattle.gj_forms.specs.LineForms.Field.{word, fraction, count}
use Rattle.gj_derivation.specs.declared.step.Verdict.{Verdict}
use Rattle.gj_derivation.specs.declared.step.Verdict.TheVariants.{Accepted, Sign, Free, Integral, Other, Bound, Right, Wide}
use Rattle.gj_problem_text.specs.CutText.{name_at}

-- what stands against a step: `sign NAME`, `free NAME`, `integral`, `other`, `bound NAME`, `right B`
-- or `wide`; the names are those of the columns and of the lines
abbrev pub cause_fields : List (List ℕ) → List (List ℕ) → Verdict → List Field
cause_fields columns lines Accepted = []
cause_fields columns lines (Sign i) = word (codes "sign") ∷ word (name_at lines i) ∷ []
cause_fields columns lines (Free j) = word (codes "free") ∷ word (name_at columns j) ∷ []
cause_fields columns lines Integral = word (codes "integral") ∷ []
cause_fields columns lines Other = word (codes "other") ∷ []
cause_fields columns lines (Bound j) = word (codes "bound") ∷ word (name_at columns j) ∷ []
cause_fields columns lines (Right b) = word (codes "right") ∷ fraction b ∷ []
cause_fields columns lines Wide = word (codes "wide") ∷ []

-- `rejected line N CAUSE ..`, where the step begins in the N-th line
abbrev pub rejected_line : List (List ℕ) → List (List ℕ) → ℕ → Verdict → List ℕ
rejected_line columns lines n v =
    bytes_of (word (codes "rejected") ∷ word (codes "line") ∷ count n
    ∷ cause_fields columns lines v)

-- `accepted derivation`
abbrev pub accepted_line : List ℕ
accepted_line = bytes_of (word (codes "accepted") ∷ word (codes "derivation") ∷ [])

-- `# NAME CAUSE ..`, for a step that is left out
abbrev pub left_out_line : List (List ℕ) → List (List ℕ) → List ℕ → Verdict → List ℕ
left_out_line columns lines name v =
    bytes_of (word (codes "#") ∷ word name ∷ cause_fields columns lines v)
