-- The text of a claim, written one part after another.
use Rattle.std.proofs.Common.{◌≡◌, ℕ, List, [], ◌∷◌, ◌++◌, codes, sym, ap, subst, ◌∙◌}
use Rattle.std.proofs.lemmas.List.{append_assoc}
use Rattle.gj_frac.specs.declared.Frac.{Frac}
use Rattle.gj_lex.specs.NumberText.{fraction_text}
use Rattle.gj_shape.specs.declared.violations.Violation.{Violation}
use Rattle.gj_shape.specs.declared.violations.Violation.TheVariants as violation
use Rattle.gj_function_lines.specs.FunctionLines.{line}
use Rattle.gj_proof.specs.ProofText.{subject_of, numbers_of, violation_line, AreSubjectLines, HasText, IsProofText, own_text}
use Rattle.gj_proof.specs.declared.claim.Claim.{Claim}
use Rattle.gj_proof.proofs.LineLists.{title_line, claim_line}

-- the parts of a text

pub proof_written : (c d : Claim) (first second third text : List ℕ) → c ≡ d → HasText d →
    first ≡ title_line (numbers_of c) ++ claim_line c →
    (lines : List ℕ) × AreSubjectLines (subject_of c) lines × (second ≡ first ++ lines) →
    third ≡ second ++ own_text c → text ≡ third ++ codes "end\n" → IsProofText d text
proof_written c d first second third text same has first_is
    (lines, are, second_is) third_is text_is =
    subst (λ k. IsProofText k text) same
    (record {
      has_text = subst HasText (sym same) has;
      subject = lines;
      are_subject_lines = are;
      spelled = text_is
          ∙ ap (λ t. t ++ line (codes "end"))
          (third_is ∙ ap (λ t. t ++ own_text c) (second_is ∙ ap (λ t. t ++ lines) first_is));
    })

-- the line of two points

pub points_pushed : (v : Violation) (x y : Frac) (old a b c d new : List ℕ) →
    v ≡ violation.Superadditive x y →
    a ≡ old ++ codes "superadditive " → b ≡ a ++ fraction_text x → c ≡ b ++ codes " " →
    d ≡ c ++ fraction_text y → new ≡ d ++ 10 ∷ [] →
    new ≡ old ++ violation_line v
points_pushed v x y old a b c d new v_is a_is b_is c_is d_is new_is =
    rw (v_is, new_is, d_is, c_is, b_is, a_is)
    (regroup old (codes "superadditive ") (fraction_text x) (codes " ") (fraction_text y)
    (10 ∷ []))
  where
    regroup : (a b c d e f : List ℕ) →
        a ++ b ++ c ++ d ++ e ++ f ≡ a ++ (b ++ (c ++ (d ++ (e ++ f))))
    regroup a b c d e f = simp append_assoc
