-- A report has one verdict and one proof text.
use Rattle.std.proofs.Common.{◌≡◌, ◌↔◌, ℕ, Bool, true, false, List, [], ◌∷◌, ◌++◌, flat_map, codes, Some, refl, sym, ap, ap₂, subst, ◌∙◌, arith}
use Rattle.std.proofs.lemmas.List.{append_cancel_right}
use Rattle.json.specs.Json as json
use Rattle.json.specs.Tree.{items_depth, ItemsHaveNumbers}
use Rattle.json.proofs.Printed.Trees.{document-print}
use Rattle.serde_json.specs.Written.{outline, items_outline, compact_text}
use Rattle.serde_json.proofs.Texts.{print-outline}
use Rattle.gj_lemmas.proofs.Choices.{same_some}
use Rattle.gj_json.specs.JsonText.{strings, report_value, IsReport}
use Rattle.gj_proof.specs.ProofText.{IsBounded, IsProofText}
use Rattle.gj_proof.specs.declared.claim.Claim.{Claim}
use Rattle.gj_proof.proofs.OneText.{one_claim}
use Rattle.gj_top.specs.Report.{Kind, claims, IsReportBy, Tells, TellsBy}

-- ---- the lines as strings

abbrev line_strings : List (List ℕ) → json.Items
line_strings lines = items_outline (strings lines)

strings_have_no_numbers : (lines : List (List ℕ)) → ItemsHaveNumbers (line_strings lines)
strings_have_no_numbers [] = tt
strings_have_no_numbers (l ∷ lines) = (tt, strings_have_no_numbers lines)

strings_are_shallow : (lines : List (List ℕ)) → items_depth (line_strings lines) ≡ 0
strings_are_shallow [] = refl
strings_are_shallow (l ∷ lines) = rw (strings_are_shallow lines) refl

same_lines : (ls ms : List (List ℕ)) → line_strings ls ≡ line_strings ms → ls ≡ ms
same_lines [] [] e = refl
same_lines [] (m ∷ ms) e = absurd (cc)
same_lines (l ∷ ls) [] e = absurd (cc)
same_lines (l ∷ ls) (m ∷ ms) e =
    let first : l ≡ m = cc in
    let rest : line_strings ls ≡ line_strings ms = cc in
    ap₂ (λ x xs. x ∷ xs) first (same_lines ls ms rest)

-- ---- the value

abbrev value_of : json.Items → List ℕ → json.Json
value_of lines verdict =
    json.object (json.member (codes "proof") (json.array lines)
    (json.member (codes "verdict") (json.string verdict) json.no_members))

same_parts : (ls ms : json.Items) (v w : List ℕ) → value_of ls v ≡ value_of ms w →
    (v ≡ w) × (ls ≡ ms)
same_parts ls ms v w e = (cc, cc)

-- what is printed of the value is read as it
read_again : (lines : List (List ℕ)) (verdict : List ℕ) →
    json.document (compact_text (report_value lines verdict))
    ≡ Some (value_of (line_strings lines) verdict)
read_again lines verdict =
    let d = report_value lines verdict in
    ap json.document (sym (print-outline d))
    ∙ document-print (outline d) (strings_have_no_numbers lines, (tt, tt))
    (omega (arith, strings_are_shallow lines))

same_value : (ls ms : List (List ℕ)) (v w : List ℕ) →
    compact_text (report_value ls v) ≡ compact_text (report_value ms w) →
    value_of (line_strings ls) v ≡ value_of (line_strings ms) w
same_value ls ms v w e =
    same_some _ _ (sym (read_again ls v) ∙ ap json.document e ∙ read_again ms w)

-- ---- the report

pub one_report : (verdict word first second text : List ℕ) → IsReport verdict first text →
    IsReport word second text →
    (verdict ≡ word) × (first ≡ second)
one_report verdict word first second text (ls, first_has, first_is) (ms, second_has, second_is) =
    let printed = append_cancel_right _ _ (10 ∷ []) (sym first_is ∙ second_is) in
    let same = same_parts (line_strings ls) (line_strings ms) verdict word
    (same_value ls ms verdict word printed) in (
      same.0,
      first_has.joined ∙ ap (flat_map (λ line. line ++ 10 ∷ [])) (same_lines ls ms same.1)
          ∙ sym second_has.joined,
    )

pub one_claim_reported : (c d : Claim) (verdict word first second text : List ℕ) → IsBounded c →
    IsBounded d → IsProofText c first →
    IsProofText d second → IsReport verdict first text → IsReport word second text → c ≡ d
one_claim_reported c d verdict word first second text b e p q r s =
    let same : second ≡ first = sym (one_report verdict word first second text r s).1 in
    one_claim c d first b e p (subst (IsProofText d) same q)

-- ---- what holds of the proof text of a report

-- what follows of it
pub reported : (kind : Kind) (P Q : List ℕ → Type 0) → ((proof : List ℕ) → P proof → Q proof) →
    (text : List ℕ) → IsReportBy kind P text →
    IsReportBy kind Q text
reported kind P Q keeps text r = record {
  proof = r.proof;
  holds = keeps r.proof r.holds;
  claim = r.claim;
  spelled = r.spelled;
  report = r.report;
}

pub told_by : (kind : Kind) (json : Bool) (P Q : List ℕ → Type 0) →
    ((proof : List ℕ) → P proof → Q proof) → (text : List ℕ) →
    TellsBy kind json P text → TellsBy kind json Q text
told_by kind false P Q keeps text p = keeps text p
told_by kind true P Q keeps text p = reported kind P Q keeps text p

pub told : (json : Bool) (P Q : List ℕ → Type 0) → ((proof : List ℕ) → P proof → Q proof) →
    (text : List ℕ) → Tells json P text → Tells json Q text
told = told_by claims

-- two properties of it hold of one proof text
pub also_reported : (kind other : Kind) (P Q : List ℕ → Type 0) (text : List ℕ)
    (r : IsReportBy kind P text) (s : IsReportBy other Q text) →
    s.proof ≡ r.proof
also_reported kind other P Q text r s =
    (one_report (other.word s.claim) (kind.word r.claim) s.proof r.proof text s.report r.report).1

-- it has a property exactly if A holds, if that follows from another of its properties
pub told_exactly_by : (kind : Kind) (json : Bool) (P Q : List ℕ → Type 0) (A : Type 0) →
    ((proof : List ℕ) → P proof → Q proof ↔ A) → (text : List ℕ) →
    TellsBy kind json P text → TellsBy kind json Q text ↔ A
told_exactly_by kind false P Q A exactly text p = exactly text p
told_exactly_by kind true P Q A exactly text r = (
  λ s. (exactly r.proof r.holds).0 (subst Q (also_reported kind kind P Q text r s) s.holds),
  λ a. reported kind P Q (λ proof p. (exactly proof p).1 a) text r,
)

pub told_exactly : (json : Bool) (P Q : List ℕ → Type 0) (A : Type 0) →
    ((proof : List ℕ) → P proof → Q proof ↔ A) → (text : List ℕ) →
    Tells json P text → Tells json Q text ↔ A
told_exactly = told_exactly_by claims
