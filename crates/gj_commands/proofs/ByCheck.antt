-- What a run of `check` has written, in the fewest words.
use Rattle.std.proofs.Common.{◌≡◌, ◌⊎◌, inl, inr, ℕ, List, [], ◌∷◌, ◌++◌, All, codes}
use Rattle.std.proofs.Common.{zero, suc, refl, sym, ap, subst, ◌∙◌, arith}
use Rattle.std.proofs.lemmas.List.{append_cancel_left, append_cancel_right}
use Rattle.gj_shape.specs.Extreme.{IsExtreme}
use Rattle.gj_shape.specs.FunctionData.{FunctionData, IsWithinBounds, IsContinuous}
use Rattle.gj_shape.specs.Table.{IsMinimal}
use Rattle.gj_theory.proofs.Violations.{violation_denies}
use Rattle.gj_proof.specs.Meaning.{ClaimHolds, CutLineHolds}
use Rattle.gj_proof.specs.ProofText.{claim_fields, claim_word, title_fields}
use Rattle.gj_forms.specs.LineForms.{bytes_of}
use Rattle.gj_function_lines.specs.FunctionLines.{line}
use Rattle.gj_limit_averages.specs.Averages.{IsExtremeFunction}
use Rattle.gj_limit_proof.specs.declared.claim.LimitClaim.{LimitClaim}
use Rattle.gj_limit_proof.specs.declared.claim.LimitClaim.TheVariants as limit
use Rattle.gj_limit_proof.specs.LimitMeaning.{LimitClaimHolds}
use Rattle.gj_limit_proof.specs.LimitText.{claim_word as limit_claim_word}
use Rattle.gj_proof.specs.declared.claim.Claim.{Claim}
use Rattle.gj_proof.specs.declared.claim.Claim.TheVariants as claim
use Rattle.gj_proof.specs.declared.cut.CutLine.{CutLine}
use Rattle.gj_proof.specs.declared.cut.CutRule.{CutRule}
use Rattle.gj_proof.specs.declared.numbers.Numbers.{Numbers}
use Rattle.gj_proof.specs.declared.numbers.Numbers.TheVariants.{Whole, Residues}
use Rattle.gj_words.specs.declared.requests.Command.TheVariants as command
use Rattle.gj_top.specs.declared.reply.End.TheVariants as end
use Rattle.gj_top.specs.Command.{task_for}
use Rattle.gj_derivation_text.specs.DerivationInputs.{IsDerivationText}
use Rattle.gj_derivation_text.specs.declared.input.DerivationInput.{DerivationInput}
use Rattle.gj_derivation_text.proofs.PrintedDerivations.{derived_is_read}
use Rattle.gj_top.specs.Check.Checkable.{of_claim, of_limit_claim, of_steps}
use Rattle.gj_top.specs.Check.{Checkable, SpellsCheckable, IsTrueCheck}
use Rattle.gj_top.proofs.DerivationForms.{one_derivation, proof_begins_otherwise, derivation_begins}
use Rattle.gj_top.specs.Forms.{IsProofOf, IsLimitProofOf}
use Rattle.gj_top.specs.Task.{IsReply}
use Rattle.gj_commands.specs.CommandTexts.{Calls}
use Rattle.gj_commands.specs.CommandTexts.{accepted, IsTextOfCutLines}
use Rattle.gj_commands.specs.CommandTexts.{IsPrintedDerivation, AreTrueSteps}
use Rattle.gj_commands.specs.CommandTexts.{CallsByLimits}
use Rattle.gj_commands.specs.CommandTexts.{IsCalledExtremeIn, IsCalledNotExtremeIn}
use Rattle.gj_top.proofs.LimitExtremality.{halves_deny}
use Rattle.gj_top.proofs.LimitTexts.{limit_begins_otherwise}
use Rattle.gj_commands.proofs.ByCommand.{by_halves, cut_lines_of, plain, true_of, calls, calls_by_limits}

-- ---- `check`

-- a line of acceptance has one word
one_word : (text a b : List ℕ) → text ≡ accepted a → text ≡ accepted b → a ≡ b
one_word text a b e d =
    append_cancel_left (codes "accepted ") a b (append_cancel_right _ _ (10 ∷ []) (sym e ∙ d))

-- the letter of a word at a place; words with other letters are other words
abbrev letter : ℕ → List ℕ → ℕ
letter n [] = 0
letter zero (b ∷ bytes) = b
letter (suc n) (b ∷ bytes) = letter n bytes

-- an equation of natural numbers
same_number : (m n : ℕ) → m ≡ n → m ≡ n
same_number m n e = e

says_minimal : (c : Claim) (input : List ℕ) → IsProofOf input c → ClaimHolds c →
    claim_word c ≡ codes "minimal" →
    (f : FunctionData) × IsWithinBounds f × Calls f input (codes "minimal") × IsMinimal f
says_minimal (claim.Minimal f) input p holds e =
    (f, p.bounded, calls (claim.Minimal f) f input refl p.spelled, holds)
says_minimal (claim.NotMinimal f v) input p holds e =
    absurd (omega (arith, same_number 110 109 (ap (letter 0) e)))
says_minimal (claim.Cut r rows) input p holds e =
    absurd (omega (arith, same_number 99 109 (ap (letter 0) e)))
says_minimal (claim.Extreme f lines rows) input p holds e =
    absurd (omega (arith, same_number 101 109 (ap (letter 0) e)))
says_minimal (claim.ExtremeByResidues f lines rows) input p holds e =
    absurd (omega (arith, same_number 101 109 (ap (letter 0) e)))
says_minimal (claim.NotExtreme f h) input p holds e =
    absurd (omega (arith, same_number 110 109 (ap (letter 0) e)))

says_not_minimal : (c : Claim) (input : List ℕ) → IsProofOf input c → ClaimHolds c →
    claim_word c ≡ codes "not-minimal" →
    (f : FunctionData) × IsWithinBounds f × Calls f input (codes "not-minimal") × (IsMinimal f → ⊥)
says_not_minimal (claim.NotMinimal f v) input p holds e = (
  f,
  p.bounded,
  calls (claim.NotMinimal f v) f input refl p.spelled,
  violation_denies f v
      p.bounded holds,
)
says_not_minimal (claim.Minimal f) input p holds e =
    absurd (omega (arith, same_number 109 110 (ap (letter 0) e)))
says_not_minimal (claim.Cut r rows) input p holds e =
    absurd (omega (arith, same_number 99 110 (ap (letter 0) e)))
says_not_minimal (claim.Extreme f lines rows) input p holds e =
    absurd (omega (arith, same_number 101 110 (ap (letter 0) e)))
says_not_minimal (claim.ExtremeByResidues f lines rows) input p holds e =
    absurd (omega (arith, same_number 101 110 (ap (letter 0) e)))
says_not_minimal (claim.NotExtreme f h) input p holds e =
    absurd (omega (arith, same_number 101 109 (ap (letter 4) e)))

says_extreme : (c : Claim) (input : List ℕ) → IsProofOf input c → ClaimHolds c →
    claim_word c ≡ codes "extreme" →
    (f : FunctionData) × IsWithinBounds f × Calls f input (codes "extreme") × IsContinuous f
    × IsExtreme f
says_extreme (claim.Extreme f lines rows) input p (continuous, extreme) e =
    (f, p.bounded, calls (claim.Extreme f lines rows) f input refl p.spelled, continuous, extreme)
says_extreme (claim.ExtremeByResidues f lines rows) input p (continuous, extreme) e = (
  f,
  p.bounded,
  calls (claim.ExtremeByResidues f lines rows) f input refl p.spelled,
  continuous,
  extreme,
)
says_extreme (claim.Minimal f) input p holds e =
    absurd (omega (arith, same_number 109 101 (ap (letter 0) e)))
says_extreme (claim.NotMinimal f v) input p holds e =
    absurd (omega (arith, same_number 110 101 (ap (letter 0) e)))
says_extreme (claim.Cut r rows) input p holds e =
    absurd (omega (arith, same_number 99 101 (ap (letter 0) e)))
says_extreme (claim.NotExtreme f h) input p holds e =
    absurd (omega (arith, same_number 110 101 (ap (letter 0) e)))

says_not_extreme : (c : Claim) (input : List ℕ) → IsProofOf input c → ClaimHolds c →
    claim_word c ≡ codes "not-extreme" →
    (f : FunctionData) × IsWithinBounds f × Calls f input (codes "not-extreme") × IsContinuous f
    × IsMinimal f × (IsExtreme f → ⊥)
says_not_extreme (claim.NotExtreme f h) input p holds e =
    let said = by_halves f h holds in
    (f, p.bounded, calls (claim.NotExtreme f h) f input refl p.spelled, said.0, said.1, said.2)
says_not_extreme (claim.Minimal f) input p holds e =
    absurd (omega (arith, same_number 109 110 (ap (letter 0) e)))
says_not_extreme (claim.NotMinimal f v) input p holds e =
    absurd (omega (arith, same_number 109 101 (ap (letter 4) e)))
says_not_extreme (claim.Cut r rows) input p holds e =
    absurd (omega (arith, same_number 99 110 (ap (letter 0) e)))
says_not_extreme (claim.Extreme f lines rows) input p holds e =
    absurd (omega (arith, same_number 101 110 (ap (letter 0) e)))
says_not_extreme (claim.ExtremeByResidues f lines rows) input p holds e =
    absurd (omega (arith, same_number 101 110 (ap (letter 0) e)))

-- a claim about a function that jumps says extreme, or not extreme
limit_says_extreme : (c : LimitClaim) (input : List ℕ) → IsLimitProofOf input c →
    LimitClaimHolds c → limit_claim_word c ≡ codes "extreme" →
    (f : FunctionData) × IsWithinBounds f × CallsByLimits f input (codes "extreme")
    × IsExtremeFunction f
limit_says_extreme (limit.Extreme numbers f lines rows) input p extreme e =
    (f, p.bounded, calls_by_limits (limit.Extreme numbers f lines rows) input p.spelled, extreme)
limit_says_extreme (limit.NotExtreme f h) input p holds e =
    absurd (omega (arith, same_number 110 101 (ap (letter 0) e)))

limit_says_not_extreme : (c : LimitClaim) (input : List ℕ) → IsLimitProofOf input c →
    LimitClaimHolds c → limit_claim_word c ≡ codes "not-extreme" →
    (f : FunctionData) × IsWithinBounds f × CallsByLimits f input (codes "not-extreme")
    × IsMinimal f × (IsExtremeFunction f → ⊥)
limit_says_not_extreme (limit.NotExtreme f h) input p (minimal, shown) e = (
  f,
  p.bounded,
  calls_by_limits (limit.NotExtreme f h) input p.spelled,
  minimal,
  halves_deny f h
      shown,
)
limit_says_not_extreme (limit.Extreme numbers f lines rows) input p holds e =
    absurd (omega (arith, same_number 101 110 (ap (letter 0) e)))

-- it says nothing else
limit_letter : (c : LimitClaim) → (letter 0 (limit_claim_word c) ≡ 101)
    ⊎ (letter 4 (limit_claim_word c) ≡ 101)
limit_letter (limit.Extreme numbers f lines rows) = inl refl
limit_letter (limit.NotExtreme f h) = inr refl

says_cuts : (c : Claim) (input : List ℕ) → IsProofOf input c → ClaimHolds c →
    claim_word c ≡ codes "cut" →
    (r : CutRule) × (lines : List CutLine) × IsTextOfCutLines r lines input × All CutLineHolds lines
says_cuts (claim.Cut r lines) input p holds e =
    (r, lines, cut_lines_of r lines input p.spelled, holds)
says_cuts (claim.Minimal f) input p holds e = absurd (cc)
says_cuts (claim.NotMinimal f v) input p holds e = absurd (cc)
says_cuts (claim.Extreme f lines rows) input p holds e = absurd (cc)
says_cuts (claim.ExtremeByResidues f lines rows) input p holds e = absurd (cc)
says_cuts (claim.NotExtreme f h) input p holds e = absurd (cc)

-- ---- derivations

-- the printed text of a derivation tells it
printed_derivation_is_read : (d : DerivationInput) (text : List ℕ) → IsPrintedDerivation d text →
    (left : List ℕ) × IsDerivationText text (record d { left = left })
printed_derivation_is_read d text h =
    derived_is_read d h.constraint_names h.names h.shown text h.readable h.text_is

-- no claim has the word of a derivation
no_claim_word : (c : Claim) → claim_word c ≡ codes "derivation" → ⊥
no_claim_word (claim.Minimal f) e = omega (arith, same_number 109 100 (ap (letter 0) e))
no_claim_word (claim.NotMinimal f v) e = omega (arith, same_number 110 100 (ap (letter 0) e))
no_claim_word (claim.Cut r rows) e = omega (arith, same_number 99 100 (ap (letter 0) e))
no_claim_word (claim.Extreme f lines rows) e = omega (arith, same_number 101 100 (ap (letter 0) e))
no_claim_word (claim.ExtremeByResidues f lines rows) e =
    omega (arith, same_number 101 100 (ap (letter 0) e))
no_claim_word (claim.NotExtreme f h) e = omega (arith, same_number 110 100 (ap (letter 0) e))

-- the input is the proof text of a claim that holds, and the text says that it is accepted
abbrev IsAcceptedClaim : List ℕ → List ℕ → Type 0
IsAcceptedClaim input text = (c : Claim) × IsProofOf input c × ClaimHolds c
    × (text ≡ accepted (claim_word c))

-- the same of a claim about a function that jumps
abbrev IsAcceptedLimitClaim : List ℕ → List ℕ → Type 0
IsAcceptedLimitClaim input text = (c : LimitClaim) × IsLimitProofOf input c × LimitClaimHolds c
    × (text ≡ accepted (limit_claim_word c))

-- it tells steps whose claims hold, and the text says that the derivation is accepted
abbrev IsAcceptedDerivation : List ℕ → List ℕ → Type 0
IsAcceptedDerivation input text = (d : DerivationInput) × IsDerivationText input d × AreTrueSteps d
    × (text ≡ accepted (codes "derivation"))

-- one of these
abbrev IsAcceptance : List ℕ → List ℕ → Type 0
IsAcceptance input text = IsAcceptedClaim input text ⊎ IsAcceptedLimitClaim input text
    ⊎ IsAcceptedDerivation input text

said : (input text : List ℕ) (thing : Checkable) → SpellsCheckable input thing →
    IsTrueCheck thing text → IsAcceptance input text
said input text (of_claim c) spelled h = inl (c, spelled, h.0, h.1)
said input text (of_limit_claim c) spelled h = inr (inl (c, spelled, h.0, h.1))
said input text (of_steps t) spelled h = inr (inr (t.told, spelled.1, h.0, h.1))

-- what holds of each claim with a word that is no derivation's holds if the text says that word
by_word : {P : Type 0} (word input text : List ℕ) → IsAcceptance input text → text ≡ accepted word →
    (codes "derivation" ≡ word → ⊥) →
    ((c : Claim) → IsProofOf input c → ClaimHolds c → claim_word c ≡ word → P) →
    ((c : LimitClaim) → IsLimitProofOf input c → LimitClaimHolds c → limit_claim_word c ≡ word →
    P) → P
by_word word input text (inl (c, p, holds, is)) e other says limits =
    says c p holds (one_word text _ _ is e)
by_word word input text (inr (inl (c, p, holds, is))) e other says limits =
    limits c p holds (one_word text _ _ is e)
by_word word input text (inr (inr (d, told, hold, is))) e other says limits =
    absurd (other (one_word text _ _ is e))

-- a word that no claim about a function that jumps has
no_limit_word : (word : List ℕ) → (letter 0 word ≡ 101 → ⊥) → (letter 4 word ≡ 101 → ⊥) →
    (c : LimitClaim) → limit_claim_word c ≡ word → ⊥
no_limit_word word first later c e = elim (limit_letter c) [
  | inl is ↦ first (sym (ap (letter 0) e) ∙ is)
  | inr is ↦ later (sym (ap (letter 4) e) ∙ is)
]

module _ (input text : List ℕ)
    (reply : IsReply (task_for (plain command.Check)) input end.Done text) where
  all_said : IsAcceptance input text
  all_said = let kept = true_of (plain command.Check) input text reply in
      said input text kept.thing kept.spelled kept.holds

  pub check_minimal : text ≡ accepted (codes "minimal") →
      (f : FunctionData) × IsWithinBounds f × Calls f input (codes "minimal") × IsMinimal f
  check_minimal e =
      by_word (codes "minimal") input text all_said e
      (λ same. omega (arith, same_number 100 109 (ap (letter 0) same)))
      (λ c p holds word. says_minimal c input p holds word)
      (λ c p holds word. absurd
      (no_limit_word (codes "minimal") (λ h. omega (arith, h)) (λ h. omega (arith, h)) c word))

  pub check_not_minimal : text ≡ accepted (codes "not-minimal") →
      (f : FunctionData) × IsWithinBounds f × Calls f input (codes "not-minimal")
      × (IsMinimal f → ⊥)
  check_not_minimal e =
      by_word (codes "not-minimal") input text all_said e
      (λ same. omega (arith, same_number 100 110 (ap (letter 0) same)))
      (λ c p holds word. says_not_minimal c input p holds word)
      (λ c p holds word. absurd
      (no_limit_word (codes "not-minimal") (λ h. omega (arith, h))
      (λ h. omega (arith, h)) c word))

  pub check_extreme : text ≡ accepted (codes "extreme") → (f : FunctionData) × IsWithinBounds f
      × IsCalledExtremeIn f input
  check_extreme e =
      by_word (codes "extreme") input text all_said e
      (λ same. omega (arith, same_number 100 101 (ap (letter 0) same)))
      (λ c p holds word.
      let (f, within, called, continuous, extreme) = says_extreme c input p holds word in
      (f, within, inl (called, continuous, extreme)))
      (λ c p holds word. let (f, within, called, extreme) =
      limit_says_extreme c input p holds word in (f, within, inr (called, extreme)))

  pub check_not_extreme : text ≡ accepted (codes "not-extreme") →
      (f : FunctionData) × IsWithinBounds f × IsCalledNotExtremeIn f input
  check_not_extreme e =
      by_word (codes "not-extreme") input text all_said e
      (λ same. omega (arith, same_number 100 110 (ap (letter 0) same)))
      (λ c p holds word.
      let (f, within, called, continuous, minimal, denied) =
      says_not_extreme c input p holds word in
      (f, within, inl (called, continuous, minimal, denied)))
      (λ c p holds word.
      let (f, within, called, minimal, denied) = limit_says_not_extreme c input p holds word in
      (f, within, inr (called, minimal, denied)))

  pub check_cut : text ≡ accepted (codes "cut") →
      (r : CutRule) × (lines : List CutLine) × IsTextOfCutLines r lines input
      × All CutLineHolds lines
  check_cut e =
      by_word (codes "cut") input text all_said e
      (λ same. omega (arith, same_number 100 99 (ap (letter 0) same)))
      (λ c p holds word. says_cuts c input p holds word)
      (λ c p holds word. absurd
      (no_limit_word (codes "cut") (λ h. omega (arith, h)) (λ h. omega (arith, h)) c word))

  pub check_claimed : IsAcceptedClaim input text ⊎ IsAcceptedLimitClaim input text
      ⊎ (text ≡ accepted (codes "derivation"))
  check_claimed = elim all_said [
    | inl claimed ↦ inl claimed
    | inr (inl claimed) ↦ inr (inl claimed)
    | inr (inr (d, told, hold, is)) ↦ inr (inr is)
  ]

  -- the steps of an accepted derivation
  pub check_steps : text ≡ accepted (codes "derivation") →
      (d : DerivationInput) × IsDerivationText input d × AreTrueSteps d
  check_steps e = elim all_said [
    | inl (c, p, holds, is) ↦ absurd (no_claim_word c (one_word text _ _ is e))
    | inr (inl (c, p, holds, is)) ↦
        absurd (no_limit_word (codes "derivation") (λ h. omega (arith, h)) (λ h. omega (arith, h)) c
        (one_word text _ _ is e))
    | inr (inr (d, told, hold, is)) ↦ (d, told, hold)
  ]

  -- an input that is the printed text of a derivation
  pub check_printed : (d : DerivationInput) → IsPrintedDerivation d input →
      AreTrueSteps d × (text ≡ accepted (codes "derivation"))
  check_printed d printed =
      let (left, told) = printed_derivation_is_read d input printed in
      by_case d left told all_said
    where
      by_case : (d : DerivationInput) (left : List ℕ) →
          IsDerivationText input (record d { left = left }) →
          IsAcceptance input text → AreTrueSteps d × (text ≡ accepted (codes "derivation"))
      by_case d left told (inl (c, p, holds, is)) =
          absurd (proof_begins_otherwise c input p.spelled
          (derivation_begins input (record d { left = left }) told))
      by_case d left told (inr (inl (c, p, holds, is))) =
          absurd (limit_begins_otherwise c input p.spelled
          (derivation_begins input (record d { left = left }) told))
      by_case d left told (inr (inr (e, other, hold, is))) = (
        subst AreTrueSteps (one_derivation input e (record d { left = left }) other told) hold,
        is,
      )

-- no text is one of each kind
pub one_kind : (f g : FunctionData) (text word other : List ℕ) → Calls f text word →
    CallsByLimits g text other → ⊥
one_kind f g text word other (own, p) (theirs, q) = by_title p.numbers p.spelled q.spelled
  where
    by_title : (n : Numbers) →
        text ≡ bytes_of (title_fields n) ++ bytes_of (claim_fields word) ++ p.function_lines ++ own
        ++ line (codes "end") →
        text ≡ line (codes "gj-proof 3") ++ bytes_of (claim_fields other) ++ q.function_lines
        ++ theirs ++ line (codes "end") → ⊥
    by_title Whole e d = omega (arith, same_number 49 51 (ap (letter 9) (sym e ∙ d)))
    by_title Residues e d = omega (arith, same_number 50 51 (ap (letter 9) (sym e ∙ d)))
