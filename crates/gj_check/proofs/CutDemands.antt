-- The demands of claims about cuts: when all hold, and which is the first that fails.
use Rattle.std.proofs.Common.{◌≡◌, ℕ, ◌+◌, ◌<◌, List, [], ◌∷◌, ◌++◌, All, length, map, refl, sym, ap, subst, ◌∙◌, append_assoc, arith}
use Rattle.std.proofs.lemmas.List.{append-nil, length-append}
use Rattle.std.proofs.lemmas.List.Elements.{All-nil, All-cons, All-append, All-head, All-tail}
use Rattle.gj_frac.specs.declared.Frac.{Frac}
use Rattle.gj_shape.specs.FirstViolation.{PassesAll}
use Rattle.gj_proof.specs.declared.claim.Claim.TheVariants as claims
use Rattle.gj_proof.specs.declared.cut.CutRule.{CutRule}
use Rattle.gj_proof.specs.declared.cut.CutRule.TheVariants.{Gmic, Table}
use Rattle.gj_proof.specs.declared.cut.CutLine.{CutLine}
use Rattle.gj_proof.specs.declared.cut.CutLine.TheVariants as cuts
use Rattle.gj_proof.specs.declared.cut.CutTerm.{CutTerm}
use Rattle.gj_proof.specs.ProofText.{ProofLine, IfFunction, subject_of_rule, terms_of, HasNumber}
use Rattle.gj_proof.specs.ProofText.ProofLine.{claim, cut, term}
use Rattle.gj_proof.specs.Rules.{Demand, AtIndex, IfCut, IfTerm, MeetsFraction, MeetsLimit, MeetsName, MeetsValue, rule_demands, term_demands, row_demands, cut_demands, DemandHolds, MeetsRules}
use Rattle.gj_proof.specs.Rules.Demand.{minimal, fraction, limit, term_limit, term_name, term_value}
use Rattle.gj_proof.proofs.LineNumbers.{number_of_claim}
use Rattle.gj_check.specs.declared.rules.CheckRule.{CheckRule}
use Rattle.gj_check.specs.declared.rules.CheckRule.TheVariants.{Minimal, Fraction, Limit, Name, Value}
use Rattle.gj_check.specs.declared.cut_rows.RowFailure.{RowFailure}
use Rattle.gj_check.specs.FirstFailure.{IsFirstFailure}
use Rattle.gj_check.specs.CutRows.{MeetsTerm, FailsTerm, MeetTerms, MeetsCutRow, FailsRow, GivesCut}
use Rattle.gj_check.specs.CutRows.FailsRow.{at_fraction, at_limit, at_term}
use Rattle.gj_proof.proofs.AtPlaces.{at_index, split_there}
use Rattle.gj_check.proofs.FirstDemand.{FirstFails, fails_here, fails_behind, fails_next, fails_in_front, failure_of}
use Rattle.gj_check.proofs.CutLines.{first_of, count_of, number_of_row, number_of_term}

-- a demand on cuts holds
abbrev cut_holds : CutRule → List CutLine → Demand → Type 0
cut_holds rule rows = DemandHolds (claims.Cut rule rows)

-- ---- the demands of a row

-- the i-th row of a claim, behind others
pub record IsRow (rule : CutRule) (rows : List CutLine) (i : ℕ) (l : CutLine) : Type 0 where
  pub front : List CutLine
  pub back : List CutLine
  pub place : rows ≡ front ++ l ∷ back
  pub index : length front ≡ i

-- what the row has, the i-th row has
of_row : (rule : CutRule) (rows : List CutLine) (i : ℕ) (l : CutLine) → IsRow rule rows i l →
    (P : CutRule → CutLine → Type 0) → P rule l →
    AtIndex rows i (λ before m. P rule m)
of_row rule rows i l at P h =
    subst (λ (n : ℕ). AtIndex rows n (λ before m. P rule m)) at.index
    (at_index rows (λ before m. P rule m) at.front l at.back at.place h)

-- the way back
pub to_row : (rule : CutRule) (rows : List CutLine) (i : ℕ) (l : CutLine) → IsRow rule rows i l →
    (P : CutRule → CutLine → Type 0) →
    AtIndex rows i (λ before m. P rule m) → P rule l
to_row rule rows i l at P h = h at.front l at.back at.place at.index

-- ---- the demands of a term

-- what a term behind others has, the j-th term of the i-th row has
of_term : (rule : CutRule) (rows : List CutLine) (i : ℕ) (basic : List ℕ) (right : Frac)
    (terms : List CutTerm) →
    IsRow rule rows i (cuts.Cut basic right terms) →
    (j : ℕ) (front : List CutTerm) (t : CutTerm) (back : List CutTerm) →
    terms ≡ front ++ t ∷ back → length front ≡ j →
    (Q : CutRule → List ℕ → Frac → List CutTerm → CutTerm → Type 0) →
    Q rule basic right front t → IfTerm (claims.Cut rule rows) i j Q
of_term rule rows i basic right terms at j front t back place index Q h =
    of_row rule rows i (cuts.Cut basic right terms) at
    (λ r l. IfCut l (λ name value items. AtIndex items j (λ before u. Q r name value before u)))
    (subst (λ (n : ℕ). AtIndex terms n (Q rule basic right)) index
    (at_index terms (Q rule basic right) front t back place h))

-- the way back
pub to_term : (rule : CutRule) (rows : List CutLine) (i : ℕ) (basic : List ℕ) (right : Frac)
    (terms : List CutTerm) →
    IsRow rule rows i (cuts.Cut basic right terms) →
    (j : ℕ) (front : List CutTerm) (t : CutTerm) (back : List CutTerm) →
    terms ≡ front ++ t ∷ back → length front ≡ j →
    (Q : CutRule → List ℕ → Frac → List CutTerm → CutTerm → Type 0) →
    IfTerm (claims.Cut rule rows) i j Q → Q rule basic right front t
to_term rule rows i basic right terms at j front t back place index Q h =
    to_row rule rows i (cuts.Cut basic right terms) at
    (λ r l. IfCut l (λ name value items. AtIndex items j (λ before u. Q r name value before u))) h
    front t back place index

-- the three rules of a term
abbrev limit_rule : CutRule → List ℕ → Frac → List CutTerm → CutTerm → Type 0
limit_rule rule basic right before t = MeetsLimit (right ∷ map (λ u. u.entry) before) t.entry

abbrev name_rule : CutRule → List ℕ → Frac → List CutTerm → CutTerm → Type 0
name_rule rule basic right before t = MeetsName basic before t

abbrev pub value_rule : CutRule → List ℕ → Frac → List CutTerm → CutTerm → Type 0
value_rule rule basic right before t = MeetsValue rule right t

-- the first of them that fails
term_fails : (rule : CutRule) (rows : List CutLine) (i : ℕ) (basic : List ℕ) (right : Frac)
    (terms : List CutTerm) →
    IsRow rule rows i (cuts.Cut basic right terms) →
    (j : ℕ) (front : List CutTerm) (t : CutTerm) (back : List CutTerm) →
    terms ≡ front ++ t ∷ back → length front ≡ j → (r : CheckRule) (more : List Demand) →
    FailsTerm rule basic right r front t →
    FirstFails (cut_holds rule rows) (term_limit i j ∷ term_name i j ∷ term_value i j ∷ more)
    (term i j) r
term_fails rule rows i basic right terms at j front t back place index Limit more h =
    fails_here (cut_holds rule rows) (term_limit i j) (term_name i j ∷ term_value i j ∷ more)
    (λ holds. h (to_term rule rows i basic right terms at j front t back place index limit_rule
    holds))
term_fails rule rows i basic right terms at j front t back place index Name more h =
    fails_next (cut_holds rule rows) (term_limit i j) (term_name i j ∷ term_value i j ∷ more)
    (term i j) Name
    (of_term rule rows i basic right terms at j front t back place index limit_rule h.0)
    (fails_here (cut_holds rule rows) (term_name i j) (term_value i j ∷ more)
    (λ holds. h.1 (to_term rule rows i basic right terms at j front t back place index name_rule
    holds)))
term_fails rule rows i basic right terms at j front t back place index Value more h =
    fails_next (cut_holds rule rows) (term_limit i j) (term_name i j ∷ term_value i j ∷ more)
    (term i j) Value
    (of_term rule rows i basic right terms at j front t back place index limit_rule h.0)
    (fails_next (cut_holds rule rows) (term_name i j) (term_value i j ∷ more) (term i j) Value
    (of_term rule rows i basic right terms at j front t back place index name_rule h.1)
    (fails_here (cut_holds rule rows) (term_value i j) more
    (λ holds. h.2 (to_term rule rows i basic right terms at j front t back place index value_rule
    holds))))
term_fails rule rows i basic right terms at j front t back place index _ more h = absurd h

-- all hold
term_holds : (rule : CutRule) (rows : List CutLine) (i : ℕ) (basic : List ℕ) (right : Frac)
    (terms : List CutTerm) →
    IsRow rule rows i (cuts.Cut basic right terms) →
    (j : ℕ) (front : List CutTerm) (t : CutTerm) (back : List CutTerm) →
    terms ≡ front ++ t ∷ back → length front ≡ j → MeetsTerm rule basic right front t →
    All (cut_holds rule rows) (term_limit i j ∷ term_name i j ∷ term_value i j ∷ [])
term_holds rule rows i basic right terms at j front t back place index h =
    let P : Demand → Type 0 = cut_holds rule rows in
    All-cons P (term_limit i j) (term_name i j ∷ term_value i j ∷ [])
    (of_term rule rows i basic right terms at j front t back place index limit_rule h.limit)
    (All-cons P (term_name i j) (term_value i j ∷ [])
    (of_term rule rows i basic right terms at j front t back place index name_rule h.name)
    (All-cons P (term_value i j) []
    (of_term rule rows i basic right terms at j front t back place index value_rule h.value)
    (All-nil P)))

-- ---- the demands of terms

-- one more term in front
pub next_length : (front : List CutTerm) (t : CutTerm) (j : ℕ) → length front ≡ j →
    length (front ++ t ∷ []) ≡ j + 1
next_length front t j index = let long = length-append front (t ∷ []) in omega arith

terms_hold : (rule : CutRule) (rows : List CutLine) (i : ℕ) (basic : List ℕ) (right : Frac)
    (terms : List CutTerm) →
    IsRow rule rows i (cuts.Cut basic right terms) → (j : ℕ) (front rest : List CutTerm) →
    terms ≡ front ++ rest → length front ≡ j → MeetTerms rule basic right terms →
    All (cut_holds rule rows) (term_demands i j rest)
terms_hold rule rows i basic right terms at j front [] place index h =
    All-nil (cut_holds rule rows)
terms_hold rule rows i basic right terms at j front (t ∷ rest) place index h =
    All-append (cut_holds rule rows)
    (term_limit i j ∷ term_name i j ∷ term_value i j ∷ []) (term_demands i (j + 1) rest)
    (term_holds rule rows i basic right terms at j front t rest place index
    (h j front t rest place index))
    (terms_hold rule rows i basic right terms at (j + 1) (front ++ t ∷ []) rest
    (place ∙ sym (append_assoc front (t ∷ []) rest)) (next_length front t j index) h)

terms_fail : (rule : CutRule) (rows : List CutLine) (i : ℕ) (basic : List ℕ) (right : Frac)
    (terms : List CutTerm) →
    IsRow rule rows i (cuts.Cut basic right terms) →
    (j k : ℕ) (front passed : List CutTerm) (t : CutTerm) (back : List CutTerm) →
    terms ≡ front ++ (passed ++ t ∷ back) → length front ≡ j → k ≡ j + length passed →
    ((m : ℕ) → m < k → AtIndex terms m (MeetsTerm rule basic right)) → (r : CheckRule) →
    FailsTerm rule basic right r (front ++ passed) t →
    FirstFails (cut_holds rule rows) (term_demands i j (passed ++ t ∷ back)) (term i k) r
terms_fail rule rows i basic right terms at j k front [] t back place index count h r fails =
    let same : j ≡ k = omega arith in
    subst (λ (n : ℕ). FirstFails (cut_holds rule rows) (term_demands i j (t ∷ back)) (term i n) r)
    same
    (term_fails rule rows i basic right terms at j front t back place index r
    (term_demands i (j + 1) back)
    (subst (λ xs. FailsTerm rule basic right r xs t) (append-nil front) fails))
terms_fail rule rows i basic right terms at j k front (u ∷ passed) t back place index count h r
    fails =
    fails_behind (cut_holds rule rows) (term_limit i j ∷ term_name i j ∷ term_value i j ∷ [])
    (term_demands i (j + 1) (passed ++ t ∷ back))
    (term i k) r
    (term_holds rule rows i basic right terms at j front u (passed ++ t ∷ back) place index
    (h j (omega arith) front u (passed ++ t ∷ back) place index))
    (terms_fail rule rows i basic right terms at (j + 1) k (front ++ u ∷ []) passed t back
    (place ∙ sym (append_assoc front (u ∷ []) (passed ++ t ∷ back))) (next_length front u j index)
    (omega arith) h r
    (subst (λ xs. FailsTerm rule basic right r xs t) (sym (append_assoc front (u ∷ []) passed))
    fails))

-- ---- a row

row_holds : (rule : CutRule) (rows : List CutLine) (i : ℕ) (l : CutLine) → IsRow rule rows i l →
    MeetsCutRow rule l →
    All (cut_holds rule rows) (row_demands i l)
row_holds rule rows i (cuts.Cut basic right terms) at h =
    let P : Demand → Type 0 = cut_holds rule rows in
    let l = cuts.Cut basic right terms in
    All-cons P (fraction i) (limit i ∷ term_demands i 0 terms)
    (of_row rule rows i l at MeetsFraction h.fraction)
    (All-cons P (limit i) (term_demands i 0 terms)
    (of_row rule rows i l at (λ r m. IfCut m (λ name value items. MeetsLimit [] value)) h.cut.0)
    (terms_hold rule rows i basic right terms at 0 [] terms refl refl h.cut.1))
row_holds rule rows i (cuts.Skip name right reason) at h =
    let P : Demand → Type 0 = cut_holds rule rows in
    All-cons P (fraction i) []
    (of_row rule rows i (cuts.Skip name right reason) at MeetsFraction h.fraction) (All-nil P)

fraction_fails : (rule : CutRule) (rows : List CutLine) (i : ℕ) (l : CutLine) →
    IsRow rule rows i l → (MeetsFraction rule l → ⊥) →
    FirstFails (cut_holds rule rows) (row_demands i l) (cut i) Fraction
fraction_fails rule rows i (cuts.Cut basic right terms) at h =
    fails_here (cut_holds rule rows) (fraction i) (limit i ∷ term_demands i 0 terms)
    (λ holds. h (to_row rule rows i (cuts.Cut basic right terms) at MeetsFraction holds))
fraction_fails rule rows i (cuts.Skip name right reason) at h =
    fails_here (cut_holds rule rows) (fraction i) []
    (λ holds. h (to_row rule rows i (cuts.Skip name right reason) at MeetsFraction holds))

limit_fails : (rule : CutRule) (rows : List CutLine) (i : ℕ) (basic : List ℕ) (right : Frac)
    (terms : List CutTerm) →
    IsRow rule rows i (cuts.Cut basic right terms) →
    MeetsFraction rule (cuts.Cut basic right terms) → (MeetsLimit [] right → ⊥) →
    FirstFails (cut_holds rule rows) (row_demands i (cuts.Cut basic right terms)) (cut i) Limit
limit_fails rule rows i basic right terms at meets h =
    let l = cuts.Cut basic right terms in
    fails_next (cut_holds rule rows) (fraction i) (limit i ∷ term_demands i 0 terms) (cut i) Limit
    (of_row rule rows i l at MeetsFraction meets)
    (fails_here (cut_holds rule rows) (limit i) (term_demands i 0 terms)
    (λ holds. h (to_row rule rows i l at (λ r m. IfCut m (λ name value items. MeetsLimit [] value))
    holds)))

behind_fraction : (rule : CutRule) (rows : List CutLine) (i : ℕ) (basic : List ℕ) (right : Frac)
    (terms : List CutTerm) →
    IsRow rule rows i (cuts.Cut basic right terms) →
    MeetsFraction rule (cuts.Cut basic right terms) → MeetsLimit [] right →
    (k : ProofLine) (r : CheckRule) →
    FirstFails (cut_holds rule rows) (term_demands i 0 terms) k r →
    FirstFails (cut_holds rule rows) (row_demands i (cuts.Cut basic right terms)) k r
behind_fraction rule rows i basic right terms at meets within k r h =
    let l = cuts.Cut basic right terms in
    fails_next (cut_holds rule rows) (fraction i) (limit i ∷ term_demands i 0 terms) k r
    (of_row rule rows i l at MeetsFraction meets)
    (fails_next (cut_holds rule rows) (limit i) (term_demands i 0 terms) k r
    (of_row rule rows i l at (λ r m. IfCut m (λ name value items. MeetsLimit [] value)) within) h)

-- the line and the rule of the first failure, and the line's number
record RowFails (rule : CutRule) (rows front : List CutLine) (l : CutLine) (f : RowFailure) :
    Type 0 where
  line : ProofLine
  fails : FirstFails (cut_holds rule rows) (row_demands (length front) l) line f.rule
  number : HasNumber (claims.Cut rule rows) line (first_of rule + count_of front + f.below)

row_fails : (rule : CutRule) (rows front back : List CutLine) (l : CutLine) (f : RowFailure) →
    rows ≡ front ++ l ∷ back →
    FailsRow rule l f → RowFails rule rows front l f
row_fails rule rows front back l f place (at_fraction below is fails) =
    let i = length front in
    let at : IsRow rule rows i l =
    record { front = front; back = back; place = place; index = refl } in
    record {
      line = cut i;
      fails = subst (FirstFails (cut_holds rule rows) (row_demands i l) (cut i)) (sym is)
          (fraction_fails rule rows i l at fails);
      number = subst (HasNumber (claims.Cut rule rows) (cut i)) (omega arith)
          (number_of_row rule rows front back l place);
    }
row_fails rule rows front back l f place (at_limit basic right terms is below rule_is meets fails) =
    let i = length front in
    let at : IsRow rule rows i l =
    record { front = front; back = back; place = place; index = refl } in
    record {
      line = cut i;
      fails = subst (FirstFails (cut_holds rule rows) (row_demands i l) (cut i)) (sym rule_is)
          (subst (λ (m : CutLine). FirstFails (cut_holds rule rows) (row_demands i m)
          (cut i) Limit) (sym is)
          (limit_fails rule rows i basic right terms (subst (IsRow rule rows i) is at)
          (subst (MeetsFraction rule) is meets) fails));
      number = subst (HasNumber (claims.Cut rule rows) (cut i)) (omega arith)
          (number_of_row rule rows front back l place);
    }
row_fails rule rows front back l f place (at_term basic right terms is meets within h) =
    let i = length front in
    let at : IsRow rule rows i l =
    record { front = front; back = back; place = place; index = refl } in
    let with_cut = subst (IsRow rule rows i) is at in
    let split = split_there terms h.index h.fails.within in
    let n = h.index in
    let below : f.below ≡ n + 1 = h.below in
    let long : n ≡ length split.before = sym split.index in
    record {
      line = term i n;
      fails = subst (λ (m : CutLine). FirstFails (cut_holds rule rows) (row_demands i m)
          (term i n) f.rule) (sym is)
          (behind_fraction rule rows i basic right terms with_cut
          (subst (MeetsFraction rule) is meets) within (term i n) f.rule
          (subst (λ xs. FirstFails (cut_holds rule rows) (term_demands i 0 xs) (term i n) f.rule)
          (sym split.place)
          (terms_fail rule rows i basic right terms with_cut 0 n
          [] split.before split.item split.after split.place refl (omega arith)
          h.fails.before f.rule
          (h.fails.here split.before split.item split.after split.place split.index))));
      number = subst (λ (m : ℕ). HasNumber (claims.Cut rule rows) (term i m)
          (first_of rule + count_of front + f.below)) split.index
          (subst (HasNumber (claims.Cut rule rows) (term i (length split.before))) (omega arith)
          (number_of_term rule rows front back l split.before split.after split.item place
          (ap terms_of is ∙ split.place)));
    }

-- ---- all rows

pub next_row : (front : List CutLine) (l : CutLine) (i : ℕ) → length front ≡ i →
    length (front ++ l ∷ []) ≡ i + 1
next_row front l i index = let long = length-append front (l ∷ []) in omega arith

rows_hold : (rule : CutRule) (rows : List CutLine) (i : ℕ) (front rest : List CutLine) →
    rows ≡ front ++ rest → length front ≡ i →
    All (MeetsCutRow rule) rest → All (cut_holds rule rows) (cut_demands i rest)
rows_hold rule rows i front [] place index h = All-nil (cut_holds rule rows)
rows_hold rule rows i front (l ∷ rest) place index h =
    All-append (cut_holds rule rows) (row_demands i l) (cut_demands (i + 1) rest)
    (row_holds rule rows i l (record { front = front; back = rest; place = place; index = index })
    (All-head (MeetsCutRow rule) l rest h))
    (rows_hold rule rows (i + 1) (front ++ l ∷ []) rest
    (place ∙ sym (append_assoc front (l ∷ []) rest)) (next_row front l i index)
    (All-tail (MeetsCutRow rule) l rest h))

rows_fail : (rule : CutRule) (rows : List CutLine) (i n : ℕ) (front passed : List CutLine)
    (l : CutLine) (back : List CutLine) →
    rows ≡ front ++ (passed ++ l ∷ back) → length front ≡ i → n ≡ i + length passed →
    All (MeetsCutRow rule) passed →
    (k : ProofLine) (r : CheckRule) → FirstFails (cut_holds rule rows) (row_demands n l) k r →
    FirstFails (cut_holds rule rows) (cut_demands i (passed ++ l ∷ back)) k r
rows_fail rule rows i n front [] l back place index count h k r fails =
    let same : n ≡ i = omega arith in
    fails_in_front (cut_holds rule rows) (row_demands i l) (cut_demands (i + 1) back) k r
    (subst (λ (m : ℕ). FirstFails (cut_holds rule rows) (row_demands m l) k r) same fails)
rows_fail rule rows i n front (m ∷ passed) l back place index count h k r fails =
    fails_behind (cut_holds rule rows) (row_demands i m) (cut_demands (i + 1) (passed ++ l ∷ back))
    k r
    (row_holds rule rows i m
    (record { front = front; back = passed ++ l ∷ back; place = place; index = index })
    (All-head (MeetsCutRow rule) m passed h))
    (rows_fail rule rows (i + 1) n (front ++ m ∷ []) passed l back
    (place ∙ sym (append_assoc front (m ∷ []) (passed ++ l ∷ back)))
    (next_row front m i index) (omega arith) (All-tail (MeetsCutRow rule) m passed h) k r fails)

-- ---- the claim

rule_holds : (rule : CutRule) (rows : List CutLine) → IfFunction (subject_of_rule rule) PassesAll →
    All (cut_holds rule rows) (rule_demands rule)
rule_holds (Table f) rows h =
    let P : Demand → Type 0 = DemandHolds (claims.Cut (Table f) rows) in
    All-cons P minimal [] h (All-nil P)
rule_holds Gmic rows h = All-nil (cut_holds Gmic rows)

pub cuts_meet : (rule : CutRule) (rows : List CutLine) →
    IfFunction (subject_of_rule rule) PassesAll → All (MeetsCutRow rule) rows →
    MeetsRules (claims.Cut rule rows)
cuts_meet rule rows h all =
    All-append (cut_holds rule rows) (rule_demands rule) (cut_demands 0 rows)
    (rule_holds rule rows h)
    (rows_hold rule rows 0 [] rows refl refl all)

pub rule_fails : (rule : CutRule) (rows : List CutLine) →
    (IfFunction (subject_of_rule rule) PassesAll → ⊥) →
    IsFirstFailure (claims.Cut rule rows) 2 Minimal
rule_fails (Table f) rows h =
    failure_of (claims.Cut (Table f) rows) claim Minimal 2
    (fails_here (cut_holds (Table f) rows) minimal (cut_demands 0 rows) h)
    (number_of_claim (claims.Cut (Table f) rows))
rule_fails Gmic rows h = absurd (h tt)

pub cut_fails : (rule : CutRule) (rows front back : List CutLine) (l : CutLine) (f : RowFailure)
    (n : ℕ) →
    IfFunction (subject_of_rule rule) PassesAll → rows ≡ front ++ l ∷ back →
    All (MeetsCutRow rule) front → FailsRow rule l f →
    n ≡ first_of rule + count_of front + f.below → IsFirstFailure (claims.Cut rule rows) n f.rule
cut_fails rule rows front back l f n h place all fails is =
    let row = row_fails rule rows front back l f place fails in
    subst (λ (m : ℕ). IsFirstFailure (claims.Cut rule rows) m f.rule) (sym is)
    (failure_of (claims.Cut rule rows) row.line f.rule (first_of rule + count_of front + f.below)
    (fails_behind (cut_holds rule rows) (rule_demands rule) (cut_demands 0 rows) row.line f.rule
    (rule_holds rule rows h)
    (subst (λ xs. FirstFails (cut_holds rule rows) (cut_demands 0 xs) row.line f.rule) (sym place)
    (rows_fail rule rows 0 (length front) [] front l back place refl
    (omega arith) all row.line f.rule row.fails)))
    row.number)

-- a row with a cut has a right side with which the rule gives one
pub gives : (rule : CutRule) (basic : List ℕ) (right : Frac) (terms : List CutTerm) →
    MeetsFraction rule (cuts.Cut basic right terms) →
    GivesCut rule right
gives (Table f) basic right terms h = h
gives Gmic basic right terms h = h
