-- The command `cut` has one answer, and what `mixed` shares with it.
use Rattle.std.proofs.Common.{◌≡◌, ℕ, pos, ◌*ℤ◌, unsigned_abs, List, ◌++◌, codes, refl, sym, ap, ap₂, subst, subst₂, ◌∙◌, arith}
use Rattle.std.proofs.lemmas.Int.{ints}
use Rattle.gj_frac.specs.declared.Frac.{Frac}
use Rattle.gj_frac.specs.Floor.{HasFractionalPart}
use Rattle.gj_frac.specs.Fraction.{IsWhole, numerator, denominator}
use Rattle.gj_shape.specs.FunctionData.{FunctionData, IsWithinBounds}
use Rattle.gj_shape.specs.Table.{IsMinimal}
use Rattle.gj_shape.specs.Values.{IsValueAt}
use Rattle.gj_shape.proofs.LeastDenominator.{denominator_some}
use Rattle.gj_theory.proofs.Violations.{violation_denies, first_shown}
use Rattle.gj_function_text.proofs.OneText.{one_function_text, one_first_fault_at_front}
use Rattle.gj_function_text.proofs.RuleTexts.{one_fault_of_rule}
use Rattle.gj_row.specs.TableauText.{records_of, IsTableauText}
use Rattle.gj_row.specs.FirstFault.{IsFirstFaultOfTableau}
use Rattle.gj_row.specs.declared.tableau.Entry.{Entry}
use Rattle.gj_row.specs.declared.tableau.Row.{Row}
use Rattle.gj_row.proofs.OneFirstFault.{one_first_fault as one_tableau_fault}
use Rattle.gj_row.proofs.OneTableau.{one_tableau, one_each}
use Rattle.gj_extreme.proofs.OneViolation.{one_violation}
use Rattle.gj_check.proofs.FractionalParts.{part_of_whole, part_is, one_gmic}
use Rattle.gj_values.proofs.OneValue.{one_value}
use Rattle.gj_proof.specs.CutRules.{MakesCuts}
use Rattle.gj_proof.specs.ProofText.{IsBoundedRule, IsProofText, violation_line}
use Rattle.gj_proof.specs.Rules.{IsGmicCoefficient, MeetsFraction, MeetsValue}
use Rattle.gj_proof.proofs.OneText.{one_text}
use Rattle.gj_proof.specs.declared.claim.Claim.TheVariants as claim
use Rattle.gj_proof.specs.declared.cut.CutLine.{CutLine}
use Rattle.gj_proof.specs.declared.cut.CutLine.TheVariants.{Cut, Skip}
use Rattle.gj_proof.specs.declared.cut.CutRule.{CutRule}
use Rattle.gj_proof.specs.declared.cut.CutRule.TheVariants.{Gmic, Table}
use Rattle.gj_proof.specs.declared.cut.CutTerm.{CutTerm}
use Rattle.gj_proof.specs.declared.cut.SkipReason.{SkipReason}
use Rattle.gj_proof.specs.declared.cut.SkipReason.TheVariants.{Integral, Other}
use Rattle.gj_cut_text.specs.CutLines.{IsLineFor, IsTermFor}
use Rattle.gj_top.specs.declared.reply.End.{End}
use Rattle.gj_top.specs.declared.reply.End.TheVariants as end
use Rattle.gj_top.specs.Objection.{NamesViolation}
use Rattle.gj_top.specs.Cut.{CutInput, cut_input, BeginsWithRule, SpellsCutInput, RefusesCutInput, NamesRefusedRecord, refused_record_line, AreCutsOf, IsCutReply, cut}
use Rattle.gj_top.specs.Cut.RefusesCutInput.{of_rule, of_function, of_tableau}
use Rattle.gj_top.proofs.CutForm.{one_rest, rule_is_bounded, lines_are_bounded, no_rule_fault, no_function_fault}
use Rattle.gj_top.proofs.Determined.{SpellsOne, RefusesOne, RepliesOne, IsDetermined, one_named_fault}
use Rattle.gj_top.proofs.InputLines.{rule_of_lines}

-- ---- the form

one_rule : (text : List ℕ) (r s : CutRule) (a b : List ℕ) → BeginsWithRule text r a →
    BeginsWithRule text s b → r ≡ s
one_rule text Gmic Gmic a b h k = refl
one_rule text Gmic (Table g) a b h k = absurd (k.0 h.0)
one_rule text (Table f) Gmic a b h k = absurd (h.0 k.0)
one_rule text (Table f) (Table g) a b h k = ap Table (one_function_text text f g a b h.1 k.1).0

same_input : (a b : CutInput) → a.rule ≡ b.rule → a.tableau ≡ b.tableau → a ≡ b
same_input a b r t = λ i. record { «rule» = r i; tableau = t i }

pub one_cut_spelled : SpellsOne cut_input
one_cut_spelled input a b h k =
    let first = rule_of_lines input a.rule h.rest h.rule in
    let second = rule_of_lines input b.rule k.rest k.rule in
    let rest : h.rest ≡ k.rest = one_rest input a.rule b.rule h.rest k.rest first second in
    same_input a b (one_rule input a.rule b.rule h.rest k.rest first second)
    (one_tableau (records_of k.rest) a.tableau b.tableau
    (subst (λ (r : List ℕ). IsTableauText r a.tableau) rest h.tableau) k.tableau)

one_record : (input x y : List ℕ) → NamesRefusedRecord input x → NamesRefusedRecord input y → x ≡ y
one_record input x y h k =
    let rest : k.rest ≡ h.rest = one_rest input k.rule h.rule k.rest h.rest k.begins h.begins in
    let other = subst (λ (r : List ℕ). IsFirstFaultOfTableau r k.record_number k.reason) rest
    k.first in
    let same = one_tableau_fault (records_of h.rest) h.record_number k.record_number h.reason
    k.reason h.first other in
    h.spelled ∙ ap₂ refused_record_line same.0 same.1 ∙ sym k.spelled

pub one_cut_refusal : RefusesOne RefusesCutInput
one_cut_refusal input x y (of_rule begins h) (of_rule begins' k) =
    one_named_fault _ (λ n m e d. one_fault_of_rule input n m e d) x y h k
one_cut_refusal input x y (of_rule begins h) (of_function none k) = absurd (none begins)
one_cut_refusal input x y (of_rule begins h) (of_tableau k) =
    absurd (no_rule_fault input k.rule k.rest h.at_line h.reason k.begins begins h.first)
one_cut_refusal input x y (of_function none h) (of_rule begins k) = absurd (none begins)
one_cut_refusal input x y (of_function none h) (of_function none' k) =
    one_named_fault _ (λ n m e d. one_first_fault_at_front input n m e d) x y h k
one_cut_refusal input x y (of_function none h) (of_tableau k) =
    absurd (no_function_fault input k.rule k.rest h.at_line h.reason k.begins none h.first)
one_cut_refusal input x y (of_tableau h) (of_rule begins k) =
    absurd (no_rule_fault input h.rule h.rest k.at_line k.reason h.begins begins k.first)
one_cut_refusal input x y (of_tableau h) (of_function none k) =
    absurd (no_function_fault input h.rule h.rest k.at_line k.reason h.begins none k.first)
one_cut_refusal input x y (of_tableau h) (of_tableau k) = one_record input x y h k

-- the replies to such an input, if those to a rule within the limits are one
pub by_rule_bounds : (replies : CutInput → End → List ℕ → Type 0) →
    ((input : List ℕ) (thing : CutInput) → SpellsCutInput input thing → IsBoundedRule thing.rule →
    (e d : End) (x y : List ℕ) →
    replies thing e x → replies thing d y → (e ≡ d) × (x ≡ y)) → RepliesOne cut_input replies
by_rule_bounds replies one input thing spelled =
    one input thing spelled
    (rule_is_bounded input thing.rule spelled.rest
    (rule_of_lines input thing.rule spelled.rest spelled.rule))

-- ---- the first violation

pub one_violation_text : (r : CutRule) (x y : List ℕ) → IsBoundedRule r → NamesViolation r x →
    NamesViolation r y → x ≡ y
one_violation_text Gmic x y l h k = absurd h
one_violation_text (Table f) x y l (v, h, x_is) (w, k, y_is) =
    x_is ∙ ap (λ u. codes "no function " ++ violation_line u) (one_violation f v w l h k) ∙ sym y_is

pub no_violation : (f : FunctionData) (x : List ℕ) → IsWithinBounds f → IsMinimal f →
    NamesViolation (Table f) x → ⊥
no_violation f x l minimal (v, first, is) = violation_denies f v l (first_shown f v l first) minimal

made_no_violation : (r : CutRule) (x : List ℕ) → IsBoundedRule r → MakesCuts r →
    NamesViolation r x → ⊥
made_no_violation Gmic x l h k = k
made_no_violation (Table f) x l h k = no_violation f x l h k

-- ---- cuts

not_at_place : (f : FunctionData) (x : Frac) → IsWithinBounds f →
    HasFractionalPart x (pos f.place) (pos f.order) → IsWhole x → ⊥
not_at_place f x l part whole =
    let low = l.place_low in
    let none : pos 0 *ℤ pos f.order ≡ pos f.place *ℤ pos 1 =
    subst₂ (λ z d. z *ℤ pos f.order ≡ pos f.place *ℤ d) (part_of_whole x whole) whole
    (part_is x (pos f.place) (pos f.order) part) in
    absurd (omega (arith, ints))

-- a line is that of a cut or that of a row that is passed over
cut_or_skip : (r : CutRule) (n m : List ℕ) (x y : Frac) (terms : List CutTerm)
    (reason : SkipReason) → IsBoundedRule r → x ≡ y →
    MeetsFraction r (Cut n x terms) → MeetsFraction r (Skip m y reason) → ⊥
cut_or_skip Gmic n m x y terms Integral l e h k = h (subst IsWhole (sym e) k)
cut_or_skip Gmic n m x y terms Other l e h k = k
cut_or_skip (Table f) n m x y terms Integral l e h k =
    not_at_place f x l h (subst IsWhole (sym e) k)
cut_or_skip (Table f) n m x y terms Other l e h k =
    k.1 (subst (λ (z : Frac). HasFractionalPart z (pos f.place) (pos f.order)) e h)

one_reason : (r : CutRule) (n m : List ℕ) (x y : Frac) (a b : SkipReason) → x ≡ y →
    MeetsFraction r (Skip n x a) → MeetsFraction r (Skip m y b) →
    a ≡ b
one_reason r n m x y Integral Integral e h k = refl
one_reason r n m x y Other Other e h k = refl
one_reason Gmic n m x y Integral Other e h k = absurd k
one_reason Gmic n m x y Other Integral e h k = absurd h
one_reason (Table f) n m x y Integral Other e h k = absurd (k.0 (subst IsWhole e h))
one_reason (Table f) n m x y Other Integral e h k = absurd (h.0 (subst IsWhole (sym e) k))

one_cut_value : (r : CutRule) (n : List ℕ) (right : Frac) (terms : List CutTerm) (t u : CutTerm) →
    IsBoundedRule r →
    MeetsFraction r (Cut n right terms) → t.entry ≡ u.entry → MeetsValue r right t →
    MeetsValue r right u → t.cut ≡ u.cut
one_cut_value Gmic n right terms t u l part e h k =
    one_gmic right u.entry t.cut u.cut part
    (subst (λ (x : Frac). IsGmicCoefficient right x t.cut) e h) k
one_cut_value (Table f) n right terms t u l part e h k =
    one_value f (numerator u.entry *ℤ pos f.order) (unsigned_abs (denominator u.entry)) t.cut u.cut
    l (denominator_some u.entry)
    (subst (λ (x : Frac). IsValueAt f (numerator x *ℤ pos f.order)
    (unsigned_abs (denominator x)) t.cut) e h) k

pub same_cut_term : (t u : CutTerm) → t.name ≡ u.name → t.entry ≡ u.entry → t.cut ≡ u.cut → t ≡ u
same_cut_term t u a b c = λ i. record { name = a i; entry = b i; cut = c i }

one_term : (r : CutRule) (columns : List (List ℕ)) (row : Row) (n : List ℕ) (terms : List CutTerm)
    (e : Entry) (t u : CutTerm) →
    IsBoundedRule r → MeetsFraction r (Cut n row.rhs terms) → IsTermFor r columns row e t →
    IsTermFor r columns row e u → t ≡ u
one_term r columns row n terms e t u l part h k =
    let entry : t.entry ≡ u.entry = h.entry ∙ sym k.entry in
    same_cut_term t u (h.name ∙ sym k.name) entry
    (one_cut_value r n row.rhs terms t u l part entry h.value k.value)

one_line : (r : CutRule) (columns : List (List ℕ)) (row : Row) (a b : CutLine) → IsBoundedRule r →
    IsLineFor r columns row a →
    IsLineFor r columns row b → a ≡ b
one_line r columns row (Cut n x ts) (Cut m y us) l h k =
    let name : n ≡ m = h.0 ∙ sym k.0 in
    let right : x ≡ y = h.1 ∙ sym k.1 in
    let part = subst (λ (z : Frac). MeetsFraction r (Cut n z ts)) h.1 h.2 in
    let terms = one_each (IsTermFor r columns row)
    (λ e t u. one_term r columns row n ts e t u l part) row.entries ts us h.3 k.3 in
    λ i. Cut (name i) (right i) (terms i)
one_line r columns row (Cut n x ts) (Skip m y reason) l h k =
    absurd (cut_or_skip r n m x y ts reason l (h.1 ∙ sym k.1) h.2 k.2)
one_line r columns row (Skip n x reason) (Cut m y us) l h k =
    absurd (cut_or_skip r m n y x us reason l (k.1 ∙ sym h.1) k.2 h.2)
one_line r columns row (Skip n x reason) (Skip m y other) l h k =
    let name : n ≡ m = h.0 ∙ sym k.0 in
    let right : x ≡ y = h.1 ∙ sym k.1 in
    let reasons : reason ≡ other = one_reason r n m x y reason other right h.2 k.2 in
    λ i. Skip (name i) (right i) (reasons i)

one_cuts_text : (input : List ℕ) (thing : CutInput) (x y : List ℕ) → SpellsCutInput input thing →
    IsBoundedRule thing.rule →
    AreCutsOf thing x → AreCutsOf thing y → x ≡ y
one_cuts_text input thing x y spelled l h k =
    let columns = thing.tableau.columns in
    let lines : k.lines ≡ h.lines =
    one_each (IsLineFor thing.rule columns) (λ row a b. one_line thing.rule columns row a b l)
    thing.tableau.rows k.lines h.lines k.lines_are h.lines_are in
    one_text (claim.Cut thing.rule h.lines) x y
    (lines_are_bounded input thing h.lines spelled h.lines_are) h.spelled
    (subst (λ (ls : List CutLine). IsProofText (claim.Cut thing.rule ls) y) lines k.spelled)

one_cut_reply : (input : List ℕ) (thing : CutInput) → SpellsCutInput input thing →
    IsBoundedRule thing.rule → (e d : End) (x y : List ℕ) →
    IsCutReply thing e x → IsCutReply thing d y → (e ≡ d) × (x ≡ y)
one_cut_reply input thing spelled l end.Done end.Done x y h k =
    (refl, one_cuts_text input thing x y spelled l h.1.cuts k.1.cuts)
one_cut_reply input thing spelled l end.Done end.NoFunction x y h k =
    absurd (made_no_violation thing.rule y l h.0 k)
one_cut_reply input thing spelled l end.NoFunction end.Done x y h k =
    absurd (made_no_violation thing.rule x l k.0 h)
one_cut_reply input thing spelled l end.NoFunction end.NoFunction x y h k =
    (refl, one_violation_text thing.rule x y l h k)
one_cut_reply input thing spelled l end.Done d x y h k = absurd k
one_cut_reply input thing spelled l end.NoFunction d x y h k = absurd k
one_cut_reply input thing spelled l e d x y h k = absurd h

pub cut_is_determined : IsDetermined cut
cut_is_determined = record {
  spells = one_cut_spelled;
  refuses = one_cut_refusal;
  replies = by_rule_bounds IsCutReply one_cut_reply;
}
