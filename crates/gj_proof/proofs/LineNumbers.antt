-- The numbers of the lines of a proof text.
use Rattle.std.proofs.Common.{◌≡◌, ◌≢◌, inl, inr, ℕ, zero, suc, ◌+◌, List, [], ◌∷◌, ◌++◌, All, Contains, length, map, flat_map, codes, refl, sym, ap, subst, ◌∙◌, arith, length-append}
use Rattle.std.specs.List.{range_with_len}
use Rattle.std.proofs.lemmas.List.{append_assoc, map-append, length-map}
use Rattle.std.proofs.lemmas.List.Elements.{All-nil, All-cons, All-head, All-append, All-map}
use Rattle.std.proofs.lemmas.List.FromFn.{length-map-range_with_len}
use Rattle.gj_forms.specs.TextLines.{line_feeds}
use Rattle.gj_forms.proofs.LineNumbers.{line_feeds_append}
use Rattle.gj_shape.specs.FunctionData.{FunctionData, IsWithinBounds}
use Rattle.gj_shape.specs.declared.violations.Violation.{Violation}
use Rattle.gj_function_lines.specs.FunctionLines.{line, order_form, order_line, place_form, place_line, point_form, numbers_of as printed_numbers, point_line, AreFunctionLines}
use Rattle.gj_function_lines.proofs.ClearLines.{good_point}
use Rattle.gj_forms.specs.LineForms.{Field, bytes_of, form_of}
use Rattle.gj_forms.proofs.FieldWords.{AreGood}
use Rattle.gj_forms.proofs.LineFeeds.{one_feed}
use Rattle.gj_forms.proofs.PlainWords.{known}
use Rattle.gj_shape.specs.declared.points.Point.{Point}
use Rattle.gj_shape.proofs.GivenPoints.{count_of_points}
use Rattle.gj_lemmas.specs.FirstThatFails.{IsFirstFailing}
use Rattle.gj_lemmas.proofs.FirstThatFails.{first_failing, one_first_failing}
use Rattle.gj_lemmas.proofs.Lists.{All-front, All-back, All-range}
use Rattle.gj_proof.specs.ProofText.{ProofLine, OwnLine, Subject, function, gmic, IfFunction, IsBounded, subject_of, numbers_of, subject_lines, AreSubjectLines, own_lines, proof_lines_of, HasBytes, HasNumber, violation_line, IsProofText}
use Rattle.gj_proof.specs.ProofText.ProofLine.{title, claim, order, place, point, rule_named, violation_shown, last}
use Rattle.gj_proof.specs.declared.claim.Claim.{Claim}
use Rattle.gj_proof.specs.declared.claim.Claim.TheVariants.{Minimal, NotMinimal, Cut, Extreme, ExtremeByResidues, NotExtreme}
use Rattle.gj_proof.specs.declared.numbers.Numbers.{Numbers}
use Rattle.gj_proof.specs.declared.numbers.Numbers.TheVariants.{Whole, Residues}
use Rattle.gj_proof.proofs.LineLists.{title_line, claim_line, names, bytes, bytes_append, Differ, differs_from_those_before, HasOneFeed, feeds_of_own}
use Rattle.gj_proof.proofs.OwnLines.{own_lines_differ, IsOwn, own_lines_are_own, own_lines_have_one_feed, own_bytes}

-- ---- one number

-- the lines before the first that is this one are others
first_of : (c : Claim) (l : ProofLine) (n : ℕ) → (h : HasNumber c l n) →
    IsFirstFailing (All (λ k. k ≢ l)) (proof_lines_of c) h.before l
first_of c l n h = first_failing (λ k. k ≢ l) (proof_lines_of c) h.before h.after l h.place h.first
    (λ other. other refl)

pub one_number : (c : Claim) (l : ProofLine) (n m : ℕ) → HasNumber c l n → HasNumber c l m → n ≡ m
one_number c l n m h k =
    let P : ProofLine → Type 0 = λ k. k ≢ l in
    let same = one_first_failing (All P) (All-front P) (proof_lines_of c) h.before k.before l l
    (first_of c l n h) (first_of c l m k) in
    h.number ∙ ap (λ b. length b + 1) same.0 ∙ sym k.number

-- the line of the claim is the second
pub number_of_claim : (c : Claim) → HasNumber c claim 2
number_of_claim c = record {
  before = title ∷ [];
  after = subject_lines (subject_of c) ++ map (λ l. l.name) (own_lines c) ++ last ∷ [];
  place = refl;
  first = All-cons (λ k. k ≢ claim) title [] (λ e. cc) (All-nil (λ k. k ≢ claim));
  number = refl;
}

-- ---- the claim's own lines

-- the lines of a subject are none of those
no_own_in_subject : (s : Subject) (l : ProofLine) → IsOwn l → All (λ k. k ≢ l) (subject_lines s)
no_own_in_subject (function f) l own =
    let P : ProofLine → Type 0 = λ k. k ≢ l in
    let points : All P (map point (range_with_len 0 f.order)) =
    All-map P point (range_with_len 0 f.order)
    (All-range (λ i. P (point i)) 0 f.order (λ i below e. subst IsOwn (sym e) own)) in
    All-cons P order (place ∷ map point (range_with_len 0 f.order)) (λ e. subst IsOwn (sym e) own)
    (All-cons P place (map point (range_with_len 0 f.order)) (λ e. subst IsOwn (sym e) own) points)
no_own_in_subject gmic l own =
    All-cons (λ k. k ≢ l) rule_named [] (λ e. subst IsOwn (sym e) own) (All-nil (λ k. k ≢ l))

-- one of the claim's own lines stands behind the two first, those of the subject and those of its
-- own before it
pub number_of_own : (c : Claim) (a b : List OwnLine) (l : OwnLine) → own_lines c ≡ a ++ l ∷ b →
    HasNumber c l.name (length (subject_lines (subject_of c)) + length a + 3)
number_of_own c a b l is =
    let P : ProofLine → Type 0 = λ k. k ≢ l.name in
    let subject = subject_lines (subject_of c) in
    let split : names (own_lines c) ≡ names a ++ l.name ∷ names b = ap names is
    ∙ map-append (λ (o : OwnLine). o.name) a (l ∷ b) in
    let own : IsOwn l.name =
    All-head IsOwn l.name (names b)
    (All-back IsOwn (names a) (l.name ∷ names b)
    (subst (All IsOwn) split (own_lines_are_own c))) in
    let differs : All P (names a) = differs_from_those_before (names a) (names b) l.name
    (subst Differ split (own_lines_differ c)) in
    let long : length (names a) ≡ length a = length-map a (λ (o : OwnLine). o.name) in
    let both = length-append subject (names a) in record {
      before = title ∷ claim ∷ (subject ++ names a);
      after = names b ++ last ∷ [];
      place = ap (λ ns. title ∷ claim ∷ [] ++ subject ++ ns ++ last ∷ []) split
          ∙ regroup subject (names a) (l.name ∷ names b) (last ∷ []);
      first = All-cons P title (claim ∷ (subject ++ names a)) (λ e. subst IsOwn (sym e) own)
          (All-cons P claim (subject ++ names a) (λ e. subst IsOwn (sym e) own)
          (All-append P subject (names a) (no_own_in_subject (subject_of c) l.name own) differs));
      number = omega arith;
    }
  where
    regroup : (s a b d : List ProofLine) → title ∷ claim ∷ [] ++ s ++ (a ++ b) ++ d
        ≡ (title ∷ claim ∷ (s ++ a)) ++ (b ++ d)
    regroup s a b d = simp append_assoc

-- the line of a violation stands behind five others and those of the points
pub number_of_violation : (f : FunctionData) (v : Violation) →
    HasNumber (NotMinimal f v) violation_shown (f.order + 5)
number_of_violation f v =
    let long : length (map point (range_with_len 0 f.order)) ≡ f.order =
    length-map-range_with_len point 0 f.order in
    let same : length (order ∷ place ∷ map point (range_with_len 0 f.order)) + 0 + 3 ≡ f.order + 5 =
    omega arith in
    subst (HasNumber (NotMinimal f v) violation_shown) same
    (number_of_own (NotMinimal f v) [] []
    (record { name = violation_shown; bytes = violation_line v }) refl)

-- ---- line feeds

pub feeds_of_fields : (fs : List Field) → AreGood fs → line_feeds (bytes_of fs) ≡ 1
feeds_of_fields fs good =
    one_feed (form_of (λ (t : Unit {0}). fs))
    (record { of_form = λ t h. tt; good = λ t h. good; one = λ a b h k e. refl }) tt tt

pub feeds_of_points : (points : List Point) → line_feeds (flat_map point_line points) ≡ length points
feeds_of_points [] = refl
feeds_of_points (p ∷ points) =
    let one = feeds_of_fields (point_form.fields (printed_numbers p))
    (good_point (printed_numbers p)) in
    let more = feeds_of_points points in
    let both = line_feeds_append (point_line p) (flat_map point_line points) in
    omega arith

-- the lines of a function are two more than its order
feeds_of_function : (f : FunctionData) (text : List ℕ) → IsWithinBounds f →
    AreFunctionLines f text → line_feeds text ≡ f.order + 2
feeds_of_function f text b l =
    let order_feeds = feeds_of_fields (order_form.fields f.order)
    (known (codes "order") refl, (let high = b.order_high in omega arith)) in
    let place_feeds = feeds_of_fields (place_form.fields l.place) (known (codes "f") refl, tt) in
    let points_feeds = feeds_of_points l.points in
    let count = count_of_points l.points f b l.points_are in
    let first = line_feeds_append (order_line f.order) (place_line l.place) in
    let whole = line_feeds_append (order_line f.order ++ place_line l.place)
    (flat_map point_line l.points) in
    ap line_feeds l.spelled ∙ omega arith

-- the lines of a subject have as many line feeds
feeds_of_subject : (s : Subject) (text : List ℕ) → IfFunction s IsWithinBounds →
    AreSubjectLines s text →
    line_feeds text ≡ length (subject_lines s)
feeds_of_subject (function f) text b l =
    let long : length (map point (range_with_len 0 f.order)) ≡ f.order =
    length-map-range_with_len point 0 f.order in
    let feeds = feeds_of_function f text b l in
    omega arith
feeds_of_subject gmic text b l = ap line_feeds l

-- ---- the line with a number

-- behind these bytes the text goes on with these, and this is the number of the line that begins
-- there
abbrev pub StandsAt : List ℕ → List ℕ → ℕ → Type 0
StandsAt text bytes n = (before rest : List ℕ) × (text ≡ before ++ (bytes ++ rest))
    × (n ≡ line_feeds before + 1)

feeds_of_title : (n : Numbers) → line_feeds (title_line n) ≡ 1
feeds_of_title Whole = refl
feeds_of_title Residues = refl

-- the text by its lines
by_lines : (c : Claim) (text : List ℕ) → (p : IsProofText c text) →
    text ≡ title_line (numbers_of c) ++ claim_line c ++ p.subject ++ bytes (own_lines c) ++ line
    (codes "end")
by_lines c text p =
    p.spelled ∙ ap (λ t. title_line (numbers_of c) ++ claim_line c ++ p.subject ++ t ++ line
    (codes "end")) (sym (own_bytes c))

claim_at : (c : Claim) (text : List ℕ) → IsProofText c text → StandsAt text (claim_line c) 2
claim_at c text p = (
  title_line (numbers_of c),
  p.subject ++ flat_map (λ l. l.bytes) (own_lines c) ++ line (codes "end"),
  by_lines c text p
      ∙ regroup (title_line (numbers_of c)) (claim_line c) p.subject
      (flat_map (λ l. l.bytes) (own_lines c)) (line (codes "end")),
  ap (λ k. k + 1) (sym (feeds_of_title (numbers_of c))),
)
  where
    regroup : (a b c d e : List ℕ) → a ++ b ++ c ++ d ++ e ≡ a ++ (b ++ (c ++ d ++ e))
    regroup a b c d e = simp append_assoc

feeds_of_claim : (c : Claim) → line_feeds (claim_line c) ≡ 1
feeds_of_claim (Minimal f) = refl
feeds_of_claim (NotMinimal f v) = refl
feeds_of_claim (Cut rule rows) = refl
feeds_of_claim (Extreme f lines rows) = refl
feeds_of_claim (ExtremeByResidues f lines rows) = refl
feeds_of_claim (NotExtreme f h) = refl

subject_is_bounded : (c : Claim) → IsBounded c → IfFunction (subject_of c) IsWithinBounds
subject_is_bounded (Minimal f) b = b
subject_is_bounded (NotMinimal f v) b = b
subject_is_bounded (Cut rule rows) b = b.0
subject_is_bounded (Extreme f lines rows) b = b
subject_is_bounded (ExtremeByResidues f lines rows) b = b
subject_is_bounded (NotExtreme f h) b = b

own_at : (c : Claim) (text : List ℕ) (a b : List OwnLine) (l : OwnLine) → IsBounded c →
    IsProofText c text → own_lines c ≡ a ++ l ∷ b →
    StandsAt text l.bytes (length (subject_lines (subject_of c)) + length a + 3)
own_at c text a b l within p is =
    let title_bytes = title_line (numbers_of c) in
    let claim_bytes = claim_line c in
    let front = title_bytes ++ claim_bytes ++ p.subject ++ bytes a in
    let ones : All HasOneFeed a =
    All-front HasOneFeed a (l ∷ b)
    (subst (All HasOneFeed) is (own_lines_have_one_feed c within p.has_text)) in
    let own = feeds_of_own a ones in
    let subject = feeds_of_subject (subject_of c) p.subject
    (subject_is_bounded c within) p.are_subject_lines in
    let one : line_feeds title_bytes ≡ 1 = feeds_of_title (numbers_of c) in
    let two = feeds_of_claim c in
    let x = line_feeds_append title_bytes claim_bytes in
    let y = line_feeds_append (title_bytes ++ claim_bytes) p.subject in
    let z = line_feeds_append (title_bytes ++ claim_bytes ++ p.subject) (bytes a) in (
      front,
      bytes b ++ line (codes "end"),
      by_lines c text p ∙ ap
          (λ ls. title_bytes ++ claim_bytes ++ p.subject ++ bytes ls ++ line (codes "end")) is
          ∙ ap (λ t. title_bytes ++ claim_bytes ++ p.subject ++ t ++ line (codes "end"))
          (bytes_append a (l ∷ b))
          ∙ regroup (title_bytes ++ claim_bytes ++ p.subject) (bytes a) l.bytes (bytes b)
          (line (codes "end")),
      omega arith,
    )
  where
    regroup : (a b c d e : List ℕ) → a ++ (b ++ (c ++ d)) ++ e ≡ a ++ b ++ (c ++ (d ++ e))
    regroup a b c d e = simp append_assoc

-- a line that is among these stands behind some and before others
pub parted : (ls : List OwnLine) (l : OwnLine) → Contains ls l →
    (a b : List OwnLine) × (ls ≡ a ++ l ∷ b)
parted [] l (i, below, is) = absurd (omega arith)
parted (m ∷ ls) l (zero, below, is) = ([], ls, ap (λ k. k ∷ ls) is)
parted (m ∷ ls) l (suc i, below, is) =
    let h = parted ls l (i, omega (arith, below), is) in (m ∷ h.0, h.1, ap (λ k. m ∷ k) h.2)

pub line_of_number : (c : Claim) (text bytes : List ℕ) (l : ProofLine) (n : ℕ) → IsBounded c →
    IsProofText c text →
    HasBytes c l bytes → HasNumber c l n → StandsAt text bytes n
line_of_number c text bytes l n b p (inl h) k =
    let same = one_number c claim 2 n (number_of_claim c) (subst (λ m. HasNumber c m n) h.0 k) in
    subst (StandsAt text bytes) same (subst (λ t. StandsAt text t 2) (sym h.1) (claim_at c text p))
line_of_number c text bytes l n b p (inr h) k =
    let own : OwnLine = record { name = l; bytes = bytes } in
    let (before, after, is) = parted (own_lines c) own h in
    let same = one_number c l (length (subject_lines (subject_of c)) + length before + 3) n
    (number_of_own c before after own is) k in
    subst (StandsAt text bytes) same (own_at c text before after own b p is)
