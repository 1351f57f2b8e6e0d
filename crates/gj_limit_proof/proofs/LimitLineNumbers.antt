-- The numbers of the lines of a proof text about a function that jumps.
use Rattle.std.proofs.Common.{◌≡◌, inl, inr, ℕ, suc, ◌+◌, List, [], ◌∷◌, ◌++◌, All, length, map, flat_map, codes, refl, sym, ap, subst, subst₂, ◌∙◌, arith}
use Rattle.std.specs.List.{range_with_len}
use Rattle.std.proofs.lemmas.List.{append_assoc, map-append, length-map}
use Rattle.std.proofs.lemmas.List.FromFn.{length-map-range_with_len}
use Rattle.gj_lemmas.proofs.Lists.{All-front}
use Rattle.gj_forms.specs.TextLines.{line_feeds}
use Rattle.gj_forms.proofs.LineNumbers.{line_feeds_append}
use Rattle.gj_forms.proofs.PlainWords.{known}
use Rattle.gj_shape.specs.FunctionData.{FunctionData, IsWithinBounds}
use Rattle.gj_shape.proofs.GivenPoints.{count_of_points}
use Rattle.gj_function_lines.specs.FunctionLines.{line, order_form, order_line, place_form, place_line, point_line, AreFunctionLines}
use Rattle.gj_proof.specs.ProofText.{ProofLine, OwnLine, Subject, function, subject_lines, subject_of}
use Rattle.gj_proof.specs.ProofText as plain
use Rattle.gj_proof.specs.ProofText.ProofLine.{claim, order, place, point, last}
use Rattle.gj_proof.proofs.LineLists.{names, bytes, bytes_append, HasOneFeed, feeds_of_own}
use Rattle.gj_proof.proofs.LineNumbers as plain_numbers
use Rattle.gj_proof.proofs.LineNumbers.{StandsAt, feeds_of_fields, feeds_of_points, parted}
use Rattle.gj_limit_proof.specs.LimitText.{function_of, IsBounded, own_lines, proof_lines_of, HasBytes, HasNumber, IsLimitProofText}
use Rattle.gj_limit_proof.specs.declared.claim.LimitClaim.{LimitClaim}
use Rattle.gj_limit_proof.specs.declared.claim.LimitClaim.TheVariants.{Extreme, NotExtreme}
use Rattle.gj_limit_proof.proofs.LimitLines.{plain_claim, same_subject, same_names, own_bytes, own_lines_have_one_feed}
use Rattle.gj_limit_proof.proofs.LimitReadTexts.{title_line, claim_line}

-- ---- they are those of a claim of texts 1 and 2

same_lines : (c : LimitClaim) → proof_lines_of c ≡ plain.proof_lines_of (plain_claim c)
same_lines c = λ i.
    ProofLine.title ∷ claim ∷ [] ++ subject_lines (sym (same_subject c) i) ++ same_names c i ++ last
    ∷ []

plain_number : (c : LimitClaim) (l : ProofLine) (n : ℕ) → HasNumber c l n →
    plain.HasNumber (plain_claim c) l n
plain_number c l n h =
    record {
      before = h.before;
      after = h.after;
      place = sym (same_lines c) ∙ h.place;
      first =
          h.first;
      number = h.number;
    }

from_plain : (c : LimitClaim) (l : ProofLine) (n : ℕ) → plain.HasNumber (plain_claim c) l n →
    HasNumber c l n
from_plain c l n h =
    record {
      before = h.before;
      after = h.after;
      place = same_lines c ∙ h.place;
      first =
          h.first;
      number = h.number;
    }

pub one_number : (c : LimitClaim) (l : ProofLine) (n m : ℕ) → HasNumber c l n → HasNumber c l m →
    n ≡ m
one_number c l n m h k =
    plain_numbers.one_number (plain_claim c) l n m (plain_number c l n h) (plain_number c l m k)

-- the line of the claim is the second
pub number_of_claim : (c : LimitClaim) → HasNumber c claim 2
number_of_claim c = from_plain c claim 2 (plain_numbers.number_of_claim (plain_claim c))

-- a list of lines is split where their names are
pub record IsSplit (ls : List OwnLine) (before : List ProofLine) (k : ProofLine) : Type 0 where
  pub front : List OwnLine
  pub here : OwnLine
  pub back : List OwnLine
  pub whole : ls ≡ front ++ here ∷ back
  pub name : here.name ≡ k
  pub long : length front ≡ length before

one_before : (m : OwnLine) (x : ProofLine) (ls : List OwnLine) (before : List ProofLine)
    (k : ProofLine) → IsSplit ls before k →
    IsSplit (m ∷ ls) (x ∷ before) k
one_before m x ls before k s =
    record {
      front = m ∷ s.front;
      here = s.here;
      back = s.back;
      whole =
          ap (λ l. m ∷ l) s.whole;
      name = s.name;
      long = ap suc s.long;
    }

split_names : (ls : List OwnLine) (before after : List ProofLine) (k : ProofLine) →
    names ls ≡ before ++ k ∷ after → IsSplit ls before k
split_names [] [] after k e = absurd cc
split_names [] (x ∷ before) after k e = absurd cc
split_names (m ∷ ls) [] after k e =
    record { front = []; here = m; back = ls; whole = refl; name = (cc); long = refl }
split_names (m ∷ ls) (x ∷ before) after k e =
    one_before m x ls before k (split_names ls before after k (cc))

-- one of the claim's own lines stands behind the two first, those of the function and those of its
-- own before it
pub number_of_own : (c : LimitClaim) (a b : List OwnLine) (l : OwnLine) → own_lines c ≡ a ++ l ∷ b →
    HasNumber c l.name (length (subject_lines (function (function_of c))) + length a + 3)
number_of_own c a b l is =
    let p = plain_claim c in
    let there : names (plain.own_lines p) ≡ names a ++ l.name ∷ names b = sym (same_names c)
    ∙ ap names is
    ∙ map-append (λ (o : OwnLine). o.name) a (l ∷ b) in
    let s = split_names (plain.own_lines p) (names a) (names b) l.name there in
    let number = plain_numbers.number_of_own p s.front s.back s.here s.whole in
    let long : length s.front ≡ length a = s.long ∙ length-map a (λ (o : OwnLine). o.name) in
    let N : ProofLine → ℕ → Type 0 = λ k n. plain.HasNumber p k n in
    from_plain c l.name _
    (subst₂ N s.name (λ i. length (subject_lines (same_subject c i)) + long i + 3) number)

-- ---- line feeds

-- the lines of a function have as many line feeds
feeds_of_function : (f : FunctionData) (text : List ℕ) → IsWithinBounds f →
    AreFunctionLines f text →
    line_feeds text ≡ length (subject_lines (function f))
feeds_of_function f text b l =
    let long : length (map point (range_with_len 0 f.order)) ≡ f.order =
    length-map-range_with_len point 0 f.order in
    let order_feeds = feeds_of_fields (order_form.fields f.order)
    (known (codes "order") refl, (let high = b.order_high in omega arith)) in
    let place_feeds = feeds_of_fields (place_form.fields l.place) (known (codes "f") refl, tt) in
    let points_feeds = feeds_of_points l.points in
    let count = count_of_points l.points f b l.points_are in
    let first = line_feeds_append (order_line f.order) (place_line l.place) in
    let whole = line_feeds_append (order_line f.order ++ place_line l.place)
    (flat_map point_line l.points) in
    ap line_feeds l.spelled ∙ omega arith

-- ---- the line with a number

-- the text by its lines
by_lines : (c : LimitClaim) (text : List ℕ) → (p : IsLimitProofText c text) →
    text ≡ title_line ++ claim_line c ++ p.subject ++ bytes (own_lines c) ++ line (codes "end")
by_lines c text p = p.spelled
    ∙ ap (λ t. title_line ++ claim_line c ++ p.subject ++ t ++ line (codes "end"))
    (sym (own_bytes c))

claim_at : (c : LimitClaim) (text : List ℕ) → IsLimitProofText c text →
    StandsAt text (claim_line c) 2
claim_at c text p = (
  title_line,
  p.subject ++ bytes (own_lines c) ++ line (codes "end"),
  by_lines c text p ∙ regroup title_line (claim_line c) p.subject (bytes (own_lines c))
      (line (codes "end")),
  refl,
)
  where
    regroup : (a b c d e : List ℕ) → a ++ b ++ c ++ d ++ e ≡ a ++ (b ++ (c ++ d ++ e))
    regroup a b c d e = simp append_assoc

feeds_of_claim : (c : LimitClaim) → line_feeds (claim_line c) ≡ 1
feeds_of_claim (Extreme n f lines rows) = refl
feeds_of_claim (NotExtreme f h) = refl

own_at : (c : LimitClaim) (text : List ℕ) (a b : List OwnLine) (l : OwnLine) → IsBounded c →
    IsLimitProofText c text →
    own_lines c ≡ a ++ l ∷ b →
    StandsAt text l.bytes (length (subject_lines (function (function_of c))) + length a + 3)
own_at c text a b l within p is =
    let head = title_line ++ claim_line c in
    let ones : All HasOneFeed a =
    All-front HasOneFeed a (l ∷ b)
    (subst (All HasOneFeed) is (own_lines_have_one_feed c within p.has_text)) in
    let own = feeds_of_own a ones in
    let subject = feeds_of_function (function_of c) p.subject within p.are_function_lines in
    let one : line_feeds title_line ≡ 1 = refl in
    let two = feeds_of_claim c in
    let x = line_feeds_append title_line (claim_line c) in
    let y = line_feeds_append head p.subject in
    let z = line_feeds_append (head ++ p.subject) (bytes a) in (
      head ++ p.subject ++ bytes a,
      bytes b ++ line (codes "end"),
      by_lines c text p ∙ ap (λ ls. head ++ p.subject ++ bytes ls ++ line (codes "end")) is
          ∙ ap (λ t. head ++ p.subject ++ t ++ line (codes "end")) (bytes_append a (l ∷ b))
          ∙ regroup (head ++ p.subject) (bytes a) l.bytes (bytes b) (line (codes "end")),
      omega arith,
    )
  where
    regroup : (a b c d e : List ℕ) → a ++ (b ++ (c ++ d)) ++ e ≡ a ++ b ++ (c ++ (d ++ e))
    regroup a b c d e = simp append_assoc

pub line_of_number : (c : LimitClaim) (text bytes : List ℕ) (l : ProofLine) (n : ℕ) → IsBounded c →
    IsLimitProofText c text →
    HasBytes c l bytes → HasNumber c l n → StandsAt text bytes n
line_of_number c text bytes l n b p (inl h) k =
    let same = one_number c claim 2 n (number_of_claim c) (subst (λ m. HasNumber c m n) h.0 k) in
    subst (StandsAt text bytes) same (subst (λ t. StandsAt text t 2) (sym h.1) (claim_at c text p))
line_of_number c text bytes l n b p (inr h) k =
    let own : OwnLine = record { name = l; bytes = bytes } in
    let (before, after, is) = parted (own_lines c) own h in
    let same = one_number c l
    (length (subject_lines (function (function_of c))) + length before + 3) n
    (number_of_own c before after own is) k in
    subst (StandsAt text bytes) same (own_at c text before after own b p is)
