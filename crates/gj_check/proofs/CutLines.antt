-- The numbers of the lines of rows and of their terms.
use Rattle.std.proofs.Common.{◌≡◌, ◌≢◌, ℕ, ◌+◌, ◌<◌, List, [], ◌∷◌, ◌++◌, All, length, map, refl, sym, ap, subst, ◌∙◌, append_assoc, arith}
use Rattle.std.specs.List.{range_with_len}
use Rattle.std.proofs.lemmas.List.{length-append, map-append}
use Rattle.std.proofs.lemmas.List.Elements.{All-nil, All-cons, All-append, All-map}
use Rattle.gj_lemmas.proofs.Lists.{All-range}
use Rattle.gj_proof.specs.declared.claim.Claim.TheVariants as claims
use Rattle.gj_proof.specs.declared.cut.CutRule.{CutRule}
use Rattle.gj_proof.specs.declared.cut.CutLine.{CutLine}
use Rattle.gj_proof.specs.declared.cut.CutTerm.{CutTerm}
use Rattle.gj_proof.specs.ProofText.{Subject, ProofLine, subject_of_rule, subject_lines, row_line, terms_of, term_lines, row_lines, HasNumber}
use Rattle.gj_proof.specs.ProofText.Subject.{function, gmic}
use Rattle.gj_proof.specs.ProofText.ProofLine.{title, claim, order, place, point, rule_named, cut, term, last}

-- ---- which lines they are

-- the lines of terms, of rows
abbrev pub names_of_terms : ℕ → ℕ → List CutTerm → List ProofLine
names_of_terms i j terms = map (λ l. l.name) (term_lines i j terms)

abbrev pub names_of_rows : ℕ → List CutLine → List ProofLine
names_of_rows i rows = map (λ l. l.name) (row_lines i rows)

terms_split : (i j n : ℕ) (front back : List CutTerm) (t : CutTerm) → n ≡ j + length front →
    names_of_terms i j (front ++ t ∷ back) ≡ names_of_terms i j front ++ term i n ∷ names_of_terms i
    (n + 1) back
terms_split i j n [] back t e =
    let same : j ≡ n = omega arith in
    rw same refl
terms_split i j n (u ∷ front) back t e =
    ap (λ l. term i j ∷ l) (terms_split i (j + 1) n front back t (omega arith))

-- a row and those behind it
first_row : (i : ℕ) (back : List CutLine) (l : CutLine) →
    names_of_rows i (l ∷ back)
    ≡ cut i ∷ (names_of_terms i 0 (terms_of l) ++ names_of_rows (i + 1) back)
first_row i back l =
    map-append (λ o. o.name)
    (record { name = cut i; bytes = row_line l } ∷ term_lines i 0 (terms_of l))
    (row_lines (i + 1) back)

rows_split : (i n : ℕ) (front back : List CutLine) (l : CutLine) → n ≡ i + length front →
    names_of_rows i (front ++ l ∷ back)
    ≡ names_of_rows i front ++ cut n
    ∷ (names_of_terms n 0 (terms_of l) ++ names_of_rows (n + 1) back)
rows_split i n [] back l e =
    let same : i ≡ n = omega arith in
    subst (λ (m : ℕ). names_of_rows i (l ∷ back)
    ≡ cut m ∷ (names_of_terms m 0 (terms_of l) ++ names_of_rows (m + 1) back)) same
    (first_row i back l)
rows_split i n (m ∷ front) back l e =
    let head = record { name = cut i; bytes = row_line m } ∷ term_lines i 0 (terms_of m) in
    map-append (λ o. o.name) head (row_lines (i + 1) (front ++ l ∷ back))
    ∙ ap (λ x. map (λ o. o.name) head ++ x) (rows_split (i + 1) n front back l (omega arith))
    ∙ sym (append_assoc (map (λ o. o.name) head) (names_of_rows (i + 1) front)
    (cut n ∷ (names_of_terms n 0 (terms_of l) ++ names_of_rows (n + 1) back)))
    ∙ ap (λ x. x ++ cut n ∷ (names_of_terms n 0 (terms_of l) ++ names_of_rows (n + 1) back))
    (sym (map-append (λ o. o.name) head (row_lines (i + 1) front)))

-- ---- what each of them has

each_term : (P : ProofLine → Type 0) (i j : ℕ) (terms : List CutTerm) →
    ((m : ℕ) → m < j + length terms → P (term i m)) →
    All P (names_of_terms i j terms)
each_term P i j [] h = All-nil P
each_term P i j (t ∷ terms) h =
    All-cons P (term i j) (names_of_terms i (j + 1) terms) (h j (omega arith))
    (each_term P i (j + 1) terms (λ m below. h m (omega arith)))

each_row : (P : ProofLine → Type 0) (i : ℕ) (rows : List CutLine) →
    ((m : ℕ) → m < i + length rows → P (cut m)) →
    ((m j : ℕ) → m < i + length rows → P (term m j)) → All P (names_of_rows i rows)
each_row P i [] h k = All-nil P
each_row P i (l ∷ rows) h k =
    subst (All P) (sym (first_row i rows l))
    (All-cons P (cut i) (names_of_terms i 0 (terms_of l) ++ names_of_rows (i + 1) rows)
    (h i (omega arith))
    (All-append P (names_of_terms i 0 (terms_of l)) (names_of_rows (i + 1) rows)
    (each_term P i 0 (terms_of l) (λ m below. k i m (omega arith)))
    (each_row P (i + 1) rows (λ m below. h m (omega arith)) (λ m j below. k m j (omega arith)))))

-- the lines before those of rows
each_before : (P : ProofLine → Type 0) (s : Subject) → P title → P claim → P order → P place →
    P rule_named →
    ((i : ℕ) → P (point i)) → All P (title ∷ claim ∷ [] ++ subject_lines s)
each_before P (function f) t c o p r points =
    let ps = map point (range_with_len 0 f.order) in
    All-cons P title (claim ∷ order ∷ place ∷ ps) t
    (All-cons P claim (order ∷ place ∷ ps) c
    (All-cons P order (place ∷ ps) o
    (All-cons P place ps p
    (All-map P point (range_with_len 0 f.order)
    (All-range (λ i. P (point i)) 0 f.order (λ i below. points i))))))
each_before P gmic t c o p r points =
    All-cons P title (claim ∷ rule_named ∷ []) t
    (All-cons P claim (rule_named ∷ []) c (All-cons P rule_named [] r (All-nil P)))

-- ---- how many they are

-- the lines of the rows and their terms
abbrev pub count_of : List CutLine → ℕ
count_of [] = 0
count_of (l ∷ rows) = length (terms_of l) + 1 + count_of rows

pub count_of-append : (front back : List CutLine) →
    count_of (front ++ back) ≡ count_of front + count_of back
count_of-append [] back = omega arith
count_of-append (l ∷ front) back = let rest = count_of-append front back in omega arith

count_terms : (i j : ℕ) (terms : List CutTerm) → length (names_of_terms i j terms) ≡ length terms
count_terms i j [] = refl
count_terms i j (t ∷ terms) = let rest = count_terms i (j + 1) terms in omega arith

count_rows : (i : ℕ) (rows : List CutLine) → length (names_of_rows i rows) ≡ count_of rows
count_rows i [] = refl
count_rows i (l ∷ rows) =
    let head = record { name = cut i; bytes = row_line l } ∷ term_lines i 0 (terms_of l) in
    let split = ap length (map-append (λ o. o.name) head (row_lines (i + 1) rows))
    ∙ length-append (map (λ o. o.name) head) (names_of_rows (i + 1) rows) in
    let rest = count_rows (i + 1) rows in
    let terms = count_terms i 0 (terms_of l) in
    omega arith

-- ---- their numbers

-- the number of the first line of rows
abbrev pub first_of : CutRule → ℕ
first_of rule = length (subject_lines (subject_of_rule rule)) + 3

-- the line of a row
pub number_of_row : (rule : CutRule) (rows front back : List CutLine) (l : CutLine) →
    rows ≡ front ++ l ∷ back →
    HasNumber (claims.Cut rule rows) (cut (length front)) (first_of rule + count_of front)
number_of_row rule rows front back l split =
    let i = length front in
    let P : ProofLine → Type 0 = λ k. k ≢ cut i in
    let head = title ∷ claim ∷ [] ++ subject_lines (subject_of_rule rule) in
    let behind = names_of_terms i 0 (terms_of l) ++ names_of_rows (i + 1) back in
    let all : names_of_rows 0 rows ≡ names_of_rows 0 front ++ cut i ∷ behind =
    ap (names_of_rows 0) split ∙ rows_split 0 i front back l (omega arith) in
    let counted = count_rows 0 front in
    let long = length-append head (names_of_rows 0 front) in
    record {
      before = head ++ names_of_rows 0 front;
      after = behind ++ last ∷ [];
      place = ap (λ x. head ++ x ++ last ∷ []) all
          ∙ regroup head (names_of_rows 0 front) (cut i ∷ behind) (last ∷ []);
      first = All-append P head (names_of_rows 0 front)
          (each_before P (subject_of_rule rule) (λ e. cc) (λ e. cc) (λ e. cc) (λ e. cc) (λ e. cc)
          (λ j e. cc))
          (each_row P 0 front (λ m below e. other_row m i e (omega arith)) (λ m j below e. cc));
      number = omega arith;
    }
  where
    regroup : (a b c d : List ProofLine) → a ++ (b ++ c) ++ d ≡ (a ++ b) ++ (c ++ d)
    regroup a b c d = simp append_assoc

    other_row : (m i : ℕ) → cut m ≡ cut i → m < i → ⊥
    other_row m i e below = let same : m ≡ i = cc in omega arith

-- the line of a term
pub number_of_term : (rule : CutRule) (rows front back : List CutLine) (l : CutLine)
    (before after : List CutTerm) (t : CutTerm) →
    rows ≡ front ++ l ∷ back → terms_of l ≡ before ++ t ∷ after →
    HasNumber (claims.Cut rule rows) (term (length front) (length before))
    (first_of rule + count_of front + (length before + 1))
number_of_term rule rows front back l before after t split terms =
    let i = length front in
    let j = length before in
    let P : ProofLine → Type 0 = λ k. k ≢ term i j in
    let head = title ∷ claim ∷ [] ++ subject_lines (subject_of_rule rule) in
    let earlier = names_of_terms i 0 before in
    let later = names_of_terms i (j + 1) after in
    let more = names_of_rows (i + 1) back in
    let own : names_of_terms i 0 (terms_of l) ≡ earlier ++ term i j ∷ later =
    ap (names_of_terms i 0) terms ∙ terms_split i 0 j before after t (omega arith) in
    let all : names_of_rows 0 rows ≡ names_of_rows 0 front ++ cut i
    ∷ ((earlier ++ term i j ∷ later) ++ more) =
    ap (names_of_rows 0) split ∙ rows_split 0 i front back l (omega arith)
    ∙ ap (λ x. names_of_rows 0 front ++ cut i ∷ (x ++ more)) own in
    let counted = count_rows 0 front in
    let counted_terms = count_terms i 0 before in
    let long = length-append head (names_of_rows 0 front) in
    let longer = length-append (head ++ names_of_rows 0 front) (cut i ∷ earlier) in
    record {
      before = (head ++ names_of_rows 0 front) ++ cut i ∷ earlier;
      after = later ++ more ++ last ∷ [];
      place = ap (λ x. head ++ x ++ last ∷ []) all
          ∙ regroup head (names_of_rows 0 front) (cut i ∷ []) earlier (term i j ∷ []) later more
          (last ∷ []);
      first = All-append P (head ++ names_of_rows 0 front) (cut i ∷ earlier)
          (All-append P head (names_of_rows 0 front)
          (each_before P (subject_of_rule rule) (λ e. cc) (λ e. cc) (λ e. cc) (λ e. cc) (λ e. cc)
          (λ n e. cc))
          (each_row P 0 front (λ m below e. cc) (λ m n below e. other_row m n i j e (omega arith))))
          (All-cons P (cut i) earlier (λ e. cc)
          (each_term P i 0 before (λ m below e. other_term i m j e (omega arith))));
      number = omega arith;
    }
  where
    regroup : (a b c d e f g h : List ProofLine) →
        a ++ (b ++ (c ++ ((d ++ (e ++ f)) ++ g))) ++ h
        ≡ ((a ++ b) ++ (c ++ d)) ++ (e ++ (f ++ g ++ h))
    regroup a b c d e f g h = simp append_assoc

    other_row : (m n i j : ℕ) → term m n ≡ term i j → m < i → ⊥
    other_row m n i j e below = let same : m ≡ i = cc in omega arith

    other_term : (i m j : ℕ) → term i m ≡ term i j → m < j → ⊥
    other_term i m j e below = let same : m ≡ j = cc in omega arith
