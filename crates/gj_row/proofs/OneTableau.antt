-- A text spells one tableau, and none if it has a fault.
use Rattle.std.proofs.Common.{◌≡◌, ℕ, pos, ◌+◌, ◌<◌, ◌≤◌, true, List, [], ◌∷◌, ◌++◌, All, length, map, unsigned_abs, sum_by, refl, sym, ap, subst, ◌∙◌, append_assoc, inl, inr, arith}
use Rattle.std.specs.List.{AllZip}
use Rattle.std.specs.Int.{◌∣◌}
use Rattle.std.proofs.lemmas.Bool.{cases_Bool}
use Rattle.std.proofs.lemmas.Bool.Decides.{nat_tests}
use Rattle.std.proofs.lemmas.Nat.Gcd.{dvd_refl, dvd-zero, dvd_trans}
use Rattle.std.proofs.Math.Nat.{one-dvd}
use Rattle.std.proofs.Math.Seq.{get_or-append_seam}
use Rattle.std.proofs.lemmas.List.{length-append, map-append, get_or_append_left}
use Rattle.std.proofs.lemmas.List.Sums.{sum_by-append}
use Rattle.std.proofs.lemmas.List.Elements.{All-nil, All-head, All-append, All-push}
use Rattle.gj_frac.specs.declared.Frac.{Frac}
use Rattle.gj_frac.specs.Fraction.{denominator, numerator}
use Rattle.gj_frac.proofs.SameValues.{same_from_is}
use Rattle.gj_lex.specs.Name.{IsName}
use Rattle.gj_lex.specs.NumberText.{IsWritten, whole, ratio, point}
use Rattle.gj_lex.specs.SpelledNumbers.{IsFractionWord}
use Rattle.gj_lex.specs.declared.spelling.Spelling.TheVariants.{Lenient}
use Rattle.gj_lex.proofs.SpelledWords.{one_fraction}
use Rattle.gj_shape.specs.Given.{HasCommonDenominator}
use Rattle.gj_shape.proofs.LeastDenominator.{Divides}
use Rattle.gj_lemmas.proofs.Lists.{All-front, All-back}
use Rattle.gj_row.specs.TableauLimits.{AreWithinLimits, IsRowWithinLimits, AreNames, IsTableau, entry_count}
use Rattle.gj_shape.specs.Limits.{IsSmallNumber}
use Rattle.gj_row.specs.TableauText.{SpellsEntry, SpellsNext, SpellNumbers, is_zero, entry_at, entries_from, records_of, SpellsRow, SpellsTableau, IsTableauText}
use Rattle.gj_row.specs.FirstFault.{BreaksName, BreaksNumber, HasNumberFault, row_entries, HasHeaderFault, HasRowFault, HasFirstFault, IsFirstFaultOfTableau, header, columns, name, fields, rows, number, in_header, in_row}
use Rattle.gj_row.specs.Reading.{IsMemoryFault, NamesRecord, tableau_of}
use Rattle.gj_row.specs.declared.faults.RowFault.{RowFault}
use Rattle.gj_row.specs.declared.faults.RowFault.TheVariants.{Refused, Memory}
use Rattle.gj_row.specs.declared.tableau.Row.{Row}
use Rattle.gj_row.specs.declared.tableau.Tableau.{Tableau}
use Rattle.gj_row.specs.declared.faults.RowReason.{RowReason}
use Rattle.gj_row.specs.declared.faults.RowReason.TheVariants.{Header, Fields, Columns, Rows, Name, Twice, Number, Large, Fine, Entries}
use Rattle.gj_row.proofs.SpelledNumbers.{entry_none, entry_one}
use Rattle.gj_row.proofs.RowNumbers.{numbers_long}

-- ---- one number

written_some : (word : List ℕ) (n d : ℕ) → IsWritten word n d → length word ≡ 0 → ⊥
written_some word n d (whole h a b) e = let some = h.0 in omega arith
written_some word n d (ratio front back is h k a b) e = let l = ap length is in
    let m = length-append front (47 ∷ back) in omega arith
written_some word n d (point front back is h k a b) e = let l = ap length is in
    let m = length-append front (46 ∷ back) in omega arith

nothing_spelled : (x : Frac) → IsFractionWord Lenient [] x → ⊥
nothing_spelled x h = written_some [] _ _ h.2.written refl

one_entry : (w : List ℕ) (x y : Frac) → SpellsEntry w x → SpellsEntry w y → x ≡ y
one_entry w x y (inl h) (inl k) =
    same_from_is x y (pos 0) (pos 1) (λ e. absurd (omega arith)) h.1 k.1
one_entry w x y (inl h) (inr k) =
    absurd (nothing_spelled y (subst (λ v. IsFractionWord Lenient v y) h.0 k))
one_entry w x y (inr h) (inl k) =
    absurd (nothing_spelled x (subst (λ v. IsFractionWord Lenient v x) k.0 h))
one_entry w x y (inr h) (inr k) = one_fraction Lenient w x y h k

pub one_next : (xs : List Frac) (w : List ℕ) (x y : Frac) → SpellsNext xs w x → SpellsNext xs w y →
    x ≡ y
one_next [] w x y h k = one_fraction Lenient w x y h k
one_next (r ∷ xs) w x y h k = one_entry w x y h k

-- if each element has one partner, lists of partners are one
pub one_each : {A B : Type 0} (R : A → B → Type 0) → ((a : A) (x y : B) → R a x → R a y → x ≡ y) →
    (us : List A) (xs ys : List B) →
    AllZip R us xs → AllZip R us ys → xs ≡ ys
one_each R one [] [] [] h k = refl
one_each R one [] [] (y ∷ ys) h k = absurd k
one_each R one [] (x ∷ xs) ys h k = absurd h
one_each R one (u ∷ us) [] ys h k = absurd h
one_each R one (u ∷ us) (x ∷ xs) [] h k = absurd k
one_each R one (u ∷ us) (x ∷ xs) (y ∷ ys) h k =
    let first = one u x y h.0 k.0 in
    let rest = one_each R one us xs ys h.1 k.1 in
    cc

pub one_list : (ws : List (List ℕ)) (xs ys : List Frac) → SpellNumbers ws xs → SpellNumbers ws ys →
    xs ≡ ys
one_list [] [] [] h k = refl
one_list [] [] (y ∷ ys) h k = absurd k
one_list [] (x ∷ xs) ys h k = absurd h
one_list (w ∷ ws) [] ys h k = absurd h
one_list (w ∷ ws) (x ∷ xs) [] h k = absurd k
one_list (w ∷ ws) (x ∷ xs) (y ∷ ys) h k =
    let first = one_fraction Lenient w x y h.0 k.0 in
    let rest = one_each SpellsEntry one_entry ws xs ys h.1 k.1 in
    cc

-- ---- one tableau

same_row : (r q : Row) → r.basic ≡ q.basic → r.rhs ≡ q.rhs → r.entries ≡ q.entries → r ≡ q
same_row r q a b e = λ i. record { basic = a i; rhs = b i; entries = e i }

head_or : {A : Type 0} → A → List A → A
head_or d [] = d
head_or d (x ∷ xs) = x

one_row : (n : ℕ) (ws : List (List ℕ)) (r q : Row) → SpellsRow n ws r → SpellsRow n ws q → r ≡ q
one_row n ws r q h k =
    let words = sym h.words_are ∙ k.words_are in
    let basic : r.basic ≡ q.basic = cc words in
    let numbers : h.number_words ≡ k.number_words = cc words in
    let all = one_list k.number_words (r.rhs ∷ h.values) (q.rhs ∷ k.values)
    (subst (λ v. SpellNumbers v (r.rhs ∷ h.values)) numbers h.spelled) k.spelled in
    let right : r.rhs ≡ q.rhs = cc all in
    let values : h.values ≡ k.values = cc all in
    same_row r q basic right (h.entries_are ∙ ap (entries_from 0) values ∙ sym k.entries_are)

same_tableau : (t s : Tableau) → t.columns ≡ s.columns → t.rows ≡ s.rows → t ≡ s
same_tableau t s a b = λ i. record { columns = a i; rows = b i }

pub one_tableau : (ws : List (List (List ℕ))) (t s : Tableau) → SpellsTableau ws t →
    SpellsTableau ws s → t ≡ s
one_tableau ws t s h k =
    let words = sym h.words_are ∙ k.words_are in
    let cols : t.columns ≡ s.columns = cc words in
    let rest : h.row_words ≡ k.row_words = cc words in
    let n = length s.columns in
    let first = subst (λ cs. AllZip (SpellsRow (length cs)) h.row_words t.rows) cols h.rows_are in
    let along = subst (λ v. AllZip (SpellsRow n) v t.rows) rest first in
    same_tableau t s cols
    (one_each (SpellsRow n) (one_row n) k.row_words t.rows s.rows along k.rows_are)

-- ---- names

front_names : (xs ys : List (List ℕ)) → AreNames (xs ++ ys) → AreNames xs
front_names xs ys h = record {
  valid = All-front IsName xs ys h.valid;
  differ = λ i j d before within e.
      let all = length-append xs ys in
      let first : i < length xs = omega arith in
      h.differ i j d before (omega arith)
      (get_or_append_left xs ys d i first ∙ e ∙ sym (get_or_append_left xs ys d j within));
}

pub name_denied : (front back : List (List ℕ)) (word : List ℕ) (e : RowReason) →
    AreNames (front ++ word ∷ back) → BreaksName front word e → ⊥
name_denied front back word Name h b =
    b (All-head IsName word back (All-back IsName front (word ∷ back) h.valid))
name_denied front back word Twice h b =
    let k = b.1.0 in
    let all = length-append front (word ∷ back) in
    h.differ k (length front) word b.1.1 (omega arith)
    (get_or_append_left front (word ∷ back) word k b.1.1 ∙ b.1.2
    ∙ sym (get_or-append_seam front word back word))
name_denied front back word Header h b = b
name_denied front back word Fields h b = b
name_denied front back word Columns h b = b
name_denied front back word Rows h b = b
name_denied front back word Number h b = b
name_denied front back word Large h b = b
name_denied front back word Fine h b = b
name_denied front back word Entries h b = b

-- ---- numbers

-- words that spell numbers are parted as the numbers are
record Parted (front : List (List ℕ)) (word : List ℕ) (zs : List Frac) : Type 0 where
  xs : List Frac
  x : Frac
  ys : List Frac
  place : zs ≡ xs ++ x ∷ ys
  spelled : SpellNumbers front xs
  next : SpellsNext xs word x

record ZipParted {A B : Type 0} (R : A → B → Type 0) (front : List A) (a : A) (back : List A)
    (zs : List B) : Type 0 where
  xs : List B
  x : B
  ys : List B
  place : zs ≡ xs ++ x ∷ ys
  before : AllZip R front xs
  here : R a x
  after : AllZip R back ys

zip_parted : {A B : Type 0} (R : A → B → Type 0) (front : List A) (a : A) (back : List A)
    (zs : List B) → AllZip R (front ++ a ∷ back) zs →
    ZipParted R front a back zs
zip_parted R [] a back [] h = absurd h
zip_parted R [] a back (z ∷ zs) h =
    record { xs = []; x = z; ys = zs; place = refl; before = tt; here = h.0; after = h.1 }
zip_parted R (b ∷ front) a back [] h = absurd h
zip_parted R (b ∷ front) a back (z ∷ zs) h =
    let p = zip_parted R front a back zs h.1 in
    record {
      xs = z ∷ p.xs;
      x = p.x;
      ys = p.ys;
      place = ap (λ l. z ∷ l) p.place;
      before =
          (h.0, p.before);
      here = p.here;
      after = p.after;
    }

parted : (front back : List (List ℕ)) (word : List ℕ) (zs : List Frac) →
    SpellNumbers (front ++ word ∷ back) zs → Parted front word zs
parted [] back word [] h = absurd h
parted [] back word (z ∷ zs) h =
    record { xs = []; x = z; ys = zs; place = refl; spelled = tt; next = h.0 }
parted (v ∷ front) back word [] h = absurd h
parted (v ∷ front) back word (z ∷ zs) h =
    let p = zip_parted SpellsEntry front word back zs h.1 in
    record {
      xs = z ∷ p.xs;
      x = p.x;
      ys = p.ys;
      place = ap (λ l. z ∷ l) p.place;
      spelled =
          (h.0, p.before);
      next = p.here;
    }

front_common : (xs ys : List Frac) → HasCommonDenominator (xs ++ ys) → HasCommonDenominator xs
front_common xs ys d = (d.0, d.1, d.2, All-front (Divides d.0) xs ys d.3)

entries_long : (c : ℕ) (xs ys : List Frac) →
    length (entries_from c xs) ≤ length (entries_from c (xs ++ ys))
entries_long c [] ys = omega arith
entries_long c (x ∷ xs) ys =
    let more = entries_long (c + 1) xs ys in
    let a = length-append (entry_at c x) (entries_from (c + 1) xs) in
    let b = length-append (entry_at c x) (entries_from (c + 1) (xs ++ ys)) in
    omega arith

front_few : (xs ys : List Frac) → length (row_entries xs) ≤ length (row_entries (xs ++ ys))
front_few [] ys = omega arith
front_few (x ∷ xs) ys = entries_long 0 xs ys

pub number_denied : (used : ℕ) (ws : List (List ℕ)) (zs : List Frac) (e : RowReason) →
    SpellNumbers ws zs → AreWithinLimits zs →
    used + length (row_entries zs) ≤ 100000 → HasNumberFault used ws e → ⊥
number_denied used ws zs e spelled within few fault =
    let p = parted fault.front fault.back fault.word zs
    (subst (λ v. SpellNumbers v zs) fault.place spelled) in
    let same : p.xs ≡ fault.xs = one_list fault.front p.xs fault.xs p.spelled fault.good.spelled in
    let split : zs ≡ (fault.xs ++ p.x ∷ []) ++ p.ys =
    p.place ∙ ap (λ l. l ++ p.x ∷ p.ys) same ∙ sym (append_assoc fault.xs (p.x ∷ []) p.ys) in
    let limits = subst AreWithinLimits split within in
    let next = subst (λ l. SpellsNext l fault.word p.x) same p.next in
    let count = subst (λ l. used + length (row_entries l) ≤ 100000) split few in
    denied e fault.xs fault.word p.x p.ys limits next count fault.breaks
  where
    small_there : (xs : List Frac) (x : Frac) (ys : List Frac) →
        AreWithinLimits ((xs ++ x ∷ []) ++ ys) → IsSmallNumber x
    small_there xs x ys limits =
        All-head IsSmallNumber x []
        (All-back IsSmallNumber xs (x ∷ [])
        (All-front IsSmallNumber (xs ++ x ∷ []) ys limits.small))

    denied : (e : RowReason) (xs : List Frac) (w : List ℕ) (x : Frac) (ys : List Frac) →
        AreWithinLimits ((xs ++ x ∷ []) ++ ys) → SpellsNext xs w x →
        used + length (row_entries ((xs ++ x ∷ []) ++ ys)) ≤ 100000 → BreaksNumber used xs w e → ⊥
    denied Number xs w x ys limits next count b = b x next
    denied Large xs w x ys limits next count b =
        b.2 (subst IsSmallNumber (one_next xs w x b.0 next b.1) (small_there xs x ys limits))
    denied Fine xs w x ys limits next count b =
        b.3 (subst (λ y. HasCommonDenominator (xs ++ y ∷ [])) (one_next xs w x b.0 next b.1)
        (front_common (xs ++ x ∷ []) ys limits.common))
    denied Entries xs w x ys limits next count b =
        let same = one_next xs w b.0 x b.1 next in
        let many = subst (λ y. 100000 < used + length (row_entries (xs ++ y ∷ []))) same b.3 in
        let front = front_few (xs ++ x ∷ []) ys in
        omega arith
    denied Header xs w x ys limits next count b = b
    denied Fields xs w x ys limits next count b = b
    denied Columns xs w x ys limits next count b = b
    denied Rows xs w x ys limits next count b = b
    denied Name xs w x ys limits next count b = b
    denied Twice xs w x ys limits next count b = b

-- ---- numbers that are 0

-- what holds of 0 and of the entries that are not 0 holds of all values
all_values : (P : Frac → Type 0) → ((x : Frac) → is_zero x ≡ true → P x) →
    (c : ℕ) (xs : List Frac) →
    All P (map (λ e. e.value) (entries_from c xs)) → All P xs
all_values P zero c [] h = All-nil P
all_values P zero c (x ∷ xs) h =
    elim (cases_Bool (is_zero x)) [
      | inl none ↦
          let rest = subst (λ l. All P (map (λ e. e.value) (l ++ entries_from (c + 1) xs)))
          (entry_none c x none) h in
          All-append P (x ∷ []) xs (All-push P [] x (All-nil P) (zero x none))
          (all_values P zero (c + 1) xs rest)
      | inr some ↦
          let all = subst (λ l. All P (map (λ e. e.value) (l ++ entries_from (c + 1) xs)))
          (entry_one c x some) h in
          let values = map (λ e. e.value) (entries_from (c + 1) xs) in
          All-append P (x ∷ []) xs (All-push P [] x (All-nil P) (All-head P x values all))
          (all_values P zero (c + 1) xs (All-back P (x ∷ []) values all))
    ]

zero_top : (x : Frac) → is_zero x ≡ true → unsigned_abs (numerator x) ≡ 0
zero_top x e = grind (arith, nat_tests)

zero_small : (x : Frac) → is_zero x ≡ true → IsSmallNumber x
zero_small x e = let top = zero_top x e in omega arith

zero_divides : (d : ℕ) (x : Frac) → is_zero x ≡ true → Divides d x
zero_divides d x e =
    let den = unsigned_abs (denominator x) in
    let one : den ∣ 1 = x.lowest.coprime.2 den
    (subst (λ n. den ∣ n) (sym (zero_top x e)) (dvd-zero den)) (dvd_refl den) in
    dvd_trans den one (one-dvd d)

values_within : (row : Row) (values : List Frac) (n : ℕ) → row.entries ≡ entries_from 0 values →
    IsRowWithinLimits n row →
    AreWithinLimits (row.rhs ∷ values)
values_within row values n is h =
    let d = h.numbers.common in record {
      small = whole_row IsSmallNumber zero_small h.numbers.small;
      common = (d.0, d.1, d.2, whole_row (Divides d.0) (zero_divides d.0) d.3);
    }
  where
    whole_row : (P : Frac → Type 0) → ((x : Frac) → is_zero x ≡ true → P x) →
        All P (row.rhs ∷ map (λ e. e.value) row.entries) →
        All P (row.rhs ∷ values)
    whole_row P zero all =
        All-append P (row.rhs ∷ []) values
        (All-push P [] row.rhs (All-nil P)
        (All-head P row.rhs (map (λ e. e.value) row.entries) all))
        (all_values P zero 0 values
        (subst (λ l. All P (map (λ e. e.value) l)) is
        (All-back P (row.rhs ∷ []) (map (λ e. e.value) row.entries) all)))

-- ---- rows

row_denied : (cols : List (List ℕ)) (before later : List Row) (row : Row) (ws : List (List ℕ))
    (e : RowReason) →
    IsTableau (tableau_of cols (before ++ row ∷ later)) → SpellsRow (length cols) ws row →
    HasRowFault (tableau_of cols before) ws e → ⊥
row_denied cols before later row ws e t h (fields wide is) =
    let long = numbers_long h.number_words row.rhs h.values h.spelled in
    let all = ap length h.words_are in
    wide (omega (arith, h.count))
row_denied cols before later row ws e t h (rows wide full is) =
    let few = t.few_rows in
    let count = length-append before (row ∷ later) in
    omega arith
row_denied cols before later row ws e t h (name follows word more is breaks) =
    let words = sym is ∙ h.words_are in
    let same : word ≡ row.basic = cc words in
    let names = map (λ r. r.basic) in
    let split : cols ++ names (before ++ row ∷ later) ≡ (cols ++ names before) ++ row.basic
    ∷ names later =
    ap (λ l. cols ++ l) (map-append (λ r. r.basic) before (row ∷ later))
    ∙ sym (append_assoc cols (names before) (row.basic ∷ names later)) in
    name_denied (cols ++ names before) (names later) row.basic e (subst AreNames split t.names)
    (subst (λ w. BreaksName (cols ++ names before) w e) same breaks)
row_denied cols before later row ws e t h (number follows word more is new fault) =
    let words = sym is ∙ h.words_are in
    let same : more ≡ h.number_words = cc words in
    let each = All-head (IsRowWithinLimits (length cols)) row later
    (All-back (IsRowWithinLimits (length cols)) before (row ∷ later) t.each_row) in
    let count = sum_by-append (λ r. length r.entries) before (row ∷ later) in
    let entries = ap length h.entries_are in
    let this : sum_by (λ r. length r.entries) (row ∷ later) ≡ 0 + length row.entries + sum_by
    (λ r. length r.entries) later =
    sum_by-append (λ r. length r.entries) (row ∷ []) later in
    let few : entry_count (tableau_of cols before) + length (entries_from 0 h.values) ≤ 100000 =
    omega (arith, t.few_entries) in
    number_denied (entry_count (tableau_of cols before)) more (row.rhs ∷ h.values) e
    (subst (λ v. SpellNumbers v (row.rhs ∷ h.values)) (sym same) h.spelled)
    (values_within row h.values (length cols) h.entries_are each)
    few fault

-- ---- texts

header_denied : (ws : List (List (List ℕ))) (t : Tableau) (e : RowReason) → SpellsTableau ws t →
    HasHeaderFault ws e → ⊥
header_denied ws t e h (header none is) = none t.columns h.row_words h.words_are
header_denied ws t e h (columns cols rs words many is) =
    let both = sym words ∙ h.words_are in
    let same : cols ≡ t.columns = cc both in
    let few = h.is_tableau.few_columns in
    let long = ap length same in
    omega arith
header_denied ws t e h (name cols rs words few fault) =
    let both = sym words ∙ h.words_are in
    let same : t.columns ≡ cols = cc both in
    let names = h.is_tableau.names in
    name_denied fault.front fault.back fault.word e
    (subst AreNames (same ∙ fault.place)
    (front_names t.columns (map (λ r. r.basic) t.rows) names))
    fault.breaks

pub no_first_fault : (ws : List (List (List ℕ))) (t : Tableau) (n : ℕ) (e : RowReason) →
    SpellsTableau ws t → HasFirstFault ws n e → ⊥
no_first_fault ws t n e h (in_header is fault) = header_denied ws t e h fault
no_first_fault ws t n e h (in_row before words after s place spelled is fault) =
    let both = sym h.words_are ∙ place ∙ ap (λ l. l ++ words ∷ after) spelled.words_are in
    let cols : t.columns ≡ s.columns = cc both in
    let rest : h.row_words ≡ spelled.row_words ++ words ∷ after = cc both in
    let n = length s.columns in
    let first = subst (λ cs. AllZip (SpellsRow (length cs)) h.row_words t.rows) cols h.rows_are in
    let p = zip_parted (SpellsRow n) spelled.row_words words after t.rows
    (subst (λ v. AllZip (SpellsRow n) v t.rows) rest first) in
    let same = one_each (SpellsRow n) (one_row n) spelled.row_words p.xs s.rows p.before
    spelled.rows_are in
    let split : t.rows ≡ s.rows ++ p.x ∷ p.ys = p.place ∙ ap (λ l. l ++ p.x ∷ p.ys) same in
    let whole_table : IsTableau (tableau_of s.columns (s.rows ++ p.x ∷ p.ys)) =
    subst IsTableau (same_tableau t _ cols split) h.is_tableau in
    row_denied s.columns s.rows p.ys p.x words e whole_table p.here fault

-- a fault of a text that spells a tableau is want of memory
pub only_memory : (text : List ℕ) (t : Tableau) (fault : RowFault) → IsTableauText text t →
    NamesRecord (IsFirstFaultOfTableau text) fault → IsMemoryFault fault
only_memory text t (Refused n e) h fault = no_first_fault (records_of text) t n e h fault
only_memory text t (Memory a) h fault = tt
