-- Pairs that have the same row, by the codes of the counts before their grid points.
use Rattle.std.proofs.Common.{◌≡◌, ℕ, ◌+◌, ◌*◌, ◌-◌, ◌%◌, ◌<◌, ◌≤◌, ◌^◌, ◌⊎◌, ◌↔◌, inl, inr, pos, ◌+ℤ◌, ◌-ℤ◌, List, [], ◌++◌, length, map, get_or, refl, sym, ap, ap₂, ◌∙◌, ◌∷◌, cond, eqb, zero-add, arith}
use Rattle.std.specs.List.{range_with_len}
use Rattle.std.proofs.Math.Nat.{add-mod_right, mod-eq_of_lt, mod-lt}
use Rattle.std.proofs.Math.Path.{fun_ext}
use Rattle.std.proofs.lemmas.Bool.{cases_lt}
use Rattle.std.proofs.lemmas.Int.{ints}
use Rattle.std.proofs.lemmas.List.{append_assoc, get_or_append_left, get_or-append-add, length-append}
use Rattle.std.proofs.lemmas.List.FromFn.{length-map-range_with_len, get_or-map-range_with_len, map-range_with_len_more, fill_by_all}
use Rattle.gj_shape.specs.SlopeRows.{rises, row_entry, row_of}
use Rattle.gj_shape.specs.declared.extremality.RowName.TheVariants.{Pair}
use Rattle.gj_system.specs.Codes.{packed, codes_before, codes_twice, ArePackable}
use Rattle.gj_system.specs.Components.{rises_at}
use Rattle.gj_system.proofs.PackedCounts.{packed_four, packed_sum, packed_one, same_digits}
use Rattle.gj_lemmas.proofs.Lists.{All-made}
use Rattle.gj_theory.proofs.RiseCounts.{rises_at_most, rises_more}

-- ---- codes of points

-- before 0 there is no interval
pub no_code : (f : ℕ → ℕ) (n : ℕ) → packed (rises_at f n 0) ≡ 0
no_code f n = none (range_with_len 0 n)
  where
    none : (cs : List ℕ) → packed (map (rises f 0) cs) ≡ 0
    none [] = refl
    none (c ∷ cs) = let first : rises f 0 c ≡ 0 = refl in let rest = none cs in omega arith

-- one more interval
pub one_code_more : (f : ℕ → ℕ) (n i : ℕ) → n ≤ 4 → f i < n →
    packed (rises_at f n i) + 2 ^ (16 * f i) ≡ packed (rises_at f n (i + 1))
one_code_more f n i few inside =
    let cs = range_with_len 0 n in
    ap (λ x. packed (rises_at f n i) + x) (sym (packed_one n (f i) few inside))
    ∙ packed_sum (rises f i) (λ c. cond (eqb (f i) c) 1 0) cs
    ∙ ap (λ g. packed (map g cs)) (fun_ext (λ c. sym (rises_more f i c)))

pub code_small : (f : ℕ → ℕ) (n q i : ℕ) → ArePackable n q → i ≤ q →
    packed (rises_at f n i) < 2 ^ 64
code_small f n q i h within =
    let len = length-map-range_with_len (rises f i) 0 n in
    let few = h.columns in
    let order = h.order in
    packed_four (rises_at f n i) (omega arith)
    (All-made (λ x. x < 2 ^ 16) (rises f i) 0 n (λ c below. let most = rises_at_most f i c in
    omega arith))

-- the code of one more point behind those before
pub one_pushed : (f : ℕ → ℕ) (n i code : ℕ) (first codes more : List ℕ) →
    codes ≡ first ++ codes_before f n i →
    code ≡ packed (rises_at f n i) → more ≡ codes ++ code ∷ [] →
    more ≡ first ++ codes_before f n (i + 1)
one_pushed f n i code first codes more are is e =
    e ∙ ap₂ (λ xs x. xs ++ x ∷ []) are is
    ∙ append_assoc first (codes_before f n i) (packed (rises_at f n i) ∷ [])
    ∙ ap (λ xs. first ++ xs)
    (sym (map-range_with_len_more (λ j. packed (rises_at f n j)) 0 i i (zero-add i)))

-- ---- all codes

-- the codes of the counts of n columns before each of the first q grid points, twice over
pub record AreCodes (f : ℕ → ℕ) (n q : ℕ) (codes : List ℕ) : Type 0 where
  pub packable : ArePackable n q
  pub codes_are : codes ≡ codes_twice f n q

pub length-once : (f : ℕ → ℕ) (n q : ℕ) → length (codes_before f n q) ≡ q
length-once f n q = length-map-range_with_len (λ i. packed (rises_at f n i)) 0 q

pub length-codes : (f : ℕ → ℕ) (n q : ℕ) (codes : List ℕ) → AreCodes f n q codes →
    length codes ≡ q + q
length-codes f n q codes h =
    let half = codes_before f n q in
    ap length h.codes_are ∙ length-append half half
    ∙ ap₂ (λ x y. x + y) (length-once f n q) (length-once f n q)

once_at : (f : ℕ → ℕ) (n q i : ℕ) → i < q →
    get_or (codes_before f n q) i 0 ≡ packed (rises_at f n i)
once_at f n q i below = get_or-map-range_with_len (λ j. packed (rises_at f n j)) 0 q i i 0 below
    (zero-add i)

-- that of a point
code_at : (f : ℕ → ℕ) (n q i : ℕ) (codes : List ℕ) → AreCodes f n q codes → i < q →
    get_or codes i 0 ≡ packed (rises_at f n i)
code_at f n q i codes h below =
    let half = codes_before f n q in
    ap (λ l. get_or l i 0) h.codes_are
    ∙ get_or_append_left half half 0 i (omega (arith, length-once f n q)) ∙ once_at f n q i below

-- that of a sum of two points
code_of_sum : (f : ℕ → ℕ) (n q i j : ℕ) (codes : List ℕ) → AreCodes f n q codes → i < q → j < q →
    get_or codes (i + j) 0 ≡ packed (rises_at f n ((i + j) % q))
code_of_sum f n q i j codes h first second = by_cases (cases_lt (i + j) q)
  where
    by_cases : (i + j < q) ⊎ (q ≤ i + j) →
        get_or codes (i + j) 0 ≡ packed (rises_at f n ((i + j) % q))
    by_cases (inl below) =
        code_at f n q (i + j) codes h below
        ∙ ap (λ m. packed (rises_at f n m)) (sym (mod-eq_of_lt below))
    by_cases (inr above) =
        let half = codes_before f n q in
        let rest = i + j - q in
        let inside : i + j - q < q = omega arith in
        let whole : i + j ≡ length (codes_before f n q) + (i + j - q) =
        omega (arith, length-once f n q) in
        let split : i + j ≡ i + j - q + q = omega arith in
        let residue : (i + j) % q ≡ i + j - q = ap (λ m. m % q) split ∙ add-mod_right (i + j - q) q
        ∙ mod-eq_of_lt inside in
        ap (λ l. get_or l (i + j) 0) h.codes_are ∙ ap (λ m. get_or (half ++ half) m 0) whole
        ∙ get_or-append-add half half rest 0 ∙ once_at f n q (i + j - q) inside
        ∙ ap (λ m. packed (rises_at f n m)) (sym residue)

-- three codes add to that of the sums
sum_is : (f : ℕ → ℕ) (n q i j x y : ℕ) (codes : List ℕ) → AreCodes f n q codes → i < q → j < q →
    x < q → y < q →
    get_or codes i 0 + get_or codes j 0 + get_or codes (x + y) 0
    ≡ packed (map (λ c. rises f i c + rises f j c + rises f ((x + y) % q) c) (range_with_len 0 n))
sum_is f n q i j x y codes h in_i in_j in_x in_y =
    let cs = range_with_len 0 n in
    ap₂ (λ u v. u + v)
    (ap₂ (λ u v. u + v) (code_at f n q i codes h in_i) (code_at f n q j codes h in_j)
    ∙ packed_sum (rises f i) (rises f j) cs)
    (code_of_sum f n q x y codes h in_x in_y)
    ∙ packed_sum (λ c. rises f i c + rises f j c) (rises f ((x + y) % q)) cs

digit_small : (f : ℕ → ℕ) (q i j m c : ℕ) → 3 * q < 2 ^ 16 → i < q → j < q →
    rises f i c + rises f j c + rises f (m % q) c < 2 ^ 16
digit_small f q i j m c small in_i in_j =
    let x = rises_at_most f i c in
    let y = rises_at_most f j c in
    let z = rises_at_most f (m % q) c in
    let some : 0 < q = omega arith in
    let residue : m % q < q = mod-lt m some in
    omega arith

-- and their sum fits
pub sum_fits : (f : ℕ → ℕ) (n q i j x y : ℕ) (codes : List ℕ) → AreCodes f n q codes → i < q →
    j < q → x < q → y < q →
    get_or codes i 0 + get_or codes j 0 + get_or codes (x + y) 0 < 2 ^ 64
sum_fits f n q i j x y codes h in_i in_j in_x in_y =
    let sum = λ (c : ℕ). rises f i c + rises f j c + rises f ((x + y) % q) c in
    let whole = sum_is f n q i j x y codes h in_i in_j in_x in_y in
    let len = length-map-range_with_len
    (λ (c : ℕ). rises f i c + rises f j c + rises f ((x + y) % q) c) 0 n in
    let most = h.packable.columns in
    let below = packed_four
    (map (λ c. rises f i c + rises f j c + rises f ((x + y) % q) c) (range_with_len 0 n))
    (omega arith)
    (All-made (λ d. d < 2 ^ 16) sum 0 n
    (λ c inside. digit_small f q i j (x + y) c h.packable.order in_i in_j)) in
    omega (arith, whole, below)

-- an entry is the same exactly if the sums of the counts are
to_entries : (a b s d e t : ℕ) → a + b + t ≡ d + e + s →
    pos a +ℤ pos b -ℤ pos s ≡ pos d +ℤ pos e -ℤ pos t
to_entries a b s d e t same = omega (arith, ints)

of_entries : (a b s d e t : ℕ) → pos a +ℤ pos b -ℤ pos s ≡ pos d +ℤ pos e -ℤ pos t →
    a + b + t ≡ d + e + s
of_entries a b s d e t same = omega (arith, ints)

entry_at : (f : ℕ → ℕ) (n q k a b c : ℕ) → c < n →
    get_or (row_of f n q k (Pair a b)) c (pos 0) ≡ pos (rises f a c) +ℤ pos (rises f b c) -ℤ pos
    (rises f ((a + b) % q) c)
entry_at f n q k a b c below = get_or-map-range_with_len (row_entry f q k (Pair a b)) 0 n c c
    (pos 0) below (zero-add c)

-- two pairs have the same row exactly if their sums of codes are the same
pub same_codes : (f : ℕ → ℕ) (n q k a b d e : ℕ) (codes : List ℕ) → AreCodes f n q codes → a < q →
    b < q → d < q → e < q →
    (get_or codes a 0 + get_or codes b 0 + get_or codes (d + e) 0
    ≡ get_or codes d 0 + get_or codes e 0 + get_or codes (a + b) 0)
    ↔ (row_of f n q k (Pair a b) ≡ row_of f n q k (Pair d e))
same_codes f n q k a b d e codes h in_a in_b in_d in_e =
    let cs = range_with_len 0 n in
    let one = λ (c : ℕ). rises f a c + rises f b c + rises f ((d + e) % q) c in
    let other = λ (c : ℕ). rises f d c + rises f e c + rises f ((a + b) % q) c in
    let one_is = sum_is f n q a b d e codes h in_a in_b in_d in_e in
    let other_is = sum_is f n q d e a b codes h in_d in_e in_a in_b in (
      λ same.
          let sums = same_digits one other cs
          (λ c. digit_small f q a b (d + e) c h.packable.order in_a in_b)
          (λ c. digit_small f q d e (a + b) c h.packable.order in_d in_e)
          (sym one_is ∙ same ∙ other_is) in
          fill_by_all (row_entry f q k (Pair d e)) (row_of f n q k (Pair a b)) n (pos 0)
          (length-map-range_with_len (row_entry f q k (Pair a b)) 0 n)
          (λ c below.
          entry_at f n q k a b c below
          ∙ to_entries (rises f a c) (rises f b c) (rises f ((a + b) % q) c) (rises f d c)
          (rises f e c) (rises f ((d + e) % q) c)
          (sym (get_or-map-range_with_len one 0 n c c 0 below (zero-add c))
          ∙ ap (λ l. get_or l c 0) sums
          ∙ get_or-map-range_with_len other 0 n c c 0 below (zero-add c))),
      λ same.
          one_is
          ∙ ap packed (fill_by_all other (map one cs) n 0 (length-map-range_with_len one 0 n)
          (λ c below.
          get_or-map-range_with_len one 0 n c c 0 below (zero-add c)
          ∙ of_entries (rises f a c) (rises f b c) (rises f ((a + b) % q) c) (rises f d c)
          (rises f e c) (rises f ((d + e) % q) c)
          (sym (entry_at f n q k a b c below) ∙ ap (λ r. get_or r c (pos 0)) same
          ∙ entry_at f n q k d e c below)))
          ∙ sym other_is,
    )
