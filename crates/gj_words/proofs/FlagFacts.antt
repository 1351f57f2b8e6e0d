-- A flag among words, and the words without it.
use Rattle.std.proofs.Common.{◌≡◌, ◌∙◌, ◌≤◌, ◌||◌, ◌&&◌, Bool, true, false, not, cond, List, [], ◌∷◌, ◌++◌, filter, length, refl, sym, ap, arith}
use Rattle.std.proofs.lemmas.Bool.{and_parts}
use Rattle.std.proofs.lemmas.List.Sums.{length-filter}
use Rattle.std.proofs.lemmas.Slice.Eq.{bytes_eq-Decides}
use Rattle.std.specs.List.{list_all}
use Rattle.gj_words.specs.Bare.{flag_count, has_flag, is_flag, without_flag}
use Rattle.gj_words.specs.Grammar.{HasFlag}
use Rattle.gj_words.proofs.Parsing.{Text}

-- no word is the flag
abbrev pub lacks : Text → List Text → Bool
lacks flag = list_all (λ word. not (is_flag flag word))

abbrev pub flags : Text → Bool → List Text
flags flag true = flag ∷ []
flags flag false = []

-- what is known of the words where the flag stands among these
pub record Facts (flag : Text) (words bare : List Text) (given : Bool) : Type 0 where
  pub bare_is : without_flag flag words ≡ bare
  pub flag_is : has_flag flag words ≡ given
  pub flags_are : filter (is_flag flag) words ≡ flags flag given

no_flag : (b : Bool) → not b ≡ true → b ≡ false
no_flag true h = cc
no_flag false h = refl

is_itself : (flag : Text) → is_flag flag flag ≡ true
is_itself flag = (bytes_eq-Decides flag flag).1 refl

one_more : (flag word : Text) (words bare : List Text) (given : Bool) →
    not (is_flag flag word) ≡ true
    → Facts flag words bare given → Facts flag (word ∷ words) (word ∷ bare) given
one_more flag word words bare given h facts =
    let plain = no_flag (is_flag flag word) h in
    record {
      bare_is = rw plain (ap (λ ws. word ∷ ws) facts.bare_is);
      flag_is = rw plain facts.flag_is;
      flags_are = rw plain facts.flags_are;
    }

without : (flag : Text) (words : List Text) → lacks flag words ≡ true → Facts flag words words false
without flag [] h = record { bare_is = refl; flag_is = refl; flags_are = refl }
without flag (word ∷ words) h =
    let parts = and_parts (not (is_flag flag word)) (lacks flag words) h in
    one_more flag word words words false parts.0 (without flag words parts.1)

with_flag : (flag : Text) (front back : List Text) → lacks flag (front ++ back) ≡ true
    → Facts flag (front ++ flag ∷ back) (front ++ back) true
with_flag flag [] back h =
    let rest = without flag back h in
    let is = is_itself flag in
    record {
      bare_is = rw is rest.bare_is;
      flag_is = rw is refl;
      flags_are = rw is (ap (λ ws. flag ∷ ws) rest.flags_are);
    }
with_flag flag (word ∷ front) back h =
    let parts = and_parts (not (is_flag flag word)) (lacks flag (front ++ back)) h in
    one_more flag word (front ++ flag ∷ back) (front ++ back) true parts.0
    (with_flag flag front back parts.1)

pub facts_of : (flag : Text) (given : Bool) (bare words : List Text) →
    HasFlag flag given bare words → lacks flag bare ≡ true
    → Facts flag words bare given
facts_of flag true bare words (front, back, bare_is, words_are) h =
    rw (bare_is, words_are) (with_flag flag front back (rw bare_is at h))
facts_of flag false bare words is h = rw is (without flag bare h)

-- the flag stands once at most
pub once : (flag : Text) (given : Bool) (bare words : List Text) → Facts flag words bare given →
    flag_count flag words ≤ 1
once flag true bare words facts =
    omega (arith, length-filter (is_flag flag) words, ap length facts.flags_are)
once flag false bare words facts =
    omega (arith, length-filter (is_flag flag) words, ap length facts.flags_are)

-- ---- another flag

-- the flag stands among the ones as it does among the others
pub record IsAlike (flag : Text) (words bare : List Text) : Type 0 where
  pub has : has_flag flag words ≡ has_flag flag bare
  pub are : filter (is_flag flag) words ≡ filter (is_flag flag) bare
  pub lack : lacks flag words ≡ lacks flag bare

same_more : (flag word : Text) (words bare : List Text) → IsAlike flag words bare →
    IsAlike flag (word ∷ words) (word ∷ bare)
same_more flag word words bare same = record {
  has = ap (λ b. is_flag flag word || b) same.has;
  are = ap (λ ws. cond (is_flag flag word) (word ∷ ws) ws) same.are;
  lack = ap (λ b. not (is_flag flag word) && b) same.lack;
}

put_in : (flag other : Text) (front back : List Text) → is_flag flag other ≡ false →
    IsAlike flag (front ++ other ∷ back) (front ++ back)
put_in flag other [] back differs =
    record { has = rw differs refl; are = rw differs refl; lack = rw differs refl }
put_in flag other (word ∷ front) back differs =
    same_more flag word (front ++ other ∷ back) (front ++ back)
    (put_in flag other front back differs)

pub other_flag : (flag other : Text) (given : Bool) (bare words : List Text) →
    HasFlag other given bare words
    → is_flag flag other ≡ false → IsAlike flag words bare
other_flag flag other true bare words (front, back, bare_is, words_are) differs =
    rw (bare_is, words_are) (put_in flag other front back differs)
other_flag flag other false bare words is differs =
    rw is (record { has = refl; are = refl; lack = refl })

pub as_often : (flag : Text) (words bare : List Text) → IsAlike flag words bare →
    flag_count flag words ≡ flag_count flag bare
as_often flag words bare same =
    sym (length-filter (is_flag flag) words) ∙ ap length same.are
    ∙ length-filter (is_flag flag) bare

-- ---- where the flag stands, from the words

no_flags : (flag : Text) (words : List Text) → length (filter (is_flag flag) words) ≤ 0
    → (has_flag flag words ≡ false) × (without_flag flag words ≡ words)
no_flags flag [] none = (refl, refl)
no_flags flag (word ∷ words) none = go (is_flag flag word) none (no_flags flag words)
  where
    go : (b : Bool) → length
        (cond b (word ∷ filter (is_flag flag) words) (filter (is_flag flag) words)) ≤ 0
        → (length (filter (is_flag flag) words) ≤ 0 →
        (has_flag flag words ≡ false) × (without_flag flag words ≡ words))
        → ((b || has_flag flag words) ≡ false)
        × (cond (not b) (word ∷ without_flag flag words) (without_flag flag words)
        ≡ word ∷ words)
    go true few behind = absurd (omega arith)
    go false few behind =
        let rest = behind few in
        (rest.0, ap (λ ws. word ∷ ws) rest.1)

some_flag : (flag : Text) (words : List Text) → 1 ≤ length (filter (is_flag flag) words) →
    has_flag flag words ≡ true
some_flag flag [] some = absurd (omega arith)
some_flag flag (word ∷ words) some = go (is_flag flag word) some (some_flag flag words)
  where
    go : (b : Bool) → 1 ≤ length
        (cond b (word ∷ filter (is_flag flag) words) (filter (is_flag flag) words))
        → (1 ≤ length (filter (is_flag flag) words) → has_flag flag words ≡ true) →
        (b || has_flag flag words) ≡ true
    go true more behind = refl
    go false more behind = behind more

-- whether it stands there, by how often it does
pub stands_not : (flag : Text) (words : List Text) → 0 ≡ flag_count flag words →
    has_flag flag words ≡ false
stands_not flag words none =
    (no_flags flag words (omega (arith, length-filter (is_flag flag) words))).0

pub stands : (flag : Text) (words : List Text) → 1 ≡ flag_count flag words →
    has_flag flag words ≡ true
stands flag words one = some_flag flag words (omega (arith, length-filter (is_flag flag) words))

placed_in : (flag : Text) (words : List Text) → length (filter (is_flag flag) words) ≤ 1
    → HasFlag flag (has_flag flag words) (without_flag flag words) words
placed_in flag [] few = refl
placed_in flag (word ∷ words) few = go (is_flag flag word) refl few (placed_in flag words)
  where
    behind : (given : Bool) → HasFlag flag given (without_flag flag words) words
        → HasFlag flag given (word ∷ without_flag flag words) (word ∷ words)
    behind true (front, back, bare_is, words_are) =
        (word ∷ front, back, ap (λ ws. word ∷ ws) bare_is, ap (λ ws. word ∷ ws) words_are)
    behind false is = ap (λ ws. word ∷ ws) is

    go : (b : Bool) → is_flag flag word ≡ b →
        length (cond b (word ∷ filter (is_flag flag) words) (filter (is_flag flag) words)) ≤ 1
        → (length (filter (is_flag flag) words) ≤ 1 →
        HasFlag flag (has_flag flag words) (without_flag flag words) words)
        → HasFlag flag (b || has_flag flag words)
        (cond (not b) (word ∷ without_flag flag words) (without_flag flag words)) (word ∷ words)
    go true is one rest_placed =
        let rest = no_flags flag words (omega arith) in
        ([], words, rest.1, ap (λ w. w ∷ words) ((bytes_eq-Decides word flag).0 is))
    go false is one rest_placed = behind (has_flag flag words) (rest_placed one)

pub placed : (flag : Text) (words : List Text) → flag_count flag words ≤ 1 →
    HasFlag flag (has_flag flag words) (without_flag flag words) words
placed flag words few = placed_in flag words (omega (arith, length-filter (is_flag flag) words))
