-- The words that spell a request.
use Rattle.std.proofs.Common.{MatchResult, Result, Ok, Err, ◌≡◌, ◌≢◌, ◌<◌, ◌≤◌, ◌^◌, ◌∙◌, ℕ, Bool, true, false, not, cond, List, []}
use Rattle.std.proofs.Common.{◌∷◌, codes, decimal, get_or, length, refl, sym, ap, ap₂, subst, arith}
use Rattle.std.proofs.lemmas.Bool.{and_parts}
use Rattle.std.proofs.lemmas.Bool.Decides.{nat_tests}
use Rattle.std.proofs.lemmas.Fmt.{decimal_is_IsNumeral}
use Rattle.std.proofs.lemmas.Slice.Eq.{bytes_eq-Decides}
use Rattle.std.specs.Result.{IsErrAnd}
use Rattle.std.specs.Str.{bytes_eq}
use Rattle.std.specs.Str.Parse.{digits_value}
use Rattle.gj_words.specs.Bare.{are_hyphenless, bare_words, begins_with_hyphen, flag_count, has_flag, is_flag, without_flag}
use Rattle.gj_words.specs.Grammar.{HasFlag, HasFlags, IsInBounds, SpellRequest, command_words, json_word, jumps_word}
use Rattle.gj_words.specs.Line.{AreNoLine, IsRequestOf}
use Rattle.gj_words.specs.declared.requests.Command.{Command}
use Rattle.gj_words.specs.declared.requests.Command.TheVariants.{Minimal, Extreme, Cut, Check, Show, Faces, Demo, Mixed, Problem, Derive, Fill, Group, Times, Mirror, Restrict}
use Rattle.gj_words.specs.declared.requests.Request.{Request}
use Rattle.gj_words.specs.declared.requests.WordFault.{WordFault}
use Rattle.gj_words.specs.declared.requests.WordFault.TheVariants.{Refused}
use Rattle.gj_words.proofs.FlagFacts.{as_often, facts_of, lacks, once, other_flag, placed}
use Rattle.gj_words.proofs.Numbers.{first_of_digits}
use Rattle.gj_words.proofs.Parsing.{Text}

-- a number does not begin with a hyphen
number_hyphenless : (n : ℕ) → n < 2 ^ 32 → begins_with_hyphen (decimal n) ≡ false
number_hyphenless n small = go (decimal n) (first_of_digits n small)
  where
    go : (word : Text) → 48 ≤ get_or word 0 0 → begins_with_hyphen word ≡ false
    go [] large = refl
    go (byte ∷ rest) large = grind (arith, nat_tests)

-- the words of a command do not begin with a hyphen
hyphenless : (c : Command) → IsInBounds c → are_hyphenless (command_words c) ≡ true
hyphenless Minimal h = refl
hyphenless Extreme h = refl
hyphenless Cut h = refl
hyphenless Check h = refl
hyphenless Show h = refl
hyphenless Faces h = refl
hyphenless (Demo n) h = rw (number_hyphenless n (omega arith)) refl
hyphenless Mixed h = refl
hyphenless Problem h = refl
hyphenless Derive h = refl
hyphenless Fill h = refl
hyphenless Group h = refl
hyphenless (Times n j) h =
    rw (number_hyphenless n (omega arith), number_hyphenless j (omega arith)) refl
hyphenless Mirror h = refl
hyphenless (Restrict d) h = rw (number_hyphenless d (omega arith)) refl

-- they are one word, and at most two more
pub one_to_three : (c : Command) → (name : Text) × (rest : List Text) × (length rest ≤ 2)
    × (command_words c ≡ name ∷ rest)
one_to_three Minimal = (_, _, omega arith, refl)
one_to_three Extreme = (_, _, omega arith, refl)
one_to_three Cut = (_, _, omega arith, refl)
one_to_three Check = (_, _, omega arith, refl)
one_to_three Show = (_, _, omega arith, refl)
one_to_three Faces = (_, _, omega arith, refl)
one_to_three (Demo n) = (_, _, omega arith, refl)
one_to_three Mixed = (_, _, omega arith, refl)
one_to_three Problem = (_, _, omega arith, refl)
one_to_three Derive = (_, _, omega arith, refl)
one_to_three Fill = (_, _, omega arith, refl)
one_to_three Group = (_, _, omega arith, refl)
one_to_three (Times n j) = (_, _, omega arith, refl)
one_to_three Mirror = (_, _, omega arith, refl)
one_to_three (Restrict d) = (_, _, omega arith, refl)

-- ---- the flags

-- words that do not begin with `-` are not a flag, which does
not_a_flag : (flag word : Text) → begins_with_hyphen flag ≡ true →
    not (begins_with_hyphen word) ≡ true → not (is_flag flag word) ≡ true
not_a_flag flag word begins h = go (is_flag flag word) refl
  where
    go : (b : Bool) → is_flag flag word ≡ b → not b ≡ true
    go true is = let same : word ≡ flag = (bytes_eq-Decides word flag).0 is in
        let wrong : false ≡ true = ap not (sym begins)
        ∙ subst (λ w. not (begins_with_hyphen w) ≡ true) same h in
        cc
    go false is = refl

lacks_flag : (flag : Text) → begins_with_hyphen flag ≡ true → (words : List Text) →
    are_hyphenless words ≡ true → lacks flag words ≡ true
lacks_flag flag begins [] h = refl
lacks_flag flag begins (word ∷ words) h =
    let parts = and_parts (not (begins_with_hyphen word)) (are_hyphenless words) h in
    rw (not_a_flag flag word begins parts.0) (lacks_flag flag begins words parts.1)

-- what is known of the words that spell a request
pub record Facts (words : List Text) (r : Request) : Type 0 where
  pub bare_is : bare_words words ≡ command_words r.command
  pub json_is : has_flag json_word words ≡ r.json
  pub jumps_is : has_flag jumps_word words ≡ r.jumps
  pub json_once : flag_count json_word words ≤ 1
  pub jumps_once : flag_count jumps_word words ≤ 1

pub facts : (words : List Text) (r : Request) → SpellRequest words r → Facts words r
facts words r s = go s.placed
  where
    bare : List Text
    bare = command_words r.command

    hyphens : are_hyphenless bare ≡ true
    hyphens = hyphenless r.command s.in_bounds

    go : HasFlags r words → Facts words r
    go (some, json_placed, jumps_placed) =
        let json = facts_of json_word r.json bare some json_placed
        (lacks_flag json_word refl bare hyphens) in
        let same = other_flag jumps_word json_word r.json bare some json_placed refl in
        let jumps = facts_of jumps_word r.jumps some words jumps_placed
        (same.lack ∙ lacks_flag jumps_word refl bare hyphens) in
        let alike = other_flag json_word jumps_word r.jumps some words jumps_placed refl in
        record {
          bare_is = ap (without_flag json_word) jumps.bare_is ∙ json.bare_is;
          json_is = alike.has ∙ json.flag_is;
          jumps_is = jumps.flag_is;
          json_once = rw (as_often json_word words some alike)
              (once json_word r.json bare some json);
          jumps_once = once jumps_word r.jumps some words jumps;
        }

-- ---- one request

-- the first number of the words, and the second
abbrev first_number : List Text → ℕ
first_number [] = 0
first_number (word ∷ more) = digits_value 10 word

abbrev second_number : List Text → ℕ
second_number [] = 0
second_number (word ∷ more) = first_number more

-- the command, read back from its words
abbrev command_at : Text → List Text → Command
command_at name rest =
    cond (bytes_eq name (codes "minimal")) Minimal (cond (bytes_eq name (codes "extreme")) Extreme
    (cond (bytes_eq name (codes "cut")) Cut
    (cond (bytes_eq name (codes "check")) Check (cond (bytes_eq name (codes "show")) Show
    (cond (bytes_eq name (codes "faces")) Faces
    (cond (bytes_eq name (codes "mixed")) Mixed (cond (bytes_eq name (codes "fill")) Fill
    (cond (bytes_eq name (codes "group")) Group (cond (bytes_eq name (codes "problem")) Problem
    (cond (bytes_eq name (codes "derive")) Derive (cond (bytes_eq name (codes "mirror")) Mirror
    (cond (bytes_eq name (codes "restrict")) (Restrict (first_number rest))
    (cond (bytes_eq name (codes "times")) (Times (first_number rest) (second_number rest))
    (Demo (first_number rest)))))))))))))))

abbrev command_in : List Text → Command
command_in [] = Cut
command_in (name ∷ rest) = command_at name rest

read_back : (c : Command) → IsInBounds c → command_in (command_words c) ≡ c
read_back Minimal h = refl
read_back Extreme h = refl
read_back Cut h = refl
read_back Check h = refl
read_back Show h = refl
read_back Faces h = refl
read_back (Demo n) h = ap Demo (decimal_is_IsNumeral n (omega (arith, h.1))).1
read_back Mixed h = refl
read_back Problem h = refl
read_back Derive h = refl
read_back Fill h = refl
read_back Group h = refl
read_back (Times n j) h = ap₂ Times (decimal_is_IsNumeral n (omega (arith, h.1))).1
    (decimal_is_IsNumeral j (omega (arith, h.1, h.2))).1
read_back Mirror h = refl
read_back (Restrict d) h = ap Restrict (decimal_is_IsNumeral d (omega (arith, h.1))).1

pub one : (words : List Text) (a b : Request) → SpellRequest words a → SpellRequest words b → a ≡ b
one words a b s t =
    let fa = facts words a s in
    let fb = facts words b t in
    let same : a.command ≡ b.command
    = sym (read_back a.command s.in_bounds) ∙ ap command_in (sym fa.bare_is ∙ fb.bare_is)
    ∙ read_back b.command t.in_bounds in
    let json : a.json ≡ b.json = sym fa.json_is ∙ fb.json_is in
    let jumps : a.jumps ≡ b.jumps = sym fa.jumps_is ∙ fb.jumps_is in
    (λ i. record { command = same i; json = json i; jumps = jumps i })

-- ---- bare words, flags and their request

-- the words but for the flags, and whether each stands there
abbrev pub IsRequestIn : List Text → Request → Type 0
IsRequestIn words r = IsRequestOf (bare_words words) (has_flag json_word words)
    (has_flag jumps_word words) r

-- the flags stand where the grammar has them
flags_placed : (words : List Text) → flag_count json_word words ≤ 1 →
    flag_count jumps_word words ≤ 1
    → (some : List Text) × HasFlag json_word (has_flag json_word words) (bare_words words) some
    × HasFlag jumps_word (has_flag jumps_word words) some words
flags_placed words json_once jumps_once =
    let some : List Text = without_flag jumps_word words in
    let jumps = placed jumps_word words jumps_once in
    let alike = other_flag json_word jumps_word (has_flag jumps_word words) some words jumps refl in
    let few : flag_count json_word some ≤ 1 =
    rw (← as_often json_word words some alike) json_once in
    let json : HasFlag json_word (has_flag json_word words) (bare_words words) some
    = subst (λ given. HasFlag json_word given (bare_words words) some) (sym alike.has)
    (placed json_word some few) in
    (some, json, jumps)

pub spelled : (words : List Text) (r : Request) → flag_count json_word words ≤ 1 →
    flag_count jumps_word words ≤ 1
    → IsRequestIn words r → SpellRequest words r
spelled words r json_once jumps_once of = record {
  in_bounds = of.in_bounds;
  json_allowed = λ given. of.json_allowed (sym of.json_is ∙ given);
  jumps_allowed = λ given. of.jumps_allowed (sym of.jumps_is ∙ given);
  placed = moved (flags_placed words json_once jumps_once);
}
  where
    moved : (some : List Text) × HasFlag json_word (has_flag json_word words)
        (bare_words words) some
        × HasFlag jumps_word (has_flag jumps_word words) some words → HasFlags r words
    moved (some, json, jumps) = (
      some,
      subst (λ given. HasFlag json_word given (command_words r.command) some) (sym of.json_is)
          (subst (λ bare. HasFlag json_word (has_flag json_word words) bare some)
          (sym of.words_are) json),
      subst (λ given. HasFlag jumps_word given some words) (sym of.jumps_is) jumps,
    )

pub request_spelled : (words : List Text) (r : Request) → SpellRequest words r → IsRequestIn words r
request_spelled words r s =
    let f = facts words r s in
    record {
      in_bounds = s.in_bounds;
      words_are = sym f.bare_is;
      json_is = sym f.json_is;
      jumps_is = sym f.jumps_is;
      json_allowed = λ given. s.json_allowed (sym f.json_is ∙ given);
      jumps_allowed = λ given. s.jumps_allowed (sym f.jumps_is ∙ given);
    }

-- the same of equal words and flags
pub in_words : (one other : List Text) (a b : Bool) (c d : Bool) (r : Request) → one ≡ other →
    a ≡ b → c ≡ d
    → IsRequestOf one a c r → IsRequestOf other b d r
in_words one other a b c d r words_are json_is jumps_is h =
    subst (λ x. IsRequestOf other b x r) jumps_is
    (subst (λ x. IsRequestOf other x c r) json_is
    (subst (λ x. IsRequestOf x a c r) words_are h))

-- words that are none or more than three without the flags, or of which one begins with `-`, spell
-- no request
pub unnamed : (words : List Text) → AreNoLine (bare_words words) → (r : Request) →
    ¬ SpellRequest words r
unnamed words none r s =
    let shape = one_to_three r.command in
    let hyphens : are_hyphenless (shape.0 ∷ shape.1) ≡ true =
    subst (λ ws. are_hyphenless ws ≡ true) shape.3 (hyphenless r.command s.in_bounds) in
    none shape.0 shape.1 shape.2 hyphens ((facts words r s).bare_is ∙ shape.3)

-- an error that is handed on and is not `Refused`
pub fault_up : (r : Request) (result : Result Request WordFault) (e : WordFault) →
    IsErrAnd result (λ fault. fault ≡ e) → e ≢ Refused
    → MatchResult result (λ found. found ≡ r) (λ fault. fault ≢ Refused)
fault_up r (Ok found) e h other = absurd h
fault_up r (Err fault) e h other = λ is. other (sym h ∙ is)

-- words that spell a request are not refused
pub not_refused : (r : Request) (result : Result Request WordFault) →
    MatchResult result (λ found. found ≡ r) (λ fault. fault ≢ Refused)
    → result ≢ Err Refused
not_refused r (Ok found) h is = cc
not_refused r (Err fault) h is = h (cc)
