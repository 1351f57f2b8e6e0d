-- What `clap` makes of words that do not begin with `-`.
use Rattle.std.proofs.Common.{nat_eq, ◌≡◌, ◌≢◌, ◌≤◌, ◌∙◌, ℕ, Bool, true, false, not, List, [], ◌∷◌, Option}
use Rattle.std.proofs.Common.{None, Some, codes, get_or, length, refl, ap, arith}
use Rattle.std.proofs.lemmas.Bool.{and_parts}
use Rattle.std.specs.Str.{bytes_eq}
use Rattle.clap.specs.Lexer.{long_of, short_of}
use Rattle.clap.specs.Walk.{reading_by}
use Rattle.clap.specs.Words.{Row, built, first_of, matches_of}
use Rattle.clap.specs.Kinds.{Kinds}
use Rattle.clap.specs.Faults.{fault_of}
use Rattle.clap.specs.declared.parser.matches.ValueSource.TheVariants.{CommandLine}
use Rattle.clap.specs.declared.error.kind.ErrorKind.TheVariants.{MissingRequiredArgument, UnknownArgument}
use Rattle.clap.proofs.OnLiterals.{clap_on_literals}
use Rattle.gj_words.specs.Bare.{are_hyphenless, begins_with_hyphen}
use Rattle.gj_words.specs.Parser.{name_rule, our_app}

abbrev pub Text : Type 0
Text = List ℕ

-- ---- words

-- a word that `clap` takes for no flag
pub record IsBare (word : Text) : Type 0 where
  pub no_dashes : bytes_eq word (45 ∷ 45 ∷ []) ≡ false
  pub no_long : long_of word ≡ None
  pub no_short : short_of word ≡ None

is_bare : (word : Text) → not (begins_with_hyphen word) ≡ true → IsBare word
is_bare [] h = record { no_dashes = refl; no_long = refl; no_short = refl }
is_bare (byte ∷ rest) h = go (nat_eq byte 45) refl h
  where
    go : (b : Bool) → nat_eq byte 45 ≡ b → not b ≡ true → IsBare (byte ∷ rest)
    go true is other = cc
    go false is other = record {
      no_dashes = rw is refl;
      no_long = rw is refl;
      no_short =
          rw is refl;
    }

abbrev AreBare : List Text → Type 0
AreBare [] = Unit {0}
AreBare (word ∷ words) = IsBare word × AreBare words

are_bare : (words : List Text) → are_hyphenless words ≡ true → AreBare words
are_bare [] h = tt {0}
are_bare (word ∷ words) h =
    let parts = and_parts (not (begins_with_hyphen word)) (are_hyphenless words) h in
    (is_bare word parts.0, are_bare words parts.1)

-- ---- what `clap` makes of them

-- the kinds of its error, and the command word, the first and the second word behind it that it
-- finds
abbrev pub Found : Type 0
Found = Kinds × Option Text × Option Text × Option Text

abbrev pub found_in : List Text → Found
found_in words = (
  fault_of our_app words,
  first_of (codes "command") (matches_of our_app words),
  first_of (codes "first") (matches_of our_app words),
  first_of (codes "second") (matches_of our_app words),
)

-- the first of some words, and the second
abbrev pub first_in : List Text → Option Text
first_in [] = None
first_in (a ∷ more) = Some a

abbrev pub second_in : List Text → Option Text
second_in [] = None
second_in (a ∷ more) = first_in more

-- it takes the words, of which these stand behind the command word, or does not and has to
pub data Parsed (words : List Text) : Type 0 where
  taken : (name : Text) (behind : List Text) → length behind ≤ 2
      → found_in words ≡ ([], Some name, first_in behind, second_in behind) →
      words ≡ name ∷ behind → Parsed words
  left : (fault_of our_app words ≡ [] → ⊥) →
      ((name : Text) (rest : List Text) → length rest ≤ 2 → words ≢ name ∷ rest) → Parsed words

-- ---- the rows of its matches

-- what it keeps for the rule of this number that is used with this text
abbrev row_from : ℕ → Text → Text → Row
row_from number id text = record {
  id = id;
  values = text ∷ [];
  count = None;
  source = Some CommandLine;
  reading = reading_by (get_or (built our_app).top.rules number name_rule);
}

abbrev command_row : Text → Row
command_row = row_from 0 (codes "command")

abbrev first_row : Text → Row
first_row = row_from 1 (codes "first")

abbrev second_row : Text → Row
second_row = row_from 2 (codes "second")

-- the command word, the first and the second word behind it that rows have
abbrev in_rows : List Row → Option Text × Option Text × Option Text
in_rows rows = (
  first_of (codes "command") rows,
  first_of (codes "first") rows,
  first_of
      (codes "second") rows,
)

taken_by : (name : Text) (behind : List Text) (rows : List Row) → length behind ≤ 2 →
    fault_of our_app (name ∷ behind) ≡ [] → matches_of our_app (name ∷ behind) ≡ rows →
    in_rows rows ≡ (Some name, first_in behind, second_in behind) → Parsed (name ∷ behind)
taken_by name behind rows few fault matches look =
    let e : found_in (name ∷ behind)
    ≡ (
      [],
      first_of (codes "command") rows,
      first_of (codes "first") rows,
      first_of
          (codes "second") rows,
    ) =
    (λ i. (
      fault i,
      first_of (codes "command") (matches i),
      first_of (codes "first")
          (matches i),
      first_of (codes "second") (matches i),
    )) in
    taken name behind few (e ∙ (λ i. ([], (look i).0, (look i).1, (look i).2))) refl

-- it has to leave words that are four or more
stray : (a b c d : Text) (more : List Text) → fault_of our_app (a ∷ b ∷ c ∷ d ∷ more)
    ≡ UnknownArgument ∷ [] → Parsed (a ∷ b ∷ c ∷ d ∷ more)
stray a b c d more fault = left (λ none. cc) (λ name rest few e. omega (arith, ap length e))

-- and those that are none
unnamed : fault_of our_app [] ≡ MissingRequiredArgument ∷ [] → Parsed []
unnamed fault = left (λ none. cc) (λ name rest few e. cc)

parsed : (words : List Text) → AreBare words → Parsed words
unfolding clap_on_literals
parsed [] h = unnamed refl
parsed (a ∷ []) (h, _) =
    taken_by a [] (command_row a ∷ []) (omega arith)
    (rw (h.no_dashes, h.no_long, h.no_short) refl)
    (rw (h.no_dashes, h.no_long, h.no_short) refl) refl
parsed (a ∷ b ∷ []) (h, (k, _)) =
    taken_by a (b ∷ []) (command_row a ∷ first_row b ∷ []) (omega arith)
    (rw (h.no_dashes, h.no_long, h.no_short) (rw (k.no_dashes, k.no_long, k.no_short) refl))
    (rw (h.no_dashes, h.no_long, h.no_short) (rw (k.no_dashes, k.no_long, k.no_short) refl)) refl
parsed (a ∷ b ∷ c ∷ []) (h, (k, (l, _))) =
    taken_by a (b ∷ c ∷ []) (command_row a ∷ first_row b ∷ second_row c ∷ []) (omega arith)
    (rw (h.no_dashes, h.no_long, h.no_short)
    (rw (k.no_dashes, k.no_long, k.no_short) (rw (l.no_dashes, l.no_long, l.no_short) refl)))
    (rw (h.no_dashes, h.no_long, h.no_short)
    (rw (k.no_dashes, k.no_long, k.no_short) (rw (l.no_dashes, l.no_long, l.no_short) refl)))
    refl
parsed (a ∷ b ∷ c ∷ d ∷ more) (h, (k, (l, (m, _)))) =
    stray a b c d more
    (rw (h.no_dashes, h.no_long, h.no_short)
    (rw (k.no_dashes, k.no_long, k.no_short)
    (rw (l.no_dashes, l.no_long, l.no_short) (rw (m.no_dashes, m.no_long, m.no_short) refl))))

-- words that do not begin with `-` are taken, or are left where they have to be
pub parsed_words : (words : List Text) → are_hyphenless words ≡ true → Parsed words
parsed_words words plain = parsed words (are_bare words plain)
