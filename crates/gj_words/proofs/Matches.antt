-- What the matches of `clap` say of the words.
use Rattle.std.proofs.Common.{◌≡◌, ◌≢◌, ◌≤◌, ◌∙◌, inl, inr, true, List, [], ◌∷◌, ◌++◌, Option, option_map, None, Some, refl, arith, codes, length, sym, ap, subst}
use Rattle.std.specs.Option.{option_to_list}
use Rattle.clap.specs.Words.{App, HasKind, first_of, first_value, found_of, is_simple, is_simple_and_free}
use Rattle.clap.specs.Words.{kind_of, matches_of, rows_of}
use Rattle.clap.specs.Faults.{fault_of}
use Rattle.clap.specs.declared.error.Error.{Error}
use Rattle.clap.specs.declared.error.kind.ErrorKind.TheVariants.{OutOfMemory}
use Rattle.clap.specs.declared.parser.matches.ArgMatches.{ArgMatches}
use Rattle.clap.proofs.WalkLemmas.{first_value-rows}
use Rattle.gj_words.specs.Bare.{are_hyphenless}
use Rattle.gj_words.specs.Parser.{our_app}
use Rattle.gj_words.proofs.Parsing.{Found, Parsed, Text, first_in, left, parsed_words, second_in, taken}

-- the contracts of `clap` speak of our command line in both outcomes
pub simple : (app : App) → app ≡ our_app → is_simple app ≡ true
simple app same = ap is_simple same

pub simple_and_free : (app : App) → app ≡ our_app → is_simple_and_free app ≡ true
simple_and_free app same = ap is_simple_and_free same

-- the matches hold the words: the command word, and at most two behind it
pub record Holds (words : List Text) (m : ArgMatches) : Type 0 where
  pub name : Text
  pub behind : List Text
  pub few : length behind ≤ 2
  pub name_is : first_value (found_of m) (codes "command") ≡ Some name
  pub first_is : first_value (found_of m) (codes "first") ≡ first_in behind
  pub second_is : first_value (found_of m) (codes "second") ≡ second_in behind
  pub words_are : words ≡ name ∷ behind

pub holds : (app : App) (words : List Text) (m : ArgMatches) → app ≡ our_app →
    are_hyphenless words ≡ true
    → fault_of app words ≡ [] → rows_of (found_of m) ≡ matches_of app words → Holds words m
holds app words m same plain none rows = go (parsed_words words plain)
  where
    rows_are : rows_of (found_of m) ≡ matches_of our_app words
    rows_are = rows ∙ ap (λ a. matches_of a words) same

    go : Parsed words → Holds words m
    go (taken name behind few e words_are) = record {
      name = name;
      behind = behind;
      few = few;
      name_is = first_value-rows (found_of m) (codes "command")
          ∙ ap (first_of (codes "command")) rows_are ∙ ap (λ (f : Found). f.1) e;
      first_is = first_value-rows (found_of m) (codes "first")
          ∙ ap (first_of (codes "first")) rows_are ∙ ap (λ (f : Found). f.2) e;
      second_is = first_value-rows (found_of m) (codes "second")
          ∙ ap (first_of (codes "second")) rows_are ∙ ap (λ (f : Found). f.3) e;
      words_are = words_are;
    }
    go (left fails unnamed) = absurd (fails (sym (ap (λ a. fault_of a words) same) ∙ none))

-- if it refuses the words, they are not one, two or three
pub refuses : (app : App) (words : List Text) (error : Error) → app ≡ our_app →
    are_hyphenless words ≡ true
    → HasKind (fault_of app words) error → kind_of error ≢ OutOfMemory
    → (name : Text) (rest : List Text) → length rest ≤ 2 → words ≢ name ∷ rest
refuses app words error same plain kind some_memory = go (parsed_words words plain)
  where
    go : Parsed words → (name : Text) (rest : List Text) → length rest ≤ 2 → words ≢ name ∷ rest
    go (taken found behind some e words_are) name rest few is =
        let none : fault_of app words ≡ [] = ap (λ a. fault_of a words) same
        ∙ ap (λ (f : Found). f.0) e in
        let memory : HasKind [] error = subst (λ kinds. HasKind kinds error) none kind in
        elim memory [ inl h ↦ some_memory h | inr h ↦ h ]
    go (left fails unnamed) name rest few is = unnamed name rest few is

-- what the two look-ups give, put one behind the other
pub both : (behind : List Text) → length behind ≤ 2 →
    option_to_list (first_in behind) ++ option_to_list (second_in behind) ≡ behind
both [] few = refl
both (a ∷ []) few = refl
both (a ∷ b ∷ []) few = refl
both (a ∷ b ∷ c ∷ more) few = absurd (omega arith)

pub no_second : (behind : List Text) → first_in behind ≡ None → second_in behind ≡ None
no_second [] none = refl
no_second (a ∷ more) none = cc

pub none_before : {A B : Type 0} (f : A → B) (x : Option A) → option_map f x ≡ None → x ≡ None
none_before f None e = refl
none_before f (Some x) e = cc
