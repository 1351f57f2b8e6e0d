use Rattle.std.proofs.Common.{◌≡◌, ◌*◌, ◌<◌, ℕ, ap, sym, subst, ◌∙◌, arith}
use Rattle.std.specs.Str.Parse.{IsNumeral, digits_value}
use Rattle.std.proofs.lemmas.Option.{IfSome_then}
use Rattle.gj_problem_text.proofs.WordsRead.{none_then, no_exponent, lower_found, lower_back}
use Rattle.gj_problem_text.proofs.WordsRead.{higher_found, higher_back}
use Rattle.gj_problem_text.proofs.numbers.with_exponent.Goals as goal

some_from : (n : ℕ) → (n ≡ 0 → ⊥) → 0 < n
some_from n other = grind arith

pub returns-in_err-size-clause-none : goal.returns-in_err-size-clause-none
returns-in_err-size-clause-none c =
    rw c.from_residual.ensures
    (no_exponent c.args.notation c.args.top c.args.places c.args.exponent.now
    c.split_sign-is_negative.result.1.now c.split_sign-is_negative.ensures.rest
    c.in_err-size.ensures (some_from c.args.top c.if-top-eq0.false) c.requires.top_fits
    c.requires.places_few)

pub returns-then-size-places-clause-found : goal.returns-then-size-places-clause-found
returns-then-size-places-clause-found c =
    IfSome_then c.divided-then-size-places.result c.divided-then-size-places.ensures.found
    (λ x h. (
      subst (IsNumeral 10) c.split_sign-is_negative.ensures.rest c.in_ok-size.ensures.0.0,
      lower_found c.args.notation c.args.top c.args.places c.in_ok-size.size
          c.base-then-size-places.result (c.per_place.result * c.args.places) c.args.exponent.now
          (sym c.split_sign-is_negative.ensures.sign ∙ c.if-is_negative.false)
          (c.in_ok-size.ensures.1 ∙ ap (digits_value 10) c.split_sign-is_negative.ensures.rest)
          c.base-then-size-places.ensures
          (ap (λ n. n * c.args.places) c.per_place.ensures) x c.if-size-places.true h,
    ))

pub returns-then-size-places-clause-none : goal.returns-then-size-places-clause-none
returns-then-size-places-clause-none c =
    none_then c.divided-then-size-places.result c.divided-then-size-places.ensures.none
    (λ refuted x numeral h. refuted x
    (lower_back c.args.notation c.args.top c.args.places c.in_ok-size.size
    c.base-then-size-places.result (c.per_place.result * c.args.places) c.args.exponent.now
    (sym c.split_sign-is_negative.ensures.sign ∙ c.if-is_negative.false)
    (c.in_ok-size.ensures.1 ∙ ap (digits_value 10) c.split_sign-is_negative.ensures.rest)
    c.base-then-size-places.ensures
    (ap (λ n. n * c.args.places) c.per_place.ensures) x c.if-size-places.true h))

pub returns-clause-found : goal.returns-clause-found
returns-clause-found c =
    IfSome_then c.multiplied.result c.multiplied.ensures.found
    (λ x h. (
      subst (IsNumeral 10) c.split_sign-is_negative.ensures.rest c.in_ok-size.ensures.0.0,
      higher_found c.args.notation c.args.top c.args.places c.in_ok-size.size c.base-2.result
          (c.per_place.result * c.args.places) c.args.exponent.now
          (sym c.split_sign-is_negative.ensures.sign ∙ c.if-is_negative.false)
          (c.in_ok-size.ensures.1 ∙ ap (digits_value 10) c.split_sign-is_negative.ensures.rest)
          c.base-2.ensures (ap (λ n. n * c.args.places) c.per_place.ensures) x
          c.if-size-places.false h,
    ))

pub returns-clause-none : goal.returns-clause-none
returns-clause-none c =
    none_then c.multiplied.result c.multiplied.ensures.none
    (λ refuted x numeral h. refuted x
    (higher_back c.args.notation c.args.top c.args.places c.in_ok-size.size c.base-2.result
    (c.per_place.result * c.args.places) c.args.exponent.now
    (sym c.split_sign-is_negative.ensures.sign ∙ c.if-is_negative.false)
    (c.in_ok-size.ensures.1 ∙ ap (digits_value 10) c.split_sign-is_negative.ensures.rest)
    c.base-2.ensures (ap (λ n. n * c.args.places) c.per_place.ensures) x c.if-size-places.false h))
