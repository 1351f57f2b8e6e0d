use Rattle.std.proofs.Common.{inl, inr, refl}
use Rattle.std.proofs.lemmas.Bool.{false≢true}
use Rattle.gj_lex.specs.declared.spelling.Spelling.TheVariants.{Lenient}
use Rattle.gj_function_lines.proofs.LinesRead.{no_place_words, no_place_number, place_spelled}
use Rattle.gj_function_text.proofs.breaks.start_in.Goals as goal

pub returns-in_default-clause-broken : goal.returns-in_default-clause-broken
returns-in_default-clause-broken c = inl (no_place_words Lenient _ c.in_default.ensures.none)

pub returns-in_default-fraction_of-clause-broken : goal.returns-in_default-fraction_of-clause-broken
returns-in_default-fraction_of-clause-broken c =
    inl (no_place_number Lenient _ _ c.in-Some.ensures.found c.in_default-fraction_of.ensures.none)

pub returns-then-not-is_inside-clause-broken : goal.returns-then-not-is_inside-clause-broken
returns-then-not-is_inside-clause-broken c = inr (
  c.in-Some-fraction_of.place,
  place_spelled Lenient _ _ c.in-Some-fraction_of.place c.in-Some.ensures.found
      c.in-Some-fraction_of.ensures.found,
  inl (refl, λ is. false≢true (c.if-not-is_inside.ensures.1 is)),
)

pub returns-then-not-is_coarse-clause-broken : goal.returns-then-not-is_coarse-clause-broken
returns-then-not-is_coarse-clause-broken c = inr (
  c.in-Some-fraction_of.place,
  place_spelled Lenient _ _ c.in-Some-fraction_of.place c.in-Some.ensures.found
      c.in-Some-fraction_of.ensures.found,
  inr (refl, c.if-not-is_inside.ensures.0 refl, λ is. false≢true (c.if-not-is_coarse.ensures.1 is)),
)

pub returns-clause-found : goal.returns-clause-found
returns-clause-found c = (
  c.in-Some-fraction_of.place,
  place_spelled Lenient _ _ c.in-Some-fraction_of.place c.in-Some.ensures.found
      c.in-Some-fraction_of.ensures.found,
  (c.if-not-is_inside.ensures.0 refl, c.if-not-is_coarse.ensures.0 refl, refl),
)
