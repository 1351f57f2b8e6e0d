use Rattle.std.proofs.Common.{inl, inr, refl}
use Rattle.gj_function_lines.proofs.LinesRead.{no_place_number, place_spelled}
use Rattle.gj_function_lines.proofs.head.place_in.Goals as goal

pub returns-in_default-fraction_of-clause-broken :
    goal.returns-in_default-fraction_of-clause-broken
returns-in_default-fraction_of-clause-broken c =
    inl (no_place_number c.args.spelling _ _ c.in-Some.ensures.found
    c.in_default-fraction_of.ensures.none)

pub returns-in-Some-place_of-clause-found : goal.returns-in-Some-place_of-clause-found
returns-in-Some-place_of-clause-found c = (
  _,
  place_spelled c.args.spelling _ _ _ c.in-Some.ensures.found
      c.in-Some-fraction_of.ensures.found,
  c.in-Some-place_of.ensures.found,
)

pub returns-in-None-clause-broken : goal.returns-in-None-clause-broken
returns-in-None-clause-broken c =
    inr (
      _,
      place_spelled c.args.spelling _ _ _ c.in-Some.ensures.found
          c.in-Some-fraction_of.ensures.found,
      (refl, c.in-None.ensures.none),
    )
