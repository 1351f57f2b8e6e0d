use Rattle.std.proofs.Common.{List, map, ◌∙◌, ap}
use Rattle.gj_frac.specs.declared.Frac.{Frac}
use Rattle.gj_function_text.specs.FunctionText.{canonical_breaks_text, even_break}
use Rattle.gj_top.proofs.fill.fill_or_pair.Goals as goal

pub returns-in_ok-write_breaks-in-Ok : goal.returns-in_ok-write_breaks-in-Ok
returns-in_ok-write_breaks-in-Ok c =
    let filled = c.in-Ok.filled in
    let points = c.in-Ok.ensures.points in (
      c.requires,
      record {
        continuous = c.requires;
        place = filled.f;
        points = filled.points;
        place_is = c.in-Ok.ensures.f;
        points_are = points;
        fill_in = c.in-Ok.ensures.fill_in points.rise points.fall points.greatest;
        spelled = c.in_ok-write_breaks-in-Ok.ensures
            ∙ ap (λ (pairs : List (Frac × Frac)). canonical_breaks_text filled.f
            (map even_break pairs)) c.as_slice.ensures;
      },
    )
