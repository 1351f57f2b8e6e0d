use Rattle.std.proofs.Common.{nat_eq, ◌∙◌, ap}
use Rattle.std.specs.Cmp.Lexicographic.{pointwise}
use Rattle.std.specs.List.{position}
use Rattle.gj_problem_text.proofs.NamesSoFar.{place_among}
use Rattle.gj_problem_text.proofs.places.Places.place_of.Goals as goal

pub returns : goal.returns
returns c = c.get_index_of.ensures.index ∙ place_among c.self.inside.names.keys c.args.name.now
    ∙ ap (position (pointwise nat_eq c.args.name.now)) c.self.view_is
