use Rattle.gj_problem_text.proofs.NamesSoFar.{one_more}
use Rattle.gj_problem_text.proofs.places.Places.push.Goals as goal

pub returns : goal.returns
returns c =
    one_more c.self.inside.names.keys c.args.name c.insert.new.self.keys c.args.self.now
    c.self.view_is c.requires c.in_ok-insert.ensures.keys
