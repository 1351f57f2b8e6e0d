use Rattle.gj_theory.proofs.CoverSteps.{number_below}
use Rattle.gj_theory.proofs.LineComponents.{component_of_line, one_component, line_of_component}
use Rattle.gj_theory.proofs.extreme.lines_give_components.Goals as goal

pub returns-clause-some : goal.returns-clause-some
returns-clause-some c f = component_of_line f.order _

pub returns-clause-one : goal.returns-clause-one
returns-clause-one c f = one_component f.order _

pub returns-clause-line : goal.returns-clause-line
returns-clause-line c = line_of_component

pub returns-clause-below : goal.returns-clause-below
returns-clause-below c = number_below
