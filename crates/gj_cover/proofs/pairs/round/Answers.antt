use Rattle.std.proofs.Common.{◌≢◌, Bool, ap, ◌∙◌, sym, refl, arith}
use Rattle.std.specs.Prelude.{if◌then◌else◌}
use Rattle.std.proofs.lemmas.Bool.{ne_eqb, eq-eqb}
use Rattle.gj_loops.specs.IndexSets.{has}
use Rattle.gj_cover.proofs.pairs.round.Goals as goal

pub returns-clause-same : goal.returns-clause-same
returns-clause-same c b below =
    let differ : b ≢ c.args.order = λ e. let no : ⊥ = omega arith in no in
    c.put.ensures b ∙ ap (λ (t : Bool). if t then c.contains.result else has c.args.row.now b)
    (ne_eqb b c.args.order differ)

pub returns-clause-round : goal.returns-clause-round
returns-clause-round c =
    let q = c.args.order in
    let few = c.requires.order in
    let differ : 0 ≢ q = λ e. let no : ⊥ = omega arith in no in
    c.put.ensures q ∙ ap (λ (t : Bool). if t then c.contains.result else has c.args.row.now q)
    (eq-eqb q q refl)
    ∙ c.contains.ensures
    ∙ sym (c.put.ensures 0
    ∙ ap (λ (t : Bool). if t then c.contains.result else has c.args.row.now 0)
    (ne_eqb 0 q differ))

pub returns-clause-within : goal.returns-clause-within
returns-clause-within c b past =
    let differ : b ≢ c.args.order = λ e. let no : ⊥ = omega arith in no in
    c.put.ensures b ∙ ap (λ (t : Bool). if t then c.contains.result else has c.args.row.now b)
    (ne_eqb b c.args.order differ)
    ∙ c.requires.within b (omega arith)
