use Rattle.std.proofs.Common.{◌<◌, inl, inr, sym, ◌∙◌, arith}
use Rattle.std.proofs.lemmas.Bool.{cases_lt, true≢false}
use Rattle.gj_faces.proofs.tight_pairs.TightPairs.next_in_row.Goals as goal

pub overflow_cast-result : goal.overflow_cast-result
overflow_cast-result c = let found = c.in-Some.ensures in let within = found.within in
    record { fits = omega arith }

pub returns-in-Some : goal.returns-in-Some
returns-in-Some c =
    let found = c.in-Some.ensures in
    let inside : c.in-Some.b < c.args.self.now.order =
    elim (cases_lt c.in-Some.b c.args.self.now.order) [
      | inl below ↦ below
      | inr past ↦ absurd (true≢false (sym found.found ∙ c.row.ensures.within c.in-Some.b past))
    ] in
    record {
      behind = found.behind;
      within = inside;
      tight = (c.row.ensures.tells c.in-Some.b inside).0 found.found;
      first = λ k from below tight.
          true≢false (sym ((c.row.ensures.tells k (omega arith)).1 tight)
          ∙ found.before k from below);
    }

pub returns-in-None : goal.returns-in-None
returns-in-None c = λ b from below tight. true≢false (sym ((c.row.ensures.tells b below).1 tight)
    ∙ c.in-None.ensures b from)
