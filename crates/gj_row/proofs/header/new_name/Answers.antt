use Rattle.std.proofs.Common.{◌∙◌, sym, ap, ◌++◌, ◌∷◌, [], Contains, subst}
use Rattle.gj_lemmas.proofs.Choices.{not_true, not_false}
use Rattle.gj_row.specs.Reading.{bytes_of}
use Rattle.gj_row.proofs.Names.{stands_already, stands_not, name_kept}
use Rattle.gj_row.proofs.header.new_name.Goals as goal

pub returns-then-not-branch-clause-refused : goal.returns-then-not-branch-clause-refused
returns-then-not-branch-clause-refused c =
    let keys = c.args.names.now.keys in
    let old = not_false _ (sym c.in_ok-insert.ensures.added ∙ c.if-not-branch.true) in (
      c.in-Ok.ensures.valid,
      subst (Contains (bytes_of keys)) c.in_ok-bytes.ensures.ok
          (stands_already keys c.in_ok-bytes.bytes old),
    )

pub returns-clause-new : goal.returns-clause-new
returns-clause-new c =
    let keys = c.args.names.now.keys in
    let new = not_true _ (sym c.in_ok-insert.ensures.added ∙ c.if-not-branch.false) in
    record {
      valid = c.in-Ok.ensures.valid;
      differs = subst (λ w. Contains (bytes_of keys) w → ⊥) c.in_ok-bytes.ensures.ok
          (stands_not keys c.in_ok-bytes.bytes new);
    }

pub returns-clause-kept : goal.returns-clause-kept
returns-clause-kept c =
    let keys = c.args.names.now.keys in
    let new = not_true _ (sym c.in_ok-insert.ensures.added ∙ c.if-not-branch.false) in
    ap bytes_of c.in_ok-insert.ensures.keys ∙ name_kept keys c.in_ok-bytes.bytes new
    ∙ ap (λ w. bytes_of keys ++ w ∷ []) c.in_ok-bytes.ensures.ok
