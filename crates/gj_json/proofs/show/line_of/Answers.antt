use Rattle.std.proofs.Common.{◌∷◌, [], ◌∙◌, refl}
use Rattle.std.proofs.lemmas.Str.{IsUtf8-append}
use Rattle.json.proofs.Printed.Utf8.{IsUtf8-are_ascii}
use Rattle.gj_json.proofs.Trailing.{read_with_line_feed}
use Rattle.gj_json.proofs.show.line_of.Goals as goal

pub returns-clause-reads_back : goal.returns-clause-reads_back
returns-clause-reads_back c = λ shallow.
    let bytes = c.in_ok-text.text.items in
    let utf8 = IsUtf8-append bytes (10 ∷ []) c.in_ok-text.ensures.utf8
    (IsUtf8-are_ascii (10 ∷ []) refl) in
    rw c.in_ok-push.ensures.items (
      utf8,
      read_with_line_feed bytes c.in_ok-text.ensures.compact
          ∙ c.in_ok-text.ensures.reads_back shallow,
    )
