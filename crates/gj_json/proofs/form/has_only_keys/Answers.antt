use Rattle.std.proofs.Common.{◌↔◌, IsTrue, rules, string_bytes}
use Rattle.std.specs.BTreeMap.{keys}
use Rattle.std.specs.List.{All}
use Rattle.serde_json.specs.View.{view}
use Rattle.gj_json.specs.JsonFunction.{IsKey}
use Rattle.gj_json.proofs.Views.{only_keys}
use Rattle.gj_json.proofs.form.has_only_keys.Goals as goal

pub returns-in-Some : goal.returns-in-Some
returns-in-Some c =
    let test : IsTrue c.all.result ↔ All (λ key. IsKey (string_bytes key))
    (keys c.in-Some.members.now) = search rules in
    only_keys (view c.args.value.now) c.in-Some.members.now.entries _ c.in-Some.ensures test
