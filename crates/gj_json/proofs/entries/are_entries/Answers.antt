use Rattle.std.proofs.Common.{◌↔◌, IsTrue, rules}
use Rattle.std.specs.List.{All}
use Rattle.serde_json.specs.View.{view}
use Rattle.gj_json.specs.JsonFunction.{IsEntry}
use Rattle.gj_json.proofs.Views.{entries_along}
use Rattle.gj_json.proofs.entries.are_entries.Goals as goal

pub returns-then-values-count : goal.returns-then-values-count
returns-then-values-count c =
    let test : IsTrue c.all.result ↔ All (λ v. IsEntry (view v)) c.args.values.now = search rules in
    entries_along c.args.values.now c.args.count _ c.if-values-count.true test
