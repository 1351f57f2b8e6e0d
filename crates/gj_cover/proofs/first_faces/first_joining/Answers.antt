use Rattle.std.proofs.Common.{None}
use Rattle.gj_shape.specs.Additive.{IsAdditive}
use Rattle.gj_cover.specs.FirstFound.{AddsFirst}
use Rattle.gj_cover.specs.Links.{Leads}
use Rattle.gj_cover.specs.Table.{IsTightInTable}
use Rattle.gj_cover.proofs.Adding.{added_restated}
use Rattle.gj_cover.proofs.FirstFaces.{leads_turned, joining_found, joining_none}
use Rattle.gj_cover.proofs.TablePairs.{table_period}
use Rattle.gj_cover.proofs.first_faces.first_joining.Goals as goal

pub returns-then-i-j-clause-found : goal.returns-then-i-j-clause-found
returns-then-i-j-clause-found c =
    let t = c.args.table.now in
    joining_found t.order (IsTightInTable t) c.args.i c.args.j c.requires.first c.requires.second
    c.requires.different _ c.joining_either.ensures

pub returns-then-i-j-clause-none : goal.returns-then-i-j-clause-none
returns-then-i-j-clause-none c =
    let t = c.args.table.now in
    joining_none t.order (IsTightInTable t) (table_period t) c.args.i c.args.j c.requires.first
    c.requires.second c.requires.different _
    c.joining_either.ensures

turned : (c : goal.After-joining_either-else-i-j) →
    AddsFirst (Leads c.args.table.now.order c.args.i c.args.j)
    (IsAdditive (IsTightInTable c.args.table.now)) None c.joining_either-else-i-j.result
turned c =
    let t = c.args.table.now in
    let i = c.args.i in
    let j = c.args.j in
    added_restated (Leads t.order j i) (Leads t.order i j)
    (IsAdditive (IsTightInTable t)) None c.joining_either-else-i-j.result
    (leads_turned t.order j i) (leads_turned t.order i j) c.joining_either-else-i-j.ensures

pub returns-else-i-j-clause-found : goal.returns-else-i-j-clause-found
returns-else-i-j-clause-found c =
    let t = c.args.table.now in
    joining_found t.order (IsTightInTable t) c.args.i c.args.j c.requires.first c.requires.second
    c.requires.different _ (turned c)

pub returns-else-i-j-clause-none : goal.returns-else-i-j-clause-none
returns-else-i-j-clause-none c =
    let t = c.args.table.now in
    joining_none t.order (IsTightInTable t) (table_period t) c.args.i c.args.j c.requires.first
    c.requires.second c.requires.different _ (turned c)
