use Rattle.gj_cover.specs.Links.{IsPairInRow, IsAcross}
use Rattle.gj_cover.specs.Table.{IsTightInTable, CoversBy}
use Rattle.gj_cover.proofs.FirstFaces.{IsSquare, all_on, all_back, covering_found, covering_none}
use Rattle.gj_cover.proofs.Merging.{Either, merged, restated}
use Rattle.gj_cover.proofs.TablePairs.{table_period}
use Rattle.gj_cover.proofs.first_faces.first_covering.Goals as goal

pub returns-clause-found : goal.returns-clause-found
returns-clause-found c =
    let t = c.args.table.now in
    let q = t.order in
    let i = c.args.i in
    covering_found q (IsTightInTable t) i c.earlier.result
    (restated (Either (IsPairInRow q i) (IsAcross q i)) (IsSquare q) (CoversBy t i) c.earlier.result
    (λ a b. all_on q i a b c.requires) (all_back q i)
    (merged (IsPairInRow q i) (IsAcross q i)
    (CoversBy t i) c.first_in_row.result c.first_across.result c.earlier.result
    c.first_in_row.ensures c.first_across.ensures c.earlier.ensures))

pub returns-clause-none : goal.returns-clause-none
returns-clause-none c =
    let t = c.args.table.now in
    let q = t.order in
    let i = c.args.i in
    covering_none q (IsTightInTable t) (table_period t) i c.requires c.earlier.result
    (restated (Either (IsPairInRow q i) (IsAcross q i)) (IsSquare q) (CoversBy t i) c.earlier.result
    (λ a b. all_on q i a b c.requires) (all_back q i)
    (merged (IsPairInRow q i) (IsAcross q i)
    (CoversBy t i) c.first_in_row.result c.first_across.result c.earlier.result
    c.first_in_row.ensures c.first_across.ensures c.earlier.ensures))
