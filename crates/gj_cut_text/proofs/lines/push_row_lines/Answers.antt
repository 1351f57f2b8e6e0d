use Rattle.gj_cut_text.proofs.lines.push_row_lines.Goals as goal

pub push_gmic_lines-requires-clause-rows : goal.push_gmic_lines-requires-clause-rows
push_gmic_lines-requires-clause-rows c =
    rw (c.as_slice-columns.ensures, c.as_slice-rows.ensures) c.requires.tableau.each_row

pub push_function_lines-requires-clause-rows : goal.push_function_lines-requires-clause-rows
push_function_lines-requires-clause-rows c =
    rw (c.as_slice-columns.ensures, c.as_slice-rows.ensures) c.requires.tableau.each_row
