use Rattle.gj_function_text.proofs.breaks.start_at.Goals as goal

pub returns-in-Ok : goal.returns-in-Ok
returns-in-Ok c =
    (_, _, c.in_ok-line.ensures.found, rw c.new.ensures c.in-Ok.ensures.found)
