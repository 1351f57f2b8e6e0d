-- Intervals to which joined ones lead (own).
use Rattle.gj_cover.specs.Reached.{ReachedData}
use Rattle.gj_limit_cover.specs.declared.reached.Reached.{Reached}

abbrev pub reached_data : Reached → ReachedData
reached_data r = record { reached = r.reached; waiting = r.waiting }
