-- The lines of a function: its order, its place and its points, one part after the other.
use Rattle.std.proofs.Common.{ℕ, List, []}
use Rattle.gj_lex.specs.declared.spelling.Spelling.{Spelling}
use Rattle.gj_forms.specs.declared.fault.PartFault.{PartFault}
use Rattle.gj_forms.specs.Parts.{Part, line_part, then_part, made_part, IsFaultOf}
use Rattle.gj_forms.proofs.PartLaws.{fault_in_first, fault_in_next, fault_in_made}
use Rattle.gj_shape.specs.FunctionData.{FunctionData, IsWithinBounds}
use Rattle.gj_shape.specs.Given.{IsGivenBy}
use Rattle.gj_shape.specs.Points.{lefts, values, rights}
use Rattle.gj_shape.specs.declared.points.Point.{Point}
use Rattle.gj_function_lines.specs.FunctionGrammar.{order_rule, place_rule, points_part, function_part}

-- the points of an order and a place, and the function that they give
abbrev pub Gives : ℕ → ℕ → List Point → FunctionData → Type 0
Gives q k points f = IsGivenBy q k (lefts points) (values points) (rights points) f

abbrev pub behind_place : Spelling → ℕ → ℕ → Part FunctionData
behind_place s q k = made_part (Gives q k) (points_part s q [])

abbrev pub behind_order : Spelling → ℕ → Part FunctionData
behind_order s q = then_part (line_part s (place_rule s q)) (behind_place s q)

-- each part may be at fault
pub in_order : (s : Spelling) (text : List ℕ) (e : PartFault) →
    IsFaultOf (line_part s (order_rule s)) text e →
    IsFaultOf (function_part s) text e
in_order s text e h = fault_in_first (line_part s (order_rule s)) (behind_order s) text e h

pub in_place : (s : Spelling) (text : List ℕ) (q : ℕ) (next : List ℕ) (e : PartFault) →
    (line_part s (order_rule s)).Reads text q next →
    IsFaultOf (line_part s (place_rule s q)) next e →
    IsFaultOf (function_part s) text e
in_place s text q next e order h =
    fault_in_next (line_part s (order_rule s)) (behind_order s) text q next e order
    (fault_in_first (line_part s (place_rule s q)) (behind_place s q) next e h)

pub in_points : (s : Spelling) (text : List ℕ) (q k : ℕ) (next more : List ℕ) (e : PartFault) →
    (line_part s (order_rule s)).Reads text q next →
    (line_part s (place_rule s q)).Reads next k more →
    IsFaultOf (points_part s q []) more e → IsFaultOf (function_part s) text e
in_points s text q k next more e order place h =
    fault_in_next (line_part s (order_rule s)) (behind_order s) text q next e order
    (fault_in_next (line_part s (place_rule s q)) (behind_place s q) next k more e place
    (fault_in_made (Gives q k) (points_part s q []) more e h))

-- and all of them make the function
pub whole : (s : Spelling) (text : List ℕ) (q k : ℕ) (next more rest : List ℕ) (points : List Point)
    (f : FunctionData) →
    (line_part s (order_rule s)).Reads text q next →
    (line_part s (place_rule s q)).Reads next k more →
    (points_part s q []).Reads more points rest → Gives q k points f →
    (function_part s).Reads text f rest
whole s text q k next more rest points f order place h given =
    (q, next, order, (k, more, place, (points, h, given)))

-- a function that is read is within bounds
pub within_bounds : (s : Spelling) (text : List ℕ) (f : FunctionData) (rest : List ℕ) →
    (function_part s).Reads text f rest →
    IsWithinBounds f
within_bounds s text f rest (q, next, order, (k, more, place, (points, h, given))) = given.within
