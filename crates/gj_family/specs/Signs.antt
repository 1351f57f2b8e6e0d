-- Rises and falls of a function with two slopes.
use Rattle.std.specs.Prelude.{ℕ, ℤ, pos, ◌*◌, ◌-ℤ◌, List, Bool, not, take, count_by}

-- how many of the intervals rise
abbrev pub rises : List Bool → ℕ
rises signs = count_by (λ sign. sign) signs

-- how many fall
abbrev pub falls : List Bool → ℕ
falls signs = count_by (λ sign. not sign) signs

-- the sum of the first i steps, if a rise goes up by `up` and a fall down by `down`
abbrev pub sum_of_steps : ℕ → ℕ → List Bool → ℕ → ℤ
sum_of_steps up down signs i = pos (rises (take i signs) * up) -ℤ pos (falls (take i signs) * down)

-- the same, if with r rises and t falls in all a rise goes up by t and a fall down by r, so that
-- the sum of all is 0
abbrev pub height : List Bool → ℕ → ℤ
height signs i = sum_of_steps (falls signs) (rises signs) signs i
