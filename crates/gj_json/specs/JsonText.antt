-- JSON that is written (own).
use Rattle.std.specs.Prelude.{ℕ, ℤ, pos, ◌≡◌, ◌⊎◌, ◌≤◌, All, map, flat_map, List, [], ◌∷◌, ◌++◌, codes}
use Rattle.std.specs.List.{AllZip}
use Rattle.gj_frac.specs.declared.Frac.{Frac}
use Rattle.gj_frac.specs.Fraction.{IsRatio}
use Rattle.gj_lex.specs.NumberText.{fraction_text}
use Rattle.gj_shape.specs.FunctionData.{FunctionData}
use Rattle.serde_json.specs.Data.{Data, unsigned, number, string, array, object, Items, no_items, item, no_members, member}
use Rattle.serde_json.specs.Written.{compact_text}

-- a value with no space, and a line feed
abbrev pub json_line : Data → List ℕ
json_line d = compact_text d ++ 10 ∷ []

-- the texts as strings
abbrev pub strings : List (List ℕ) → Items
strings [] = no_items
strings (text ∷ texts) = item (string text) (strings texts)

-- the fractions as strings, in canonical form
abbrev pub fraction_strings : List Frac → Items
fraction_strings xs = strings (map fraction_text xs)

-- the fractions are these whole numbers over the scale
abbrev pub AreRatios : ℕ → List Frac → List ℤ → Type 0
AreRatios scale xs ns = AllZip (λ x n. IsRatio x n (pos scale)) xs ns

-- the value of a function: its keys in alphabetical order, the order as a number and fractions as
-- strings
abbrev pub function_value : ℕ → Frac → List Frac → List Frac → List Frac → Data
function_value order place left value right =
    object
    (member (codes "f") (string (fraction_text place))
    (member (codes "left") (array (fraction_strings left))
    (member (codes "order") (number (unsigned order))
    (member (codes "right") (array (fraction_strings right))
    (member (codes "value") (array (fraction_strings value)) no_members)))))

-- the value is that of the function f
pub record IsJsonOf (f : FunctionData) (d : Data) : Type 0 where
  pub place : Frac
  pub left : List Frac
  pub value : List Frac
  pub right : List Frac
  pub place_is : IsRatio place (pos f.place) (pos f.order)
  pub left_are : AreRatios f.scale left f.left
  pub value_are : AreRatios f.scale value f.value
  pub right_are : AreRatios f.scale right f.right
  pub is : d ≡ function_value f.order place left value right

-- the text is the one JSON text that is written for the function f
abbrev pub IsJsonText : List ℕ → FunctionData → Type 0
IsJsonText text f = (d : Data) × IsJsonOf f d × (text ≡ json_line d)

-- ---- reports

-- a printable byte of ASCII
abbrev pub IsPrintable : ℕ → Type 0
IsPrintable b = (32 ≤ b) × (b ≤ 126)

-- a byte of a proof text: a line feed or a printable one
abbrev pub IsProofByte : ℕ → Type 0
IsProofByte b = (b ≡ 10) ⊎ IsPrintable b

-- nothing, or a text that ends with a line feed
abbrev pub IsEnded : List ℕ → Type 0
IsEnded text = (text ≡ []) ⊎ ((front : List ℕ) × (text ≡ front ++ 10 ∷ []))

-- the text is these lines of printable bytes, each with a line feed behind it
pub record HasJsonLines (text : List ℕ) (lines : List (List ℕ)) : Type 0 where
  pub joined : text ≡ flat_map (λ line. line ++ 10 ∷ []) lines
  pub printable : All (All IsPrintable) lines

-- the value of a report: the lines of the proof as strings, and the verdict
abbrev pub report_value : List (List ℕ) → List ℕ → Data
report_value lines verdict =
    object (member (codes "proof") (array (strings lines))
    (member (codes "verdict") (string verdict) no_members))

-- the text is the report of the verdict and of the proof text
abbrev pub IsReport : List ℕ → List ℕ → List ℕ → Type 0
IsReport verdict proof text = (lines : List (List ℕ)) × HasJsonLines proof lines
    × (text ≡ json_line (report_value lines verdict))
