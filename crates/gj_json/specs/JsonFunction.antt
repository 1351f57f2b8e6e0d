-- JSON functions: which values of JSON say which function (own).
use Rattle.std.specs.Prelude.{ℕ, ℤ, pos, ◌≡◌, ◌⊎◌, List, [], ◌∷◌, length, All, codes, Option, Some, None, IsSome, option_map, option_and_then, IsUtf8}
use Rattle.std.specs.List.{AllZip}
use Rattle.gj_frac.specs.declared.Frac.{Frac}
use Rattle.gj_frac.specs.Fraction.{IsRatio}
use Rattle.gj_lex.specs.SpelledNumbers.{IsFractionWord}
use Rattle.gj_lex.specs.declared.spelling.Spelling.TheVariants.{Lenient}
use Rattle.gj_shape.specs.FunctionData.{FunctionData}
use Rattle.gj_shape.specs.Given.{IsOrder, IsPlace, IsGivenBy}
use Rattle.serde_json.specs.Data.{Data, Items, no_items, item, Members, no_members, member}
use Rattle.serde_json.specs.Find.{get, as_str, as_number, as_array, as_object, as_integer}
use Rattle.serde_json.specs.Read.{read}

-- ---- what stands in a value

-- the whole number of 64 bits
abbrev pub integer : Data → Option ℤ
integer d = option_and_then as_integer (as_number d)

abbrev pub list_of : Items → List Data
list_of no_items = []
list_of (item d ds) = d ∷ list_of ds

-- the list at a key
abbrev pub list_at : List ℕ → Data → Option (List Data)
list_at key d = option_map list_of (option_and_then as_array (get key d))

abbrev pub keys_of : Members → List (List ℕ)
keys_of no_members = []
keys_of (member key d ms) = key ∷ keys_of ms

-- ---- the form

-- what may stand for a fraction: a string or a whole number
abbrev pub IsEntry : Data → Type 0
IsEntry d = IsSome (as_str d) ⊎ IsSome (integer d)

-- a key of a function
abbrev pub IsKey : List ℕ → Type 0
IsKey key = (key ≡ codes "f") ⊎ (key ≡ codes "left") ⊎ (key ≡ codes "order") ⊎ (key ≡ codes "right")
    ⊎ (key ≡ codes "value")

-- an object with no other key
abbrev pub HasOnlyKeys : Data → Type 0
HasOnlyKeys d = (ms : Members) × (as_object d ≡ Some ms) × All IsKey (keys_of ms)

-- both lists of limits stand in it, or neither, and then they are the values
abbrev pub HasSideLimits : Data → List Data → List Data → List Data → Type 0
HasSideLimits d left value right =
    ((list_at (codes "left") d ≡ Some left) × (list_at (codes "right") d ≡ Some right))
    ⊎ ((get (codes "left") d ≡ None) × (get (codes "right") d ≡ None) × (left ≡ value)
    × (right ≡ value))

-- as many entries
abbrev pub AreEntries : ℕ → List Data → Type 0
AreEntries n ds = (length ds ≡ n) × All IsEntry ds

-- the value is of the form of a function: `f` is this entry, and the lists have these, as many as
-- `order` says
pub record HasForm (d : Data) (place : Data) (left value right : List Data) : Type 0 where
  pub keys : HasOnlyKeys d
  pub order_is : option_and_then integer (get (codes "order") d) ≡ Some (pos (length value))
  pub place_is : get (codes "f") d ≡ Some place
  pub value_is : list_at (codes "value") d ≡ Some value
  pub limits : HasSideLimits d left value right
  pub place_entry : IsEntry place
  pub left_entries : AreEntries (length value) left
  pub value_entries : AreEntries (length value) value
  pub right_entries : AreEntries (length value) right

-- ---- the fractions

-- the fraction that the entry spells: that of the word in the string, or the whole number
abbrev pub SpellsNumber : Data → Frac → Type 0
SpellsNumber d x =
    ((word : List ℕ) × (as_str d ≡ Some word) × IsFractionWord Lenient word x)
    ⊎ ((z : ℤ) × (integer d ≡ Some z) × IsRatio x z (pos 1))

-- the entries of the form spell these fractions
pub record SpellsForm (p : Data) (ls vs rs : List Data) (place : Frac)
    (left value right : List Frac) : Type 0 where
  pub place_spelled : SpellsNumber p place
  pub left_spelled : AllZip SpellsNumber ls left
  pub value_spelled : AllZip SpellsNumber vs value
  pub right_spelled : AllZip SpellsNumber rs right

-- the value is of the form, with these fractions
pub record HasFractions (d : Data) (place : Frac) (left value right : List Frac) : Type 0 where
  pub p : Data
  pub ls : List Data
  pub vs : List Data
  pub rs : List Data
  pub form : HasForm d p ls vs rs
  pub spelled : SpellsForm p ls vs rs place left value right

-- ---- the function

-- the function whose order is the number of values, and whose f is the place
pub record GivesFunction (place : Frac) (left value right : List Frac) (f : FunctionData) :
    Type 0 where
  pub k : ℕ
  pub order_fits : IsOrder (length value)
  pub place_fits : IsPlace (length value) k
  pub place_is : IsRatio place (pos k) (pos (length value))
  pub given : IsGivenBy (length value) k left value right f

-- the value says the function
pub record SaysFunction (d : Data) (f : FunctionData) : Type 0 where
  pub place : Frac
  pub left : List Frac
  pub value : List Frac
  pub right : List Frac
  pub fractions : HasFractions d place left value right
  pub gives : GivesFunction place left value right f

-- `serde_json` reads this value from the whole text
abbrev pub HasValue : List ℕ → Data → Type 0
HasValue text d = IsUtf8 text × (read text ≡ Some d)

-- the text is JSON, and its value says the function
abbrev pub IsJsonFunction : List ℕ → FunctionData → Type 0
IsJsonFunction text f = (d : Data) × HasValue text d × SaysFunction d f
