-- What is known of the bytes read so far.
use Rattle.std.proofs.Common.{◌≡◌, ℕ, ◌+◌, ◌≤◌, List, [], ◌++◌, length, take, drop, sym, ap, ◌∙◌, arith, Vec}
use Rattle.std.proofs.Common.{Option, None, Some, Result, Ok, Err, IfSome, Bool, true, false, length-append, length-drop, refl}
use Rattle.std.proofs.lemmas.List.{length-take-le, drop-drop, take_all}
use Rattle.std.proofs.Math.Seq.{take-add}
use Rattle.std.specs.Result.{IsErrAnd}
use Rattle.std.specs.declared.alloc.Global.{Global}
use Rattle.gj_port.specs.Source.{Reads}
use Rattle.gj_port.specs.Whole.{IsRead, ReadsOn, TakesAll}
use Rattle.gj_port.specs.declared.fault.ReadError.{ReadError}
use Rattle.gj_port.specs.declared.fault.Failed.{Failed}

-- after a further piece of the rest
read_piece :
    (all bytes piece : List ℕ) (n : ℕ) → length bytes ≤ length all → take (length bytes) all ≡ bytes
    → n ≤ length (drop (length bytes) all) → piece ≡ take n (drop (length bytes) all)
    → IsRead all (bytes ++ piece) (Some (drop n (drop (length bytes) all)))
read_piece all bytes piece n within front fits is =
    let size : length piece ≡ n = ap length is ∙ length-take-le n (drop (length bytes) all) fits in
    let total : length (bytes ++ piece) ≡ length bytes + n =
    omega (arith, length-append bytes piece) in
    record {
      within = omega (arith, length-drop (length bytes) all);
      front = rw total (take-add (length bytes) n all ∙ (cc));
      rest = rw (total, drop-drop);
    }

-- a read that gives n bytes goes on
pub read_more :
    (start left after : Option (List ℕ)) (bytes more piece buf : List ℕ) (n : ℕ)
    → IfSome start (λ all. IsRead all bytes left) → Reads {E = Failed} left after buf (Ok n)
    → more ≡ bytes ++ piece → piece ≡ take n buf → IfSome start (λ all. IsRead all more after)
read_more None left after bytes more piece buf n so_far told more_is piece_is = tt
read_more (Some all) None after bytes more piece buf n so_far told more_is piece_is =
    let no : None ≡ Some (drop (length bytes) all) = so_far.rest in absurd (cc)
read_more (Some all) (Some rest) after bytes more piece buf n so_far told more_is piece_is =
    let same : rest ≡ drop (length bytes) all = (let e = so_far.rest in cc) in
    let fits : n ≤ length (drop (length bytes) all) = rw (← same) told.0 in
    let front : piece ≡ take n (drop (length bytes) all) = piece_is ∙ rw (← same) told.1 in
    rw (more_is, told.2, same) (read_piece all bytes piece n so_far.within so_far.front fits front)

-- a read that gives nothing ends it
pub read_end :
    (start left after : Option (List ℕ)) (bytes : Vec ℕ Global) (buf : List ℕ) (limit n : ℕ)
    → IfSome start (λ all. IsRead all bytes.items left) → Reads {E = Failed} left after buf (Ok n) →
    n ≡ 0
    → IfSome start (λ all. TakesAll limit all after (Ok bytes))
read_end None left after bytes buf limit n so_far told none = tt
read_end (Some all) None after bytes buf limit n so_far told none =
    let no : None ≡ Some (drop (length bytes.items) all) = so_far.rest in absurd (cc)
read_end (Some all) (Some rest) after bytes buf limit n so_far told none =
    let same : rest ≡ drop (length bytes.items) all = (let e = so_far.rest in cc) in
    let empty : rest ≡ [] = told.3 none in
    let short : length all ≤ length bytes.items =
    omega (arith, length-drop (length bytes.items) all, ap length (sym same ∙ empty)) in
    (sym so_far.front ∙ take_all (length bytes.items) all short, told.2 ∙ rw (none, empty))

-- ---- reading in two turns

-- the first begins with no bytes
pub first_told :
    (start after : Option (List ℕ)) (limit : ℕ) (items : List ℕ) (bytes : Vec ℕ Global)
    (r : Result Bool ReadError) → items ≡ []
    → ((all : List ℕ) → IsRead all items start → ReadsOn limit all bytes after r)
    → IfSome start (λ all. ReadsOn limit all bytes after r)
first_told None after limit items bytes r none told = tt
first_told (Some all) after limit items bytes r none told =
    told all (rw none (record { within = omega arith; front = refl; rest = refl }))

-- the second goes on with those of the first, if that one did not come to the end
pub second_told :
    (start left after : Option (List ℕ)) (limit : ℕ) (before bytes : Vec ℕ Global)
    (r : Result Bool ReadError) (ended : Bool) → ended ≡ false
    → IfSome start (λ all. ReadsOn limit all before left (Ok ended))
    → ((all : List ℕ) → IsRead all before.items left → ReadsOn limit all bytes after r)
    → IfSome start (λ all. ReadsOn limit all bytes after r)
second_told None left after limit before bytes r ended is so_far told = tt
second_told (Some all) left after limit before bytes r false is so_far told = told all so_far
second_told (Some all) left after limit before bytes r true is so_far told =
    let no : true ≡ false = is in absurd (cc)

-- a turn that came to the end
pub last_told :
    (start after : Option (List ℕ)) (limit : ℕ) (bytes : Vec ℕ Global) (ended : Bool)
    → IfSome start (λ all. ReadsOn limit all bytes after (Ok ended)) → ended ≡ true
    → IfSome start (λ all. TakesAll limit all after (Ok bytes))
last_told None after limit bytes ended told is = tt
last_told (Some all) after limit bytes true told is = told
last_told (Some all) after limit bytes false told is = let no : false ≡ true = is in absurd (cc)

-- one that wants more than the limit comes to the end
pub not_enough :
    (n : ℕ) (ended : Bool) (limit : ℕ) → (ended ≡ false → limit + 1 ≤ n) → n ≤ limit → ended ≡ true
not_enough n true limit enough within = refl
not_enough n false limit enough within = absurd (omega (arith, enough refl))

-- the exit of a `?` hands on the error
pub handed_on :
    (start after : Option (List ℕ)) (limit : ℕ) (bytes : Vec ℕ Global) (e : ReadError)
    (r : Result (Vec ℕ Global) ReadError) →
    IfSome start (λ all. ReadsOn limit all bytes after (Err e))
    → IsErrAnd r (λ x. x ≡ e) → IfSome start (λ all. TakesAll limit all after r)
handed_on None after limit bytes e r told is = tt
handed_on (Some all) after limit bytes e (Ok taken) told is = absurd is
handed_on (Some all) after limit bytes e (Err x) told is = rw is told
