-- Words so far, one by one.
use Rattle.std.proofs.Common.{◌≡◌, ℕ, ◌+◌, ◌<◌, List, [], ◌∷◌, ◌++◌, length, map, take, get_or, String, string_bytes, Bor, sym, ap, ◌∙◌}
use Rattle.std.proofs.lemmas.List.{map-append, take_more}
use Rattle.std.specs.declared.alloc.Global.{Global}

-- what a piece is
abbrev pub bytes_of : Bor (List ℕ) → List ℕ
bytes_of piece = piece.now

pub one_more : (words new : List (String Global)) (pieces : List (Bor (List ℕ))) (i : ℕ)
    (d : Bor (List ℕ)) (word : String Global) → i < length pieces →
    map string_bytes words ≡ map bytes_of (take i pieces) →
    string_bytes word ≡ (get_or pieces i d).now → new ≡ words ++ word ∷ [] →
    map string_bytes new ≡ map bytes_of (take (i + 1) pieces)
one_more words new pieces i d word low so_far e grown =
    let left : map string_bytes new ≡ map string_bytes words ++ string_bytes word ∷ [] =
    ap (map string_bytes) grown ∙ map-append string_bytes words (word ∷ []) in
    let right : map bytes_of (take (i + 1) pieces) ≡ map bytes_of (take i pieces)
    ++ (get_or pieces i d).now ∷ [] =
    ap (map bytes_of) (take_more pieces i d low)
    ∙ map-append bytes_of (take i pieces) (get_or pieces i d ∷ []) in
    let both : map string_bytes words ++ string_bytes word ∷ [] ≡ map bytes_of (take i pieces)
    ++ (get_or pieces i d).now ∷ [] = cc in
    left ∙ both ∙ sym right
