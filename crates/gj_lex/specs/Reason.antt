-- The words by which a refused line is explained (own).
use Rattle.std.specs.Prelude.{ℕ, List, codes}
use Rattle.gj_lex.specs.declared.reason.Reason.{Reason}
use Rattle.gj_lex.specs.declared.reason.Reason.TheVariants.{Form, Number, Order, Place, Large, Fine, Break, BadF, Pieces, Signs, Slopes, Tail}

-- the word of a reason
abbrev pub reason_word : Reason → List ℕ
reason_word Form = codes "form"
reason_word Number = codes "number"
reason_word Order = codes "order"
reason_word Place = codes "place"
reason_word Large = codes "large"
reason_word Fine = codes "fine"
reason_word Break = codes "break"
reason_word BadF = codes "bad-f"
reason_word Pieces = codes "pieces"
reason_word Signs = codes "signs"
reason_word Slopes = codes "slopes"
reason_word Tail = codes "tail"
