-- Lists of things are printed and read one after another.
use Rattle.std.proofs.Common.{◌≡◌, ◌⊎◌, inl, inr, ℕ, zero, suc, List, [], ◌∷◌, ◌++◌, All, flat_map, length, refl, sym, ap, subst, ◌∙◌, arith}
use Rattle.std.proofs.lemmas.List.{append_assoc, append-nil}
use Rattle.std.proofs.lemmas.List.Elements.{All-nil, All-cons, All-head, All-tail}
use Rattle.gj_forms.specs.Parts.{Part, empty_part, then_part, loop_part, IsExactPart}
use Rattle.gj_forms.specs.Parts.ReadsInTurn.{last, onward}
use Rattle.gj_forms.proofs.PartLaws.{empty_part_is_exact, then_part_is_exact, made_part_is_exact}
use Rattle.gj_forms.proofs.LoopLaws.{loop_part_is_exact}
use Rattle.gj_forms.proofs.WhereLaws.{where_part_is_exact}
use Rattle.gj_forms.specs.ListParts.{one_more, next_while, while_part, next_until, until_part, times_part, IsPrinted}

-- ---- they are exact

module _ {A : Type 0} (Begins : List ℕ → Type 0) (p : Part A)
    (exact : IsExactPart p.Reads p.Faults) where
  one_more_is_exact : (items : List A) →
      IsExactPart (one_more p items).Reads (one_more p items).Faults
  one_more_is_exact items = made_part_is_exact (λ (a : A) next. next ≡ inl (items ++ a ∷ []))
      (λ a m n h k. h ∙ sym k) p exact

  pub while_part_is_exact : (items : List A) →
      IsExactPart (while_part Begins p items).Reads (while_part Begins p items).Faults
  while_part_is_exact =
      loop_part_is_exact (next_while Begins p)
      (λ items. where_part_is_exact Begins (one_more p items) (empty_part (inr items))
      (one_more_is_exact items) (empty_part_is_exact (inr items)))

  pub until_part_is_exact : (items : List A) →
      IsExactPart (until_part Begins p items).Reads (until_part Begins p items).Faults
  until_part_is_exact =
      loop_part_is_exact (next_until Begins p)
      (λ items. where_part_is_exact Begins (empty_part (inr items)) (one_more p items)
      (empty_part_is_exact (inr items)) (one_more_is_exact items))

-- ---- what they read

-- one more is read where a text goes on, and none where it is done
record IsStep {A : Type 0} (step : List A → Part (List A ⊎ List A)) (p : Part A)
    (More Done : List ℕ → Type 0) : Type 0 where
  on : (items : List A) (text rest : List ℕ) (a : A) → More text → p.Reads text a rest →
      (step items).Reads text (inl (items ++ a ∷ [])) rest
  stop : (items : List A) (text : List ℕ) → Done text → (step items).Reads text (inr items) text
  was_on : (items next : List A) (text rest : List ℕ) → (step items).Reads text (inl next) rest →
      (a : A) × (next ≡ items ++ a ∷ []) × p.Reads text a rest
  was_last : (items all : List A) (text rest : List ℕ) → (step items).Reads text (inr all) rest →
      (all ≡ items) × (text ≡ rest)

next_state : {A : Type 0} (a b : List A) → ◌≡◌ {A = List A ⊎ List A} (inl a) (inl b) → a ≡ b
next_state a b e = cc

last_state : {A : Type 0} (a b : List A) → ◌≡◌ {A = List A ⊎ List A} (inr a) (inr b) → a ≡ b
last_state a b e = cc

other_state : {A : Type 0} (a b : List A) → ◌≡◌ {A = List A ⊎ List A} (inl a) (inr b) → ⊥
other_state a b e = cc

while_step : {A : Type 0} (Begins : List ℕ → Type 0) (p : Part A) →
    IsStep (next_while Begins p) p Begins (λ text. Begins text → ⊥)
while_step {A} Begins p = record {
  on = λ items text rest a is h. inl (is, (a, h, refl));
  stop = λ items text not. inr (not, (refl, refl));
  was_on = was_on;
  was_last = was_last;
}
  where
    was_on : (items next : List A) (text rest : List ℕ) →
        (next_while Begins p items).Reads text (inl next) rest →
        (a : A) × (next ≡ items ++ a ∷ []) × p.Reads text a rest
    was_on items next text rest (inl (is, (a, h, e))) = (a, next_state next (items ++ a ∷ []) e, h)
    was_on items next text rest (inr (not, (e, same))) = absurd (other_state next items e)

    was_last : (items all : List A) (text rest : List ℕ) →
        (next_while Begins p items).Reads text (inr all) rest → (all ≡ items) × (text ≡ rest)
    was_last items all text rest (inl (is, (a, h, e))) =
        absurd (other_state (items ++ a ∷ []) all (sym e))
    was_last items all text rest (inr (not, (e, same))) = (last_state all items e, same)

until_step : {A : Type 0} (Begins : List ℕ → Type 0) (p : Part A) →
    IsStep (next_until Begins p) p (λ text. Begins text → ⊥) Begins
until_step {A} Begins p = record {
  on = λ items text rest a not h. inr (not, (a, h, refl));
  stop = λ items text is. inl (is, (refl, refl));
  was_on = was_on;
  was_last = was_last;
}
  where
    was_on : (items next : List A) (text rest : List ℕ) →
        (next_until Begins p items).Reads text (inl next) rest →
        (a : A) × (next ≡ items ++ a ∷ []) × p.Reads text a rest
    was_on items next text rest (inr (not, (a, h, e))) = (a, next_state next (items ++ a ∷ []) e, h)
    was_on items next text rest (inl (is, (e, same))) = absurd (other_state next items e)

    was_last : (items all : List A) (text rest : List ℕ) →
        (next_until Begins p items).Reads text (inr all) rest → (all ≡ items) × (text ≡ rest)
    was_last items all text rest (inr (not, (a, h, e))) =
        absurd (other_state (items ++ a ∷ []) all (sym e))
    was_last items all text rest (inl (is, (e, same))) = (last_state all items e, same)

module _ {A : Type 0} (step : List A → Part (List A ⊎ List A)) (p : Part A) (More Done : List ℕ →
    Type 0) (is : IsStep step p More Done)
    (Follows : List ℕ → Type 0) (print : A → List ℕ) (Has : A → Type 0)
    (printed : IsPrinted p Follows print Has)
    (begins : (a : A) (rest : List ℕ) → Has a → More (print a ++ rest))
    (next : (a : A) (rest : List ℕ) → Has a → Follows (print a ++ rest)) (end : (rest : List ℕ) →
    Done rest → Follows rest) where
  follows : (items : List A) (rest : List ℕ) → All Has items → Done rest →
      Follows (flat_map print items ++ rest)
  follows [] rest has done = end rest done
  follows (a ∷ items) rest has done =
      subst Follows (sym (append_assoc (print a) (flat_map print items) rest))
      (next a (flat_map print items ++ rest) (All-head Has a items has))

  read : (before items : List A) (rest : List ℕ) → All Has items → Done rest →
      (loop_part step before).Reads (flat_map print items ++ rest) (before ++ items) rest
  read before [] rest has done =
      subst (λ all. (loop_part step before).Reads rest all rest) (sym (append-nil before))
      (last before rest (is.stop before rest done))
  read before (a ∷ items) rest has done =
      let first = All-head Has a items has in
      let others = All-tail Has a items has in
      let behind = flat_map print items ++ rest in
      let more : (loop_part step (before ++ a ∷ [])).Reads behind (before ++ a ∷ items) rest =
      subst (λ all. (loop_part step (before ++ a ∷ [])).Reads behind all rest)
      (append_assoc before (a ∷ []) items)
      (read (before ++ a ∷ []) items rest others done) in
      subst (λ text. (loop_part step before).Reads text (before ++ a ∷ items) rest)
      (sym (append_assoc (print a) (flat_map print items) rest))
      (onward before (print a ++ behind) (before ++ a ∷ []) behind
      (is.on before (print a ++ behind) behind a (begins a behind first)
      (printed.reads a behind first (follows items rest others done))) more)

  -- what was read behind these: what is printed of those that follow
  record Found (before all : List A) (text rest : List ℕ) : Type 0 where
    items : List A
    all_are : all ≡ before ++ items
    has : All Has items
    spelled : text ≡ flat_map print items ++ rest

  found_behind : (all : List A) (rest : List ℕ) (before : List A) (text : List ℕ) →
      (loop_part step before).Reads text all rest →
      Found before all text rest
  found_behind all rest before text (last _ _ h) =
      let p = is.was_last before all text rest h in
      record {
        items = [];
        all_are = p.0 ∙ sym (append-nil before);
        has = All-nil Has;
        spelled =
            p.1;
      }
  found_behind all rest before text (onward _ _ state middle h more) =
      let (a, state_is, one) = is.was_on before state text middle h in
      let found = found_behind all rest state middle more in
      let here = printed.found text middle a one in record {
        items = a ∷ found.items;
        all_are = found.all_are ∙ ap (λ b. b ++ found.items) state_is
            ∙ append_assoc before (a ∷ []) found.items;
        has = All-cons Has a found.items here.1 found.has;
        spelled = here.0 ∙ ap (λ m. print a ++ m) found.spelled
            ∙ sym (append_assoc (print a) (flat_map print found.items) rest);
      }

  list_is_printed : IsPrinted (loop_part step []) Done (flat_map print) (All Has)
  list_is_printed = record {
    reads = λ items rest has done. read [] items rest has done;
    found = λ text rest all h.
        let found = found_behind all rest [] text h in
        let same : found.items ≡ all = sym found.all_are in (
          found.spelled ∙ ap (λ items. flat_map print items ++ rest) same,
          subst
              (All Has) same found.has,
        );
  }

module _ {A : Type 0} (Begins : List ℕ → Type 0) (p : Part A) (Follows : List ℕ → Type 0)
    (print : A → List ℕ) (Has : A → Type 0)
    (printed : IsPrinted p Follows print Has) (next : (a : A) (rest : List ℕ) → Has a →
    Follows (print a ++ rest)) where
  pub while_is_printed : ((a : A) (rest : List ℕ) → Has a → Begins (print a ++ rest)) →
      ((rest : List ℕ) → (Begins rest → ⊥) → Follows rest) →
      IsPrinted (while_part Begins p []) (λ rest. Begins rest → ⊥) (flat_map print) (All Has)
  while_is_printed begins end =
      list_is_printed (next_while Begins p) p Begins (λ rest. Begins rest → ⊥)
      (while_step Begins p) Follows print Has printed begins next end

  pub until_is_printed : ((a : A) (rest : List ℕ) → Has a → Begins (print a ++ rest) → ⊥) →
      ((rest : List ℕ) → Begins rest → Follows rest) →
      IsPrinted (until_part Begins p []) Begins (flat_map print) (All Has)
  until_is_printed begins end =
      list_is_printed (next_until Begins p) p (λ rest. Begins rest → ⊥) Begins
      (until_step Begins p) Follows print Has printed begins next end

-- ---- a part and one behind it

-- a thing of two parts: its first part, and what is printed of what follows it
module _ {A B : Type 0} (p : Part A) (next : A → Part B) (FollowsA FollowsB : List ℕ → Type 0)
    (print : A → List ℕ) (HasA : A → Type 0)
    (HasB : B → Type 0) (first : B → A) (behind : B → List ℕ)
    (printed : IsPrinted p FollowsA print HasA)
    (has : (b : B) → HasB b → HasA (first b))
    (follows : (b : B) (rest : List ℕ) → HasB b → FollowsB rest → FollowsA (behind b ++ rest))
    (reads : (b : B) (rest : List ℕ) → HasB b → FollowsB rest →
    (next (first b)).Reads (behind b ++ rest) b rest)
    (found : (a : A) (text rest : List ℕ) (b : B) → HasA a → (next a).Reads text b rest →
    (text ≡ behind b ++ rest) × (a ≡ first b) × HasB b) where
  pub then_is_printed : IsPrinted (then_part p next) FollowsB
      (λ b. print (first b) ++ behind b) HasB
  then_is_printed = record { reads = read; found = was }
    where
      read : (b : B) (rest : List ℕ) → HasB b → FollowsB rest →
          (then_part p next).Reads ((print (first b) ++ behind b) ++ rest) b rest
      read b rest h f =
          let middle = behind b ++ rest in
          subst (λ text. (then_part p next).Reads text b rest)
          (sym (append_assoc (print (first b)) (behind b) rest)) (
            first b,
            middle,
            printed.reads (first b) middle (has b h)
                (follows b rest h f),
            reads b rest h f,
          )

      was : (text rest : List ℕ) (b : B) → (then_part p next).Reads text b rest →
          (text ≡ (print (first b) ++ behind b) ++ rest) × HasB b
      was text rest b (a, middle, h, k) =
          let one = printed.found text middle a h in
          let more = found a middle rest b one.1 k in (
            one.0 ∙ ap (λ c. print c ++ middle) more.1 ∙ ap (λ m. print (first b) ++ m) more.0
                ∙ sym (append_assoc (print (first b)) (behind b) rest),
            more.2,
          )

-- ---- so many things

pub times_part_is_exact : {A : Type 0} (p : Part A) → IsExactPart p.Reads p.Faults →
    (n : ℕ) (items : List A) →
    IsExactPart (times_part p n items).Reads (times_part p n items).Faults
times_part_is_exact p exact zero items = empty_part_is_exact items
times_part_is_exact p exact (suc n) items =
    then_part_is_exact p (λ a. times_part p n (items ++ a ∷ [])) exact
    (λ a. times_part_is_exact p exact n (items ++ a ∷ []))

module _ {A : Type 0} (p : Part A) (print : A → List ℕ) (Has : A → Type 0)
    (printed : IsPrinted p (λ rest. Unit {0}) print Has) where
  times_read : (n : ℕ) (before items : List A) (rest : List ℕ) → length items ≡ n → All Has items →
      (times_part p n before).Reads (flat_map print items ++ rest) (before ++ items) rest
  times_read zero before [] rest e has = (append-nil before, refl)
  times_read zero before (a ∷ items) rest e has = absurd (omega (arith, e))
  times_read (suc n) before [] rest e has = absurd (omega (arith, e))
  times_read (suc n) before (a ∷ items) rest e has =
      let behind = flat_map print items ++ rest in
      let more = times_read n (before ++ a ∷ []) items rest (omega (arith, e))
      (All-tail Has a items has) in
      subst (λ text. (times_part p (suc n) before).Reads text (before ++ a ∷ items) rest)
      (sym (append_assoc (print a) (flat_map print items) rest)) (
        a,
        behind,
        printed.reads a behind (All-head Has a items has) tt,
        subst (λ all. (times_part p n (before ++ a ∷ [])).Reads behind all rest)
            (append_assoc before (a ∷ []) items) more,
      )

  times_found : (n : ℕ) (before all : List A) (text rest : List ℕ) →
      (times_part p n before).Reads text all rest →
      (items : List A) × (all ≡ before ++ items) × (length items ≡ n) × All Has items
      × (text ≡ flat_map print items ++ rest)
  times_found zero before all text rest (e, same) =
      ([], e ∙ sym (append-nil before), refl, All-nil Has, same)
  times_found (suc n) before all text rest (a, middle, one, more) =
      let (items, all_are, long, has, spelled) =
      times_found n (before ++ a ∷ []) all middle rest more in
      let here = printed.found text middle a one in (
        a ∷ items,
        all_are ∙ append_assoc before (a ∷ []) items,
        omega (arith, long),
        All-cons Has a items here.1 has,
        here.0 ∙ ap (λ m. print a ++ m) spelled
            ∙ sym (append_assoc (print a) (flat_map print items) rest),
      )

  pub times_is_printed : (n : ℕ) →
      IsPrinted (times_part p n []) (λ rest. Unit {0}) (flat_map print)
      (λ items. (length items ≡ n) × All Has items)
  times_is_printed n = record {
    reads = λ items rest has t. times_read n [] items rest has.0 has.1;
    found = λ text rest all h.
        let (items, all_are, long, has, spelled) = times_found n [] all text rest h in
        let same : items ≡ all = sym all_are in (
          spelled ∙ ap (λ is. flat_map print is ++ rest) same,
          subst
              (λ is. (length is ≡ n) × All Has is) same (long, has),
        );
  }
