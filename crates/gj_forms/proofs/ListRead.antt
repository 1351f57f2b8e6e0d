-- Lists of things, read one after another.
use Rattle.std.proofs.Common.{◌≡◌, ◌⊎◌, inl, inr, ℕ, zero, suc, ◌+◌, ◌-◌, ◌<◌, ◌≤◌, List, [], ◌∷◌, ◌++◌, refl, sym, ap, subst, ◌∙◌, arith}
use Rattle.gj_forms.specs.declared.fault.PartFault.{PartFault}
use Rattle.gj_forms.specs.Parts.{Part, empty_part, IsFaultOf}
use Rattle.gj_forms.proofs.PartLaws.{fault_in_first, fault_in_next, fault_in_made}
use Rattle.gj_forms.proofs.LoopRead.{LeadsOn, leads_on, leads_to_end, leads_to_fault}
use Rattle.gj_forms.proofs.WhereLaws.{fault_where, fault_else}
use Rattle.gj_forms.specs.ListParts.{IsPrinted, one_more, next_while, while_part, next_until, until_part, times_part}

module _ {A : Type 0} (p : Part A) where
  abbrev makes_more : List A → A → List A ⊎ List A → Type 0
  makes_more items a next = next ≡ inl (items ++ a ∷ [])

  -- ---- as long as the text begins so, or up to where it does

  module _ (Begins : List ℕ → Type 0) (text rest : List ℕ) (items : List A) where
    pub while_on : (behind : List ℕ) (new : List A) (a : A) →
        LeadsOn (next_while Begins p) [] text items rest → Begins rest →
        p.Reads rest a behind → new ≡ items ++ a ∷ [] →
        LeadsOn (next_while Begins p) [] text new behind
    while_on behind new a h is one new_is =
        subst (λ (all : List A). LeadsOn (next_while Begins p) [] text all behind) (sym new_is)
        (leads_on (next_while Begins p) [] text items (items ++ a ∷ []) rest behind h
        (inl (is, (a, one, refl))))

    pub while_end : LeadsOn (next_while Begins p) [] text items rest → (Begins rest → ⊥) →
        (while_part Begins p []).Reads text items rest
    while_end h not = leads_to_end (next_while Begins p) [] text items rest items rest h
        (inr (not, (refl, refl)))

    pub while_at_fault : (e : PartFault) → LeadsOn (next_while Begins p) [] text items rest →
        Begins rest → IsFaultOf p rest e →
        IsFaultOf (while_part Begins p []) text e
    while_at_fault e h is fault =
        leads_to_fault (next_while Begins p) [] text items rest e h
        (fault_where Begins (one_more p items) (empty_part (inr items)) rest e is
        (fault_in_made (makes_more items) p rest e fault))

    pub until_on : (behind : List ℕ) (new : List A) (a : A) →
        LeadsOn (next_until Begins p) [] text items rest → (Begins rest → ⊥) →
        p.Reads rest a behind → new ≡ items ++ a ∷ [] →
        LeadsOn (next_until Begins p) [] text new behind
    until_on behind new a h not one new_is =
        subst (λ (all : List A). LeadsOn (next_until Begins p) [] text all behind) (sym new_is)
        (leads_on (next_until Begins p) [] text items (items ++ a ∷ []) rest behind h
        (inr (not, (a, one, refl))))

    pub until_end : LeadsOn (next_until Begins p) [] text items rest → Begins rest →
        (until_part Begins p []).Reads text items rest
    until_end h is = leads_to_end (next_until Begins p) [] text items rest items rest h
        (inl (is, (refl, refl)))

    pub until_at_fault : (e : PartFault) → LeadsOn (next_until Begins p) [] text items rest →
        (Begins rest → ⊥) → IsFaultOf p rest e →
        IsFaultOf (until_part Begins p []) text e
    until_at_fault e h not fault =
        leads_to_fault (next_until Begins p) [] text items rest e h
        (fault_else Begins (empty_part (inr items)) (one_more p items) rest e not
        (fault_in_made (makes_more items) p rest e fault))

  -- ---- so many times

  -- so many are left behind these: what they read of the rest, all read of the text, and so their
  -- faults
  pub record LeavesTimes (n i : ℕ) (text rest : List ℕ) (items : List A) : Type 0 where
    pub reads : (all : List A) (end : List ℕ) → (times_part p (n - i) items).Reads rest all end →
        (times_part p n []).Reads text all end
    pub faults : (e : PartFault) → IsFaultOf (times_part p (n - i) items) rest e →
        IsFaultOf (times_part p n []) text e

  pub times_begin : (n : ℕ) (text : List ℕ) → LeavesTimes n 0 text text []
  times_begin n text =
      let e : n - 0 ≡ n = omega arith in record {
        reads = λ all end h. subst (λ (m : ℕ). (times_part p m []).Reads text all end) e h;
        faults = λ f h. subst (λ (m : ℕ). IsFaultOf (times_part p m []) text f) e h;
      }

  pub times_end : (n i : ℕ) (text rest : List ℕ) (items : List A) →
      LeavesTimes n i text rest items → n ≤ i →
      (times_part p n []).Reads text items rest
  times_end n i text rest items h over =
      let e : zero ≡ n - i = omega arith in
      h.reads items rest (subst (λ (m : ℕ). (times_part p m items).Reads rest items rest) e
      (refl, refl))

  module _ (n i : ℕ) (text rest : List ℕ) (items : List A) (h : LeavesTimes n i text rest items)
      (below : i < n) where
    next_is : suc (n - (i + 1)) ≡ n - i
    next_is = omega arith

    pub times_on : (behind : List ℕ) (new : List A) (a : A) → p.Reads rest a behind →
        new ≡ items ++ a ∷ [] →
        LeavesTimes n (i + 1) text behind new
    times_on behind new a one new_is =
        subst (λ (all : List A). LeavesTimes n (i + 1) text behind all) (sym new_is) (record {
          reads = λ all end k. h.reads all end
              (subst (λ (m : ℕ). (times_part p m items).Reads rest all end) next_is
              (a, behind, one, k));
          faults = λ e k. h.faults e
              (subst (λ (m : ℕ). IsFaultOf (times_part p m items) rest e) next_is
              (fault_in_next p (λ b. times_part p (n - (i + 1)) (items ++ b ∷ [])) rest a behind e
              one k));
        })

    pub times_at_fault : (e : PartFault) → IsFaultOf p rest e → IsFaultOf (times_part p n []) text e
    times_at_fault e fault =
        h.faults e (subst (λ (m : ℕ). IsFaultOf (times_part p m items) rest e) next_is
        (fault_in_first p (λ b. times_part p (n - (i + 1)) (items ++ b ∷ [])) rest e fault))

  -- ---- printed another way

  pub printed_as : (Follows : List ℕ → Type 0) (print other : A → List ℕ) (Has : A → Type 0) →
      IsPrinted p Follows print Has →
      ((a : A) → print a ≡ other a) → IsPrinted p Follows other Has
  printed_as Follows print other Has h same = record {
    reads = λ a rest has f. subst (λ t. p.Reads (t ++ rest) a rest) (same a) (h.reads a rest has f);
    found = λ text rest a k.
        let found = h.found text rest a k in (found.0 ∙ ap (λ t. t ++ rest) (same a), found.1);
  }
