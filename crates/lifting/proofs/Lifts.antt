-- A pass of simultaneous changes: what it leaves, how it is undone, what it cannot reach, and how it is done in place. Assumes nothing.
use Rattle.std.proofs.Common.{◌≡◌, ℕ, ◌<◌, ◌≤◌, Bool, true, false, List, length, get_or, set, Some, None, Option, sym, refl, ap, ◌∙◌, subst, ap₂, inl, inr, arith, length-set, get_or-set_other, get_or-set_same}
use Rattle.std.proofs.lemmas.List.FromFn.{length-map-range_with_len, get_or-map-range_with_len}
use Rattle.std.proofs.lemmas.List.{get_or_past, ext_get_or}
use Rattle.std.proofs.lemmas.Bool.{cases_Bool, cases_lt, both_ways}
use Rattle.samples.specs.Steps.{EndHeld}
use Rattle.lifting.specs.Passes.{Pass, end_at, lifted_at, lifted}
use Rattle.lifting.specs.Runs.{Come}

-- an end of a target is no target
pub record Apart (p : Pass) : Type 0 where
  pub firsts : (k e : ℕ) → p.target k ≡ true → p.first k ≡ Some e → p.target e ≡ false
  pub seconds : (k e : ℕ) → p.target k ≡ true → p.second k ≡ Some e → p.target e ≡ false

-- the ends of the targets in a set of places are in it too
pub record Within (on : ℕ → Bool) (p : Pass) : Type 0 where
  pub firsts : (k e : ℕ) → on k ≡ true → p.target k ≡ true → p.first k ≡ Some e → on e ≡ true
  pub seconds : (k e : ℕ) → on k ≡ true → p.target k ≡ true → p.second k ≡ Some e → on e ≡ true

module _ {K : Type 0} (z : K) where
  pub end_same : (xs ys : List K) (o : Option ℕ) → ((e : ℕ) → o ≡ Some e → get_or xs e z ≡ get_or ys e z) → end_at z xs o ≡ end_at z ys o
  end_same xs ys None h = refl
  end_same xs ys (Some e) h = ap {B = Option K} Some (h e refl)

  module _ (op : K → K → K) (amount : Option K → Option K → K) (p : Pass) where
    pub length_lifted : (xs : List K) → length (lifted z op amount p xs) ≡ length xs
    unfolding lifted
    length_lifted xs = length-map-range_with_len (lifted_at z op amount p xs) 0 (length xs)

    lifted_is : (xs : List K) (k : ℕ) → k < length xs → get_or (lifted z op amount p xs) k z ≡ lifted_at z op amount p xs k
    unfolding lifted
    lifted_is xs k h = get_or-map-range_with_len (lifted_at z op amount p xs) 0 (length xs) k k z h (omega arith)

    pub at_target : (xs : List K) (k : ℕ) → k < length xs → p.target k ≡ true → get_or (lifted z op amount p xs) k z ≡ op (get_or xs k z) (amount (end_at z xs (p.first k)) (end_at z xs (p.second k)))
    unfolding lifted_at
    at_target xs k h t = lifted_is xs k h ∙ rw t

    past : (xs : List K) (k : ℕ) → length xs ≤ k → get_or (lifted z op amount p xs) k z ≡ get_or xs k z
    past xs k h = get_or_past _ k z (rw length_lifted h) ∙ sym (get_or_past xs k z h)

    pub at_other : (xs : List K) (k : ℕ) → p.target k ≡ false → get_or (lifted z op amount p xs) k z ≡ get_or xs k z
    unfolding lifted_at
    at_other xs k t = let here = lifted_is xs k in let far = past xs k in grind arith

  -- planes that agree on a set of places still do after a pass whose ends keep to it
  pub lifted_local : (op : K → K → K) (amount : Option K → Option K → K) (p : Pass) (on : ℕ → Bool) (xs ys : List K) →
      length xs ≡ length ys → Within on p → ((k : ℕ) → on k ≡ true → get_or xs k z ≡ get_or ys k z) →
      (k : ℕ) → on k ≡ true → get_or (lifted z op amount p xs) k z ≡ get_or (lifted z op amount p ys) k z
  lifted_local op amount p on xs ys long within same k o =
      elim (cases_lt k (length xs)) [
        | inr h ↦ past op amount p xs k h ∙ same k o ∙ sym (past op amount p ys k (rw (← long) h))
        | inl h ↦ elim (cases_Bool (p.target k)) [
          | inr t ↦ at_other op amount p xs k t ∙ same k o ∙ sym (at_other op amount p ys k t)
          | inl t ↦ at_target op amount p xs k h t
              ∙ ap₂ op (same k o) (ap₂ amount
              (end_same xs ys (p.first k) (λ e i. same e (within.firsts k e o t i)))
              (end_same xs ys (p.second k) (λ e i. same e (within.seconds k e o t i))))
              ∙ sym (at_target op amount p ys k (rw (← long) h) t)
        ]
      ]

  module _ (op : K → K → K) (amount : Option K → Option K → K) (p : Pass) (xs : List K) where
    pub come_none : (done : ℕ → Bool) → ((k : ℕ) → p.target k ≡ true → done k ≡ false) → Come z op amount p xs done xs
    come_none done none = record { long = refl; after = λ k t d. absurd (both_ways (done k) (none k t) d); before = λ k t d. refl; other = λ k t. refl }

    -- only what `done` says of targets counts
    pub come_same : (done more : ℕ → Bool) (ys : List K) → ((k : ℕ) → p.target k ≡ true → more k ≡ done k) → Come z op amount p xs done ys → Come z op amount p xs more ys
    come_same done more ys same c = record {
      long = c.long;
      after = λ k t d. c.after k t (sym (same k t) ∙ d);
      before = λ k t d. c.before k t (sym (same k t) ∙ d);
      other = c.other;
    }

    pub come_all : (done : ℕ → Bool) (ys : List K) → ((k : ℕ) → k < length xs → p.target k ≡ true → done k ≡ true) → Come z op amount p xs done ys → ys ≡ lifted z op amount p xs
    come_all done ys all c =
        ext_get_or z ys _ (c.long ∙ sym (length_lifted op amount p xs)) (λ k h.
        elim (cases_Bool (p.target k)) [
          | inl t ↦ c.after k t (all k (subst (λ (n : ℕ). k < n) c.long h) t)
          | inr t ↦ c.other k t ∙ sym (at_other op amount p xs k t)
        ])

    -- one target more
    pub come_one : (done more : ℕ → Bool) (ys : List K) (k : ℕ) (v : K) → Apart p → k < length xs → p.target k ≡ true → done k ≡ false → more k ≡ true →
        ((j : ℕ) → (j ≡ k → ⊥) → p.target j ≡ true → more j ≡ done j) →
        v ≡ op (get_or ys k z) (amount (end_at z ys (p.first k)) (end_at z ys (p.second k))) →
        Come z op amount p xs done ys → Come z op amount p xs more (set ys k v)
    come_one done more ys k v far h t fresh now same is c =
        let lt : k < length ys = subst (λ (n : ℕ). k < n) (sym c.long) h in
        let new : v ≡ get_or (lifted z op amount p xs) k z = is
        ∙ ap₂ op (c.before k t fresh) (ap₂ amount
        (end_same ys xs (p.first k) (λ e o. c.other e (far.firsts k e t o)))
        (end_same ys xs (p.second k) (λ e o. c.other e (far.seconds k e t o))))
        ∙ sym (at_target op amount p xs k h t) in
        record {
          long = length-set ys k v ∙ c.long;
          after = λ j u d. let o = get_or-set_other ys k j v z in let e = same j in let w = c.after j u in let i = get_or-set_same ys k v z lt in grind arith;
          before = λ j u d. let o = get_or-set_other ys k j v z in let e = same j in let w = c.before j u in grind arith;
          other = λ j u. let o = get_or-set_other ys k j v z in let w = c.other j u in grind arith;
        }

  module _ (held : K → Bool) where
    abbrev pub Held : List K → Type 0
    Held xs = (k : ℕ) → held (get_or xs k z) ≡ true

    abbrev pub KeepsHeld : (Option K → Option K → K) → Type 0
    KeepsHeld amount = (a b : Option K) → EndHeld held a → EndHeld held b → held (amount a b) ≡ true

    end_held : (xs : List K) (o : Option ℕ) → Held xs → EndHeld held (end_at z xs o)
    end_held xs None h = tt
    end_held xs (Some e) h = h e

    amount_held : (amount : Option K → Option K → K) → KeepsHeld amount → (p : Pass) (xs : List K) → Held xs → (k : ℕ) → held (amount (end_at z xs (p.first k)) (end_at z xs (p.second k))) ≡ true
    amount_held amount keeps p xs hold k = keeps _ _ (end_held xs (p.first k) hold) (end_held xs (p.second k) hold)

    pub lifted_held : (op : K → K → K) (amount : Option K → Option K → K) (p : Pass) (xs : List K) →
        ((a b : K) → held a ≡ true → held b ≡ true → held (op a b) ≡ true) → KeepsHeld amount → Held xs → Held (lifted z op amount p xs)
    lifted_held op amount p xs closed keeps hold k =
        let far = past op amount p xs k in
        let other = at_other op amount p xs k in
        let target = at_target op amount p xs k in
        let had = hold k in
        let new = closed _ _ (hold k) (amount_held amount keeps p xs hold k) in
        grind arith

    -- a pass is undone by the same pass with the undoing operation
    pub lifted_undone : (op undo : K → K → K) (amount : Option K → Option K → K) (p : Pass) (xs : List K) →
        ((a b : K) → held a ≡ true → held b ≡ true → undo (op a b) b ≡ a) → KeepsHeld amount → Apart p → Held xs →
        lifted z undo amount p (lifted z op amount p xs) ≡ xs
    lifted_undone op undo amount p xs undoes keeps far hold =
        let ys = lifted z op amount p xs in
        let long : length ys ≡ length xs = length_lifted op amount p xs in
        sym (ext_get_or z xs _ (sym (length_lifted undo amount p ys ∙ long)) (λ k h.
        elim (cases_Bool (p.target k)) [
          | inr t ↦ sym (at_other undo amount p ys k t ∙ at_other op amount p xs k t)
          | inl t ↦ sym (at_target undo amount p ys k (rw long h) t
              ∙ ap₂ undo (at_target op amount p xs k h t) (ap₂ amount
              (end_same ys xs (p.first k) (λ e i. at_other op amount p xs e (far.firsts k e t i)))
              (end_same ys xs (p.second k) (λ e i. at_other op amount p xs e (far.seconds k e t i))))
              ∙ undoes _ _ (hold k) (amount_held amount keeps p xs hold k))
        ]))
