-- What a call that may refuse answers: a value, or the number of a fault. Assumes nothing.
use Rattle.std.specs.Prelude.{ℕ, Bool, cond}

pub data Answer (X : Type 0) : Type 0 where
  accepted : X → Answer X
  refused : ℕ → Answer X

abbrev pub refuse_if : {X : Type 0} → Bool → ℕ → Answer X → Answer X
refuse_if stop why next = cond stop (refused why) next
