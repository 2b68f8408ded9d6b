-- The refusals: their numbers, their order, and what a call answers. Assumes nothing.
use Rattle.std.specs.Prelude.{ℕ, Bool, false, cond, List, [], ◌∷◌, Ok, Err, Result, ◌==◌}
use Rattle.geometry.specs.declared.refusal.Refusal.{Refusal}
use Rattle.geometry.specs.declared.refusal.Refusal.TheVariants.{EmptySide, TooLarge, TooManyLevels, WrongLength, NoSpan, BadMark, NoHalf, AlreadyMarked, Outside, WrongStage, OtherFrame, CutShort, WrongCount, NotRising, WrongKind, NoRoom}

abbrev pub number : Refusal → ℕ
number EmptySide = 1
number TooLarge = 2
number TooManyLevels = 3
number WrongLength = 4
number NoSpan = 5
number BadMark = 6
number NoHalf = 7
number AlreadyMarked = 8
number Outside = 9
number WrongStage = 10
number OtherFrame = 11
number CutShort = 12
number WrongCount = 13
number NotRising = 14
number WrongKind = 15
number NoRoom = 16

-- where several refusals apply to a call, the one that stands first in this list is given
abbrev pub order : List Refusal
order =
    EmptySide ∷ TooLarge ∷ TooManyLevels ∷ WrongLength ∷ NoSpan ∷ BadMark ∷ NoHalf ∷ AlreadyMarked ∷ Outside ∷ WrongStage ∷ OtherFrame
    ∷ CutShort ∷ WrongCount ∷ NotRising ∷ WrongKind ∷ NoRoom ∷ []

-- what a call answers: a value, or the number of a refusal
pub data Answer (X : Type 0) : Type 0 where
  accepted : X → Answer X
  refused : ℕ → Answer X

-- a refusal, and whether it applies to a call
abbrev pub Case : Type 0
Case = Refusal × Bool

-- whether the cases of a call, which name a refusal at most once, say that it applies
abbrev pub applies : Refusal → List Case → Bool
applies e [] = false
applies e (c ∷ cs) = cond (number e == number c.0) c.1 (applies e cs)

-- the first refusal of a list that applies, else the value
abbrev pub first_of : {X : Type 0} → List Refusal → List Case → X → Answer X
first_of [] cs x = accepted x
first_of (e ∷ es) cs x = cond (applies e cs) (refused (number e)) (first_of es cs x)

-- the answer of a call with these cases: the value x, unless one of them applies
abbrev pub unless : {X : Type 0} → List Case → X → Answer X
unless cs x = first_of order cs x

-- the answer that a Result of the code stands for, its value seen by `see`
abbrev pub seen : {X Y : Type 0} → (X → Y) → Result X Refusal → Answer Y
seen see (Ok x) = accepted (see x)
seen see (Err e) = refused (number e)
