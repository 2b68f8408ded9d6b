-- Which call the words of a line say. Assumes nothing.
use Rattle.std.specs.Prelude.{◌≡◌, ℕ, ◌<◌, List, length, drop, ℤ, Some, None, codes, Option}
use Rattle.geometry.specs.declared.point.Point.{Point}
use Rattle.tiles.specs.declared.call.Call.{Call}
use Rattle.tiles.specs.declared.call.Call.TheVariants.{Put, Read, Begin, Down, Up, Finish}
use Rattle.commands.specs.Words.{Words, text, Unsigned, Signed}

-- the first word of a call
abbrev pub verb : Call ℤ → List ℕ
verb (Put p v) = codes "put"
verb (Read p) = codes "read"
verb Begin = codes "begin"
verb Down = codes "down"
verb Up = codes "up"
verb Finish = codes "finish"

-- two texts write a point
abbrev pub WritesPoint : List ℕ → List ℕ → Point → Type 0
WritesPoint x y p = Unsigned x p.x × Unsigned y p.y

-- the words after the first write the values of a call, and there are no more of them
abbrev pub Values : Words → Call ℤ → Type 0
Values ws (Put p v) = (length ws ≡ 3) × WritesPoint (text ws 0) (text ws 1) p × Signed (text ws 2) v
Values ws (Read p) = (length ws ≡ 2) × WritesPoint (text ws 0) (text ws 1) p
Values ws Begin = length ws ≡ 0
Values ws Down = length ws ≡ 0
Values ws Up = length ws ≡ 0
Values ws Finish = length ws ≡ 0

-- the words are those of a call
pub record Writes (ws : Words) (c : Call ℤ) : Type 0 where
  pub some : 0 < length ws
  pub verb : text ws 0 ≡ verb c
  pub values : Values (drop 1 ws) c

-- the answer for some words: the call that they are the words of, or none where they are those of no call
abbrev pub Said : Words → Option (Call ℤ) → Type 0
Said ws (Some c) = Writes ws c
Said ws None = (c : Call ℤ) → Writes ws c → ⊥

-- the same for the words after a verb
abbrev pub SaidAfter : List ℕ → Words → Option (Call ℤ) → Type 0
SaidAfter v ws (Some c) = (verb c ≡ v) × Values ws c
SaidAfter v ws None = (c : Call ℤ) → verb c ≡ v → Values ws c → ⊥
