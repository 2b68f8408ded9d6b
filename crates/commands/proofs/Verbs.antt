-- The words of calls. Assumes nothing.
use Rattle.std.proofs.Common.{◌≡◌, ℕ, ◌-◌, ◌<◌, List, length, get_or, take, drop, ℤ, codes, ap, arith, length-drop}
use Rattle.std.proofs.lemmas.List.{take_all}
use Rattle.geometry.specs.declared.point.Point.{Point}
use Rattle.tiles.specs.declared.call.Call.{Call}
use Rattle.tiles.specs.declared.call.Call.TheVariants.{Put, Read, Begin, Down, Up, Finish}
use Rattle.commands.specs.Words.{Words, text}
use Rattle.commands.specs.Scripts.{verb, WritesPoint, Values}

-- verbs are told apart by their first letters
first : {a b : List ℕ} → a ≡ b → get_or a 0 0 ≡ get_or b 0 0
first e = ap (λ (bs : List ℕ). get_or bs 0 0) e

-- no put and no read where two texts write no point
pub no_put : (ws : Words) → ((p : Point) → WritesPoint (text ws 0) (text ws 1) p → ⊥) → (c : Call ℤ) → verb c ≡ codes "put" → Values ws c → ⊥
no_put ws none (Put p v) e values = none p values.1
no_put ws none (Read p) e values = omega (arith, first e)
no_put ws none Begin e values = omega (arith, first e)
no_put ws none Down e values = omega (arith, first e)
no_put ws none Up e values = omega (arith, first e)
no_put ws none Finish e values = omega (arith, first e)

pub no_read : (ws : Words) → ((p : Point) → WritesPoint (text ws 0) (text ws 1) p → ⊥) → (c : Call ℤ) → verb c ≡ codes "read" → Values ws c → ⊥
no_read ws none (Put p v) e values = omega (arith, first e)
no_read ws none (Read p) e values = none p values.1
no_read ws none Begin e values = omega (arith, first e)
no_read ws none Down e values = omega (arith, first e)
no_read ws none Up e values = omega (arith, first e)
no_read ws none Finish e values = omega (arith, first e)

-- the words after the first
pub rest : (ws : Words) → 0 < length ws → take (length ws - 1) (drop 1 ws) ≡ drop 1 ws
rest ws some = take_all (length ws - 1) (drop 1 ws) (simp length-drop (omega arith))
