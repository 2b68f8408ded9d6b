-- The words of a command line after the first. Assumes nothing.
use Rattle.std.proofs.Common.{◌≡◌, ℕ, ◌-◌, ◌<◌, List, [], length, take, drop, refl, ◌∙◌, arith, length-drop, Bor}
use Rattle.std.proofs.lemmas.List.{get_or-drop, get_or_default, take_all}
use Rattle.commands.specs.declared.arguments.Action.TheVariants.{Check as ForCheck}
use Rattle.commands.specs.declared.arguments.Usage.{Usage}
use Rattle.commands.specs.declared.arguments.Usage.TheVariants.{NoCommand, OtherCommand, NoScript, NoPlate, NoLevels, OtherFlag, NoValue, NotNumber}
use Rattle.commands.specs.Words.{Words, word}
use Rattle.commands.specs.Commands.{First, Unplated}
use Rattle.rufkandu.specs.Commands.{Begins, HasPlate, FaultOf}

pub rest : (ws : Words) → 0 < length ws → take (length ws - 1) (drop 1 ws) ≡ drop 1 ws
rest ws some = take_all (length ws - 1) (drop 1 ws) (simp length-drop (omega arith))

-- the first of the words after `check` is the plate
pub plate : (ws : Words) (p : Bor (List ℕ)) → Begins ws → First (drop 1 ws) p → HasPlate ws p
plate ws p begins first =
    let left : length (drop 1 ws) ≡ length ws - 1 = length-drop 1 ws in
    let there : 1 < length ws = omega (arith, left, first.there) in
    let none : Bor (List ℕ) = record { ref_ptr = (0, 0); now = [] } in
    (begins, record { there = there; is = first.is ∙ get_or-drop 1 ws 0 none ∙ get_or_default ws 1 none p there })

some_plate : (ws : Words) → Begins ws → 0 < length (drop 1 ws) → (p : Bor (List ℕ)) × HasPlate ws p
some_plate ws begins there = (word (drop 1 ws) 0, plate ws (word (drop 1 ws) 0) begins (record { there = there; is = refl }))

pub faulty : (ws : Words) (u : Usage) → Begins ws → Unplated ForCheck (drop 1 ws) u → FaultOf ws u
faulty ws NoCommand begins bad = absurd bad
faulty ws (OtherCommand w) begins bad = absurd bad
faulty ws NoScript begins bad = bad
faulty ws NoPlate begins bad = let left : length (drop 1 ws) ≡ length ws - 1 = length-drop 1 ws in (begins, omega (arith, left, bad, begins.1.there))
faulty ws NoLevels begins bad = some_plate ws begins bad.0
faulty ws (OtherFlag w) begins bad = some_plate ws begins bad.0
faulty ws (NoValue w) begins bad = some_plate ws begins bad.0
faulty ws (NotNumber f w) begins bad = some_plate ws begins bad.0
