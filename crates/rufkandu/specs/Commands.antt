-- What is said of the words of a command line. Assumes nothing.
use Rattle.std.specs.Prelude.{◌≡◌, ℕ, ◌<◌, ◌⊎◌, List, length, drop, Ok, Err, codes, Result, ◌≢◌, slice_index_or}
use Rattle.std.specs.Borrow.{Bor}
use Rattle.tiles.specs.declared.state.State.{State}
use Rattle.commands.specs.declared.arguments.Action.TheVariants.{Check as ForCheck}
use Rattle.commands.specs.declared.arguments.Job.{Job}
use Rattle.commands.specs.declared.arguments.Usage.{Usage}
use Rattle.commands.specs.declared.arguments.Usage.TheVariants.{NoCommand, OtherCommand, NoScript, NoPlate, NoLevels, OtherFlag, NoValue, NotNumber}
use Rattle.commands.specs.Words.{Words}
use Rattle.commands.specs.Commands.{Plated, Unplated}

-- w is word k
pub record IsWord (ws : Words) (k : ℕ) (w : Bor (List ℕ)) : Type 0 where
  pub there : k < length ws
  pub is : w ≡ slice_index_or ws k w

-- the words begin with `check`
abbrev pub Begins : Words → Type 0
Begins ws = (w : Bor (List ℕ)) × IsWord ws 0 w × (w.now ≡ codes "check")

-- the words begin with `check` and a plate
abbrev pub HasPlate : Words → Bor (List ℕ) → Type 0
HasPlate ws p = Begins ws × IsWord ws 1 p

-- what a fault tells of the words; no script is ever missing
abbrev pub FaultOf : Words → Usage → Type 0
FaultOf ws NoCommand = length ws ≡ 0
FaultOf ws (OtherCommand w) = IsWord ws 0 w × (w.now ≢ codes "check")
FaultOf ws NoScript = ⊥
FaultOf ws NoPlate = Begins ws × (length ws ≡ 1)
FaultOf ws NoLevels = (p : Bor (List ℕ)) × HasPlate ws p
FaultOf ws (OtherFlag w) = (p : Bor (List ℕ)) × HasPlate ws p
FaultOf ws (NoValue w) = (p : Bor (List ℕ)) × HasPlate ws p
FaultOf ws (NotNumber f w) = (p : Bor (List ℕ)) × HasPlate ws p

-- what the answer tells of the words
abbrev pub ParseOf : Words → Result Job Usage → Type 0
ParseOf ws (Ok job) = HasPlate ws job.plate
ParseOf ws (Err u) = FaultOf ws u

-- the words after the first are a plate and its flags, which the job has; or what is wrong with them
abbrev pub CheckOf : Words → Result Job Usage → Type 0
CheckOf ws (Ok job) = (w : State) × Plated ForCheck (drop 1 ws) job w
CheckOf ws (Err u) = (Begins ws → ⊥) ⊎ Unplated ForCheck (drop 1 ws) u
