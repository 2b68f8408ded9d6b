-- What is said of the words of a command line. Assumes nothing.
use Rattle.std.specs.Prelude.{◌≡◌, ℕ, zero, suc, ◌<◌, ◌⊎◌, List, length, drop, Some, None, Ok, Err, codes, Result, ◌≢◌}
use Rattle.tiles.specs.declared.state.State.{State}
use Rattle.tiles.specs.declared.state.State.TheVariants.{Picture, Bands}
use Rattle.commands.specs.declared.arguments.Action.{Action}
use Rattle.commands.specs.declared.arguments.Action.TheVariants.{Check as ForCheck, Replay as ForReplay}
use Rattle.commands.specs.declared.arguments.Command.{Command}
use Rattle.commands.specs.declared.arguments.Command.TheVariants.{Check, Replay as Play}
use Rattle.commands.specs.declared.arguments.Flags.{Flags}
use Rattle.commands.specs.declared.arguments.Job.{Job}
use Rattle.commands.specs.declared.arguments.Replay.{Replay}
use Rattle.commands.specs.declared.arguments.Usage.{Usage}
use Rattle.commands.specs.declared.arguments.Usage.TheVariants.{NoCommand, OtherCommand, NoScript, NoPlate, NoLevels, OtherFlag, NoValue, NotNumber}
use Rattle.commands.specs.Words.{Word, Words, word, text, Unsigned}

-- w is the first of the words
pub record First (ws : Words) (w : Word) : Type 0 where
  pub there : 0 < length ws
  pub is : w ≡ word ws 0

-- the first of the words is the number n; it is none
pub record Number (ws : Words) (n : ℕ) : Type 0 where
  pub there : 0 < length ws
  pub writes : Unsigned (text ws 0) n

pub record NoNumber (ws : Words) (w : Word) : Type 0 where
  pub first : First ws w
  pub none : (n : ℕ) → Unsigned w.now n → ⊥

-- what the flags say where there are none
abbrev pub no_flags : Flags
no_flags = record { labels = None; levels = None; at = record { x = 0; y = 0 }; opening = Picture }

-- a flag and its values, which the words ws begin with: what f says becomes g, and more are the words after the values.
-- `--bands` is a flag only of a replay
pub data Flag (action : Action) (flag : List ℕ) (ws : Words) (f g : Flags) (more : Words) : Type 0 where
  flag_levels : flag ≡ codes "--levels" → (n : ℕ) → Number ws n → g ≡ record { labels = f.labels; levels = Some n; at = f.at; opening = f.opening } →
      more ≡ drop 1 ws → Flag action flag ws f g more
  flag_labels : flag ≡ codes "--labels" → (w : Word) → First ws w → g ≡ record { labels = Some w; levels = f.levels; at = f.at; opening = f.opening } →
      more ≡ drop 1 ws → Flag action flag ws f g more
  flag_at : flag ≡ codes "--at" → (x y : ℕ) → Number ws x → Number (drop 1 ws) y → g ≡ record { labels = f.labels; levels = f.levels; at = record { x = x; y = y }; opening = f.opening } →
      more ≡ drop 1 (drop 1 ws) → Flag action flag ws f g more
  flag_bands : action ≡ ForReplay → flag ≡ codes "--bands" → g ≡ record { labels = f.labels; levels = f.levels; at = f.at; opening = Bands } →
      more ≡ ws → Flag action flag ws f g more

-- which flags take a value, and which a number
abbrev pub Valued : List ℕ → Type 0
Valued flag = (flag ≡ codes "--levels") ⊎ ((flag ≡ codes "--labels") ⊎ (flag ≡ codes "--at"))

abbrev pub Counted : List ℕ → Type 0
Counted flag = (flag ≡ codes "--levels") ⊎ (flag ≡ codes "--at")

-- what is wrong with a flag, or with the words ws after it
pub data BadFlag (action : Action) (flag : Word) (ws : Words) (u : Usage) : Type 0 where
  unknown : u ≡ OtherFlag flag → (Valued flag.now → ⊥) → (action ≡ ForReplay → flag.now ≢ codes "--bands") → BadFlag action flag ws u
  no_value : u ≡ NoValue flag → Valued flag.now → length ws ≡ 0 → BadFlag action flag ws u
  no_second : u ≡ NoValue flag → flag.now ≡ codes "--at" → (n : ℕ) → Number ws n → length (drop 1 ws) ≡ 0 → BadFlag action flag ws u
  no_number : (w : Word) → u ≡ NotNumber flag w → Counted flag.now → NoNumber ws w → BadFlag action flag ws u
  no_second_number : (w : Word) → u ≡ NotNumber flag w → flag.now ≡ codes "--at" → (n : ℕ) → Number ws n → NoNumber (drop 1 ws) w → BadFlag action flag ws u

-- the words are n flags with their values: what f says becomes g
abbrev pub Flagged : Action → ℕ → Words → Flags → Flags → Type 0
Flagged action zero ws f g = (length ws ≡ 0) × (g ≡ f)
Flagged action (suc n) ws f g =
    (0 < length ws) × ((h : Flags) × ((more : Words) × (Flag action (text ws 0) (drop 1 ws) f h more × Flagged action n more h g)))

-- after n flags with their values comes a bad one
abbrev pub Misflagged : Action → ℕ → Words → Flags → Usage → Type 0
Misflagged action zero ws f u = (0 < length ws) × BadFlag action (word ws 0) (drop 1 ws) u
Misflagged action (suc n) ws f u =
    (0 < length ws) × ((h : Flags) × ((more : Words) × (Flag action (text ws 0) (drop 1 ws) f h more × Misflagged action n more h u)))

-- the words are a plate and its flags
pub record Plated (action : Action) (ws : Words) (job : Job) (w : State) : Type 0 where
  pub plate : First ws job.plate
  pub count : ℕ
  pub flags : Flagged action count (drop 1 ws) no_flags (record { labels = job.labels; levels = Some job.levels; at = job.at; opening = w })

-- what is wrong with the words of a plate and its flags
abbrev pub Unplated : Action → Words → Usage → Type 0
Unplated action ws NoCommand = ⊥
Unplated action ws (OtherCommand w) = ⊥
Unplated action ws NoScript = ⊥
Unplated action ws NoPlate = length ws ≡ 0
Unplated action ws NoLevels = (0 < length ws) × ((n : ℕ) × ((g : Flags) × (Flagged action n (drop 1 ws) no_flags g × (g.levels ≡ None))))
Unplated action ws (OtherFlag w) = (0 < length ws) × ((n : ℕ) × Misflagged action n (drop 1 ws) no_flags (OtherFlag w))
Unplated action ws (NoValue w) = (0 < length ws) × ((n : ℕ) × Misflagged action n (drop 1 ws) no_flags (NoValue w))
Unplated action ws (NotNumber f w) = (0 < length ws) × ((n : ℕ) × Misflagged action n (drop 1 ws) no_flags (NotNumber f w))

-- the words after `replay`: a script, a plate and its flags
pub record Replayed (ws : Words) (r : Replay) : Type 0 where
  pub script : First ws r.script
  pub plated : Plated ForReplay (drop 1 ws) r.job r.opening

abbrev pub Unreplayed : Words → Usage → Type 0
Unreplayed ws u = ((u ≡ NoScript) × (length ws ≡ 0)) ⊎ ((0 < length ws) × Unplated ForReplay (drop 1 ws) u)

-- the words begin with the name of a command
abbrev pub Begins : Words → List ℕ → Type 0
Begins ws name = (0 < length ws) × (text ws 0 ≡ name)

-- the words name no command
abbrev pub Other : Words → Word → Type 0
Other ws w = First ws w × (w.now ≢ codes "check") × (w.now ≢ codes "replay")

-- what the answer tells of the words
abbrev pub ParseOf : Words → Result Command Usage → Type 0
ParseOf ws (Ok (Check job)) = Begins ws (codes "check") × ((w : State) × Plated ForCheck (drop 1 ws) job w)
ParseOf ws (Ok (Play r)) = Begins ws (codes "replay") × Replayed (drop 1 ws) r
ParseOf ws (Err u) =
    ((u ≡ NoCommand) × (length ws ≡ 0))
    ⊎ (((w : Word) × ((u ≡ OtherCommand w) × Other ws w))
    ⊎ ((Begins ws (codes "check") × Unplated ForCheck (drop 1 ws) u) ⊎ (Begins ws (codes "replay") × Unreplayed (drop 1 ws) u)))
