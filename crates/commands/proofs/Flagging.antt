-- The steps of reading flags. Assumes nothing.
use Rattle.std.proofs.Common.{◌≡◌, ℕ, zero, suc, ◌-◌, ◌<◌, ◌⊎◌, length, take, drop, Ok, Err, codes, Result, ap, subst, inl, inr, arith, MatchResult}
use Rattle.commands.specs.declared.arguments.Action.{Action}
use Rattle.commands.specs.declared.arguments.Flags.{Flags}
use Rattle.commands.specs.declared.arguments.Usage.{Usage}
use Rattle.commands.specs.declared.arguments.Usage.TheVariants.{NoCommand, OtherCommand, NoScript, NoPlate, NoLevels, OtherFlag, NoValue, NotNumber}
use Rattle.commands.specs.Words.{Word, Words, word, text}
use Rattle.commands.proofs.Verbs.{rest}
use Rattle.commands.specs.Commands.{Number, NoNumber, no_flags, Flag, BadFlag, Flagged, Misflagged, Unplated, Counted}
use Rattle.commands.specs.Commands.BadFlag.{unknown, no_value, no_second, no_number, no_second_number}

-- what a number after a flag may fail for
abbrev pub Fails : Word → Words → Usage → Type 0
Fails flag ws u = ((u ≡ NoValue flag) × (length ws ≡ 0)) ⊎ ((w : Word) × ((u ≡ NotNumber flag w) × NoNumber ws w))

module _ (action : Action) (flag : Word) (ws : Words) (u : Usage) where
  valued : Counted flag.now → (flag.now ≡ codes "--levels") ⊎ ((flag.now ≡ codes "--labels") ⊎ (flag.now ≡ codes "--at"))
  valued (inl e) = inl e
  valued (inr e) = inr (inr e)

  pub bad_number : Counted flag.now → Fails flag ws u → BadFlag action flag ws u
  bad_number is (inl h) = no_value h.0 (valued is) h.1
  bad_number is (inr h) = no_number h.0 h.1.0 is h.1.1

  pub bad_second : flag.now ≡ codes "--at" → (n : ℕ) → Number ws n → Fails flag (drop 1 ws) u → BadFlag action flag ws u
  bad_second is n first (inl h) = no_second h.0 is n first h.1
  bad_second is n first (inr h) = no_second_number h.0 h.1.0 is n first h.1.1

-- what holds of the words after the first and of no flags
pub settled : (P : Words → Flags → Type 0) (ws : Words) (f : Flags) → 0 < length ws → f ≡ no_flags → P (take (length ws - 1) (drop 1 ws)) f → P (drop 1 ws) no_flags
settled P ws f some e h = subst (λ (vs : Words). P vs no_flags) (rest ws some) (subst (P (take (length ws - 1) (drop 1 ws))) e h)

-- one flag more
pub one_more : (action : Action) (ws : Words) (f h : Flags) (more : Words) (r : Result Flags Usage) → 0 < length ws → Flag action (text ws 0) (drop 1 ws) f h more →
    MatchResult r (λ g. (n : ℕ) × Flagged action n more h g) (λ u. (n : ℕ) × Misflagged action n more h u) →
    MatchResult r (λ g. (n : ℕ) × Flagged action n ws f g) (λ u. (n : ℕ) × Misflagged action n ws f u)
one_more action ws f h more (Ok g) some flag rest = (suc rest.0, (some, (h, (more, (flag, rest.1)))))
one_more action ws f h more (Err u) some flag rest = (suc rest.0, (some, (h, (more, (flag, rest.1)))))

-- only a fault of flags
tag : Usage → ℕ
tag NoCommand = 0
tag (OtherCommand w) = 0
tag NoScript = 0
tag NoPlate = 0
tag NoLevels = 0
tag (OtherFlag w) = 1
tag (NoValue w) = 1
tag (NotNumber f w) = 1

of_flag : (action : Action) (flag : Word) (ws : Words) (u : Usage) → BadFlag action flag ws u → tag u ≡ 1
unfolding tag
of_flag action flag ws u (unknown e p q) = ap tag e
of_flag action flag ws u (no_value e p q) = ap tag e
of_flag action flag ws u (no_second e p n q r) = ap tag e
of_flag action flag ws u (no_number w e p q) = ap tag e
of_flag action flag ws u (no_second_number w e p n q r) = ap tag e

of_flags : (action : Action) (n : ℕ) (ws : Words) (f : Flags) (u : Usage) → Misflagged action n ws f u → tag u ≡ 1
of_flags action zero ws f u bad = of_flag action (word ws 0) (drop 1 ws) u bad.1
of_flags action (suc n) ws f u bad = of_flags action n bad.1.1.0 bad.1.0 u bad.1.1.1.1

pub unplated : (action : Action) (ws : Words) (u : Usage) → 0 < length ws → (n : ℕ) → Misflagged action n (drop 1 ws) no_flags u → Unplated action ws u
unfolding tag
unplated action ws NoCommand some n bad = omega (arith, of_flags action n (drop 1 ws) no_flags NoCommand bad)
unplated action ws (OtherCommand w) some n bad = omega (arith, of_flags action n (drop 1 ws) no_flags (OtherCommand w) bad)
unplated action ws NoScript some n bad = omega (arith, of_flags action n (drop 1 ws) no_flags NoScript bad)
unplated action ws NoPlate some n bad = absurd (omega (arith, of_flags action n (drop 1 ws) no_flags NoPlate bad))
unplated action ws NoLevels some n bad = absurd (omega (arith, of_flags action n (drop 1 ws) no_flags NoLevels bad))
unplated action ws (OtherFlag w) some n bad = (some, (n, bad))
unplated action ws (NoValue w) some n bad = (some, (n, bad))
unplated action ws (NotNumber f w) some n bad = (some, (n, bad))
