-- What is written is read back: one lemma for each item. Assumes nothing.
use Rattle.std.proofs.Common.{◌≡◌, ℕ, ◌+◌, ◌-◌, ◌*◌, ◌^◌, ◌<◌, ◌≤◌, Bool, true, false, not, ◌&&◌, eqb, List, [], ◌∷◌, ◌++◌, length, decimal, sym, refl, ap, ◌∙◌, append_assoc, arith, rules}
use Rattle.std.specs.List.{flat_map}
use Rattle.std.proofs.lemmas.Nat.{div-add-mod'}
use Rattle.std.proofs.lemmas.Fmt.{digits_decimal, digits_value-decimal, decimal_nonempty}
use Rattle.std.proofs.lemmas.Str.Parse.{IsNumeralModel, numerals_by_fold}
use Rattle.std.proofs.lemmas.Bool.Decides.{nat_tests}
use Rattle.std.proofs.lemmas.Bool.{cond-true, cond-false, ne_eqb, le-ltb, and_parts}
use Rattle.netpbm.specs.Answers.{accepted}
use Rattle.netpbm.specs.Pictures.{Picture, within}
use Rattle.netpbm.specs.Reads.{got, and_then, white, opens, digit, byte, magic, gap, value_on, after_digits, digits, numeral, one_white}
use Rattle.netpbm.specs.Parses.{header_by, sample_size, pairs, values, plate, plate_after, parsed}
use Rattle.netpbm.specs.Writes.{pair_bytes, sample_bytes, written}
use Rattle.netpbm.proofs.Readings.{plate_whole}

-- numbers
abbrev every_digit : List ℕ → Bool
every_digit [] = true
every_digit (c ∷ cs) = digit c && every_digit cs

abbrev read_on : ℕ → List ℕ → ℕ
read_on n [] = n
read_on n (c ∷ cs) = read_on (n * 10 + (c - 48)) cs

own : IsNumeralModel (λ ds. every_digit ds ≡ true) (read_on 0)
own = numerals_by_fold _ (search rules) read_on (search rules)

value_forth : (n : ℕ) (ds : List ℕ) (d : ℕ) (rest : List ℕ) → every_digit ds ≡ true → digit d ≡ false → (value_on n (ds ++ (d ∷ rest)) ≡ read_on n ds) × (after_digits (ds ++ (d ∷ rest)) ≡ d ∷ rest)
value_forth n [] d rest h e = (cond-false (digit d) _ _ e, cond-false (digit d) _ _ e)
value_forth n (c ∷ cs) d rest h e =
    let p = and_parts (digit c) (every_digit cs) h in
    let r = value_forth (n * 10 + (c - 48)) cs d rest p.1 e in
    (cond-true (digit c) _ _ p.0 ∙ r.0, cond-true (digit c) _ _ p.0 ∙ r.1)

digits_forth : (ds : List ℕ) (d : ℕ) (rest : List ℕ) → every_digit ds ≡ true → 0 < length ds → digit d ≡ false → digits (ds ++ (d ∷ rest)) ≡ got (read_on 0 ds) (d ∷ rest)
unfolding digits
digits_forth [] d rest h l e = absurd (omega arith)
digits_forth (c ∷ cs) d rest h l e =
    let p = and_parts (digit c) (every_digit cs) h in
    let v = value_forth 0 (c ∷ cs) d rest h e in
    cond-false (not (digit c)) _ _ (ap not p.0) ∙ (λ i. got (v.0 i) (v.1 i))

no_space : (c : ℕ) → digit c ≡ true → (white c ≡ false) × (eqb c 35 ≡ false)
no_space c h = (grind (arith, nat_tests), grind (arith, nat_tests))

gap_forth : (b : ℕ) (ds rest : List ℕ) → white b ≡ true → opens b ≡ true → every_digit ds ≡ true → 0 < length ds → gap (b ∷ (ds ++ rest)) ≡ got tt (ds ++ rest)
unfolding gap
gap_forth b [] rest w o h l = absurd (omega arith)
gap_forth b (c ∷ cs) rest w o h l =
    let p = and_parts (digit c) (every_digit cs) h in
    let n = no_space c p.0 in
    cond-false (not (opens b)) _ _ (ap not o)
    ∙ ap (got tt) (cond-true (white b) _ _ w ∙ cond-false (white c) _ _ n.0 ∙ cond-false (eqb c 35) _ _ n.1)

numeral_forth : (b n d : ℕ) (rest : List ℕ) → white b ≡ true → opens b ≡ true → n < 2 ^ 64 → digit d ≡ false → numeral (b ∷ (decimal n ++ (d ∷ rest))) ≡ got n (d ∷ rest)
unfolding numeral
numeral_forth b n d rest w o h e =
    let ds = digits_decimal own n h in
    let some = decimal_nonempty n h in
    ap (λ r. and_then r (λ _ bs. digits bs)) (gap_forth b (decimal n) (d ∷ rest) w o ds some)
    ∙ digits_forth (decimal n) d rest ds some e ∙ ap (λ (q : ℕ). got q (d ∷ rest)) (digits_value-decimal own n h)

-- samples
pairs_forth : (xs : List ℕ) → pairs (flat_map pair_bytes xs) ≡ xs
pairs_forth [] = refl
pairs_forth (x ∷ xs) = let e = div-add-mod' x 256 in let f = pairs_forth xs in (λ i. e i ∷ f i)

values_forth : (m : ℕ) (xs : List ℕ) → values m (sample_bytes m xs) ≡ xs
values_forth m xs = grind (arith, nat_tests, pairs_forth)

length_pairs : (xs : List ℕ) → length (flat_map pair_bytes xs) ≡ length xs * 2
length_pairs [] = refl
length_pairs (x ∷ xs) = omega (arith, length_pairs xs)

length_bytes : (m : ℕ) (xs : List ℕ) → length (sample_bytes m xs) ≡ length xs * sample_size m
length_bytes m xs = grind (arith, nat_tests, length_pairs)

-- what a raster's picture keeps to
pub record Sound (p : Picture) : Type 0 where
  pub wide : 1 ≤ p.width
  pub high : 1 ≤ p.height
  pub bright : 1 ≤ p.maxval
  pub width_fits : p.width < 2 ^ 64
  pub height_fits : p.height < 2 ^ 64
  pub maxval_fits : p.maxval < 2 ^ 16
  pub whole : length p.samples ≡ p.width * p.height
  pub kept : within p.maxval p.samples ≡ true

abbrev flat : Picture → List ℕ → List ℕ
flat p rest = 80 ∷ 53 ∷ 10 ∷ (decimal p.width ++ (32 ∷ (decimal p.height ++ (10 ∷ (decimal p.maxval ++ (10 ∷ rest))))))

written_flat : (p : Picture) → written p ≡ flat p (sample_bytes p.maxval p.samples)
unfolding written
written_flat p = simp append_assoc

header_forth : (p : Picture) (rest : List ℕ) → Sound p → header_by numeral (flat p rest) ≡ got (record { width = p.width; height = p.height; maxval = p.maxval }) rest
unfolding magic byte one_white
header_forth p rest s =
    let n1 = numeral_forth 10 p.width 32 (decimal p.height ++ (10 ∷ (decimal p.maxval ++ (10 ∷ rest)))) refl refl s.width_fits refl in
    let n2 = numeral_forth 32 p.height 10 (decimal p.maxval ++ (10 ∷ rest)) refl refl s.height_fits refl in
    let n3 = numeral_forth 10 p.maxval 10 rest refl refl (omega (arith, s.maxval_fits)) refl in
    let z1 = ne_eqb p.width 0 (λ e. omega (arith, s.wide)) in
    let z2 = ne_eqb p.height 0 (λ e. omega (arith, s.high)) in
    let z3 = ne_eqb p.maxval 0 (λ e. omega (arith, s.bright)) in
    let z4 = le-ltb 65535 p.maxval (omega (arith, s.maxval_fits)) in
    rw (n1, n2, z1, z2, n3, z3, z4)

plate_forth : (p : Picture) → Sound p → plate (record { width = p.width; height = p.height; maxval = p.maxval }) (sample_bytes p.maxval p.samples) ≡ accepted p
plate_forth p s =
    let m : ℕ = p.maxval in
    let bs : List ℕ = sample_bytes m p.samples in
    let size : ℕ = p.width * p.height * sample_size m in
    let l : length bs ≡ size = length_bytes m p.samples ∙ ap (λ (q : ℕ). q * sample_size m) s.whole in
    let v = values_forth m p.samples in
    let k : within m (values m bs) ≡ true = ap (within m) v ∙ s.kept in
    plate_whole (record { width = p.width; height = p.height; maxval = p.maxval }) bs (sym l) ∙ cond-false (not (within m (values m bs))) _ _ (ap not k)
    ∙ (λ i. accepted (record { width = p.width; height = p.height; maxval = p.maxval; samples = v i }))

pub written_read : (p : Picture) → Sound p → parsed (written p) ≡ accepted p
unfolding parsed
written_read p s =
    let bs : List ℕ = sample_bytes p.maxval p.samples in
    ap (λ (q : List ℕ). plate_after (header_by numeral q)) (written_flat p) ∙ ap plate_after (header_forth p bs s) ∙ plate_forth p s
