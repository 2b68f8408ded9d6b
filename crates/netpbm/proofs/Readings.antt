-- The samples after a header, with numbers that were capped. Assumes nothing.
use Rattle.std.proofs.Common.{◌≡◌, ℕ, ◌-◌, ◌*◌, ◌^◌, ◌<◌, ◌≤◌, Bool, true, false, not, ltb, List, [], ◌∷◌, length, sym, refl, ap, ◌∙◌, subst, ⊎_elim, mul_comm, mul-one, arith}
use Rattle.std.proofs.lemmas.Bool.Decides.{nat_tests}
use Rattle.std.proofs.lemmas.Bool.{cond-true, cond-false, cases_Bool}
use Rattle.netpbm.specs.Answers.{accepted, refused, refuse_if}
use Rattle.netpbm.specs.Faults.{cut_short, above_maxval, left_over}
use Rattle.netpbm.specs.Pictures.{Picture, within, raster_answer}
use Rattle.netpbm.specs.Reads.{got, fault}
use Rattle.netpbm.specs.Parses.{header_by, sample_size, pairs, values, plate, plate_after, parsed, WantsMemory}
use Rattle.netpbm.specs.Seen.{capped, capped_numeral}
use Rattle.netpbm.specs.declared.header.Header.{Header}
use Rattle.netpbm.proofs.Headers.{Sound, header_sound, Uncapped, uncapped, header_fault}

cap_small : (a : ℕ) → a ≤ 2 ^ 64 - 1 → capped a ≡ a
cap_small a h = omega arith

-- a product is capped alike whether its factor was capped or not
cap_mul : (a b : ℕ) → 1 ≤ b → capped (capped a * b) ≡ capped (a * b)
cap_mul a b h = grind arith

size_capped : (w h u : ℕ) → 1 ≤ w → 1 ≤ h → 1 ≤ u → capped (capped (capped w * capped h) * u) ≡ capped (w * h * u)
size_capped w h u a b c =
    let p : capped (capped w * capped h) ≡ capped (w * h) =
    cap_mul w (capped h) (omega arith) ∙ ap capped (mul_comm w (capped h)) ∙ cap_mul h w a ∙ ap capped (mul_comm h w) in
    ap (λ (n : ℕ). capped (n * u)) p ∙ cap_mul (w * h) u c

size_pos : (m : ℕ) → 1 ≤ sample_size m
size_pos m = grind (arith, nat_tests)

pairs_length : (bs : List ℕ) (n : ℕ) → length bs ≡ n * 2 → length (pairs bs) ≡ n
pairs_length [] n h = omega arith
pairs_length (a ∷ []) n h = absurd (omega arith)
pairs_length (a ∷ b ∷ bs) n h =
    let l = pairs_length bs (n - 1) (omega arith) in
    omega arith

pub values_length : (m n : ℕ) (bs : List ℕ) → length bs ≡ n * sample_size m → length (values m bs) ≡ n
values_length m n bs h =
    ⊎_elim
    (λ (t : ltb m 256 ≡ true).
    let s = cond-true (ltb m 256) 1 2 t in
    let v = cond-true (ltb m 256) bs (pairs bs) t in
    ap length v ∙ h ∙ ap (λ (q : ℕ). n * q) s ∙ mul-one n)
    (λ (t : ltb m 256 ≡ false).
    let s = cond-false (ltb m 256) 1 2 t in
    let v = cond-false (ltb m 256) bs (pairs bs) t in
    ap length v ∙ pairs_length bs n (h ∙ ap (λ (q : ℕ). n * q) s))
    (cases_Bool (ltb m 256))

wants : (b : Bool) (p : Picture) → WantsMemory (refuse_if b above_maxval (accepted p))
wants true p = refl
wants false p = tt

-- the samples after a header by how many bytes there are
plate_short : (t : Header) (cs : List ℕ) → length cs < t.width * t.height * sample_size t.maxval → plate t cs ≡ refused cut_short
plate_short t cs h = grind (arith, nat_tests)

plate_over : (t : Header) (cs : List ℕ) → t.width * t.height * sample_size t.maxval < length cs → plate t cs ≡ refused left_over
plate_over t cs h = grind (arith, nat_tests)

pub plate_whole : (t : Header) (cs : List ℕ) → t.width * t.height * sample_size t.maxval ≡ length cs → plate t cs ≡ refuse_if (not (within t.maxval (values t.maxval cs))) above_maxval (accepted (record { width = t.width; height = t.height; maxval = t.maxval; samples = values t.maxval cs }))
plate_whole t cs h = grind (arith, nat_tests)

raster_whole : (w h m : ℕ) (xs : List ℕ) → 1 ≤ w → 1 ≤ h → 1 ≤ m → length xs ≡ w * h → raster_answer w h m xs ≡ refuse_if (not (within m xs)) above_maxval (accepted (record { width = w; height = h; maxval = m; samples = xs }))
raster_whole w h m xs a b c l = grind (arith, nat_tests)

-- what the reader knows once it has the capped header and what follows it
module _ (bs : List ℕ) (head : Header) (cs : List ℕ) (e : got head cs ≡ header_by capped_numeral bs) (fit : length bs < 2 ^ 64) where
  u : Uncapped bs head cs
  u = uncapped bs head cs e

  is : parsed bs ≡ plate u.whole cs
  unfolding parsed
  is = ap plate_after u.is

  sound : Sound u.whole bs cs
  sound = header_sound bs u.whole cs u.is

  same_width : head.width ≡ capped u.whole.width
  same_width = ap (λ (q : Header). q.width) u.same

  same_height : head.height ≡ capped u.whole.height
  same_height = ap (λ (q : Header). q.height) u.same

  same_maxval : head.maxval ≡ u.whole.maxval
  same_maxval =
      let a = ap (λ (q : Header). q.maxval) u.same in
      let b = sound.fits in
      omega arith

  abbrev whole_size : ℕ
  whole_size = u.whole.width * u.whole.height * sample_size u.whole.maxval

  abbrev capped_size : ℕ
  capped_size = capped (capped (head.width * head.height) * sample_size head.maxval)

  same_size : capped_size ≡ capped whole_size
  same_size =
      (λ i. capped (capped (same_width i * same_height i) * sample_size (same_maxval i)))
      ∙ size_capped u.whole.width u.whole.height (sample_size u.whole.maxval) sound.wide sound.high (size_pos u.whole.maxval)

  pub read_short : length cs < capped_size → refused cut_short ≡ parsed bs
  read_short h = let z = same_size in sym (is ∙ plate_short u.whole cs (omega arith))

  pub read_over : capped_size < length cs → refused left_over ≡ parsed bs
  read_over h = let z = same_size in let k = sound.shorter in sym (is ∙ plate_over u.whole cs (omega arith))

  whole : capped_size ≡ length cs → whole_size ≡ length cs
  whole h = let z = same_size in let k = sound.shorter in omega arith

  pub read_wants : capped_size ≡ length cs → WantsMemory (parsed bs)
  read_wants h = subst WantsMemory (sym (is ∙ plate_whole u.whole cs (whole h))) (wants (not (within u.whole.maxval (values u.whole.maxval cs))) _)

  pub read_fits : (xs : List ℕ) → capped_size ≡ length cs → xs ≡ values head.maxval cs → raster_answer head.width head.height head.maxval xs ≡ parsed bs
  read_fits xs h v =
      let w : ℕ = u.whole.width in
      let k : ℕ = u.whole.height in
      let m : ℕ = u.whole.maxval in
      let all = whole h in
      let short = sound.shorter in
      let pos = size_pos m in
      let high = sound.high in
      let wide = sound.wide in
      let o1 : w * k ≤ whole_size = grind arith in
      let o2 : w ≤ w * k = grind arith in
      let o3 : k ≤ w * k = grind arith in
      let ew : head.width ≡ w = same_width ∙ cap_small w (omega arith) in
      let ek : head.height ≡ k = same_height ∙ cap_small k (omega arith) in
      let ex : xs ≡ values m cs = v ∙ ap (λ (q : ℕ). values q cs) same_maxval in
      (λ i. raster_answer (ew i) (ek i) (same_maxval i) (ex i))
      ∙ raster_whole w k m (values m cs) wide high sound.bright (values_length m (w * k) cs (sym all))
      ∙ sym (is ∙ plate_whole u.whole cs all)

pub read_fault : (bs : List ℕ) (w : ℕ) → fault w ≡ header_by capped_numeral bs → refused w ≡ parsed bs
unfolding parsed
read_fault bs w e = sym (ap plate_after (header_fault bs w e))
