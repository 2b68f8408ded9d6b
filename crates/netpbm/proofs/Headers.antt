-- A header that was read. Assumes nothing.
use Rattle.std.proofs.Common.{◌≡◌, ℕ, suc, ◌+◌, ◌≤◌, Bool, true, false, cond, ◌||◌, eqb, ltb, List, [], ◌∷◌, length, refl, ap, ◌∙◌, arith}
use Rattle.std.proofs.lemmas.Bool.{cond_both, eqb-false, ltb-false, or_parts}
use Rattle.std.proofs.lemmas.Bool.Decides.{nat_tests}
use Rattle.netpbm.specs.Faults.{not_pgm, no_number, zero_size, bad_maxval}
use Rattle.netpbm.specs.Reads.{Read, got, fault, and_then, stop_if, white, opens, line_end, digit, byte, magic, skipped, gap, after_digits, value_on, digits, numeral, one_white}
use Rattle.netpbm.specs.Parses.{header_by}
use Rattle.netpbm.specs.Seen.{capped, capped_read, capped_numeral}
use Rattle.netpbm.specs.declared.header.Header.{Header}
use Rattle.netpbm.proofs.Turns.{first_by, first_le, byte_first, one_first, gap_first, digits_first}

-- what a bind that got something had before
pub record Step {X Y : Type 0} (r : Read X) (f : X → List ℕ → Read Y) (y : Y) (zs : List ℕ) : Type 0 where
  pub value : X
  pub rest : List ℕ
  pub is : r ≡ got value rest
  pub next : f value rest ≡ got y zs

pub then_got : {X Y : Type 0} (r : Read X) (f : X → List ℕ → Read Y) (y : Y) (zs : List ℕ) → and_then r f ≡ got y zs → Step r f y zs
then_got (got x bs) f y zs e = record { value = x; rest = bs; is = refl; next = e }
then_got (fault w) f y zs e = cc

pub stop_got : {X : Type 0} (b : Bool) (w : ℕ) (r : Read X) (y : X) (zs : List ℕ) → stop_if b w r ≡ got y zs → (b ≡ false) × (r ≡ got y zs)
stop_got true w r y zs e = cc
stop_got false w r y zs e = (refl, e)

-- no item leaves more than it was given
skipped_le : (t : Bool) (bs : List ℕ) → length (skipped t bs) ≤ length bs
skipped_le true [] = omega arith
skipped_le false [] = omega arith
skipped_le true (b ∷ bs) =
    cond_both (line_end b) (skipped false bs) (skipped true bs) (λ q. length q ≤ suc (length bs))
    (λ _. omega (arith, skipped_le false bs)) (λ _. omega (arith, skipped_le true bs))
skipped_le false (b ∷ bs) =
    cond_both (white b) (skipped false bs) (cond (eqb b 35) (skipped true bs) (b ∷ bs)) (λ q. length q ≤ suc (length bs))
    (λ _. omega (arith, skipped_le false bs))
    (λ _. cond_both (eqb b 35) (skipped true bs) (b ∷ bs) (λ q. length q ≤ suc (length bs)) (λ _. omega (arith, skipped_le true bs)) (λ _. omega arith))

after_le : (bs : List ℕ) → length (after_digits bs) ≤ length bs
after_le [] = omega arith
after_le (b ∷ bs) = cond_both (digit b) (after_digits bs) (b ∷ bs) (λ q. length q ≤ suc (length bs)) (λ _. omega (arith, after_le bs)) (λ _. omega arith)

byte_le : (w : ℕ) (bs : List ℕ) (x : Unit {0}) (cs : List ℕ) → byte w bs ≡ got x cs → length cs + 1 ≤ length bs
byte_le w bs x cs e = first_le (λ b. eqb b w) not_pgm bs x cs (byte_first w bs ∙ e)

magic_le : (bs : List ℕ) (x : Unit {0}) (cs : List ℕ) → magic bs ≡ got x cs → length cs + 2 ≤ length bs
unfolding magic
magic_le bs x cs e =
    let s = then_got (byte 80 bs) (λ _ bs. byte 53 bs) x cs e in
    let a = byte_le 80 bs s.value s.rest s.is in
    let b = byte_le 53 s.rest x cs s.next in
    omega arith

gap_le : (bs : List ℕ) (x : Unit {0}) (cs : List ℕ) → gap bs ≡ got x cs → length cs ≤ length bs
gap_le bs x cs e =
    let s = then_got (first_by opens no_number bs) (λ _ _. got tt (skipped false bs)) x cs (gap_first bs ∙ e) in
    let r : skipped false bs ≡ cs = cc in
    omega (arith, ap length r, skipped_le false bs)

digits_le : (bs : List ℕ) (n : ℕ) (cs : List ℕ) → digits bs ≡ got n cs → length cs ≤ length bs
digits_le bs n cs e =
    let s = then_got (first_by digit no_number bs) (λ _ _. got (value_on 0 bs) (after_digits bs)) n cs (digits_first bs ∙ e) in
    let r : after_digits bs ≡ cs = cc in
    omega (arith, ap length r, after_le bs)

numeral_le : (bs : List ℕ) (n : ℕ) (cs : List ℕ) → numeral bs ≡ got n cs → length cs ≤ length bs
unfolding numeral
numeral_le bs n cs e =
    let s = then_got (gap bs) (λ _ bs. digits bs) n cs e in
    let a = gap_le bs s.value s.rest s.is in
    let b = digits_le s.rest n cs s.next in
    omega arith

one_le : (bs : List ℕ) (x : Unit {0}) (cs : List ℕ) → one_white bs ≡ got x cs → length cs + 1 ≤ length bs
one_le bs x cs e = first_le white no_number bs x cs (one_first bs ∙ e)

-- what holds of a header that was read
pub record Sound (t : Header) (bs cs : List ℕ) : Type 0 where
  pub wide : 1 ≤ t.width
  pub high : 1 ≤ t.height
  pub bright : 1 ≤ t.maxval
  pub fits : t.maxval ≤ 65535
  pub shorter : length cs + 2 ≤ length bs

pub header_sound : (bs : List ℕ) (t : Header) (cs : List ℕ) → header_by numeral bs ≡ got t cs → Sound t bs cs
header_sound bs t cs e =
    let a = then_got (magic bs) _ t cs e in
    let w = then_got (numeral a.rest) _ t cs a.next in
    let h = then_got (numeral w.rest) _ t cs w.next in
    let z = stop_got (eqb w.value 0 || eqb h.value 0) zero_size _ t cs h.next in
    let m = then_got (numeral h.rest) _ t cs z.1 in
    let y = stop_got (eqb m.value 0 || ltb 65535 m.value) bad_maxval _ t cs m.next in
    let o = then_got (one_white m.rest) _ t cs y.1 in
    let same : ◌≡◌ {A = Header} (record { width = w.value; height = h.value; maxval = m.value }) t = cc o.next in
    let left : o.rest ≡ cs = cc o.next in
    let zs = or_parts (eqb w.value 0) (eqb h.value 0) z.0 in
    let ys = or_parts (eqb m.value 0) (ltb 65535 m.value) y.0 in
    let sw : w.value ≡ t.width = ap (λ (q : Header). q.width) same in
    let sh : h.value ≡ t.height = ap (λ (q : Header). q.height) same in
    let sm : m.value ≡ t.maxval = ap (λ (q : Header). q.maxval) same in
    let l1 = magic_le bs a.value a.rest a.is in
    let l2 = numeral_le a.rest w.value w.rest w.is in
    let l3 = numeral_le w.rest h.value h.rest h.is in
    let l4 = numeral_le h.rest m.value m.rest m.is in
    let l5 = one_le m.rest o.value o.rest o.is in
    let l6 = ap length left in
    let w0 = eqb-false w.value 0 zs.0 in
    let h0 = eqb-false h.value 0 zs.1 in
    let m0 = eqb-false m.value 0 ys.0 in
    let m1 = ltb-false 65535 m.value ys.1 in
    record { wide = omega arith; high = omega arith; bright = omega arith; fits = omega arith; shorter = omega arith }

-- a header with its numbers capped
abbrev pub capped_of : Header → Header
capped_of t = record { width = capped t.width; height = capped t.height; maxval = capped t.maxval }

abbrev capped_header : Read Header → Read Header
capped_header (got t bs) = got (capped_of t) bs
capped_header (fault w) = fault w

then_capped : (r : Read ℕ) (f g : ℕ → List ℕ → Read Header) → ((n : ℕ) (bs : List ℕ) → f (capped n) bs ≡ capped_header (g n bs)) → and_then (capped_read r) f ≡ capped_header (and_then r g)
then_capped (got n bs) f g h = h n bs
then_capped (fault w) f g h = refl

then_same : (r : Read (Unit {0})) (f g : Unit {0} → List ℕ → Read Header) → ((x : Unit {0}) (bs : List ℕ) → f x bs ≡ capped_header (g x bs)) → and_then r f ≡ capped_header (and_then r g)
then_same (got x bs) f g h = h x bs
then_same (fault w) f g h = refl

stop_capped : (a b : Bool) (w : ℕ) (r s : Read Header) → a ≡ b → r ≡ capped_header s → stop_if a w r ≡ capped_header (stop_if b w s)
stop_capped a true w r s e h = ap (λ t. stop_if t w r) e
stop_capped a false w r s e h = ap (λ t. stop_if t w r) e ∙ h

zero_capped : (n : ℕ) → eqb (capped n) 0 ≡ eqb n 0
zero_capped n = grind (arith, nat_tests)

over_capped : (n : ℕ) → ltb 65535 (capped n) ≡ ltb 65535 n
over_capped n = grind (arith, nat_tests)

header_capped : (bs : List ℕ) → header_by capped_numeral bs ≡ capped_header (header_by numeral bs)
header_capped bs =
    then_same (magic bs) _ _ (λ _ bs.
    then_capped (numeral bs) _ _ (λ w bs.
    then_capped (numeral bs) _ _ (λ h bs.
    stop_capped (eqb (capped w) 0 || eqb (capped h) 0) (eqb w 0 || eqb h 0) zero_size _ _ (λ i. zero_capped w i || zero_capped h i)
    (then_capped (numeral bs) _ _ (λ m bs.
    stop_capped (eqb (capped m) 0 || ltb 65535 (capped m)) (eqb m 0 || ltb 65535 m) bad_maxval _ _ (λ i. zero_capped m i || over_capped m i)
    (then_same (one_white bs) _ _ (λ _ bs. refl)))))))

-- the header that stands in the bytes, where the capped one was read
pub record Uncapped (bs : List ℕ) (head : Header) (cs : List ℕ) : Type 0 where
  pub whole : Header
  pub is : header_by numeral bs ≡ got whole cs
  pub same : head ≡ capped_of whole

uncap : (bs : List ℕ) (r : Read Header) (head : Header) (cs : List ℕ) → header_by numeral bs ≡ r → got head cs ≡ capped_header r → Uncapped bs head cs
uncap bs (got t rest) head cs e h =
    let r : rest ≡ cs = cc h in
    record { whole = t; is = e ∙ ap (got t) r; same = cc h }
uncap bs (fault w) head cs e h = cc

pub uncapped : (bs : List ℕ) (head : Header) (cs : List ℕ) → got head cs ≡ header_by capped_numeral bs → Uncapped bs head cs
uncapped bs head cs e = uncap bs (header_by numeral bs) head cs refl (e ∙ header_capped bs)

fault_of : (r : Read Header) (w : ℕ) → fault w ≡ capped_header r → r ≡ fault w
fault_of (got t bs) w e = cc
fault_of (fault v) w e = let same : v ≡ w = cc in ap fault same

pub header_fault : (bs : List ℕ) (w : ℕ) → fault w ≡ header_by capped_numeral bs → header_by numeral bs ≡ fault w
header_fault bs w e = fault_of (header_by numeral bs) w (e ∙ header_capped bs)
