-- The items of a header, one step of each. Assumes nothing.
use Rattle.std.proofs.Common.{◌≡◌, ℕ, suc, ◌+◌, ◌-◌, ◌*◌, ◌<◌, ◌≤◌, Bool, true, false, cond, not, eqb, ltb, Some, None, unwrap_or, List, [], ◌∷◌, length, get_or, take, drop, sym, refl, ap, ◌∙◌, ⊎_elim, arith}
use Rattle.std.specs.List.{position_or_len}
use Rattle.std.proofs.lemmas.List.{take_rest}
use Rattle.std.proofs.lemmas.Bool.{cond-true, cond-false, lt-ltb, le-ltb, cases_lt, cases_Bool}
use Rattle.std.proofs.lemmas.Bool.Decides.{nat_tests}
use Rattle.netpbm.specs.Faults.{not_pgm, no_number}
use Rattle.netpbm.specs.Reads.{Read, got, and_then, stop_if, white, opens, line_end, digit, byte, skipped, gap, value_on, after_digits, digits, one_white}
use Rattle.netpbm.specs.Seen.{TakesIf, first_if, capped}

-- what a pattern `[.., rest @ ..]` names after k elements
abbrev pub rest_of : ℕ → List ℕ → List ℕ
rest_of k bs = take (length bs - k) (drop k bs)

-- the first byte left out, where it passes p
abbrev pub first_by : (ℕ → Bool) → ℕ → List ℕ → Read (Unit {0})
first_by p why bs = first_if (p (get_or bs 0 0)) why bs

pub first_is : (p : ℕ → Bool) (tests : ℕ → Bool → Type 0) (why : ℕ) (bs : List ℕ) (r : Read (Unit {0})) (k : TakesIf tests why bs r) → (tests (get_or bs 0 0) k.passed → k.passed ≡ p (get_or bs 0 0)) → r ≡ first_by p why bs
first_is p tests why [] r k h = k.is
first_is p tests why (b ∷ bs) r k h = k.is ∙ ap (λ t. first_if t why (b ∷ bs)) (h (k.tested (omega arith)))

rest_is : (t : Bool) (why : ℕ) (bs : List ℕ) (x : Unit {0}) (cs : List ℕ) → stop_if (not t) why (got tt bs) ≡ got x cs → bs ≡ cs
rest_is true why bs x cs e = cc
rest_is false why bs x cs e = cc

pub first_le : (p : ℕ → Bool) (why : ℕ) (bs : List ℕ) (x : Unit {0}) (cs : List ℕ) → first_by p why bs ≡ got x cs → length cs + 1 ≤ length bs
first_le p why [] x cs e = cc
first_le p why (b ∷ bs) x cs e = omega (arith, ap length (rest_is (p b) why bs x cs e))

pub byte_first : (w : ℕ) (bs : List ℕ) → first_by (λ b. eqb b w) not_pgm bs ≡ byte w bs
unfolding byte
byte_first w [] = refl
byte_first w (b ∷ bs) = refl

pub one_first : (bs : List ℕ) → first_by white no_number bs ≡ one_white bs
unfolding one_white
one_first [] = refl
one_first (b ∷ bs) = refl

-- an item that begins where one byte passes a test
then_if : {X : Type 0} (t : Bool) (bs : List ℕ) (r : Read X) → and_then (stop_if (not t) no_number (got (tt {0}) bs)) (λ _ _. r) ≡ stop_if (not t) no_number r
then_if true bs r = refl
then_if false bs r = refl

pub gap_first : (bs : List ℕ) → and_then (first_by opens no_number bs) (λ _ _. got tt (skipped false bs)) ≡ gap bs
unfolding gap
gap_first [] = refl
gap_first (b ∷ bs) = then_if (opens b) bs (got tt (skipped false (b ∷ bs)))

pub digits_first : (bs : List ℕ) → and_then (first_by digit no_number bs) (λ _ _. got (value_on 0 bs) (after_digits bs)) ≡ digits bs
unfolding digits
digits_first [] = refl
digits_first (b ∷ bs) = then_if (digit b) bs (got (value_on 0 (b ∷ bs)) (after_digits (b ∷ bs)))

-- white space and comments: a place that is the first of its kind, or else the end
pub first_or_end : (n l : ℕ) → n ≤ l → unwrap_or (cond (ltb n l) (Some n) None) l ≡ n
first_or_end n l h = ⊎_elim (λ (t : n < l). rw (lt-ltb n l t)) (λ (t : l ≤ n). rw (le-ltb n l t) (omega arith)) (cases_lt n l)

line_skipped : (bs : List ℕ) → skipped false (drop (position_or_len line_end bs) bs) ≡ skipped true bs
line_skipped [] = refl
line_skipped (b ∷ bs) =
    ⊎_elim
    (λ (e : line_end b ≡ true). let w : white b ≡ true = grind (arith, nat_tests) in rw (e, w))
    (λ (e : line_end b ≡ false).
    let n : ℕ = position_or_len line_end bs in
    let after : cond (not (line_end b)) (1 + n) 0 ≡ suc n = cond-true _ _ _ (ap not e) ∙ omega arith in
    ap (λ q. skipped false (drop q (b ∷ bs))) after ∙ line_skipped bs ∙ sym (cond-false (line_end b) _ _ e))
    (cases_Bool (line_end b))

pub skip_hash : (bs : List ℕ) → 1 ≤ length bs → get_or bs 0 0 ≡ 35 → skipped false (drop (position_or_len line_end (rest_of 1 bs)) (rest_of 1 bs)) ≡ skipped false bs
skip_hash [] h e = absurd (omega arith)
skip_hash (b ∷ bs) h e = ap (λ q. skipped false (drop (position_or_len line_end q) q)) (take_rest (b ∷ bs) 1) ∙ line_skipped bs ∙ ap (λ n. skipped false (n ∷ bs)) (sym e)

-- digits: numbers that are equal once capped stay so
pub cap_on : (m n : ℕ) (bs : List ℕ) → capped m ≡ capped n → capped (value_on m bs) ≡ capped (value_on n bs)
cap_on m n [] e = e
cap_on m n (b ∷ bs) e =
    elim (digit b) as (λ t. capped (cond t (value_on (m * 10 + (b - 48)) bs) m) ≡ capped (cond t (value_on (n * 10 + (b - 48)) bs) n))
    [ true ↦ cap_on (m * 10 + (b - 48)) (n * 10 + (b - 48)) bs (omega arith) | false ↦ e ]

pub digits_stop : (n : ℕ) (bs : List ℕ) → (1 ≤ length bs → digit (get_or bs 0 0) ≡ false) → (value_on n bs ≡ n) × (after_digits bs ≡ bs)
digits_stop n [] h = (refl, refl)
digits_stop n (b ∷ bs) h = let e = h (omega arith) in (cond-false (digit b) _ _ e, cond-false (digit b) _ _ e)

pub digits_more : (n m : ℕ) (bs : List ℕ) → 1 ≤ length bs → digit (get_or bs 0 0) ≡ true → capped m ≡ capped (n * 10 + (get_or bs 0 0 - 48)) → (capped (value_on m (rest_of 1 bs)) ≡ capped (value_on n bs)) × (after_digits (rest_of 1 bs) ≡ after_digits bs)
digits_more n m [] h e c = absurd (omega arith)
digits_more n m (b ∷ bs) h e c = (
  ap (λ q. capped (value_on m q)) (take_rest (b ∷ bs) 1) ∙ cap_on m _ bs c ∙ sym (ap capped (cond-true (digit b) _ _ e)),
  ap after_digits (take_rest (b ∷ bs) 1) ∙ sym (cond-true (digit b) _ _ e),
)
