-- The windows of a picture cover it. Assumes nothing.
use Rattle.std.proofs.Common.{◌≡◌, ℕ, ◌+◌, ◌-◌, ◌*◌, ◌/◌, ◌<◌, ◌≤◌, min, true, arith}
use Rattle.std.proofs.lemmas.Nat.{div-add-mod', mod_below, rows}
use Rattle.std.proofs.lemmas.Bool.Decides.{nat_tests}
use Rattle.netpbm.specs.Answers.{accepted}
use Rattle.netpbm.specs.Windows.{across, inside, window_answer, Covered}
use Rattle.netpbm.specs.declared.window.Window.{Window}

pub starts_within : (n s c : ℕ) → c < across n s → c * s < n
starts_within n s c h = grind (arith, nat_tests, rows)

has_column : (n s a : ℕ) → 0 < s → a < n → a / s < across n s
has_column n s a pos l = grind (arith, nat_tests, rows)

same_column : (s c a m : ℕ) → c * s ≤ a → a < c * s + min s m → c ≡ a / s
same_column s c a m low high = grind arith

pub inside_from : (t : Window) (w h : ℕ) → t.x + t.width ≤ w → t.y + t.height ≤ h → inside t w h ≡ true
inside_from t w h a b = grind (arith, nat_tests)

-- the window in the column c and the row r
pub record IsCut (w h s c r : ℕ) (t : Window) : Type 0 where
  pub left : t.x < w
  pub top : t.y < h
  pub x : t.x ≡ c * s
  pub y : t.y ≡ r * s
  pub width : t.width ≡ min s (w - c * s)
  pub height : t.height ≡ min s (h - r * s)

pub is_cut : (w h s c r : ℕ) (t : Window) → window_answer w h s c r ≡ accepted t → IsCut w h s c r t
is_cut w h s c r t e =
    let a : c < across w s = grind (arith, nat_tests) in
    let b : r < across h s = grind (arith, nat_tests) in
    let x : t.x ≡ c * s = grind (arith, nat_tests) in
    let y : t.y ≡ r * s = grind (arith, nat_tests) in
    let l = starts_within w s c a in
    let m = starts_within h s r b in
    record { left = omega arith; top = omega arith; x = x; y = y; width = grind (arith, nat_tests); height = grind (arith, nat_tests) }

pub covered : (w h s : ℕ) → Covered w h s
covered w h s pos a b la lb =
    let c : ℕ = a / s in
    let r : ℕ = b / s in
    let hc = has_column w s a pos la in
    let hr = has_column h s b pos lb in
    let t : Window = record { x = c * s; y = r * s; width = min s (w - c * s); height = min s (h - r * s) } in
    let is : window_answer w h s c r ≡ accepted t = grind (arith, nat_tests) in
    let k = is_cut w h s c r t is in
    let l1 = k.left in
    let l2 = k.top in
    let da = div-add-mod' a s in
    let db = div-add-mod' b s in
    let ma = mod_below a s pos in
    let mb = mod_below b s pos in
    record {
      the_column = c;
      the_row = r;
      the_window = t;
      is = is;
      lies = inside_from t w h (omega arith) (omega arith);
      contains = record { left = omega arith; right = omega arith; top = omega arith; bottom = omega arith };
      only = λ c' r' u e z.
          let m = is_cut w h s c' r' u e in
          (same_column s c' a (w - c' * s) (omega arith) (omega arith), same_column s r' b (h - r' * s) (omega arith) (omega arith));
    }
