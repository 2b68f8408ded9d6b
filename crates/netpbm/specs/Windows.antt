-- Windows of a picture whose samples stand row by row. Assumes nothing.
use Rattle.std.specs.Prelude.{◌≡◌, ℕ, ◌+◌, ◌-◌, ◌*◌, ◌/◌, ◌%◌, ◌^◌, ◌<◌, ◌≤◌, min, Bool, true, false, cond, not, ◌&&◌, List, length, Some, None, Ok, Err, vec_items, Option, Result, Vec, ◌==◌, ◌≢◌, nat_le, nat_lt, slice_index}
use Rattle.std.specs.declared.alloc.Global.{Global}
use Rattle.netpbm.specs.Answers.{Answer, accepted, refused, refuse_if}
use Rattle.netpbm.specs.Faults.{fault_number, cut_short, left_over, no_memory, no_window}
use Rattle.netpbm.specs.Pictures.{Picture}
use Rattle.netpbm.specs.declared.fault.Fault.{Fault}
use Rattle.netpbm.specs.declared.fault.Fault.TheVariants.{NoWindow}
use Rattle.netpbm.specs.declared.window.Window.{Window}

-- how many windows lie along a length n: the whole ones, and one more where something is left
abbrev pub across : ℕ → ℕ → ℕ
across n s = cond (s == 0) 0 (n / s + min 1 (n % s))

-- the piece of number k, of those of s samples that a length n is cut into: where it begins, and how long it is
abbrev pub piece : ℕ → ℕ → ℕ → Option (ℕ × ℕ)
piece n s k = cond (nat_lt k (across n s)) (Some (k * s, min s (n - k * s))) None

-- the window in the column c and the row r, of those of side s in a picture of w times h samples
abbrev pub window_answer : ℕ → ℕ → ℕ → ℕ → ℕ → Answer Window
window_answer w h s c r =
    refuse_if (not (nat_lt c (across w s) && nat_lt r (across h s))) no_window
    (accepted (record { x = c * s; y = r * s; width = min s (w - c * s); height = min s (h - r * s) }))

-- where there is no window, the answer counts as refused
abbrev pub seen_window : Option Window → Answer Window
seen_window (Some t) = accepted t
seen_window None = refused no_window

-- whether the window lies inside a picture of w times h samples
abbrev pub inside : Window → ℕ → ℕ → Bool
inside t w h = nat_le (t.x + t.width) w && nat_le (t.y + t.height) h

-- a window that does not lie inside is refused
abbrev pub InsideChecked : Window → ℕ → ℕ → Result (Unit {0}) Fault → Type 0
InsideChecked t w h (Ok u) = inside t w h ≡ true
InsideChecked t w h (Err f) = (inside t w h ≡ false) × (f ≡ NoWindow)

-- the sample in the column a and the row b lies in the window
pub record Contains (t : Window) (a b : ℕ) : Type 0 where
  pub left : t.x ≤ a
  pub right : a < t.x + t.width
  pub top : t.y ≤ b
  pub bottom : b < t.y + t.height

-- just one window, which lies inside the picture, contains the sample
pub record ExactlyOne (w h s a b : ℕ) : Type 0 where
  pub the_column : ℕ
  pub the_row : ℕ
  pub the_window : Window
  pub is : window_answer w h s the_column the_row ≡ accepted the_window
  pub lies : inside the_window w h ≡ true
  pub contains : Contains the_window a b
  pub only : (c r : ℕ) (t : Window) → window_answer w h s c r ≡ accepted t → Contains t a b → (c ≡ the_column) × (r ≡ the_row)

-- the windows of a side that is not 0 cover each sample of the picture exactly once
abbrev pub Covered : ℕ → ℕ → ℕ → Type 0
Covered w h s = 0 < s → (a b : ℕ) → a < w → b < h → ExactlyOne w h s a b

-- where the sample in the column i and the row j of a window stands, in rows of `stride` samples
abbrev pub place : ℕ → Window → ℕ → ℕ → ℕ
place stride t i j = (t.y + j) * stride + (t.x + i)

-- the window's rows stand among n samples, in rows of `stride` samples
pub record InRows (stride n : ℕ) (t : Window) : Type 0 where
  pub across : t.x + t.width ≤ stride
  pub fits : t.y + t.height < 2 ^ 64
  pub down : (t.y + t.height) * stride ≤ n

-- `part` holds the samples of the first n rows of a window, row by row
pub record PartRows (stride : ℕ) (xs : List ℕ) (t : Window) (n : ℕ) (part : List ℕ) : Type 0 where
  pub long : length part ≡ n * t.width
  pub here : (i j : ℕ) → i < t.width → j < n → slice_index part (j * t.width + i) ≡ slice_index xs (place stride t i j)

-- `ys` is `xs` with the first n rows of a window as `part` has them
pub record RowsPut (stride : ℕ) (xs : List ℕ) (t : Window) (n : ℕ) (part ys : List ℕ) : Type 0 where
  pub long : length ys ≡ length xs
  pub here : (i j : ℕ) → i < t.width → j < n → slice_index ys (place stride t i j) ≡ slice_index part (j * t.width + i)
  pub others : (k : ℕ) → ((i j : ℕ) → i < t.width → j < n → k ≢ place stride t i j) → slice_index ys k ≡ slice_index xs k

-- the samples of a window that lies inside the picture, unless memory runs out; else a refusal
abbrev pub WindowGiven : Picture → Window → Result (Vec ℕ Global) Fault → Type 0
WindowGiven p t (Ok v) = (inside t p.width p.height ≡ true) × PartRows p.width p.samples t t.height (vec_items v)
WindowGiven p t (Err f) = fault_number f ≡ cond (inside t p.width p.height) no_memory no_window

-- how many whole rows there are in n samples
abbrev pub rows_in : ℕ → ℕ → ℕ
rows_in stride n = cond (stride == 0) 0 (n / stride)

-- whether k samples can be put into a window among n samples
abbrev pub put_answer : ℕ → ℕ → Window → ℕ → Answer (Unit {0})
put_answer stride n t k =
    refuse_if (not (inside t stride (rows_in stride n))) no_window
    (refuse_if (nat_lt k (t.height * t.width)) cut_short
    (refuse_if (nat_lt (t.height * t.width) k) left_over (accepted tt)))

abbrev pub seen_done : Result (Unit {0}) Fault → Answer (Unit {0})
seen_done (Ok u) = accepted tt
seen_done (Err f) = refused (fault_number f)

-- the samples after a put: the window's are those of the part and all others as they were, or all are
abbrev pub AfterPut : Answer (Unit {0}) → ℕ → List ℕ → Window → List ℕ → List ℕ → Type 0
AfterPut (accepted u) stride xs t part ys = RowsPut stride xs t t.height part ys
AfterPut (refused why) stride xs t part ys = ys ≡ xs
