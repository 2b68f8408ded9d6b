-- Windows of a picture, put one after another into a buffer. Assumes nothing.
use Rattle.std.specs.Prelude.{◌≡◌, ℕ, ◌*◌, ◌<◌, ◌⊎◌, List, [], ◌∷◌, length}
use Rattle.netpbm.specs.Answers.{accepted}
use Rattle.netpbm.specs.Windows.{window_answer, PartRows, put_answer, AfterPut}
use Rattle.netpbm.specs.declared.window.Window.{Window}

-- a put: a window, and the part, which is the samples to write there
pub record Put : Type 0 where
  pub into : Window
  pub part : List ℕ

-- what the contract of a put says, where it is accepted: `xs` are the samples before and `ys` those after
pub record PutDone (stride : ℕ) (xs : List ℕ) (p : Put) (ys : List ℕ) : Type 0 where
  pub taken : put_answer stride (length xs) p.into (length p.part) ≡ accepted tt
  pub after : AfterPut (put_answer stride (length xs) p.into (length p.part)) stride xs p.into p.part ys

-- a joining: accepted puts, one after another, make `ys` of `xs`
abbrev pub Joining : ℕ → List ℕ → List Put → List ℕ → Type 0
Joining stride xs [] ys = ys ≡ xs
Joining stride xs (p ∷ ps) ys = (zs : List ℕ) × PutDone stride xs p zs × Joining stride zs ps ys

-- an own window: the put is of a window that a picture of w times h samples is cut into, and its part is what `xs`, the picture's samples, has there
pub record OwnWindow (w h s : ℕ) (xs : List ℕ) (p : Put) : Type 0 where
  pub column : ℕ
  pub row : ℕ
  pub is : window_answer w h s column row ≡ accepted p.into
  pub own : PartRows w xs p.into p.into.height p.part

-- law: no put of an own window into a buffer of the picture's size is refused
unfoldable pub OwnWindowsAreTaken : Type 0
OwnWindowsAreTaken =
    (w h s : ℕ) (xs before : List ℕ) (p : Put)
    → length before ≡ w * h → OwnWindow w h s xs p
    → put_answer w (length before) p.into (length p.part) ≡ accepted tt

-- each put is of an own window
abbrev pub AllOwn : ℕ → ℕ → ℕ → List ℕ → List Put → Type 0
AllOwn w h s xs [] = Unit {0}
AllOwn w h s xs (p ∷ ps) = OwnWindow w h s xs p × AllOwn w h s xs ps

-- some put is into the window
abbrev pub SomeInto : Window → List Put → Type 0
SomeInto t [] = ⊥
SomeInto t (p ∷ ps) = (p.into ≡ t) ⊎ SomeInto t ps

-- law: a joining, in any order, of a picture's own windows, each at least once, leaves the picture's samples, whatever stood there before
unfoldable pub JoinedWindowsAreTheRaster : Type 0
JoinedWindowsAreTheRaster =
    (w h s : ℕ) (xs before after : List ℕ) (ps : List Put)
    → 0 < s → length xs ≡ w * h → length before ≡ w * h
    → Joining w before ps after
    → AllOwn w h s xs ps
    → ((c r : ℕ) (t : Window) → window_answer w h s c r ≡ accepted t → SomeInto t ps)
    → after ≡ xs
