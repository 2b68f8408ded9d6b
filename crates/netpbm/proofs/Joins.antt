-- A picture's own windows, joined, are the picture. Assumes nothing.
use Rattle.std.proofs.Common.{◌≡◌, ℕ, ◌+◌, ◌-◌, ◌*◌, ◌/◌, ◌%◌, ◌<◌, ◌≤◌, true, ◌⊎◌, List, [], ◌∷◌, length, get_or, sym, ap, ◌∙◌, subst, ⊎_elim, mul_comm, arith}
use Rattle.std.proofs.lemmas.Nat.{rows, div-add-mod', mod_below, div_below, div-mul-add, mod-mul-add}
use Rattle.std.proofs.lemmas.List.{ext_get_or}
use Rattle.std.proofs.lemmas.Bool.Decides.{nat_tests}
use Rattle.netpbm.specs.Answers.{Answer, accepted}
use Rattle.netpbm.specs.Windows.{inside, Contains, place, PartRows, RowsPut, rows_in, put_answer, AfterPut}
use Rattle.netpbm.specs.Joins.{Put, PutDone, Joining, AllOwn, SomeInto, OwnWindowsAreTaken, JoinedWindowsAreTheRaster}
use Rattle.netpbm.specs.declared.window.Window.{Window}
use Rattle.netpbm.proofs.Covers.{inside_from, is_cut, covered}

cases_contains : (t : Window) (a b : ℕ) → Contains t a b ⊎ (Contains t a b → ⊥)
cases_contains t a b = grind arith

rows_whole : (w h n : ℕ) → 0 < w → n ≡ w * h → rows_in w n ≡ h
rows_whole w h n p e = grind (arith, nat_tests, rows)

put_accepted : (w n : ℕ) (t : Window) (k : ℕ) → inside t w (rows_in w n) ≡ true → k ≡ t.height * t.width → put_answer w n t k ≡ accepted tt
put_accepted w n t k e f = grind (arith, nat_tests)

accepted_inside : (w n : ℕ) (t : Window) (k : ℕ) → put_answer w n t k ≡ accepted tt → t.x + t.width ≤ w
accepted_inside w n t k e = grind (arith, nat_tests)

pub own_taken : OwnWindowsAreTaken
unfolding OwnWindowsAreTaken
own_taken w h s xs before p long o =
    let t : Window = p.into in
    let n : ℕ = length before in
    let k = is_cut w h s o.column o.row t o.is in
    let high = rows_whole w h n (omega arith) long in
    put_accepted w n t (length p.part) (inside_from t w (rows_in w n) (omega arith) (omega arith)) o.own.long

-- a put that is accepted lies within the rows, and writes them
module _ (w : ℕ) (zs : List ℕ) (p : Put) (ys : List ℕ) (d : PutDone w zs p ys) where
  done_wide : p.into.x + p.into.width ≤ w
  done_wide = accepted_inside w (length zs) p.into (length p.part) d.taken

  done_rows : RowsPut w zs p.into p.into.height p.part ys
  done_rows = subst (λ (a : Answer (Unit {0})). AfterPut a w zs p.into p.part ys) d.taken d.after

-- the sample in the column a and the row b, through the puts
module _ (w : ℕ) (xs : List ℕ) (a b : ℕ) (la : a < w) where
  abbrev Right : List ℕ → Type 0
  Right ys = get_or ys (b * w + a) 0 ≡ get_or xs (b * w + a) 0

  put_right : (zs : List ℕ) (p : Put) (ys : List ℕ) → PutDone w zs p ys → PartRows w xs p.into p.into.height p.part → Contains p.into a b → Right ys
  put_right zs p ys d o k =
      let t : Window = p.into in
      let i : ℕ = a - t.x in
      let j : ℕ = b - t.y in
      let l1 = k.left in let l2 = k.right in let l3 = k.top in let l4 = k.bottom in
      let ei : t.x + i ≡ a = omega arith in
      let ej : t.y + j ≡ b = omega arith in
      let e : place w t i j ≡ b * w + a = (λ q. ej q * w + ei q) in
      let li : i < t.width = omega arith in
      let lj : j < t.height = omega arith in
      ap (λ (q : ℕ). get_or ys q 0) (sym e) ∙ (done_rows w zs p ys d).here i j li lj ∙ o.here i j li lj ∙ ap (λ (q : ℕ). get_or xs q 0) e

  put_keeps : (zs : List ℕ) (p : Put) (ys : List ℕ) → PutDone w zs p ys → PartRows w xs p.into p.into.height p.part → Right zs → Right ys
  put_keeps zs p ys d o r =
      let t : Window = p.into in
      let wide = done_wide w zs p ys d in
      ⊎_elim
      (λ (k : Contains t a b). put_right zs p ys d o k)
      (λ (no_more : Contains t a b → ⊥).
      (done_rows w zs p ys d).others (b * w + a)
      (λ i j li lj e.
      let eb : b ≡ t.y + j = sym (div-mul-add b w a la) ∙ ap (λ (q : ℕ). q / w) e ∙ div-mul-add (t.y + j) w (t.x + i) (omega arith) in
      let ea : a ≡ t.x + i = sym (mod-mul-add b w a la) ∙ ap (λ (q : ℕ). q % w) e ∙ mod-mul-add (t.y + j) w (t.x + i) (omega arith) in
      no_more (record { left = omega arith; right = omega arith; top = omega arith; bottom = omega arith }))
      ∙ r)
      (cases_contains t a b)

  module _ (h s : ℕ) where
    stays_right : (zs : List ℕ) (ps : List Put) (ys : List ℕ) → Joining w zs ps ys → AllOwn w h s xs ps → Right zs → Right ys
    stays_right zs [] ys e o r = ap (λ (q : List ℕ). get_or q (b * w + a) 0) e ∙ r
    stays_right zs (p ∷ ps) ys e o r = stays_right e.0 ps ys e.2 o.1 (put_keeps zs p e.0 e.1 o.0.own r)

    comes_right : (t : Window) → Contains t a b → (zs : List ℕ) (ps : List Put) (ys : List ℕ) → Joining w zs ps ys → AllOwn w h s xs ps → SomeInto t ps → Right ys
    comes_right t k zs [] ys e o m = absurd m
    comes_right t k zs (p ∷ ps) ys e o m =
        ⊎_elim
        (λ (here : p.into ≡ t). stays_right e.0 ps ys e.2 o.1 (put_right zs p e.0 e.1 o.0.own (subst (λ (q : Window). Contains q a b) (sym here) k)))
        (λ (later : SomeInto t ps). comes_right t k e.0 ps ys e.2 o.1 later)
        m

joining_long : (w : ℕ) (zs : List ℕ) (ps : List Put) (ys : List ℕ) → Joining w zs ps ys → length ys ≡ length zs
joining_long w zs [] ys e = ap length e
joining_long w zs (p ∷ ps) ys e = joining_long w e.0 ps ys e.2 ∙ (done_rows w zs p e.0 e.1).long

pub joined_windows : JoinedWindowsAreTheRaster
unfolding JoinedWindowsAreTheRaster
joined_windows w h s xs before after ps pos lx lb e o each =
    let long = joining_long w before ps after e in
    ext_get_or 0 after xs (long ∙ lb ∙ sym lx)
    (λ k l.
    let wide : 0 < w = grind arith in
    let a : ℕ = k % w in
    let b : ℕ = k / w in
    let la : a < w = mod_below k w wide in
    let lr : b < h = div_below k w h wide (omega (arith, mul_comm w h)) in
    let one = covered w h s pos a b la lr in
    let at : k ≡ b * w + a = sym (div-add-mod' k w) in
    ap (λ (q : ℕ). get_or after q 0) at
    ∙ comes_right w xs a b la h s one.the_window one.contains before ps after e o (each one.the_column one.the_row one.the_window one.is)
    ∙ ap (λ (q : ℕ). get_or xs q 0) (sym at))
