-- Rows of a window, read and written. Assumes nothing.
use Rattle.std.proofs.Common.{◌≡◌, ℕ, ◌+◌, ◌-◌, ◌*◌, ◌^◌, ◌<◌, ◌≤◌, true, List, ◌++◌, length, get_or, take, drop, sym, ap, ◌∙◌, ⊎_elim, add-mul, mul_comm, arith, length-append, length-drop}
use borrow.Rule.Slice.PartMut.{put_mid}
use Rattle.std.proofs.lemmas.Nat.{mul-le, rows}
use Rattle.std.proofs.lemmas.List.{length-take-le, get_or_append_left, get_or-append_right, get_or-take, get_or-drop, take-append-drop, ext_get_or}
use Rattle.std.proofs.lemmas.Grind.{common_steps}
use Rattle.std.proofs.lemmas.Bool.Decides.{nat_tests}
use Rattle.std.proofs.lemmas.Bool.{cases_lt}
use Rattle.netpbm.specs.Windows.{inside, InRows, place, PartRows, RowsPut, rows_in}
use Rattle.netpbm.specs.declared.window.Window.{Window}

-- a row of the window ends within its rows
pub row_room : (t : Window) (stride n j : ℕ) → InRows stride n t → j < t.height → (t.y + j) * stride + t.x + t.width ≤ n
row_room t stride n j h l = grind arith

-- its rows lie within what stands from the first of them on
pub rows_below : (t : Window) (stride : ℕ) (xs : List ℕ) → InRows stride (length xs) t → t.height * stride ≤ length (drop (t.y * stride) xs)
rows_below t stride xs h = omega (arith, h.down, add-mul t.y t.height stride, length-drop (t.y * stride) xs)

-- a window that lies inside a picture of w times h samples
pub inside_rows : (t : Window) (w h n : ℕ) → inside t w h ≡ true → n ≡ w * h → h < 2 ^ 64 → InRows w n t
inside_rows t w h n i e l =
    let below : t.y + t.height ≤ h = grind (arith, nat_tests) in
    let m = mul-le (t.y + t.height) w h w below (omega arith) in
    record { across = grind (arith, nat_tests); fits = omega arith; down = omega (arith, mul_comm w h) }

-- a window that lies inside as many rows as there are whole ones
pub rows_inside : (t : Window) (w n h : ℕ) → h ≡ rows_in w n → inside t w h ≡ true → n < 2 ^ 64 → InRows w n t
rows_inside t w n h e i l = record { across = grind (arith, nat_tests); fits = grind (arith, nat_tests, rows); down = grind (arith, nat_tests, rows) }

-- cutting
pub cut_more : (stride : ℕ) (xs : List ℕ) (t : Window) (n : ℕ) (out new : List ℕ) → PartRows stride xs t n out → (t.y + n) * stride + t.x + t.width ≤ length xs → new ≡ out ++ take t.width (drop ((t.y + n) * stride + t.x) xs) → PartRows stride xs t (n + 1) new
cut_more stride xs t n out new p room e =
    let w : ℕ = t.width in
    let s : ℕ = (t.y + n) * stride + t.x in
    let row : List ℕ = take w (drop s xs) in
    let lr : length row ≡ w = length-take-le w (drop s xs) (let d = length-drop s xs in omega arith) in
    let lo = p.long in
    let m1 = add-mul n 1 w in
    let la = length-append out row in
    record {
      long = ap length e ∙ la ∙ omega arith;
      here = λ i j a b.
          ap (λ (q : List ℕ). get_or q (j * w + i) 0) e ∙
          ⊎_elim
          (λ (h : j < n).
          let m = mul-le (j + 1) w n w (omega arith) (omega arith) in
          let f = add-mul j 1 w in
          get_or_append_left out row 0 (j * w + i) (omega arith) ∙ p.here i j a h)
          (λ (h : n ≤ j).
          let same : j ≡ n = omega arith in
          let at : j * w + i ≡ n * w + i = ap (λ (q : ℕ). q * w + i) same in
          let there : s + i ≡ place stride t i n = omega arith in
          get_or-append_right out row (n * w) (j * w + i) 0 lo (omega arith)
          ∙ ap (λ (q : ℕ). get_or row q 0) (omega arith)
          ∙ get_or-take w (drop s xs) i 0 a ∙ get_or-drop s xs i 0
          ∙ ap (λ (q : ℕ). get_or xs q 0) (there ∙ ap (place stride t i) (sym same)))
          (cases_lt j n);
    }

-- an element after a write to the part from a on
mid_in : (a k : ℕ) (xs ys : List ℕ) (i : ℕ) → a ≤ length xs → i < length ys → get_or (put_mid a k xs ys) (a + i) 0 ≡ get_or ys i 0
mid_in a k xs ys i l h = grind (arith, common_steps)

mid_below : (a k : ℕ) (xs ys : List ℕ) (q : ℕ) → a ≤ length xs → q < a → get_or (put_mid a k xs ys) q 0 ≡ get_or xs q 0
mid_below a k xs ys q l h = grind (arith, common_steps)

mid_above : (a k : ℕ) (xs ys : List ℕ) (q : ℕ) → a ≤ length xs → length ys ≡ k → a + k ≤ q → get_or (put_mid a k xs ys) q 0 ≡ get_or xs q 0
mid_above a k xs ys q l e h = grind (arith, common_steps)

-- putting
module _ (stride : ℕ) (xs : List ℕ) (t : Window) (n : ℕ) (part ys row new : List ℕ) (below : n < t.height) (lies : InRows stride (length xs) t) (whole : length part ≡ t.height * t.width) (is : row ≡ take t.width (drop (n * t.width) part)) (after : new ≡ put_mid ((t.y + n) * stride + t.x) t.width ys row) where
  row_long : length row ≡ t.width
  row_long = grind (arith, common_steps)

  row_at : (i : ℕ) → i < t.width → get_or row i 0 ≡ get_or part (n * t.width + i) 0
  row_at i h = grind (arith, common_steps)

  pub put_more : RowsPut stride xs t n part ys → RowsPut stride xs t (n + 1) part new
  put_more p =
      let w : ℕ = t.width in
      let s : ℕ = (t.y + n) * stride + t.x in
      let l = p.long in
      let r = row_room t stride (length xs) n lies below in
      let k = row_long in
      record {
        long = grind (arith, common_steps);
        here = λ i j a b.
            ap (λ (q : List ℕ). get_or q (place stride t i j) 0) after ∙
            ⊎_elim
            (λ (h : j < n).
            let m = mul-le (t.y + j + 1) stride (t.y + n) stride (omega arith) (omega arith) in
            let f = add-mul (t.y + j) 1 stride in
            mid_below s w ys row (place stride t i j) (omega arith) (omega arith) ∙ p.here i j a h)
            (λ (h : n ≤ j).
            let same : j ≡ n = omega arith in
            let there : place stride t i n ≡ s + i = omega arith in
            ap (λ (q : ℕ). get_or (put_mid s w ys row) q 0) (ap (place stride t i) same ∙ there)
            ∙ mid_in s w ys row i (omega arith) (omega arith) ∙ row_at i a ∙ ap (λ (q : ℕ). get_or part (q * w + i) 0) (sym same))
            (cases_lt j n);
        others = λ q f.
            let before = p.others q (λ i j a b e. f i j a (omega arith) e) in
            ap (λ (z : List ℕ). get_or z q 0) after ∙
            ⊎_elim
            (λ (h : q < s). mid_below s w ys row q (omega arith) h ∙ before)
            (λ (h : s ≤ q).
            ⊎_elim
            (λ (g : q < s + w). absurd (f (q - s) n (omega arith) (omega arith) (omega arith)))
            (λ (g : s + w ≤ q). mid_above s w ys row q (omega arith) k g ∙ before)
            (cases_lt q (s + w)))
            (cases_lt q s);
      }

  pub own_more : PartRows stride xs t t.height part → ys ≡ xs → new ≡ xs
  own_more p e =
      let w : ℕ = t.width in
      let s : ℕ = (t.y + n) * stride + t.x in
      let r = row_room t stride (length xs) n lies below in
      let k = row_long in
      let lr : length (take w (drop s xs)) ≡ w = length-take-le w (drop s xs) (let d = length-drop s xs in omega arith) in
      let same : row ≡ take w (drop s xs) = ext_get_or 0 row (take w (drop s xs)) (k ∙ sym lr)
      (λ i h.
      let a : i < w = omega arith in
      row_at i a ∙ p.here i n a below ∙ ap (λ (q : ℕ). get_or xs q 0) (omega arith) ∙ sym (get_or-take w (drop s xs) i 0 a ∙ get_or-drop s xs i 0)) in
      after ∙ (λ i. put_mid s w (e i) (same i)) ∙ ap (λ (q : List ℕ). take s xs ++ q) (take-append-drop w (drop s xs)) ∙ take-append-drop s xs
