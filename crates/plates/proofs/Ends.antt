-- The least and the greatest of some numbers. Assumes nothing.
use Rattle.std.proofs.Common.{◌≡◌, Bool, true, false, cond, List, [], ◌∷◌, ℤ, pos, fold, Option, sym, refl, ap, ◌∙◌, arith, slice_index_or, int_lt}
use Rattle.std.specs.Int.{int_max, int_min}
use Rattle.std.specs.List.{reduce}
use Rattle.std.specs.Option.{unwrap_or}
use Rattle.std.specs.declared.cmp.Ordering.TheVariants.{Less, Equal, Greater}
use Rattle.std.specs.Ordering.{int_cmp, max_by_ordering, min_by_ordering}
use Rattle.std.proofs.lemmas.Int.{ints}

lesser : (x y : ℤ) (a b : Bool) → int_lt x y ≡ a → int_lt y x ≡ b → min_by_ordering (cond a Less (cond b Greater Equal)) x y ≡ cond b y x
lesser x y true true less more = absurd (grind (arith, ints, less, more))
lesser x y true false less more = refl
lesser x y false true less more = refl
lesser x y false false less more = refl

greater : (x y : ℤ) (a b : Bool) → int_lt x y ≡ a → int_lt y x ≡ b → max_by_ordering (cond a Less (cond b Greater Equal)) x y ≡ cond b x y
greater x y true true less more = absurd (grind (arith, ints, less, more))
greater x y true false less more = refl
greater x y false true less more = refl
greater x y false false less more = refl

same : (x : ℤ) (b : Bool) → cond b x x ≡ x
same x true = refl
same x false = refl

-- what `min` and `max` find, or 0 of no numbers
pub least_of : (xs : List ℤ) (m : Option ℤ) (r : ℤ) → m ≡ reduce (λ x y. min_by_ordering (int_cmp x y) x y) xs → r ≡ unwrap_or m (pos 0) →
    r ≡ fold int_min (slice_index_or xs 0 (pos 0)) xs
least_of [] m r e f = f ∙ ap (λ (o : Option ℤ). unwrap_or o (pos 0)) e
least_of (x ∷ xs) m r e f =
    f ∙ ap (λ (o : Option ℤ). unwrap_or o (pos 0)) e ∙ (λ i. fold (λ y z. lesser y z (int_lt y z) (int_lt z y) refl refl i) x xs)
    ∙ ap (λ (y : ℤ). fold int_min y xs) (sym (same x (int_lt x x)))

pub greatest_of : (xs : List ℤ) (m : Option ℤ) (r : ℤ) → m ≡ reduce (λ x y. max_by_ordering (int_cmp x y) x y) xs → r ≡ unwrap_or m (pos 0) →
    r ≡ fold int_max (slice_index_or xs 0 (pos 0)) xs
greatest_of [] m r e f = f ∙ ap (λ (o : Option ℤ). unwrap_or o (pos 0)) e
greatest_of (x ∷ xs) m r e f =
    f ∙ ap (λ (o : Option ℤ). unwrap_or o (pos 0)) e ∙ (λ i. fold (λ y z. greater y z (int_lt y z) (int_lt z y) refl refl i) x xs)
    ∙ ap (λ (y : ℤ). fold int_max y xs) (sym (same x (int_lt x x)))
