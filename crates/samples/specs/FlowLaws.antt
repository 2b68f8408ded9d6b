-- The laws of flows, from those of numbers. Assumes nothing.
use Rattle.std.specs.Prelude.{◌≡◌, ℕ, Bool, true, false, ◌&&◌, ℤ, refl}
use Rattle.std.proofs.Common.{arith}
use Rattle.samples.specs.declared.flow.Flow.{Flow}
use Rattle.samples.specs.Kinds.{KindLaws, DeltaLaws}
use Rattle.samples.specs.Numbers.{fits32}
use Rattle.samples.specs.Flows.{flows}
use Rattle.samples.specs.NumberLaws.{number_lawful, number_additive}

both : (s t : Bool) → s ≡ true → t ≡ true → s && t ≡ true
both s t p q = rw (p, q)

parts : (s t : Bool) → s && t ≡ true → (s ≡ true) × (t ≡ true)
parts true t e = (refl, e)
parts false t e = absurd (let z : ◌≡◌ {A = ℕ} 0 1 = cc in omega arith)

-- a flow is held exactly where both parts are
pub held_parts : (a : Flow) → flows.held a ≡ true → (fits32 a.dx ≡ true) × (fits32 a.dy ≡ true)
held_parts a h = parts _ _ h

pub parts_held : (a : Flow) → fits32 a.dx ≡ true → fits32 a.dy ≡ true → flows.held a ≡ true
parts_held a p q = both _ _ p q

flow : ℤ → ℤ → Flow
flow x y = record { dx = x; dy = y }

same : (a b : Flow) → a.dx ≡ b.dx → a.dy ≡ b.dy → a ≡ b
unfolding flow
same a b p q = let e : flow a.dx a.dy ≡ flow b.dx b.dy = rw (p, q) in e

pub flow_lawful : KindLaws flows
flow_lawful =
    let n = number_lawful in
    record {
      nothing_held = refl;
      joined_held = λ a b p q.
          let h = held_parts a p in
          let k = held_parts b q in
          parts_held (flows.joined a b) (n.joined_held a.dx b.dx h.0 k.0) (n.joined_held a.dy b.dy h.1 k.1);
      taken_held = λ a b p q.
          let h = held_parts a p in
          let k = held_parts b q in
          parts_held (flows.taken a b) (n.taken_held a.dx b.dx h.0 k.0) (n.taken_held a.dy b.dy h.1 k.1);
      join_nothing = λ a p.
          let h = held_parts a p in
          same _ _ (n.join_nothing a.dx h.0) (n.join_nothing a.dy h.1);
      take_undoes_join = λ a b p q.
          let h = held_parts a p in
          let k = held_parts b q in
          same _ _ (n.take_undoes_join a.dx b.dx h.0 k.0) (n.take_undoes_join a.dy b.dy h.1 k.1);
      join_undoes_take = λ a b p q.
          let h = held_parts a p in
          let k = held_parts b q in
          same _ _ (n.join_undoes_take a.dx b.dx h.0 k.0) (n.join_undoes_take a.dy b.dy h.1 k.1);
    }

pub flow_additive : DeltaLaws flows
flow_additive =
    let n = number_additive in
    record {
      commutes = λ a b p q.
          let h = held_parts a p in
          let k = held_parts b q in
          same _ _ (n.commutes a.dx b.dx h.0 k.0) (n.commutes a.dy b.dy h.1 k.1);
      associates = λ a b c p q r.
          let h = held_parts a p in
          let k = held_parts b q in
          let l = held_parts c r in
          same _ _ (n.associates a.dx b.dx c.dx h.0 k.0 l.0) (n.associates a.dy b.dy c.dy h.1 k.1 l.1);
    }
