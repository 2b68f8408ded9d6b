-- A list of calls that is played grows by a call. Assumes nothing.
use Rattle.std.proofs.Common.{◌≡◌, ℕ, ◌+◌, ◌<◌, ◌≤◌, true, false, not, eqb, List, [], ◌∷◌, ◌++◌, map, length, get_or, take, sym, refl, ap, ◌∙◌, subst, ap₂, subst₂, arith, length-append}
use Rattle.std.proofs.lemmas.List.{take_more, map_push, get_or_default}
use Rattle.std.proofs.lemmas.Bool.{eqb-true, not-false}
use Rattle.geometry.specs.declared.corners.Corners.{Corners}
use Rattle.geometry.specs.Places.{plane_length}
use Rattle.geometry.specs.Refusals.{accepted}
use Rattle.lifting.specs.Meanings.{Meaning, Lawful}
use Rattle.lifting.specs.Passes.{Breaks}
use Rattle.lifting.proofs.StageLaws.{one_picture}
use Rattle.tiles.specs.declared.call.Call.{Call}
use Rattle.tiles.specs.declared.event.Event.{Event}
use Rattle.tiles.specs.declared.state.State.{State}
use Rattle.tiles.specs.Law.{ServesLikeTheReference}
use Rattle.tiles.specs.Plays.{Played}
use Rattle.tiles.specs.Reference.{reference}
use Rattle.tiles.specs.Runs.{Run, HeldCall, HeldCalls, last_seen}
use Rattle.tiles.specs.Tiles.{Seen, Moment, Called, opened, open_answer, allowed}
use Rattle.tiles.specs.Views.{Told, event_told, moment_told}
use Rattle.tiles.proofs.Outcomes.{passes, is_allowed}
use Rattle.tiles.proofs.References.{runs_are_the_references, last_shown}
use Rattle.tiles.proofs.Sides.{runs_stay_apart}

-- the law of the service
pub the_law : {K : Type 0} (m : Meaning K) → Lawful m → (c home : Corners) (broken : Breaks) → ServesLikeTheReference m c home broken
the_law m laws c home broken = record {
  runs_are_the_references = runs_are_the_references m laws c home broken;
  runs_stay_apart = runs_stay_apart m c home broken;
  every_plane_has_one_picture = one_picture m laws c broken;
  only_allowed_calls = is_allowed m home broken;
}

-- a tile that was opened has a plane of the right length
pub opened_long : {K : Type 0} (c : Corners) (w : State) (xs : List K) (u : Seen K) → accepted u ≡ open_answer c w xs → (length xs ≡ plane_length c) × (u ≡ opened c w xs)
opened_long c w xs u e =
    let past = passes (not (eqb (length xs) (plane_length c))) 4 (accepted (opened c w xs)) u (sym e) in
    (eqb-true (length xs) (plane_length c) (not-false _ past.0), cc past.1)

-- no call after the first k is allowed where the next of them is not
pub stopped : {K : Type 0} (calls : List (Call K)) (w : State) (k : ℕ) (next : Call K) → next ≡ get_or calls k next → allowed w next ≡ false →
    (call : Call K) → k < length calls → call ≡ get_or calls k call → allowed w call ≡ false
stopped calls w k next is no_way call lt reads = ap (allowed w) (reads ∙ get_or_default calls k call next lt ∙ sym is) ∙ no_way

module _ {K : Type 0} (m : Meaning K) (home : Corners) (broken : Breaks) where
  -- the first k calls were made on the tile t, came to these events, and left the tile as u
  pub record Made (t : Seen K) (calls : List (Call K)) (events : List (Event K)) (u : Seen K) (k : ℕ) : Type 0 where
    pub within : k ≤ length calls
    pub count : length events ≡ k
    pub held : HeldCalls m (take k calls)
    pub moments : List (Moment K)
    pub run : Run m home broken t (take k calls) moments
    pub told : map event_told events ≡ map moment_told moments
    pub last : last_seen t moments ≡ u

  pub none_made : (t : Seen K) (calls : List (Call K)) (events : List (Event K)) → events ≡ [] → Made t calls events t 0
  none_made t calls events e = record { within = omega arith; count = ap length e; held = tt; moments = []; run = tt; told = ap (map event_told) e; last = refl }

  run_more : (t : Seen K) (bs : List (Call K)) (ns : List (Moment K)) (call : Call K) (n : Moment K) → Run m home broken t bs ns → Called m home broken (last_seen t ns) call n →
      Run m home broken t (bs ++ call ∷ []) (ns ++ n ∷ [])
  run_more t [] [] call n r d = (d, tt)
  run_more t [] (o ∷ ns) call n r d = absurd r
  run_more t (b ∷ bs) [] call n r d = absurd r
  run_more t (b ∷ bs) (o ∷ ns) call n r d = (r.0, run_more o.seen bs ns call n r.1 d)

  held_more : (bs : List (Call K)) (call : Call K) → HeldCalls m bs → HeldCall m call → HeldCalls m (bs ++ call ∷ [])
  held_more [] call hs h = (h, tt)
  held_more (b ∷ bs) call hs h = (hs.0, held_more bs call hs.1 h)

  last_more : (t : Seen K) (ns : List (Moment K)) (n : Moment K) → last_seen t (ns ++ n ∷ []) ≡ n.seen
  last_more t [] n = refl
  last_more t (o ∷ ns) n = last_more o.seen ns n

  pub one_more : (t u : Seen K) (calls : List (Call K)) (events after : List (Event K)) (k : ℕ) (call : Call K) (e : Event K) (n : Moment K) →
      Made t calls events u k → k < length calls → call ≡ get_or calls k call → HeldCall m call → Called m home broken u call n →
      event_told e ≡ moment_told n → after ≡ events ++ e ∷ [] → Made t calls after n.seen (k + 1)
  one_more t u calls events after k call e n made lt is held called tells grown =
      let ns = made.moments in
      let more : take (k + 1) calls ≡ take k calls ++ call ∷ [] = take_more calls k call lt ∙ ap (λ (b : Call K). take k calls ++ b ∷ []) (sym is) in
      record {
        within = omega arith;
        count = ap length grown ∙ length-append events (e ∷ []) ∙ ap (λ (j : ℕ). j + 1) made.count;
        held = rw more (held_more (take k calls) call made.held held);
        moments = ns ++ n ∷ [];
        run = rw more (run_more t (take k calls) ns call n made.run (rw made.last called));
        told = ap (map event_told) grown ∙ map_push event_told events e ∙ ap₂ (λ (xs : List (Told K)) (x : Told K). xs ++ x ∷ []) made.told tells ∙ sym (map_push moment_told ns n);
        last = last_more t ns n;
      }

  -- the calls that were made on a tile that was opened over a plane of held samples are what was played, if no call is left or the
  -- state does not allow the next
  pub session : Lawful m → (c : Corners) (w : State) (xs ys : List K) (calls : List (Call K)) (events : List (Event K)) (t u : Seen K) (k : ℕ) →
      ((j : ℕ) → m.kind.held (get_or xs j m.kind.nothing) ≡ true) → accepted t ≡ open_answer c w xs → Made t calls events u k → u.plane ≡ ys →
      ((call : Call K) → k < length calls → call ≡ get_or calls k call → allowed u.tile.state call ≡ false) →
      (open_answer c w xs ≡ accepted (opened c w xs)) × Played m c home broken w xs calls events ys
  session laws c w xs ys calls events t u k held is_open begun plane stop =
      let o = opened_long c w xs t is_open in
      let made : Made (opened c w xs) calls events u (length events) = subst₂ (λ (x : Seen K) (j : ℕ). Made x calls events u j) o.1 (sym begun.count) begun in
      let left : (last_seen (opened c w xs) made.moments).plane ≡ ys = ap (λ (x : Seen K). x.plane) made.last ∙ plane in
      let done = take (length events) calls in (
        sym is_open ∙ ap accepted o.1,
        record {
          within = made.within;
          opens = record { long = o.0; held = held };
          held = made.held;
          moments = made.moments;
          run = made.run;
          told = made.told;
          left = left;
          stopped = λ call lt is.
              ap (λ (x : Seen K). allowed x.tile.state call) made.last ∙ stop call (rw (sym begun.count) lt) (subst (λ (j : ℕ). call ≡ get_or calls j call) begun.count is);
          as_the_reference = λ p pp with-p.
              let q = reference c w p in
              let ran = runs_are_the_references m laws c home broken w xs p pp with-p done made.moments made.held made.run in (
                made.told ∙ ap (map moment_told) ran.after_each,
                sym left ∙ ap (λ (x : Seen K). x.plane) (ap₂ last_seen ran.on_opening ran.after_each ∙ last_shown m laws c home broken q done),
              );
        },
      )
