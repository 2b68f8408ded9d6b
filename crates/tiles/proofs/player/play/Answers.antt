use Rattle.std.proofs.Common.{sym, refl, arith}
use Rattle.geometry.specs.declared.corners.Corners.{Corners}
use Rattle.lifting.specs.Meanings.{Lawful, meant}
use Rattle.lifting.specs.Passes.{Breaks}
use Rattle.tiles.specs.Law.{ServesLikeTheReference}
use Rattle.tiles.proofs.Sessions.{the_law, none_made, one_more, session, stopped}
use Rattle.tiles.proofs.player.play.Given as given
use Rattle.tiles.proofs.player.play.Goals as goal

-- the kind and the step that are given keep their meaning
lawful : (g : given.Over) (s : g.row.S.Denot) → Lawful (meant g.S.Sample.Sample.kind (g.S.Step.rule s))
lawful g s = record { kind = g.met.S.Sample.Sample.lawful; step = g.met.S.Step.lawful s }

law : (g : given.Over) (s : g.row.S.Denot) (c home : Corners) (broken : Breaks) → ServesLikeTheReference (meant g.S.Sample.Sample.kind (g.S.Step.rule s)) c home broken
law g s = the_law _ (lawful g s)

pub returns-in_err-tile-clause-law : goal.returns-in_err-tile-clause-law
returns-in_err-tile-clause-law g c = law g c.args.step.now _ _ _

pub returns-in_err-events-clause-law : goal.returns-in_err-events-clause-law
returns-in_err-events-clause-law g c = law g c.args.step.now _ _ _

pub loop-call-init : goal.loop-call-init
loop-call-init g c = record { made = none_made _ _ _ _ _ _ c.in_ok-events.ensures.items; room = c.in_ok-events.ensures.capacity }

pub returns-in_default-clause-played : goal.returns-in_default-clause-played
returns-in_default-clause-played g c =
    let none = c.in_default.ensures in
    session _ _ _ (lawful g c.args.step.now) _ _ _ _ _ _ _ _ _ c.all_known.ensures c.in_ok-tile.ensures c.loop-call.invariant.made (sym none.1)
    (stopped _ _ _ _ c.call-item.is none.0)

pub returns-in_default-clause-law : goal.returns-in_default-clause-law
returns-in_default-clause-law g c = law g c.args.step.now _ _ _

pub loop-call-preserved : goal.loop-call-preserved
loop-call-preserved g c =
    let done = rw c.in-Some.is at c.make.ensures in
    let inv = c.loop-call.invariant in
    record {
      made = one_more _ _ _ _ _ _ _ _ _ _ _ _ inv.made c.loop-call-test.true c.call-item.is done.0 done.1 c.event.ensures (rw c.unwrap.ensures at c.push.ensures.items);
      room = omega (arith, inv.room, c.push.ensures.capacity);
    }

pub returns-clause-played : goal.returns-clause-played
returns-clause-played g c =
    session _ _ _ (lawful g c.args.step.now) _ _ _ _ _ _ _ _ _ c.all_known.ensures c.in_ok-tile.ensures c.loop-call.invariant.made refl
    (λ call lt is. absurd (omega (arith, c.loop-call-test.false, lt)))

pub returns-clause-law : goal.returns-clause-law
returns-clause-law g c = law g c.args.step.now _ _ _
