use Rattle.geometry.specs.Frames.{corners_of}
use Rattle.geometry.specs.Places.{place}
use Rattle.geometry.proofs.Points.{places}
use Rattle.breaks.proofs.labels.LabelMap.label.Goals as goal

pub bounds-self-p : goal.bounds-self-p
unfolding place
bounds-self-p c =
    let within = (places (corners_of c.args.self.now.frame)).within c.args.p c.requires in
    rw (c.corners-c.ensures, c.args.self.now.whole) within
