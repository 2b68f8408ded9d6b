use Rattle.geometry.specs.Frames.{corners_of}
use Rattle.geometry.proofs.Points.{places}
use Rattle.geometry.proofs.frame.Frame.place.Goals as goal

pub returns-then-not-contains-clause-laws : goal.returns-then-not-contains-clause-laws
returns-then-not-contains-clause-laws c = places (corners_of c.args.self.now)

pub returns-clause-laws : goal.returns-clause-laws
returns-clause-laws c = places (corners_of c.args.self.now)
