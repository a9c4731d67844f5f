use Rattle.ion_extract.proofs.Arms.{lists_agree}
use Rattle.ion_extract.proofs.Levels.{bytes_determine_bodies}
use Rattle.ion_extract.proofs.find.lists_are_alike.Goals as goal

pub returns : goal.returns
returns c =
    let alike = c.requires.bodies in
    lists_agree c.args.a.now c.args.b.now c.args.vs.now c.args.ws.now c.requires.left c.requires.right
    (bytes_determine_bodies c.args.a.now c.args.b.now alike.1 alike.2 alike.0)
