use Rattle.proof_extract.proofs.Comparing.{alike_apart, alike_same, collided}
use Rattle.proof_extract.proofs.forms.alike.Goals as goal

pub returns-in-Collision : goal.returns-in-Collision
returns-in-Collision c =
    collided c.args.v.now c.args.w.now c.in_ok-compared.compared c.in-Collision.first c.in-Collision.second
    c.in-Collision.is c.in_ok-compared.ensures

pub returns-in-Same : goal.returns-in-Same
returns-in-Same c =
    alike_same c.args.v.now c.args.w.now c.in_ok-compared.compared c.in-Same.is c.in_ok-compared.ensures

pub returns-in-Differ : goal.returns-in-Differ
returns-in-Differ c =
    alike_apart c.args.v.now c.args.w.now c.in_ok-compared.compared c.in-Differ.is c.in_ok-compared.ensures
