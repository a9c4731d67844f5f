use Rattle.laws_descent.proofs.Names.{headers_agree}
use Rattle.laws_descent.proofs.laws.headers_agree.Goals as goal

pub returns : goal.returns
returns c = headers_agree
