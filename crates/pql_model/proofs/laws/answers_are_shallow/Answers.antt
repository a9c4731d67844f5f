use Rattle.pql_model.proofs.AnswerDepths as answers
use Rattle.pql_model.proofs.laws.answers_are_shallow.Goals as goal

pub returns : goal.returns
returns c = answers.answers_are_shallow
