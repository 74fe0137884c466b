use Rattle.nd_serve_command.proofs.ResumedOnce.{one_answer}
use Rattle.nd_serve_command.proofs.laws.resumes_have_one_answer.Goals as goal

pub returns : goal.returns
returns c = one_answer
