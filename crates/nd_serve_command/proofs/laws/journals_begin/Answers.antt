use Rattle.nd_serve_command.proofs.Begins.{journals_begin}
use Rattle.nd_serve_command.proofs.laws.journals_begin.Goals as goal

pub returns : goal.returns
returns c = journals_begin
