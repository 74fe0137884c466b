use Rattle.nd_commands.proofs.Answering.{flushed_whole, flushed_part, flushed_mark, unflushed_part, unflushed_mark}
use Rattle.nd_commands.proofs.simulation.simulate.Goals as goal

pub returns-in-Ok-clause-written : goal.returns-in-Ok-clause-written
returns-in-Ok-clause-written g c =
    flushed_whole c.play-answer.result c.args.dispatch.now.inputs c.args.commands.items (g.W.Write.contents c.args.out.now.device)
    (g.W.Write.contents c.play-answer.new.out.device) (g.W.Write.contents c.flush.new.self.device) c.play-answer.ensures.written c.flush.ensures.kept

pub returns-in-Ok-clause-partly : goal.returns-in-Ok-clause-partly
returns-in-Ok-clause-partly g c =
    flushed_part c.play-answer.result c.args.dispatch.now.inputs c.args.commands.items (g.W.Write.contents c.args.out.now.device)
    (g.W.Write.contents c.play-answer.new.out.device) (g.W.Write.contents c.flush.new.self.device) c.play-answer.ensures.partly c.flush.ensures.kept

pub returns-in-Ok-clause-mark : goal.returns-in-Ok-clause-mark
returns-in-Ok-clause-mark g c =
    flushed_mark _ c.args.out.now.is_marked c.play-answer.new.out.is_marked c.flush.new.self.is_marked c.play-answer.ensures.mark c.in-Ok.ensures.mark

pub returns-in-Err-clause-partly : goal.returns-in-Err-clause-partly
returns-in-Err-clause-partly g c =
    unflushed_part c.play-answer.result c.args.dispatch.now.inputs c.args.commands.items (g.W.Write.contents c.args.out.now.device)
    (g.W.Write.contents c.play-answer.new.out.device) (g.W.Write.contents c.flush.new.self.device) c.play-answer.ensures.written
    c.play-answer.ensures.partly c.flush.ensures.kept

pub returns-in-Err-clause-mark : goal.returns-in-Err-clause-mark
returns-in-Err-clause-mark g c =
    unflushed_mark c.args.out.now.is_marked c.play-answer.new.out.is_marked c.flush.new.self.is_marked c.in-Err.ensures.mark
