use Rattle.nd_sim.proofs.Simulating.{ends, ends_cut}
use Rattle.nd_commands.proofs.simulation.play.Goals as goal

pub returns-in-Ok-clause-written : goal.returns-in-Ok-clause-written
returns-in-Ok-clause-written g c =
    ends c.args.dispatch.now.inputs c.take_turns.new.dispatch.inputs c.args.commands.items c.take_turns.new.dispatch.history c.exit_status.result
    (g.W.Write.contents c.args.out.now.device) (g.W.Write.contents c.take_turns.new.out.device) (g.W.Write.contents c.write_report.new.out.device)
    c.in_ok-take_turns.ensures.written c.take_turns.ensures.inputs c.in-Ok.ensures.written c.exit_status.ensures

pub returns-in-Err-Write-clause-partly : goal.returns-in-Err-Write-clause-partly
returns-in-Err-Write-clause-partly g c =
    ends_cut c.args.dispatch.now.inputs c.take_turns.new.dispatch.inputs c.args.commands.items c.take_turns.new.dispatch.history
    (g.W.Write.contents c.args.out.now.device) (g.W.Write.contents c.take_turns.new.out.device) (g.W.Write.contents c.write_report.new.out.device)
    c.in_ok-take_turns.ensures.written c.take_turns.ensures.inputs c.in-Err-Write.ensures.partly
