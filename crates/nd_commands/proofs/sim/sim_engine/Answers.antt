use Rattle.std.proofs.Common.{inl, refl, sym, ◌∙◌}
use Rattle.std.proofs.result.Match.{err_is}
use Rattle.nd_commands.proofs.Answering.{sim_answered, sim_begun, sim_read_no_write}
use Rattle.nd_commands.proofs.Accepting.{sim_free, sim_accepted}
use Rattle.nd_commands.proofs.sim.sim_engine.Goals as goal

pub returns-in_err-given-clause-fault : goal.returns-in_err-given-clause-fault
returns-in_err-given-clause-fault g c = rw (err_is c.from_residual.result _ c.from_residual.ensures.1) (c.in_err-given.ensures.fault c.args.output.now.is_marked)

pub returns-in_err-given-clause-untouched : goal.returns-in_err-given-clause-untouched
returns-in_err-given-clause-untouched g c = rw (err_is c.from_residual.result _ c.from_residual.ensures.1) (λ not_begun. refl)

pub returns-in_err-given-clause-partly : goal.returns-in_err-given-clause-partly
returns-in_err-given-clause-partly g c = rw (err_is c.from_residual.result _ c.from_residual.ensures.1) (λ begun. inl refl)

pub returns-in-Ok-clause-answer : goal.returns-in-Ok-clause-answer
returns-in-Ok-clause-answer g c =
    sim_answered c.args.options.now c.args.script.now c.in-Ok.status g.R.Read.remaining c.args.input.now c.read_sim_inputs.new.input
    g.W.Write.contents c.args.output.now c.perform.new.output c.in_ok-given.given.dispatch c.in_ok-given.given.commands.items
    c.in_ok-given.ensures.read c.in-Ok.ensures.written

pub returns-in-Err-Write-clause-partly : goal.returns-in-Err-Write-clause-partly
returns-in-Err-Write-clause-partly g c = λ begun.
    sim_begun c.args.options.now c.args.script.now g.R.Read.remaining c.args.input.now c.read_sim_inputs.new.input
    g.W.Write.contents c.args.output.now c.perform.new.output c.in_ok-given.given.dispatch c.in_ok-given.given.commands.items
    c.in_ok-given.ensures.read c.in-Err-Write.ensures.partly

pub returns-in-Err-Memory-clause-partly : goal.returns-in-Err-Memory-clause-partly
returns-in-Err-Memory-clause-partly g c = λ begun.
    sim_begun c.args.options.now c.args.script.now g.R.Read.remaining c.args.input.now c.read_sim_inputs.new.input
    g.W.Write.contents c.args.output.now c.perform.new.output c.in_ok-given.given.dispatch c.in_ok-given.given.commands.items
    c.in_ok-given.ensures.read c.in-Err-Memory.ensures.partly

pub returns-in_err-given-clause-writer_mark : goal.returns-in_err-given-clause-writer_mark
returns-in_err-given-clause-writer_mark g c =
    rw (err_is c.from_residual.result _ c.from_residual.ensures.1)
    (c.requires.writer ∙ sym (sim_read_no_write c.args.options.now c.args.script.now g.R.Read.remaining c.args.input.now c.read_sim_inputs.new.input
    c.in_err-given.field-0.0 c.in_err-given.ensures.fault))

pub returns-in_err-given-clause-accepted : goal.returns-in_err-given-clause-accepted
returns-in_err-given-clause-accepted g c =
    rw (err_is c.from_residual.result _ c.from_residual.ensures.1)
    (record {
      each = λ text i commands known accepts.
          sim_free c.args.options.now c.args.script.now g.R.Read.remaining c.args.input.now c.read_sim_inputs.new.input
          c.args.output.now.is_marked text i commands c.in_err-given.field-0.0 known accepts (c.in_err-given.ensures.fault c.args.output.now.is_marked);
    })

pub returns-in-Ok-clause-accepted : goal.returns-in-Ok-clause-accepted
returns-in-Ok-clause-accepted g c = record {
  each = λ text i commands known accepts.
      sim_accepted c.args.options.now c.args.script.now g.R.Read.remaining c.args.input.now c.read_sim_inputs.new.input
      g.W.Write.contents c.args.output.now c.perform.new.output c.in_ok-given.given.dispatch c.in_ok-given.given.commands.items c.in-Ok.status text i commands
      c.in_ok-given.ensures.read c.in-Ok.ensures.written known accepts;
}

pub returns-in-Err-Write-clause-accepted : goal.returns-in-Err-Write-clause-accepted
returns-in-Err-Write-clause-accepted g c = record { each = λ text i commands known accepts. tt }

pub returns-in-Err-Memory-clause-accepted : goal.returns-in-Err-Memory-clause-accepted
returns-in-Err-Memory-clause-accepted g c = record { each = λ text i commands known accepts. tt }
