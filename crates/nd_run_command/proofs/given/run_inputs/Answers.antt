use Rattle.std.proofs.Common.{◌≡◌, ◌+◌, ℕ, List, length, sym, ap, subst, ◌∙◌, arith}
use Rattle.std.proofs.result.Match.{err_is}
use Rattle.nd_machines.specs.Builders.{Builder}
use Rattle.nd_graph.specs.Graphs.{Nodes, rows_of}
use Rattle.nd_cli.specs.Parks.{AreSameParts}
use Rattle.nd_cli.specs.Statuses.{exit_status}
use Rattle.nd_run_command.specs.Given.{HasRules}
use Rattle.nd_run_command.proofs.Giving.{stand_refused, unopened, is_given}
use Rattle.nd_run_command.proofs.given.run_inputs.Goals as goal

pub returns-in_err-park-clause-fault : goal.returns-in_err-park-clause-fault
returns-in_err-park-clause-fault g c =
    rw (err_is c.from_residual.result _ c.from_residual.ensures.1)
    (unopened c.args.options.now c.args.stand.now g.R.Read.remaining c.args.input.now c.take_park.new.input c.in_err-park.field-0.0 c.in_err-park.ensures.fault)

pub returns-in-Err-clause-fault : goal.returns-in-Err-clause-fault
returns-in-Err-clause-fault g c =
    let park = c.in_ok-park.park in
    let sized : c.len.result ≡ length (rows_of park.graph) = c.len.ensures.rows in
    let counted : c.len-machines.result ≡ length park.machines.items = (let all = park.machines.ok.0 in let is = c.len-machines.ensures in omega arith) in
    stand_refused c.args.options.now c.args.stand.now g.R.Read.remaining c.args.input.now c.take_park.new.input c.in-Err.fault park.graph park.machines.items park.info.entries
    c.len.result c.len-machines.result c.in_ok-park.ensures.read sized counted c.in-Err.ensures.refused

pub returns-in-Ok-new-clause-read : goal.returns-in-Ok-new-clause-read
returns-in-Ok-new-clause-read g c =
    let park = c.in_ok-park.park in
    let sized : c.len.result ≡ length (rows_of park.graph) = c.len.ensures.rows in
    let counted : c.len-machines.result ≡ length park.machines.items = (let all = park.machines.ok.0 in let is = c.len-machines.ensures in omega arith) in
    is_given c.args.options.now c.args.stand.now g.R.Read.remaining c.args.input.now c.take_park.new.input
    park.graph park.machines.items park.local park.info.entries c.in-Ok-new.dispatch c.in-Ok.rules.items
    c.len.result c.len-machines.result c.in_ok-park.ensures.read c.in_ok-park.ensures.local c.in-Ok-new.ensures.inputs c.in-Ok-new.ensures.empty
    sized counted c.in-Ok.ensures.read

pub returns-in_err-park-clause-exactly : goal.returns-in_err-park-clause-exactly
returns-in_err-park-clause-exactly g c =
    rw (err_is c.from_residual.result _ c.from_residual.ensures.1)
    (λ text known accepted. c.in_err-park.ensures.exactly text accepted.graph accepted.machines accepted.info known accepted.park)

pub returns-in-Err-clause-exactly : goal.returns-in-Err-clause-exactly
returns-in-Err-clause-exactly g c = λ text known accepted.
    let park = c.in_ok-park.park in
    let parts : AreSameParts park.graph accepted.graph park.machines.items accepted.machines park.info.entries accepted.info =
    c.in_ok-park.ensures.exactly text accepted.graph accepted.machines accepted.info known accepted.park in
    let sized : length (rows_of accepted.graph) ≡ c.len.result = ap (λ (nodes : Nodes). length (rows_of nodes)) (sym parts.graphs) ∙ sym c.len.ensures.rows in
    let counted : c.len-machines.result ≡ length park.machines.items = (let all = park.machines.ok.0 in let is = c.len-machines.ensures in omega arith) in
    let many : length accepted.machines ≡ c.len-machines.result = ap (λ (machines : List Builder). length machines) (sym parts.builders) ∙ sym counted in
    let ruled : HasRules c.args.stand.now c.len.result (c.len-machines.result + 1) accepted.rules =
    subst (λ (n : ℕ). HasRules c.args.stand.now c.len.result (n + 1) accepted.rules) many
    (subst (λ (d : ℕ). HasRules c.args.stand.now d (length accepted.machines + 1) accepted.rules) sized accepted.ruled) in
    ap exit_status (c.in-Err.ensures.exactly accepted.rules ruled)
