use Rattle.std.proofs.Common.{◌≡◌, length, ap, ◌∙◌, rules}
use Rattle.nd_script.specs.declared.script_error.ScriptError.{ScriptError}
use Rattle.nd_graph.specs.Graphs.{Nodes}
use Rattle.nd_history.specs.Choices.{machines_in}
use Rattle.nd_commands.proofs.Commanded.{script_read, commands_named, script_refused, script_wanted}
use Rattle.nd_commands.proofs.script.read_script.Goals as goal

pub returns-in-Ok-clause-read : goal.returns-in-Ok-clause-read
returns-in-Ok-clause-read c =
    let i = c.args.dispatch.now.inputs in
    let all : c.len-drvs.result ≡ length i.graph.paths = c.len-drvs.ensures.len ∙ ap (λ (nodes : Nodes). length nodes.paths) c.graph.ensures in
    let park : c.machine_count-machines.result ≡ machines_in i = c.machine_count-machines.ensures in
    script_read i c.len-drvs.result c.machine_count-machines.result c.args.script.now c.in-Ok.commands.items all park c.if-script-gt-LIMIT.false c.in-Ok.ensures.found

pub returns-in-Ok-clause-named : goal.returns-in-Ok-clause-named
returns-in-Ok-clause-named c =
    let i = c.args.dispatch.now.inputs in
    let all : c.len-drvs.result ≡ length i.graph.paths = c.len-drvs.ensures.len ∙ ap (λ (nodes : Nodes). length nodes.paths) c.graph.ensures in
    let park : c.machine_count-machines.result ≡ machines_in i = c.machine_count-machines.ensures in
    commands_named i c.len-drvs.result c.machine_count-machines.result c.args.script.now c.in-Ok.commands.items all park c.in-Ok.ensures.found

pub returns-in-Err-clause-refused : goal.returns-in-Err-clause-refused
returns-in-Err-clause-refused c =
    let i = c.args.dispatch.now.inputs in
    let all : c.len-drvs.result ≡ length i.graph.paths = c.len-drvs.ensures.len ∙ ap (λ (nodes : Nodes). length nodes.paths) c.graph.ensures in
    let park : c.machine_count-machines.result ≡ machines_in i = c.machine_count-machines.ensures in (
      c.if-script-gt-LIMIT.false,
      script_refused i c.len-drvs.result c.machine_count-machines.result c.args.script.now c.in-Err.refusal all park c.in-Err.ensures.refused,
      search rules,
    )

pub returns-in-Ok-clause-exactly : goal.returns-in-Ok-clause-exactly
returns-in-Ok-clause-exactly c = λ commands has.
    let i = c.args.dispatch.now.inputs in
    let all : c.len-drvs.result ≡ length i.graph.paths = c.len-drvs.ensures.len ∙ ap (λ (nodes : Nodes). length nodes.paths) c.graph.ensures in
    let park : c.machine_count-machines.result ≡ machines_in i = c.machine_count-machines.ensures in
    c.in-Ok.ensures.exactly commands (script_wanted i c.len-drvs.result c.machine_count-machines.result c.args.script.now commands all park has)

pub returns-in-Err-clause-exactly : goal.returns-in-Err-clause-exactly
returns-in-Err-clause-exactly c = λ commands has.
    let i = c.args.dispatch.now.inputs in
    let all : c.len-drvs.result ≡ length i.graph.paths = c.len-drvs.ensures.len ∙ ap (λ (nodes : Nodes). length nodes.paths) c.graph.ensures in
    let park : c.machine_count-machines.result ≡ machines_in i = c.machine_count-machines.ensures in
    let other : c.in-Err.refusal ≡ ScriptError.Memory → ⊥ = search rules in
    absurd (other (c.in-Err.ensures.exactly commands (script_wanted i c.len-drvs.result c.machine_count-machines.result c.args.script.now commands all park has)))
