use Rattle.std.proofs.Common.{◌≡◌, false}
use Rattle.std.proofs.lemmas.Result.{IfErr-weaker}
use Rattle.std.proofs.result.Match.{err_is}
use Rattle.nd_cli.specs.Asked.{IsAskFault}
use Rattle.nd_cli.specs.Inputs.{is_read_failure}
use Rattle.nd_cli.specs.Parks.{AreSameParts, IsAccepted, IsParkFault}
use Rattle.nd_cli.proofs.Refused.{known_answer, park_is_read, park_refused}
use Rattle.nd_cli.proofs.park.take_park.Goals as goal

pub returns-in_err-graph-clause-exactly : goal.returns-in_err-graph-clause-exactly
returns-in_err-graph-clause-exactly g c =
    rw (err_is c.from_residual.result _ c.from_residual.ensures.1)
    (λ text graph machines info known has. c.in_err-graph.ensures.exactly text graph known has.bundle)

pub returns-clause-fault : goal.returns-clause-fault
returns-clause-fault g c =
    let given = c.in_ok-graph.ensures.read in
    let accepted : IsAccepted c.args.options.now given.text = record { graph = c.in_ok-graph.graph; has = given.has } in
    IfErr-weaker c.park_over.result (IsParkFault c.args.options.now given.text) (IsAskFault c.args.options.now g.R.Read.remaining c.args.input.now c.take_graph.new.input false)
    (λ e. park_refused c.args.options.now g.R.Read.remaining c.args.input.now c.take_graph.new.input false given.text e given.read)
    (c.park_over.ensures.refused given.text accepted)

pub returns-clause-mark : goal.returns-clause-mark
returns-clause-mark g c =
    let given = c.in_ok-graph.ensures.read in
    let accepted : IsAccepted c.args.options.now given.text = record { graph = c.in_ok-graph.graph; has = given.has } in
    let unread : is_read_failure c.park_over.result ≡ false = park_is_read c.args.options.now given.text c.park_over.result (c.park_over.ensures.refused given.text accepted) in
    rw unread c.in_ok-graph.ensures.mark

pub returns-clause-exactly : goal.returns-clause-exactly
returns-clause-exactly g c = λ text graph machines info known has.
    known_answer c.park_over.result (λ park. AreSameParts park.graph graph park.machines.items machines park.info.entries info)
    (c.park_over.ensures.exactly text (λ nodes of. c.in_ok-graph.ensures.exactly text nodes known of) graph machines info has)
