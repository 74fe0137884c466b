use Rattle.std.proofs.Common.{◌≡◌, false, [], sym, ap, subst}
use Rattle.std.proofs.lemmas.Result.{IfErr-weaker, IfOk-weaker, MatchResult-from_both}
use Rattle.std.proofs.result.Match.{err_is}
use Rattle.nd_cli.specs.Asked.{IsAskFault}
use Rattle.nd_cli.specs.Inputs.{is_read_failure}
use Rattle.nd_cli.specs.Statuses.{exit_status}
use Rattle.nd_cli.specs.declared.fault.CliFault.TheVariants.{Memory}
use Rattle.nd_commands.specs.Opened.{IsMadeOf, ReadsInputs}
use Rattle.nd_commands.proofs.Answering.{park_read, same_inputs, unmade}
use Rattle.nd_commands.proofs.opening.take_dispatch.Goals as goal

pub returns-clause-read : goal.returns-clause-read
returns-clause-read g c =
    let park = c.in_ok-park.park in
    let unread = g.R.Read.remaining c.args.input.now.device in
    let left = g.R.Read.remaining c.take_park.new.input.device in
    IfOk-weaker c.dispatch_over.result (IsMadeOf c.args.options.now park) (λ dispatch. ReadsInputs c.args.options.now unread left dispatch.inputs)
    (λ dispatch made. subst (ReadsInputs c.args.options.now unread left) (sym made.inputs)
    (park_read c.args.options.now unread left park.graph park.machines.items park.local park.info.entries c.in_ok-park.ensures.read c.in_ok-park.ensures.local))
    c.dispatch_over.ensures.made

pub returns-clause-empty : goal.returns-clause-empty
returns-clause-empty g c =
    IfOk-weaker c.dispatch_over.result (IsMadeOf c.args.options.now c.in_ok-park.park) (λ dispatch. dispatch.history ≡ []) (λ dispatch made. made.empty)
    c.dispatch_over.ensures.made

pub returns-clause-fault : goal.returns-clause-fault
returns-clause-fault g c =
    let IsFault = IsAskFault c.args.options.now g.R.Read.remaining c.args.input.now c.take_park.new.input false in
    IfErr-weaker c.dispatch_over.result (λ e. e ≡ Memory) IsFault (λ e is. subst IsFault (sym is) tt) c.dispatch_over.ensures.memory

pub returns-clause-mark : goal.returns-clause-mark
returns-clause-mark g c =
    let unread : is_read_failure c.dispatch_over.result ≡ false = unmade c.dispatch_over.result c.dispatch_over.ensures.memory in
    rw unread c.in_ok-park.ensures.mark

pub returns-in_err-park-clause-exactly : goal.returns-in_err-park-clause-exactly
returns-in_err-park-clause-exactly g c =
    rw (err_is c.from_residual.result _ c.from_residual.ensures.1)
    (λ text inputs known has. c.in_err-park.ensures.exactly text inputs.graph inputs.machines inputs.info known has.park)

pub returns-clause-exactly : goal.returns-clause-exactly
returns-clause-exactly g c = λ text inputs known has.
    let park = c.in_ok-park.park in
    MatchResult-from_both c.dispatch_over.result (λ dispatch. dispatch.inputs ≡ inputs) (λ e. exit_status e ≡ 5)
    (IfOk-weaker c.dispatch_over.result (IsMadeOf c.args.options.now park) (λ dispatch. dispatch.inputs ≡ inputs)
    (λ dispatch made. same_inputs c.args.options.now text inputs dispatch.inputs park.graph park.machines.items park.local park.info.entries
    has made.inputs c.in_ok-park.ensures.local (c.in_ok-park.ensures.exactly text inputs.graph inputs.machines inputs.info known has.park))
    c.dispatch_over.ensures.made)
    (IfErr-weaker c.dispatch_over.result (λ e. e ≡ Memory) (λ e. exit_status e ≡ 5) (λ e is. ap exit_status is) c.dispatch_over.ensures.memory)
