use Rattle.std.proofs.Common.{◌≡◌, ◌∙◌, sym, subst}
use Rattle.nd_history.specs.Premises.{Premises}
use Rattle.nd_serve_command.specs.Resumes.{IsResumable}
use Rattle.nd_serve_command.specs.Sessions.{IsNoRefusal}
use Rattle.nd_serve_command.proofs.Begun.{same_world, session_begun}
use Rattle.nd_serve_command.proofs.opening.open_session.Goals as goal

pub returns-in-Err-clause-exactly : goal.returns-in-Err-clause-exactly
returns-in-Err-clause-exactly g c = λ text world known accepts. c.in-Err.ensures.exactly text world.inputs known accepts.inputs

pub returns-in-Ok-take_journal-clause-exactly : goal.returns-in-Ok-take_journal-clause-exactly
returns-in-Ok-take_journal-clause-exactly g c = λ text world known accepts.
    let made : c.in-Ok.dispatch.inputs ≡ world.inputs = c.in-Ok.ensures.exactly text world.inputs known accepts.inputs in
    let here : IsResumable c.in-Ok.dispatch.inputs c.args.journal.now world.history =
    subst (λ (i : Premises). IsResumable i c.args.journal.now world.history) (sym made) accepts.history in
    same_world c.in-Ok-take_journal.opened.dispatch world (c.in-Ok-take_journal.ensures.inputs ∙ made)
    (c.in-Ok-take_journal.ensures.exactly world.history accepts.may here)

pub returns-in-Err-take_journal-clause-exactly : goal.returns-in-Err-take_journal-clause-exactly
returns-in-Err-take_journal-clause-exactly g c = λ text world known accepts.
    let made : c.in-Ok.dispatch.inputs ≡ world.inputs = c.in-Ok.ensures.exactly text world.inputs known accepts.inputs in
    let here : IsResumable c.in-Ok.dispatch.inputs c.args.journal.now world.history =
    subst (λ (i : Premises). IsResumable i c.args.journal.now world.history) (sym made) accepts.history in
    subst IsNoRefusal (sym (c.in-Err-take_journal.ensures.exactly world.history accepts.may here)) tt

pub returns-in-Ok-take_journal-clause-opened : goal.returns-in-Ok-take_journal-clause-opened
returns-in-Ok-take_journal-clause-opened g c =
    session_begun c.args.options.now c.args.journal.now c.args.resumes (g.R.Read.remaining c.args.input.now.device) (g.R.Read.remaining c.read_dispatch.new.input.device)
    c.in-Ok.dispatch.inputs c.in-Ok-take_journal.opened.dispatch c.in-Ok.ensures.read c.in-Ok-take_journal.ensures.inputs c.in-Ok-take_journal.ensures.may
    c.in-Ok-take_journal.ensures.history
