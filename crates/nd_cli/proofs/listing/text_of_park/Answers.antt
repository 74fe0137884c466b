use Rattle.std.proofs.Common.{List, sym, subst}
use Rattle.std.proofs.lemmas.Result.{IfErr-weaker}
use Rattle.std.proofs.result.Match.{err_is}
use Rattle.nd_machines.specs.Builders.{Builder}
use Rattle.nd_cli.specs.Parks.{HasBuilders}
use Rattle.nd_cli.proofs.NoBundle.{are_listed, is_refused, is_unlisted}
use Rattle.nd_cli.proofs.listing.text_of_park.Goals as goal

pub returns-in_err-setting-clause-refused : goal.returns-in_err-setting-clause-refused
returns-in_err-setting-clause-refused c =
    rw (err_is c.from_residual.result _ c.from_residual.ensures.1) (is_refused c.args.options.now c.in_err-setting.field-0.0 c.in_err-setting.ensures.refused)

pub returns-clause-read : goal.returns-clause-read
returns-clause-read c =
    let setting = c.in_ok-setting.setting in
    let known = c.in_ok-setting.ensures in
    let builders : HasBuilders c.args.options.now c.deref.result.now = subst (λ (machines : List Builder). HasBuilders c.args.options.now machines) (sym c.deref.ensures.value) known.builders in
    are_listed c.park_text-text.result (λ text. text.items) c.args.options.now c.deref.result.now setting.local setting.info.entries builders known.references known.local
    c.park_text-text.ensures.written c.park_text-text.ensures.few

pub returns-clause-refused : goal.returns-clause-refused
returns-clause-refused c =
    let setting = c.in_ok-setting.setting in
    let known = c.in_ok-setting.ensures in
    let builders : HasBuilders c.args.options.now c.deref.result.now = subst (λ (machines : List Builder). HasBuilders c.args.options.now machines) (sym c.deref.ensures.value) known.builders in
    IfErr-weaker _ _ _ (λ e. is_unlisted c.args.options.now c.deref.result.now setting.local setting.info.entries e builders known.references known.local)
    c.park_text-text.ensures.refused
