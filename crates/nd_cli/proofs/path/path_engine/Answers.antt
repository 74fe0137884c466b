use Rattle.std.proofs.Common.{◌≡◌, ℕ, List, sym, ap, subst, ◌∙◌}
use Rattle.nd_cli.specs.Paths.{HasPath}
use Rattle.nd_cli.specs.Statuses.{exit_status}
use Rattle.nd_cli.proofs.Whole.{whole_read}
use Rattle.nd_cli.proofs.path.path_engine.Goals as goal

pub returns-in-Err-clause-exactly : goal.returns-in-Err-clause-exactly
returns-in-Err-clause-exactly g c = λ text path known has.
    let whole : c.in_ok-text.text ≡ text =
    whole_read (g.R.Read.remaining c.args.input.now.device) (g.R.Read.remaining c.read_input.new.input.device) text c.in_ok-text.text known c.in_ok-text.ensures.read has.within in
    let same : c.as_slice.result.now ≡ text = c.as_slice.ensures ∙ whole in
    let here : HasPath c.args.name.now c.as_slice.result.now path = subst (λ (t : List ℕ). HasPath c.args.name.now t path) (sym same) has in
    ap exit_status (c.in-Err.ensures.exactly path here)
