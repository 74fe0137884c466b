use Rattle.std.proofs.Common.{◌≡◌, ℕ, List, map, ap, sym, subst, ◌∙◌}
use Rattle.std.proofs.lemmas.Result.{IfErr-weaker}
use Rattle.nd_workers.specs.declared.run_end.RunError.{RunError}
use Rattle.nd_workers.specs.declared.seat.Seat.{Seat}
use Rattle.nd_workers.specs.Runs.{IsRunRefused}
use Rattle.nd_workers.specs.Served.{places_served}
use Rattle.nd_workers.proofs.running.run_by.Goals as goal

pub returns-in-Ok-clause-receipted : goal.returns-in-Ok-clause-receipted
returns-in-Ok-clause-receipted g c =
    let place : Seat g.row.T.Denot → ℕ × ℕ = λ w. w.place in
    let same : c.in-Ok.prepared.1.places.items ≡ map place c.args.workers.items = c.in-Ok.ensures.places ∙ ap (map place) c.as_slice.ensures.value in
    rw (← same) c.run_named.ensures.receipted

pub returns-in-Ok-clause-fault : goal.returns-in-Ok-clause-fault
returns-in-Ok-clause-fault g c =
    let place : Seat g.row.T.Denot → ℕ × ℕ = λ w. w.place in
    let same : c.in-Ok.prepared.1.places.items ≡ map place c.args.workers.items = c.in-Ok.ensures.places ∙ ap (map place) c.as_slice.ensures.value in
    rw (← same) c.run_named.ensures.fault

pub returns-in-Err-clause-refused : goal.returns-in-Err-clause-refused
returns-in-Err-clause-refused g c =
    let known : IsRunRefused c.args.dispatch.inputs (places_served c.args.workers.items) c.in-Err.why =
    subst (λ (seats : List (Seat g.row.T.Denot)). IsRunRefused c.args.dispatch.inputs (places_served seats) c.in-Err.why) c.as_slice.ensures.value c.in-Err.ensures.refused in
    IfErr-weaker c.refused.result _ _ (λ r is. subst (λ (w : RunError). IsRunRefused c.args.dispatch.inputs (places_served c.args.workers.items) w) (sym is) known) c.refused.ensures.why
