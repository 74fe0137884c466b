-- Lemmas on the jobs of a run's leases.
use Rattle.std.proofs.Common.{◌≡◌, ℕ, List, [], reverse, slice_index_or, sym, ap, ◌∙◌, subst}
use Rattle.std.proofs.Math.Logic.{∥∥₁_elim}
use denote.Struct.Props.{props}
use Rattle.nd_history.specs.Premises.{Premises}
use Rattle.nd_history.specs.References.{outputs_of}
use Rattle.nd_leases.specs.declared.ticket.Ticket.{Ticket}
use Rattle.nd_ledger.specs.declared.job.Job.{Job}
use Rattle.nd_ledger.specs.Refusals.{IsLive}
use Rattle.nd_ledger.specs.Worlds.{World}
use Rattle.nd_provision.specs.Stored.{IsMissing}
use Rattle.nd_run_desk.specs.Jobs.{IsJobOf}
use Rattle.nd_run_desk.specs.Steps.{RunsOn}

-- a run keeps what is read of its inputs
paths_kept : (o w : World) (d : ℕ) → RunsOn o w → slice_index_or w.inputs.graph.paths d [] ≡ slice_index_or o.inputs.graph.paths d []
paths_kept o w d runs = ∥∥₁_elim runs.merely (hlevel props) (λ run. ap (λ (i : Premises). slice_index_or i.graph.paths d []) run.inputs)

outputs_kept : (o w : World) (d : ℕ) → RunsOn o w → outputs_of w.inputs d ≡ outputs_of o.inputs d
outputs_kept o w d runs = ∥∥₁_elim runs.merely (hlevel props) (λ run. ap (λ (i : Premises). outputs_of i d) run.inputs)

-- the job of a lease is one of the run
pub job_made : (o w : World) (t : Ticket) (job : Job) → RunsOn o w → job.ticket ≡ t → IsLive (reverse w.history) t → job.path ≡ slice_index_or w.inputs.graph.paths t.drv [] → job.output_paths ≡ outputs_of w.inputs t.drv
    → IsMissing w.inputs (reverse w.history) t.drv t.machine job.paths → IsJobOf o job
job_made o w t job runs same live path outputs missing =
    let Path : Ticket → Type 0 = λ u. job.path ≡ slice_index_or o.inputs.graph.paths u.drv [] in
    let Outputs : Ticket → Type 0 = λ u. job.output_paths ≡ outputs_of o.inputs u.drv in
    let Live : Ticket → Type 0 = λ u. IsLive (reverse w.history) u in
    let Missing : Ticket → Type 0 = λ u. IsMissing w.inputs (reverse w.history) u.drv u.machine job.paths in
    record {
      named = record { path = subst Path (sym same) (path ∙ paths_kept o w t.drv runs); outputs = subst Outputs (sym same) (outputs ∙ outputs_kept o w t.drv runs) };
      now = w;
      made = record { runs = runs; live = subst Live (sym same) live; missing = subst Missing (sym same) missing };
    }
