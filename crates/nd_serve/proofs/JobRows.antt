-- The row of a job.
use Rattle.std.proofs.Common.{◌≡◌, ◌∙◌, ℕ, List, [], Option, Some, refl, ap, subst, inl, inr}
use Rattle.std.specs.Prelude.{codes, slice_index_or}
use Rattle.std.specs.Io.KnownBytes.{Appends}
use Rattle.nd_path.specs.PathSets.{IsRising}
use Rattle.nd_history.specs.declared.entry.Entry.{Entry}
use Rattle.nd_history.specs.Premises.{Premises}
use Rattle.nd_history.specs.History.{lease_of}
use Rattle.nd_leases.specs.declared.ticket.Ticket.{Ticket}
use Rattle.nd_provision.specs.Stored.{IsMissing}
use Rattle.nd_ledger.specs.declared.refusal.Refusal.{Refusal}
use Rattle.nd_history_text.specs.Rows.{row}
use Rattle.nd_sim.specs.Answers.{HasNoLease}
use Rattle.nd_sim.specs.Runs.{refused_line}
use Rattle.nd_serve.specs.Turns.{IsJobOf, job_words}
use Rattle.nd_serve.specs.Steps.{WritesJob, WritesJobOf}

pub job_written : (i : Premises) (past : List Entry) (d : ℕ) (ticket : Ticket) (before written : Option (List ℕ)) → lease_of d past ≡ Some ticket → ticket.drv ≡ d
    → WritesJobOf i past ticket before written → WritesJob i past d before written
job_written i past d ticket before written lease own wrote =
    let job : IsJobOf i past d _ = record {
      ticket = ticket;
      lease = lease;
      own = own;
      paths = wrote.paths;
      missing = subst (λ (n : ℕ). IsMissing i past n ticket.machine wrote.paths) own wrote.missing;
      rising = wrote.rising;
      is = refl;
    } in
    record { text = _; is = inl job; appended = wrote.appended }

pub no_job_written : (i : Premises) (past : List Entry) (d : ℕ) (refusal : Refusal) (before written : Option (List ℕ)) → HasNoLease past d refusal
    → Appends before written (refused_line refusal) → WritesJob i past d before written
no_job_written i past d refusal before written none appended = record {
  text = refused_line refusal;
  is = inr (record { refusal = refusal; none = none; is = refl });
  appended = appended;
}

pub ruleset jobs = (job_written, no_job_written)

-- the words of a lease's job
pub leased : (i : Premises) (past : List Entry) (ticket own : Ticket) (path : List ℕ) (paths words : List (List ℕ)) (before written : Option (List ℕ)) → own ≡ ticket
    → path ≡ slice_index_or i.graph.paths ticket.drv [] → IsMissing i past ticket.drv ticket.machine paths → IsRising paths → words ≡ job_words own path paths
    → Appends before written (row (codes "job") words) → WritesJobOf i past ticket before written
leased i past ticket own path paths words before written same at missing rising are appended =
    let whole : words ≡ job_words ticket (slice_index_or i.graph.paths ticket.drv []) paths =
    are ∙ ap (λ (t : Ticket). job_words t path paths) same ∙ ap (λ (p : List ℕ). job_words ticket p paths) at in
    record { paths = paths; missing = missing; rising = rising; appended = subst (λ (w : List (List ℕ)). Appends before written (row (codes "job") w)) whole appended }
