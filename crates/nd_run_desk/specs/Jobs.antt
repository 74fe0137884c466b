-- What a run may ask of a machine, and when. The public clauses of a run cite `IsDue`, `IsAsked` and what they are made of. This project's own choice.
use Rattle.std.specs.Prelude.{◌≡◌, ◌<◌, ℕ, true, length, reverse, slice_index_or, []}
use Rattle.nd_history.specs.References.{outputs_of}
use Rattle.nd_keeping.specs.Listing.{Listed}
use Rattle.nd_leases.specs.declared.ticket.Ticket.{Ticket}
use Rattle.nd_ledger.specs.declared.job.Job.{Job}
use Rattle.nd_ledger.specs.Refusals.{IsLive}
use Rattle.nd_ledger.specs.Worlds.{World}
use Rattle.nd_provision.specs.Stored.{IsMissing}
use Rattle.nd_run_desk.specs.declared.desk.Next.{Next}
use Rattle.nd_run_desk.specs.declared.desk.Next.TheVariants.{Finished, Wait, Serve, Short}
use Rattle.nd_run_desk.specs.declared.keeping.Step.{Step}
use Rattle.nd_run_desk.specs.declared.keeping.Step.TheVariants.{Call as Calling, Build as Building}
use Rattle.nd_run_desk.specs.Leaves.{Keeping, Allows}
use Rattle.nd_run_desk.specs.Steps.{RunsOn}
use Rattle.nd_transports.specs.Calls.{Deed}
use Rattle.nd_transports.specs.declared.kinds.Call.{Call}
use Rattle.nd_transports.specs.declared.kinds.Call.TheVariants.{Connect, Copy, Build}

-- a job names its derivation by the graph: its path, and the paths of its outputs
pub record IsNamedBy (opening : World) (job : Job) : Type 0 where
  pub path : job.path ≡ slice_index_or opening.inputs.graph.paths job.ticket.drv []
  pub outputs : job.output_paths ≡ outputs_of opening.inputs job.ticket.drv

-- a job was made of a lease that was live in the run, which had come so far, and its paths are what the machine lacked of the input closure then
pub record IsMadeIn (opening now : World) (job : Job) : Type 0 where
  pub runs : RunsOn opening now
  pub live : IsLive (reverse now.history) job.ticket
  pub missing : IsMissing now.inputs (reverse now.history) job.ticket.drv job.ticket.machine job.paths

-- a job of a run that began with this dispatch
pub record IsJobOf (opening : World) (job : Job) : Type 0 where
  pub named : IsNamedBy opening job
  pub now : World
  pub made : IsMadeIn opening now job

-- the step of its lease that a call is
abbrev pub step_of : Call → Step
step_of (Connect answered) = Calling
step_of (Copy paths done) = Calling
step_of (Build drv answer) = Building

-- what is durable lets a step of a lease be taken, and is that of the run's journal where it has one: the lease's choice stands there at its serial, or its start
pub record IsLet (keeping : Keeping) (by : Listed) (step : Step) (t : Ticket) : Type 0 where
  pub book : by.book ≡ keeping.book
  pub place : ℕ
  pub allows : Allows keeping.keeps by.entries place step t

-- a step may be taken for a job by what is durable
pub record MayCall (keeping : Keeping) (opening : World) (job : Job) (by : Listed) (step : Step) : Type 0 where
  pub of : IsJobOf opening job
  pub leave : IsLet keeping by step job.ticket

-- a call was made for derivation d, for a job of the run
pub record IsAsked (opening : World) (d : ℕ) (x : Deed) : Type 0 where
  pub drv : x.job.ticket.drv ≡ d
  pub job : IsJobOf opening x.job

-- .. by what was durable then
pub record IsDue (keeping : Keeping) (opening : World) (d : ℕ) (x : Deed) : Type 0 where
  pub drv : x.job.ticket.drv ≡ d
  pub may : MayCall keeping opening x.job x.by (step_of x.call)

-- what a worker is given to serve is a job of the run
abbrev pub IsNextOf : World → Next → Type 0
IsNextOf opening (Serve job again) = IsJobOf opening job
IsNextOf opening Finished = Unit {0}
IsNextOf opening Wait = Unit {0}
IsNextOf opening (Short ticket again) = Unit {0}

-- a lease of which a worker is told that it was started before the run was made before it
abbrev pub IsToldOf : World → Next → Type 0
IsToldOf opening (Serve job again) = again ≡ true → job.ticket.serial < length opening.history
IsToldOf opening (Short ticket again) = again ≡ true → ticket.serial < length opening.history
IsToldOf opening Finished = Unit {0}
IsToldOf opening Wait = Unit {0}
