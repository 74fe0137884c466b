-- What a stand-in answers. The clauses of `StandIn` cite these definitions. This project's own choice.
use Rattle.std.specs.Prelude.{◌≡◌, ℕ, Bool, true, false, not, ◌&&◌, ◌==◌, ◌-◌, List, [], Option, Some, None, replicate, length, ◌⊎◌}
use Rattle.std.specs.List.{find, list_any}
use Rattle.nd_transports.specs.declared.kinds.Answer.{Answer}
use Rattle.nd_transports.specs.declared.kinds.Answer.TheVariants.{Built, Status, Lost, Memory}
use Rattle.nd_keeping.specs.Listing.{Listed}
use Rattle.nd_ledger.specs.declared.job.Job.{Job}
use Rattle.nd_script.specs.declared.rule.Rule.{Rule}
use Rattle.nd_script.specs.declared.rule.Rule.TheVariants.{NoConnect, NoCopy, Fail, Lose, Built as RuleBuilt}
use Rattle.nd_script.specs.Rules.{is_no_connect, is_no_copy, is_about}
use Rattle.nd_transports.specs.declared.kinds.Ended.{Ended}
use Rattle.nd_transports.specs.Answers.{ended_of}
use Rattle.nd_transports.specs.Calls.{State, unused, prepared, built}

pub record Stood : Type 0 where
  -- the machine that it stands for
  pub machine : ℕ
  -- the number of outputs of the job that was prepared last
  pub outputs : ℕ
  pub rules : List Rule
  -- how many more calls pass before each answers no or is lost; without a fuse all pass
  pub fuse : Option ℕ
  -- the transport that it is
  pub state : State

-- a stand-in for a machine, with nothing called and no fuse
abbrev pub fresh : ℕ → List Rule → Stood
fresh machine rules = record { machine = machine; outputs = 0; rules = rules; fuse = None; state = unused }

-- a job was prepared
abbrev pub readied : Stood → Job → Stood
readied s job = record s { outputs = length job.output_paths; state = prepared s.state job }

-- how a build ends by its rule; without one it reports an empty list for each output
abbrev pub answer_by : ℕ → Option Rule → Answer
answer_by outputs (Some (Fail d code)) = Status code
answer_by outputs (Some (Lose d)) = Lost
answer_by outputs (Some (RuleBuilt d refs)) = Built refs
answer_by outputs (Some (NoConnect m)) = Built (replicate outputs [])
answer_by outputs (Some (NoCopy m)) = Built (replicate outputs [])
answer_by outputs None = Built (replicate outputs [])

-- the first rule about the derivation decides
abbrev pub answer_of : Stood → Answer
answer_of s = answer_by s.outputs (find (is_about s.state.job.ticket.drv) s.rules)

-- the fuse lets one more call pass
abbrev pub lets_pass : Option ℕ → Bool
lets_pass (Some passes) = not (passes == 0)
lets_pass None = true

-- the fuse after one more call
abbrev pub burnt : Option ℕ → Option ℕ
burnt (Some passes) = Some (passes - 1)
burnt None = None

abbrev pub connects : Stood → Bool
connects s = lets_pass s.fuse && not (list_any (is_no_connect s.machine) s.rules)

abbrev pub copies : Stood → Bool
copies s = lets_pass s.fuse && not (list_any (is_no_copy s.machine) s.rules)

-- the build ends with its outputs, for whose references memory is wanted
abbrev pub NeedsLists : Answer → Type 0
NeedsLists (Built refs) = Unit {0}
NeedsLists (Status code) = ⊥
NeedsLists Lost = ⊥
NeedsLists Memory = ⊥

-- a build that the fuse lets pass ends as the rules say, or is lost where they say that it ends with its outputs, for
-- whose references no memory was found; one that the fuse doesn't let pass is lost
pub record IsTold (passes : Bool) (ruled answer : Answer) : Type 0 where
  pub blown : passes ≡ false → answer ≡ Lost
  pub passed : passes ≡ true → (answer ≡ ruled) ⊎ ((answer ≡ Lost) × NeedsLists ruled)

-- a build with that answer
pub record StandInBuilds (s : Stood) (by : Listed) (ended : Ended) (t : Stood) : Type 0 where
  pub answer : Answer
  pub by_rules : IsTold (lets_pass s.fuse) (answer_of s) answer
  pub told : ended ≡ ended_of answer
  pub after : t ≡ record s { fuse = burnt s.fuse; state = built s.state by answer }
