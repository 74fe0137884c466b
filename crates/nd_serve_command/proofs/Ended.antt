-- What a session comes to.
use Rattle.std.proofs.Common.{◌≡◌, ℕ, Bool, List, reverse, subst}
use Rattle.nd_desk.specs.declared.fault.SessionFault.{SessionFault}
use Rattle.nd_desk.specs.Notes.{Seen}
use Rattle.nd_history.specs.declared.entry.Entry.{Entry}
use Rattle.nd_history.specs.Premises.{Premises}
use Rattle.nd_history.specs.Statuses.{IsExitStatus}
use Rattle.nd_ledger.specs.Worlds.{World}
use Rattle.nd_serve.specs.Sessions.{Serves, ServesPart, IsSession, first_of}
use Rattle.nd_serve.proofs.SessionRuns.{sessions_are_runs, sessions_are_legal}
use Rattle.nd_serve_command.proofs.Survived.{sessions_survive, parts_survive}
use Rattle.nd_serve_command.specs.Faults.{fault_of}
use Rattle.nd_serve_command.specs.Sessions.{EndsSession, CutsSession}
use Rattle.nd_serve_command.specs.declared.fault.ServeFault.{ServeFault}

pub session_ended : (start end : World) (fresh : Bool) (status : ℕ) (old new : Seen) → Serves start.inputs start.history end.history (first_of fresh) old new
    → end.inputs ≡ start.inputs → IsExitStatus end.inputs (reverse end.history) status → EndsSession start fresh status old new
session_ended start end fresh status old new serves same exit = record {
  history = end.history;
  serves = serves;
  simulated = λ none.
      sessions_are_runs start.inputs (first_of fresh) serves.opening serves.turns end.history serves.events
      (subst (λ (l : List Entry). IsSession start.inputs l (first_of fresh) serves.opening serves.turns end.history serves.events) none serves.session);
  legal = λ legal. sessions_are_legal start.inputs start.history (first_of fresh) serves.opening serves.turns end.history serves.events legal serves.session;
  exit = subst (λ (i : Premises). IsExitStatus i (reverse end.history) status) same exit;
  survives = λ base begun.
      sessions_survive start.inputs start.history fresh base serves.opening serves.turns end.history serves.events serves.last begun serves.session serves.whole;
}

pub session_cut : (start : World) (fresh : Bool) (cause : SessionFault) (fault : ServeFault) (old new : Seen) → ServesPart start.inputs start.history (first_of fresh) old new cause
    → fault ≡ fault_of cause → CutsSession start fresh fault old new
session_cut start fresh cause fault old new part is = record {
  cause = cause;
  is = is;
  part = part;
  simulated = λ none cut.
      sessions_are_runs start.inputs (first_of fresh) cut.opening cut.turns cut.history cut.whole
      (subst (λ (l : List Entry). IsSession start.inputs l (first_of fresh) cut.opening cut.turns cut.history cut.whole) none cut.session);
  survives = λ base begun. parts_survive start.inputs start.history fresh base cause part.events begun part.part;
}

pub ruleset sessions = (session_ended, session_cut)
