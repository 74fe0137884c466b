-- Whose turn it is: the ready derivations by kind, the kinds that are passed over since they are to wait, and the builders that may
-- have a free slot. How these follow a history entry by entry. The histories of these definitions stand newest first. Parking is this
-- project's own choice.
-- Public clauses cite this.
use Rattle.std.specs.Prelude.{◌≡◌, ◌+◌, ℕ, Bool, true, false, List, Contains, Option, None, Some, MatchOption, length, slice_get, slice_index_or}
use Rattle.std.specs.Option.{option_map}
use Rattle.nd_flags.specs.Members.{IsMember}
use Rattle.nd_graph.specs.Walks.{inputs_of}
use Rattle.nd_failure.specs.Progress.{Progress, IsReady}
use Rattle.nd_hook.specs.declared.kinds.Decision.TheVariants.{Wait}
use Rattle.nd_kinds.specs.declared.kind.Kind.{Kind}
use Rattle.nd_kinds.specs.Kinds.{Kinded, AreKinds, users_of}
use Rattle.nd_pump.specs.Queues.{Queued}
use Rattle.nd_leases.specs.declared.ticket.Ticket.{Ticket}
use Rattle.nd_history.specs.declared.entry.Entry.{Entry}
use Rattle.nd_history.specs.declared.entry.Entry.TheVariants.{Chosen, NoBuilder, Started, Down, Built, Failed, Stop, Drain, Enable}
use Rattle.nd_history.specs.Premises.{Premises}
use Rattle.nd_history.specs.History.{lease_of}
use Rattle.nd_pump.specs.Decided.{HasKindDecision}
use Rattle.nd_pump.specs.Vacancies.{AreVacant, HasOpened}

pub record Turned : Type 0 where
  -- the ready derivations by the numbers of their kinds, and which kinds are parked
  pub queue : Queued
  pub kinds : Kinded
  -- for each builder whether it may have a free slot
  pub vacant : List Bool

-- kind n is passed over
abbrev pub is_parked : Turned → ℕ → Bool
is_parked t n = slice_index_or t.queue.parked n false

-- the queue's groups are the kinds, and each machine but the local one is a builder
pub record IsWhole (t : Turned) : Type 0 where
  pub groups : t.queue.groups ≡ t.kinds.numbers
  pub ready : length t.queue.ready ≡ length t.kinds.numbers
  pub parked : length t.queue.parked ≡ length t.kinds.kinds
  pub park : length t.kinds.users ≡ length t.vacant + 1

-- what is ready on the board is ready in the queue
pub record AreListed (p : Progress) (q : Queued) : Type 0 where
  pub each : (d : ℕ) → IsReady p d → IsMember q.ready d

-- each kind that is passed over is to wait
pub record DoWait (i : Premises) (past : List Entry) (t : Turned) : Type 0 where
  pub each : (n : ℕ) (kind : Kind) → slice_get t.kinds.kinds n ≡ Some kind → is_parked t n ≡ true → HasKindDecision i past kind Wait

-- the turns follow the history, as the board does
pub record AreTurns (i : Premises) (past : List Entry) (p : Progress) (t : Turned) : Type 0 where
  pub whole : IsWhole t
  pub kinds : AreKinds i.machines i.local i.graph.needs t.kinds
  pub listed : AreListed p t.queue
  pub waits : DoWait i past t
  pub vacant : AreVacant i past t.vacant

-- builders were looked at: those that may have a free slot go on following the history, and nothing else changed
pub record HasSearched (i : Premises) (past : List Entry) (old new : Turned) : Type 0 where
  pub queue : new.queue ≡ old.queue
  pub kinds : new.kinds ≡ old.kinds
  pub vacant : AreVacant i past new.vacant

-- the machine of derivation d's live lease
abbrev pub machine_of : ℕ → List Entry → Option ℕ
machine_of d past = option_map (λ (t : Ticket). t.machine) (lease_of d past)

-- the machine that an entry gives a slot, takes one back from, or puts up or down, but for a choice, which takes one alone
abbrev pub touched : Entry → List Entry → Option ℕ
touched (Chosen d m s) past = None
touched (NoBuilder d) past = None
touched (Started d paths) past = None
touched (Down d) past = machine_of d past
touched (Built d refs) past = machine_of d past
touched (Failed d why) past = machine_of d past
touched Stop past = None
touched (Drain m) past = Some m
touched (Enable m) past = Some m

-- derivation d may become ready by the entry
abbrev pub IsNews : Progress → Entry → ℕ → Type 0
IsNews p (Chosen c m s) d = ⊥
IsNews p (NoBuilder c) d = ⊥
IsNews p (Started c paths) d = ⊥
IsNews p (Down c) d = d ≡ c
IsNews p (Built c refs) d = Contains (inputs_of p.inputs d) c
IsNews p (Failed c why) d = ⊥
IsNews p Stop d = ⊥
IsNews p (Drain m) d = ⊥
IsNews p (Enable m) d = ⊥

-- the turns followed an entry that touches this machine, after the board, which is p: what became ready is listed, no kind that may
-- use the machine is passed over, and it may have a free slot
pub record HasTurned (p : Progress) (e : Entry) (machine : Option ℕ) (old new : Turned) : Type 0 where
  pub kinds : new.kinds ≡ old.kinds
  pub kept : (d : ℕ) → IsMember old.queue.ready d → IsMember new.queue.ready d
  pub listed : (d : ℕ) → IsNews p e d → IsReady p d → IsMember new.queue.ready d
  pub parked : (n : ℕ) → is_parked new n ≡ true → is_parked old n ≡ true
  pub woken : MatchOption machine (Unit {0}) (λ m. (n : ℕ) → Contains (users_of old.kinds m) n → is_parked new n ≡ false)
  pub opened : HasOpened machine old.vacant new.vacant
