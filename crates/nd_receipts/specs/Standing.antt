-- Which derivations were being built when a run began. The histories of these definitions stand newest first. The public clause
-- `calls` of nd_workers' `run` cites `ends_build` and what it is made of; the rest is what the flags of the derivations say.
-- This project's own choice.
use Rattle.std.specs.Prelude.{◌≡◌, ℕ, ◌&&◌, Bool, true, false, List, Option, Some, None, length, replicate, slice_get, slice_set}
use Rattle.nd_history.specs.declared.entry.Entry.{Entry}
use Rattle.nd_history.specs.declared.entry.Entry.TheVariants.{Chosen, NoBuilder, Started, Down, Built, Failed, Stop, Drain, Enable}
use Rattle.nd_history.specs.History.{is_leased, is_started}
use Rattle.nd_receipts.specs.declared.standing.Standing.{Standing}

-- derivation d is being built: its lease is live and was started
abbrev pub is_building : ℕ → List Entry → Bool
is_building d past = is_leased d past && is_started d past

-- the entry is the end of a lease of one of these derivations
abbrev pub ends_one : (ℕ → Bool) → Entry → Bool
ends_one these (Down d) = these d
ends_one these (Built d refs) = these d
ends_one these (Failed d why) = these d
ends_one these (Chosen d m s) = false
ends_one these (NoBuilder d) = false
ends_one these (Started d paths) = false
ends_one these Stop = false
ends_one these (Drain m) = false
ends_one these (Enable m) = false

-- the entry is the end of a lease of a derivation that was being built after `past`
abbrev pub ends_build : List Entry → Entry → Bool
ends_build past e = ends_one (λ d. is_building d past) e

-- ---- flags of the derivations

-- what an entry says of whether a derivation is leased: its choice that it is, its end that it isn't
abbrev pub lease_said : Entry → Option (ℕ × Bool)
lease_said (Chosen d m s) = Some (d, true)
lease_said (Down d) = Some (d, false)
lease_said (Built d refs) = Some (d, false)
lease_said (Failed d why) = Some (d, false)
lease_said (NoBuilder d) = None
lease_said (Started d paths) = None
lease_said Stop = None
lease_said (Drain m) = None
lease_said (Enable m) = None

-- .. and of whether its lease was started: its start that it was, its choice that it wasn't
abbrev pub start_said : Entry → Option (ℕ × Bool)
start_said (Started d paths) = Some (d, true)
start_said (Chosen d m s) = Some (d, false)
start_said (NoBuilder d) = None
start_said (Down d) = None
start_said (Built d refs) = None
start_said (Failed d why) = None
start_said Stop = None
start_said (Drain m) = None
start_said (Enable m) = None

-- a flag that isn't there isn't set
abbrev pub flag_of : Option Bool → Bool
flag_of None = false
flag_of (Some flag) = flag

-- the flags once this was said of a derivation
abbrev pub flags_after : List Bool → Option (ℕ × Bool) → List Bool
flags_after flags None = flags
flags_after flags (Some said) = slice_set flags said.0 said.1

-- derivation d is being built, by the flags
abbrev pub is_flagged : Standing → ℕ → Bool
is_flagged standing d = flag_of (slice_get standing.leased.items d) && flag_of (slice_get standing.started.items d)

-- the flags tell of each derivation whether it is being built
pub record Tells (standing : Standing) (past : List Entry) : Type 0 where
  pub each : (d : ℕ) → is_flagged standing d ≡ is_building d past

-- no derivation was leased yet
pub record IsIdle (standing : Standing) : Type 0 where
  pub leased : standing.leased.items ≡ replicate (length standing.leased.items) false
  pub started : standing.started.items ≡ replicate (length standing.leased.items) false
