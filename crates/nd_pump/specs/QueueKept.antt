-- What the fields of a queue keep, beside what the model shows.
-- No public clause cites this: it says what a type keeps.
use Rattle.std.specs.Prelude.{◌≡◌, ◌≤◌, ℕ, Bool, List, length}
use Rattle.nd_flags.specs.Members.{IsMember}
use Rattle.nd_pump.specs.Grouped.{group_in}
use Rattle.nd_pump.specs.Queues.{Queued, IsDue}
use Rattle.nd_pump.specs.declared.queue.Queue.TheInside.{Inside}

abbrev pub queued : Inside → Queued
queued q = record { groups = q.grouped.groups; ready = q.grouped.ready; parked = q.parked.items }

-- derivation e is flagged, due, of the group of d and not behind it
pub record IsHeadOf (q : Queued) (heads : List Bool) (d e : ℕ) : Type 0 where
  pub flagged : IsMember heads e
  pub due : IsDue q e
  pub group : group_in q.groups e ≡ group_in q.groups d
  pub not_behind : e ≤ d

-- each derivation that is due has a head
pub record AreHeaded (q : Queued) (heads : List Bool) : Type 0 where
  pub head : (d : ℕ) → IsDue q d → (e : ℕ) × IsHeadOf q heads d e

pub record IsKept (q : Inside) : Type 0 where
  pub groups : length q.parked.items ≡ q.grouped.count
  pub ready : length q.grouped.ready ≡ length q.grouped.groups
  pub sized : length q.heads ≡ length q.grouped.groups
  pub headed : AreHeaded (queued q) q.heads
