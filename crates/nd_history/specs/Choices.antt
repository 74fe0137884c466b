-- What is decided about a derivation after a history, by the tables of the choice and of the hook, read over the loads and
-- the marks of the machines. The histories of these definitions stand newest first.
-- Machine 0 is the local one, and the machine at place p of the builders list is machine p + 1.
-- Public clauses cite this.
use Rattle.std.specs.Prelude.{◌≡◌, ℕ, zero, suc, ◌+◌, ◌<◌, ◌≤◌, ◌↔◌, Bool, true, IsTrue, List, map, length, Some, slice_get}
use Rattle.std.specs.List.{range_with_len}
use Rattle.nd_eligible.specs.declared.need.Need.{Need}
use Rattle.nd_eligible.specs.Eligibility.{IsEligibleAt, LocalOk}
use Rattle.nd_choose.specs.Best.{jobs_at, IsBest}
use Rattle.nd_hook.specs.Replies.{IsReply}
use Rattle.nd_hook.specs.Decisions.{IsDecision}
use Rattle.nd_hook.specs.declared.kinds.Reply.{Reply}
use Rattle.nd_hook.specs.declared.kinds.Decision.{Decision}
use Rattle.nd_hook.specs.declared.kinds.Decision.TheVariants.{Remote}
use Rattle.nd_history.specs.declared.entry.Entry.{Entry}
use Rattle.nd_history.specs.Premises.{Premises}
use Rattle.nd_history.specs.History.{load, is_up}

-- the number of machines of the park, the local one among them
abbrev pub machines_in : Premises → ℕ
machines_in i = length i.machines + 1

-- how many builds may run at once on machine m
abbrev pub jobs_of : Premises → ℕ → ℕ
jobs_of i zero = i.local.jobs
jobs_of i (suc p) = jobs_at i.machines p

-- no machine builds more than 65,535 at once (this project's own choice)
pub record AreSmall (i : Premises) : Type 0 where
  pub jobs : (m : ℕ) → jobs_of i m ≤ 65535

-- the loads of the builders, in the order of their list
abbrev pub loads_of : Premises → List Entry → List ℕ
loads_of i past = map (λ p. load (p + 1) past) (range_with_len 0 (length i.machines))

-- which builders are up, in the order of their list
abbrev pub ups_of : Premises → List Entry → List Bool
ups_of i past = map (λ p. is_up (p + 1) past) (range_with_len 0 (length i.machines))

-- the local machine may build a derivation with this need, and is up
pub record IsLocal (i : Premises) (past : List Entry) (need : Need) : Type 0 where
  pub ok : LocalOk i.local need
  pub jobs : 1 ≤ i.local.jobs
  pub up : is_up 0 past ≡ true

-- .. and has a free slot
pub record IsLocalFree (i : Premises) (past : List Entry) (need : Need) : Type 0 where
  pub home : IsLocal i past need
  pub slot : load 0 past < i.local.jobs

-- the decision about derivation d
pub record HasDecision (i : Premises) (past : List Entry) (d : ℕ) (decision : Decision) : Type 0 where
  pub need : Need
  pub needs : slice_get i.graph.needs d ≡ Some need
  pub loc : Bool
  pub loc_is : IsTrue loc ↔ IsLocal i past need
  pub loc_free : Bool
  pub loc_free_is : IsTrue loc_free ↔ IsLocalFree i past need
  pub decided : IsDecision i.machines (loads_of i past) (ups_of i past) (IsEligibleAt i.machines need) need.prefer_local loc loc_free decision

-- a machine of the list is decided on
pub record IsRemote (i : Premises) (past : List Entry) (d : ℕ) : Type 0 where
  pub place : ℕ
  pub decided : HasDecision i past d (Remote place)

-- the builder at this place is the best for derivation d: the least loaded of the eligible ones that are up and free
pub record IsBestFor (i : Premises) (past : List Entry) (d place : ℕ) : Type 0 where
  pub need : Need
  pub needs : slice_get i.graph.needs d ≡ Some need
  pub best : IsBest i.machines (loads_of i past) (ups_of i past) (IsEligibleAt i.machines need) place

-- the reply of the hook about derivation d; it doesn't ask how d stands
pub record HasReply (i : Premises) (past : List Entry) (d : ℕ) (reply : Reply) : Type 0 where
  pub need : Need
  pub needs : slice_get i.graph.needs d ≡ Some need
  pub loc_free : Bool
  pub loc_free_is : IsTrue loc_free ↔ IsLocalFree i past need
  pub replied : IsReply i.machines (loads_of i past) (ups_of i past) (IsEligibleAt i.machines need) loc_free reply
