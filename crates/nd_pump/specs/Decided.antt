-- What is decided about the derivations of a kind after a history: the tables of the hook, read over the kind's machines. The
-- histories of these definitions stand newest first.
-- Public clauses cite this.
use Rattle.std.specs.Prelude.{◌≡◌, ◌<◌, ◌≤◌, ◌↔◌, ℕ, Bool, true, IsTrue, List, Contains, Some, slice_get}
use Rattle.nd_eligible.specs.declared.need.Need.{Need}
use Rattle.nd_hook.specs.Decisions.{IsDecision}
use Rattle.nd_hook.specs.Replies.{IsReply}
use Rattle.nd_hook.specs.declared.kinds.Decision.{Decision}
use Rattle.nd_hook.specs.declared.kinds.Reply.{Reply}
use Rattle.nd_kinds.specs.declared.kind.Kind.{Kind}
use Rattle.nd_kinds.specs.Kinds.{Kinded, IsKindOf, number_of}
use Rattle.nd_history.specs.declared.entry.Entry.{Entry}
use Rattle.nd_history.specs.Premises.{Premises}
use Rattle.nd_history.specs.History.{load, is_up}
use Rattle.nd_history.specs.Choices.{loads_of, ups_of, HasDecision}

-- the local machine may build derivations of this kind, and is up
pub record IsHome (i : Premises) (past : List Entry) (kind : Kind) : Type 0 where
  pub ok : kind.local ≡ true
  pub jobs : 1 ≤ i.local.jobs
  pub up : is_up 0 past ≡ true

-- .. and has a free slot
pub record IsHomeFree (i : Premises) (past : List Entry) (kind : Kind) : Type 0 where
  pub home : IsHome i past kind
  pub slot : load 0 past < i.local.jobs

-- the decision about derivations of this kind
pub record HasKindDecision (i : Premises) (past : List Entry) (kind : Kind) (decision : Decision) : Type 0 where
  pub loc : Bool
  pub loc_is : IsTrue loc ↔ IsHome i past kind
  pub loc_free : Bool
  pub loc_free_is : IsTrue loc_free ↔ IsHomeFree i past kind
  pub decided : IsDecision i.machines (loads_of i past) (ups_of i past) (Contains kind.places) kind.prefer_local loc loc_free decision

-- the decision about the kind of derivation d
pub record HasDecisionByKind (i : Premises) (past : List Entry) (k : Kinded) (d : ℕ) (decision : Decision) : Type 0 where
  pub each : (kind : Kind) → slice_get k.kinds (number_of k d) ≡ Some kind → HasKindDecision i past kind decision

-- the reply about derivations of this kind; it doesn't ask how they stand
pub record HasKindReply (i : Premises) (past : List Entry) (kind : Kind) (reply : Reply) : Type 0 where
  pub loc_free : Bool
  pub loc_free_is : IsTrue loc_free ↔ IsHomeFree i past kind
  pub replied : IsReply i.machines (loads_of i past) (ups_of i past) (Contains kind.places) loc_free reply

-- what is decided about a kind is decided about each derivation of it
pub record DecidesForAll : Type 0 where
  pub decides : (i : Premises) (past : List Entry) (d : ℕ) (need : Need) (kind : Kind) (decision : Decision)
      → slice_get i.graph.needs d ≡ Some need → IsKindOf i.machines i.local need kind
      → HasKindDecision i past kind decision → HasDecision i past d decision
