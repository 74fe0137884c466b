-- What a build hook replies about a derivation, over the machines of a list, their taken slots and
-- whether each is up (modelled on Nix's build-remote; the conditions are this project's own
-- choice). `IsMeant` says which machines may build the derivation, and `loc_free` that the local
-- machine may build it and has a free slot.
-- Public clauses cite this.
use Rattle.std.specs.Prelude.{◌≡◌, ◌⊎◌, ℕ, ◌<◌, Bool, true, false, List, [], length}
use Rattle.nd_machines.specs.Builders.{Builder}
use Rattle.nd_choose.specs.Best.{is_up_at, IsCandidate, IsBest}
use Rattle.nd_hook.specs.declared.kinds.Reply.{Reply}
use Rattle.nd_hook.specs.declared.kinds.Reply.TheVariants.{Accept, Postpone, Decline, DeclinePermanently}

-- a machine that may build the derivation is up
pub record IsOneUp (ups : List Bool) (IsMeant : ℕ → Type 0) : Type 0 where
  pub place : ℕ
  pub meant : IsMeant place
  pub up : is_up_at ups place ≡ true

-- none of them is up and free
abbrev pub IsNoneFree : List Builder → List ℕ → List Bool → (ℕ → Type 0) → Type 0
IsNoneFree machines loads ups IsMeant = (place : ℕ) → IsCandidate machines loads ups IsMeant place → ⊥

-- without machines for good no; with a free one the best; where one is up but none is free, and
-- there is no free local slot, later; else no
abbrev pub IsReply : List Builder → List ℕ → List Bool → (ℕ → Type 0) → Bool → Reply → Type 0
IsReply machines loads ups IsMeant loc_free DeclinePermanently = machines ≡ []
IsReply machines loads ups IsMeant loc_free (Accept place) = IsBest machines loads ups IsMeant place
IsReply machines loads ups IsMeant loc_free Postpone =
    IsNoneFree machines loads ups IsMeant × IsOneUp ups IsMeant × (loc_free ≡ false)
IsReply machines loads ups IsMeant loc_free Decline =
    (0 < length machines) × IsNoneFree machines loads ups IsMeant
    × ((IsOneUp ups IsMeant → ⊥) ⊎ (loc_free ≡ true))
