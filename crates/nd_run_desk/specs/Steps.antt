-- What a run adds to a history. The public clauses of a run cite it. The histories of these definitions stand newest first, but
-- for those of `AreRunSteps`. This project's own choice.
use Rattle.std.specs.Prelude.{◌≡◌, ◌≤◌, true, false, List, [], ◌∷◌, ◌++◌, length, drop, reverse}
use Rattle.std.specs.List.{list_any, list_all}
use Rattle.nd_history.specs.declared.entry.Entry.{Entry}
use Rattle.nd_history.specs.declared.entry.Entry.TheVariants.{Chosen, NoBuilder, Started, Down, Built, Failed, Stop, Drain, Enable}
use Rattle.nd_history.specs.History.{is_stop}
use Rattle.nd_history.specs.Premises.{Premises}
use Rattle.nd_history.specs.Pumping.{IsPumpStep}
use Rattle.nd_ledger.specs.Worlds.{World}
use Rattle.nd_receipts.specs.declared.judging.Misreports.{Misreports}
use Rattle.nd_receipts.specs.Made.{is_quiet}
use Rattle.nd_run_desk.specs.Judgements.{AreJudged}
use Rattle.nd_run_desk.specs.Leaves.{IsFrontOf}

-- a dispatch has one entry more, and nothing else of it has changed
abbrev pub Records : World → Entry → World → Type 0
Records before e after = after ≡ record before { history = before.history ++ e ∷ [] }

-- a run may add the entry: a choice, or the word that nothing can build a derivation, is the pump's step of what stands before
-- it; and no machine is drained or enabled
abbrev pub IsRunStep : Premises → List Entry → Entry → Type 0
IsRunStep i past (Chosen d m s) = IsPumpStep i past (Chosen d m s)
IsRunStep i past (NoBuilder d) = IsPumpStep i past (NoBuilder d)
IsRunStep i past (Started d paths) = Unit {0}
IsRunStep i past (Down d) = Unit {0}
IsRunStep i past (Built d refs) = Unit {0}
IsRunStep i past (Failed d why) = Unit {0}
IsRunStep i past Stop = Unit {0}
IsRunStep i past (Drain m) = ⊥
IsRunStep i past (Enable m) = ⊥

-- the entries after a history, which stands oldest first as they do: a run may add each to what stands before it
abbrev pub AreRunSteps : Premises → List Entry → List Entry → Type 0
AreRunSteps i history [] = Unit {0}
AreRunSteps i history (e ∷ steps) = IsRunStep i (reverse history) e × AreRunSteps i (history ++ e ∷ []) steps

-- a dispatch has the inputs of an earlier one, and its history is the earlier one's with what a run may add
pub record IsRunOf (opening now : World) : Type 0 where
  pub inputs : now.inputs ≡ opening.inputs
  pub steps : List Entry
  pub grown : now.history ≡ opening.history ++ steps
  pub each : AreRunSteps opening.inputs opening.history steps

-- .. as a fact that has at most one proof, so that it can be kept under a lock
pub record RunsOn (opening now : World) : Type 0 where
  pub merely : ∥ IsRunOf opening now ∥₁

-- nothing but quiet entries came since the opening, where no stop stands: whoever ends a lease that no worker serves stops the run
pub record StopsAreTold (opening now : World) : Type 0 where
  pub long : length opening.history ≤ length now.history
  pub quiet : list_any is_stop now.history ≡ false → list_all is_quiet (drop (length opening.history) now.history) ≡ true

-- what is known of a run's dispatch whenever its lock is taken: it goes on from the opening one, a stop tells that the run was ended,
-- each failure for references since then has such as are kept, and are wrong, and what was handed to the run's scribe, and what of it is
-- durable, are the history's first entries
pub record IsUpheld (opening now : World) (misreports : Misreports) (front kept : List Entry) : Type 0 where
  pub runs : RunsOn opening now
  pub told : StopsAreTold opening now
  pub judged : AreJudged opening now misreports
  pub handed : IsFrontOf front now.history
  pub durable : IsFrontOf kept now.history
