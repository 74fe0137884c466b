-- The live lease of a derivation.
use Rattle.std.proofs.Common.{◌≡◌, ◌==◌, ℕ, Bool, true, false, List, [], ◌∷◌, Some, refl, sym, ap, subst, ◌∙◌}
use Rattle.std.specs.Prelude.{cond}
use Rattle.std.specs.List.{find}
use Rattle.std.proofs.lemmas.Bool.{eqb-true}
use Rattle.nd_history.specs.declared.entry.Entry.{Entry}
use Rattle.nd_leases.specs.declared.ticket.Ticket.{Ticket}
use Rattle.nd_history.specs.History.{live, lease_of}
use Rattle.nd_ledger.specs.declared.refusal.Refusal.{Refusal}
use Rattle.nd_ledger.specs.declared.refusal.Refusal.TheVariants.{NotLive, AlreadyStarted, NotStarted, Uncovered, Extra, BadReferences, AlreadyStopped, Memory}
use Rattle.nd_ledger.specs.Refusals.{IsLive}
use Rattle.nd_ledger.specs.Moves.{IsJobRefused}

-- what a search finds passes its test
found_passes : {X : Type 0} (test : X → Bool) (xs : List X) (y : X) → find test xs ≡ Some y → test y ≡ true
found_passes test [] y found = cc
found_passes {X} test (x ∷ xs) y found = by (test x) refl found (found_passes test xs y)
  where
    by : (b : Bool) → test x ≡ b → cond b (Some x) (find test xs) ≡ Some y → (find test xs ≡ Some y → test y ≡ true) → test y ≡ true
    by true is here later = let same : x ≡ y = cc in ap test (sym same) ∙ is
    by false is here later = later here

-- the lease that is found is the derivation's own
pub own_ticket : (d : ℕ) (past : List Entry) (t : Ticket) → lease_of d past ≡ Some t → t.drv ≡ d
own_ticket d past t found = sym (eqb-true d t.drv (found_passes (λ (s : Ticket). d == s.drv) (live past) t found))

-- so it is live
pub live_lease : (d : ℕ) (past : List Entry) (t : Ticket) → lease_of d past ≡ Some t → IsLive past t
live_lease d past t found = subst (λ (e : ℕ). lease_of e past ≡ Some t) (sym (own_ticket d past t found)) found

-- what a live lease's machine lacks is refused for want of memory alone
pub memory_alone : (past : List Entry) (t : Ticket) (e : Refusal) → IsLive past t → IsJobRefused past t e → e ≡ Memory
memory_alone past t NotLive live refused = absurd (refused live)
memory_alone past t AlreadyStarted live refused = absurd refused
memory_alone past t NotStarted live refused = absurd refused
memory_alone past t Uncovered live refused = absurd refused
memory_alone past t Extra live refused = absurd refused
memory_alone past t BadReferences live refused = absurd refused
memory_alone past t AlreadyStopped live refused = absurd refused
memory_alone past t Memory live refused = refl
