-- What calls on a dispatch say of the commands that they stand for.
use Rattle.std.proofs.Common.{◌≡◌, ℕ, true, List, [], ◌∷◌, ◌++◌, reverse, Some, refl, ap, subst, ◌∙◌, inl, inr}
use Rattle.nd_path.specs.PathSets.{IsRising}
use Rattle.nd_history.specs.declared.entry.Entry.{Entry}
use Rattle.nd_history.specs.declared.entry.Why.{Why}
use Rattle.nd_leases.specs.declared.ticket.Ticket.{Ticket}
use Rattle.nd_history.specs.Premises.{Premises}
use Rattle.nd_history.specs.History.{lease_of, is_leased}
use Rattle.nd_history.specs.Legal.{IsAllowed}
use Rattle.nd_history.proofs.Provisions.{leased_by}
use Rattle.nd_provision.specs.Stored.{IsMissing}
use Rattle.nd_ledger.specs.declared.refusal.Refusal.{Refusal}
use Rattle.nd_ledger.specs.Refusals.{IsFailRefused, IsDownRefused}
use Rattle.nd_ledger.specs.Moves.{IsStartRefused, IsEndRefused}
use Rattle.nd_ledger.specs.Worlds.{World}
use Rattle.nd_script.specs.declared.command.Command.{Command}
use Rattle.nd_script.specs.declared.command.Command.TheVariants.{Start, StartWith, Built, BuiltWith, Fail, Lose, Down, Stop, Drain, Enable, Ask}
use Rattle.nd_sim.specs.Answers.{Adds, HasAdded, IsRefusedWith, IsTicketRefused, IsCommandRefused, no_references}
use Rattle.nd_sim.specs.Outcomes.{TakesMemory, IsRefusal}

pub added : (old new : World) (command : Command) (e : Entry) → Adds old.inputs (reverse old.history) command e → IsAllowed old.inputs e (reverse old.history)
    → new ≡ record { inputs = old.inputs; history = old.history ++ e ∷ [] } → HasAdded old.inputs old.history new.history command
added old new command e adds allowed is = record { entry = e; adds = adds; allowed = allowed; grown = ap (λ (w : World). w.history) is }

-- a call with a lease's ticket adds an entry about its derivation
about : (old new : World) (command : Command) (of : ℕ → Entry) (d n : ℕ) → n ≡ d → Adds old.inputs (reverse old.history) command (of d) → IsAllowed old.inputs (of n) (reverse old.history)
    → new ≡ record { inputs = old.inputs; history = old.history ++ of n ∷ [] } → HasAdded old.inputs old.history new.history command
about old new command of d n own adds allowed is =
    added old new command (of d) adds (subst (λ (x : ℕ). IsAllowed old.inputs (of x) (reverse old.history)) own allowed)
    (is ∙ ap (λ (x : ℕ). record { inputs = old.inputs; history = old.history ++ of x ∷ [] }) own)

lease_refused : (i : Premises) (past : List Entry) (d : ℕ) (command : Command) (t : Ticket) (e : Refusal) → lease_of d past ≡ Some t → IsRefusedWith i past command t e → IsTicketRefused i past d command e
lease_refused i past d command t e lease refused = inr (record { ticket = t; lease = lease; refused = refused })

pub genuinely_refused : (i : Premises) (past : List Entry) (command : Command) (e : Refusal) → IsRefusal i past command e → (e ≡ Refusal.Memory → ⊥) → IsCommandRefused i past command e
genuinely_refused i past command e refused genuine = elim refused [ inl want ↦ absurd (genuine want.is) | inr cause ↦ cause ]

-- ---- want of memory

-- a call with a ticket wants memory for a live lease alone
wants_with : (i : Premises) (past : List Entry) (d : ℕ) (command : Command) → IsTicketRefused i past d command Refusal.Memory → is_leased d past ≡ true
wants_with i past d command (inl none) = let is = none.is in cc
wants_with i past d command (inr refused) = leased_by d past refused.ticket refused.lease

wants_never : (i : Premises) (past : List Entry) (d : ℕ) (command : Command) → ((t : Ticket) → IsRefusedWith i past command t Refusal.Memory → ⊥) → IsTicketRefused i past d command Refusal.Memory → ⊥
wants_never i past d command none_with (inl none) = let is = none.is in cc
wants_never i past d command none_with (inr refused) = none_with refused.ticket refused.refused

wants : (i : Premises) (past : List Entry) (command : Command) → IsCommandRefused i past command Refusal.Memory → TakesMemory past command
wants i past (Start d) h = wants_with i past d (Start d) h
wants i past (StartWith d paths) h = wants_with i past d (StartWith d paths) h
wants i past (Built d) h = wants_with i past d (Built d) h
wants i past (BuiltWith d refs) h = wants_with i past d (BuiltWith d refs) h
wants i past (Fail d c) h = wants_never i past d (Fail d c) (λ t k. k) h
wants i past (Lose d) h = wants_never i past d (Lose d) (λ t k. k) h
wants i past (Down d) h = wants_never i past d (Down d) (λ t k. k) h
wants i past Stop h = h
wants i past (Drain m) h = tt
wants i past (Enable m) h = tt
wants i past (Ask d) h = h

pub wanting : (i : Premises) (past : List Entry) (command : Command) (e : Refusal) → IsRefusal i past command e → e ≡ Refusal.Memory → TakesMemory past command
wanting i past command e refused is =
    elim refused [ inl want ↦ want.takes | inr cause ↦ wants i past command (subst (λ (r : Refusal). IsCommandRefused i past command r) is cause) ]

pub start_wants : (i : Premises) (past : List Entry) (d : ℕ) (t : Ticket) (e : Refusal) → lease_of d past ≡ Some t → e ≡ Refusal.Memory → IsRefusal i past (Command.Start d) e
start_wants i past d t e lease is = inl (record { is = is; takes = leased_by d past t lease })

pub end_wants : (i : Premises) (past : List Entry) (d : ℕ) (t : Ticket) → lease_of d past ≡ Some t → IsRefusal i past (Command.Built d) Refusal.Memory
end_wants i past d t lease = inl (record { is = refl; takes = leased_by d past t lease })

pub drain_wants : (i : Premises) (past : List Entry) (m : ℕ) → IsRefusal i past (Command.Drain m) Refusal.Memory
drain_wants i past m = inl (record { is = refl; takes = tt })

pub enable_wants : (i : Premises) (past : List Entry) (m : ℕ) → IsRefusal i past (Command.Enable m) Refusal.Memory
enable_wants i past m = inl (record { is = refl; takes = tt })

-- ---- entries and refusals

pub full_start : (old new : World) (d : ℕ) (t : Ticket) (paths : List (List ℕ)) → lease_of d (reverse old.history) ≡ Some t → t.drv ≡ d
    → IsMissing old.inputs (reverse old.history) t.drv t.machine paths → IsRising paths → IsAllowed old.inputs (Entry.Started t.drv paths) (reverse old.history)
    → new ≡ record { inputs = old.inputs; history = old.history ++ Entry.Started t.drv paths ∷ [] } → HasAdded old.inputs old.history new.history (Command.Start d)
full_start old new d t paths lease own missing rising allowed is =
    about old new (Command.Start d) (λ (n : ℕ). Entry.Started n paths) d t.drv own
    (record {
      ticket = t;
      lease = lease;
      paths = paths;
      missing = subst (λ (n : ℕ). IsMissing old.inputs (reverse old.history) n t.machine paths) own missing;
      rising = rising;
      is = refl;
    })
    allowed is

pub full_start_refused : (i : Premises) (past : List Entry) (d : ℕ) (t : Ticket) (paths : List (List ℕ)) (e : Refusal) → lease_of d past ≡ Some t → t.drv ≡ d
    → IsMissing i past t.drv t.machine paths → IsStartRefused i past t paths e → IsRefusal i past (Command.Start d) e
full_start_refused i past d t paths e lease own missing refused = inr (lease_refused i past d (Command.Start d) t e lease (record {
  paths = paths;
  missing = subst (λ (n : ℕ). IsMissing i past n t.machine paths) own missing;
  refused = refused;
}))

pub started : (old new : World) (d : ℕ) (t : Ticket) (paths : List (List ℕ)) → t.drv ≡ d → IsAllowed old.inputs (Entry.Started t.drv paths) (reverse old.history)
    → new ≡ record { inputs = old.inputs; history = old.history ++ Entry.Started t.drv paths ∷ [] } → HasAdded old.inputs old.history new.history (Command.StartWith d paths)
started old new d t paths own allowed is = about old new (Command.StartWith d paths) (λ (n : ℕ). Entry.Started n paths) d t.drv own refl allowed is

pub start_refused : (i : Premises) (past : List Entry) (d : ℕ) (t : Ticket) (paths : List (List ℕ)) (e : Refusal) → lease_of d past ≡ Some t → IsStartRefused i past t paths e → IsRefusal i past (Command.StartWith d paths) e
start_refused i past d t paths e lease refused = inr (lease_refused i past d (Command.StartWith d paths) t e lease refused)

pub ended : (old new : World) (d : ℕ) (t : Ticket) (refs : List (List (List ℕ))) → t.drv ≡ d → IsAllowed old.inputs (Entry.Built t.drv refs) (reverse old.history)
    → new ≡ record { inputs = old.inputs; history = old.history ++ Entry.Built t.drv refs ∷ [] } → HasAdded old.inputs old.history new.history (Command.BuiltWith d refs)
ended old new d t refs own allowed is = about old new (Command.BuiltWith d refs) (λ (n : ℕ). Entry.Built n refs) d t.drv own refl allowed is

pub end_refused : (i : Premises) (past : List Entry) (d : ℕ) (t : Ticket) (refs : List (List (List ℕ))) (e : Refusal) → lease_of d past ≡ Some t → IsEndRefused i past t refs e → IsRefusal i past (Command.BuiltWith d refs) e
end_refused i past d t refs e lease refused = inr (lease_refused i past d (Command.BuiltWith d refs) t e lease refused)

pub failed : (old new : World) (d : ℕ) (t : Ticket) (status : ℕ) → t.drv ≡ d → IsAllowed old.inputs (Entry.Failed t.drv (Why.Status status)) (reverse old.history)
    → new ≡ record { inputs = old.inputs; history = old.history ++ Entry.Failed t.drv (Why.Status status) ∷ [] } → HasAdded old.inputs old.history new.history (Command.Fail d status)
failed old new d t status own allowed is = about old new (Command.Fail d status) (λ (n : ℕ). Entry.Failed n (Why.Status status)) d t.drv own refl allowed is

pub fail_refused : (i : Premises) (past : List Entry) (d : ℕ) (t : Ticket) (status : ℕ) (e : Refusal) → lease_of d past ≡ Some t → IsFailRefused past t e → IsRefusal i past (Command.Fail d status) e
fail_refused i past d t status e lease refused = inr (lease_refused i past d (Command.Fail d status) t e lease refused)

pub lost : (old new : World) (d : ℕ) (t : Ticket) → t.drv ≡ d → IsAllowed old.inputs (Entry.Failed t.drv Why.Lost) (reverse old.history)
    → new ≡ record { inputs = old.inputs; history = old.history ++ Entry.Failed t.drv Why.Lost ∷ [] } → HasAdded old.inputs old.history new.history (Command.Lose d)
lost old new d t own allowed is = about old new (Command.Lose d) (λ (n : ℕ). Entry.Failed n Why.Lost) d t.drv own refl allowed is

pub lose_refused : (i : Premises) (past : List Entry) (d : ℕ) (t : Ticket) (e : Refusal) → lease_of d past ≡ Some t → IsFailRefused past t e → IsRefusal i past (Command.Lose d) e
lose_refused i past d t e lease refused = inr (lease_refused i past d (Command.Lose d) t e lease refused)

pub given_back : (old new : World) (d : ℕ) (t : Ticket) → t.drv ≡ d → IsAllowed old.inputs (Entry.Down t.drv) (reverse old.history)
    → new ≡ record { inputs = old.inputs; history = old.history ++ Entry.Down t.drv ∷ [] } → HasAdded old.inputs old.history new.history (Command.Down d)
given_back old new d t own allowed is = about old new (Command.Down d) (λ (n : ℕ). Entry.Down n) d t.drv own refl allowed is

pub down_refused : (i : Premises) (past : List Entry) (d : ℕ) (t : Ticket) (e : Refusal) → lease_of d past ≡ Some t → IsDownRefused past t e → IsRefusal i past (Command.Down d) e
down_refused i past d t e lease refused = inr (lease_refused i past d (Command.Down d) t e lease refused)

pub bare_end : (old new : World) (d : ℕ) (t : Ticket) (refs : List (List (List ℕ))) → t.drv ≡ d → refs ≡ no_references old.inputs d
    → IsAllowed old.inputs (Entry.Built t.drv refs) (reverse old.history)
    → new ≡ record { inputs = old.inputs; history = old.history ++ Entry.Built t.drv refs ∷ [] } → HasAdded old.inputs old.history new.history (Command.Built d)
bare_end old new d t refs own none allowed is =
    about old new (Command.Built d) (λ (n : ℕ). Entry.Built n refs) d t.drv own (ap (Entry.Built d) none) allowed is

pub bare_end_refused : (i : Premises) (past : List Entry) (d : ℕ) (t : Ticket) (refs : List (List (List ℕ))) (e : Refusal) → lease_of d past ≡ Some t → refs ≡ no_references i d
    → IsEndRefused i past t refs e → IsRefusal i past (Command.Built d) e
bare_end_refused i past d t refs e lease none refused =
    inr (lease_refused i past d (Command.Built d) t e lease (subst (λ (rs : List (List (List ℕ))). IsEndRefused i past t rs e) none refused))
