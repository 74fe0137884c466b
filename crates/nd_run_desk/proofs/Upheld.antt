-- Lemmas on what is known of a run's dispatch under its lock, while its history grows.
use Rattle.std.proofs.Common.{◌≡◌, ℕ, ◌+◌, true, List, [], ◌∷◌, ◌++◌, length, reverse, Result, Ok, Err, refl, sym, ap, ◌∙◌, subst}
use Rattle.std.specs.Prelude.{IfOk, OnErr}
use Rattle.std.specs.declared.alloc.AllocError.{AllocError}
use Rattle.nd_history.specs.declared.entry.Entry.{Entry}
use Rattle.nd_history.specs.declared.entry.Entry.TheVariants.{Failed}
use Rattle.nd_history.specs.declared.entry.Why.TheVariants.{BadReferences}
use Rattle.nd_history.specs.Premises.{Premises}
use Rattle.nd_history.specs.Pumping.{HasPumped, HasPumpedBy}
use Rattle.nd_history.specs.Sameness.{BeginsWith}
use Rattle.nd_keeping.specs.Scribing.{Scribing, IsScribing}
use Rattle.nd_leases.specs.declared.ticket.Ticket.{Ticket}
use Rattle.nd_ledger.specs.declared.refusal.Refusal.TheVariants.{BadReferences as WrongReferences}
use Rattle.nd_ledger.specs.Moves.{IsEndRefused}
use Rattle.nd_ledger.specs.Worlds.{World}
use Rattle.nd_receipts.specs.declared.judging.Misreports.{Misreports}
use Rattle.nd_receipts.specs.Judged.{HasNone, HasKept, KeepsSame}
use Rattle.nd_receipts.specs.Made.{is_made, made}
use Rattle.nd_run_desk.specs.Abandoned.{last_entries}
use Rattle.nd_run_desk.specs.Judgements.{is_no_misreport}
use Rattle.nd_run_desk.specs.Leaves.{IsFrontOf}
use Rattle.nd_run_desk.specs.Steps.{IsUpheld}
use Rattle.nd_run_desk.proofs.Counts.{made_one, pumped_made, pumped_by_made}
use Rattle.nd_run_desk.proofs.Fronts.{front_made, front_pumped, front_abandoned, front_whole, front_of_front, begun_front, begun_through}
use Rattle.nd_run_desk.proofs.Judgings.{judged_none, judged_made, judged_pumped, judged_abandoned, judged_more, judged_same}
use Rattle.nd_run_desk.proofs.Onward.{runs_first, runs_made, runs_pumped, runs_abandoned}
use Rattle.nd_run_desk.proofs.Told.{told_first, told_made, told_pumped, told_abandoned}

pub upheld_first : (o w : World) (m : Misreports) (h k : List Entry) → o ≡ w → HasNone m → IsFrontOf h w.history → IsFrontOf k w.history → IsUpheld o w m h k
upheld_first o w m h k same none handed durable = record { runs = runs_first o w same; told = told_first o w same; judged = judged_none o w m same none; handed = handed; durable = durable }

-- one entry that a worker made
pub upheld_made : (o a b : World) (m : Misreports) (h k : List Entry) (e : Entry) → IsUpheld o a m h k → b ≡ record a { history = a.history ++ e ∷ [] } → is_made e ≡ true → is_no_misreport e ≡ true → IsUpheld o b m h k
upheld_made o a b m h k e was grown is other = record {
  runs = runs_made o a b e was.runs grown is;
  told = told_made o a b e was.told grown is;
  judged = judged_made o a b e m was.judged grown other;
  handed = front_made a b h e was.handed grown;
  durable = front_made a b k e was.durable grown;
}

-- .. for references that were refused
pub upheld_more : (o a b : World) (m n : Misreports) (h k : List Entry) (t : Ticket) (refs : List (List (List ℕ))) (index : ℕ) → IsUpheld o a m h k → HasKept m n index refs → index ≡ length a.history
    → IsEndRefused a.inputs (reverse a.history) t refs WrongReferences → b ≡ record a { history = a.history ++ Failed t.drv BadReferences ∷ [] } → IsUpheld o b n h k
upheld_more o a b m n h k t refs index was kept last refused grown = record {
  runs = runs_made o a b (Failed t.drv BadReferences) was.runs grown refl;
  told = told_made o a b (Failed t.drv BadReferences) was.told grown refl;
  judged = judged_more o a b t refs index m n was.judged kept last refused grown;
  handed = front_made a b h (Failed t.drv BadReferences) was.handed grown;
  durable = front_made a b k (Failed t.drv BadReferences) was.durable grown;
}

-- .. that found no memory
pub upheld_same : (o a : World) (m n : Misreports) (h k : List Entry) → IsUpheld o a m h k → KeepsSame m n → IsUpheld o a n h k
upheld_same o a m n h k was same = record { runs = was.runs; told = was.told; judged = judged_same o a m n was.judged same; handed = was.handed; durable = was.durable }

-- steps of a pump
pub upheld_pumped : (o a b : World) (m : Misreports) (h k : List Entry) → IsUpheld o a m h k → b.inputs ≡ a.inputs → HasPumped a.inputs a.history b.history → IsUpheld o b m h k
upheld_pumped o a b m h k was inputs pumped = record {
  runs = runs_pumped o a b was.runs inputs pumped;
  told = told_pumped o a b was.told pumped;
  judged = judged_pumped o a b m was.judged inputs pumped;
  handed = front_pumped a.inputs a.history b.history h was.handed pumped;
  durable = front_pumped a.inputs a.history b.history k was.durable pumped;
}

pub upheld_pumped_by : (o a b : World) (m : Misreports) (h k : List Entry) (n : ℕ) → IsUpheld o a m h k → b.inputs ≡ a.inputs → HasPumpedBy a.inputs a.history b.history n → IsUpheld o b m h k
upheld_pumped_by o a b m h k n was inputs by = upheld_pumped o a b m h k was inputs by.pumped

-- .. however it ends
pub upheld_by_pump : (o a b : World) (m : Misreports) (h k : List Entry) (result : Result ℕ AllocError) → IsUpheld o a m h k → b.inputs ≡ a.inputs → IfOk result (HasPumpedBy a.inputs a.history b.history) → OnErr result (HasPumped a.inputs a.history b.history) → IsUpheld o b m h k
upheld_by_pump o a b m h k (Ok n) was inputs steps err = upheld_pumped_by o a b m h k n was inputs steps
upheld_by_pump o a b m h k (Err e) was inputs steps err = upheld_pumped o a b m h k was inputs err

pub counted_pumped : (i : Premises) (old new : List Entry) (result : Result ℕ AllocError) → IfOk result (HasPumpedBy i old new) → OnErr result (HasPumped i old new) → made new ≡ made old
counted_pumped i old new (Ok n) steps err = pumped_by_made i old new n steps
counted_pumped i old new (Err e) steps err = pumped_made i old new err

pub counted_made : (a b : World) (e : Entry) (before after : ℕ) → b ≡ record a { history = a.history ++ e ∷ [] } → is_made e ≡ true → made a.history ≡ before → after ≡ before + 1 → made b.history ≡ after
counted_made a b e before after grown is counted total =
    made_one a.history b.history e (ap (λ (w : World). w.history) grown) is ∙ ap (λ n. n + 1) counted ∙ sym total

-- the ends of leases that no worker serves
pub upheld_abandoned : (o a b : World) (m : Misreports) (h k : List Entry) (manned : List (ℕ × ℕ)) → IsUpheld o a m h k → b ≡ record a { history = a.history ++ last_entries a.inputs manned (reverse a.history) } → IsUpheld o b m h k
upheld_abandoned o a b m h k manned was grown = record {
  runs = runs_abandoned o a b manned was.runs grown;
  told = told_abandoned o a b manned was.told grown;
  judged = judged_abandoned o a b manned m was.judged grown;
  handed = front_abandoned a b h manned was.handed grown;
  durable = front_abandoned a b k manned was.durable grown;
}

-- ---- what is handed to the scribe, and durable

pub upheld_handed : (o a : World) (m : Misreports) (h k : List Entry) → IsUpheld o a m h k → IsUpheld o a m a.history k
upheld_handed o a m h k was = record { runs = was.runs; told = was.told; judged = was.judged; handed = front_whole a.history; durable = was.durable }

pub upheld_durable : (o a : World) (m : Misreports) (h k l : List Entry) (scribe : Scribing) → IsUpheld o a m h k → IsScribing scribe → BeginsWith h scribe.handed.entries → l ≡ scribe.kept.entries → IsUpheld o a m h l
upheld_durable o a m h k l scribe was scribing begins same =
    let of_scribe : BeginsWith scribe.handed.entries scribe.kept.entries = record { later = scribing.later; whole = scribing.whole } in
    let of_history : BeginsWith a.history scribe.handed.entries = begun_through a.history h scribe.handed.entries was.handed begins in
    let there : IsFrontOf scribe.kept.entries a.history = front_of_front scribe.kept.entries scribe.handed.entries a.history (begun_front scribe.handed.entries scribe.kept.entries of_scribe) (begun_front a.history scribe.handed.entries of_history) in
    let P : List Entry → Type 0 = λ es. IsFrontOf es a.history in
    record { runs = was.runs; told = was.told; judged = was.judged; handed = was.handed; durable = subst P (sym same) there }
