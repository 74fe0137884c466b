-- Lemmas on what a worker is known to have done.
use Rattle.std.proofs.Common.{◌≡◌, ℕ, List, [], ◌∷◌, map, refl, sym, subst}
use Rattle.std.proofs.lemmas.List.{append-nil}
use Rattle.nd_history.specs.declared.entry.Entry.{Entry}
use Rattle.nd_receipts.specs.declared.receipt.Receipt.{Receipt}
use Rattle.nd_work.specs.declared.working.End.{End}
use Rattle.nd_work.specs.declared.working.End.TheVariants.{Left}
use Rattle.nd_receipts.specs.Noted.AreLeases.{none}
use Rattle.nd_receipts.specs.Noted.{Noted, track}
use Rattle.nd_work.specs.Ends.{EndsWell}
use Rattle.nd_transports.specs.Calls.{State, Deed}
use Rattle.nd_workers.specs.declared.seat.Seat.{Seat}
use Rattle.nd_workers.specs.declared.threads.Stint.{Stint}
use Rattle.nd_workers.specs.Served.{Seated, IsServed, HaveServed, places_served}

-- a worker that did nothing
pub served_idle : (Due : ℕ → Deed → Type 0) (b : Seated) (notes : Noted) → notes.receipts ≡ [] → notes.copies ≡ [] → IsServed Due b Left b notes
served_idle Due b notes rs es = record {
  place = refl;
  goes = record {
    receipts = [];
    copies = [];
    deeds = [];
    receipts_are = rs;
    copies_are = es;
    deeds_are = sym (append-nil b.deeds);
    agree = none;
  };
}

-- a worker that began without receipts
pub served_by : (Due : ℕ → Deed → Type 0) (b a : Seated) (how : End) (old notes : Noted) → old.receipts ≡ [] → old.copies ≡ [] → EndsWell Due how (track old b.deeds) (track notes a.deeds) → a.place ≡ b.place → IsServed Due b how a notes
served_by Due b a how old notes rs es ends place =
    let P : List Receipt → Type 0 = λ r. EndsWell Due how (record { receipts = r; copies = old.copies; deeds = b.deeds }) (track notes a.deeds) in
    let Q : List Entry → Type 0 = λ e. EndsWell Due how (record { receipts = []; copies = e; deeds = b.deeds }) (track notes a.deeds) in
    record { place = place; goes = subst Q es (subst P rs ends) }

pub ruleset servings = (served_idle, served_by)

-- workers keep their places
pub places_kept : {T : Type 0} (Due : ℕ → Deed → Type 0) (state : T → State) (workers : List (Seat T)) (stints : List (Stint T)) → HaveServed Due state workers stints → places_served (map (λ x. x.seat) stints) ≡ places_served workers
places_kept Due state [] [] all = refl
places_kept Due state [] (x ∷ stints) all = absurd all
places_kept Due state (w ∷ workers) [] all = absurd all
places_kept Due state (w ∷ workers) (x ∷ stints) all = let rest = places_kept Due state workers stints all.1 in λ i. all.0.place i ∷ rest i
