use Rattle.std.proofs.Common.{◌+◌, ℕ, Bool, length, sym, subst, ap, ◌∙◌}
use Rattle.nd_keeping.specs.Listing.{Listed}
use Rattle.nd_ledger.specs.Worlds.{World}
use Rattle.nd_receipts.specs.Made.{made}
use Rattle.nd_workers.specs.declared.seat.Seat.{Seat}
use Rattle.nd_workers.specs.Faults.{IsFaultFrom}
use Rattle.nd_workers.specs.Runs.{IsServedIn, AreReceiptedFrom}
use Rattle.nd_run_desk.specs.Jobs.{IsDue}
use Rattle.nd_run_desk.specs.Judgements.{AreJudged}
use Rattle.nd_transports.specs.Calls.{Deed}
use Rattle.nd_run_desk.specs.Steps.{RunsOn, StopsAreTold}
use Rattle.nd_run_desk.specs.Written.{IsWritten}
use Rattle.nd_workers.specs.Served.{Seated, seat_of, places_served, IsSound}
use Rattle.nd_workers.proofs.Compared.{served_in, is_over}
use Rattle.nd_workers.proofs.Faulted.{drvs_kept, alike_of, quiet_of, thread_of, memory_of, sound_all, wrong_rows, journal_of}
use Rattle.nd_workers.proofs.Stints.{places_kept}
use Rattle.nd_workers.proofs.Zips.{zip_known_via}
use Rattle.nd_workers.proofs.running.run_in.Goals as goal

pub settle-run-requires-clause-sized : goal.settle-run-requires-clause-sized
settle-run-requires-clause-sized g c = λ κs below. drvs_kept c.args.dispatch c.serve_leases-brought.result.served.dispatch _ c.serve_leases-brought.ensures.runs c.requires.sized

pub returns-clause-goes_on : goal.returns-clause-goes_on
returns-clause-goes_on g c = λ agrees.
    let P : World → Type 0 = λ w. RunsOn c.args.dispatch w in
    is_over c.args.dispatch c.settle-run.result.dispatch (subst P (sym c.settle-run.ensures.dispatch) c.serve_leases-brought.ensures.runs) (alike_of _ _ _ _ _ _ c.settle-run.ensures.fault agrees).finished

pub returns-clause-receipted : goal.returns-clause-receipted
returns-clause-receipted g c = λ agrees.
    let P : ℕ → Type 0 = λ n. AreReceiptedFrom n c.settle-run.result.dispatch.history c.args.plan.places.items c.settle-run.result.receipts.items in
    subst P c.requires.opened (alike_of _ _ _ _ _ _ c.settle-run.ensures.fault agrees).receipted

pub returns-clause-fault : goal.returns-clause-fault
returns-clause-fault g c =
    let P : ℕ → Type 0 = λ n. IsFaultFrom n c.settle-run.result.dispatch c.args.plan.places.items c.settle-run.result.receipts.items c.settle-run.result.evidence c.settle-run.result.fault in
    subst P c.requires.opened c.settle-run.ensures.fault

pub returns-clause-quiet : goal.returns-clause-quiet
returns-clause-quiet g c = λ none. quiet_of _ _ _ _ _ _ (returns-clause-fault g c) none

pub returns-clause-thread : goal.returns-clause-thread
returns-clause-thread g c = λ thread. thread_of _ _ _ _ _ _ c.settle-run.ensures.fault thread

pub returns-clause-journal : goal.returns-clause-journal
returns-clause-journal g c = λ journal. journal_of _ _ _ _ _ _ c.settle-run.ensures.fault journal

pub returns-clause-written : goal.returns-clause-written
returns-clause-written g c =
    let keeps = c.args.paper.keeps in
    let brought = c.serve_leases-brought in
    let served = brought.result.served in
    let evidence = c.settle-run.result.evidence in
    let P : Bool → Type 0 = λ kept. IsWritten keeps kept brought.result.scribe served.handed.entries served.dispatch.history in
    let Q : Listed → Type 0 = λ handed. IsWritten keeps evidence.kept brought.result.scribe handed.entries served.dispatch.history in
    let R : World → Type 0 = λ w. IsWritten keeps evidence.kept brought.result.scribe evidence.handed.entries w.history in
    subst R (sym c.settle-run.ensures.dispatch) (subst Q (sym c.settle-run.ensures.handed) (subst P (sym c.settle-run.ensures.kept) brought.ensures.written))

pub returns-clause-memory : goal.returns-clause-memory
returns-clause-memory g c = λ memory.
    let P : World → Type 0 = λ w. StopsAreTold c.args.dispatch w in
    memory_of c.args.dispatch c.settle-run.result.dispatch _ _ _ _ (returns-clause-fault g c) (subst P (sym c.settle-run.ensures.dispatch) c.serve_leases-brought.ensures.told) memory

pub returns-clause-misreports : goal.returns-clause-misreports
returns-clause-misreports g c =
    let P : World → Type 0 = λ w. AreJudged c.args.dispatch w c.settle-run.result.evidence.misreports in
    subst P (sym c.settle-run.ensures.dispatch) (rw c.settle-run.ensures.misreports c.serve_leases-brought.ensures.misreports)

pub returns-clause-judged : goal.returns-clause-judged
returns-clause-judged g c = λ agrees.
    let alike = alike_of _ _ _ _ _ _ c.settle-run.ensures.fault agrees in
    wrong_rows _ _ _ _ _ _ (returns-clause-misreports g c).wrong alike.noted.each alike.judged.each

pub returns-clause-calls : goal.returns-clause-calls
returns-clause-calls g c = λ agrees.
    let of : Seat g.row.T.Denot → Seated = seat_of g.T.Transport.state in
    let Due : ℕ → Deed → Type 0 = IsDue g.L.Opened.keeping g.L.Opened.opening in
    let alike = alike_of _ _ _ _ _ _ (returns-clause-fault g c) agrees in
    let history = c.settle-run.result.dispatch.history in
    let opened : ℕ = length c.args.dispatch.history in
    let sound = sound_all opened history _ _ _ _ c.settle-run.ensures.each c.settle-run.ensures.beside (sym c.settle-run.ensures.refused ∙ alike.willing) alike.noted.each in
    zip_known_via {S = IsSound opened history} _ _ _ c.serve_leases-brought.ensures.each sound c.settle-run.ensures.each
    (λ w y z p s q. subst (λ (x : Seat g.row.T.Denot). IsServedIn Due opened history (of w) (of x) z.1.items) (sym q.0) (served_in Due opened history (of w) (of y.seat) y.end y.notes z.1.items s.0 s.1 p q.1))

pub returns-clause-total : goal.returns-clause-total
returns-clause-total g c =
    ap (λ (w : World). made w.history) c.settle-run.ensures.dispatch ∙ c.serve_leases-brought.ensures.total ∙ ap (λ n. made c.args.dispatch.history + n) (sym c.settle-run.ensures.total)

pub returns-clause-runs : goal.returns-clause-runs
returns-clause-runs g c = rw c.settle-run.ensures.dispatch c.serve_leases-brought.ensures.runs

pub returns-clause-places : goal.returns-clause-places
returns-clause-places g c = ap places_served c.settle-run.ensures.workers ∙ places_kept (IsDue g.L.Opened.keeping g.L.Opened.opening) g.T.Transport.state _ _ c.serve_leases-brought.ensures.each

pub returns-clause-count : goal.returns-clause-count
returns-clause-count g c = c.settle-run.ensures.count ∙ c.serve_leases-brought.ensures.count
