use Rattle.std.proofs.Common.{◌≡◌, false, reverse, sym, subst, ◌∙◌}
use Rattle.nd_ledger.specs.declared.refusal.Refusal.{Refusal}
use Rattle.nd_history.specs.History.{is_started}
use Rattle.nd_ledger.specs.Moves.{IsStartRefused}
use Rattle.nd_history.specs.Premises.{premises_of}
use Rattle.nd_ledger.proofs.Tickets.{live_in_book, live_in_graph, live_in_park, start_refused}
use Rattle.nd_ledger.proofs.moving.prepare_start.Goals as goal

pub is_started-requires : goal.is_started-requires
is_started-requires c =
    live_in_book (premises_of c.args.inputs.now) c.args.book.now c.args.ticket c.requires.fit (c.is_live.ensures.0 c.if-not-is_live.false)

pub check_paths-requires : goal.check_paths-requires
check_paths-requires c =
    let found = c.is_live.ensures.0 c.if-not-is_live.false in
    record {
      drv = live_in_graph (premises_of c.args.inputs.now) c.args.book.now c.args.ticket c.requires.fit found;
      machine = live_in_park (premises_of c.args.inputs.now) c.args.book.now c.args.stores.now c.args.ticket c.requires.fit c.requires.stored found;
    }

pub prepare_start-requires : goal.prepare_start-requires
prepare_start-requires c =
    record {
      machine = live_in_park (premises_of c.args.inputs.now) c.args.book.now c.args.stores.now c.args.ticket c.requires.fit c.requires.stored (c.is_live.ensures.0 c.if-not-is_live.false);
      numbers = c.in-Ok.ensures.numbers;
    }

pub returns-in-Err-clause-refused : goal.returns-in-Err-clause-refused
returns-in-Err-clause-refused c =
    let i = premises_of c.args.inputs.now in
    let past = reverse c.args.book.now.entries in
    let fresh : is_started c.args.ticket.drv past ≡ false = sym c.is_started.ensures ∙ c.if-is_started.false in
    let P : Refusal → Type 0 = λ r. IsStartRefused i past c.args.ticket c.args.paths.now r in
    subst P (sym c.refusal_of.ensures) (start_refused i past c.args.ticket c.args.paths.now c.in-Err.fault (c.is_live.ensures.0 c.if-not-is_live.false) fresh (c.in-Err.ensures.refused.tells past c.requires.stored))
