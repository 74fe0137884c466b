use Rattle.std.proofs.Common.{◌≡◌, length, reverse, rules}
use Rattle.nd_history.specs.Premises.{premises_of}
use Rattle.nd_history.specs.References.{outputs_of, AreReferencesRight}
use Rattle.nd_ledger.proofs.Tickets.{live_in_book, live_in_graph, live_in_park, right_then}
use Rattle.nd_ledger.proofs.moving.prepare_end.Goals as goal

pub is_started-requires : goal.is_started-requires
is_started-requires c =
    live_in_book (premises_of c.args.inputs.now) c.args.book.now c.args.ticket c.requires.fit (c.is_live.ensures.0 c.if-not-is_live.false)

pub check_references-requires : goal.check_references-requires
check_references-requires c =
    live_in_graph (premises_of c.args.inputs.now) c.args.book.now c.args.ticket c.requires.fit (c.is_live.ensures.0 c.if-not-is_live.false)

pub prepare_built-requires : goal.prepare_built-requires
prepare_built-requires c =
    let i = premises_of c.args.inputs.now in
    let past = reverse c.args.book.now.entries in
    let found = c.is_live.ensures.0 c.if-not-is_live.false in
    record {
      drv = live_in_graph i c.args.book.now c.args.ticket c.requires.fit found;
      machine = live_in_park i c.args.book.now c.args.stores.now c.args.ticket c.requires.fit c.requires.stored found;
      sized = (right_then (AreReferencesRight i past c.args.ticket.drv c.args.refs.now) c.in_ok-right.right (c.in_ok-right.ensures.right.tells past c.requires.stored) c.if-not-right.false).sized;
    }

pub returns-in_err-prepare_built-clause-refused : goal.returns-in_err-prepare_built-clause-refused
returns-in_err-prepare_built-clause-refused c =
    let sized : length c.args.refs.now ≡ length (outputs_of (premises_of c.args.inputs.now) c.args.ticket.drv) = (right_then (AreReferencesRight (premises_of c.args.inputs.now) (reverse c.args.book.now.entries) c.args.ticket.drv c.args.refs.now) c.in_ok-right.right
    (c.in_ok-right.ensures.right.tells (reverse c.args.book.now.entries) c.requires.stored) c.if-not-right.false).sized in
    search rules
