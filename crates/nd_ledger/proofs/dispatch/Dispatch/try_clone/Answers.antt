use Rattle.std.proofs.Common.{reverse}
use Rattle.nd_history.specs.Premises.{premises_of}
use Rattle.nd_pump.proofs.Following.{turns_fresh}
use Rattle.nd_ledger.proofs.Keeping.{kept_copy}
use Rattle.nd_ledger.proofs.dispatch.Dispatch.try_clone.Goals as goal

pub invariant_of-result : goal.invariant_of-result
invariant_of-result c =
    let inputs = c.in_ok-inputs in
    let book = c.in-Ok in
    let stores = c.in-Ok-try_clone in
    let board = c.in-Ok-try_clone-2 in
    let turns = c.in-Ok-new in
    let fresh = turns.ensures in
    kept_copy c.self.inside (record { inputs = inputs.inputs; state = record { book = book.book; board = board.board; turns = turns.turns }; stores = stores.stores })
    (record {
      inputs = inputs.ensures;
      entries = book.ensures.entries;
      drvs = book.ensures.drvs;
      machines = book.ensures.machines;
      room = book.ensures.room;
      stores = stores.ensures;
      board = board.ensures;
      turns =
          turns_fresh (premises_of inputs.inputs) (reverse book.book.entries) board.board turns.turns fresh.whole
          (rw (← c.as_slice.ensures, ← c.needs.ensures.needs) fresh.kinds) fresh.listed fresh.parked (rw (← c.as_slice.ensures) fresh.vacant);
    })
    c.self.invariant
