use Rattle.std.proofs.Common.{refl, arith}
use Rattle.nd_failure.specs.declared.status.Status.TheVariants.{Failed}
use Rattle.nd_failure.proofs.BoardFacts.{known_failing, IsKept-failed, counted_some, total_of-kept, counts_fit, cancelled_le}
use Rattle.nd_failure.proofs.SpreadFacts.{IsClosed-doomed}
use Rattle.nd_failure.proofs.TallyFacts.{total_of-moved}
use Rattle.nd_failure.proofs.board.Board.failed.Goals as goal

pub change-requires-clause-some : goal.change-requires-clause-some
change-requires-clause-some c =
    let known = known_failing c.self.inside _ c.args.i c.status-was.result c.self.invariant c.self.view_is c.status-was.ensures c.requires in
    counted_some c.self.inside c.args.i c.status-was.result c.self.invariant known

pub change-requires-clause-sized : goal.change-requires-clause-sized
change-requires-clause-sized c = counts_fit c.self.inside c.self.invariant

pub spread-cancelled-requires-clause-closed : goal.spread-cancelled-requires-clause-closed
spread-cancelled-requires-clause-closed c =
    IsClosed-doomed c.self.inside.edges c.self.inside.marks.items c.self.inside.doomed c.self.invariant.doomed

pub overflow_sub-self : goal.overflow_sub-self
overflow_sub-self c =
    let known = known_failing c.self.inside _ c.args.i c.status-was.result c.self.invariant c.self.view_is c.status-was.ensures c.requires in
    cancelled_le c.self.inside c.args.i c.spread-cancelled.result c.status-was.result _ _ c.self.invariant known
    c.spread-cancelled.ensures.spreads c.spread-cancelled.ensures.counted c.change.ensures

pub overflow_add-self : goal.overflow_add-self
overflow_add-self c =
    let known = known_failing c.self.inside _ c.args.i c.status-was.result c.self.invariant c.self.view_is c.status-was.ensures c.requires in
    let enough = cancelled_le c.self.inside c.args.i c.spread-cancelled.result c.status-was.result _ _ c.self.invariant known
    c.spread-cancelled.ensures.spreads c.spread-cancelled.ensures.counted c.change.ensures in
    omega (
      arith,
      enough,
      total_of-moved c.status-was.result Failed _ _ c.change.ensures,
      total_of-kept c.self.inside c.self.invariant,
      c.self.inside.marks.ok.0,
    )

pub invariant_of-self : goal.invariant_of-self
invariant_of-self c =
    let known = known_failing c.self.inside _ c.args.i c.status-was.result c.self.invariant c.self.view_is c.status-was.ensures c.requires in
    let enough = cancelled_le c.self.inside c.args.i c.spread-cancelled.result c.status-was.result _ _ c.self.invariant known
    c.spread-cancelled.ensures.spreads c.spread-cancelled.ensures.counted c.change.ensures in
    IsKept-failed c.self.inside c.args.i c.spread-cancelled.result c.status-was.result _ _ _ _ _ _ c.self.invariant known refl
    c.remove.ensures c.spread-cancelled.ensures.spreads c.spread-cancelled.ensures.counted c.spread-cancelled.ensures.idle c.spread-cancelled.ensures.room c.change.ensures
    (record { waiting = omega (arith, enough); cancelled = refl; leased = refl; built = refl; failed = refl })
