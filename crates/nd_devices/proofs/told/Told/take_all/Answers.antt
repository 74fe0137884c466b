use Rattle.std.proofs.Common.{◌++◌, ◌≤◌, length, take, arith, length-append}
use Rattle.std.proofs.lemmas.List.{length-take, length-take-le}
use Rattle.std.proofs.KnownBytes.{Consumes-trans}
use Rattle.std.proofs.lemmas.Result.{err_from_is_err_and}
use Rattle.nd_devices.proofs.told.Told.take_all.Goals as goal

-- the last read's bytes were taken though there was no memory for them
pub returns-in_err-extend_from_slice-clause-partly : goal.returns-in_err-extend_from_slice-clause-partly
returns-in_err-extend_from_slice-clause-partly g c =
    let refused = err_from_is_err_and c.from_residual-in_err-extend_from_slice.result c.from_residual-in_err-extend_from_slice.ensures.1 in
    let room : length c.take.new.room ≤ c.min-most.result = omega (arith, c.take.auto.room, length-take c.min-most.result c.loop-room.room) in
    let given = length-take-le c.in_ok-taken.taken c.take.new.room c.in_ok-taken.ensures.bound in
    rw refused.1 (
      c.loop-room.bytes.items ++ take c.in_ok-taken.taken c.take.new.room,
      rw (length-append c.loop-room.bytes.items (take c.in_ok-taken.taken c.take.new.room))
          (omega (arith, room, given, c.loop-room.bytes.ok.0, c.in_ok-taken.ensures.bound)),
      Consumes-trans _ _ _ _ _ c.loop-room.invariant.taken c.in_ok-taken.ensures.read.0,
    )
