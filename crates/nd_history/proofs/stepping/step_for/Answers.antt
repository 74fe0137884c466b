use Rattle.std.proofs.Common.{◌≡◌, ◌+◌, ◌<◌, ◌≤◌, length, reverse, arith, refl}
use Rattle.nd_choose.specs.Best.{jobs_at}
use Rattle.nd_history.specs.Premises.{premises_of}
use Rattle.nd_history.specs.History.{load}
use Rattle.nd_history.proofs.OneChoice.{remote_best, best_has_room}
use Rattle.nd_history.proofs.Steps.{step_remote, decided_ranged, jobs_read}
use Rattle.nd_history.proofs.stepping.step_for.Goals as goal

pub offset_bounds-as_slice-place : goal.offset_bounds-as_slice-place
offset_bounds-as_slice-place c =
    let lt : c.in-Remote.place < length c.args.inputs.now.machines = decided_ranged (premises_of c.args.inputs.now) (reverse c.args.book.now.entries) c.args.drv c.in-Remote.place (rw c.in-Remote.is at c.requires.decided) in
    let few : length c.args.inputs.now.machines ≤ 1024 = c.requires.fit.few in
    omega (arith, lt, few)

pub bounds-as_slice-place : goal.bounds-as_slice-place
bounds-as_slice-place c =
    rw c.as_slice.ensures (decided_ranged (premises_of c.args.inputs.now) (reverse c.args.book.now.entries) c.args.drv c.in-Remote.place (rw c.in-Remote.is at c.requires.decided))

pub overflow_cast-machine : goal.overflow_cast-machine
overflow_cast-machine c =
    let lt : c.in-Remote.place < length c.args.inputs.now.machines = decided_ranged (premises_of c.args.inputs.now) (reverse c.args.book.now.entries) c.args.drv c.in-Remote.place (rw c.in-Remote.is at c.requires.decided) in
    let few : length c.args.inputs.now.machines ≤ 1024 = c.requires.fit.few in
    omega (arith, lt, few)

pub overflow_add-machine : goal.overflow_add-machine
overflow_add-machine c =
    let lt : c.in-Remote.place < length c.args.inputs.now.machines = decided_ranged (premises_of c.args.inputs.now) (reverse c.args.book.now.entries) c.args.drv c.in-Remote.place (rw c.in-Remote.is at c.requires.decided) in
    let few : length c.args.inputs.now.machines ≤ 1024 = c.requires.fit.few in
    omega (arith, lt, few)

pub free_slot-slot-requires-in-Remote : goal.free_slot-slot-requires-in-Remote
free_slot-slot-requires-in-Remote c =
    let best = remote_best (premises_of c.args.inputs.now) (reverse c.args.book.now.entries) c.args.drv c.in-Remote.place (rw c.in-Remote.is at c.requires.decided) in
    let lt = decided_ranged (premises_of c.args.inputs.now) (reverse c.args.book.now.entries) c.args.drv c.in-Remote.place (rw c.in-Remote.is at c.requires.decided) in
    let is = rw c.as_slice.ensures at c.index-as_slice-place.is in
    let jobs = jobs_read c.args.inputs.now.machines c.in-Remote.place c.index-as_slice-place.result lt is in
    let room : load (c.in-Remote.place + 1) (reverse c.args.book.now.entries) < jobs_at c.args.inputs.now.machines c.in-Remote.place = best_has_room (premises_of c.args.inputs.now) (reverse c.args.book.now.entries) c.args.drv c.in-Remote.place lt best in
    let place : c.in-Remote.place < length c.args.inputs.now.machines = lt in
    let park : c.args.book.now.machines ≡ length c.args.inputs.now.machines + 1 = c.requires.fit.park in
    let last : c.in-Remote.place + 1 < c.args.book.now.machines = omega (arith, place, park) in
    record { park = last; load = rw (c.jobs-jobs.ensures.value, ← jobs) room }

pub returns-in-Remote : goal.returns-in-Remote
returns-in-Remote c =
    let lt = decided_ranged (premises_of c.args.inputs.now) (reverse c.args.book.now.entries) c.args.drv c.in-Remote.place (rw c.in-Remote.is at c.requires.decided) in
    let is = rw c.as_slice.ensures at c.index-as_slice-place.is in
    let jobs = jobs_read c.args.inputs.now.machines c.in-Remote.place c.index-as_slice-place.result lt is in
    step_remote (premises_of c.args.inputs.now) (reverse c.args.book.now.entries) c.args.drv c.in-Remote.place (c.in-Remote.place + 1) c.free_slot-slot-in-Remote.result
    c.requires.ready (rw c.in-Remote.is at c.requires.decided) lt refl (rw (jobs, ← c.jobs-jobs.ensures.value) c.free_slot-slot-in-Remote.ensures.within) c.free_slot-slot-in-Remote.ensures.least
