use Rattle.std.proofs.Common.{rules, ◌≡◌, ◌++◌, List, ◌∷◌, length, refl, ap, subst}
use Rattle.std.specs.Vec.Iter.{into_iter_items}
use Rattle.nd_history.specs.declared.entry.Entry.{Entry}
use Rattle.nd_audit.proofs.Judged.{HasRecorded, recorded_refused}
use Rattle.nd_audit.proofs.judging.record_all.Goals as goal

pub returns-in-Err-clause-refused : goal.returns-in-Err-clause-refused
returns-in-Err-clause-refused c =
    let goes : into_iter_items c.recording.entry-iterator ≡ c.in-Some.entry ∷ into_iter_items c.next.new.self = search rules in
    let P = λ (l : List Entry). HasRecorded c.args.inputs.now c.args.state.now c.recording.state c.recording.yielded l in
    let Q = λ (l : List Entry). c.args.entries.items ≡ c.recording.yielded ++ l in
    recorded_refused c.args.inputs.now c.args.state.now c.recording.state c.recording.yielded (into_iter_items c.next.new.self) c.args.entries.items c.in-Some.entry c.in-Err.error _
    (subst P goes c.recording.invariant.recorded) (subst Q goes c.recording.invariant.whole) c.in-Err.ensures.refused (ap length c.entries-index.ensures) refl
