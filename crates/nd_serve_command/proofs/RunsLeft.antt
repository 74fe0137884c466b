-- What is durable of a run survives a crash.
use Rattle.std.proofs.Common.{ℕ, List, [], ◌∷◌, reverse, refl, sym, subst, append-nil}
use Rattle.std.specs.List.{All}
use Rattle.nd_history.specs.declared.entry.Entry.{Entry}
use Rattle.nd_history.specs.Premises.{Premises}
use Rattle.nd_history.specs.Legal.{IsLegal}
use Rattle.nd_history_text.specs.HistoryTexts.{first_line}
use Rattle.nd_history_text.specs.Sound.{IsSound}
use Rattle.nd_history_text.specs.declared.kinds.Version.TheVariants.{Second}
use Rattle.nd_serve_command.specs.Crashes.{IsRunLeft, KeepsRun}
use Rattle.nd_serve_command.specs.CrashLaws.{RunsSurvive}
use Rattle.nd_serve_command.proofs.Crashed.{IsCutFrom, HoldsFrom, new_left, durable_left, sound_front}

-- the file is cut from the text of a new journal
run_cut : (i : Premises) (durable handed : List Entry) (file : List ℕ) → All IsSound handed → IsLegal i (reverse handed) → IsRunLeft durable handed file
    → IsCutFrom i [] handed [] (first_line Second) file
run_cut i durable handed file sound legal left =
    record { begun = sym (append-nil (first_line Second)); sound = sound; legal = legal; cut = left.beginning }

run_kept : (i : Premises) (durable handed : List Entry) (file : List ℕ) → HoldsFrom i handed file durable → KeepsRun i durable handed file
run_kept i durable handed file held = record { entries = held.entries; resumable = held.resumable; begins = held.begins; within = held.within }

pub runs_survive : RunsSurvive
runs_survive i [] handed file begins sound legal left =
    run_kept i [] handed file (new_left i [] handed [] (first_line Second) file refl (run_cut i [] handed file sound legal left))
runs_survive i (e ∷ durable) handed file begins sound legal left =
    let own : All IsSound (e ∷ durable) = sound_front (e ∷ durable) begins.later (subst (All IsSound) begins.whole sound) in
    run_kept i (e ∷ durable) handed file
    (durable_left i [] handed (e ∷ durable) [] (first_line Second) file (run_cut i (e ∷ durable) handed file sound legal left) own left.durable_there)
