-- What the words of a line of each kind are read as.
use Rattle.std.proofs.Common.{◌≡◌, ◌∙◌, ℕ, ◌==◌, List, [], ◌∷◌, length, refl, sym, ap, arith, Some}
use Rattle.std.specs.Fmt.{decimal}
use Rattle.std.specs.List.{flat_map, slice_split}
use Rattle.std.proofs.lemmas.List.Splits.{length-slice_split}
use Rattle.nd_bytes.specs.Cut.{pieces}
use Rattle.nd_history.specs.declared.entry.Why.{Why}
use Rattle.nd_history.specs.declared.entry.Entry.{Entry}
use Rattle.nd_history.specs.declared.entry.Entry.TheVariants.{Chosen, NoBuilder, Started, Down, Built, Failed, Stop, Drain, Enable}
use Rattle.nd_history_text.specs.HistoryTexts.{cause_words, output_words}
use Rattle.nd_history_text.specs.declared.history_error.LineError.{LineError}
use Rattle.nd_history_text.specs.declared.history_error.LineError.TheVariants.{Bad, Memory as NoMemory}
use Rattle.nd_history_text.specs.Reading.{Refuses, IsNumberFirst, ArePathsFirst, AreOutputs, IsCause, IsEntryOf}
use Rattle.nd_history_text.specs.declared.kinds.Kind.TheVariants.{Choice, NoChoice, Start, Return, Finish, Failure, Halt, Drained, Enabled}
use Rattle.std.proofs.lemmas.List.{append-nil}
use Rattle.nd_history_text.proofs.Once.{same_tail, same_paths}

-- where words are left, there is one
pub some_left : (bytes : List ℕ) → pieces 32 (Some bytes) ≡ [] → ⊥
some_left bytes h = let none : length (slice_split (λ b. b == 32) bytes) ≡ 0 = ap length h in absurd (omega (arith, length-slice_split (λ b. b == 32) bytes))

-- ---- choices

pub choice_drv : (words : List (List ℕ)) → ((n : ℕ) (rest : List (List ℕ)) → IsNumberFirst words n rest → ⊥) → (e : Entry) → IsEntryOf Choice words e → ⊥
choice_drv words none (Chosen d m s) h = none d (decimal m ∷ decimal s ∷ []) (record { small = h.sound.0; whole = h.whole })
choice_drv words none e h = cc h.of_kind

pub choice_machine : (words left : List (List ℕ)) (d : ℕ) → IsNumberFirst words d left → ((n : ℕ) (rest : List (List ℕ)) → IsNumberFirst left n rest → ⊥)
    → (e : Entry) → IsEntryOf Choice words e → ⊥
choice_machine words left d first none (Chosen x m s) h =
    none m (decimal s ∷ []) (record { small = h.sound.1; whole = same_tail (sym first.whole ∙ h.whole) })
choice_machine words left d first none e h = cc h.of_kind

pub choice_slot : (words left more : List (List ℕ)) (d m : ℕ) → IsNumberFirst words d left → IsNumberFirst left m more
    → ((n : ℕ) → IsNumberFirst more n [] → ⊥) → (e : Entry) → IsEntryOf Choice words e → ⊥
choice_slot words left more d m first second none (Chosen x y s) h =
    none s (record { small = h.sound.2; whole = same_tail (sym second.whole ∙ same_tail (sym first.whole ∙ h.whole)) })
choice_slot words left more d m first second none e h = cc h.of_kind

pub choice_read : (words left more : List (List ℕ)) (d m s : ℕ) → IsNumberFirst words d left → IsNumberFirst left m more → IsNumberFirst more s []
    → IsEntryOf Choice words (Chosen d m s)
choice_read words left more d m s first second third = record {
  sound = (first.small, second.small, third.small);
  of_kind = refl;
  whole = first.whole ∙ ap (λ (ws : List (List ℕ)). decimal d ∷ ws) (second.whole ∙ ap (λ (ws : List (List ℕ)). decimal m ∷ ws) third.whole);
}

pub ruleset choices = (choice_drv, choice_machine, choice_slot, choice_read)

-- ---- starts

pub start_drv : (words : List (List ℕ)) → ((n : ℕ) (rest : List (List ℕ)) → IsNumberFirst words n rest → ⊥) → (e : Entry) → IsEntryOf Start words e → ⊥
start_drv words none (Started d paths) h = none d paths (record { small = h.sound.0; whole = h.whole })
start_drv words none e h = cc h.of_kind

pub start_paths : (words left : List (List ℕ)) (d : ℕ) → IsNumberFirst words d left → ((paths rest : List (List ℕ)) → ArePathsFirst left paths rest → ⊥)
    → (e : Entry) → IsEntryOf Start words e → ⊥
start_paths words left d first none (Started x paths) h =
    none paths [] (record { set = h.sound.1; whole = same_tail (sym first.whole ∙ h.whole) ∙ sym (append-nil paths); end = refl })
start_paths words left d first none e h = cc h.of_kind

pub start_end : (words left paths : List (List ℕ)) (bytes : List ℕ) (d : ℕ) → IsNumberFirst words d left → ArePathsFirst left paths (pieces 32 (Some bytes))
    → (e : Entry) → IsEntryOf Start words e → ⊥
start_end words left paths bytes d first second (Started x others) h =
    let all : ArePathsFirst left others [] = record { set = h.sound.1; whole = same_tail (sym first.whole ∙ h.whole) ∙ sym (append-nil others); end = refl } in
    some_left bytes (same_paths left paths (pieces 32 (Some bytes)) others [] second all).1
start_end words left paths bytes d first second e h = cc h.of_kind

pub start_read : (words left paths : List (List ℕ)) (d : ℕ) → IsNumberFirst words d left → ArePathsFirst left paths [] → IsEntryOf Start words (Started d paths)
start_read words left paths d first second = record {
  sound = (first.small, second.set);
  of_kind = refl;
  whole = first.whole ∙ ap (λ (ws : List (List ℕ)). decimal d ∷ ws) (second.whole ∙ append-nil paths);
}

pub start_refused : (words left : List (List ℕ)) (d : ℕ) (f : LineError) → IsNumberFirst words d left
    → Refuses f ((paths rest : List (List ℕ)) → ArePathsFirst left paths rest → ⊥) → Refuses f ((e : Entry) → IsEntryOf Start words e → ⊥)
start_refused words left d Bad first none = start_paths words left d first none
start_refused words left d NoMemory first none = tt

pub ruleset starts = (start_drv, start_refused, start_end, start_read)

-- ---- ends with outputs

pub finish_drv : (words : List (List ℕ)) → ((n : ℕ) (rest : List (List ℕ)) → IsNumberFirst words n rest → ⊥) → (e : Entry) → IsEntryOf Finish words e → ⊥
finish_drv words none (Built d refs) h = none d (flat_map output_words refs) (record { small = h.sound.0; whole = h.whole })
finish_drv words none e h = cc h.of_kind

pub finish_refs : (words left : List (List ℕ)) (d : ℕ) → IsNumberFirst words d left → ((refs : List (List (List ℕ))) → AreOutputs left refs → ⊥)
    → (e : Entry) → IsEntryOf Finish words e → ⊥
finish_refs words left d first none (Built x refs) h = none refs (record { sets = h.sound.1; whole = same_tail (sym first.whole ∙ h.whole) })
finish_refs words left d first none e h = cc h.of_kind

pub finish_read : (words left : List (List ℕ)) (d : ℕ) (refs : List (List (List ℕ))) → IsNumberFirst words d left → AreOutputs left refs
    → IsEntryOf Finish words (Built d refs)
finish_read words left d refs first second = record {
  sound = (first.small, second.sets);
  of_kind = refl;
  whole = first.whole ∙ ap (λ (ws : List (List ℕ)). decimal d ∷ ws) second.whole;
}

pub finish_refused : (words left : List (List ℕ)) (d : ℕ) (f : LineError) → IsNumberFirst words d left
    → Refuses f ((refs : List (List (List ℕ))) → AreOutputs left refs → ⊥) → Refuses f ((e : Entry) → IsEntryOf Finish words e → ⊥)
finish_refused words left d Bad first none = finish_refs words left d first none
finish_refused words left d NoMemory first none = tt

pub ruleset finishes = (finish_drv, finish_refused, finish_read)

-- ---- ends without outputs

pub failure_drv : (words : List (List ℕ)) → ((n : ℕ) (rest : List (List ℕ)) → IsNumberFirst words n rest → ⊥) → (e : Entry) → IsEntryOf Failure words e → ⊥
failure_drv words none (Failed d why) h = none d (cause_words why) (record { small = h.sound.0; whole = h.whole })
failure_drv words none e h = cc h.of_kind

pub failure_why : (words left : List (List ℕ)) (d : ℕ) → IsNumberFirst words d left → ((why : Why) → IsCause left why → ⊥) → (e : Entry) → IsEntryOf Failure words e → ⊥
failure_why words left d first none (Failed x why) h = none why (record { sound = h.sound.1; whole = same_tail (sym first.whole ∙ h.whole) })
failure_why words left d first none e h = cc h.of_kind

pub failure_read : (words left : List (List ℕ)) (d : ℕ) (why : Why) → IsNumberFirst words d left → IsCause left why → IsEntryOf Failure words (Failed d why)
failure_read words left d why first second = record {
  sound = (first.small, second.sound);
  of_kind = refl;
  whole = first.whole ∙ ap (λ (ws : List (List ℕ)). decimal d ∷ ws) second.whole;
}

pub ruleset failures = (failure_drv, failure_why, failure_read)

-- ---- stops

pub halt_end : (bytes : List ℕ) (e : Entry) → IsEntryOf Halt (pieces 32 (Some bytes)) e → ⊥
halt_end bytes Stop h = some_left bytes h.whole
halt_end bytes e h = cc h.of_kind

pub halt_read : IsEntryOf Halt [] Stop
halt_read = record { sound = tt; of_kind = refl; whole = refl }

pub ruleset halts = (halt_end, halt_read)

-- ---- entries of one number

pub no_choice_none : (words : List (List ℕ)) → ((n : ℕ) → IsNumberFirst words n [] → ⊥) → (e : Entry) → IsEntryOf NoChoice words e → ⊥
no_choice_none words none (NoBuilder d) h = none d (record { small = h.sound; whole = h.whole })
no_choice_none words none e h = cc h.of_kind

pub return_none : (words : List (List ℕ)) → ((n : ℕ) → IsNumberFirst words n [] → ⊥) → (e : Entry) → IsEntryOf Return words e → ⊥
return_none words none (Down d) h = none d (record { small = h.sound; whole = h.whole })
return_none words none e h = cc h.of_kind

pub drained_none : (words : List (List ℕ)) → ((n : ℕ) → IsNumberFirst words n [] → ⊥) → (e : Entry) → IsEntryOf Drained words e → ⊥
drained_none words none (Drain m) h = none m (record { small = h.sound; whole = h.whole })
drained_none words none e h = cc h.of_kind

pub enabled_none : (words : List (List ℕ)) → ((n : ℕ) → IsNumberFirst words n [] → ⊥) → (e : Entry) → IsEntryOf Enabled words e → ⊥
enabled_none words none (Enable m) h = none m (record { small = h.sound; whole = h.whole })
enabled_none words none e h = cc h.of_kind

pub no_choice_read : (words : List (List ℕ)) (n : ℕ) → IsNumberFirst words n [] → IsEntryOf NoChoice words (NoBuilder n)
no_choice_read words n h = record { sound = h.small; of_kind = refl; whole = h.whole }

pub return_read : (words : List (List ℕ)) (n : ℕ) → IsNumberFirst words n [] → IsEntryOf Return words (Down n)
return_read words n h = record { sound = h.small; of_kind = refl; whole = h.whole }

pub drained_read : (words : List (List ℕ)) (n : ℕ) → IsNumberFirst words n [] → IsEntryOf Drained words (Drain n)
drained_read words n h = record { sound = h.small; of_kind = refl; whole = h.whole }

pub enabled_read : (words : List (List ℕ)) (n : ℕ) → IsNumberFirst words n [] → IsEntryOf Enabled words (Enable n)
enabled_read words n h = record { sound = h.small; of_kind = refl; whole = h.whole }

pub ruleset no_choices = (no_choice_none, no_choice_read)

pub ruleset returned = (return_none, return_read)

pub ruleset drains = (drained_none, drained_read)

pub ruleset enables = (enabled_none, enabled_read)
