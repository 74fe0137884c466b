-- What is seen of the devices, of which no more is known than what the input has left and what the output holds.
use Rattle.std.proofs.Common.{◌≡◌, ℕ, List, Option, None, Some, sym, subst, append-nil}
use Rattle.std.specs.Prelude.{Result, Ok, Err, IfErr, OnOk}
use Rattle.std.specs.Io.KnownBytes.{Appends}
use Rattle.nd_desk.specs.declared.event.Event.TheVariants.{Appended, Synced, Answered}
use Rattle.nd_desk.specs.declared.fault.DeskFault.{DeskFault}
use Rattle.nd_desk.specs.declared.fault.DeskFault.TheVariants.{Refused, Memory}
use Rattle.nd_desk.specs.Notes.{ends_alone, heard, tried, Notes}
use Rattle.nd_desk.proofs.Noting.{holds_none}

-- ---- the output is as it was

pub line_heard : (left later held : Option (List ℕ)) (result : Result (Option (List ℕ)) DeskFault) → Notes (ends_alone left held) (ends_alone later held) (heard result)
line_heard left later held (Ok (Some line)) = record { grown = tt; tells = λ all. holds_none held }
line_heard left later held (Ok None) = record { grown = tt; tells = λ all. holds_none held }
line_heard left later held (Err Refused) = record { grown = tt; tells = λ all. holds_none held }
line_heard left later held (Err Memory) = record { grown = tt; tells = λ all. holds_none held }

pub ruleset reads = (line_heard)

pub lines_kept : (left held : Option (List ℕ)) (bytes : List ℕ) (result : Result (Unit {0}) DeskFault) → Notes (ends_alone left held) (ends_alone left held) (tried result (Appended bytes))
lines_kept left held bytes (Ok done) = record { grown = tt; tells = λ all. holds_none held }
lines_kept left held bytes (Err Refused) = record { grown = tt; tells = λ all. holds_none held }
lines_kept left held bytes (Err Memory) = record { grown = tt; tells = λ all. holds_none held }

pub ruleset appends = (lines_kept)

pub journal_synced : (left held : Option (List ℕ)) (result : Result (Unit {0}) DeskFault) → Notes (ends_alone left held) (ends_alone left held) (tried result Synced)
journal_synced left held (Ok done) = record { grown = tt; tells = λ all. holds_none held }
journal_synced left held (Err Refused) = record { grown = tt; tells = λ all. holds_none held }
journal_synced left held (Err Memory) = record { grown = tt; tells = λ all. holds_none held }

pub ruleset syncs = (journal_synced)

-- ---- an answer is passed on, or the output refuses it

no_memory : (fault : DeskFault) → fault ≡ Refused → (left held now : Option (List ℕ)) (bytes : List ℕ) → Notes (ends_alone left held) (ends_alone left now) (tried {A = Unit {0}} (Err fault) (Answered bytes))
no_memory Refused same left held now bytes = record { grown = tt; tells = λ all. absurd all.0 }
no_memory Memory same left held now bytes = cc

pub answer_passed : (left held now : Option (List ℕ)) (bytes : List ℕ) (result : Result (Unit {0}) DeskFault) → OnOk result (Appends held now bytes)
    → IfErr result (λ fault. fault ≡ Refused) → Notes (ends_alone left held) (ends_alone left now) (tried result (Answered bytes))
answer_passed left held now bytes (Ok done) appended refused = record { grown = tt; tells = λ all. subst (Appends held now) (sym (append-nil bytes)) appended }
answer_passed left held now bytes (Err fault) appended refused = no_memory fault refused left held now bytes

pub ruleset answers = (answer_passed)
