-- The report of how a dispatch stands. Its form is this project's own choice: the words of a line stand with single spaces
-- between them, each line ends with a newline, and numbers are decimal.
-- The histories of these definitions stand newest first.
-- Public clauses cite this, but `PutsDrvs` and `PutsAllDrvs` serve private clauses alone.
use Rattle.std.specs.Prelude.{◌≡◌, ℕ, ◌+◌, ◌<◌, ◌≤◌, Bool, List, [], ◌∷◌, ◌++◌, length, codes, if◌then◌else◌, slice_index_or, Option, Result, OnOk, reverse}
use Rattle.std.specs.Fmt.{decimal}
use Rattle.std.specs.Io.KnownBytes.{Appends}
use Rattle.std.specs.List.{flat_map, range_with_len}
use Rattle.nd_failure.specs.declared.status.Counts.{Counts}
use Rattle.nd_failure.specs.declared.status.Status.{Status}
use Rattle.nd_failure.specs.declared.status.Status.TheVariants.{Waiting, Leased, Built, Failed, Cancelled}
use Rattle.nd_hook.specs.ReplyText.{uri_at}
use Rattle.nd_devices.specs.Watched.{Watched}
use Rattle.nd_devices.specs.Written.{WritesPart}
use Rattle.nd_history.specs.declared.entry.Entry.{Entry}
use Rattle.nd_history.specs.Premises.{Premises}
use Rattle.nd_history.specs.History.{load, is_up}
use Rattle.nd_history.specs.Choices.{jobs_of}
use Rattle.nd_history.specs.Standing.{drvs_in}
use Rattle.nd_history.specs.Statuses.{HasStatusIn, AreCountsIn}
use Rattle.nd_ledger.specs.Worlds.{World}
use Rattle.nd_history_text.specs.Rows.{row, share}
use Rattle.nd_devices.specs.Sending.{IsPut}

-- a number under its name
abbrev pub count_row : List ℕ → ℕ → List ℕ
count_row name number = row name (decimal number ∷ [])

-- how many derivations there are, and how many have each status
abbrev pub counts_text : ℕ → Counts → List ℕ
counts_text total counts =
    count_row (codes "total") total ++ (count_row (codes "waiting") counts.waiting ++ (count_row (codes "leased") counts.leased
    ++ (count_row (codes "built") counts.built ++ (count_row (codes "failed") counts.failed ++ count_row (codes "cancelled") counts.cancelled))))

-- a machine that gets leases is up
abbrev pub up_word : Bool → List ℕ
up_word up = if up then codes "up" else codes "down"

-- machine m: its number, whether it is up, the slots that are taken and all, and its name
abbrev pub machine_row : Premises → List Entry → ℕ → List ℕ → List ℕ
machine_row i past m name = row (codes "machine") (decimal m ∷ up_word (is_up m past) ∷ share (load m past) (jobs_of i m) ∷ name ∷ [])

-- the builder at this place of the list, under its URI
unfoldable pub builder_row : Premises → List Entry → ℕ → List ℕ
builder_row i past place = machine_row i past (place + 1) (uri_at i.machines place)

abbrev pub builders_text : Premises → List Entry → List ℕ
builders_text i past = flat_map (builder_row i past) (range_with_len 0 (length i.machines))

-- the local machine and then the builders
abbrev pub machines_text : Premises → List Entry → List ℕ
machines_text i past = machine_row i past 0 (codes "local") ++ builders_text i past

-- what stands before the derivations
abbrev pub park_text : ℕ → Counts → Premises → List Entry → List ℕ
park_text total counts i past = counts_text total counts ++ machines_text i past

abbrev pub status_word : Status → List ℕ
status_word Waiting = codes "waiting"
status_word Leased = codes "leased"
status_word Built = codes "built"
status_word Failed = codes "failed"
status_word Cancelled = codes "cancelled"

-- derivation d: its number, its status and its path
unfoldable pub drv_row : Premises → ℕ → Status → List ℕ
drv_row i d status = row (codes "drv") (decimal d ∷ status_word status ∷ slice_index_or i.graph.paths d [] ∷ [])

-- the derivations from d on, with these statuses
abbrev pub drvs_text : Premises → ℕ → List Status → List ℕ
drvs_text i d [] = []
drvs_text i d (status ∷ statuses) = drv_row i d status ++ drvs_text i (d + 1) statuses

-- the statuses of the first n derivations
pub record AreFirstStatuses (i : Premises) (past : List Entry) (n : ℕ) (statuses : List Status) : Type 0 where
  pub size : length statuses ≡ n
  pub right : (d : ℕ) → d < n → HasStatusIn i past d (slice_index_or statuses d Waiting)

-- the text is the report after this history, as far as the first n derivations: the counts, the machines, and each of these
-- derivations with its status
pub record IsReport (i : Premises) (past : List Entry) (n : ℕ) (text : List ℕ) : Type 0 where
  pub counts : Counts
  pub counted : AreCountsIn i past counts
  pub statuses : List Status
  pub are : AreFirstStatuses i past n statuses
  pub whole : text ≡ park_text (drvs_in i) counts i past ++ drvs_text i 0 statuses

-- the whole report was written
pub record Reports (i : Premises) (past : List Entry) (old new : Option (List ℕ)) : Type 0 where
  pub text : List ℕ
  pub is : IsReport i past (drvs_in i) text
  pub written : Appends old new text

-- a part of the report was written, from its beginning: as far as some derivation, the last line perhaps in part
pub record ReportsPart (i : Premises) (past : List Entry) (old new : Option (List ℕ)) : Type 0 where
  pub n : ℕ
  pub some : n ≤ drvs_in i
  pub text : List ℕ
  pub is : IsReport i past n text
  pub written : WritesPart old new text

-- the lines of the first n derivations are put on the page
pub record PutsDrvs {W T E : Type 0} (w : World) (n : ℕ) (contents : W → Option (List ℕ)) (old : Watched W) (held : List ℕ) (new : Watched W) (left : List ℕ) (result : Result T E) : Type 0 where
  pub statuses : List Status
  pub are : AreFirstStatuses w.inputs (reverse w.history) n statuses
  pub put : IsPut contents old held new left (drvs_text w.inputs 0 statuses) result

-- .. those of all; or a write was refused, and the text went as far as some derivation
pub record PutsAllDrvs {W T E : Type 0} (w : World) (contents : W → Option (List ℕ)) (old : Watched W) (held : List ℕ) (new : Watched W) (left : List ℕ) (result : Result T E) : Type 0 where
  pub n : ℕ
  pub some : n ≤ drvs_in w.inputs
  pub all : OnOk result (n ≡ drvs_in w.inputs)
  pub puts : PutsDrvs w n contents old held new left result
