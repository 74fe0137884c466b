-- What a journal in a file takes, where it is known what its file holds. Clauses of the program's functions cite this. A real file says nothing of
-- what it holds.
use Rattle.std.specs.Prelude.{◌≡◌, ℕ, List, Option}
use Rattle.std.specs.Io.KnownBytes.{Appends}
use Rattle.nix_dispatch.specs.declared.journal_files.Kept.{Kept}
use Rattle.nix_dispatch.specs.declared.journal_files.Kept.TheVariants.{Nowhere, InFile}

-- the file that a journal is kept in grows by these bytes, and the journal stays in it; one that is kept nowhere stays so
abbrev pub KeepsBytes : {F : Type 0} → (F → Option (List ℕ)) → Kept F → Kept F → List ℕ → Type 0
KeepsBytes contents Nowhere new bytes = new ≡ Nowhere
KeepsBytes contents (InFile name file refusal) Nowhere bytes = ⊥
KeepsBytes contents (InFile name file refusal) (InFile name_after file_after refusal_after) bytes = Appends (contents file) (contents file_after) bytes
