-- What may stand behind the last newline of a journal: the beginning of an entry's line, which a crash has cut off. The form is this project's own.
-- Public clauses cite this, but for `IsNotBegunAs` and `IsNoBegunLine`, which serve private ones.
use Rattle.std.specs.Prelude.{◌≡◌, ◌⊎◌, ◌==◌, ◌||◌, ℕ, Bool, true, nat_le, List, [], ◌∷◌, ◌++◌, length}
use Rattle.std.specs.List.{list_all}
use Rattle.nd_path.specs.StorePath.{is_name_byte}
use Rattle.nd_history_text.specs.Lines.{word_of}
use Rattle.nd_history_text.specs.declared.kinds.Kind.{Kind}
use Rattle.nd_history_text.specs.declared.kinds.Kind.TheVariants.{Choice, NoChoice, Start, Return, Finish, Failure, Halt, Drained, Enabled}
use Rattle.nd_journal.specs.WholeLines.{IsBeginning}

-- a byte that entries' lines have: one of a number, a word or a store path, or the space between two of these
abbrev pub is_line_byte : ℕ → Bool
is_line_byte b = is_name_byte b || (b == 47) || (b == 32)

-- what a line of this kind begins with: its first word, and a space
abbrev pub head_of : Kind → List ℕ
head_of kind = word_of kind ++ 32 ∷ []

-- a line of this kind may have so many bytes before its newline: a number has up to ten digits, and why a lease ended is said in up to ten bytes.
-- One with store paths has no such bound.
abbrev pub may_have : Kind → ℕ → Bool
may_have Choice n = nat_le n 39
may_have NoChoice n = nat_le n 20
may_have Start n = true
may_have Return n = nat_le n 15
may_have Finish n = true
may_have Failure n = nat_le n 28
may_have Halt n = nat_le n 4
may_have Drained n = nat_le n 16
may_have Enabled n = nat_le n 17

-- the bytes begin as a line of this kind does, have only bytes of such lines, and no more of them than one may have
pub record IsBegunAs (kind : Kind) (bytes : List ℕ) : Type 0 where
  pub head : IsBeginning bytes (head_of kind) ⊎ IsBeginning (head_of kind) bytes
  pub plain : list_all is_line_byte bytes ≡ true
  pub fits : may_have kind (length bytes) ≡ true

pub record IsNotBegunAs (kind : Kind) (bytes : List ℕ) : Type 0 where
  pub never : IsBegunAs kind bytes → ⊥

-- the bytes may be what is left of an entry's line
pub record IsBegunLine (bytes : List ℕ) : Type 0 where
  pub kind : Kind
  pub begun : IsBegunAs kind bytes

pub record IsNoBegunLine (bytes : List ℕ) : Type 0 where
  pub never : IsBegunLine bytes → ⊥
