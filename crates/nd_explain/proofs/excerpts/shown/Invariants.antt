use Rattle.std.proofs.Common.{◌≡◌, ◌++◌, drop}
use Rattle.std.specs.String.{string_bytes}
use Rattle.nd_explain.specs.Excerpts.{shown_text}
use Rattle.nd_explain.proofs.excerpts.shown.Given as goal

abbrev pub invariant-loop-byte : goal.invariant-loop-byte
invariant-loop-byte l = string_bytes l.line ++ shown_text (drop l.byte-index l.text) ≡ shown_text l.text
