use Rattle.std.proofs.Common.{◌≡◌, ◌∷◌, ◌++◌}
use Rattle.std.specs.List.{All}
use Rattle.std.specs.Option.{option_copied}
use Rattle.nd_bytes.specs.Cut.{pieces, left_over}
use Rattle.nd_path.specs.Refusals.{IsPath}
use Rattle.nd_closure.specs.Info.{words_of}
use Rattle.nd_closure.proofs.info_text.read_line.Given as goal

abbrev pub invariant-loop-left : goal.invariant-loop-left
invariant-loop-left l = record {
  words : words_of l.line ≡ l.path-inside.text.value ∷ (l.refs.items ++ pieces 32 (option_copied l.left));
  paths : All IsPath l.refs.items;
}

abbrev pub decreases-loop-left : goal.decreases-loop-left
decreases-loop-left l = left_over (option_copied l.left)
