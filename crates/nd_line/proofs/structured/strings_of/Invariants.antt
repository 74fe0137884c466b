use Rattle.std.proofs.Common.{◌≡◌, drop}
use Rattle.serde_json.specs.View.{items_view}
use Rattle.nd_line.specs.Structured.{strings}
use Rattle.nd_line.proofs.Strings.{with_found}
use Rattle.nd_line.proofs.structured.strings_of.Given as goal

abbrev pub invariant-loop-value : goal.invariant-loop-value
invariant-loop-value l = strings (items_view l.values) ≡ with_found l.texts.items (strings (items_view (drop l.value-index l.values)))
