use Rattle.std.proofs.Common.{ℕ, List, sym, subst}
use Rattle.nd_bundle.specs.Parts.{IsReading}
use Rattle.nd_bundle.proofs.lines_reader.LinesReader.new.Goals as goal

pub invariant_of-result : goal.invariant_of-result
invariant_of-result c = subst (λ (text : List ℕ). IsReading c.args.manner text c.new.result) (sym c.new-2.ensures) (c.new.ensures.nothing c.args.manner)
