use Rattle.std.proofs.Common.{ℕ, List, sym, subst}
use Rattle.nd_bundle.specs.Parts.{IsReading}
use Rattle.nd_bundle.proofs.lines_reader.LinesReader.feed.Goals as goal

pub invariant_of-self : goal.invariant_of-self
invariant_of-self g c =
    subst (λ (text : List ℕ). IsReading c.self.inside.manner text c.read_on-read.new.self) (sym c.with-self-inside.ensures) (c.read_on-read.ensures.goes c.self.inside.so_far.bytes c.self.invariant)
