-- What readers of a bundle whose text comes in parts show of the reader of its lines, and how they have it read. Serves proofs alone.
use Rattle.std.specs.Prelude.{◌≡◌}
use Rattle.nd_bundle.specs.Said.{for_graph, for_needs}
use Rattle.nd_bundle.specs.Reading.{Reading}
use Rattle.nd_bundle.specs.ReadingLines.{ReadingLines}

-- whether paths are checked, and the text so far
abbrev pub reading_of : ReadingLines → Reading
reading_of r = record { check = r.manner.check; text = r.text }

-- all is kept, for a graph
pub record ReadsGraph (r : ReadingLines) : Type 0 where
  pub is : r.manner ≡ for_graph r.manner.check

-- or what the links and the needs are alone
pub record ReadsNeeds (r : ReadingLines) : Type 0 where
  pub is : r.manner ≡ for_needs r.manner.check
