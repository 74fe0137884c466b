-- What the refusals of derivation texts say.
-- Public clauses cite this, but `Refuses` serves private clauses alone.
use Rattle.std.specs.Prelude.{ℕ, List, codes}
use Rattle.nd_aterm.specs.declared.fault.AtermError.{AtermError}
use Rattle.nd_aterm.specs.declared.fault.AtermError.TheVariants.{TooLong, NotDerivation, Order, Memory}

-- When reading a part of a derivation text is refused: where no such part stands there, which is the cause.
abbrev pub Refuses : AtermError → Type 0 → Type 0
Refuses TooLong cause = ⊥
Refuses NotDerivation cause = cause
Refuses Order cause = ⊥
Refuses Memory cause = Unit {0}

-- the plain name of a refusal
abbrev pub refusal_name : AtermError → List ℕ
refusal_name TooLong = codes "TooLong"
refusal_name NotDerivation = codes "NotDerivation"
refusal_name Order = codes "Order"
refusal_name Memory = codes "Memory"
