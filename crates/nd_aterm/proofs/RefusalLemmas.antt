-- Lemmas on refusals.
use Rattle.std.proofs.Common.{◌≡◌}
use Rattle.nd_aterm.specs.declared.fault.AtermError.{AtermError}
use Rattle.nd_aterm.specs.declared.fault.AtermError.TheVariants.{TooLong, NotDerivation, Order, Memory}
use Rattle.nd_aterm.specs.Refusals.{Refuses}

-- what is refused for a cause is refused for what follows from it
pub Refuses-weaker : (e : AtermError) (P Q : Type 0) → (P → Q) → Refuses e P → Refuses e Q
Refuses-weaker TooLong P Q f cause = cause
Refuses-weaker NotDerivation P Q f cause = f cause
Refuses-weaker Order P Q f cause = cause
Refuses-weaker Memory P Q f cause = cause

-- what has to be there and isn't, is why there is no such part
pub Refuses-as : (e : AtermError) (P Q : Type 0) → (P → Q) → (e ≡ NotDerivation) × P → Refuses e Q
Refuses-as TooLong P Q f why = absurd (cc (why.0))
Refuses-as NotDerivation P Q f why = f why.1
Refuses-as Order P Q f why = absurd (cc (why.0))
Refuses-as Memory P Q f why = tt
