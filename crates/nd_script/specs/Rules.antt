-- What the rules of a stand-in speak of. This project's own choice.
-- Public clauses cite this.
use Rattle.std.specs.Prelude.{ℕ, Bool, false, ◌==◌}
use Rattle.nd_script.specs.declared.rule.Rule.{Rule}
use Rattle.nd_script.specs.declared.rule.Rule.TheVariants.{NoConnect, NoCopy, Fail, Lose, Built}

-- the rule refuses each connect on machine m
abbrev pub is_no_connect : ℕ → Rule → Bool
is_no_connect m (NoConnect n) = m == n
is_no_connect m (NoCopy n) = false
is_no_connect m (Fail d code) = false
is_no_connect m (Lose d) = false
is_no_connect m (Built d refs) = false

-- the rule refuses each copy on machine m
abbrev pub is_no_copy : ℕ → Rule → Bool
is_no_copy m (NoConnect n) = false
is_no_copy m (NoCopy n) = m == n
is_no_copy m (Fail d code) = false
is_no_copy m (Lose d) = false
is_no_copy m (Built d refs) = false

-- the rule says how a build of derivation d ends
abbrev pub is_about : ℕ → Rule → Bool
is_about d (NoConnect m) = false
is_about d (NoCopy m) = false
is_about d (Fail e code) = d == e
is_about d (Lose e) = d == e
is_about d (Built e refs) = d == e
