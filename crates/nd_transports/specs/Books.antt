-- How the rules of stand-ins are found. No public clause cites these definitions: they serve the proofs of `RuleBook` alone.
use Rattle.std.specs.Prelude.{◌≡◌, ◌==◌, ℕ, Bool, false, List, Option, Some, None, slice_get, drop}
use Rattle.std.specs.Ordering.{nat_cmp}
use Rattle.std.specs.List.{find}
use Rattle.std.specs.BTreeMap.{BTreeMap, get}
use Rattle.nd_script.specs.declared.rule.Rule.{Rule}
use Rattle.nd_script.specs.Rules.{is_about}

-- the derivation is the one that is named
abbrev pub is_named : Option ℕ → ℕ → Bool
is_named (Some e) d = d == e
is_named None d = false

-- the rule at a place
abbrev pub rule_at : List Rule → Option ℕ → Option Rule
rule_at rules (Some place) = slice_get rules place
rule_at rules None = None

-- the map has for each derivation the place of the first rule about its build
pub record AreFirsts (rules : List Rule) (firsts : BTreeMap ℕ ℕ) : Type 0 where
  pub first : (drv : ℕ) → find (is_about drv) rules ≡ rule_at rules (get nat_cmp firsts drv)

-- the map has for each derivation the place of the first rule about its build among those from a place on
pub record AreFirstsFrom (start : ℕ) (rules : List Rule) (firsts : BTreeMap ℕ ℕ) : Type 0 where
  pub first : (drv : ℕ) → find (is_about drv) (drop start rules) ≡ rule_at rules (get nat_cmp firsts drv)
