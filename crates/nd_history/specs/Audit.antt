-- The rules by which an entry is audited. An entry is allowed exactly where all of them pass, and a refused one is told by the first
-- that doesn't. The histories of these definitions stand newest first. The rules and their order are this project's own choice.
-- Public clauses cite this.
use Rattle.std.specs.Prelude.{◌≡◌, ◌↔◌, ℕ, zero, suc, ◌<◌, true, false, List, Some, Result, MatchResult, codes}
use Rattle.nd_hook.specs.declared.kinds.Decision.TheVariants.{Local, NoBuilder as NobodyBuilds}
use Rattle.nd_history.specs.declared.entry.Entry.{Entry}
use Rattle.nd_history.specs.declared.entry.Entry.TheVariants.{Chosen, NoBuilder, Started, Down, Built, Failed, Stop}
use Rattle.nd_leases.specs.declared.ticket.Ticket.{Ticket}
use Rattle.nd_history.specs.declared.rule.Rule.{Rule}
use Rattle.nd_history.specs.declared.rule.Rule.TheVariants.{Range, Ready, Decision, Best, Slot, Live, Started as StartedRule, Paths, References, Stopped}
use Rattle.nd_history.specs.Premises.{Premises}
use Rattle.nd_history.specs.History.{is_leased, lease_of, is_started, has_stop}
use Rattle.nd_history.specs.Standing.{IsReady}
use Rattle.nd_history.specs.Choices.{HasDecision, IsRemote, IsBestFor}
use Rattle.nd_history.specs.References.{ArePathsRight, AreReferencesRight}
use Rattle.nd_history.specs.Legal.{IsInRange, IsLeastFree, IsAllowed}

-- the rules' numbers: a rule with a smaller one is tried before
abbrev pub code_of : Rule → ℕ
code_of Range = 1
code_of Ready = 2
code_of Decision = 3
code_of Best = 4
code_of Slot = 5
code_of Live = 6
code_of StartedRule = 7
code_of Paths = 8
code_of References = 9
code_of Stopped = 10

-- the rules' names
abbrev pub rule_name : Rule → List ℕ
rule_name Range = codes "Range"
rule_name Ready = codes "Ready"
rule_name Decision = codes "Decision"
rule_name Best = codes "Best"
rule_name Slot = codes "Slot"
rule_name Live = codes "Live"
rule_name StartedRule = codes "Started"
rule_name Paths = codes "Paths"
rule_name References = codes "References"
rule_name Stopped = codes "Stopped"

-- the copied paths are right for the machine of d's live lease
pub record IsSupplied (i : Premises) (past : List Entry) (d : ℕ) (paths : List (List ℕ)) : Type 0 where
  pub ticket : Ticket
  pub live : lease_of d past ≡ Some ticket
  pub right : ArePathsRight i past d ticket.machine paths

-- the entry passes the rule after this history; a rule that doesn't speak of its kind passes
abbrev pub Passes : Premises → List Entry → Entry → Rule → Type 0
Passes i past e Range = IsInRange i e
Passes i past (Chosen d m s) Ready = IsReady i past d
Passes i past (NoBuilder d) Ready = IsReady i past d
Passes i past (Chosen d zero s) Decision = HasDecision i past d Local
Passes i past (Chosen d (suc p) s) Decision = IsRemote i past d
Passes i past (NoBuilder d) Decision = HasDecision i past d NobodyBuilds
Passes i past (Chosen d (suc p) s) Best = IsBestFor i past d p
Passes i past (Chosen d m s) Slot = IsLeastFree past m s
Passes i past (Started d paths) Live = is_leased d past ≡ true
Passes i past (Down d) Live = is_leased d past ≡ true
Passes i past (Built d refs) Live = is_leased d past ≡ true
Passes i past (Failed d why) Live = is_leased d past ≡ true
Passes i past (Started d paths) StartedRule = is_started d past ≡ false
Passes i past (Down d) StartedRule = is_started d past ≡ false
Passes i past (Built d refs) StartedRule = is_started d past ≡ true
Passes i past (Started d paths) Paths = IsSupplied i past d paths
Passes i past (Built d refs) References = AreReferencesRight i past d refs
Passes i past Stop Stopped = has_stop past ≡ false
Passes i past e rule = Unit {0}

-- the rule is the first that refuses the entry
pub record IsFirstRule (i : Premises) (past : List Entry) (e : Entry) (rule : Rule) : Type 0 where
  pub earlier : (other : Rule) → code_of other < code_of rule → Passes i past e other
  pub refuses : Passes i past e rule → ⊥

-- the rule is the first that refuses each choice for d that is in range, and the word that nothing can build d
pub record IsFirstForAny (i : Premises) (past : List Entry) (d : ℕ) (rule : Rule) : Type 0 where
  pub choice : (m s : ℕ) → IsInRange i (Chosen d m s) → IsFirstRule i past (Chosen d m s) rule
  pub word : IsFirstRule i past (NoBuilder d) rule

-- a test of the entry says that it is allowed, or names the first rule that refuses it
abbrev pub IsJudged : {T : Type 0} → Premises → List Entry → Entry → Result T Rule → Type 0
IsJudged i past e answer = MatchResult answer (λ _. IsAllowed i e past) (IsFirstRule i past e)

-- a test of the slot says that it is the machine's least free one, or that it isn't
abbrev pub IsSlotJudged : {T : Type 0} → List Entry → ℕ → ℕ → Result T Rule → Type 0
IsSlotJudged past m s answer = MatchResult answer (λ _. IsLeastFree past m s) (λ rule. (rule ≡ Slot) × (IsLeastFree past m s → ⊥))

-- an entry is allowed exactly where it passes every rule; where a rule refuses it, it isn't; and there is one first rule that does
pub record RulesDecide : Type 0 where
  pub allowed : (i : Premises) (past : List Entry) (e : Entry) → IsAllowed i e past ↔ ((rule : Rule) → Passes i past e rule)
  pub refused : (i : Premises) (past : List Entry) (e : Entry) (rule : Rule) → IsFirstRule i past e rule → IsAllowed i e past → ⊥
  pub once : (i : Premises) (past : List Entry) (e : Entry) (rule other : Rule) → IsFirstRule i past e rule → IsFirstRule i past e other → rule ≡ other
