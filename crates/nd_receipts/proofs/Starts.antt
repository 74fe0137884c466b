-- Lemmas on whether a derivation was started.
use Rattle.std.proofs.Common.{◌≡◌, ℕ, Bool, if◌then◌else◌, List, [], ◌∷◌, ◌++◌, reverse, Option, Some, None, ap, ◌∙◌, eq-eqb}
use Rattle.std.proofs.lemmas.Bool.{ne_eqb}
use Rattle.nd_history.proofs.Following.{newest_first}
use Rattle.nd_history.specs.declared.entry.Entry.{Entry}
use Rattle.nd_history.specs.History.{is_started}
use Rattle.nd_receipts.specs.Standing.{start_said}
use Rattle.nd_receipts.proofs.Standings.{by_said, started_by}

-- the newest entry decides by what it says
last_by : (items longer : List Entry) (d : ℕ) (e : Entry) (said : Option (ℕ × Bool)) → longer ≡ items ++ e ∷ [] → start_said e ≡ said → is_started d (reverse longer) ≡ by_said d said (is_started d (reverse items))
last_by items longer d e said is says = ap (is_started d) (newest_first items longer e is) ∙ started_by d e (reverse items) ∙ ap (λ o. by_said d o (is_started d (reverse items))) says

pub said_last : (items longer : List Entry) (d about : ℕ) (e : Entry) (b : Bool) → longer ≡ items ++ e ∷ [] → start_said e ≡ Some (about, b) → d ≡ about → is_started d (reverse longer) ≡ b
said_last items longer d about e b is says same = last_by items longer d e (Some (about, b)) is says ∙ ap (λ (t : Bool). if t then b else is_started d (reverse items)) (eq-eqb d about same)

-- .. and where it is about another derivation, or says nothing, what stands before it does
pub other_last : (items longer : List Entry) (d about : ℕ) (e : Entry) (b : Bool) → longer ≡ items ++ e ∷ [] → start_said e ≡ Some (about, b) → (d ≡ about → ⊥) → is_started d (reverse longer) ≡ is_started d (reverse items)
other_last items longer d about e b is says other = last_by items longer d e (Some (about, b)) is says ∙ ap (λ (t : Bool). if t then b else is_started d (reverse items)) (ne_eqb d about other)

pub unsaid_last : (items longer : List Entry) (d : ℕ) (e : Entry) → longer ≡ items ++ e ∷ [] → start_said e ≡ None → is_started d (reverse longer) ≡ is_started d (reverse items)
unsaid_last items longer d e is says = last_by items longer d e None is says

pub ruleset starts = (said_last, other_last, unsaid_last)
