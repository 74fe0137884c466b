-- Lemmas on the first entries of a history, which stay so while it grows.
use Rattle.std.proofs.Common.{◌≡◌, ℕ, zero, suc, ◌<◌, ◌≤◌, Bool, true, false, List, [], ◌∷◌, ◌++◌, length, take, drop, reverse, Some, slice_get, refl, sym, ap, ◌∙◌, subst, arith}
use Rattle.std.proofs.Math.Seq.{take-length, take-append_seam}
use Rattle.std.proofs.lemmas.List.{take-append-le, take-append-drop}
use Rattle.nd_history.specs.declared.entry.Entry.{Entry}
use Rattle.nd_history.specs.Premises.{Premises}
use Rattle.nd_history.specs.Pumping.{HasPumped}
use Rattle.nd_history.specs.Sameness.{BeginsWith}
use Rattle.nd_keeping.specs.Listing.{GoesBeyond, Listed}
use Rattle.nd_keeping.specs.Scribing.{HasTaken, Scribing}
use Rattle.nd_ledger.specs.Worlds.{World}
use Rattle.nd_run_desk.specs.Abandoned.{last_entries}
use Rattle.nd_history.specs.declared.entry.Entry.TheVariants.{Chosen, Started}
use Rattle.nd_leases.specs.declared.ticket.Ticket.{Ticket}
use Rattle.nd_run_desk.specs.declared.keeping.Step.{Step}
use Rattle.nd_run_desk.specs.declared.keeping.Step.TheVariants.{Call, Build}
use Rattle.nd_run_desk.specs.Leaves.{Allows, HasHandedOver, IsFrontOf}
use Rattle.nd_run_desk.specs.Written.{IsWritten, IsUnwritten, IsWrittenWhole}

take_within : {X : Type 0} (n : ℕ) (xs : List X) → length (take n xs) ≤ length xs
take_within zero xs = omega arith
take_within (suc n) [] = omega arith
take_within (suc n) (x ∷ xs) = let rest = take_within n xs in omega (arith, rest)

-- a front is no longer than the history
pub front_within : (front history : List Entry) → IsFrontOf front history → length front ≤ length history
front_within front history h =
    let P : List Entry → Type 0 = λ es. length es ≤ length history in
    subst P h.is (take_within (length front) history)

pub front_more : (front history more : List Entry) → IsFrontOf front history → IsFrontOf front (history ++ more)
front_more front history more h = record { is = take-append-le (length front) history more (front_within front history h) ∙ h.is }

-- .. however much more came
pub front_grown : (front old new more : List Entry) → IsFrontOf front old → new ≡ old ++ more → IsFrontOf front new
front_grown front old new more h grown = subst (IsFrontOf front) (sym grown) (front_more front old more h)

pub front_made : (a b : World) (front : List Entry) (e : Entry) → IsFrontOf front a.history → b ≡ record a { history = a.history ++ e ∷ [] } → IsFrontOf front b.history
front_made a b front e h grown = front_grown front a.history b.history (e ∷ []) h (ap (λ (w : World). w.history) grown)

pub front_pumped : (i : Premises) (old new front : List Entry) → IsFrontOf front old → HasPumped i old new → IsFrontOf front new
front_pumped i old new front h pumped = front_grown front old new pumped.steps h pumped.grown

pub front_abandoned : (a b : World) (front : List Entry) (manned : List (ℕ × ℕ)) → IsFrontOf front a.history → b ≡ record a { history = a.history ++ last_entries a.inputs manned (reverse a.history) } → IsFrontOf front b.history
front_abandoned a b front manned h grown = front_grown front a.history b.history (last_entries a.inputs manned (reverse a.history)) h (ap (λ (w : World). w.history) grown)

-- the whole history
pub front_whole : (history : List Entry) → IsFrontOf history history
front_whole history = record { is = take-length history }

-- a front, and all that stands behind it
pub front_rest : (front history : List Entry) → IsFrontOf front history → front ++ drop (length front) history ≡ history
front_rest front history h = ap (λ es. es ++ drop (length front) history) (sym h.is) ∙ take-append-drop (length front) history

-- one that is as long is the history
pub front_all : (front history : List Entry) → IsFrontOf front history → length front ≡ length history → front ≡ history
front_all front history h same = sym h.is ∙ ap (λ n. take n history) same ∙ take-length history

get_in_take : {X : Type 0} (n : ℕ) (xs : List X) (k : ℕ) → k < n → slice_get (take n xs) k ≡ slice_get xs k
get_in_take zero xs k lt = absurd (omega (arith, lt))
get_in_take (suc n) [] k lt = refl
get_in_take (suc n) (x ∷ xs) zero lt = refl
get_in_take (suc n) (x ∷ xs) (suc k) lt = get_in_take n xs k (omega (arith, lt))

-- what stands in the history at a place that the front has stands there in the front
pub front_at : (front history : List Entry) (place : ℕ) (e : Entry) → IsFrontOf front history → place < length front → slice_get history place ≡ Some e → slice_get front place ≡ Some e
front_at front history place e h lt at =
    let P : List Entry → Type 0 = λ es. slice_get es place ≡ Some e in
    subst P h.is (get_in_take (length front) history place lt ∙ at)

-- a front of a front
pub front_of_front : (first front history : List Entry) → IsFrontOf first front → IsFrontOf front history → IsFrontOf first history
front_of_front first front history one two =
    subst (IsFrontOf first) (front_rest front history two) (front_more first front (drop (length front) history) one)

-- ---- fronts that are known by their lists

pub begun_front : (whole front : List Entry) → BeginsWith whole front → IsFrontOf front whole
begun_front whole front h =
    let P : List Entry → Type 0 = λ es. take (length front) es ≡ front in
    record { is = subst P (sym h.whole) (take-append_seam front h.later) }

front_begun : (whole front : List Entry) → IsFrontOf front whole → BeginsWith whole front
front_begun whole front h = record { later = drop (length front) whole; whole = sym (front_rest front whole h) }

-- the history begins with what begins a front of it
pub begun_through : (history front first : List Entry) → IsFrontOf front history → BeginsWith front first → BeginsWith history first
begun_through history front first h begins = front_begun history first (front_of_front first front history (begun_front front first begins) h)

-- .. and where that is as long as the history, it is the history
pub written_whole : (scribe : Scribing) (history front : List Entry) → scribe.refused ≡ false → IsFrontOf front history → BeginsWith front scribe.kept.entries → length scribe.kept.entries ≡ length history → IsWrittenWhole scribe history
written_whole scribe history front willing h begins same = record {
  willing = willing;
  whole = front_all scribe.kept.entries history (begun_front history scribe.kept.entries (begun_through history front scribe.kept.entries h begins)) same;
}

-- a run that keeps no history
pub unkept : (keeps kept : Bool) (scribe : Scribing) (handed history : List Entry) → IsFrontOf handed history → keeps ≡ false → kept ≡ true → IsWritten keeps kept scribe handed history
unkept keeps kept scribe handed history front none is = record { front = front; written = λ on. absurd (cc (on, none)); unwritten = λ no. absurd (cc (is, no)); unasked = λ off. is }

-- .. and one that keeps it
pub kept_written : (keeps kept : Bool) (scribe : Scribing) (handed history : List Entry) → IsFrontOf handed history → keeps ≡ true → (kept ≡ true → IsWrittenWhole scribe history)
    → (kept ≡ false → IsUnwritten scribe handed history) → IsWritten keeps kept scribe handed history
kept_written keeps kept scribe handed history front on whole lacks = record { front = front; written = λ _. whole; unwritten = λ no. (on, lacks no); unasked = λ off. absurd (cc (on, off)) }

-- why a journal doesn't hold all that a desk handed to it
pub refused_unwritten : (scribe : Scribing) (handed history : List Entry) → scribe.refused ≡ true → IsUnwritten scribe handed history
refused_unwritten scribe handed history refused = record { lacks = λ willing same. absurd (cc (refused, willing)) }

pub other_unwritten : (scribe : Scribing) (handed history : List Entry) → (length scribe.kept.entries ≡ length history → ⊥) → IsUnwritten scribe handed history
other_unwritten scribe handed history differ = record { lacks = λ willing same. absurd (differ (ap length same)) }

pub beyond_unwritten : (scribe : Scribing) (handed history : List Entry) → GoesBeyond scribe.kept.entries handed → IsUnwritten scribe handed history
beyond_unwritten scribe handed history beyond = record { lacks = λ willing same. let more = beyond.longer in let size = ap length same in omega arith }

-- the scribe has taken the history
pub handed_over : (old new : Scribing) (handed : Listed) (history : List Entry) → HasTaken old new history → handed ≡ new.handed → HasHandedOver new handed history
handed_over old new handed history taken same = record { known = same; whole = ap (λ (l : Listed). l.entries) (same ∙ taken.handed) }

-- what is allowed by an entry of the history is allowed once that is durable
pub allowed : (keeps : Bool) (front history : List Entry) (place : ℕ) (step : Step) (t : Ticket) → Allows true history place step t → IsFrontOf front history → place < length front → Allows keeps front place step t
allowed keeps front history place Call t stands h lt = record {
  own = λ on. stands.own refl;
  choice = record { there = λ on. front_at front history place (Chosen t.drv t.machine t.slot) h lt (stands.choice.there refl) };
}
allowed keeps front history place Build t stands h lt = record {
  behind = λ on. stands.behind refl;
  paths = stands.paths;
  start = record { there = λ on. front_at front history place (Started t.drv stands.paths) h lt (stands.start.there refl) };
}
