-- Beginnings of one list of entries.
use Rattle.std.proofs.Common.{◌≡◌, ◌∙◌, ℕ, zero, suc, ◌<◌, ◌≤◌, Bool, true, false, List, [], ◌∷◌, ◌++◌, length, take, slice_get, Some, MatchBool, refl, sym, ap, arith, append_assoc, leb-true, leb-false}
use Rattle.std.proofs.Math.Dec.{leb}
use Rattle.std.proofs.lemmas.List.{take_at, take_all, take-take}
use mathlib.Core.List.{IsPrefix}
use Rattle.nd_history.specs.declared.entry.Entry.{Entry}
use Rattle.nd_history.specs.Sameness.{BeginsWith}
use Rattle.nd_history.proofs.Alike.{begins_from, begin_of}
use Rattle.nd_keeping.specs.Listing.{Listed, GoesBeyond}

-- the first entries are those of the beginning
front_of : (first entries : List Entry) → IsPrefix first entries → take (length first) entries ≡ first
front_of first entries p = ap (take (length first)) (sym p.1) ∙ take_at first p.0 (length first) refl

-- of two beginnings of one list the one that isn't longer begins the other
pub begins_other : (one other whole : List Entry) → IsPrefix one whole → IsPrefix other whole → length one ≤ length other → BeginsWith other one
begins_other one other whole p q le =
    begins_from other one
    (ap (take (length one)) (sym (front_of other whole q)) ∙ take-take (length one) (length other) whole le ∙ front_of one whole p)

-- a beginning with as many entries is the whole
pub whole_begun : (first entries : List Entry) → IsPrefix first entries → length entries ≤ length first → first ≡ entries
whole_begun first entries p le = sym (front_of first entries p) ∙ take_all (length first) entries le

pub whole_kept : (first entries : List Entry) → BeginsWith entries first → length entries ≤ length first → first ≡ entries
whole_kept first entries begins le = sym (begin_of entries first begins) ∙ take_all (length first) entries le

pub same_listed : (one other : Listed) → one.book ≡ other.book → one.entries ≡ other.entries → one ≡ other
same_listed one other book entries = λ i. record { book = book i; entries = entries i }

-- two fronts, both of which one thread has seen: one begins the other
pub front_begins : (whole : List Entry) (one other : Listed) (short long : ℕ) → short ≡ length one.entries → long ≡ length other.entries
    → IsPrefix one.entries whole → IsPrefix other.entries whole
    → MatchBool (leb short long) (BeginsWith other.entries one.entries) (GoesBeyond one.entries other.entries)
front_begins whole one other short long is are p q = by (leb short long) refl
  where
    by : (t : Bool) → leb short long ≡ t → MatchBool t (BeginsWith other.entries one.entries) (GoesBeyond one.entries other.entries)
    by true le = begins_other one.entries other.entries whole p q (let here : short ≤ long = leb-true short long le in omega arith)
    by false more =
        let there : long < short = leb-false short long more in
        record {
          begins = begins_other other.entries one.entries whole q p (omega arith);
          longer = omega arith;
        }

-- ---- for whoever holds a beginning of a history

pub begins_through : (entries middle first : List Entry) → BeginsWith entries middle → BeginsWith middle first → BeginsWith entries first
begins_through entries middle first one other = record {
  later = other.later ++ one.later;
  whole = one.whole ∙ ap (λ (es : List Entry). es ++ one.later) other.whole ∙ append_assoc first other.later one.later;
}

-- a beginning stays one when the history grows
pub begins_grown : (entries first added : List Entry) → BeginsWith entries first → BeginsWith (entries ++ added) first
begins_grown entries first added begins = record {
  later = begins.later ++ added;
  whole = ap (λ (es : List Entry). es ++ added) begins.whole ∙ append_assoc first begins.later added;
}

at_front : (first later : List Entry) (n : ℕ) (e : Entry) → slice_get first n ≡ Some e → slice_get (first ++ later) n ≡ Some e
at_front [] later n e is = cc
at_front (x ∷ first) later zero e is = is
at_front (x ∷ first) later (suc n) e is = at_front first later n e is

in_front : (first later : List Entry) (n : ℕ) (e : Entry) → n < length first → slice_get (first ++ later) n ≡ Some e → slice_get first n ≡ Some e
in_front [] later n e within is = absurd (omega arith)
in_front (x ∷ first) later zero e within is = is
in_front (x ∷ first) later (suc n) e within is = in_front first later n e (omega arith) is

-- what stands in a beginning stands in the whole, at the same place
pub stands_in_whole : (entries first : List Entry) (n : ℕ) (e : Entry) → BeginsWith entries first → slice_get first n ≡ Some e → slice_get entries n ≡ Some e
stands_in_whole entries first n e begins is = ap (λ (es : List Entry). slice_get es n) begins.whole ∙ at_front first begins.later n e is

-- what stands in the whole at a place that the beginning has, stands there in the beginning
pub stands_in_front : (entries first : List Entry) (n : ℕ) (e : Entry) → BeginsWith entries first → n < length first → slice_get entries n ≡ Some e → slice_get first n ≡ Some e
stands_in_front entries first n e begins within is =
    in_front first begins.later n e within (sym (ap (λ (es : List Entry). slice_get es n) begins.whole) ∙ is)

pub ruleset beginnings = (begins_through, begins_grown, stands_in_whole, stands_in_front)
