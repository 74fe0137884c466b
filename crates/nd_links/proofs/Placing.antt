-- Needs at their places in a table.
use Rattle.std.proofs.Common.{◌≡◌, ◌<◌, ◌≤◌, ℕ, zero, suc, Bool, List, [], ◌∷◌, ◌++◌, length, get_or, map, Some, slice_get, append-nil, append_assoc, refl, sym, ap, subst, ◌∙◌, arith}
use Rattle.std.specs.List.{AllZip}
use Rattle.std.specs.Bool.{Decides, IsTrue}
use Rattle.std.proofs.lemmas.Slice.Eq.{slice_eq-Decides}
use Rattle.std.proofs.lemmas.Bool.Decides.{Decides-eqb}
use Rattle.std.proofs.lemmas.List.{get_or_past}
use Rattle.std.proofs.lemmas.Option.{slice_get_read, slice_get_within, get_or_from_slice_get}
use Rattle.rayon.proofs.ListFacts.{AllZip-append}
use Rattle.nd_bytes.specs.Compared.{bytes_eq}
use Rattle.nd_machines.specs.FeatureSets.{sets_eq, sets_eq-Decides}
use Rattle.nd_eligible.specs.declared.need.Need.{Need}
use Rattle.nd_links.specs.Placing.{place_at, AddsNeed, IsPlaced, JoinsNeeds, MeetsNeed, MeetsNeeds}
use Rattle.nd_links.specs.declared.shared_needs.SharedNeeds.{SharedNeeds}
use Rattle.nd_links.proofs.Zipped.{zip_at, zip_push}

pub same_text : (xs ys : List ℕ) (r : Bool) → r ≡ bytes_eq xs ys → IsTrue r → xs ≡ ys
same_text xs ys r is = (slice_eq-Decides Decides-eqb xs ys r is).0

pub same_set : (xs ys : List (List ℕ)) (r : Bool) → r ≡ sets_eq xs ys → IsTrue r → xs ≡ ys
same_set xs ys r is = let P : Bool → Type 0 = λ x. Decides x (xs ≡ ys) in (subst P (sym is) (sets_eq-Decides xs ys)).0

pub same_need : (one other : Need) → one.system ≡ other.system → one.features ≡ other.features → one.prefer_local ≡ other.prefer_local → one.builtin ≡ other.builtin → one ≡ other
same_need one other system features prefer_local builtin = λ j. record { system = system j; features = features j; prefer_local = prefer_local j; builtin = builtin j }

-- ---- one need

-- what stands in a list stands in a longer one
stands : (old more : List Need) (i : ℕ) (x : Need) → slice_get old i ≡ Some x → slice_get (old ++ more) i ≡ Some x
stands [] more i x is = let none = slice_get_within [] i x is in absurd (omega (arith, none))
stands (y ∷ old) more zero x is = is
stands (y ∷ old) more (suc i) x is = stands old more i x is

-- .. and the last one at its end
last_stands : (old : List Need) (x : Need) → slice_get (old ++ x ∷ []) (length old) ≡ Some x
last_stands [] x = refl
last_stands (y ∷ old) x = last_stands old x

pub is_at : (table : List Need) (place : ℕ) (need one : Need) → place < length table → one ≡ get_or table place one → one ≡ need → IsPlaced table need place
is_at table place need one within is same = record { stands = slice_get_read table (length table) place one refl within is ∙ ap Some same }

pub was_met : (old new : SharedNeeds) (need : Need) (place : ℕ) → new.table.items ≡ old.table.items → new.places.items ≡ old.places.items → IsPlaced old.table.items need place → MeetsNeed need old new place
was_met old new need place table places is = record {
  more = [];
  grown = table ∙ sym (append-nil old.table.items);
  same = places;
  is = subst (λ (t : List Need). IsPlaced t need place) (sym table) is;
}

pub begins : (old new : SharedNeeds) (need : Need) (place : ℕ) → place ≡ length old.table.items → new.table.items ≡ old.table.items ++ need ∷ [] → new.places.items ≡ old.places.items → MeetsNeed need old new place
begins old new need place at grown places = record {
  more = need ∷ [];
  grown = grown;
  same = places;
  is = record { stands = ap (λ (t : List Need). slice_get t place) grown ∙ ap (λ (i : ℕ). slice_get (old.table.items ++ need ∷ []) i) at ∙ last_stands old.table.items need };
}

-- ---- needs at their places

longer : (old more : List Need) (needs : List Need) (places : List ℕ) → AllZip (IsPlaced old) needs places → AllZip (IsPlaced (old ++ more)) needs places
longer old more [] [] each = tt
longer old more [] (p ∷ places) each = absurd each
longer old more (n ∷ needs) [] each = absurd each
longer old more (n ∷ needs) (p ∷ places) each = (record { stands = stands old more p n each.0.stands }, longer old more needs places each.1)

-- .. where the table has grown
grows : (old new more : List Need) → new ≡ old ++ more → (needs : List Need) (places : List ℕ) → AllZip (IsPlaced old) needs places → AllZip (IsPlaced new) needs places
grows old new more grown needs places each = subst (λ (t : List Need). AllZip (IsPlaced t) needs places) (sym grown) (longer old more needs places each)

pub adds_need : (need : Need) (old mid new : SharedNeeds) (place : ℕ) → MeetsNeed need old mid place → new.table.items ≡ mid.table.items → new.places.items ≡ mid.places.items ++ place ∷ [] → AddsNeed need old new
adds_need need old mid new place meets table places = record {
  adds = λ needs are. record {
    each =
        subst (λ (t : List Need). AllZip (IsPlaced t) (needs ++ need ∷ []) new.places.items) (sym table)
        (subst (λ (ps : List ℕ). AllZip (IsPlaced mid.table.items) (needs ++ need ∷ []) ps) (sym (places ∙ ap (λ (ps : List ℕ). ps ++ place ∷ []) meets.same))
        (zip_push (IsPlaced mid.table.items) needs old.places.items need place (grows old.table.items mid.table.items meets.more meets.grown needs old.places.items are.each) meets.is));
  };
}

pub meets_none : (old : SharedNeeds) → MeetsNeeds [] old old []
meets_none old = record { more = []; grown = sym (append-nil old.table.items); same = refl; each = tt }

pub meets_more : (needs : List Need) (first old new : SharedNeeds) (met more : List ℕ) (need : Need) (place : ℕ) → MeetsNeeds needs first old met → MeetsNeed need old new place → more ≡ met ++ place ∷ [] → MeetsNeeds (needs ++ need ∷ []) first new more
meets_more needs first old new met more need place so meets grown = record {
  more = so.more ++ meets.more;
  grown = meets.grown ∙ ap (λ (t : List Need). t ++ meets.more) so.grown ∙ append_assoc first.table.items so.more meets.more;
  same = meets.same ∙ so.same;
  each =
      subst (λ (ps : List ℕ). AllZip (IsPlaced new.table.items) (needs ++ need ∷ []) ps) (sym grown)
      (zip_push (IsPlaced new.table.items) needs met need place (grows old.table.items new.table.items meets.more meets.grown needs met so.each) meets.is);
}

-- ---- places of another table

pub no_place : (met : List ℕ) (place : ℕ) → length met ≤ place → 0 ≡ place_at met place
no_place met place past = sym (get_or_past met place 0 past)

-- the need at a place of the other table stands where that place is met
one_carried : (table new : List Need) (met : List ℕ) (need : Need) (place : ℕ) → AllZip (IsPlaced new) table met → IsPlaced table need place → IsPlaced new need (place_at met place)
one_carried table new met need place each is =
    let at : IsPlaced new (get_or table place need) (get_or met place 0) = zip_at (IsPlaced new) table met place need 0 each (slice_get_within table place need is.stands) in
    subst (λ (n : Need). IsPlaced new n (get_or met place 0)) (get_or_from_slice_get table place need need is.stands) at

all_carried : (table new : List Need) (met : List ℕ) (needs : List Need) (places : List ℕ) → AllZip (IsPlaced new) table met → AllZip (IsPlaced table) needs places → AllZip (IsPlaced new) needs (map (place_at met) places)
all_carried table new met [] [] each are = tt
all_carried table new met [] (p ∷ places) each are = absurd are
all_carried table new met (n ∷ needs) [] each are = absurd are
all_carried table new met (n ∷ needs) (p ∷ places) each are = (one_carried table new met n p each are.0, all_carried table new met needs places each are.1)

pub joins_needs : (old others mid new : SharedNeeds) (met : List ℕ) → MeetsNeeds others.table.items old mid met → new.table.items ≡ mid.table.items → new.places.items ≡ mid.places.items ++ map (place_at met) others.places.items → JoinsNeeds old others new
joins_needs old others mid new met meets table places = record {
  joins = λ some more so also. record {
    each =
        subst (λ (t : List Need). AllZip (IsPlaced t) (some ++ more) new.places.items) (sym table)
        (subst (λ (ps : List ℕ). AllZip (IsPlaced mid.table.items) (some ++ more) ps) (sym (places ∙ ap (λ (ps : List ℕ). ps ++ map (place_at met) others.places.items) meets.same))
        (AllZip-append (IsPlaced mid.table.items) some more old.places.items (map (place_at met) others.places.items)
        (grows old.table.items mid.table.items meets.more meets.grown some old.places.items so.each)
        (all_carried others.table.items mid.table.items met more others.places.items meets.each also.each)));
  };
}
