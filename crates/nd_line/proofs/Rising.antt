-- The output names of a line's node rise.
use Rattle.std.proofs.Common.{◌≡◌, ℕ, Bool, true, false, true≢false, ◌&&◌, List, [], ◌∷◌, map, Ordering, Less, Equal, Greater, refl, sym, subst}
use Rattle.std.proofs.lemmas.Cmp.{nat_list_cmp_total}
use Rattle.std.specs.List.{AllByRecursion}
use Rattle.std.specs.List.Sorted.{IsStrictlySortedBy}
use Rattle.std.specs.Ordering.{is_lt}
use Rattle.nd_bytes.specs.Compared.{bytes_cmp}
use Rattle.nd_aterm.specs.Derivations.{rises, is_below, in_order}
use Rattle.nd_aterm.specs.declared.records.Output.{Output}
use Rattle.nd_aterm.specs.declared.records.Parts.{Parts}
use Rattle.nd_line.specs.Reads.{IsLine}
use Rattle.nd_line.specs.declared.line.LineNode.{LineNode}

pub both : (a b : Bool) → (a && b) ≡ true → (a ≡ true) × (b ≡ true)
both true b h = (refl, h)
both false b h = absurd (true≢false (sym h))

less : (o : Ordering) → is_lt o ≡ true → o ≡ Less
less Less h = refl
less Equal h = absurd (true≢false (sym h))
less Greater h = absurd (true≢false (sym h))

-- what is below the first of a rising list is below all of it
below_all : (x y : List ℕ) (zs : List (List ℕ)) → bytes_cmp x y ≡ Less → AllByRecursion (λ z. bytes_cmp y z ≡ Less) zs → AllByRecursion (λ z. bytes_cmp x z ≡ Less) zs
below_all x y [] first rest = tt
below_all x y (z ∷ zs) first rest = (nat_list_cmp_total.trans x y z first rest.0, below_all x y zs first rest.1)

-- where each key is below the next, each is below all after it
pub sorted_from_rises : {X : Type 0} (key : X → List ℕ) (xs : List X) → rises key xs ≡ true → IsStrictlySortedBy bytes_cmp (map key xs)
unfolding IsStrictlySortedBy
sorted_from_rises key [] up = tt
sorted_from_rises key (x ∷ []) up = (tt, tt)
sorted_from_rises key (x ∷ y ∷ ys) up =
    let parts : (is_below (key x) (key y) ≡ true) × (rises key (y ∷ ys) ≡ true) = both (is_below (key x) (key y)) (rises key (y ∷ ys)) up in
    let first : bytes_cmp (key x) (key y) ≡ Less = less (bytes_cmp (key x) (key y)) parts.0 in
    let rest = sorted_from_rises key (y ∷ ys) parts.1 in
    ((first, below_all (key x) (key y) (map key ys) first rest.0), rest)

names_in_order : (parts : Parts) → in_order parts ≡ true → rises (λ (output : Output). output.name) parts.outputs ≡ true
names_in_order parts up = (both _ _ (both _ _ (both _ _ (both _ _ up).0).0).0).0

pub names_rise : (check : Bool) (line : List ℕ) (node : LineNode) → IsLine check line node → IsStrictlySortedBy bytes_cmp node.output_names
names_rise check line node is =
    let parts = is.is_node.parts in
    let tells = is.is_node.tells in
    subst (λ (names : List (List ℕ)). IsStrictlySortedBy bytes_cmp names) (sym tells.has.output_names) (sorted_from_rises (λ (output : Output). output.name) parts.outputs (names_in_order parts tells.derives.spells.spelled.1))
