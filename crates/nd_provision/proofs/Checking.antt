-- Paths and numbers that are tested against what a machine holds.
use Rattle.std.proofs.Common.{◌≡◌, ℕ, ◌+◌, ◌<◌, Bool, true, false, List, [], ◌∷◌, ◌++◌, length, map, get_or, take, refl, sym, subst, ◌∙◌, arith, IsTrue, true≢false, None}
use Rattle.std.specs.Prelude.{◌↔◌}
use Rattle.std.specs.List.{Contains}
use Rattle.nd_path.specs.PathSets.{HasSameMembers}
use Rattle.nd_provision.proofs.Differences.{passed_over, taken, difference_as_set}
use Rattle.nd_path_numbers.specs.Numbers.{path_in, IsNumberOf, IsLookedUp}
use Rattle.nd_path_numbers.proofs.Searched.{named, has_name}
use Rattle.nd_provision.specs.Stored.{AreNamed, IsOnMachine, Lacks}

pub on_machine : (paths : List (List ℕ)) (held : List ℕ) (p : List ℕ) (n : ℕ) (answer : Bool) → IsNumberOf paths p n → (IsTrue answer ↔ Contains held n) → IsOnMachine paths held p answer
on_machine paths held p n true is tells = subst (λ (x : List ℕ). Contains (map (path_in paths) held) x) is.named (has_name paths held n (tells.0 refl))
on_machine paths held p n false is tells = λ names h.
    let at = named paths held p h in
    let same : at.0 ≡ n = names.distinct.one at.0 n (names.known.each at.0 at.1) is.known (at.2 ∙ sym is.named) in
    true≢false (sym (tells.1 (subst (λ (x : ℕ). Contains held x) same at.1)))

pub off_machine : (paths : List (List ℕ)) (held : List ℕ) (p : List ℕ) → IsLookedUp paths p None → IsOnMachine paths held p false
off_machine paths held p none = λ names h.
    let at = named paths held p h in
    none at.0 (record { known = names.known.each at.0 at.1; named = at.2 })

-- ---- the paths that aren't held

pub lacks_none : (paths : List (List ℕ)) (held : List ℕ) → Lacks paths held [] []
lacks_none paths held = record {
  tells = λ names. record {
    of = λ p h. h;
    lacked = λ p h _. absurd (omega (arith, h.1));
    all = λ p h. absurd (omega (arith, h.1));
  };
}

pub lacks_passed : (paths : List (List ℕ)) (held : List ℕ) (closure lacked : List (List ℕ)) (i : ℕ) (p : List ℕ) → i < length closure → p ≡ get_or closure i p → Lacks paths held (take i closure) lacked → Contains (map (path_in paths) held) p → Lacks paths held (take (i + 1) closure) lacked
lacks_passed paths held closure lacked i p lt at before there = record {
  tells = λ names. passed_over closure (map (path_in paths) held) lacked i p lt at (before.tells names) there;
}

pub lacks_taken : (paths : List (List ℕ)) (held : List ℕ) (closure lacked : List (List ℕ)) (i : ℕ) (p : List ℕ) → i < length closure → p ≡ get_or closure i p → Lacks paths held (take i closure) lacked → (AreNamed paths held → Contains (map (path_in paths) held) p → ⊥) → Lacks paths held (take (i + 1) closure) (lacked ++ p ∷ [])
lacks_taken paths held closure lacked i p lt at before lacks = record {
  tells = λ names. taken closure (map (path_in paths) held) lacked i p lt at (before.tells names) (lacks names);
}

pub lacks_as_set : (paths : List (List ℕ)) (held : List ℕ) (closure lacked set : List (List ℕ)) → Lacks paths held closure lacked → HasSameMembers lacked set → Lacks paths held closure set
lacks_as_set paths held closure lacked set all same = record {
  tells = λ names. difference_as_set closure (map (path_in paths) held) lacked set (all.tells names) same;
}
