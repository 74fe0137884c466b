-- What is prepared by number before it is recorded.
use Rattle.std.proofs.Common.{◌≡◌, ℕ, ◌<◌, ◌==◌, Bool, if◌then◌else◌, List, [], ◌∷◌, ◌++◌, length, map, refl, sym, ap, subst, ◌∙◌, arith, inl, inr, IsTrue, eq-eqb}
use Rattle.std.specs.List.{zip}
use Rattle.std.proofs.lemmas.Bool.{cases_lt}
use Rattle.std.proofs.lemmas.List.{get_or_append_left, get_or_push, length-append, length-map}
use Rattle.nd_graph.specs.Graphs.{Nodes}
use Rattle.nd_path_numbers.specs.Numbers.{Numbered, path_in, row_in, AreNumbered, HasGrown}
use Rattle.nd_path_numbers.specs.Held.{hold_of}
use Rattle.nd_path_numbers.proofs.Growing.{known_stay, names_stay, grown_through, numbered_none}
use Rattle.nd_history.specs.Premises.{Premises}
use Rattle.nd_history.specs.References.{outputs_of}
use Rattle.nd_provision.specs.declared.copying.Additions.{Additions}
use Rattle.nd_provision.specs.Stored.{Stored, IsSameStored, AreNeededIn, IsSeedRow, AreSeedsIn, AreRefsHeld, IsProvided, Fits, IsNumberedBuild, HasRoomFor, AreBuiltAdditions, entry_of}

-- ---- seeds

pub seed_row_stays : (graph : Nodes) (old new : Numbered) (d : ℕ) (row : List ℕ) → HasGrown old new → IsSeedRow graph old.paths d row → IsSeedRow graph new.paths d row
seed_row_stays graph old new d row grown is = record {
  known = known_stay old new row grown is.known;
  needed = subst (λ (xs : List (List ℕ)). AreNeededIn graph d xs) (sym (names_stay old new row grown is.known)) is.needed;
}

pub seeds_stay : (graph : Nodes) (old new : Numbered) (rows : List (List ℕ)) → HasGrown old new → AreSeedsIn graph old.paths rows → AreSeedsIn graph new.paths rows
seeds_stay graph old new rows grown are = record { each = λ d lt. seed_row_stays graph old new d (row_in rows d) grown (are.each d lt) }

pub no_seeds : (graph : Nodes) (paths : List (List ℕ)) → AreSeedsIn graph paths []
no_seeds graph paths = record { each = λ d lt. absurd (omega (arith, lt)) }

pub seeds_push : (graph : Nodes) (old new : Numbered) (rows : List (List ℕ)) (d : ℕ) (row : List ℕ) → length rows ≡ d → HasGrown old new → AreSeedsIn graph old.paths rows → IsSeedRow graph new.paths d row → AreSeedsIn graph new.paths (rows ++ row ∷ [])
seeds_push graph old new rows d row size grown are is = record {
  each = λ k lt. elim (cases_lt k (length rows)) [
    | inl before ↦
        let same : row_in (rows ++ row ∷ []) k ≡ row_in rows k = get_or_append_left rows (row ∷ []) [] k before in
        rw same (seed_row_stays graph old new k (row_in rows k) grown (are.each k before))
    | inr past ↦
        let last : k ≡ d = omega (arith, lt, past, size, length-append rows (row ∷ [])) in
        let same : row_in (rows ++ row ∷ []) d ≡ row = get_or_push rows row [] d size in
        rw (last, same) is
  ];
}

-- ---- the first numbers

pub first_numbers : (none n : Numbered) → none.paths ≡ [] → none.rows ≡ [] → HasGrown none n → AreNumbered [] n
first_numbers none n paths rows grown =
    numbered_none n (grown.distinct (rw paths (record { one = λ a b p q same. absurd (omega (arith, p)) })))
    (λ k. grown.rows k ∙ ap (λ (rs : List (List ℕ)). row_in rs k) rows)

-- ---- the same, but for numbers and room

pub same_numbered : (s : Stored) (n : Numbered) → HasGrown s.numbers n → IsSameStored s (record s { numbers = n })
same_numbered s n grown = record { entries = refl; numbers = grown; seeds = refl; park = refl; held = λ m. refl; whole = refl }

pub same_through : (one two three : Stored) → IsSameStored one two → IsSameStored two three → IsSameStored one three
same_through one two three h k = record {
  entries = k.entries ∙ h.entries;
  numbers = grown_through one.numbers two.numbers three.numbers h.numbers k.numbers;
  seeds = k.seeds ∙ h.seeds;
  park = k.park ∙ h.park;
  held = λ m. k.held m ∙ h.held m;
  whole = k.whole ∙ h.whole;
}

-- ---- the end of a build

none_brought : (paths : List (List ℕ)) (m : ℕ) (outputs : List (List ℕ)) (numbers : List ℕ) → map (path_in paths) numbers ≡ (if m == 0 then [] else outputs) → m ≡ 0 → length numbers ≡ 0
none_brought paths m outputs numbers is zero_m =
    sym (length-map numbers (path_in paths)) ∙ ap (λ (xs : List (List ℕ)). length xs) (is ∙ ap (λ (b : Bool). if b then [] else outputs) (eq-eqb m 0 zero_m))

pub fits_build : (mid new : Stored) (m : ℕ) (outputs : List (List ℕ)) (refs : List (List (List ℕ))) (a : Additions) → m < length mid.stocks → IsNumberedBuild mid.numbers.paths m outputs refs a → IsSameStored mid new → new.numbers ≡ mid.numbers → HasRoomFor new a
    → IsProvided mid m a.own.items a.entries.items a.provided → Fits new a
fits_build mid new m outputs refs a within is same numbers room provided =
    let machine : a.machine ≡ m = is.machine in
    let park : length new.stocks ≡ length mid.stocks = same.park in
    record {
      machine = omega (arith, within, machine, park);
      local = omega (arith, within, park);
      entries = room.entries;
      own = room.own;
      brought = room.brought;
      alone = λ first. none_brought mid.numbers.paths m outputs a.brought.items is.brought.named (sym machine ∙ first);
      listings = rw numbers is.listed;
      own_known = rw numbers is.own.known;
      brought_known = rw numbers is.brought.known;
      provided = record { held = λ told has. rw (same.entries, numbers, machine) (held (subst (λ (n : Numbered). AreNumbered mid.entries n) numbers (subst (λ (es : List (List ℕ × List (List ℕ))). AreNumbered es new.numbers) same.entries told)) has) };
    }
  where
    held : AreNumbered mid.entries mid.numbers → IsTrue a.provided → AreRefsHeld (mid.entries ++ map entry_of a.entries.items) (map (path_in mid.numbers.paths) a.own.items) (map (path_in mid.numbers.paths) (hold_of new.stocks m).numbers)
    held told has = subst (λ (ns : List ℕ). AreRefsHeld (mid.entries ++ map entry_of a.entries.items) (map (path_in mid.numbers.paths) a.own.items) (map (path_in mid.numbers.paths) ns)) (sym (same.held m)) (provided.held told has)

pub build_adds : (i : Premises) (mid new : Stored) (d m : ℕ) (refs : List (List (List ℕ))) (outputs : List (List ℕ)) (a : Additions) → outputs ≡ outputs_of i d → IsNumberedBuild mid.numbers.paths m outputs refs a → new.numbers ≡ mid.numbers → AreBuiltAdditions i new d m refs a
build_adds i mid new d m refs outputs a at is numbers = record {
  machine = is.machine;
  entries = is.entries ∙ ap (λ (xs : List (List ℕ)). zip xs refs) at;
  own = rw numbers (is.own.named ∙ at);
  brought = rw numbers (is.brought.named ∙ ap (λ (xs : List (List ℕ)). if m == 0 then [] else xs) at);
}
