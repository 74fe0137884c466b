-- Reading entry by entry gives what the definition gives.
use Rattle.std.proofs.Common.{◌≡◌, ℕ, ◌+◌, true, false, cond, List, [], ◌∷◌, ◌++◌, length, map, refl, sym, ◌∙◌, ap, append_assoc, length-append, eqb, not, ◌==◌}
use Rattle.std.specs.Prelude.{Result, Ok, Err}
use Rattle.std.specs.List.{enumerate_from, flat_map, slice_split}
use Rattle.std.proofs.lemmas.List.Elements.{filter-append}
use Rattle.nd_bytes.specs.Lines.{lines_of, without_empty_end}
use Rattle.nd_machines.specs.declared.machine_error.MachineError.{MachineError}
use Rattle.nd_machines.specs.Builders.{Builder}
use Rattle.nd_machines.specs.FeatureSets.{filled}
use Rattle.nd_machines.specs.BuildersList.{machine, and_then, all_or_first, builders, line_entries}
use Rattle.nd_machines.specs.Adding.{add_all}

append_nil : {A : Type 0} (xs : List A) → xs ++ [] ≡ xs
append_nil [] = refl
append_nil (x ∷ xs) = ap (λ ys. x ∷ ys) (append_nil xs)

-- an empty line at the end has no entry with a field
same_filled : (pieces : List (List ℕ)) → filled (flat_map line_entries (without_empty_end pieces)) ≡ filled (flat_map line_entries pieces)
same_filled [] = refl
same_filled ([] ∷ []) = refl
same_filled ((b ∷ piece) ∷ []) = refl
same_filled (piece ∷ (next ∷ pieces)) =
    filter-append _ (line_entries piece) (flat_map line_entries (without_empty_end (next ∷ pieces)))
    ∙ ap (λ (es : List (List (List ℕ))). filled (line_entries piece) ++ es) (same_filled (next ∷ pieces))
    ∙ sym (filter-append _ (line_entries piece) (flat_map line_entries (next ∷ pieces)))

module _ (this_system : List ℕ) where
  -- the machines of entries that are numbered from `n`
  abbrev numbered : ℕ → List (List (List ℕ)) → Result (List Builder) MachineError
  numbered n es = all_or_first (map (λ e. machine this_system e.0 e.1) (enumerate_from n es))

  abbrev onto : List Builder → Result (List Builder) MachineError → Result (List Builder) MachineError
  onto ms r = and_then (λ ns. Ok (ms ++ ns)) r

  onto_push : (ms : List Builder) (m : Builder) (r : Result (List Builder) MachineError) → onto (ms ++ m ∷ []) r ≡ onto ms (and_then (λ ns. Ok (m ∷ ns)) r)
  onto_push ms m (Ok ns) = ap Ok (append_assoc ms (m ∷ []) ns)
  onto_push ms m (Err e) = refl

  add_all-numbered : (ms : List Builder) (es : List (List (List ℕ))) → add_all this_system ms es ≡ onto ms (numbered (length ms + 1) (filled es))
  unfolding add_all
  add_all-numbered ms [] = ap Ok (sym (append_nil ms))
  add_all-numbered ms (e ∷ es) =
      elim (eqb (length e) 0) as (λ b. cond b (add_all this_system ms es) (and_then (λ m. add_all this_system (ms ++ m ∷ []) es) (machine this_system (length ms + 1) e)) ≡ onto ms (numbered (length ms + 1) (cond (not b) (e ∷ filled es) (filled es)))) [
        | true ↦ add_all-numbered ms es
        | false ↦ elim (machine this_system (length ms + 1) e) as (λ r. and_then (λ m. add_all this_system (ms ++ m ∷ []) es) r ≡ onto ms (and_then (λ m. and_then (λ ns. Ok (m ∷ ns)) (numbered (length ms + 1 + 1) (filled es))) r)) [
          | Ok m ↦ add_all-numbered (ms ++ m ∷ []) es ∙ ap (λ n. onto (ms ++ m ∷ []) (numbered (n + 1) (filled es))) (length-append ms (m ∷ [])) ∙ onto_push ms m (numbered (length ms + 1 + 1) (filled es))
          | Err x ↦ refl
        ]
      ]

  onto_none : (r : Result (List Builder) MachineError) → onto [] r ≡ r
  onto_none (Ok ns) = refl
  onto_none (Err e) = refl

  pub builders-add_all : (text : List ℕ) → builders this_system text ≡ add_all this_system [] (flat_map line_entries (slice_split (λ b. b == 10) text))
  unfolding builders lines_of
  builders-add_all text =
      let cut = flat_map line_entries (slice_split (λ b. b == 10) text) in
      ap (λ (es : List (List (List ℕ))). all_or_first (map (λ e. machine this_system e.0 e.1) (enumerate_from 1 es))) (same_filled (slice_split (λ b. b == 10) text))
      ∙ sym (add_all-numbered [] cut ∙ onto_none (numbered 1 (filled cut)))

  -- ---- a part of the entries, and then the others

  add_all-append : (ms : List Builder) (es fs : List (List (List ℕ))) → add_all this_system ms (es ++ fs) ≡ and_then (λ ns. add_all this_system ns fs) (add_all this_system ms es)
  unfolding add_all
  add_all-append ms [] fs = refl
  add_all-append ms (e ∷ es) fs =
      elim (eqb (length e) 0) as (λ b. cond b (add_all this_system ms (es ++ fs)) (and_then (λ m. add_all this_system (ms ++ m ∷ []) (es ++ fs)) (machine this_system (length ms + 1) e)) ≡ and_then (λ ns. add_all this_system ns fs) (cond b (add_all this_system ms es) (and_then (λ m. add_all this_system (ms ++ m ∷ []) es) (machine this_system (length ms + 1) e)))) [
        | true ↦ add_all-append ms es fs
        | false ↦ elim (machine this_system (length ms + 1) e) as (λ r. and_then (λ m. add_all this_system (ms ++ m ∷ []) (es ++ fs)) r ≡ and_then (λ ns. add_all this_system ns fs) (and_then (λ m. add_all this_system (ms ++ m ∷ []) es) r)) [
          | Ok m ↦ add_all-append (ms ++ m ∷ []) es fs
          | Err x ↦ refl
        ]
      ]

  pub goes_on : (ms ns : List Builder) (es fs : List (List (List ℕ))) → add_all this_system ms es ≡ Ok ns → add_all this_system ms (es ++ fs) ≡ add_all this_system ns fs
  goes_on ms ns es fs read = add_all-append ms es fs ∙ ap (and_then (λ ns. add_all this_system ns fs)) read

  pub ends : (ms : List Builder) (x : MachineError) (es fs : List (List (List ℕ))) → add_all this_system ms es ≡ Err x → add_all this_system ms (es ++ fs) ≡ Err x
  ends ms x es fs read = add_all-append ms es fs ∙ ap (and_then (λ ns. add_all this_system ns fs)) read

  -- no entry
  pub none_left : (ms : List Builder) → add_all this_system ms [] ≡ Ok ms
  unfolding add_all
  none_left ms = refl

  -- one entry, and then the others
  pub goes_on_one : (ms ns : List Builder) (e : List (List ℕ)) (fs : List (List (List ℕ))) → add_all this_system ms (e ∷ []) ≡ Ok ns → add_all this_system ms (e ∷ fs) ≡ add_all this_system ns fs
  goes_on_one ms ns e fs read = goes_on ms ns (e ∷ []) fs read

  pub ends_one : (ms : List Builder) (x : MachineError) (e : List (List ℕ)) (fs : List (List (List ℕ))) → add_all this_system ms (e ∷ []) ≡ Err x → add_all this_system ms (e ∷ fs) ≡ Err x
  ends_one ms x e fs read = ends ms x (e ∷ []) fs read

pub ruleset steps = (builders-add_all, none_left, goes_on, ends, goes_on_one, ends_one)
