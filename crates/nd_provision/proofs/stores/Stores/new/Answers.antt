use Rattle.std.proofs.Common.{◌≡◌, ◌+◌, List, ℕ, [], length, map, true, ap, sym, ◌∙◌, subst, inl, inr}
use Rattle.std.specs.Prelude.{◌↔◌}
use Rattle.std.specs.List.{Contains, flat_map}
use Rattle.std.proofs.lemmas.Bool.{cases_eq}
use Rattle.nd_graph.specs.Graphs.{Nodes}
use Rattle.nd_closure.specs.Closures.{IsReached}
use Rattle.nd_path_numbers.specs.Numbers.{Numbered, AreNumbersOf, AreNumbered}
use Rattle.nd_path_numbers.specs.Held.{Hold, hold_of}
use Rattle.nd_path_numbers.proofs.Growing.{grown_through}
use Rattle.nd_history.specs.References.{IsGiven}
use Rattle.nd_provision.specs.declared.copying.Listing.{Listing}
use Rattle.nd_provision.specs.Stored.{Stored, AreSources, AreSeeds, AreSeedsIn, AreGivenEntries, HasEntered, HasGained, IsNumberedGiven, entry_of}
use Rattle.nd_provision.proofs.Joined.{sources_joined}
use Rattle.nd_provision.proofs.Preparing.{first_numbers, seeds_stay}
use Rattle.nd_provision.proofs.Told.{told_none}
use Rattle.nd_provision.proofs.Storing.{stored_at_first, seeds_in, given_reached}
use Rattle.nd_provision.proofs.stores.Stores.new.Goals as goal

pub returns : goal.returns
returns c =
    let given : List (List ℕ) = c.in_ok-given.given in
    let before : Numbered = c.number_given.new.numbers in
    let after : Numbered = c.enter_all.new.numbers in
    let listings : List Listing = c.in_ok-entries.field-0.entries.items in
    let own : List ℕ = c.in_ok-entries.field-0.own.items in
    let rows : List (List ℕ) = c.in_ok-seeds.seeds in
    let s : Stored = record { entries = c.enter_all.new.listed.entries; spare = c.enter_all.new.listed.spare; numbers = after; seeds = rows; stocks = c.put_all.new.holdings; whole = true } in
    let numbered : IsNumberedGiven c.args.info.now.entries before.paths c.as_slice-2.result.now c.in_ok-entries.field-0 = c.in_ok-entries.ensures.given in
    let listed : AreGivenEntries c.args.info.now.entries given (map entry_of listings) =
    subst (λ (xs : List (List ℕ)). AreGivenEntries c.args.info.now.entries xs (map entry_of listings)) c.as_slice-2.ensures.value numbered.entries in
    let owned : AreNumbersOf before.paths given own = subst (λ (xs : List (List ℕ)). AreNumbersOf before.paths xs own) c.as_slice-2.ensures.value numbered.own in
    let empty_table : c.reserve.new.self.entries ≡ [] = c.in_ok-reserve.ensures.entries ∙ c.in_ok-listed.ensures.entries in
    let entered : HasEntered [] s.entries before after listings = subst (λ (es : List (List ℕ × List (List ℕ))). HasEntered es s.entries before after listings) empty_table c.enter_all.ensures.entered in
    let told : AreNumbered [] before = first_numbers c.in_ok-numbers.numbers before c.in_ok-numbers.ensures.paths c.in_ok-numbers.ensures.rows
    (grown_through c.in_ok-numbers.numbers c.outputs_by_number.new.numbers before c.in_ok-outputs.ensures.grown
    (grown_through c.outputs_by_number.new.numbers c.seeds_by_number.new.numbers before c.in_ok-seeds.ensures.grown c.in_ok-entries.ensures.grown)) in
    let seeds : AreSeedsIn c.args.graph.now before.paths rows = seeds_stay c.args.graph.now c.seeds_by_number.new.numbers before rows c.in_ok-entries.ensures.grown c.in_ok-seeds.ensures.seeds in
    let holds : List Hold = c.reserve_below.new.self in
    let park : length holds ≡ c.args.builders + 1 = c.in_ok-reserve_below.ensures.others.size ∙ c.in_ok-holdings.ensures.machines in
    let none : (m : ℕ) → (hold_of holds m).numbers ≡ [] = λ m. elim (cases_eq m 0) [
      | inl same ↦ subst (λ (k : ℕ). (hold_of holds k).numbers ≡ []) (sym same) (c.in_ok-reserve_below.ensures.kept ∙ c.in_ok-holdings.ensures.empty 0)
      | inr other ↦ ap (λ (h : Hold). h.numbers) (c.in_ok-reserve_below.ensures.others.others m other) ∙ c.in_ok-holdings.ensures.empty m
    ] in
    let gained : HasGained holds s.stocks 0 own = subst (λ (xs : List ℕ). HasGained holds s.stocks 0 xs) c.as_slice-3.ensures.value c.put_all.ensures in
    record {
      tells = λ i graph builders info.
          let sources : AreSources i c.as_slice.result.now =
          subst (λ (xs : List (List ℕ)). AreSources i xs)
          (ap (λ (g : Nodes). flat_map (λ x. x) g.sources) graph ∙ sym c.in_ok-sources.ensures ∙ sym c.as_slice.ensures.value) (sources_joined i) in
          let reached : (p : List ℕ) → Contains given p ↔ IsReached i.info c.as_slice.result.now p =
          subst (λ (t : List (List ℕ × List (List ℕ))). (p : List ℕ) → Contains given p ↔ IsReached t c.as_slice.result.now p) (sym info) c.in_ok-given.ensures.reached in
          let exact : (p : List ℕ) → Contains given p ↔ IsGiven i p = given_reached i c.as_slice.result.now given sources reached in
          let are : AreGivenEntries i.info given (map entry_of listings) = subst (λ (t : List (List ℕ × List (List ℕ))). AreGivenEntries t given (map entry_of listings)) (sym info) listed in
          let kept : AreSeeds i s = seeds_in i s
          (subst (λ (ps : List (List ℕ)). AreSeedsIn i.graph ps rows) (sym entered.paths) (subst (λ (g : Nodes). AreSeedsIn g before.paths rows) (sym graph) seeds))
          (subst (λ (g : Nodes). length rows ≡ length g.paths) (sym graph) c.in_ok-seeds.ensures.all) in
          stored_at_first i given listings before own holds s exact are entered told kept
          (subst (λ (ps : List (List ℕ)). AreNumbersOf ps given own) (sym entered.paths) owned)
          (park ∙ ap (λ (n : ℕ). n + 1) (sym builders)) none gained;
    }

pub enter_all-requires-clause-told : goal.enter_all-requires-clause-told
enter_all-requires-clause-told c =
    let before : Numbered = c.number_given.new.numbers in
    let first : AreNumbered [] before = first_numbers c.in_ok-numbers.numbers before c.in_ok-numbers.ensures.paths c.in_ok-numbers.ensures.rows
    (grown_through c.in_ok-numbers.numbers c.outputs_by_number.new.numbers before c.in_ok-outputs.ensures.grown
    (grown_through c.outputs_by_number.new.numbers c.seeds_by_number.new.numbers before c.in_ok-seeds.ensures.grown c.in_ok-entries.ensures.grown)) in
    told_none c.reserve.new.self before.paths (c.in_ok-reserve.ensures.entries ∙ c.in_ok-listed.ensures.entries) (c.in_ok-reserve.ensures.numbers ∙ c.in_ok-listed.ensures.numbers) first.distinct
