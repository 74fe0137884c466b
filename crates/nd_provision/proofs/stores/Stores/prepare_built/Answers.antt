use Rattle.std.proofs.Common.{◌<◌, List, ℕ, length, sym, subst}
use Rattle.nd_provision.specs.declared.copying.Listing.{Listing}
use Rattle.nd_provision.specs.declared.copying.Additions.{Additions}
use Rattle.nd_provision.specs.Stored.{Stored, IsNumberedBuild, IsProvided}
use Rattle.nd_provision.proofs.Preparing.{fits_build}
use Rattle.nd_provision.proofs.Told.{told_grown}
use Rattle.nd_provision.proofs.stores.Stores.prepare_built.Goals as goal

pub returns-clause-fits : goal.returns-clause-fits
returns-clause-fits c =
    let numbered = c.in_ok-additions.ensures.build in
    let entries : List Listing = c.in_ok-additions.additions.entries.items in
    let own : List ℕ = c.in_ok-additions.additions.own.items in
    let additions : Additions = record {
      machine = c.in_ok-additions.additions.machine;
      entries = c.in_ok-additions.additions.entries;
      own = c.in_ok-additions.additions.own;
      brought = c.in_ok-additions.additions.brought;
      provided = c.is_provided.result;
    } in
    let mid : Stored = record {
      entries = c.self.inside.listed.entries;
      spare = c.self.inside.listed.spare;
      numbers = c.number_build.new.numbers;
      seeds = c.self.inside.seeds;
      stocks = c.self.inside.holdings;
      whole = c.self.inside.whole;
    } in
    let within : c.args.m < length mid.stocks = subst (λ (s : Stored). c.args.m < length s.stocks) (sym c.self.view_is) c.requires.machine in
    let build : IsNumberedBuild mid.numbers.paths c.args.m c.outputs-outputs.result.now c.lists.result.now additions =
    record { machine = numbered.machine; entries = numbered.entries; listed = numbered.listed; own = numbered.own; brought = numbered.brought } in
    let provided : IsProvided mid c.args.m own entries c.is_provided.result =
    subst (λ (ls : List Listing). IsProvided mid c.args.m own ls c.is_provided.result) c.as_slice-2.ensures.value
    (subst (λ (ns : List ℕ). IsProvided mid c.args.m ns c.as_slice-2.result.now c.is_provided.result) c.as_slice.ensures.value c.is_provided.ensures) in
    fits_build mid c.make_room.new.self c.args.m c.outputs-outputs.result.now c.lists.result.now additions within build c.make_room.ensures.same c.make_room.ensures.numbers c.in_ok-make_room.ensures.room provided

pub invariant_of-self : goal.invariant_of-self
invariant_of-self c = told_grown c.self.inside.listed c.self.inside.numbers c.number_build.new.numbers c.in_err-additions.ensures.grown c.self.invariant

pub invariant_of-self-2 : goal.invariant_of-self-2
invariant_of-self-2 c = told_grown c.self.inside.listed c.self.inside.numbers c.number_build.new.numbers c.in_ok-additions.ensures.grown c.self.invariant
