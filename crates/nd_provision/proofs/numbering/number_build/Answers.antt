use Rattle.std.proofs.Common.{◌≡◌, List, ℕ, map, refl, ap, if◌then◌else◌, ◌==◌, [], ◌∙◌}
use Rattle.nd_path_numbers.specs.Numbers.{AreNumbersOf}
use Rattle.nd_provision.specs.declared.copying.Listing.{Listing}
use Rattle.nd_provision.specs.Listed.{number_in}
use Rattle.nd_provision.proofs.Listed.{own_listed, brought_listed}
use Rattle.nd_provision.proofs.numbering.number_build.Goals as goal

pub returns-clause-build : goal.returns-clause-build
returns-clause-build c =
    let known : List (List ℕ) = c.list_beside.new.numbers.paths in
    let listings : List Listing = c.in_ok-entries.entries.items in
    let held : c.in_ok-own.own.items ≡ map number_in listings = c.in_ok-own.ensures ∙ ap (map number_in) c.as_slice.ensures.value in
    let own : AreNumbersOf known c.args.outputs.now c.in_ok-own.own.items =
    own_listed known c.args.outputs.now c.args.refs.now listings c.in_ok-own.own.items c.requires c.in_ok-entries.ensures.entries c.in_ok-entries.ensures.listed held in
    record {
      machine = refl;
      entries = c.in_ok-entries.ensures.entries;
      listed = c.in_ok-entries.ensures.listed;
      own = own;
      brought = brought_listed known c.args.outputs.now c.args.m c.in_ok-own.own.items c.in_ok-brought.brought.items own
          (c.in_ok-brought.ensures ∙ ap (λ (ns : List ℕ). if c.args.m == 0 then [] else ns) c.as_slice-2.ensures.value);
    }
