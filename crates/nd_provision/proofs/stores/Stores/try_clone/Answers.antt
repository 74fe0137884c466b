use Rattle.std.proofs.Common.{refl, sym, subst}
use Rattle.nd_path_numbers.specs.Numbers.{Numbered, HasGrown}
use Rattle.nd_path_numbers.proofs.Growing.{grown_none}
use Rattle.nd_provision.specs.Stored.{Stored, IsSameStored}
use Rattle.nd_provision.specs.Told.{AreTold}
use Rattle.nd_provision.proofs.Told.{told_same}
use Rattle.nd_provision.proofs.stores.Stores.try_clone.Goals as goal

pub returns : goal.returns
returns c =
    let s : Stored = record { entries = c.self.inside.listed.entries; spare = c.self.inside.listed.spare; numbers = c.self.inside.numbers; seeds = c.self.inside.seeds; stocks = c.self.inside.holdings; whole = c.self.inside.whole } in
    let copy : Stored = record { entries = c.in_ok-try_clone.field-0.entries; spare = c.in_ok-try_clone.field-0.spare; numbers = c.in_ok-try_clone-2.field-0; seeds = c.in_ok-try_clone-4.field-0; stocks = c.in_ok-try_clone-5.field-0; whole = c.self.inside.whole } in
    subst (λ (x : Stored). IsSameStored x copy) c.self.view_is (record {
      entries = c.in_ok-try_clone.ensures.entries;
      numbers = subst (λ (n : Numbered). HasGrown c.self.inside.numbers n) (sym c.in_ok-try_clone-2.ensures) (grown_none c.self.inside.numbers);
      seeds = c.in_ok-try_clone-4.ensures;
      park = c.in_ok-try_clone-5.ensures.size;
      held = c.in_ok-try_clone-5.ensures.numbers;
      whole = refl;
    })

pub invariant_of-result : goal.invariant_of-result
invariant_of-result c = subst (λ (n : Numbered). AreTold c.in_ok-try_clone.field-0 n.paths) (sym c.in_ok-try_clone-2.ensures)
    (told_same c.self.inside.listed c.in_ok-try_clone.field-0 c.self.inside.numbers.paths c.in_ok-try_clone.ensures.entries c.in_ok-try_clone.ensures.numbers c.self.invariant)
