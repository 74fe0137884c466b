-- The closure compares each item with the one that is sought.
use Rattle.std.proofs.Common.{rules}
use Rattle.std.proofs.lemmas.Fn.{always_returns_same}
use Rattle.nd_bytes.specs.Compared.{bytes_cmp}
use Rattle.nd_machines.proofs.Sets.{searched}
use Rattle.nd_machines.proofs.feature_set.FeatureSet.contains.Goals as goal

pub returns : goal.returns
returns c =
    let found = searched c.args.item.now c.deref.result.now c.binary_search_by.result
    (rw c.deref.ensures.value c.self.invariant) c.binary_search_by.ensures.bound
    (c.binary_search_by.ensures.position (λ y. bytes_cmp y c.args.item.now) (always_returns_same _ _ _ (λ a r q k. search rules))) in
    rw (c.is_ok.ensures.value, ← c.self.view_is, ← c.deref.ensures.value) found
