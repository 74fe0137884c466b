use Rattle.std.proofs.Common.{◌∙◌, ℕ, List, refl, subst}
use Rattle.std.specs.List.{Contains}
use Rattle.nd_path.proofs.Searches.{found_at, not_found}
use Rattle.nd_path.proofs.path_set.PathSet.contains.Goals as goal

pub returns-in-Ok : goal.returns-in-Ok
returns-in-Ok c =
    let there = found_at c.deref.result.now c.args.path.now c.in-Ok.field-0 c.in-Ok.ensures.bound (c.in-Ok.ensures.ok c.args.path.now) in
    (λ _. subst (λ (items : List (List ℕ)). Contains items c.args.path.now) (c.deref.ensures.value ∙ c.self.view_is) there, λ _. refl)

pub returns-in-Err : goal.returns-in-Err
returns-in-Err c = (
  λ h. cc,
  λ h. absurd (not_found c.self.inside.items.items c.args.path.now c.in-Err.field-0 c.self.invariant
      (rw c.deref.ensures.value at c.in-Err.ensures.position) (rw (← c.self.view_is) at h)),
)
