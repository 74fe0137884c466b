-- What a queue keeps, after each change of it.
use Rattle.std.proofs.Common.{◌≡◌, ◌<◌, ℕ, Bool, true, false, List, None, Some, length, Vec, Global, sym, ◌∙◌, subst, arith}
use Rattle.std.proofs.Math.ListN.{set, length-set}
use Rattle.nd_flags.proofs.RowFacts.{IsMember-within}
use Rattle.nd_pump.specs.Grouped.{group_in, Readied, IsFirstReadyIn}
use Rattle.nd_pump.specs.Queues.{IsDue}
use Rattle.nd_pump.specs.QueueKept.{queued, IsKept, AreHeaded}
use Rattle.nd_pump.specs.declared.queue.Queue.TheInside.{Inside}
use Rattle.nd_pump.proofs.QueueFacts.{added, removed_others, woken_others, flagged_more, none_of, unflagged}

pub kept_added : (q : Inside) (r : Readied) (h : List Bool) (d : ℕ) → d < length q.grouped.groups
    → r ≡ record q.grouped { ready = set q.grouped.ready d true } → h ≡ set q.heads d true
    → IsKept q → IsKept (record q { grouped = r; heads = h })
kept_added q r h d node is_put is_flagged kept =
    subst (λ (r : Readied). IsKept (record q { grouped = r; heads = h })) (sym is_put)
    (subst (λ (h : List Bool). IsKept (record q { grouped = record q.grouped { ready = set q.grouped.ready d true }; heads = h })) (sym is_flagged)
    (record {
      groups = kept.groups;
      ready = length-set q.grouped.ready d true ∙ kept.ready;
      sized = length-set q.heads d true ∙ kept.sized;
      headed = added (queued q) q.heads d (omega (arith, kept.ready, node)) (omega (arith, kept.sized, node)) kept.headed;
    }))

pub kept_removed : (q : Inside) (r : Readied) (h : List Bool) (d f : ℕ) → d < length q.grouped.groups
    → r ≡ record q.grouped { ready = set q.grouped.ready d false } → IsFirstReadyIn r (group_in q.grouped.groups d) (Some f)
    → h ≡ set (set q.heads d false) f true
    → IsKept q → IsKept (record q { grouped = r; heads = h })
kept_removed q r h d f node is_put first is_flagged kept =
    let after : Readied = record q.grouped { ready = set q.grouped.ready d false } in
    let found : IsFirstReadyIn after (group_in q.grouped.groups d) (Some f) =
    subst (λ (r : Readied). IsFirstReadyIn r (group_in q.grouped.groups d) (Some f)) is_put first in
    let in_ready : d < length q.grouped.ready = omega (arith, kept.ready, node) in
    let in_heads : f < length (set q.heads d false) =
    omega (arith, IsMember-within after.ready f found.ready.ready, length-set q.grouped.ready d false, length-set q.heads d false, kept.ready, kept.sized) in
    subst (λ (r : Readied). IsKept (record q { grouped = r; heads = h })) (sym is_put)
    (subst (λ (h : List Bool). IsKept (record q { grouped = after; heads = h })) (sym is_flagged)
    (record {
      groups = kept.groups;
      ready = length-set q.grouped.ready d false ∙ kept.ready;
      sized = length-set (set q.heads d false) f true ∙ (length-set q.heads d false ∙ kept.sized);
      headed = flagged_more (record (queued q) { ready = after.ready }) (set q.heads d false) q.grouped.count (group_in q.grouped.groups d) f in_heads found
          (removed_others (queued q) q.heads d in_ready kept.headed);
    }))

pub kept_emptied : (q : Inside) (r : Readied) (h : List Bool) (d : ℕ) → d < length q.grouped.groups
    → r ≡ record q.grouped { ready = set q.grouped.ready d false } → IsFirstReadyIn r (group_in q.grouped.groups d) None
    → h ≡ set q.heads d false
    → IsKept q → IsKept (record q { grouped = r; heads = h })
kept_emptied q r h d node is_put none is_flagged kept =
    let after : Readied = record q.grouped { ready = set q.grouped.ready d false } in
    let found : IsFirstReadyIn after (group_in q.grouped.groups d) None =
    subst (λ (r : Readied). IsFirstReadyIn r (group_in q.grouped.groups d) None) is_put none in
    let in_ready : d < length q.grouped.ready = omega (arith, kept.ready, node) in
    subst (λ (r : Readied). IsKept (record q { grouped = r; heads = h })) (sym is_put)
    (subst (λ (h : List Bool). IsKept (record q { grouped = after; heads = h })) (sym is_flagged)
    (record {
      groups = kept.groups;
      ready = length-set q.grouped.ready d false ∙ kept.ready;
      sized = length-set q.heads d false ∙ kept.sized;
      headed = none_of (record (queued q) { ready = after.ready }) (set q.heads d false) q.grouped.count (group_in q.grouped.groups d) found
          (removed_others (queued q) q.heads d in_ready kept.headed);
    }))

pub kept_woken : (q : Inside) (p : Vec Bool Global) (h : List Bool) (g f : ℕ)
    → p.items ≡ set q.parked.items g false → IsFirstReadyIn q.grouped g (Some f) → h ≡ set q.heads f true
    → IsKept q → IsKept (record q { parked = p; heads = h })
kept_woken q p h g f is_woken first is_flagged kept =
    let in_heads : f < length q.heads = omega (arith, IsMember-within q.grouped.ready f first.ready.ready, kept.ready, kept.sized) in
    subst (λ (h : List Bool). IsKept (record q { parked = p; heads = h })) (sym is_flagged)
    (record {
      groups = subst (λ (xs : List Bool). length xs ≡ q.grouped.count) (sym is_woken) (length-set q.parked.items g false ∙ kept.groups);
      ready = kept.ready;
      sized = length-set q.heads f true ∙ kept.sized;
      headed = subst (λ (xs : List Bool). AreHeaded (record (queued q) { parked = xs }) (set q.heads f true)) (sym is_woken)
          (flagged_more (record (queued q) { parked = set q.parked.items g false }) q.heads q.grouped.count g f in_heads first
          (woken_others (queued q) q.heads g kept.headed));
    })

pub kept_searched : (q : Inside) (h : List Bool) (d : ℕ) → (IsDue (queued q) d → ⊥) → h ≡ set q.heads d false
    → IsKept q → IsKept (record q { heads = h })
kept_searched q h d stale is_lowered kept =
    subst (λ (h : List Bool). IsKept (record q { heads = h })) (sym is_lowered)
    (record {
      groups = kept.groups;
      ready = kept.ready;
      sized = length-set q.heads d false ∙ kept.sized;
      headed = unflagged (queued q) q.heads d stale kept.headed;
    })
