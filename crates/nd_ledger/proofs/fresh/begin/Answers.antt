use Rattle.std.proofs.Common.{◌≡◌, ◌+◌, ◌≤◌, ℕ, List, [], length, reverse, refl, sym, ap, subst, ◌∙◌, arith}
use Rattle.nd_machines.specs.Builders.{Builder}
use Rattle.nd_choose.specs.Best.{jobs_at}
use Rattle.nd_history.specs.declared.entry.Entry.{Entry}
use Rattle.nd_history.specs.Premises.{Premises, premises_of}
use Rattle.nd_history.specs.Legal.{IsLegal}
use Rattle.nd_ledger.specs.Inner.{room_for}
use Rattle.nd_provision.specs.Stored.{AreStored}
use Rattle.nd_failure.specs.Progress.{Progress}
use Rattle.nd_history.specs.Marks.{AreMarked}
use Rattle.nd_history.proofs.Marking.{marked_first}
use Rattle.nd_kinds.specs.Kinds.{AreKinds}
use Rattle.nd_pump.specs.Vacancies.{AreAllVacant}
use Rattle.nd_pump.proofs.Following.{turns_fresh}
use Rattle.nd_ledger.proofs.Tickets.{small_park}
use Rattle.nd_ledger.proofs.fresh.begin.Goals as goal

pub invariant_of-result : goal.invariant_of-result
invariant_of-result c =
    let parts = c.args.parts in
    let i : Premises = premises_of (record { graph = parts.graph; machines = c.new.result; local = parts.local; info = parts.info; keep_going = parts.keep_going }) in
    let state = c.args.state in
    let fresh = c.requires.fresh in
    let empty = fresh.entries in
    let same : length c.new.result ≡ length parts.machines.items = ap (λ (xs : List Builder). length xs) c.new.ensures in
    let sized = parts.machines.ok.0 in
    let P : List Entry → Type 0 = λ es. IsLegal i (reverse es) in
    let Q : List Entry → Type 0 = λ es. room_for (reverse es) ≤ state.book.room in
    let S : List Entry → Type 0 = λ es. AreMarked i (reverse es) state.board in
    let T : Progress → Type 0 = λ p. AreMarked i [] p in
    let R : List Entry → Type 0 = λ es. AreStored i (reverse es) c.args.stores in
    let J : List Builder → Type 0 = λ ms. (p : ℕ) → jobs_at ms p ≤ 65535 in
    let K : List Builder → Type 0 = λ ms. AreKinds ms parts.local parts.graph.needs state.turns.kinds in
    let V : List Builder → Type 0 = λ ms. AreAllVacant (length ms) state.turns.vacant in
    let whole = sym c.new.ensures in
    let builders = c.as_slice.ensures.value ∙ whole in
    let few = c.requires.few in
    let park = fresh.park in
    record {
      legal = subst P (sym empty) tt;
      room = subst Q (sym empty) fresh.room;
      sound = c.requires.sound;
      drvs = fresh.drvs;
      park = fresh.park ∙ ap (λ (xs : List Builder). length xs + 1) whole;
      few = omega arith;
      small = small_park i (subst J builders c.learn_jobs.ensures.builders) c.learn_jobs.ensures.local;
      stores = subst R (sym empty) (c.requires.stores.tells i refl same refl);
      marked = subst S (sym empty) (subst T (sym fresh.board) (marked_first i));
      turns =
          turns_fresh i (reverse state.book.entries) state.board state.turns fresh.whole
          (subst K whole fresh.kinds) fresh.listed fresh.parked (subst V whole fresh.vacant);
    }
