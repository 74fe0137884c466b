-- The turns follow a history: after one more entry they say of the longer history what they said of the one before.
use Rattle.std.proofs.Common.{◌≡◌, ◌∙◌, ◌⊎◌, inl, inr, ℕ, suc, true, false, List, ◌∷◌, Option, None, Some, length, sym, subst, arith, slice_get}
use Rattle.std.specs.Prelude.{Contains}
use Rattle.std.proofs.lemmas.Bool.{false≢true}
use Rattle.nd_failure.specs.Progress.{Progress, IsReady}
use Rattle.nd_failure.proofs.SpreadFacts.{row_within}
use Rattle.nd_kinds.specs.declared.kind.Kind.{Kind}
use Rattle.nd_kinds.specs.Kinds.{Kinded, AreKinds, users_of}
use Rattle.nd_history.specs.declared.entry.Entry.{Entry}
use Rattle.nd_history.specs.declared.entry.Entry.TheVariants.{Chosen, NoBuilder, Started, Down, Built, Failed, Stop, Drain, Enable}
use Rattle.nd_history.specs.Premises.{Premises}
use Rattle.nd_history.specs.Standing.{drvs_in}
use Rattle.nd_history.specs.Legal.{IsLegal, IsAllowed, IsInRange}
use Rattle.nd_history.specs.Marks.{AreMarked, board_after}
use Rattle.nd_history.proofs.Boards.{can_follow}
use Rattle.nd_pump.specs.Waiting.{LiesIn}
use Rattle.nd_pump.specs.Turned.{Turned, is_parked, IsWhole, AreListed, AreTurns, HasTurned, IsNews, touched}
use Rattle.nd_pump.specs.Vacancies.{AreAllVacant}
use Rattle.nd_pump.proofs.Waiting.{wait_stays}
use Rattle.nd_pump.proofs.News.{ready_news, IsAboutOne}
use Rattle.nd_pump.proofs.Steady.{steady_but}
use Rattle.nd_pump.proofs.Vacant.{vacant_after, vacant_all}

about_one : (i : Premises) (n : ℕ) (e : Entry) → n ≡ drvs_in i → IsInRange i e → IsAboutOne n e
about_one i n (Chosen d m s) is ranged = let lt = ranged.0 in omega (arith, lt, is)
about_one i n (NoBuilder d) is ranged = omega (arith, ranged, is)
about_one i n (Started d paths) is ranged = tt
about_one i n (Down d) is ranged = omega (arith, ranged, is)
about_one i n (Built d refs) is ranged = omega (arith, ranged, is)
about_one i n (Failed d why) is ranged = omega (arith, ranged, is)
about_one i n Stop is ranged = tt
about_one i n (Drain m) is ranged = tt
about_one i n (Enable m) is ranged = tt

-- what is ready then is listed then
still_listed : (p : Progress) (e : Entry) (machine : Option ℕ) (t new : Turned) → ((k : ℕ) → IsReady (board_after p e) k → IsReady p k ⊎ IsNews (board_after p e) e k) → HasTurned (board_after p e) e machine t new → AreListed p t.queue → AreListed (board_after p e) new.queue
still_listed p e machine t new news turned listed = record {
  each = λ k ready. elim (news k ready) [
    | inl before ↦ turned.kept k (listed.each k before)
    | inr now ↦ turned.listed k now ready
  ];
}

-- the places of a kind lie in the list, since each machine that it may use has its users
kind_lies : (i : Premises) (k : Kinded) (n : ℕ) (kind : Kind) → AreKinds i.machines i.local i.graph.needs k → slice_get k.kinds n ≡ Some kind → LiesIn (length i.machines) kind
kind_lies i k n kind are at = record {
  each = λ p has.
      let lt = row_within k.users (suc p) n (are.users.each n kind at (suc p) has) in
      let park = are.park in
      omega (arith, lt, park);
}

-- no machine of a kind that is passed over then was touched
untouched : (machine : Option ℕ) (e : Entry) (p : Progress) (t new : Turned) (n m : ℕ) → HasTurned p e machine t new → is_parked new n ≡ true → Contains (users_of t.kinds m) n → machine ≡ Some m → ⊥
untouched None e p t new n m turned up uses is = let no_way : ⊥ = cc in no_way
untouched (Some other) e p t new n m turned up uses is =
    let one : other ≡ m = cc in
    let down = turned.woken n (subst (λ (x : ℕ). Contains (users_of t.kinds x) n) (sym one) uses) in
    false≢true (sym down ∙ up)

pub turned_after : (i : Premises) (past : List Entry) (p : Progress) (t new : Turned) (e : Entry) → IsLegal i past → AreMarked i past p → IsAllowed i e past → AreTurns i past p t
    → HasTurned (board_after p e) e (touched e past) t new → IsWhole new → AreTurns i (e ∷ past) (board_after p e) new
turned_after i past p t new e legal marked allowed was turned whole = record {
  whole = whole;
  kinds = subst (AreKinds i.machines i.local i.graph.needs) (sym turned.kinds) was.kinds;
  listed = still_listed p e (touched e past) t new
      (λ k ready. ready_news p e k (can_follow i past p e legal marked allowed) (about_one i (length p.marks) e marked.sized allowed.ranged) ready) turned was.listed;
  waits = record {
    each = λ n kind at up.
        let stood : slice_get t.kinds.kinds n ≡ Some kind = subst (λ (k : Kinded). slice_get k.kinds n ≡ Some kind) turned.kinds at in
        wait_stays i past (e ∷ past) kind (kind_lies i t.kinds n kind was.kinds stood)
        (record { each = λ m may. steady_but i past e m legal allowed (untouched (touched e past) e (board_after p e) t new n m turned up (was.kinds.users.each n kind stood m may)) })
        (was.waits.each n kind stood (turned.parked n up));
  };
  vacant = vacant_after i past e t.vacant new.vacant legal allowed was.vacant turned.opened;
}

-- turns in which no kind is passed over and each builder may have a free slot
pub turns_fresh : (i : Premises) (past : List Entry) (p : Progress) (t : Turned) → IsWhole t → AreKinds i.machines i.local i.graph.needs t.kinds → AreListed p t.queue → ((n : ℕ) → is_parked t n ≡ false) → AreAllVacant (length i.machines) t.vacant → AreTurns i past p t
turns_fresh i past p t whole kinds listed none vacant = record {
  whole = whole;
  kinds = kinds;
  listed = listed;
  waits = record { each = λ n kind at up. absurd (false≢true (sym (none n) ∙ up)) };
  vacant = vacant_all i past t.vacant vacant;
}
