-- A board follows a history: after one more entry it says of the longer history what it said of the one before.
use Rattle.std.proofs.Common.{◌≡◌, ℕ, ◌<◌, Bool, true, false, not, ◌==◌, ◌&&◌, ◌||◌, if◌then◌else◌, List, [], ◌∷◌, length, get_or, set, refl, sym, ap, ◌∙◌, subst, arith, inl, inr, eq-eqb, get_or-set_other, get_or-set_same, length-set}
use Rattle.std.proofs.lemmas.Bool.{cases_eq, ne_eqb}
use Rattle.std.proofs.lemmas.List.{length-replicate}
use Rattle.nd_graph.specs.Graphs.{rows_of}
use Rattle.nd_failure.specs.declared.status.Mark.{Mark}
use Rattle.nd_failure.specs.declared.status.Mark.TheVariants.{Free, Leased, Built as BuiltMark, Failed as FailedMark}
use Rattle.nd_failure.specs.Progress.{Progress, untouched}
use Rattle.nd_failure.proofs.BoardFacts.{mark_of-fresh}
use Rattle.nd_history.specs.declared.entry.Entry.{Entry}
use Rattle.nd_history.specs.declared.entry.Why.{Why}
use Rattle.nd_history.specs.declared.entry.Entry.TheVariants.{Chosen, NoBuilder, Started, Down, Built, Failed, Stop, Drain, Enable}
use Rattle.nd_history.specs.Premises.{Premises}
use Rattle.nd_history.specs.History.{live, is_built, is_failed, is_leased, has_stop}
use Rattle.nd_history.specs.Standing.{drvs_in, IsReady}
use Rattle.nd_history.specs.Legal.{IsLegal, IsAllowed}
use Rattle.nd_history.specs.Marks.{mark_in, AreMarked, board_after}
use Rattle.nd_history.proofs.Legality.{gone, leased_fresh}

-- one mark was set
pub marked_set : (i : Premises) (past : List Entry) (p : Progress) (e : Entry) (d : ℕ) (mark : Mark) → AreMarked i past p → d < drvs_in i → has_stop (e ∷ past) ≡ has_stop past → mark_in (e ∷ past) d ≡ mark → ((k : ℕ) → (k ≡ d → ⊥) → mark_in (e ∷ past) k ≡ mark_in past k) → AreMarked i (e ∷ past) (record p { marks = set p.marks d mark })
marked_set i past p e d mark was lt stop here others = record {
  inputs = was.inputs;
  keep_going = was.keep_going;
  stop = was.stop ∙ sym stop;
  sized = length-set p.marks d mark ∙ was.sized;
  marks = λ k in_row.
      elim (cases_eq k d) [
        | inl same ↦
            let room : d < length p.marks = omega (arith, was.sized) in
            let P : ℕ → Type 0 = λ x. get_or (set p.marks d mark) x Free ≡ mark_in (e ∷ past) x in
            subst P (sym same) (get_or-set_same p.marks d mark Free room ∙ sym here)
        | inr other ↦ get_or-set_other p.marks d k mark Free other ∙ was.marks k in_row ∙ sym (others k other)
      ];
}

-- no mark changes
pub marked_same : (i : Premises) (past : List Entry) (p : Progress) (e : Entry) → AreMarked i past p → has_stop (e ∷ past) ≡ has_stop past → ((k : ℕ) → mark_in (e ∷ past) k ≡ mark_in past k) → AreMarked i (e ∷ past) p
marked_same i past p e was stop same = record {
  inputs = was.inputs;
  keep_going = was.keep_going;
  stop = was.stop ∙ sym stop;
  sized = was.sized;
  marks = λ k in_row. was.marks k in_row ∙ sym (same k);
}

pub marked_stop : (i : Premises) (past : List Entry) (p : Progress) → AreMarked i past p → AreMarked i (Stop ∷ past) (record p { stop = true })
marked_stop i past p was = record { inputs = was.inputs; keep_going = was.keep_going; stop = refl; sized = was.sized; marks = was.marks }

of_flags : Bool → Bool → Bool → Mark
of_flags built failed leased = if built then BuiltMark else if failed then FailedMark else if leased then Leased else Free

leased_now : (b f l o : Bool) → b ≡ false → f ≡ false → l ≡ true → of_flags b f (l || o) ≡ Leased
unfolding of_flags
leased_now b f l o x y z = rw (x, y, z) refl

pub marked_chosen : (i : Premises) (past : List Entry) (p : Progress) (d m s : ℕ) → AreMarked i past p → IsReady i past d → AreMarked i (Chosen d m s ∷ past) (record p { marks = set p.marks d Leased })
unfolding of_flags
marked_chosen i past p d m s was ready =
    marked_set i past p (Chosen d m s) d Leased was ready.node refl
    (leased_now (is_built d past) (is_failed d past) (d == d) (is_leased d past) ready.waiting.free.unbuilt ready.waiting.free.unfailed (eq-eqb d d refl))
    (λ k other. ap (λ (b : Bool). of_flags (is_built k past) (is_failed k past) (b || is_leased k past)) (ne_eqb k d other))

failed_now : (b f o l : Bool) → b ≡ false → f ≡ true → of_flags b (f || o) l ≡ FailedMark
unfolding of_flags
failed_now b f o l x y = rw (x, y) refl

pub marked_nobody : (i : Premises) (past : List Entry) (p : Progress) (d : ℕ) → AreMarked i past p → IsReady i past d → AreMarked i (NoBuilder d ∷ past) (record p { marks = set p.marks d FailedMark })
unfolding of_flags
marked_nobody i past p d was ready =
    marked_set i past p (NoBuilder d) d FailedMark was ready.node refl
    (failed_now (is_built d past) (d == d) (is_failed d past) (is_leased d past) ready.waiting.free.unbuilt (eq-eqb d d refl))
    (λ k other. ap (λ (b : Bool). of_flags (is_built k past) (b || is_failed k past) (is_leased k past)) (ne_eqb k d other))

kept_lease : (k d : ℕ) (past : List Entry) → (k ≡ d → ⊥) → is_leased k (Down d ∷ past) ≡ is_leased k past
kept_lease k d past other = gone k d (live past) ∙ ap (λ (b : Bool). not b && is_leased k past) (ne_eqb k d other)

lost_lease : (d : ℕ) (past : List Entry) → is_leased d (Down d ∷ past) ≡ false
lost_lease d past = gone d d (live past) ∙ ap (λ (b : Bool). not b && is_leased d past) (eq-eqb d d refl)

freed : (b f l : Bool) → b ≡ false → f ≡ false → l ≡ false → of_flags b f l ≡ Free
unfolding of_flags
freed b f l x y z = rw (x, y, z) refl

pub marked_down : (i : Premises) (past : List Entry) (p : Progress) (d : ℕ) → AreMarked i past p → IsLegal i past → is_leased d past ≡ true → d < drvs_in i → AreMarked i (Down d ∷ past) (record p { marks = set p.marks d Free })
unfolding of_flags
marked_down i past p d was legal leased lt =
    let fresh = leased_fresh i past legal d leased in
    marked_set i past p (Down d) d Free was lt refl
    (freed (is_built d past) (is_failed d past) (is_leased d (Down d ∷ past)) fresh.unbuilt fresh.unfailed (lost_lease d past))
    (λ k other. ap (λ (b : Bool). of_flags (is_built k past) (is_failed k past) b) (kept_lease k d past other))

pub marked_failed : (i : Premises) (past : List Entry) (p : Progress) (d : ℕ) (why : Why) → AreMarked i past p → IsLegal i past → is_leased d past ≡ true → d < drvs_in i → AreMarked i (Failed d why ∷ past) (record p { marks = set p.marks d FailedMark })
unfolding of_flags
marked_failed i past p d why was legal leased lt =
    let fresh = leased_fresh i past legal d leased in
    marked_set i past p (Failed d why) d FailedMark was lt refl
    (failed_now (is_built d past) (d == d) (is_failed d past) (is_leased d (Failed d why ∷ past)) fresh.unbuilt (eq-eqb d d refl))
    (λ k other.
    ap (λ (b : Bool). of_flags (is_built k past) (b || is_failed k past) (is_leased k (Failed d why ∷ past))) (ne_eqb k d other)
    ∙ ap (λ (b : Bool). of_flags (is_built k past) (is_failed k past) b) (kept_lease k d past other))

built_now : (o b f l : Bool) → o ≡ true → of_flags (o || b) f l ≡ BuiltMark
unfolding of_flags
built_now o b f l x = rw x refl

pub marked_built : (i : Premises) (past : List Entry) (p : Progress) (d : ℕ) (refs : List (List (List ℕ))) → AreMarked i past p → d < drvs_in i → AreMarked i (Built d refs ∷ past) (record p { marks = set p.marks d BuiltMark })
unfolding of_flags
marked_built i past p d refs was lt =
    marked_set i past p (Built d refs) d BuiltMark was lt refl
    (built_now (d == d) (is_built d past) (is_failed d past) (is_leased d (Built d refs ∷ past)) (eq-eqb d d refl))
    (λ k other.
    ap (λ (b : Bool). of_flags (b || is_built k past) (is_failed k past) (is_leased k (Built d refs ∷ past))) (ne_eqb k d other)
    ∙ ap (λ (b : Bool). of_flags (is_built k past) (is_failed k past) b) (kept_lease k d past other))

-- nothing has happened yet
pub marked_first : (i : Premises) → AreMarked i [] (untouched (rows_of i.graph) i.keep_going)
marked_first i = record {
  inputs = refl;
  keep_going = refl;
  stop = refl;
  sized = length-replicate (drvs_in i) Free;
  marks = λ d lt. mark_of-fresh (drvs_in i) d;
}

-- after one more entry
pub followed : (i : Premises) (past : List Entry) (p : Progress) (e : Entry) → IsLegal i past → AreMarked i past p → IsAllowed i e past → AreMarked i (e ∷ past) (board_after p e)
followed i past p (Chosen d m s) legal was allowed = marked_chosen i past p d m s was allowed.may.ready
followed i past p (NoBuilder d) legal was allowed = marked_nobody i past p d was allowed.may.ready
followed i past p (Started d paths) legal was allowed = marked_same i past p (Started d paths) was refl (λ k. refl)
followed i past p (Down d) legal was allowed = marked_down i past p d was legal allowed.may.live allowed.ranged
followed i past p (Built d refs) legal was allowed = marked_built i past p d refs was allowed.ranged
followed i past p (Failed d why) legal was allowed = marked_failed i past p d why was legal allowed.may allowed.ranged
followed i past p Stop legal was allowed = marked_stop i past p was
followed i past p (Drain m) legal was allowed = marked_same i past p (Drain m) was refl (λ k. refl)
followed i past p (Enable m) legal was allowed = marked_same i past p (Enable m) was refl (λ k. refl)
