-- Each derivation has one status, and the numbers of derivations with each status sum to all.
use Rattle.std.proofs.Common.{◌≡◌, ◌↔◌, IsTrue, ◌==◌, ℕ, zero, suc, ◌<◌, true, false, List, [], ◌∷◌, ◌++◌, length, get_or, Contains, refl, sym, ◌∙◌, ap, subst, arith, inl, inr, eq-eqb, length-append}
use Rattle.std.proofs.lemmas.Bool.{cases_Bool, cases_lt, eqb-true}
use Rattle.std.proofs.Math.Seq.{get_or-append_seam}
use Rattle.std.proofs.lemmas.List.{get_or_default, get_or_append_left}
use Rattle.nd_failure.specs.Statuses.{same_status, count_of, IsTally}
use Rattle.nd_failure.specs.declared.status.Counts.{Counts}
use Rattle.nd_failure.specs.declared.status.Status.{Status}
use Rattle.nd_failure.specs.declared.status.Status.TheVariants.{Waiting, Leased, Built, Failed, Cancelled}
use Rattle.nd_failure.proofs.CountFacts.{count-from_Contains}
use Rattle.nd_failure.proofs.TallyFacts.{total_of-tally, same_itself, passes_somewhere}
use Rattle.nd_history.specs.declared.entry.Entry.{Entry}
use Rattle.nd_history.specs.Premises.{Premises}
use Rattle.nd_history.specs.Headline.{HasOneStatus, CountsSum}
use Rattle.nd_history.specs.Legal.{IsLegal}
use Rattle.nd_history.specs.History.{is_built, is_failed, is_leased}
use Rattle.nd_history.specs.Standing.{drvs_in, IsOpen}
use Rattle.nd_history.specs.Statuses.{HasStatusIn, AreCountsIn, IsFinished}
use Rattle.nd_history.proofs.Doomed.{doomed_or}
use Rattle.nd_history.proofs.Legality.{leased_fresh, built_settled}

-- no derivation has two statuses
pub status_once : (i : Premises) (past : List Entry) → IsLegal i past → (d : ℕ) (s t : Status) → HasStatusIn i past d s → HasStatusIn i past d t → s ≡ t
status_once i past legal d Built Built h k = refl
status_once i past legal d Built Failed h k = let fine = (built_settled i past legal d h).unfailed in cc
status_once i past legal d Built Leased h k = let fine = (leased_fresh i past legal d k).unbuilt in cc
status_once i past legal d Built Cancelled h k = let fine = k.0.unbuilt in cc
status_once i past legal d Built Waiting h k = let fine = k.free.unbuilt in cc
status_once i past legal d Failed Built h k = let fine = (built_settled i past legal d k).unfailed in cc
status_once i past legal d Failed Failed h k = refl
status_once i past legal d Failed Leased h k = let fine = (leased_fresh i past legal d k).unfailed in cc
status_once i past legal d Failed Cancelled h k = let fine = k.0.unfailed in cc
status_once i past legal d Failed Waiting h k = let fine = k.free.unfailed in cc
status_once i past legal d Leased Built h k = let fine = (leased_fresh i past legal d h).unbuilt in cc
status_once i past legal d Leased Failed h k = let fine = (leased_fresh i past legal d h).unfailed in cc
status_once i past legal d Leased Leased h k = refl
status_once i past legal d Leased Cancelled h k = let fine = k.0.unleased in cc
status_once i past legal d Leased Waiting h k = let fine = k.free.unleased in cc
status_once i past legal d Cancelled Built h k = let fine = h.0.unbuilt in cc
status_once i past legal d Cancelled Failed h k = let fine = h.0.unfailed in cc
status_once i past legal d Cancelled Leased h k = let fine = h.0.unleased in cc
status_once i past legal d Cancelled Cancelled h k = refl
status_once i past legal d Cancelled Waiting h k = absurd (k.spared h.1)
status_once i past legal d Waiting Built h k = let fine = h.free.unbuilt in cc
status_once i past legal d Waiting Failed h k = let fine = h.free.unfailed in cc
status_once i past legal d Waiting Leased h k = let fine = h.free.unleased in cc
status_once i past legal d Waiting Cancelled h k = absurd (h.spared k.1)
status_once i past legal d Waiting Waiting h k = refl

-- and each has one
has_status : (i : Premises) (past : List Entry) → IsLegal i past → (d : ℕ) → (s : Status) × HasStatusIn i past d s
has_status i past legal d = elim (cases_Bool (is_built d past)) [
  | inl built ↦ (Built, built)
  | inr unbuilt ↦ (elim (cases_Bool (is_failed d past)) [
    | inl failed ↦ (Failed, failed)
    | inr unfailed ↦ (elim (cases_Bool (is_leased d past)) [
      | inl leased ↦ (Leased, leased)
      | inr unleased ↦
          let free : IsOpen past d = record { unbuilt = unbuilt; unfailed = unfailed; unleased = unleased } in
          elim (doomed_or i past legal d) [
            | inl doomed ↦ (Cancelled, (free, doomed))
            | inr spared ↦ (Waiting, record { free = free; spared = spared })
          ]
    ])
  ])
]

pub one_status : (i : Premises) (past : List Entry) → IsLegal i past → (d : ℕ) → HasOneStatus i past d
one_status i past legal d = let some = has_status i past legal d in record {
  status = some.0;
  has = some.1;
  only = λ other h. status_once i past legal d other some.0 h some.1;
}

-- the statuses of the first n derivations
abbrev first_statuses : (ℕ → Status) → ℕ → List Status
first_statuses of zero = []
first_statuses of (suc n) = first_statuses of n ++ of n ∷ []

as_many : (of : ℕ → Status) (n : ℕ) → length (first_statuses of n) ≡ n
as_many of zero = refl
as_many of (suc n) = length-append (first_statuses of n) (of n ∷ []) ∙ (let before = as_many of n in omega arith)

each_status : (of : ℕ → Status) (n d : ℕ) → d < n → get_or (first_statuses of n) d Waiting ≡ of d
each_status of zero d lt = absurd (omega arith)
each_status of (suc n) d lt = elim (cases_lt d n) [
  | inl before ↦ get_or_append_left (first_statuses of n) (of n ∷ []) Waiting d (let long = as_many of n in omega arith) ∙ each_status of n d before
  | inr last ↦
      let same : d ≡ length (first_statuses of n) = (let long = as_many of n in omega arith) in
      let here : d ≡ n = omega arith in
      ap (λ (k : ℕ). get_or (first_statuses of n ++ of n ∷ []) k Waiting) same ∙ get_or-append_seam (first_statuses of n) (of n) [] Waiting ∙ ap of (sym here)
]

pub counts_sum : (i : Premises) (past : List Entry) → IsLegal i past → CountsSum i past
counts_sum i past legal =
    let of : ℕ → Status = λ d. (one_status i past legal d).status in
    let statuses : List Status = first_statuses of (drvs_in i) in
    let counts : Counts = record {
      waiting = count_of Waiting statuses;
      leased = count_of Leased statuses;
      built = count_of Built statuses;
      failed = count_of Failed statuses;
      cancelled = count_of Cancelled statuses;
    } in
    let tally : IsTally statuses counts = record { waiting = refl; leased = refl; built = refl; failed = refl; cancelled = refl } in
    record {
      one = λ d _. one_status i past legal d;
      counts = counts;
      counted = record {
        statuses = statuses;
        of_drvs = record {
          one_each = as_many of (drvs_in i);
          right = λ d lt. subst (λ (s : Status). HasStatusIn i past d s) (sym (each_status of (drvs_in i) d lt)) (one_status i past legal d).has;
        };
        tally = tally;
      };
      sum = total_of-tally statuses counts tally ∙ as_many of (drvs_in i);
    }

-- ---- what the numbers say

-- a status that no place of the list has
none_there : (statuses : List Status) (s : Status) (k : ℕ) → k < length statuses → count_of s statuses ≡ 0 → get_or statuses k Waiting ≡ s → ⊥
none_there statuses s k lt none is =
    let there : Contains statuses s = (k, lt, get_or_default statuses k s Waiting lt ∙ is) in
    let some = count-from_Contains (same_status s) statuses s there (same_itself s) in
    omega arith

-- where none is counted, no derivation has the status
none_counted : (i : Premises) (past : List Entry) (counts : Counts) → IsLegal i past → (are : AreCountsIn i past counts) → (s : Status) → count_of s are.statuses ≡ 0 → (d : ℕ) → d < drvs_in i → HasStatusIn i past d s → ⊥
none_counted i past counts legal are s none d lt h =
    let long = are.of_drvs.one_each in
    none_there are.statuses s d (omega arith) none (status_once i past legal d (get_or are.statuses d Waiting) s (are.of_drvs.right d lt) h)

-- nothing is counted as waiting, nor as leased
finished_by : (i : Premises) (past : List Entry) (counts : Counts) → IsLegal i past → AreCountsIn i past counts → counts.waiting ≡ 0 → counts.leased ≡ 0 → IsFinished i past
finished_by i past counts legal are waiting leased = record {
  none_waits = none_counted i past counts legal are Waiting (sym are.tally.waiting ∙ waiting);
  none_leased = none_counted i past counts legal are Leased (sym are.tally.leased ∙ leased);
}

same_waiting : (s : Status) → same_status Waiting s ≡ true → s ≡ Waiting
same_waiting Waiting h = refl
same_waiting Leased h = cc
same_waiting Built h = cc
same_waiting Failed h = cc
same_waiting Cancelled h = cc

same_leased : (s : Status) → same_status Leased s ≡ true → s ≡ Leased
same_leased Waiting h = cc
same_leased Leased h = refl
same_leased Built h = cc
same_leased Failed h = cc
same_leased Cancelled h = cc

-- a status that is counted is some derivation's
counted_somewhere : (i : Premises) (past : List Entry) (counts : Counts) → (are : AreCountsIn i past counts) → (s : Status) → 0 < count_of s are.statuses → ((t : Status) → same_status s t ≡ true → t ≡ s) → ((d : ℕ) → d < drvs_in i → HasStatusIn i past d s → ⊥) → ⊥
counted_somewhere i past counts are s some same none =
    let long = are.of_drvs.one_each in
    let at = passes_somewhere (same_status s) are.statuses some in
    let lt : at.0 < drvs_in i = omega (arith, at.1) in
    let P : Status → Type 0 = λ t. HasStatusIn i past at.0 t in
    none at.0 lt (subst P (same (get_or are.statuses at.0 Waiting) (at.2 Waiting)) (are.of_drvs.right at.0 lt))

-- something waits
unfinished_waiting : (i : Premises) (past : List Entry) (counts : Counts) → AreCountsIn i past counts → 0 < counts.waiting → IsFinished i past → ⊥
unfinished_waiting i past counts are some finished = counted_somewhere i past counts are Waiting (subst (λ (n : ℕ). 0 < n) are.tally.waiting some) same_waiting finished.none_waits

-- something is leased
unfinished_leased : (i : Premises) (past : List Entry) (counts : Counts) → AreCountsIn i past counts → 0 < counts.leased → IsFinished i past → ⊥
unfinished_leased i past counts are some finished = counted_somewhere i past counts are Leased (subst (λ (n : ℕ). 0 < n) are.tally.leased some) same_leased finished.none_leased

-- ---- whether the run is over

pub told_waiting : (i : Premises) (past : List Entry) (counts : Counts) → AreCountsIn i past counts → 0 < counts.waiting → IsTrue false ↔ IsFinished i past
told_waiting i past counts are some = (λ h. absurd (let no_way : ⊥ = cc in no_way), λ finished. absurd (unfinished_waiting i past counts are some finished))

pub told_leased : (i : Premises) (past : List Entry) (counts : Counts) → IsLegal i past → AreCountsIn i past counts → counts.waiting ≡ 0 → IsTrue (counts.leased == 0) ↔ IsFinished i past
told_leased i past counts legal are none = (
  λ h. finished_by i past counts legal are none (eqb-true counts.leased 0 h),
  λ finished.
      elim (cases_lt 0 counts.leased) [
        | inl some ↦ absurd (unfinished_leased i past counts are some finished)
        | inr no_more ↦ eq-eqb counts.leased 0 (omega arith)
      ],
)
