-- What is ready after an entry was ready before it, or is news.
use Rattle.std.proofs.Common.{◌≡◌, ◌∙◌, ◌⊎◌, inl, inr, ℕ, ◌<◌, List, length, get_or, refl, sym, subst, arith, eqb, eq-eqb}
use Rattle.std.specs.Prelude.{Contains}
use Rattle.std.specs.List.{count_by}
use Rattle.std.proofs.Math.ListN.{set}
use Rattle.std.proofs.lemmas.Bool.{cases_eq, cases_lt}
use Rattle.std.proofs.lemmas.List.{get_or-set_same, get_or-set_other}
use Rattle.nd_graph.specs.Walks.{inputs_of}
use Rattle.nd_failure.specs.declared.status.Mark.{Mark}
use Rattle.nd_failure.specs.declared.status.Mark.TheVariants.{Free, Leased, Built as BuiltMark, Failed as FailedMark}
use Rattle.nd_failure.specs.Progress.{Progress, mark_of, IsReady}
use Rattle.nd_failure.proofs.CountFacts.{count-from_Contains, Contains-from_count}
use Rattle.nd_history.specs.declared.entry.Entry.{Entry}
use Rattle.nd_history.specs.declared.entry.Entry.TheVariants.{Chosen, NoBuilder, Started, Down, Built, Failed, Stop, Drain, Enable}
use Rattle.nd_history.specs.Marks.{board_after, CanFollow}
use Rattle.nd_pump.specs.Turned.{IsNews}

-- a mark that was set, and the others
mark_cases : (marks : List Mark) (d k : ℕ) (m : Mark) → d < length marks → (mark_of (set marks d m) k ≡ mark_of marks k) ⊎ ((k ≡ d) × (mark_of (set marks d m) k ≡ m))
mark_cases marks d k m lt = elim (cases_eq k d) [
  | inl same ↦ inr (same, subst (λ (j : ℕ). get_or (set marks d m) j Free ≡ m) (sym same) (get_or-set_same marks d m Free lt))
  | inr apart ↦ inl (get_or-set_other marks d k m Free apart)
]

-- what failed has failed still
failed_still : (marks : List Mark) (d k : ℕ) (m : Mark) → d < length marks → (mark_of marks d ≡ FailedMark → ⊥) → mark_of marks k ≡ FailedMark → mark_of (set marks d m) k ≡ FailedMark
failed_still marks d k m lt unfailed failed = elim (mark_cases marks d k m lt) [
  | inl same ↦ same ∙ failed
  | inr here ↦ absurd (unfailed (subst (λ (j : ℕ). mark_of marks j ≡ FailedMark) here.0 failed))
]

-- where one mark was set, what is ready was ready
ready_back : (p : Progress) (d k : ℕ) (m : Mark) → d < length p.marks → (k ≡ d → m ≡ Free → ⊥) → (Contains (inputs_of p.inputs k) d → m ≡ BuiltMark → ⊥) → (mark_of p.marks d ≡ FailedMark → ⊥)
    → IsReady (record p { marks = set p.marks d m }) k → IsReady p k
ready_back p d k m lt not_freed not_built unfailed ready = record {
  node = ready.node;
  waiting = (
    elim (mark_cases p.marks d k m lt) [
      | inl same ↦ sym same ∙ ready.waiting.0
      | inr here ↦ absurd (not_freed here.0 (sym here.1 ∙ ready.waiting.0))
    ],
    (λ stopped. ready.waiting.1 (elim stopped [
      | inl asked ↦ inl asked
      | inr lost ↦ inr (lost.0, record { node = lost.1.node; failed = failed_still p.marks d lost.1.node m lt unfailed lost.1.failed })
    ])),
    (λ below. ready.waiting.2 (record { node = below.node; below = below.below; failed = failed_still p.marks d below.node m lt unfailed below.failed })),
  );
  inputs_built = record {
    built = λ c has.
        let now = ready.inputs_built.built c has in
        elim (mark_cases p.marks d c m lt) [
          | inl same ↦ sym same ∙ now
          | inr here ↦ absurd (not_built (subst (λ (j : ℕ). Contains (inputs_of p.inputs k) j) here.0 has) (sym here.1 ∙ now))
        ];
  };
}

-- whether a derivation has another one among its inputs
input_or_not : (xs : List ℕ) (c : ℕ) → Contains xs c ⊎ (Contains xs c → ⊥)
input_or_not xs c = elim (cases_lt 0 (count_by (eqb c) xs)) [
  | inl some ↦ inl (Contains-from_count c xs some)
  | inr none ↦ inr (λ has. let some = count-from_Contains (eqb c) xs c has (eq-eqb c c refl) in omega (arith, some, none))
]

ready_free : (p : Progress) (d : ℕ) → IsReady p d → mark_of p.marks d ≡ FailedMark → ⊥
ready_free p d ready failed = let free = ready.waiting.0 in let no_way : ⊥ = cc in no_way

leased_unfailed : (p : Progress) (d : ℕ) → mark_of p.marks d ≡ Leased → mark_of p.marks d ≡ FailedMark → ⊥
leased_unfailed p d leased failed = let no_way : ⊥ = cc in no_way

leased_free : Leased ≡ Free → ⊥
leased_free h = let no_way : ⊥ = cc in no_way

leased_built : Leased ≡ BuiltMark → ⊥
leased_built h = let no_way : ⊥ = cc in no_way

failed_free : FailedMark ≡ Free → ⊥
failed_free h = let no_way : ⊥ = cc in no_way

failed_built : FailedMark ≡ BuiltMark → ⊥
failed_built h = let no_way : ⊥ = cc in no_way

free_built : Free ≡ BuiltMark → ⊥
free_built h = let no_way : ⊥ = cc in no_way

built_free : BuiltMark ≡ Free → ⊥
built_free h = let no_way : ⊥ = cc in no_way

-- what an entry is about lies on the board
abbrev pub IsAboutOne : ℕ → Entry → Type 0
IsAboutOne n (Chosen d m s) = d < n
IsAboutOne n (NoBuilder d) = d < n
IsAboutOne n (Started d paths) = Unit {0}
IsAboutOne n (Down d) = d < n
IsAboutOne n (Built d refs) = d < n
IsAboutOne n (Failed d why) = d < n
IsAboutOne n Stop = Unit {0}
IsAboutOne n (Drain m) = Unit {0}
IsAboutOne n (Enable m) = Unit {0}

pub ready_news : (p : Progress) (e : Entry) (k : ℕ) → CanFollow p e → IsAboutOne (length p.marks) e → IsReady (board_after p e) k → IsReady p k ⊎ IsNews (board_after p e) e k
ready_news p (Chosen d m s) k can lt ready = inl (ready_back p d k Leased lt (λ same. leased_free) (λ has. leased_built) (ready_free p d can) ready)
ready_news p (NoBuilder d) k can lt ready = inl (ready_back p d k FailedMark lt (λ same. failed_free) (λ has. failed_built) (ready_free p d can) ready)
ready_news p (Failed d why) k can lt ready = inl (ready_back p d k FailedMark lt (λ same. failed_free) (λ has. failed_built) (leased_unfailed p d can) ready)
ready_news p (Down d) k can lt ready = elim (cases_eq k d) [
  | inl same ↦ inr same
  | inr apart ↦ inl (ready_back p d k Free lt (λ same. absurd (apart same)) (λ has. free_built) (leased_unfailed p d can) ready)
]
ready_news p (Built d refs) k can lt ready = elim (input_or_not (inputs_of p.inputs k) d) [
  | inl has ↦ inr has
  | inr none ↦ inl (ready_back p d k BuiltMark lt (λ same. built_free) (λ has. absurd (none has)) (leased_unfailed p d can) ready)
]
ready_news p (Started d paths) k can lt ready = inl ready
ready_news p (Drain m) k can lt ready = inl ready
ready_news p (Enable m) k can lt ready = inl ready
ready_news p Stop k can lt ready = absurd (ready.waiting.1 (inl refl))
