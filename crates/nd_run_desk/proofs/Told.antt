-- Lemmas on what a stop tells of a run.
use Rattle.std.proofs.Common.{◌≡◌, ℕ, Bool, true, false, ◌&&◌, ◌||◌, if◌then◌else◌, List, [], ◌∷◌, ◌++◌, length, drop, reverse, Some, refl, sym, ap, ◌∙◌, subst, arith, length-append}
use Rattle.std.proofs.lemmas.List.{drop-append-le, reverse-append}
use Rattle.std.specs.List.{list_any, list_all, filter_map}
use Rattle.nd_history.specs.declared.entry.Entry.{Entry}
use Rattle.nd_history.specs.declared.entry.Entry.TheVariants.{Chosen, NoBuilder, Started, Down, Built, Failed, Stop, Drain, Enable}
use Rattle.nd_history.specs.Premises.{Premises}
use Rattle.nd_history.specs.History.{has_stop, is_stop}
use Rattle.nd_history.specs.Pumping.{step_drv, ArePumpSteps, HasPumped}
use Rattle.nd_ledger.specs.Worlds.{World}
use Rattle.nd_receipts.specs.Made.{is_made, is_quiet}
use Rattle.nd_run_desk.specs.Abandoned.{given_up_at, stop_after, last_entries, places_of}
use Rattle.nd_run_desk.specs.Steps.{StopsAreTold}

-- ---- tests of lists that are put together

either_append : {X : Type 0} (p : X → Bool) (xs ys : List X) → list_any p (xs ++ ys) ≡ (list_any p xs || list_any p ys)
either_append p [] ys = refl
either_append p (x ∷ xs) ys = by (p x) (either_append p xs ys)
  where
    by : (b : Bool) → list_any p (xs ++ ys) ≡ (list_any p xs || list_any p ys) → (b || list_any p (xs ++ ys)) ≡ ((b || list_any p xs) || list_any p ys)
    by true h = refl
    by false h = h

both_append : {X : Type 0} (p : X → Bool) (xs ys : List X) → list_all p (xs ++ ys) ≡ (list_all p xs && list_all p ys)
both_append p [] ys = refl
both_append p (x ∷ xs) ys = by (p x) (both_append p xs ys)
  where
    by : (b : Bool) → list_all p (xs ++ ys) ≡ (list_all p xs && list_all p ys) → (b && list_all p (xs ++ ys)) ≡ ((b && list_all p xs) && list_all p ys)
    by true h = h
    by false h = refl

neither : (a b : Bool) → (a || b) ≡ false → a ≡ false
neither true b h = h
neither false b h = refl

or_true : (b : Bool) → (b || true) ≡ true
or_true true = refl
or_true false = refl

any_reverse : {X : Type 0} (p : X → Bool) (xs : List X) → list_any p (reverse xs) ≡ true → list_any p xs ≡ true
any_reverse p [] h = h
any_reverse p (x ∷ xs) h = by (any_reverse p xs) (p x) refl
  where
    turned : (list_any p (reverse xs) || list_any p (x ∷ [])) ≡ true
    turned = sym (either_append p (reverse xs) (x ∷ [])) ∙ ap (list_any p) (sym (reverse-append (x ∷ []) xs)) ∙ h

    rest : (a b : Bool) → (a || (b || false)) ≡ true → b ≡ false → a ≡ true
    rest true b g n = refl
    rest false true g n = sym n ∙ refl
    rest false false g n = g

    by : (list_any p (reverse xs) ≡ true → list_any p xs ≡ true) → (b : Bool) → p x ≡ b → (b || list_any p xs) ≡ true
    by earlier true is = refl
    by earlier false is = earlier (rest (list_any p (reverse xs)) (p x) turned is)

-- ---- what a run adds

-- quiet entries
told_quiet : (o a b : World) (new : List Entry) → StopsAreTold o a → b.history ≡ a.history ++ new → list_all is_quiet new ≡ true → StopsAreTold o b
told_quiet o a b new told grown quiet = record {
  long = (let size = ap length grown ∙ length-append a.history new in let before = told.long in omega arith);
  quiet = λ none.
      let earlier : list_any is_stop a.history ≡ false = neither (list_any is_stop a.history) (list_any is_stop new) (sym (either_append is_stop a.history new) ∙ ap (list_any is_stop) (sym grown) ∙ none) in
      ap (λ h. list_all is_quiet (drop (length o.history) h)) grown
      ∙ ap (list_all is_quiet) (drop-append-le (length o.history) a.history new told.long)
      ∙ both_append is_quiet (drop (length o.history) a.history) new
      ∙ ap (λ x. x && list_all is_quiet new) (told.quiet earlier)
      ∙ quiet;
}

-- entries behind which a stop stands
told_stopped : (o a b : World) (new : List Entry) → StopsAreTold o a → b.history ≡ a.history ++ new → list_any is_stop b.history ≡ true → StopsAreTold o b
told_stopped o a b new told grown stops = record {
  long = (let size = ap length grown ∙ length-append a.history new in let before = told.long in omega arith);
  quiet = λ none. absurd (cc (stops, none));
}

pub told_first : (o w : World) → o ≡ w → StopsAreTold o w
told_first o w same =
    let P : World → Type 0 = λ x. StopsAreTold o x in
    subst P same (record { long = omega arith; quiet = λ none. ap (list_all is_quiet) (past_all o.history) })
  where
    past_all : (es : List Entry) → drop (length es) es ≡ []
    past_all [] = refl
    past_all (e ∷ es) = past_all es

-- one entry that a worker made
made_quiet : (e : Entry) → is_made e ≡ true → list_all is_quiet (e ∷ []) ≡ true
made_quiet (Chosen d m s) is = absurd (cc)
made_quiet (NoBuilder d) is = absurd (cc)
made_quiet (Started d paths) is = refl
made_quiet (Down d) is = refl
made_quiet (Built d refs) is = refl
made_quiet (Failed d why) is = ap (λ b. b && true) is
made_quiet Stop is = absurd (cc)
made_quiet (Drain m) is = absurd (cc)
made_quiet (Enable m) is = absurd (cc)

pub told_made : (o a b : World) (e : Entry) → StopsAreTold o a → b ≡ record a { history = a.history ++ e ∷ [] } → is_made e ≡ true → StopsAreTold o b
told_made o a b e told grown is = told_quiet o a b (e ∷ []) told (ap (λ (w : World). w.history) grown) (made_quiet e is)

-- steps of a pump
step_quiet : (d : ℕ) (e : Entry) → step_drv e ≡ Some d → is_quiet e ≡ true
step_quiet d (Chosen e m s) about = refl
step_quiet d (NoBuilder e) about = refl
step_quiet d (Started e paths) about = refl
step_quiet d (Down e) about = refl
step_quiet d (Built e refs) about = refl
step_quiet d (Failed e why) about = absurd (cc)
step_quiet d Stop about = absurd (cc)
step_quiet d (Drain m) about = absurd (cc)
step_quiet d (Enable m) about = absurd (cc)

steps_quiet : (i : Premises) (history steps : List Entry) → ArePumpSteps i history steps → list_all is_quiet steps ≡ true
steps_quiet i history [] h = refl
steps_quiet i history (e ∷ steps) h = ap (λ b. b && list_all is_quiet steps) (step_quiet h.0.drv e h.0.step.about) ∙ steps_quiet i (history ++ e ∷ []) steps h.1

pub told_pumped : (o a b : World) → StopsAreTold o a → HasPumped a.inputs a.history b.history → StopsAreTold o b
told_pumped o a b told pumped = told_quiet o a b pumped.steps told pumped.grown (steps_quiet a.inputs a.history pumped.steps pumped.each)

-- the ends of leases that no worker serves, behind a stop
stop_stands : (history ends : List Entry) → list_any is_stop (history ++ (stop_after (reverse history) ++ ends)) ≡ true
stop_stands history ends = by (has_stop (reverse history)) refl
  where
    by : (b : Bool) → has_stop (reverse history) ≡ b → list_any is_stop (history ++ ((if b then [] else Stop ∷ []) ++ ends)) ≡ true
    by true is = either_append is_stop history ends ∙ ap (λ x. x || list_any is_stop ends) (any_reverse is_stop history is)
    by false is = either_append is_stop history (Stop ∷ ends) ∙ or_true (list_any is_stop history)

pub told_abandoned : (o a b : World) (manned : List (ℕ × ℕ)) → StopsAreTold o a → b ≡ record a { history = a.history ++ last_entries a.inputs manned (reverse a.history) } → StopsAreTold o b
told_abandoned o a b manned told grown =
    let new = last_entries a.inputs manned (reverse a.history) in
    let longer : b.history ≡ a.history ++ new = ap (λ (w : World). w.history) grown in
    told_stopped o a b new told longer (ap (list_any is_stop) longer ∙ stop_stands a.history (filter_map (given_up_at manned (reverse a.history)) (places_of a.inputs)))
