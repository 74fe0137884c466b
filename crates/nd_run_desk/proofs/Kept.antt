-- Lemmas on the references that are kept as wrong, while the history grows.
use Rattle.std.proofs.Common.{◌≡◌, ℕ, suc, zero, ◌<◌, inl, inr, List, [], ◌∷◌, ◌++◌, length, take, reverse, Option, Some, None, slice_get, refl, sym, ap, ◌∙◌, subst, arith, length-append}
use Rattle.std.proofs.lemmas.Bool.{cases_eq}
use Rattle.std.proofs.lemmas.List.{take-append-le, take_at}
use Rattle.nd_history.specs.declared.entry.Entry.{Entry}
use Rattle.nd_history.specs.declared.entry.Entry.TheVariants.{Failed}
use Rattle.nd_history.specs.declared.entry.Why.TheVariants.{BadReferences}
use Rattle.nd_history.specs.Premises.{Premises}
use Rattle.nd_history.specs.Pumping.{HasPumped}
use Rattle.nd_leases.specs.declared.ticket.Ticket.{Ticket}
use Rattle.nd_ledger.specs.declared.refusal.Refusal.TheVariants.{BadReferences as WrongReferences}
use Rattle.nd_ledger.specs.Moves.{IsEndRefused}
use Rattle.nd_ledger.specs.Worlds.{World}
use Rattle.nd_receipts.specs.declared.judging.Misreports.{Misreports}
use Rattle.nd_receipts.specs.Judged.{refused_at, HasNone, HasKept, KeepsSame, AreWrong, AreMisreports}
use Rattle.nd_run_desk.specs.Abandoned.{last_entries}

-- none is kept
pub misreports_none : (w : World) (m : Misreports) → HasNone m → AreMisreports w.inputs w.history m
misreports_none w m none = record {
  within = λ index refs is. absurd (nothing (none.each index) is);
  wrong = λ index d refs is at. absurd (nothing (none.each index) is);
}
  where
    nothing : {X : Type 0} {o : Option X} {x : X} → o ≡ None → o ≡ Some x → ⊥
    nothing a b = cc (a, b)

-- the same is kept
pub misreports_same : (w : World) (m n : Misreports) → AreMisreports w.inputs w.history m → KeepsSame m n → AreMisreports w.inputs w.history n
misreports_same w m n are same = record {
  within = λ index refs is. are.within index refs (sym (same.each index) ∙ is);
  wrong = λ index d refs is at. are.wrong index d refs (sym (same.each index) ∙ is) at;
}

-- what stands at a place of a beginning
pub get_before : {X : Type 0} (xs ys : List X) (k : ℕ) → k < length xs → slice_get (xs ++ ys) k ≡ slice_get xs k
get_before [] ys k lt = absurd (omega arith)
get_before (x ∷ xs) ys zero lt = refl
get_before (x ∷ xs) ys (suc k) lt = get_before xs ys k (omega arith)

get_behind : {X : Type 0} (xs : List X) (x : X) → slice_get (xs ++ x ∷ []) (length xs) ≡ Some x
get_behind [] x = refl
get_behind (y ∷ xs) x = get_behind xs x

-- further entries change nothing
kept_on : (i j : Premises) (old new more : List Entry) (m : Misreports) → AreMisreports i old m → j ≡ i → new ≡ old ++ more → AreMisreports j new m
kept_on i j old new more m are inputs grown =
    let P : Premises → Type 0 = λ k. AreMisreports k new m in
    let Q : List Entry → Type 0 = λ h. AreMisreports i h m in
    subst P (sym inputs) (subst Q (sym grown) (record {
      within = λ index refs is. let lt = are.within index refs is in let size = length-append old more in omega arith;
      wrong = λ index d refs is at.
          let lt : index < length old = are.within index refs is in
          let S : List Entry → Type 0 = λ h. AreWrong i h d refs in
          subst S (sym (take-append-le index old more (omega arith))) (are.wrong index d refs is (sym (get_before old more index lt) ∙ at));
    }))

pub misreports_made : (a b : World) (e : Entry) (m : Misreports) → AreMisreports a.inputs a.history m → b ≡ record a { history = a.history ++ e ∷ [] } → AreMisreports b.inputs b.history m
misreports_made a b e m are grown = kept_on a.inputs b.inputs a.history b.history (e ∷ []) m are (ap (λ (w : World). w.inputs) grown) (ap (λ (w : World). w.history) grown)

pub misreports_pumped : (a b : World) (m : Misreports) → AreMisreports a.inputs a.history m → b.inputs ≡ a.inputs → HasPumped a.inputs a.history b.history → AreMisreports b.inputs b.history m
misreports_pumped a b m are inputs pumped = kept_on a.inputs b.inputs a.history b.history pumped.steps m are inputs pumped.grown

pub misreports_abandoned : (a b : World) (manned : List (ℕ × ℕ)) (m : Misreports) → AreMisreports a.inputs a.history m → b ≡ record a { history = a.history ++ last_entries a.inputs manned (reverse a.history) } → AreMisreports b.inputs b.history m
misreports_abandoned a b manned m are grown =
    kept_on a.inputs b.inputs a.history b.history (last_entries a.inputs manned (reverse a.history)) m are (ap (λ (w : World). w.inputs) grown) (ap (λ (w : World). w.history) grown)

-- references are refused, and the failure that says so is recorded
pub misreports_more : (a b : World) (t : Ticket) (refs : List (List (List ℕ))) (index : ℕ) (m n : Misreports) → AreMisreports a.inputs a.history m → HasKept m n index refs → index ≡ length a.history
    → IsEndRefused a.inputs (reverse a.history) t refs WrongReferences → b ≡ record a { history = a.history ++ Failed t.drv BadReferences ∷ [] } → AreMisreports b.inputs b.history n
misreports_more a b t refs index m n are kept last refused grown =
    let i = a.inputs in
    let h = a.history in
    let more : List Entry = Failed t.drv BadReferences ∷ [] in
    let P : World → Type 0 = λ w. AreMisreports w.inputs w.history n in
    subst P (sym grown) (record {
      within = λ k others is. let size = length-append h more in elim (cases_eq k index) [
        | inl same ↦ omega (arith, size, last, same)
        | inr other ↦ let lt = are.within k others (sym (kept.others k other) ∙ is) in omega (arith, size, lt)
      ];
      wrong = λ k d others is at. elim (cases_eq k index) [
        | inl same ↦ here k d others (same ∙ last) (sym (ap (refused_at n) same ∙ kept.here) ∙ is) at
        | inr other ↦ earlier k d others (sym (kept.others k other) ∙ is) at
      ];
    })
  where
    here : (k d : ℕ) (others : List (List (List ℕ))) → k ≡ length a.history → Some refs ≡ Some others → slice_get (a.history ++ Failed t.drv BadReferences ∷ []) k ≡ Some (Failed d BadReferences) → AreWrong a.inputs (take k (a.history ++ Failed t.drv BadReferences ∷ [])) d others
    here k d others same are at =
        let more : List Entry = Failed t.drv BadReferences ∷ [] in
        let entry : Some (Failed t.drv BadReferences) ≡ Some (Failed d BadReferences) = sym (get_behind a.history (Failed t.drv BadReferences)) ∙ ap (slice_get (a.history ++ more)) (sym same) ∙ at in
        let drv : t.drv ≡ d = cc entry in
        let these : refs ≡ others = cc are in
        let S : List Entry → Type 0 = λ past. AreWrong a.inputs past d others in
        let T : ℕ → Type 0 = λ e. AreWrong a.inputs a.history e others in
        let U : List (List (List ℕ)) → Type 0 = λ r. AreWrong a.inputs a.history t.drv r in
        subst S (sym (take_at a.history more k (sym same))) (subst T drv (subst U these (record { never = refused.2 })))

    earlier : (k d : ℕ) (others : List (List (List ℕ))) → refused_at m k ≡ Some others → slice_get (a.history ++ Failed t.drv BadReferences ∷ []) k ≡ Some (Failed d BadReferences) → AreWrong a.inputs (take k (a.history ++ Failed t.drv BadReferences ∷ [])) d others
    earlier k d others is at =
        let more : List Entry = Failed t.drv BadReferences ∷ [] in
        let lt : k < length a.history = are.within k others is in
        let S : List Entry → Type 0 = λ past. AreWrong a.inputs past d others in
        subst S (sym (take-append-le k a.history more (omega (arith, lt)))) (are.wrong k d others is (sym (get_before a.history more k lt) ∙ at))
