-- What is kept of references and holdings tells the definitions over the history, and follows it.
use Rattle.std.proofs.Common.{◌≡◌, ◌≢◌, ◌⊎◌, ℕ, zero, suc, ◌+◌, ◌<◌, ◌≤◌, Bool, true, false, ◌||◌, ◌&&◌, ◌==◌, if◌then◌else◌, cond, List, [], ◌∷◌, ◌++◌, length, map, refl, sym, ap, subst, ◌∙◌, arith, inl, inr, Option, Some, count_by, eq-eqb}
use Rattle.std.specs.Prelude.{◌↔◌}
use Rattle.std.specs.Bool.{MatchBool}
use Rattle.std.specs.List.{Contains, find, list_any, zip}
use Rattle.std.proofs.lemmas.Bool.{cases_Bool, cases_eq, cases_lt, ne_eqb, eqb-true, or_cases, or_right}
use Rattle.std.proofs.lemmas.Grind.{common_steps}
use Rattle.std.specs.Cmp.Lexicographic.{nat_list_eq_equiv}
use Rattle.std.proofs.lemmas.List.{append-nil, append_assoc, get_or_past}
use Rattle.std.proofs.lemmas.List.Elements.{Contains-append_left, Contains-append_right, Contains-append_cases}
use Rattle.nd_path.specs.StorePath.{path_eq}
use Rattle.nd_path.specs.SamePaths.{paths_same}
use Rattle.nd_path.specs.PathSets.{HasSameMembers}
use Rattle.nd_closure.specs.Tables.{is_listed, refs_of}
use Rattle.nd_closure.specs.Sets.{is_held}
use Rattle.nd_closure.specs.Closures.{IsReached, HoldsAll}
use Rattle.nd_path_numbers.specs.Numbers.{Numbered, path_in, row_in, AreKnown, AreNumbersOf, AreNumbered}
use Rattle.nd_path_numbers.specs.Held.{Hold, hold_of}
use Rattle.nd_path_numbers.specs.Searches.{IsUnheld, FindsUnheld}
use Rattle.nd_path_numbers.proofs.Growing.{known_stay, names_stay, numbered_grown}
use Rattle.nd_path_numbers.proofs.Searched.{named, has_name, last_unheld, walk_reached}
use Rattle.nd_closure.specs.Closures.IsReached.{seed as start, step as onward}
use Rattle.nd_closure.proofs.Members.{member_by_test}
use Rattle.nd_history.specs.declared.entry.Entry.{Entry}
use Rattle.nd_history.specs.declared.entry.Entry.TheVariants.{Started, Built}
use Rattle.nd_leases.specs.declared.ticket.Ticket.{Ticket}
use Rattle.nd_provision.specs.declared.copying.Listing.{Listing}
use Rattle.nd_provision.specs.declared.copying.Additions.{Additions}
use Rattle.nd_provision.specs.declared.copying.PathsError.TheVariants.{Uncovered, Extra}
use Rattle.nd_history.specs.Premises.{Premises}
use Rattle.nd_history.specs.History.{live, lease_of, is_built}
use Rattle.nd_history.specs.Choices.{machines_in}
use Rattle.nd_history.specs.Legal.{IsLegal}
use Rattle.nd_history.specs.References.{IsAlong, outputs_of, IsGiven, reports, Refers, IsBuiltPath, is_leased_on, brought, IsHeld, ArePathsRight}
use Rattle.nd_history.specs.References.IsAlong.{seed, step}
use Rattle.nd_history.specs.References.Refers.{listed, reported}
use Rattle.nd_provision.specs.Stored.{Stored, LooksLike, IsGivenTable, AreReferences, HoldsReferences, AreStored, is_quiet, IsSameStored, AreGivenEntries, AreNeeded, AreSeeds, AreSeedsIn, AreSources, IsClosureBy, IsMissingBy, ArePathsRightBy, IsPathsFaultBy, AreReferencesRightBy, IsCovered, IsBare, IsOutside, AreAllWithin, IsStray, paths_on, seeds_of, AreNamed, Lacks, entry_of, HasEntered, HasGained, HasTaken, AreStartAdditions, AreBuiltAdditions}
use Rattle.nd_history.proofs.Legality.{rest_true}
use Rattle.nd_history.proofs.Slots.{lease_once, count_cons}
use Rattle.nd_history.proofs.Reported.{nothing_in, contains_cases, refs_first, refs_second, built_on}
use Rattle.nd_history.proofs.Closing.{along_more, along_within, refers_alike}
use Rattle.nd_history.proofs.Provisions.{IsKept, held_known, known_held, adding, leased_there}
use Rattle.nd_provision.proofs.Whole.{local_whole, first_whole, start_whole, built_whole, grown_to, to_grown}
use Rattle.nd_provision.proofs.Gains.{gained_at, taken_at, taken_known}
use Rattle.nd_provision.proofs.Lookalikes.{looks_same, looks_through, looks_longer}

-- ---- the table tells what each path refers to

refers_by : (i : Premises) (past : List Entry) (given : List (List ℕ × List (List ℕ))) → IsGivenTable i given → (p q : List ℕ) → Contains (refs_of (given ++ reports i past) p) q → Refers i past p q
refers_by i past given base p q h =
    elim (cases_Bool (is_listed given p)) [
      | inl there ↦ listed ((base.listed p).0 there)
          ((base.refs p ((base.listed p).0 there)).to q (subst (λ (rs : List (List ℕ)). Contains rs q) (refs_first given (reports i past) p there) h))
      | inr past_it ↦ reported (λ g. let there : is_listed given p ≡ true = (base.listed p).1 g in cc)
          (subst (λ (rs : List (List ℕ)). Contains rs q) (refs_second given (reports i past) p past_it) h)
    ]

by_refers : (i : Premises) (past : List Entry) (given : List (List ℕ × List (List ℕ))) → IsGivenTable i given → (p q : List ℕ) → Refers i past p q → Contains (refs_of (given ++ reports i past) p) q
by_refers i past given base p q (listed g h) =
    subst (λ (rs : List (List ℕ)). Contains rs q) (sym (refs_first given (reports i past) p ((base.listed p).1 g))) ((base.refs p g).from q h)
by_refers i past given base p q (reported not_given h) =
    elim (cases_Bool (is_listed given p)) [
      | inl there ↦ absurd (not_given ((base.listed p).0 there))
      | inr past_it ↦ subst (λ (rs : List (List ℕ)). Contains rs q) (sym (refs_second given (reports i past) p past_it)) h
    ]

pub table_refers : (i : Premises) (past : List Entry) (table : List (List ℕ × List (List ℕ))) → AreReferences i past table → (p q : List ℕ) → Contains (refs_of table p) q ↔ Refers i past p q
table_refers i past table are p q = (
  λ h. refers_by i past are.given are.base p q (subst (λ (rs : List (List ℕ)). Contains rs q) (are.looks.refs p) h),
  λ r. subst (λ (rs : List (List ℕ)). Contains rs q) (sym (are.looks.refs p)) (by_refers i past are.given are.base p q r),
)

-- ---- what is reached in a table

pub reached_along : {R : List ℕ → List ℕ → Type 0} {S : List ℕ → Type 0} → (table : List (List ℕ × List (List ℕ))) (seeds : List (List ℕ))
    → ((p : List ℕ) → Contains seeds p → S p) → ((p q : List ℕ) → Contains (refs_of table p) q → R p q) → (x : List ℕ) → IsReached table seeds x → IsAlong R S x
reached_along table seeds at refs x (start p h) = seed p (at p h)
reached_along table seeds at refs x (onward p q r h) = step p q (reached_along table seeds at refs p r) (refs p q h)

pub along_reached : {R : List ℕ → List ℕ → Type 0} {S : List ℕ → Type 0} → (table : List (List ℕ × List (List ℕ))) (seeds : List (List ℕ))
    → ((p : List ℕ) → S p → Contains seeds p) → ((p q : List ℕ) → R p q → Contains (refs_of table p) q) → (x : List ℕ) → IsAlong R S x → IsReached table seeds x
along_reached table seeds at refs x (seed p h) = start p (at p h)
along_reached table seeds at refs x (step p q r h) = onward p q (along_reached table seeds at refs p r) (refs p q h)

-- what a search finds that stops nowhere, from all that d needs, is its closure
pub closure_by : (i : Premises) (s : Stored) (d : ℕ) (paths : List (List ℕ)) → d < length i.graph.paths → FindsUnheld s.numbers [] (row_in s.seeds d) paths → IsClosureBy i s d paths
closure_by i s d paths ranged finds = record {
  tells = λ past kept p.
      let none : AreKnown s.numbers.paths [] = record { each = λ n h. absurd (nothing_in n h) } in
      let found : IsUnheld s.entries [] (seeds_of s d) paths = finds.tells s.entries kept.numbered none (kept.seeds.known d) in
      let are = kept.seeds.needed d ranged in
      let refers = table_refers i past s.entries kept.references in (
        λ h. reached_along s.entries (seeds_of s d) (λ q k. (are.exact q).0 k) (λ q r k. (refers q r).0 k) p (walk_reached s.entries [] (seeds_of s d) p (found.reached p h)),
        λ h. along_within (λ x. Contains paths x)
            (λ q k. elim (found.seeded q ((are.exact q).1 k)) [ inl there ↦ there | inr held ↦ absurd (nothing_in q held) ])
            (λ q r there refs. elim (found.onward q r there ((refers q r).1 refs)) [ inl more ↦ more | inr held ↦ absurd (nothing_in r held) ])
            p h,
      );
}

-- where this is kept, no path has two numbers, and what is held is known
pub named_in : (i : Premises) (past : List Entry) (s : Stored) (m : ℕ) → AreStored i past s → AreNamed s.numbers.paths (hold_of s.stocks m).numbers
named_in i past s m kept = record { distinct = kept.numbered.distinct; known = kept.holdings.known m }

-- what it lacks on a machine is missing
pub missing_by : (i : Premises) (s : Stored) (d m : ℕ) (closure paths : List (List ℕ)) → m < length s.stocks → IsClosureBy i s d closure → Lacks s.numbers.paths (hold_of s.stocks m).numbers closure paths → IsMissingBy i s d m paths
missing_by i s d m closure paths within close lacks = record {
  tells = λ past kept.
      let lacking = lacks.tells (named_in i past s m kept) in
      record {
        needed = λ p h. (close.tells past kept p).0 (lacking.of p h);
        lacked = λ p h held. lacking.lacked p h ((kept.holdings.held m within p).1 held);
        all = λ p h. elim (lacking.all p ((close.tells past kept p).1 h)) [
          | inl there ↦ inl there
          | inr held ↦ inr ((kept.holdings.held m within p).0 held)
        ];
      };
}

-- and so is what a search finds that stops at held paths, where with a path the machine holds what it refers to
pub unheld_by : (i : Premises) (s : Stored) (d m : ℕ) (paths : List (List ℕ)) → m < length s.stocks → d < length i.graph.paths → s.whole ≡ true → FindsUnheld s.numbers (hold_of s.stocks m).numbers (row_in s.seeds d) paths → IsMissingBy i s d m paths
unheld_by i s d m paths within ranged whole finds = record {
  tells = λ past kept.
      let found : IsUnheld s.entries (paths_on s m) (seeds_of s d) paths = finds.tells s.entries kept.numbered (kept.holdings.known m) (kept.seeds.known d) in
      let are = kept.seeds.needed d ranged in
      let refers = table_refers i past s.entries kept.references in
      let holds = kept.whole whole m within in
      record {
        needed = λ p h. reached_along s.entries (seeds_of s d) (λ q k. (are.exact q).0 k) (λ q r k. (refers q r).0 k) p (walk_reached s.entries (paths_on s m) (seeds_of s d) p (found.reached p h));
        lacked = λ p h held. last_unheld s.entries (paths_on s m) (seeds_of s d) p (found.reached p h) ((kept.holdings.held m within p).1 held);
        all = λ p h. along_within (λ x. Contains paths x ⊎ IsHeld i past m x)
            (λ q k. elim (found.seeded q ((are.exact q).1 k)) [ inl there ↦ inl there | inr held ↦ inr ((kept.holdings.held m within q).0 held) ])
            (λ q r k refs. elim k [
              | inl there ↦ (elim (found.onward q r there ((refers q r).1 refs)) [ inl more ↦ inl more | inr held ↦ inr ((kept.holdings.held m within r).0 held) ])
              | inr held ↦ inr (holds.each q r held refs)
            ])
            p h;
      };
}

-- copied paths are right where they are what is missing
pub exact_by : (i : Premises) (s : Stored) (d m : ℕ) (paths : List (List ℕ)) → IsMissingBy i s d m paths → ArePathsRightBy i s d m paths
exact_by i s d m paths are = record {
  tells = λ past kept. record { needed = (are.tells past kept).needed; covered = (are.tells past kept).all };
}

-- copied paths are right where they lie in the closure and cover it
pub right_by : (i : Premises) (s : Stored) (d m : ℕ) (closure paths : List (List ℕ)) → m < length s.stocks → IsClosureBy i s d closure → IsCovered closure (paths_on s m) paths → HoldsAll closure paths → ArePathsRightBy i s d m paths
right_by i s d m closure paths within close covers lie = record {
  tells = λ past kept. record {
    needed = λ p h. (close.tells past kept p).0 (lie.each p h);
    covered = λ p h. elim (covers.each p ((close.tells past kept p).1 h)) [
      | inl copied ↦ inl copied
      | inr held ↦ inr ((kept.holdings.held m within p).0 held)
    ];
  };
}

-- what holds of what lies in the tables holds of what is seen of them
pub seen_on : (P : List (List ℕ) → List (List ℕ) → List ℕ → Type 0) (inside now : Stored) (m : ℕ) (hold : Hold) (read closure : List (List ℕ)) → inside ≡ now → hold ≡ hold_of inside.stocks m → read ≡ closure
    → P read inside.numbers.paths hold.numbers → P closure now.numbers.paths (hold_of now.stocks m).numbers
seen_on P inside now m hold read closure is held same holds =
    subst (λ (xs : List (List ℕ)). P xs now.numbers.paths (hold_of now.stocks m).numbers) same
    (subst (λ (s : Stored). P read s.numbers.paths (hold_of s.stocks m).numbers) is (subst (λ (h : Hold). P read inside.numbers.paths h.numbers) held holds))

pub uncovered_by : (i : Premises) (s : Stored) (d m : ℕ) (closure paths : List (List ℕ)) → m < length s.stocks → IsClosureBy i s d closure → (AreNamed s.numbers.paths (hold_of s.stocks m).numbers → IsBare closure (paths_on s m) paths) → IsPathsFaultBy i s d m paths Uncovered
uncovered_by i s d m closure paths within close is_bare = record {
  tells = λ past kept.
      let bare = is_bare (named_in i past s m kept) in
      record {
        path = bare.path;
        needed = (close.tells past kept bare.path).0 bare.needed;
        lacked = λ held. bare.lacked ((kept.holdings.held m within bare.path).1 held);
        uncopied = bare.uncopied;
      };
}

pub extra_by : (i : Premises) (s : Stored) (d m : ℕ) (closure paths : List (List ℕ)) → m < length s.stocks → IsClosureBy i s d closure → IsCovered closure (paths_on s m) paths → IsOutside closure paths → IsPathsFaultBy i s d m paths Extra
extra_by i s d m closure paths within close covers outside = record {
  tells = λ past kept. record {
    covered = λ p h. elim (covers.each p ((close.tells past kept p).1 h)) [
      | inl copied ↦ inl copied
      | inr held ↦ inr ((kept.holdings.held m within p).0 held)
    ];
    path = outside.path;
    copied = outside.there;
    unneeded = λ h. outside.out ((close.tells past kept outside.path).1 h);
  };
}

-- references are right where there are as many lists as outputs and each lies in the closure with the outputs
pub references_by : (i : Premises) (s : Stored) (d : ℕ) (refs : List (List (List ℕ))) (closure allowed : List (List ℕ)) (answer : Bool) → length refs ≡ length (outputs_of i d) → IsClosureBy i s d closure
    → HasSameMembers (closure ++ outputs_of i d) allowed → MatchBool answer (AreAllWithin allowed refs) (IsStray allowed refs) → AreReferencesRightBy i s d refs answer
references_by i s d refs closure allowed true sized close same within = record {
  tells = λ past kept. record {
    sized = sized;
    within = λ list p h k. elim (Contains-append_cases closure (outputs_of i d) p (same.from p (within.each list p h k))) [
      | inl there ↦ inl ((close.tells past kept p).0 there)
      | inr out ↦ inr (record { listed = out })
    ];
  };
}
references_by i s d refs closure allowed false sized close same stray = record {
  tells = λ past kept right. elim (right.within stray.list stray.path stray.listed stray.there) [
    | inl there ↦ stray.out (same.to stray.path (Contains-append_left closure (outputs_of i d) stray.path ((close.tells past kept stray.path).1 there)))
    | inr out ↦ stray.out (same.to stray.path (Contains-append_right closure (outputs_of i d) stray.path out.listed))
  ];
}

-- .. and where each lies in what d needs at once, with the outputs
pub references_near : (i : Premises) (s : Stored) (d : ℕ) (refs : List (List (List ℕ))) (needed allowed : List (List ℕ)) → length refs ≡ length (outputs_of i d) → AreNeeded i d needed
    → HasSameMembers (needed ++ outputs_of i d) allowed → AreAllWithin allowed refs → AreReferencesRightBy i s d refs true
references_near i s d refs needed allowed sized are same within = record {
  tells = λ past kept. record {
    sized = sized;
    within = λ list p h k. elim (Contains-append_cases needed (outputs_of i d) p (same.from p (within.each list p h k))) [
      | inl there ↦ inl (seed p ((are.exact p).0 there))
      | inr out ↦ inr (record { listed = out })
    ];
  };
}

-- ---- before the first entry

-- entries for the given paths are a table of them
entries_listed : (info : List (List ℕ × List (List ℕ))) (paths : List (List ℕ)) (entries : List (List ℕ × List (List ℕ))) (p : List ℕ) → AreGivenEntries info paths entries → is_listed entries p ≡ is_held paths p
entries_listed info [] [] p are = refl
entries_listed info [] (e ∷ entries) p are = absurd are
entries_listed info (q ∷ paths) [] p are = absurd are
entries_listed info (q ∷ paths) (e ∷ entries) p are =
    ap (λ (x : List ℕ). path_eq p x || is_listed entries p) are.0 ∙ ap (λ (b : Bool). path_eq p q || b) (entries_listed info paths entries p are.2)

alike_if : (b : Bool) (info rs rest : List (List ℕ)) → (b ≡ true → HasSameMembers info rs) → (b ≡ false → HasSameMembers rest info) → HasSameMembers (if b then rs else rest) info
alike_if true info rs rest here later = let h = here refl in record { to = h.from; from = h.to }
alike_if false info rs rest here later = later refl

entries_refs : (info : List (List ℕ × List (List ℕ))) (paths : List (List ℕ)) (entries : List (List ℕ × List (List ℕ))) (p : List ℕ) → AreGivenEntries info paths entries → Contains paths p → HasSameMembers (refs_of entries p) (refs_of info p)
entries_refs info [] [] p are h = absurd (nothing_in p h)
entries_refs info [] (e ∷ entries) p are h = absurd are
entries_refs info (q ∷ paths) [] p are h = absurd are
entries_refs info (q ∷ paths) (e ∷ entries) p are h =
    alike_if (path_eq p e.0) (refs_of info p) e.1 (refs_of entries p)
    (λ same. subst (λ (x : List ℕ). HasSameMembers (refs_of info x) e.1) (sym (paths_same p e.0 same ∙ are.0)) are.1)
    (λ other. entries_refs info paths entries p are.2 (elim (contains_cases q paths p h) [
      | inl here ↦ (let same : path_eq p e.0 ≡ true = itself p e.0 (sym here ∙ sym are.0) in cc)
      | inr later ↦ later
    ]))
  where
    itself : (p q : List ℕ) → p ≡ q → path_eq p q ≡ true
    itself p q same = subst (λ (x : List ℕ). path_eq p x ≡ true) same (nat_list_eq_equiv.refl p)

pub given_reached : (i : Premises) (sources given : List (List ℕ)) → AreSources i sources → ((p : List ℕ) → Contains given p ↔ IsReached i.info sources p) → (p : List ℕ) → Contains given p ↔ IsGiven i p
given_reached i sources given are reached p = (
  λ h. reached_along i.info sources (λ q k. (are.exact q).0 k) (λ q r k. k) p ((reached p).0 h),
  λ h. (reached p).1 (along_reached i.info sources (λ q k. (are.exact q).1 k) (λ q r k. k) p h),
)

given_table : (i : Premises) (given : List (List ℕ)) (entries : List (List ℕ × List (List ℕ))) → ((p : List ℕ) → Contains given p ↔ IsGiven i p) → AreGivenEntries i.info given entries → IsGivenTable i entries
given_table i given entries exact are = record {
  listed = λ p. (
    λ h. (exact p).0 ((member_by_test given p).0 (sym (entries_listed i.info given entries p are) ∙ h)),
    λ g. entries_listed i.info given entries p are ∙ (member_by_test given p).1 ((exact p).1 g),
  );
  refs = λ p g. entries_refs i.info given entries p are ((exact p).1 g);
}

-- nothing is built before the first entry
held_at_first : (i : Premises) (p : List ℕ) → IsHeld i [] 0 p ↔ IsGiven i p
held_at_first i p = (λ h. known p (held_known i [] tt p h), λ g. known_held i [] p (inl g))
  where
    known : (p : List ℕ) → IsGiven i p ⊎ IsBuiltPath i [] p → IsGiven i p
    known p (inl g) = g
    known p (inr b) = let none = b.built in cc

-- what each derivation needs, for premises with this graph
pub seeds_in : (i : Premises) (s : Stored) → AreSeedsIn i.graph s.numbers.paths s.seeds → length s.seeds ≡ length i.graph.paths → AreSeeds i s
seeds_in i s are sized = record {
  known = λ d. elim (cases_lt d (length s.seeds)) [
    | inl within ↦ (are.each d within).known
    | inr past ↦ (let none : row_in s.seeds d ≡ [] = get_or_past s.seeds d [] past in rw none (record { each = λ n h. absurd (omega (arith, h.1)) }))
  ];
  needed = λ d lt. (are.each d (omega (arith, sized, lt))).needed.tells i refl;
}

pub stored_at_first : (i : Premises) (given : List (List ℕ)) (entries : List Listing) (before : Numbered) (own : List ℕ) (empty : List Hold) (s : Stored)
    → ((p : List ℕ) → Contains given p ↔ IsGiven i p) → AreGivenEntries i.info given (map entry_of entries) → HasEntered [] s.entries before s.numbers entries → AreNumbered [] before
    → AreSeeds i s → AreNumbersOf s.numbers.paths given own → length empty ≡ machines_in i → ((m : ℕ) → (hold_of empty m).numbers ≡ []) → HasGained empty s.stocks 0 own → AreStored i [] s
stored_at_first i given entries before own empty s exact are entered told seeds owned park none gained = record {
  references = record {
    given = map entry_of entries;
    base = given_table i given (map entry_of entries) exact are;
    looks = looks_through s.entries (map entry_of entries) (map entry_of entries ++ []) entered.looks (looks_same (map entry_of entries) (map entry_of entries ++ []) (sym (append-nil (map entry_of entries))));
  };
  numbered = entered.numbered told;
  seeds = seeds;
  holdings = record {
    park = gained.size ∙ park;
    known = λ m. record {
      each = λ n h. elim ((gained_at empty s.stocks 0 own gained m n).0 h) [
        | inl old ↦ (let never : Contains [] n = subst (λ (xs : List ℕ). Contains xs n) (none m) old in absurd (omega (arith, never.1)))
        | inr there ↦ owned.known.each n there.1
      ];
    };
    held = at;
  };
  whole = λ _ m lt. first_whole i m;
}
  where
    among : (m : ℕ) (p : List ℕ) → Contains (paths_on s m) p → (m ≡ 0) × Contains given p
    among m p h =
        let it = named s.numbers.paths (hold_of s.stocks m).numbers p h in
        elim ((gained_at empty s.stocks 0 own gained m it.0).0 it.1) [
          | inl old ↦ (let never : Contains [] it.0 = subst (λ (xs : List ℕ). Contains xs it.0) (none m) old in absurd (omega (arith, never.1)))
          | inr there ↦ (there.0, subst (λ (xs : List (List ℕ)). Contains xs p) owned.named (subst (λ (x : List ℕ). Contains (map (path_in s.numbers.paths) own) x) it.2 (has_name s.numbers.paths own it.0 there.1)))
        ]

    has : (p : List ℕ) → Contains given p → Contains (paths_on s 0) p
    has p h =
        let it = named s.numbers.paths own p (subst (λ (xs : List (List ℕ)). Contains xs p) (sym owned.named) h) in
        subst (λ (x : List ℕ). Contains (paths_on s 0) x) it.2 (has_name s.numbers.paths (hold_of s.stocks 0).numbers it.0 ((gained_at empty s.stocks 0 own gained 0 it.0).1 (inr (refl, it.1))))

    at : (m : ℕ) → m < length s.stocks → (p : List ℕ) → Contains (paths_on s m) p ↔ IsHeld i [] m p
    at zero lt p = (
      λ h. (held_at_first i p).1 ((exact p).0 (among 0 p h).1),
      λ h. has p ((exact p).1 ((held_at_first i p).0 h)),
    )
    at (suc k) lt p = (
      λ h. let never = (among (suc k) p h).0 in absurd (omega arith),
      λ h. absurd (nothing_in p h),
    )

-- ---- one more entry

-- reserving room, and numbers for more paths, change nothing
pub stored_same : (i : Premises) (past : List Entry) (old new : Stored) → IsSameStored old new → AreStored i past old → AreStored i past new
stored_same i past old new same are = record {
  references = record {
    given = are.references.given;
    base = are.references.base;
    looks = looks_through new.entries old.entries (are.references.given ++ reports i past) (looks_same new.entries old.entries same.entries) are.references.looks;
  };
  numbered = rw same.entries (numbered_grown old.entries old.numbers new.numbers same.numbers are.numbered);
  seeds = record {
    known = λ d. rw same.seeds (known_stay old.numbers new.numbers (row_in old.seeds d) same.numbers (are.seeds.known d));
    needed = λ d lt.
        let rows : row_in new.seeds d ≡ row_in old.seeds d = ap (λ (rs : List (List ℕ)). row_in rs d) same.seeds in
        let names : seeds_of new d ≡ seeds_of old d = ap (map (path_in new.numbers.paths)) rows ∙ names_stay old.numbers new.numbers (row_in old.seeds d) same.numbers (are.seeds.known d) in
        subst (λ (xs : List (List ℕ)). AreNeeded i d xs) (sym names) (are.seeds.needed d lt);
  };
  holdings = record {
    park = same.park ∙ are.holdings.park;
    known = λ m. rw (same.held m) (known_stay old.numbers new.numbers (hold_of old.stocks m).numbers same.numbers (are.holdings.known m));
    held = λ m lt p.
        let names : paths_on new m ≡ paths_on old m = ap (map (path_in new.numbers.paths)) (same.held m) ∙ names_stay old.numbers new.numbers (hold_of old.stocks m).numbers same.numbers (are.holdings.known m) in
        subst (λ (xs : List (List ℕ)). Contains xs p ↔ IsHeld i past m p) (sym names) (are.holdings.held m (subst (λ (n : ℕ). m < n) same.park lt) p);
  };
  whole = λ w m lt. are.whole (sym same.whole ∙ w) m (subst (λ (n : ℕ). m < n) same.park lt);
}

-- the same reports and the same outputs built make the local machine hold the same
local_alike : (i : Premises) (old new : List Entry) → reports i old ≡ reports i new → ((p : List ℕ) → IsBuiltPath i old p → IsBuiltPath i new p) → (p : List ℕ) → IsHeld i old 0 p → IsHeld i new 0 p
local_alike i old new same built p h = along_more (kept old new built) (refers_alike i old new same) p h
  where
    kept : (old new : List Entry) → ((p : List ℕ) → IsBuiltPath i old p → IsBuiltPath i new p) → (p : List ℕ) → IsKept i old p → IsKept i new p
    kept old new built p (inl source) = inl source
    kept old new built p (inr b) = inr (built p b)

local_stays : (i : Premises) (past : List Entry) (e : Entry) → reports i (e ∷ past) ≡ reports i past → ((d : ℕ) → is_built d (e ∷ past) ≡ is_built d past) → (p : List ℕ) → IsHeld i past 0 p ↔ IsHeld i (e ∷ past) 0 p
local_stays i past e same unbuilt p = (
  local_alike i past (e ∷ past) (sym same) (λ q b. built_on i past e q b) p,
  local_alike i (e ∷ past) past same (λ q b. record { drv = b.drv; built = sym (unbuilt b.drv) ∙ b.built; output = b.output }) p,
)

-- an entry with the same reports, which changes no machine's paths
stored_on : (i : Premises) (past : List Entry) (e : Entry) (s : Stored) → reports i (e ∷ past) ≡ reports i past → ((m : ℕ) (p : List ℕ) → IsHeld i past m p ↔ IsHeld i (e ∷ past) m p) → AreStored i past s → AreStored i (e ∷ past) s
stored_on i past e s same held are = record {
  references = record {
    given = are.references.given;
    base = are.references.base;
    looks = looks_through s.entries (are.references.given ++ reports i past) (are.references.given ++ reports i (e ∷ past)) are.references.looks
        (looks_same _ _ (ap (λ (t : List (List ℕ × List (List ℕ))). are.references.given ++ t) (sym same)));
  };
  numbered = are.numbered;
  seeds = are.seeds;
  holdings = record {
    park = are.holdings.park;
    known = are.holdings.known;
    held = λ m lt p. (λ h. (held m p).0 ((are.holdings.held m lt p).0 h), λ h. (are.holdings.held m lt p).1 ((held m p).1 h));
  };
  whole = λ w m lt. record { each = λ p q h r. (held m q).0 ((are.whole w m lt).each p q ((held m p).1 h) (refers_alike i (e ∷ past) past same p q r)) };
}

quiet_held : (i : Premises) (past : List Entry) (e : Entry) → is_quiet e ≡ true → (m : ℕ) (p : List ℕ) → IsHeld i past m p ↔ IsHeld i (e ∷ past) m p
quiet_held i past (Started d paths) quiet m p = cc
quiet_held i past (Built d refs) quiet m p = cc
quiet_held i past e quiet zero p = local_stays i past e refl (λ d. refl) p
quiet_held i past e quiet (suc k) p = (λ h. h, λ h. h)

-- an entry that is no start and no build changes nothing
pub stored_quiet : (i : Premises) (past : List Entry) (e : Entry) (s : Stored) → is_quiet e ≡ true → AreStored i past s → AreStored i (e ∷ past) s
stored_quiet i past (Started d paths) s quiet are = cc
stored_quiet i past (Built d refs) s quiet are = cc
stored_quiet i past e s quiet are = stored_on i past e s refl (quiet_held i past e quiet) are

-- ---- the lease that started or ended

and_false : (a : Bool) → (a && false) ≡ false
and_false true = refl
and_false false = refl

and_left : (a b : Bool) → (a && b) ≡ true → a ≡ true
and_left true b h = refl
and_left false b h = cc

and_right : (a b : Bool) → (a && b) ≡ true → b ≡ true
and_right true b h = h
and_right false b h = cc

-- where none is counted, none passes
none_passes : {X : Type 0} → (p : X → Bool) (xs : List X) → count_by p xs ≡ 0 → list_any p xs ≡ false
none_passes p [] h = refl
none_passes p (x ∷ xs) h = grind (arith, common_steps, count_cons p x xs, none_passes p xs)

-- what passes both tests passes the second
any_second : {X : Type 0} → (q p : X → Bool) (xs : List X) → list_any (λ x. q x && p x) xs ≡ true → list_any p xs ≡ true
any_second q p [] h = cc
any_second q p (x ∷ xs) h = elim (or_cases (q x && p x) (list_any (λ y. q y && p y) xs) h) [
  | inl here ↦ ap (λ (b : Bool). b || list_any p xs) (and_right (q x) (p x) here)
  | inr later ↦ or_right (p x) (list_any p xs) (any_second q p xs later)
]

only_step : (b : Bool) (m : ℕ) (x t : Ticket) (n : ℕ) (rest_found : Option Ticket) (rest_any : Bool) → cond b (n + 1) n ≤ 1 → cond b (Some x) rest_found ≡ Some t → (((m == x.machine) && b) || rest_any) ≡ true
    → (n ≡ 0 → rest_any ≡ false) → (n ≤ 1 → rest_found ≡ Some t → rest_any ≡ true → m ≡ t.machine) → m ≡ t.machine
only_step true m x t n rest_found rest_any few found there none rest =
    let same : x ≡ t = cc in
    let left : n ≡ 0 = omega arith in
    let empty : rest_any ≡ false = none left in
    elim (or_cases ((m == x.machine) && true) rest_any there) [
      | inl here ↦ eqb-true m x.machine (and_left (m == x.machine) true here) ∙ ap (λ (u : Ticket). u.machine) same
      | inr later ↦ cc
    ]
only_step false m x t n rest_found rest_any few found there none rest = rest few found (rest_true ((m == x.machine) && false) rest_any (and_false (m == x.machine)) there)

abbrev is_of : ℕ → Ticket → Bool
is_of d u = d == u.drv

abbrev is_at : ℕ → ℕ → Ticket → Bool
is_at m d u = (m == u.machine) && (d == u.drv)

-- in a list with one lease of d at most, each lease of d is the one that is found
only_one : (m d : ℕ) (leases : List Ticket) (t : Ticket) → count_by (is_of d) leases ≤ 1 → find (is_of d) leases ≡ Some t → list_any (is_at m d) leases ≡ true → m ≡ t.machine
only_one m d [] t few found there = cc
only_one m d (x ∷ leases) t few found there =
    only_step (d == x.drv) m x t (count_by (is_of d) leases) (find (is_of d) leases) (list_any (is_at m d) leases)
    (subst (λ (n : ℕ). n ≤ 1) (count_cons (is_of d) x leases) few) found there
    (λ none. none_both m d leases none)
    (λ f g h. only_one m d leases t f g h)
  where
    none_both : (m d : ℕ) (leases : List Ticket) → count_by (is_of d) leases ≡ 0 → list_any (is_at m d) leases ≡ false
    none_both m d leases none = elim (cases_Bool (list_any (is_at m d) leases)) [
      | inl some ↦ (let there : list_any (is_of d) leases ≡ true = any_second (λ (u : Ticket). m == u.machine) (is_of d) leases some in let out : list_any (is_of d) leases ≡ false = none_passes (is_of d) leases none in cc)
      | inr out ↦ out
    ]

-- in a legal history the lease of d is on its ticket's machine alone
pub only_there : (i : Premises) (past : List Entry) → IsLegal i past → (d m : ℕ) (t : Ticket) → lease_of d past ≡ Some t → is_leased_on m d past ≡ true → m ≡ t.machine
only_there i past legal d m t found there = only_one m d (live past) t (lease_once i past legal d) found there

-- whether it is on m
leased_on_is : (i : Premises) (past : List Entry) → IsLegal i past → (d m : ℕ) (t : Ticket) → lease_of d past ≡ Some t → is_leased_on m d past ≡ (m == t.machine)
leased_on_is i past legal d m t found =
    elim (cases_eq m t.machine) [
      | inl same ↦ subst (λ (n : ℕ). is_leased_on n d past ≡ true) (sym same) (leased_there d past t found) ∙ sym (eq-eqb m t.machine same)
      | inr other ↦ (elim (cases_Bool (is_leased_on m d past)) [
        | inl there ↦ absurd (other (only_there i past legal d m t found there))
        | inr out ↦ out ∙ sym (ne_eqb m t.machine other)
      ])
    ]

-- ---- starts and builds

-- what is needed stays, where paths and seeds do
seeds_stay : (i : Premises) (old new : Stored) → new.numbers.paths ≡ old.numbers.paths → new.seeds ≡ old.seeds → AreSeeds i old → AreSeeds i new
seeds_stay i old new paths seeds are = record {
  known = λ d. rw (paths, seeds) (are.known d);
  needed = λ d lt. rw (paths, seeds) (are.needed d lt);
}

-- what a builder got
abbrev part : ℕ → List (List ℕ) → List (List ℕ)
part m paths = if m == 0 then [] else paths

part_of : (m : ℕ) (paths : List (List ℕ)) (p : List ℕ) → Contains (part m paths) p → (m ≢ 0) × Contains paths p
part_of m paths p h =
    elim (cases_eq m 0) [
      | inl same ↦ absurd (nothing_in p (subst (λ (b : Bool). Contains (if b then [] else paths) p) (eq-eqb m 0 same) h))
      | inr other ↦ (other, subst (λ (b : Bool). Contains (if b then [] else paths) p) (ne_eqb m 0 other) h)
    ]

of_part : (k : ℕ) (paths : List (List ℕ)) (p : List ℕ) → Contains paths p → Contains (part (suc k) paths) p
of_part k paths p h = subst (λ (b : Bool). Contains (if b then [] else paths) p) (sym (ne_eqb (suc k) 0 (λ same. omega arith))) h

-- a builder holds what it held, and what came to it
builder_holds : (i : Premises) (past : List Entry) → IsLegal i past → (d k : ℕ) (t : Ticket) (paths before : List (List ℕ)) (p : List ℕ) → lease_of d past ≡ Some t
    → (Contains before p ⊎ ((suc k ≡ t.machine) × Contains (part t.machine paths) p)) ↔ Contains (if is_leased_on (suc k) d past then before ++ paths else before) p
builder_holds i past legal d k t paths before p found =
    let on = leased_on_is i past legal d (suc k) t found in (
      λ h. to_grown (is_leased_on (suc k) d past) before paths p (elim h [
        | inl there ↦ inl there
        | inr new ↦ inr (on ∙ eq-eqb (suc k) t.machine new.0, (part_of t.machine paths p new.1).1)
      ]),
      λ h. elim (grown_to (is_leased_on (suc k) d past) before paths p h) [
        | inl there ↦ inl there
        | inr new ↦
            let same : suc k ≡ t.machine = eqb-true (suc k) t.machine (sym on ∙ new.0) in
            inr (same, subst (λ (m : ℕ). Contains (part m paths) p) same (of_part k paths p new.1))
      ],
    )

-- a start is taken in
pub stored_start : (i : Premises) (past : List Entry) (d : ℕ) (t : Ticket) (paths : List (List ℕ)) (old new : Stored) (a : Additions)
    → IsLegal i past → lease_of d past ≡ Some t → ArePathsRight i past d t.machine paths → AreStored i past old → AreStartAdditions old t.machine paths a → HasTaken old new a → AreStored i (Started d paths ∷ past) new
stored_start i past d t paths old new a legal found right are adds took = record {
  references = record {
    given = are.references.given;
    base = are.references.base;
    looks = looks_through new.entries old.entries (are.references.given ++ reports i past)
        (looks_through new.entries (old.entries ++ map entry_of a.entries.items) old.entries took.entered.looks
        (looks_same (old.entries ++ map entry_of a.entries.items) old.entries (ap (λ (x : List Listing). old.entries ++ map entry_of x) adds.entries ∙ append-nil old.entries))) are.references.looks;
  };
  numbered = took.entered.numbered are.numbered;
  seeds = seeds_stay i old new took.entered.paths took.seeds are.seeds;
  holdings = record {
    park = took.brought.size ∙ took.own.size ∙ are.holdings.park;
    known = taken_known old new a took are.holdings.known;
    held = λ m lt p. at m (subst (λ (n : ℕ). m < n) (took.brought.size ∙ took.own.size) lt) p;
  };
  whole = λ w m lt. start_whole i past d t.machine paths m (λ on. only_there i past legal d m t found on) right
      (are.whole (and_left old.whole a.provided (sym took.whole ∙ w)) m (subst (λ (n : ℕ). m < n) (took.brought.size ∙ took.own.size) lt));
}
  where
    -- what is held is what was held, and on the ticket's machine what came to it
    now : (m : ℕ) (p : List ℕ) → Contains (paths_on new m) p ↔ Contains (paths_on old m) p ⊎ ((m ≡ t.machine) × Contains (part t.machine paths) p)
    now m p = (
      λ h. elim ((taken_at old new a took m p).0 h) [
        | inl first ↦ inl first
        | inr more ↦ (elim more [
          | inl own ↦ absurd (nothing_in p (subst (λ (xs : List ℕ). Contains (map (path_in old.numbers.paths) xs) p) adds.own own.1))
          | inr came ↦ inr (came.0 ∙ adds.machine, subst (λ (xs : List (List ℕ)). Contains xs p) adds.brought came.1)
        ])
      ],
      λ h. (taken_at old new a took m p).1 (elim h [
        | inl first ↦ inl first
        | inr came ↦ inr (inr (came.0 ∙ sym adds.machine, subst (λ (xs : List (List ℕ)). Contains xs p) (sym adds.brought) came.1))
      ]),
    )

    at : (m : ℕ) → m < length old.stocks → (p : List ℕ) → Contains (paths_on new m) p ↔ IsHeld i (Started d paths ∷ past) m p
    at zero lt p =
        let stays = local_stays i past (Started d paths) refl (λ e. refl) p in (
          λ h. stays.0 ((are.holdings.held 0 lt p).0 (elim ((now 0 p).0 h) [
            | inl before ↦ before
            | inr came ↦ absurd ((part_of t.machine paths p came.1).0 (sym came.0))
          ])),
          λ h. (now 0 p).1 (inl ((are.holdings.held 0 lt p).1 (stays.1 h))),
        )
    at (suc k) lt p =
        let grows = builder_holds i past legal d k t paths (brought i (suc k) past) p found in (
          λ h. grows.0 (elim ((now (suc k) p).0 h) [
            | inl before ↦ inl ((are.holdings.held (suc k) lt p).0 before)
            | inr came ↦ inr came
          ]),
          λ h. (now (suc k) p).1 (elim (grows.1 h) [
            | inl before ↦ inl ((are.holdings.held (suc k) lt p).1 before)
            | inr came ↦ inr came
          ]),
        )

-- the reports of a build are taken in
built_references : (i : Premises) (past : List Entry) (d : ℕ) (refs : List (List (List ℕ))) (old new : List (List ℕ × List (List ℕ))) (listings : List Listing)
    → AreReferences i past old → map entry_of listings ≡ zip (outputs_of i d) refs → LooksLike new (old ++ map entry_of listings) → AreReferences i (Built d refs ∷ past) new
built_references i past d refs old new listings are is took = record {
  given = are.given;
  base = are.base;
  looks = looks_through new ((are.given ++ reports i past) ++ zip (outputs_of i d) refs) (are.given ++ (reports i past ++ zip (outputs_of i d) refs))
      (looks_through new (old ++ zip (outputs_of i d) refs) ((are.given ++ reports i past) ++ zip (outputs_of i d) refs)
      (looks_through new (old ++ map entry_of listings) (old ++ zip (outputs_of i d) refs) took
      (looks_same _ _ (ap (λ (x : List (List ℕ × List (List ℕ))). old ++ x) is)))
      (looks_longer old (are.given ++ reports i past) (zip (outputs_of i d) refs) are.looks))
      (looks_same _ _ (append_assoc are.given (reports i past) (zip (outputs_of i d) refs)));
}

-- a build is taken in
pub stored_built : (i : Premises) (past : List Entry) (d : ℕ) (t : Ticket) (refs : List (List (List ℕ))) (old new : Stored) (a : Additions)
    → IsLegal i (Built d refs ∷ past) → lease_of d past ≡ Some t → AreStored i past old → AreBuiltAdditions i old d t.machine refs a → HasTaken old new a → AreStored i (Built d refs ∷ past) new
stored_built i past d t refs old new a legal found are adds took = record {
  references = built_references i past d refs old.entries new.entries a.entries.items are.references adds.entries took.entered.looks;
  numbered = took.entered.numbered are.numbered;
  seeds = seeds_stay i old new took.entered.paths took.seeds are.seeds;
  holdings = record {
    park = took.brought.size ∙ took.own.size ∙ are.holdings.park;
    known = taken_known old new a took are.holdings.known;
    held = λ m lt p. at m (subst (λ (n : ℕ). m < n) (took.brought.size ∙ took.own.size) lt) p;
  };
  whole = λ w m lt.
      let both : (old.whole && a.provided) ≡ true = sym took.whole ∙ w in
      whole (and_left old.whole a.provided both) (and_right old.whole a.provided both) m (subst (λ (n : ℕ). m < n) (took.brought.size ∙ took.own.size) lt);
}
  where
    -- with a path each machine holds what the path refers to, where the ticket's machine has what the outputs refer to
    whole : old.whole ≡ true → a.provided ≡ true → (m : ℕ) → m < length old.stocks → HoldsReferences i (Built d refs ∷ past) m
    whole was has zero lt = local_whole i (Built d refs ∷ past)
    whole was has (suc k) lt = built_whole i past d refs k legal (are.whole was (suc k) lt) (λ on p q out r.
        let same : suc k ≡ t.machine = only_there i past legal.1 d (suc k) t found on in
        let refers = table_refers i (Built d refs ∷ past) new.entries (built_references i past d refs old.entries new.entries a.entries.items are.references adds.entries took.entered.looks) p q in
        let said : Contains (refs_of (old.entries ++ map entry_of a.entries.items) p) q = subst (λ (rs : List (List ℕ)). Contains rs q) (took.entered.looks.refs p) (refers.1 r) in
        elim ((took.provided.held are.numbered has).each p q (subst (λ (xs : List (List ℕ)). Contains xs p) (sym adds.own) out) said) [
          | inl held ↦ inl ((are.holdings.held (suc k) lt q).0 (subst (λ (n : ℕ). Contains (paths_on old n) q) (adds.machine ∙ sym same) held))
          | inr own ↦ inr (subst (λ (xs : List (List ℕ)). Contains xs q) adds.own own)
        ])

    -- what is held is what was held, on the local machine the outputs, and on the ticket's machine what came to it
    now : (m : ℕ) (p : List ℕ) → Contains (paths_on new m) p
        ↔ Contains (paths_on old m) p ⊎ (((m ≡ 0) × Contains (outputs_of i d) p) ⊎ ((m ≡ t.machine) × Contains (part t.machine (outputs_of i d)) p))
    now m p = (
      λ h. elim ((taken_at old new a took m p).0 h) [
        | inl first ↦ inl first
        | inr more ↦ (elim more [
          | inl own ↦ inr (inl (own.0, subst (λ (xs : List (List ℕ)). Contains xs p) adds.own own.1))
          | inr came ↦ inr (inr (came.0 ∙ adds.machine, subst (λ (xs : List (List ℕ)). Contains xs p) adds.brought came.1))
        ])
      ],
      λ h. (taken_at old new a took m p).1 (elim h [
        | inl first ↦ inl first
        | inr more ↦ (elim more [
          | inl own ↦ inr (inl (own.0, subst (λ (xs : List (List ℕ)). Contains xs p) (sym adds.own) own.1))
          | inr came ↦ inr (inr (came.0 ∙ sym adds.machine, subst (λ (xs : List (List ℕ)). Contains xs p) (sym adds.brought) came.1))
        ])
      ]),
    )

    at : (m : ℕ) → m < length old.stocks → (p : List ℕ) → Contains (paths_on new m) p ↔ IsHeld i (Built d refs ∷ past) m p
    at zero lt p =
        let adding_p = adding i past d refs legal p in (
          λ h. adding_p.1 (elim ((now 0 p).0 h) [
            | inl before ↦ inl ((are.holdings.held 0 lt p).0 before)
            | inr more ↦ (elim more [
              | inl own ↦ inr (record { listed = own.1 })
              | inr came ↦ absurd ((part_of t.machine (outputs_of i d) p came.1).0 (sym came.0))
            ])
          ]),
          λ h. (now 0 p).1 (elim (adding_p.0 h) [
            | inl before ↦ inl ((are.holdings.held 0 lt p).1 before)
            | inr own ↦ inr (inl (refl, own.listed))
          ]),
        )
    at (suc k) lt p =
        let grows = builder_holds i past legal.1 d k t (outputs_of i d) (brought i (suc k) past) p found in (
          λ h. grows.0 (elim ((now (suc k) p).0 h) [
            | inl before ↦ inl ((are.holdings.held (suc k) lt p).0 before)
            | inr more ↦ (elim more [ inl own ↦ (let never = own.0 in absurd (omega arith)) | inr came ↦ inr came ])
          ]),
          λ h. (now (suc k) p).1 (elim (grows.1 h) [
            | inl before ↦ inl ((are.holdings.held (suc k) lt p).1 before)
            | inr came ↦ inr (inr came)
          ]),
        )
