use Rattle.std.proofs.Common.{◌≡◌, ◌∷◌, [], List, ℕ, subst, sym, true}
use Rattle.nd_path.specs.StorePath.{path_eq}
use Rattle.nd_path_numbers.specs.Numbers.{Numbered, HasGrown, AddsOnly}
use Rattle.nd_path_numbers.proofs.Growing.{grown_through, path_grown, number_found, only_this}
use Rattle.nd_path_numbers.proofs.path_numbers.PathNumbers.know.Goals as goal

pub returns-clause-number : goal.returns-clause-number
returns-clause-number c =
    let stored = c.in_ok-number.ensures.stored in
    number_found c.insert_full.new.self.keys c.in_ok-number.number c.args.path.now stored.0 c.in_ok-number.ensures.within stored.1
    (subst (λ (p : List ℕ). path_eq p stored.0 ≡ true) c.in_ok-try_clone.ensures stored.2)

pub returns-clause-grown : goal.returns-clause-grown
returns-clause-grown c =
    let before : Numbered = record { paths = c.self.inside.paths.keys; rows = c.self.inside.rows.items } in
    grown_through c.args.self.now before (record { paths = c.insert_full.new.self.keys; rows = c.self.inside.rows.items })
    (subst (λ (n : Numbered). HasGrown c.args.self.now n) (sym c.self.view_is) c.in_ok-make_row.ensures.grown)
    (path_grown before c.in_ok-try_clone.field-0 c.insert_full.new.self.keys c.in_ok-number.ensures.keys c.in_ok-number.ensures.unique)

pub returns-clause-only : goal.returns-clause-only
returns-clause-only c =
    subst (λ (ps : List (List ℕ)). AddsOnly ps c.insert_full.new.self.keys (c.args.path.now ∷ [])) c.in_ok-make_row.ensures.same
    (subst (λ (n : Numbered). AddsOnly n.paths c.insert_full.new.self.keys (c.args.path.now ∷ [])) c.self.view_is
    (subst (λ (p : List ℕ). AddsOnly c.self.inside.paths.keys c.insert_full.new.self.keys (p ∷ [])) c.in_ok-try_clone.ensures
    (only_this c.self.inside.paths.keys c.in_ok-try_clone.field-0 c.insert_full.new.self.keys c.in_ok-number.ensures.keys)))
