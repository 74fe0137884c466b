use Rattle.std.proofs.Common.{◌≡◌, List, ℕ, subst, ap, sym, refl, ◌∙◌}
use Rattle.nd_path_numbers.specs.Numbers.{Numbered, IsNumberOf}
use Rattle.nd_path_numbers.proofs.Growing.{number_found, found_number}
use Rattle.nd_path_numbers.proofs.path_numbers.PathNumbers.is_number_of.Goals as goal

pub returns-in-Some : goal.returns-in-Some
returns-in-Some c =
    let keys : List (List ℕ) = c.self.inside.paths.keys in
    let path : List ℕ = c.args.path.now in
    let seen : keys ≡ c.args.self.now.paths = ap (λ (n : Numbered). n.paths) c.self.view_is in
    let At : List (List ℕ) → Type 0 = λ paths. IsNumberOf paths path c.args.number in (
      λ same. subst At seen (number_found keys c.args.number path c.in-Some.known.now (c.in-Some.ensures.found.0 refl) (sym c.in-Some.ensures.key) (sym c.eq.ensures ∙ same)),
      λ is. c.eq.ensures ∙ found_number keys c.args.number path c.in-Some.known.now (sym c.in-Some.ensures.key) (subst At (sym seen) is),
    )
