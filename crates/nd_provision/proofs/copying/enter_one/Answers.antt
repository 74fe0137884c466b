use Rattle.std.proofs.Common.{◌≡◌, ◌++◌, ◌∷◌, [], Bool, not, true, false, List, ℕ, if◌then◌else◌, ap, sym, subst, ◌∙◌, refl}
use Rattle.nd_closure.specs.Tables.{is_listed}
use Rattle.nd_provision.specs.Stored.{entry_of}
use Rattle.nd_provision.specs.Told.{AreTold}
use Rattle.nd_provision.proofs.Entering.{entered_new, entered_again}
use Rattle.nd_provision.proofs.Told.{new_by_number, told_added}
use Rattle.nd_provision.proofs.copying.enter_one.Goals as goal

negated : (b : Bool) → true ≡ not b → b ≡ false
negated true h = cc
negated false h = refl

kept : (b : Bool) → false ≡ not b → b ≡ true
kept true h = refl
kept false h = cc

pub returns-then-added-clause-entered : goal.returns-then-added-clause-entered
returns-then-added-clause-entered c =
    let t : List (List ℕ × List (List ℕ)) = c.args.listed.now.entries in
    let l = c.args.listing in
    let is = c.requires.listed in
    let fresh : is_listed t l.path ≡ false =
    sym (new_by_number c.args.listed.now c.args.numbers.now.paths l.number l.path c.requires.told is.known is.path) ∙ negated _ (sym c.if-added.true ∙ c.add-added.ensures.added) in
    entered_new t c.add-added.new.self.entries c.args.numbers.now c.set_row.new.self l fresh
    (c.add-added.ensures.entries ∙ ap (λ (b : Bool). if b then t ++ entry_of l ∷ [] else t) c.if-added.true)
    c.set_row.ensures.paths c.set_row.ensures.rows c.set_row.ensures.within is

pub returns-else-added-clause-entered : goal.returns-else-added-clause-entered
returns-else-added-clause-entered c =
    let t : List (List ℕ × List (List ℕ)) = c.args.listed.now.entries in
    let l = c.args.listing in
    let is = c.requires.listed in
    let known : is_listed t l.path ≡ true =
    sym (new_by_number c.args.listed.now c.args.numbers.now.paths l.number l.path c.requires.told is.known is.path) ∙ kept _ (sym c.if-added.false ∙ c.add-added.ensures.added) in
    entered_again t c.add-added.new.self.entries c.args.numbers.now l known
    (c.add-added.ensures.entries ∙ ap (λ (b : Bool). if b then t ++ entry_of l ∷ [] else t) c.if-added.false)

pub returns-then-added-clause-told : goal.returns-then-added-clause-told
returns-then-added-clause-told c =
    let l = c.args.listing in
    let paths : List (List ℕ) = c.args.numbers.now.paths in
    subst (λ (ps : List (List ℕ)). AreTold c.add-added.new.self ps) (sym c.set_row.ensures.paths)
    (told_added c.args.listed.now c.add-added.new.self paths l.number l.path l.refs c.add-added.result c.requires.listed.known c.requires.listed.path
    c.add-added.ensures.entries c.add-added.ensures.numbers c.requires.told)
