use Rattle.std.proofs.Common.{◌≡◌, ap, ◌∙◌, subst}
use Rattle.nd_path_numbers.specs.Held.{Hold, hold_of}
use Rattle.nd_provision.specs.Stored.{Stored, AreRowsCovered, AreListingsCovered}
use Rattle.nd_provision.proofs.Entering.{refs_held}
use Rattle.nd_provision.proofs.stores.Stores.is_provided.Goals as goal

pub returns : goal.returns
returns c = record {
  held = λ told has.
      let now = c.args.self.now in
      let hold = hold_of now.stocks c.args.m in
      let held : c.held-held.result.now ≡ hold = c.held-held.ensures ∙ ap (λ (s : Stored). hold_of s.stocks c.args.m) c.self.view_is in
      let rows : AreRowsCovered now.numbers.rows hold.numbers c.args.own.now c.args.own.now =
      subst (λ (s : Stored). AreRowsCovered s.numbers.rows hold.numbers c.args.own.now c.args.own.now) c.self.view_is
      (subst (λ (h : Hold). AreRowsCovered c.self.inside.numbers.rows h.numbers c.args.own.now c.args.own.now) held (c.are_rows_held.ensures c.if-not-are_rows_held.false)) in
      let listed : AreListingsCovered c.args.entries.now hold.numbers c.args.own.now =
      subst (λ (h : Hold). AreListingsCovered c.args.entries.now h.numbers c.args.own.now) held (c.are_listings_held.ensures has) in
      refs_held now.entries now.numbers hold.numbers c.args.own.now c.args.entries.now c.requires.known c.requires.listed rows listed told;
}
