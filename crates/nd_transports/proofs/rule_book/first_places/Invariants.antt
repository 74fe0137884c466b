use Rattle.nd_transports.specs.Books.{AreFirstsFrom}
use Rattle.nd_transports.proofs.rule_book.first_places.Given as goal

abbrev pub invariant-loop-place : goal.invariant-loop-place
invariant-loop-place l = AreFirstsFrom l.place l.rules l.firsts
