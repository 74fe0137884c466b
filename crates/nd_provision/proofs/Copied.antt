-- Copied paths that are just what a machine lacks.
use Rattle.std.proofs.Common.{◌≡◌, ℕ, ◌<◌, true, List, length, Option, Some, None, subst}
use Rattle.std.specs.Prelude.{OnSome}
use Rattle.nd_path_numbers.specs.Numbers.{row_in}
use Rattle.nd_path_numbers.specs.Held.{hold_of}
use Rattle.nd_path_numbers.specs.Searches.{FindsUnheld}
use Rattle.nd_history.specs.Premises.{Premises}
use Rattle.nd_provision.specs.Copies.{IsMissingIn}
use Rattle.nd_provision.specs.Stored.{Stored, ArePathsRightBy}
use Rattle.nd_provision.proofs.Storing.{exact_by, unheld_by}

pub on_some : {X : Type 0} {P Q : Type 0} (r : Option X) → (P → Q) → OnSome r P → OnSome r Q
on_some None f h = h
on_some (Some x) f h = f h

pub some_is : {X : Type 0} {P : Type 0} (r : Option X) (x : X) → r ≡ Some x → OnSome r P → P
some_is {P = P} r x is h = subst (λ o. OnSome o P) is h

-- what a search finds is missing
pub missing_in : (s : Stored) (d m : ℕ) (paths : List (List ℕ)) → m < length s.stocks → s.whole ≡ true → FindsUnheld s.numbers (hold_of s.stocks m).numbers (row_in s.seeds d) paths → IsMissingIn s d m paths
missing_in s d m paths within whole finds = record { tells = λ i ranged. unheld_by i s d m paths within ranged whole finds }

pub exact_in : (i : Premises) (s : Stored) (d m : ℕ) (paths : List (List ℕ)) → d < length i.graph.paths → IsMissingIn s d m paths → ArePathsRightBy i s d m paths
exact_in i s d m paths ranged are = exact_by i s d m paths (are.tells i ranged)
