-- Which inputs of a command are named on its command line. Public clauses cite this.
use Rattle.std.specs.Prelude.{◌≡◌, ℕ, List, Option, Some, None, codes, option_and_then}
use Rattle.std.specs.Borrow.{Bor}
use Rattle.clap.specs.Matches.{found_of, first_value}
use Rattle.clap.specs.declared.parser.matches.ArgMatches.{ArgMatches}
use Rattle.nd_options.specs.Options.{NamesNoParkFile}

-- the option that names the history: that of the journal where this is given, and else its own
abbrev pub history_option_for : Option (List ℕ) → List ℕ
history_option_for (Some _) = codes "journal"
history_option_for None = codes "history"

-- the file that a command's own option names: none where the command has no such option, or it isn't given
abbrev pub own_name : ArgMatches → Option (Bor (List ℕ)) → Option (List ℕ)
own_name m own = option_and_then (λ option. first_value (found_of m) option.now) own

-- the file that the bundle is read from: none where it is standard input
abbrev pub bundle_name : ArgMatches → Option (List ℕ)
bundle_name m = first_value (found_of m) (codes "bundle")

-- none of the files that a command over a bundle may read is named: the bundle is standard input
pub record NamesNoInput (m : ArgMatches) (own : Option (Bor (List ℕ))) : Type 0 where
  pub park : NamesNoParkFile m
  pub own_file : own_name m own ≡ None
  pub bundle : bundle_name m ≡ None
