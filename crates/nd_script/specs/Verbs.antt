-- The first words of script lines.
-- Public clauses cite this.
use Rattle.std.specs.Prelude.{ℕ, List, codes, if◌then◌else◌, Option, None, Some}
use Rattle.nd_bytes.specs.Compared.{bytes_eq}
use Rattle.nd_script.specs.declared.verb.Verb.{Verb}
use Rattle.nd_script.specs.declared.verb.Verb.TheVariants.{Start, StartWith, Built, Fail, Lose, Down, Stop, Drain, Enable, Ask}

-- what the first word of a line asks for
abbrev pub verb_of : List ℕ → Option Verb
verb_of word =
    if bytes_eq word (codes "start") then Some Start else
    if bytes_eq word (codes "startwith") then Some StartWith else
    if bytes_eq word (codes "built") then Some Built else
    if bytes_eq word (codes "fail") then Some Fail else
    if bytes_eq word (codes "lose") then Some Lose else
    if bytes_eq word (codes "down") then Some Down else
    if bytes_eq word (codes "stop") then Some Stop else
    if bytes_eq word (codes "drain") then Some Drain else
    if bytes_eq word (codes "enable") then Some Enable else
    if bytes_eq word (codes "ask") then Some Ask else None
