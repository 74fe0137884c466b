use Rattle.std.proofs.Common.{[], ◌∷◌, take, Ok}
use Rattle.std.specs.List.{flat_map}
use Rattle.nd_devices.specs.declared.refusals.Fault.{Fault}
use Rattle.nd_history_text.specs.Lines.{spaced}
use Rattle.nd_devices.specs.Sending.{IsPut}
use Rattle.nd_history_text.proofs.history_writing.put_paths.Given as goal

-- what was passed so far is put
abbrev pub invariant-loop-path : goal.invariant-loop-path
invariant-loop-path g l =
    IsPut {E = Fault} g.W.Write.contents l.fn.out l.fn.page l.out l.page (flat_map (λ path. spaced (path ∷ [])) (take l.path-index l.paths)) (Ok (tt {0}))
