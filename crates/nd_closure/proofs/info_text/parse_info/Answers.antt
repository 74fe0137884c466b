use Rattle.std.proofs.Common.{◌+◌, ◌≡◌, ◌∷◌, ◌++◌, [], List, ℕ, Bool, Bor, ap, ◌∙◌}
use Rattle.std.specs.Prelude.{if◌then◌else◌}
use Rattle.std.specs.Option.{option_copied}
use Rattle.nd_closure.proofs.Texts.{read_on, refused_by, refused_again, all_read, some_left, none_left, rest_now, not_added, was_added}
use Rattle.nd_closure.specs.declared.info_error.InfoError.TheVariants.{BadLine}
use Rattle.nd_closure.proofs.Once.{table_once, memory_alone}
use Rattle.nd_closure.proofs.info_text.parse_info.Goals as goal

pub returns-in-Err-clause-refused : goal.returns-in-Err-clause-refused
returns-in-Err-clause-refused c =
    rw c.refusal.ensures (refused_by c.args.text.now c.loop-left.table.entries c.loop-left.left.now c.cut.result.0.now (option_copied c.cut.result.1)
    c.loop-left.number c.in-Err.fault c.loop-left.invariant (some_left c.loop-left.left.now c.loop-left-test.ensures) c.cut.ensures.whole c.in-Err.ensures.refused)

pub returns-in-Err-clause-exactly : goal.returns-in-Err-clause-exactly
returns-in-Err-clause-exactly c = λ entries h. memory_alone c.args.text.now c.refusal.result entries (returns-in-Err-clause-refused c) h

pub returns-then-not-added-clause-refused : goal.returns-then-not-added-clause-refused
returns-then-not-added-clause-refused c =
    refused_again c.args.text.now c.loop-left.table.entries c.loop-left.left.now c.cut.result.0.now (option_copied c.cut.result.1)
    c.loop-left.number c.in-Ok.entry c.loop-left.invariant (some_left c.loop-left.left.now c.loop-left-test.ensures) c.cut.ensures.whole c.in-Ok.ensures.found
    (not_added _ _ c.in_ok-added.ensures.added c.if-not-added.true)

pub returns-then-not-added-clause-exactly : goal.returns-then-not-added-clause-exactly
returns-then-not-added-clause-exactly c = λ entries h.
    memory_alone c.args.text.now (BadLine (c.loop-left.number + 1)) entries (returns-then-not-added-clause-refused c) h

pub loop-left-preserved : goal.loop-left-preserved
loop-left-preserved c =
    let entries : c.add.new.self.entries ≡ c.loop-left.table.entries ++ c.in-Ok.entry ∷ [] =
    c.in_ok-added.ensures.entries
    ∙ ap (λ (b : Bool). if b then c.loop-left.table.entries ++ c.in-Ok.entry ∷ [] else c.loop-left.table.entries) c.if-not-added.false in
    let left = ap (λ (b : Bor (List ℕ)). b.now) c.unwrap_or-left.ensures ∙ rest_now c.cut.result.1 _ in
    rw (entries, left) (read_on c.args.text.now c.loop-left.table.entries c.loop-left.left.now c.cut.result.0.now (option_copied c.cut.result.1)
    c.loop-left.number c.in-Ok.entry c.loop-left.invariant (some_left c.loop-left.left.now c.loop-left-test.ensures) c.cut.ensures.whole c.cut.ensures.shorter
    c.in-Ok.ensures.found (was_added _ _ c.in_ok-added.ensures.added c.if-not-added.false))

pub returns-clause-found : goal.returns-clause-found
returns-clause-found c = all_read c.args.text.now c.loop-left.table.entries c.loop-left.left.now c.loop-left.number c.loop-left.invariant
    (none_left c.loop-left.left.now c.loop-left-test.ensures)

pub returns-clause-exactly : goal.returns-clause-exactly
returns-clause-exactly c = λ entries h. table_once c.args.text.now c.loop-left.table.entries entries (returns-clause-found c) h
