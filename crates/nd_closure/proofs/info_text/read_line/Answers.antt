use Rattle.std.proofs.Common.{ap, ◌∙◌, ◌∷◌, ◌++◌, List, ℕ}
use Rattle.std.specs.Option.{option_copied}
use Rattle.std.proofs.lemmas.Result.{err_from_is_err_and}
use Rattle.std.proofs.lemmas.List.Elements.{All-push}
use Rattle.nd_path.specs.Refusals.{IsPath}
use Rattle.nd_bytes.specs.Cut.{pieces}
use Rattle.nd_closure.proofs.Words.{bad_other, words_more}
use Rattle.nd_closure.proofs.info_text.read_line.Goals as goal

pub returns-in_err-parse-clause-refused : goal.returns-in_err-parse-clause-refused
returns-in_err-parse-clause-refused c =
    let p = err_from_is_err_and c.from_residual-in_err-parse.result c.from_residual-in_err-parse.ensures.1 in
    rw (p.1, p.2) (bad_other c.args.line.now c.path.inside.text.value c.cut-in-Some.result.0.now c.loop-left.refs.items
    (pieces 32 (option_copied c.cut-in-Some.result.1)) c.in_err-parse.field-0.0
    (c.loop-left.invariant.words ∙ ap (λ (ws : List (List ℕ)). c.path.inside.text.value ∷ (c.loop-left.refs.items ++ ws))
    (ap (pieces 32) (ap option_copied c.in-Some.is) ∙ c.cut-in-Some.ensures.whole))
    c.in_err-parse.ensures.refused)

pub loop-left-preserved : goal.loop-left-preserved
loop-left-preserved c = record {
  words = rw c.in_ok-push.ensures.items (words_more c.args.line.now c.path.inside.text.value c.loop-left.refs.items (option_copied c.loop-left.left)
      c.in-Some.bytes.now c.cut-in-Some.result.0.now c.in_ok-parse.field-0 (pieces 32 (option_copied c.cut-in-Some.result.1))
      c.loop-left.invariant.words (ap option_copied c.in-Some.is) c.cut-in-Some.ensures.whole c.in_ok-parse.ensures.found);
  paths = rw c.in_ok-push.ensures.items (All-push IsPath c.loop-left.refs.items c.in_ok-parse.field-0 c.loop-left.invariant.paths c.in_ok-parse.ensures.path);
}
