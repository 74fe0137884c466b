use Rattle.std.proofs.Common.{arith}
use Rattle.std.proofs.lemmas.Grind.{common_steps}
use Rattle.nd_history_text.proofs.PathLists.{paths_more}
use Rattle.nd_history_text.proofs.words.path_words.Goals as goal

pub loop-word-preserved : goal.loop-word-preserved
loop-word-preserved c = record {
  read = rw c.in_ok-push_path.ensures.found (paths_more _ _ _ _ c.in-Some.word.now c.loop-word.invariant.read c.in-Some.ensures.found c.in_ok-push_path.ensures.path);
  shorter = grind (arith, common_steps);
}
