-- The longer list is named by the proof alone. Assumes `Logic`.
use Rattle.std.proofs.Common.{[], ◌∷◌, ◌++◌, refl}
use Rattle.std.proofs.raw_atomic.Walks.{proved}
use base.Fml.{ftrue}
use mir.Syntax.{named}
use mir.Val.{vstruct, vnil}
use types.Kit.{‵, raw, ◌⊛◌, ◌$◌, ◌∵◌, !, qed, move, keep, split, suffices, done}
use types.Part.{agg}
use types.Run.{enter, no_more, returns}
use types.ByLocal.{alloc_all, pass_all, free_all, look_at, sets}
use denote.Exit.{yes}
use denote.RattleType.{owns}
use denote.Ref.{shr_vals, shr_Tells}
use denote.Shadow.{pure_i}
use denote.Signature.{plain, types_at}
use denote.Triple.Entry.{alive}
use denote.Triple.Walked.{Goes-none_ref, Stays, stay_none_ref, walk_of, says, ends_at}
use Rattle.nd_transports.specs.contracts.calls_so_far.CallsSoFar as made
use Rattle.nd_transports.specs.contracts.calls_so_far.CallsSoFar.for_job as f
use Rattle.nd_ledger.specs.contracts.job.Job as job
use Rattle.nd_transports.specs.declared.calls_so_far.CallsSoFar.{CallsSoFar}
use Rattle.nd_transports.proofs.calls_so_far.CallsSoFar.for_job.Statement.{statement}
use Rattle.nd_transports.proofs.calls_so_far.CallsSoFar.for_job.Code as code

abbrev stayed : Stays f.ended.signature.params f.ended.kept
stayed = (stay_none_ref (0 ∷ []) tt (plain (λ _. made.the_row)) yes, (stay_none_ref (1 ∷ []) tt (plain (λ _. job.the_row)) yes, tt))

pub for_job_spec : {M : Type 1} → statement M
for_job_spec 𝓤 𝓛 𝓜 𝓡 wired =
    let c = f.clauses 𝓛 𝓜.mem 𝓡.returns in let W = walk_of 𝓛 f.ended stayed c in
    proved 𝓛 f.ended stayed c 𝓜 𝓡 (Goes-none_ref 𝓛 2 (0 ∷ []) tt (plain (λ _. made.the_row)) yes, (Goes-none_ref 𝓛 2 (1 ∷ []) tt (plain (λ _. job.the_row)) yes, tt))
    f.Key.name code.function (code.unfolded 𝓤 𝓛.H 𝓜 𝓡 wired)
    (λ κs. (shr_vals, (shr_vals, tt))) (λ κs. (shr_Tells (named 0) κs.0 made.the_row, (shr_Tells (named 1) κs.1.0 job.the_row, tt))) (λ κs qs bounds a g are.
    let y : W.Ghost = ((κs, qs, bounds, a, (shr_vals a.0, (shr_vals a.1.0, tt))), tt) in
    let more : CallsSoFar = record { job = a.1.0.now; deeds = a.0.now.deeds } in
    qed 𝓛 ((raw (alive 𝓛 f.signature κs qs) ⊛ ‵ (owns (types_at f.signature.params κs) a y.0.4)) ∷ ‵ ftrue ∷ []) ∵
    split ! $ keep ! (0 ∷ 1 ∷ []) $
    enter ! _ _ _ _ _ $ alloc_all ! (λ l. pass_all ! refl ((tt, tt), ((tt, tt), tt)) $
    sets ! (agg ! (no_more !)) refl (tt, tt) $
    returns ! (look_at ! 0 refl) $ free_all ! refl $
    suffices ! _ (ends_at 𝓛 f.ended stayed c y (vstruct vnil) more (tt, (tt, tt)) (tt, (tt, tt))) $
    says ! refl $ pure_i ! (made.the_row.own_val more (vstruct vnil ∷ [])) ((λ vss. (tt, tt)), tt) ((tt, (refl, tt)), tt) $
    move ! (1 ∷ 2 ∷ 0 ∷ []) $ done !))
