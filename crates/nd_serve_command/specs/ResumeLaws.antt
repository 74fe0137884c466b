-- A journal's bytes have one answer over the same inputs: one history, or one refusal. Want of memory is none. The law is the contract of a
-- function of `laws`.
use Rattle.std.specs.Prelude.{◌≡◌, ◌≢◌, ℕ, List}
use Rattle.nd_history.specs.declared.entry.Entry.{Entry}
use Rattle.nd_history.specs.Premises.{Premises}
use Rattle.nd_serve_command.specs.Resumes.{IsResumable, IsResumeRefused}
use Rattle.nd_serve_command.specs.declared.resume_error.ResumeError.{ResumeError}
use Rattle.nd_serve_command.specs.declared.resume_error.ResumeError.TheVariants.{Memory}

pub record ResumesHaveOneAnswer : Type 0 where
  pub entries : (i : Premises) (bytes : List ℕ) (entries others : List Entry) → IsResumable i bytes entries → IsResumable i bytes others → entries ≡ others
  pub refusal : (i : Premises) (bytes : List ℕ) (e f : ResumeError) → e ≢ Memory → f ≢ Memory → IsResumeRefused i bytes e → IsResumeRefused i bytes f → e ≡ f
  pub either : (i : Premises) (bytes : List ℕ) (entries : List Entry) (e : ResumeError) → e ≢ Memory → IsResumable i bytes entries → IsResumeRefused i bytes e → ⊥
