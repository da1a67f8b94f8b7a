-- Whether what a check of a stored image gives agrees with the stored answer, and if not, what differs first: docs/STORED_ANSWERS.md, 'What is compared'.
use Rattle.std.specs.Prelude.{ℕ, ◌≤◌, ◌≡◌, Bool, cond, ◌&&◌, List, eqb, length, take, drop}
use Rattle.std.specs.Prelude.{Option, None, Some, Result, Ok, Err}
use Rattle.oce_model.specs.Format.{longest_image}
use Rattle.oce_model.specs.Refusals.{refusal}
use Rattle.oce_model.specs.declared.Refusal.{Refusal}
use Rattle.oce_diag.specs.Diagnostics.{errors, warnings}
use Rattle.oce_diag.specs.declared.Counted.{Counted}
use Rattle.outcome.specs.Filled.{filled_of}
use Rattle.outcome.specs.Answer.{Answer, report_of, answer}
use Rattle.stored.specs.Files.{said}
use Rattle.stored.specs.declared.Results.{Results}
use Rattle.stored.specs.declared.Record.{Record}
use Rattle.agreement_diagnostics.specs.Diagnostics.{compared, Reported}
use Rattle.agreement_filled.specs.Filled.{filled_agrees}
use Rattle.agreement.specs.declared.Difference.{Difference}
use Rattle.agreement.specs.declared.Difference.TheVariants.{Refusal as Refusals, Counts, Diagnostic, Filled}

-- nothing, or what differs first
abbrev pub Agreement : Type 0
Agreement = Result (Unit {0}) Difference

-- the most bytes that the report of a stored image has
abbrev pub longest_report : ℕ
longest_report = 131072

-- two refusals have the same number and offset
abbrev pub same_refusal : Refusal → Refusal → Bool
same_refusal r here = eqb r.number here.number && eqb r.offset here.offset

-- a refusal here beside what a stored answer says
abbrev pub refusal_agreement : Result (Option Results) Refusal → Refusal → Agreement
refusal_agreement (Err r) here = cond (same_refusal r here) (Ok tt) (Err (Refusals (Some here)))
refusal_agreement (Ok told) here = Err (Refusals (Some here))

-- the filled image, where all diagnostics agree: its records begin behind them, and end with the stored record
abbrev pub filled_agreement : List ℕ → ℕ → Results → List ℕ → Result ℕ ℕ → Agreement
filled_agreement f end t s (Err n) = Err (Diagnostic n)
filled_agreement f end t s (Ok at) = cond (filled_agrees f at t.filled end s) (Ok tt) (Err Filled)

-- counts, each diagnostic of the report, in their order, then the filled image
unfoldable pub results_agreement : List ℕ → ℕ → Results → List ℕ → Agreement
results_agreement f end t s =
    cond (eqb t.counted.errors (errors (report_of s)) && eqb t.counted.warnings (warnings (report_of s)))
    (filled_agreement f end t s (compared f t.diagnostics s (report_of s))) (Err Counts)

-- an image that is accepted here beside what a stored answer says: the results, where they are told
abbrev pub accepted_agreement : List ℕ → ℕ → List ℕ → Result (Option Results) Refusal → Agreement
accepted_agreement f end s (Err r) = Err (Refusals None)
accepted_agreement f end s (Ok None) = Ok tt
accepted_agreement f end s (Ok (Some t)) = results_agreement f end t s

-- a record beside an answer of the check
abbrev pub agreement_with : List ℕ → Record → List ℕ → Answer → Agreement
agreement_with f r s (Err here) = refusal_agreement (said r.answer) here
agreement_with f r s (Ok c) = accepted_agreement f r.end s (said r.answer)

-- the image of a stored record of the file f
abbrev pub image_of : List ℕ → Record → List ℕ
image_of f r = take r.len (drop r.image f)

unfoldable pub agreement : List ℕ → Record → Agreement
agreement f r = agreement_with f r (image_of f r) (answer (image_of f r) longest_image longest_report)

-- what a check leaves of an accepted image s: counts, and both buffers
pub record Leaves (s : List ℕ) (c : Counted) (filled report : List ℕ) : Type 0 where
  pub accepted : refusal s ≡ None
  pub short : length s ≤ longest_image
  pub counts : (c.errors ≡ errors (report_of s)) × (c.warnings ≡ warnings (report_of s))
  pub reported : Reported (report_of s) report
  pub front : take (length s) filled ≡ filled_of s
