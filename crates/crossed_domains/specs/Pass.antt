-- How the code takes the sorted members in: what it keeps of the open group, one member at a time.
use Rattle.std.specs.Prelude.{ℕ, ◌+◌, ◌≤◌, ◌<◌, ◌≡◌, Bool, cond, ◌&&◌, ◌||◌, List, [], ◌∷◌, ltb, length, get_or}
use Rattle.base.specs.Lists.{only}
use Rattle.oce_model.specs.Texts.{order, is_equal}
use Rattle.oce_model.specs.Model.{Model}
use Rattle.oce_diag.specs.Diagnostics.{error}
use Rattle.oce_diag.specs.Reporting.{Puts}
use Rattle.oce_diag.specs.declared.Diagnostic.{Diagnostic}
use Rattle.oce_diag.specs.declared.report.Report.{Report}
use Rattle.oce_diag.specs.declared.Subject.TheVariants.{Text}
use Rattle.oce_diag.specs.declared.DiagCode.TheVariants.{CrossedBounds}
use Rattle.crossed_bounds.specs.Ranges.{crossed, uncrossed, take_in}
use Rattle.crossed_bounds.specs.CrossedBounds.{member_iri, member_external, member_key}
use Rattle.crossed_bounds.specs.Ends.{Range}
use Rattle.crossed_members.specs.Members.{member_range}
use Rattle.crossed_domains.specs.declared.Pass.{Pass}

-- a group is opened by member x, which is external or not and has range r
unfoldable pub opened : ℕ → Bool → Range → Pass
opened x e r = record { first = x; members = 1; external = e; kept = uncrossed r }

-- a member joins the open group
unfoldable pub grown : Pass → Bool → Range → Pass
grown p e r = record { first = p.first; members = p.members + 1; external = p.external || e; kept = take_in p.kept r }

-- the open group is to be reported
unfoldable pub is_reported : Pass → Bool
is_reported p = p.external && ltb 1 p.members && crossed p.kept

-- what is reported of it
unfoldable pub pass_faults : Model → Pass → List Diagnostic
pass_faults m p = only (is_reported p) (error CrossedBounds 5 4 (Text (member_iri m p.first)) p.members)

-- two members have one key
unfoldable pub same_key : Model → ℕ → ℕ → Bool
same_key m x y = is_equal (order (member_key m x) (member_key m y))

-- the numbers of the list are below n
abbrev pub Below : ℕ → List ℕ → Type 0
Below n [] = Unit {0}
Below n (x ∷ xs) = (x < n) × Below n xs

-- the same, by index
pub record AllMembers (n : ℕ) (xs : List ℕ) : Type 0 where
  pub at : (i : ℕ) → i < length xs → get_or xs i 0 < n

-- the next member joins the open group, or that is closed and the member opens another
pub record Stepped (m : Model) (p : Pass) (x : ℕ) (r₀ r : Report) (q : Pass) : Type 0 where
  pub put : Puts 1 (cond (same_key m p.first x) [] (pass_faults m p)) r₀ r
  pub next : q ≡ cond (same_key m p.first x) (grown p (member_external m x) (member_range m x)) (opened x (member_external m x) (member_range m x))
  pub more : q.members ≤ p.members + 1
