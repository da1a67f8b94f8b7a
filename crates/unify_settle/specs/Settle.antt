-- What the code's steps give for one detail of rule 6 over the members of one cluster (FORMAT 16).
use Rattle.std.specs.Prelude.{ℕ, ◌≡◌, Bool, true, cond, List, [], ◌∷◌, Option, Some, None, Result, Ok, Err}
use Rattle.base.specs.Lists.{all}
use Rattle.unify.specs.Slots.{Slots, agree}
use Rattle.unify.specs.Unify.{declarations}
use Rattle.unify.specs.declared.Detail.{Detail}
use Rattle.unify_settle.specs.declared.Conflict.{Conflict}
use Rattle.unify_settle.specs.declared.First.{First}

-- the first value that members declare, and the members behind
abbrev pub FirstOf : Detail → Slots → List ℕ → Option First → Type 0
FirstOf d σ js None = declarations d σ js ≡ []
FirstOf d σ js (Some first) = declarations d σ js ≡ first.value ∷ declarations d σ first.rest.now

-- what a member declares, if it does, agrees with v
abbrev pub member_agrees : List (List ℕ) → Detail → ℕ → Option ℕ → Bool
member_agrees ts d v None = true
member_agrees ts d v (Some u) = agree ts d v u

abbrev pub disagreed : Result (Option ℕ) Conflict
disagreed = Err (record {})

-- the first of all that is declared, where the rest agrees with it
unfoldable pub agreed : List (List ℕ) → Detail → List ℕ → Result (Option ℕ) Conflict
agreed ts d [] = Ok None
agreed ts d (v ∷ vs) = cond (all (agree ts d v) vs) (Ok (Some v)) disagreed
