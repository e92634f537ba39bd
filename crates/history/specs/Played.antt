-- A list of run calls that was played. Assumes nothing.
use Rattle.std.specs.Prelude.{◌≡◌, ℕ, List, Ok, Err, Vec, vec_items, Option, Result}
use Rattle.std.specs.Result.{MatchResult}
use Rattle.std.specs.declared.alloc.AllocError.{AllocError}
use Rattle.std.specs.declared.alloc.Global.{Global}
use Rattle.message.specs.declared.row.MessageRow.{MessageRow}
use Rattle.run.specs.declared.call.Call.{Call}
use Rattle.run.specs.declared.run.Run.{Run}
use Rattle.run.specs.Calls.{Answer, Opens}
use Rattle.run.specs.Worlds.{Conduct, Stage, stage}
use Rattle.vehicle.specs.declared.rows.VehicleRow.{VehicleRow}
use Rattle.invariant.specs.Promises.{Ran, Reached, Sound}
use Rattle.history.specs.declared.played.Played.{Played}
use Rattle.history.specs.declared.played.Unplayed.{Unplayed}
use Rattle.history.specs.declared.played.Unplayed.TheVariants.{NoMemory, Refused}

-- a run was opened over these memories and this policy, and the calls of the list were made on it: these are the
-- answers, and so the memories and the policy are left. A run that is refused, or for whose answers there is no memory,
-- leaves all as it was
module _ {P : Type 0} (c : Conduct P) (vs : List VehicleRow) (ms : List MessageRow) (p : P) (calls : List Call)
    (vs' : List VehicleRow) (ms' : List MessageRow) (p' : P) where
  pub record Plays (played : Played) : Type 0 where
    pub run : Run
    pub opens : Opens vs ms (c.view p) (Ok run)
    pub ran : Ran c (stage run vs ms p) calls (vec_items played.answers) (stage played.run vs' ms' p')

  pub record Untouched : Type 0 where
    pub vehicles : vs' ≡ vs
    pub mail : ms' ≡ ms
    pub policy : p' ≡ p

  abbrev pub Replays : Result Played Unplayed → Type 0
  Replays (Ok played) = Plays played
  Replays (Err (Refused f)) = Opens vs ms (c.view p) (Err f) × Untouched
  Replays (Err NoMemory) = Untouched

-- the calls of a further list were made on s; where there is no memory for the answers, nothing was done
abbrev pub GoesOn : {P : Type 0} → Conduct P → Stage P → List Call → Stage P → Result (Vec Answer Global) AllocError → Type 0
GoesOn c s calls s' answers = MatchResult answers (λ given. Ran c s calls (vec_items given) s') (λ _. s' ≡ s)

-- where s was reached from an open by run calls, so was s', and what has to hold holds of it
abbrev pub StaysSound : {P : Type 0} → Conduct P → (P → Option (ℕ → ℕ → ℕ)) → Stage P → Stage P → Type 0
StaysSound c marks s s' = Reached c s → Reached c s' × Sound c.view marks s'
