-- Lists of calls, made one after the other. Assumes nothing.
use Rattle.std.proofs.Common.{◌≡◌, ℕ, ◌+◌, ◌<◌, true, List, [], ◌∷◌, ◌++◌, length, get_or, take, Ok, Option, Result, sym, subst}
use Rattle.std.proofs.lemmas.List.{take_more}
use Rattle.grid.specs.declared.junction.Junction.{Junction}
use Rattle.refusal.specs.declared.kinds.CallFault.{CallFault}
use Rattle.refusal.specs.declared.kinds.Denial.{Denial}
use Rattle.refusal.specs.declared.kinds.Name.{Name}
use Rattle.refusal.specs.declared.kinds.Reason.{Reason}
use Rattle.reservation.specs.declared.request.Request.{Request}
use Rattle.reservation.specs.Cells.{share}
use Rattle.policy.specs.Answers.{Answer as Answers}
use Rattle.policy.specs.Views.{Advanced, Told, asked, released}
use Rattle.message.specs.declared.row.MessageRow.{MessageRow}
use Rattle.vehicle.specs.declared.rows.VehicleRow.{VehicleRow}
use Rattle.run.specs.declared.call.Call.{Call}
use Rattle.run.specs.declared.run.Run.{Run}
use Rattle.run.specs.Calls.{Answer, Makes, Opens}
use Rattle.run.specs.Worlds.{Conduct, Stage, stage}
use Rattle.invariant.specs.Promises.{Ran, Reached, Sound, none, next}
use Rattle.invariant.proofs.Inv.{Lawful}
use Rattle.invariant.proofs.Whole.{opened_safe, ran_safe, sound}
use Rattle.history.specs.Played.{StaysSound}

module _ {P : Type 0} (c : Conduct P) where
  -- one call more
  pub ran_more : (s t u : Stage P) (xs : List Call) (answers : List Answer) (x : Call) (a : Answer)
      → Ran c s xs answers t → Makes c t x a u → Ran c s (xs ++ x ∷ []) (answers ++ a ∷ []) u
  ran_more s t u [] [] x a (none _) made = next s u u x a [] [] made (none u)
  ran_more s t u [] (b ∷ given) x a ran made = elim ran [ ]
  ran_more s t u (y ∷ ys) [] x a ran made = elim ran [ ]
  ran_more s t u (y ∷ ys) (b ∷ given) x a (next _ between _ _ _ _ _ first rest) made =
      next s between u y b (ys ++ x ∷ []) (given ++ a ∷ []) first (ran_more between t u ys given x a rest made)

  -- and one list after the other
  pub ran_joined : (s t u : Stage P) (xs ys : List Call) (answers given : List Answer)
      → Ran c s xs answers t → Ran c t ys given u → Ran c s (xs ++ ys) (answers ++ given) u
  ran_joined s t u [] ys [] given (none _) rest = rest
  ran_joined s t u [] ys (a ∷ answers) given ran rest = elim ran [ ]
  ran_joined s t u (x ∷ xs) ys [] given ran rest = elim ran [ ]
  ran_joined s t u (x ∷ xs) ys (a ∷ answers) given (next _ between _ _ _ _ _ first more) rest =
      next s between u x a (xs ++ ys) (answers ++ given) first (ran_joined between t u xs ys answers given more rest)

-- the first i calls of the list were made
pub record Playing {P : Type 0} (c : Conduct P) (s : Stage P) (calls : List Call) (i : ℕ) (answers : List Answer) (t : Stage P) : Type 0 where
  pub ran : Ran c s (take i calls) answers t

module _ {P : Type 0} (c : Conduct P) (s : Stage P) (calls : List Call) where
  pub playing_none : Playing c s calls 0 [] s
  playing_none = record { ran = none s }

  pub playing_more : (i : ℕ) (given : List Answer) (t u : Stage P) (d : Call) (a : Answer) → i < length calls
      → Playing c s calls i given t → Makes c t (get_or calls i d) a u → Playing c s calls (i + 1) (given ++ a ∷ []) u
  playing_more i given t u d a lt p made = record {
    ran = subst (λ xs. Ran c s xs (given ++ a ∷ []) u) (sym (take_more calls i d lt)) (ran_more c s t u (take i calls) given (get_or calls i d) a p.ran made);
  }

-- the laws that any policy shows, as a run needs them
pub laws_shown : {P : Type 0} {clash : Junction → Request → Request → Type 0} {c : Conduct P} (gate : P → Request → Option Reason)
    → ((j : Junction) (x y : Request) → clash j x y → clash j y x) → ((j : Junction) (x y : Request) → share j x y ≡ true → clash j x y)
    → ((p : P) (r : Request) (a : Result (Unit {0}) Denial) (t : P) → c.asks p r a t → Answers clash (c.view p) (gate p r) r a)
    → ((p : P) (r : Request) (a : Result (Unit {0}) Denial) (t : P) → c.asks p r a t → c.view t ≡ asked (c.view p) r a)
    → ((p : P) (n : Name) (a : _) (t : P) → c.releases p n a t → c.view t ≡ released (c.view p) n)
    → ((p : P) (a : Result (Unit {0}) CallFault) (t : P) → c.advances p a t → Advanced (c.view p) a (c.view t)) → Lawful clash c
laws_shown gate symmetric covers answers records removes passes = record {
  symmetric = symmetric;
  covers = covers;
  answers = λ p r a t h. (gate p r, answers p r a t h);
  records = records;
  removes = removes;
  passes = passes;
}

-- what holds after lists of calls, over any policy that shows the laws
module _ {P : Type 0} (clash : Junction → Request → Request → Type 0) (c : Conduct P) (lawful : Lawful clash c)
    (marks : P → Option (ℕ → ℕ → ℕ)) (told : (p : P) → Told (marks p) (c.view p)) where
  pub reached_sound : (s : Stage P) → Reached c s → Sound c.view marks s
  reached_sound s r =
      sound clash c lawful marks told s
      (ran_safe clash c lawful _ s r.calls r.answers (opened_safe clash c lawful r.vehicles r.mail r.policy r.run r.opens) r.ran)

  pub stays_sound : (s t : Stage P) (calls : List Call) (answers : List Answer) → Ran c s calls answers t → StaysSound c marks s t
  stays_sound s t calls answers ran r =
      let on : Reached c t = record {
        vehicles = r.vehicles;
        mail = r.mail;
        policy = r.policy;
        run = r.run;
        opens = r.opens;
        calls = r.calls ++ calls;
        answers = r.answers ++ answers;
        ran = ran_joined c _ s t r.calls calls r.answers answers r.ran ran;
      } in
      (on, reached_sound t on)

-- what holds of a run that is gone on with, holds of one that was just opened
pub opened_sound : {P : Type 0} (c : Conduct P) (marks : P → Option (ℕ → ℕ → ℕ)) (vs : List VehicleRow) (ms : List MessageRow)
    (p : P) (first : Run) (s : Stage P)
    → Opens vs ms (c.view p) (Ok first) → StaysSound c marks (stage first vs ms p) s → Sound c.view marks s
opened_sound c marks vs ms p first s opens stays =
    (stays (record {
      vehicles = vs;
      mail = ms;
      policy = p;
      run = first;
      opens = opens;
      calls = [];
      answers = [];
      ran = none _;
    })).1
