-- How far the rules fix what comes of a message. Assumes nothing.
use Rattle.std.specs.Prelude.{◌≡◌, Bool, Option, Result}
use Rattle.refusal.specs.declared.kinds.Denial.{Denial}
use Rattle.refusal.specs.declared.kinds.Name.{Name}
use Rattle.refusal.specs.declared.kinds.Reason.{Reason}
use Rattle.reservation.specs.declared.request.Request.{Request}
use Rattle.message.specs.declared.row.MessageRow.{MessageRow}
use Rattle.vehicle.specs.declared.rows.VehicleRow.{VehicleRow}
use Rattle.run.specs.Manager.{Acts, Outcome}
use Rattle.run.specs.Worlds.{Conduct}

-- two outcomes with one row, one reply, and policies that are alike
pub record SameOutcome {P : Type 0} (alike : P → P → Type 0) (x y : Outcome P) : Type 0 where
  pub row : x.row ≡ y.row
  pub reply : x.reply ≡ y.reply
  pub policy : alike x.policy y.policy

module _ {P : Type 0} (c : Conduct P) where
  -- an ask and a release leave one policy for each answer
  pub record Functional : Type 0 where
    pub ask : (p : P) (r : Request) (a : Result (Unit {0}) Denial) (x y : P) → c.asks p r a x → c.asks p r a y → x ≡ y
    pub release : (p : P) (n : Name) (a : Bool) (x y : P) → c.releases p n a x → c.releases p n a y → x ≡ y

  -- then whatever fits the message is this outcome
  abbrev pub Once : P → VehicleRow → MessageRow → Outcome P → Type 0
  Once p row m o = Functional → (x : Outcome P) → Acts c p row m x → x ≡ o

  module _ (gate : P → Request → Option Reason) where
    -- policies that tell the same, and refuse the same of their own accord, whatever else their memory holds
    abbrev pub Alike : P → P → Type 0
    Alike p q = (c.view p ≡ c.view q) × ((s : Request) → gate p s ≡ gate q s)

    -- the gates of those alike stay the same over an ask and a release with one answer
    pub record Steady : Type 0 where
      pub ask : (p q : P) (r : Request) (a : Result (Unit {0}) Denial) (x y : P)
          → Alike p q → c.asks p r a x → c.asks q r a y → (s : Request) → gate x s ≡ gate y s
      pub release : (p q : P) (n : Name) (a : Bool) (x y : P)
          → Alike p q → c.releases p n a x → c.releases q n a y → (s : Request) → gate x s ≡ gate y s

    -- then whatever fits the message has this row, this reply, and a policy alike
    abbrev pub Only : P → VehicleRow → MessageRow → Outcome P → Type 0
    Only p row m o = Steady → (x : Outcome P) → Acts c p row m x → SameOutcome Alike x o
