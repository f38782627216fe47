-- The invariant of an id holds at a start and is kept by each step; and what follows from it in each state. For a world that keeps an
-- induction of its own.
use Rattle.sl_ids.specs.Invariant.{Invariant}
use Rattle.sl_ids.specs.Runs.{IsBounded, IsStart}
use Rattle.sl_ids.specs.State.{Content, Free, IsLast, Live, SessionId, State, moment, shown}
use Rattle.sl_ids.specs.Steps.{Decide, End, LandClaim, LandOwn, Lose, Pass, Renew, Step, TearClaim, Verify}
use Rattle.sl_ids.specs.Terms.{AreLongEnough, Terms}
use Rattle.std.specs.Prelude.{Some, false, true, ℕ, ◌+◌, ◌<◌, ◌≡◌, ◌⊎◌}

abbrev pub StartHolds : Type 0
StartHolds = (r : Terms) (w : State) → AreLongEnough r → IsStart w → Invariant r w

-- Whoever decides finds no verified session alive, and no claim pending on another base.
abbrev pub DecidingKeeps : Type 0
DecidingKeeps = (r : Terms) (w v : State) (s : SessionId) → Invariant r w → IsBounded r w → Decide r w v s → Invariant r v

-- Whoever verifies his claim finds no other claim pending.
abbrev pub VerifyingKeeps : Type 0
VerifyingKeeps = (r : Terms) (w v : State) (s : SessionId) → Invariant r w → IsBounded r w → IsBounded r v → Verify r w v s → Invariant r v

-- A claim lands.
pub record ClaimLandingKeeps : Type 0 where
  pub whole : (r : Terms) (w v : State) (s : SessionId) → Invariant r w → LandClaim w v s → Invariant r v
  pub torn : (r : Terms) (w v : State) (s : SessionId) → Invariant r w → TearClaim w v s → Invariant r v

-- A renewal or a free lands.
abbrev pub OwnLandingKeeps : Type 0
OwnLandingKeeps = (r : Terms) (w v : State) (s : SessionId) → Invariant r w → LandOwn w v s → Invariant r v

-- Nothing lands, and nothing is read that decides.
pub record QuietKeeps : Type 0 where
  pub pass : (r : Terms) (w v : State) → Invariant r w → Pass w v → Invariant r v
  pub lose : (r : Terms) (w v : State) (s : SessionId) → Invariant r w → Lose w v s → Invariant r v
  pub renew : (r : Terms) (w v : State) (s : SessionId) → Invariant r w → Renew w v s → Invariant r v
  pub end : (r : Terms) (w v : State) (s : SessionId) → Invariant r w → End w v s → Invariant r v

-- Any step, between two states that the watchdogs bound.
abbrev pub StepKeeps : Type 0
StepKeeps = (r : Terms) (w v : State) → Invariant r w → IsBounded r w → IsBounded r v → Step r w v → Invariant r v

-- The newest landing, beside a verified session that is not over: it isn't free; if it is live it is less than `gone` old, and in any
-- case less than `hold` and `gone`.
pub record IsFresh (r : Terms) (w : State) (k : ℕ) (x : Content) : Type 0 where
  pub not_free : x.kind ≡ Free → ⊥
  pub live : x.kind ≡ Live → w.now < moment w k + r.gone
  pub any : w.now + 1 < moment w k + (r.hold + r.gone)

abbrev pub SectorIsFresh : Type 0
SectorIsFresh = (r : Terms) (w : State) → Invariant r w → IsBounded r w → (s : SessionId) → (w.session s).verified ≡ true
    → (w.session s).over ≡ false
    → (k : ℕ) (x : Content) → IsLast w k → shown w k ≡ Some x → IsFresh r w k x

-- Of two verified sessions one is over.
abbrev pub OneActs : Type 0
OneActs = (r : Terms) (w : State) → Invariant r w → (s t : SessionId) → (s ≡ t → ⊥) → (w.session s).verified ≡ true
    → (w.session t).verified ≡ true
    → ((w.session s).over ≡ true) ⊎ ((w.session t).over ≡ true)

-- The one that claimed first is over, and has the smaller generation.
abbrev pub ClaimsAreOrdered : Type 0
ClaimsAreOrdered = (r : Terms) (w : State) → Invariant r w → (s t : SessionId) → (s ≡ t → ⊥) → (w.session s).verified ≡ true
    → (w.session t).verified ≡ true → (w.session s).claim < (w.session t).claim
    → ((w.session s).over ≡ true) × ((w.session s).generation < (w.session t).generation)
