-- The state of an id from a list of landings, oldest first.
use Rattle.sl_ids.specs.State.{Content, Landing, Session, SessionId, State}
use Rattle.sl_ids.specs.Steps.{Lands, SameLandings}
use Rattle.std.specs.Prelude.{List, None, Option, Some, length, slice_index_or, [], ℕ, ◌++◌, ◌∷◌}

abbrev pub no_landing : Landing
no_landing = record { moment = 0; writer = None; shown = None }

abbrev pub state_of : ℕ → List Landing → (SessionId → Session) → State
state_of now landings sessions =
    record { now = now; count = length landings; landing = λ k. slice_index_or landings k no_landing; session = sessions }

-- One more landing at the end of the list is a landing; the same list is the same landings.
pub record ListsLand : Type 0 where
  pub lands : (now later : ℕ) (s : SessionId) (spelled : Option Content) (landings : List Landing) (before after : SessionId → Session)
      → Lands (state_of now landings before)
      (state_of later (landings ++ record { moment = now; writer = Some s; shown = spelled } ∷ []) after) s spelled
  pub same : (now later : ℕ) (landings : List Landing) (before after : SessionId → Session)
      → SameLandings (state_of now landings before) (state_of later landings after)
