-- Effects that are being read.
use Rattle.sl_script.specs.MadeSteps.{most_made}
use Rattle.sl_script.specs.declared.draft.Draft.{Draft}
use Rattle.std.specs.Prelude.{Bool, nat_le, ℕ, ◌&&◌}
use Rattle.std.specs.Vec.{vec_len}

-- The numbers that a step begins with.
pub record DraftState : Type 0 where
  pub next : ℕ
  pub sector : ℕ
  pub child : ℕ

abbrev pub draft_of : Draft → DraftState
draft_of d = record { next = d.calls.next; sector = d.calls.sector; child = d.starts.next }

-- Whether no class but calls and children has too many.
abbrev pub is_few : Draft → Bool
is_few d =
    nat_le (vec_len d.ends) most_made && nat_le (vec_len d.signals) most_made && nat_le (vec_len d.moves) most_made && nat_le (vec_len d.grants) most_made
    && nat_le (vec_len d.replies) most_made
