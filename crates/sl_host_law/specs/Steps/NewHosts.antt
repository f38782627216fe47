-- A new host is sound, whatever sessions it is given that may be.
use Rattle.sl_area.specs.AreaSizes.{IsGeometry}
use Rattle.sl_host_state.specs.NewHost.{IsOfProgram, given_sessions, new_host, sizes_in}
use Rattle.sl_host_law.specs.Steps.SoundHosts.{IsSound}
use Rattle.sl_trace.specs.declared.session.Session.{Session}
use Rattle.sl_trace.specs.Traces.{Setting}
use Rattle.sl_trace.specs.declared.command.Command.TheVariants.{AddLockspace}
use Rattle.sl_trace.specs.declared.command.LockspaceArg.{LockspaceArg}
use Rattle.std.specs.Prelude.{Ok, List, Contains, ◌≡◌, ◌≤◌, ℕ}

-- The sessions given have names of their own, and ids of the layout, which is one of the program; so has who joins by a line.
pub record IsFitSetting (st : Setting) : Type 0 where
  pub program : IsOfProgram st.layout
  pub geometry : IsGeometry (sizes_in st.layout)
  pub names : (s t : Session) → Contains (given_sessions st) s → Contains (given_sessions st) t → s.lockspace ≡ t.lockspace → s ≡ t
  pub ids : (s : Session) → Contains (given_sessions st) s → (1 ≤ s.id) × (s.id ≤ st.layout.hosts)
  pub joins : (text : List ℕ) (a : LockspaceArg) → st.read text ≡ Ok (AddLockspace a) → (1 ≤ a.id) × (a.id ≤ st.layout.hosts)

abbrev pub NewHostsAreSound : Type 0
NewHostsAreSound = (st : Setting) → IsFitSetting st → IsSound (new_host st)
