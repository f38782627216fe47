-- What a host keeps beside what its steps ask: its invariants of its own.
use Rattle.sl_area.specs.AreaSizes.{IsGeometry}
use Rattle.sl_host_law.specs.SharedFacts.AtInput.{IsAtInput}
use Rattle.sl_host_state.specs.KeptState.{HostState, MemberState}
use Rattle.sl_host_state.specs.NewHost.{IsOfProgram, sizes_in}
use Rattle.sl_host_state.specs.Passes.{whos}
use Rattle.sl_host_state.specs.HostStands.{is_kept_of}
use Rattle.sl_host_state.specs.declared.kept_parts.OpenCall.{OpenCall}
use Rattle.sl_trace.specs.Sessions.{is_delta_purpose}
use Rattle.sl_trace.specs.declared.session.Session.{Session}
use Rattle.sl_trace.specs.declared.command.Command.TheVariants.{AddLockspace}
use Rattle.sl_trace.specs.declared.command.LockspaceArg.{LockspaceArg}
use Rattle.std.specs.Prelude.{Contains, List, Ok, Some, true, [], ℕ, ◌==◌, ◌≡◌, ◌≤◌}

-- No two members have one lockspace.
abbrev pub NamesApart : HostState → Type 0
NamesApart h = (s t : Session) → Contains (whos h) s → Contains (whos h) t → s.lockspace ≡ t.lockspace → s ≡ t

-- A step that has come to its input: of its effects only signals, starts, refusals of before an input, and moves are there.
pub record IsEarly (h : HostState) : Type 0 where
  pub at : IsAtInput h
  pub grants : h.made.grants ≡ []
  pub names : NamesApart h

-- The calls of a leaving's job are its session's; no two members leave for one job, and no job leaves that joined.
pub record LeavingsOwn (h : HostState) : Type 0 where
  pub calls : (m : MemberState) (c : OpenCall) (j : ℕ) → Contains h.members m → Contains h.unanswered c → m.known.leaving ≡ Some j → is_kept_of j c ≡ true → (c.session == m.who.number) ≡ true
  pub apart : (m n : MemberState) (j : ℕ) → Contains h.members m → Contains h.members n → m.known.leaving ≡ Some j → n.known.leaving ≡ Some j → m.who ≡ n.who
  pub others : (m n : MemberState) (j : ℕ) → Contains h.members m → Contains h.members n → m.who.job ≡ Some j → n.known.leaving ≡ Some j → ⊥

-- The calls of a joining's job are its session's, on its sector; no two members join by one job.
pub record JoiningsOwn (h : HostState) : Type 0 where
  pub calls : (m : MemberState) (c : OpenCall) (j : ℕ) → Contains h.members m → Contains h.unanswered c → m.who.job ≡ Some j → is_kept_of j c ≡ true
      → ((c.session == m.who.number) ≡ true) × (is_delta_purpose c.purpose ≡ true)
  pub apart : (m n : MemberState) (j : ℕ) → Contains h.members m → Contains h.members n → m.who.job ≡ Some j → n.who.job ≡ Some j → m.who ≡ n.who

-- Areas are laid out as the program does, each member's id is one of them, and who joins by a line names one of them.
pub record IsLaidOut (h : HostState) : Type 0 where
  pub program : IsOfProgram h.config.layout
  pub geometry : IsGeometry (sizes_in h.config.layout)
  pub ids : (s : Session) → Contains (whos h) s → (1 ≤ s.id) × (s.id ≤ h.config.layout.hosts)
  pub joins : (text : List ℕ) (a : LockspaceArg) → h.config.read text ≡ Ok (AddLockspace a) → (1 ≤ a.id) × (a.id ≤ h.config.layout.hosts)

-- All of them.
pub record IsSound (h : HostState) : Type 0 where
  pub names : NamesApart h
  pub leavings : LeavingsOwn h
  pub joinings : JoiningsOwn h
  pub laid : IsLaidOut h
