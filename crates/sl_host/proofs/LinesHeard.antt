-- A line is heard as a job, and as the leaving of the sessions that it names.
use Rattle.sl_host_state.specs.HeardInputs.{heard_line, leaves_member, member_leaving}
use Rattle.sl_host_state.specs.KeptState.{HostState, MemberState}
use Rattle.sl_host_state.specs.MadeEffects.{lowered}
use Rattle.sl_member.specs.Members.{leaving_begun}
use Rattle.sl_member.specs.HostMembers.{left_by}
use Rattle.sl_trace.specs.Sessions.{is_session_arg}
use Rattle.sl_trace.specs.declared.session.Begun.{Begun}
use Rattle.sl_trace.specs.KillPrograms.{KillProgram}
use Rattle.sl_trace.specs.declared.command.Command.TheVariants.{Acquire, AddLockspace, Convert, GetLvb, HostStatus, InqLockspace, Release, ReleaseOrphan, RemLockspace, Request, RunProgram, SetKillpath, SetLvb, Status, TakeOver}
use Rattle.sl_trace.specs.declared.command.Command.{Command}
use Rattle.sl_trace.specs.declared.command.LockspaceArg.{LockspaceArg}
use Rattle.sl_host.specs.LineParts.{leaving_begins, line_begun, lockspace_left}
use Rattle.sl_words.proofs.CaseLaws.{none_some, some_value}
use Rattle.sl_words.specs.Words.{choose}
use Rattle.std.proofs.Common.{ap, refl, subst, sym, ◌∙◌}
use Rattle.std.specs.List.{list_any}
use Rattle.std.specs.Prelude.{Bool, List, None, Option, Some, [], cond, false, is_none, map, option_and_then, true, ◌&&◌, ◌+◌, ◌-◌, ◌∷◌, ◌≡◌, ◌||◌}

-- ---- programs

pub chosen_all : (o : Option KillProgram) → o ≡ option_and_then (λ k. choose true k) o
chosen_all None = refl
chosen_all (Some k) = refl

pub chosen_none : (o : Option KillProgram) → None ≡ option_and_then (λ k. choose false k) o
chosen_none None = refl
chosen_none (Some k) = refl

-- ---- a line that leaves

left_is : (c : Command) (a : LockspaceArg) → Some a ≡ lockspace_left c → RemLockspace a ≡ c
left_is (RemLockspace b) a is = ap (λ k. RemLockspace k) (some_value a b is)
left_is (AddLockspace b) a is = absurd (none_some a (sym is))
left_is (InqLockspace b) a is = absurd (none_some a (sym is))
left_is (HostStatus b) a is = absurd (none_some a (sym is))
left_is (Acquire r shared p persistent) a is = absurd (none_some a (sym is))
left_is (TakeOver r shared p persistent) a is = absurd (none_some a (sym is))
left_is (RunProgram r shared path) a is = absurd (none_some a (sym is))
left_is (Release r p) a is = absurd (none_some a (sym is))
left_is (ReleaseOrphan r) a is = absurd (none_some a (sym is))
left_is (Convert r shared p) a is = absurd (none_some a (sym is))
left_is (Request r lver how) a is = absurd (none_some a (sym is))
left_is (GetLvb r p) a is = absurd (none_some a (sym is))
left_is (SetLvb r p bytes) a is = absurd (none_some a (sym is))
left_is (SetKillpath p path) a is = absurd (none_some a (sym is))
left_is Status a is = absurd (none_some a (sym is))

-- One that is not leaving yet begins to.
begins_once : (b : Bool) (o : Option Begun) (m n : MemberState) → cond (b && is_none o) n m ≡ cond b (elim o [ Some x ↦ m | None ↦ n ]) m
begins_once false o m n = refl
begins_once true None m n = refl
begins_once true (Some x) m n = refl

leaves_all : (a : LockspaceArg) (h : HostState) (ms : List MemberState)
    → map (left_by a (record { at = h.entries - 1; reading = h.reading; kills_from = h.entries }) h.next_job) ms ≡ map (λ m. cond (leaves_member (RemLockspace a) m) (member_leaving h m) m) ms
leaves_all a h [] = refl
leaves_all a h (m ∷ ms) =
    ap (λ n. n ∷ map (left_by a (record { at = h.entries - 1; reading = h.reading; kills_from = h.entries }) h.next_job) ms)
    (begins_once (m.joined && is_session_arg m.who a) m.leaving m (leaving_begun (record { at = h.entries - 1; reading = h.reading; kills_from = h.entries }) h.next_job m))
    ∙ ap (λ ns. cond (leaves_member (RemLockspace a) m) (member_leaving h m) m ∷ ns) (leaves_all a h ms)

leaving_line : (a : LockspaceArg) (h : HostState) → leaving_begins a h.next_job (line_begun (RemLockspace a) h) ≡ heard_line (RemLockspace a) h
leaving_line a h = ap (λ ms. record (leaving_begins a h.next_job (line_begun (RemLockspace a) h)) { members = ms }) (leaves_all a h h.members)

pub leaving_heard : (c : Command) (a : LockspaceArg) (h : HostState) → Some a ≡ lockspace_left c → leaving_begins a h.next_job (line_begun c h) ≡ heard_line c h
leaving_heard c a h is = subst (λ d. leaving_begins a h.next_job (line_begun d h) ≡ heard_line d h) (left_is c a is) (leaving_line a h)

-- ---- a line that does not

stays : (c : Command) (m : MemberState) → None ≡ lockspace_left c → leaves_member c m ≡ false
stays (RemLockspace b) m is = absurd (none_some b is)
stays (AddLockspace b) m is = refl
stays (InqLockspace b) m is = refl
stays (HostStatus b) m is = refl
stays (Acquire r shared p persistent) m is = refl
stays (TakeOver r shared p persistent) m is = refl
stays (RunProgram r shared path) m is = refl
stays (Release r p) m is = refl
stays (ReleaseOrphan r) m is = refl
stays (Convert r shared p) m is = refl
stays (Request r lver how) m is = refl
stays (GetLvb r p) m is = refl
stays (SetLvb r p bytes) m is = refl
stays (SetKillpath p path) m is = refl
stays Status m is = refl

all_stay : (p : MemberState → Bool) (f : MemberState → MemberState) → ((m : MemberState) → p m ≡ false) → (ms : List MemberState) → ms ≡ map (λ m. cond (p m) (f m) m) ms
all_stay p f off [] = refl
all_stay p f off (m ∷ ms) = ap (λ ns. m ∷ ns) (all_stay p f off ms) ∙ ap (λ b. cond b (f m) m ∷ map (λ n. cond (p n) (f n) n) ms) (sym (off m))

none_leaves : (p : MemberState → Bool) → ((m : MemberState) → p m ≡ false) → (ms : List MemberState) → false ≡ list_any p ms
none_leaves p off [] = refl
none_leaves p off (m ∷ ms) = none_leaves p off ms ∙ ap (λ b. b || list_any p ms) (sym (off m))

pub staying_heard : (c : Command) (h : HostState) → None ≡ lockspace_left c → line_begun c h ≡ heard_line c h
staying_heard c h is =
    let off : (m : MemberState) → leaves_member c m ≡ false = λ m. stays c m is in
    ap (λ ms. record (line_begun c h) { members = ms }) (all_stay (leaves_member c) (member_leaving h) off h.members)
    ∙ ap (λ (b : Bool). record (line_begun c h) { members = map (λ m. cond (leaves_member c m) (member_leaving h m) m) h.members; quiet_until = lowered b (h.reading + h.config.grace) h })
    (none_leaves (leaves_member c) off h.members)
