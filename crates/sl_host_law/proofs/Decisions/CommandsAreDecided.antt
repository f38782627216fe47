-- Each command comes to what the kept state says.
use Rattle.sl_host_law.proofs.Decisions.QuestionsByKept.{busy_is, for_member, generation_is, how_many_present, joined_refusal_is, limit_is, matching_is, member_of_stands, named_is, named_stands, pending_is, process_is, refusal_is, sessions_are, states_are}
use Rattle.sl_host_law.specs.Decisions.CommandDecisions.{acquire_decision, add_decision, busy_refused, convert_decision, decision_of, held_of, held_on, holder_decision, holds_there, joined_refused, killpath_decision, leave_decision, limit_refused, member_acquires, member_converts, member_named, member_of, member_refusal, member_sets, orphan_at, orphan_decision, other_at, pending_refused, process_refused, report_decision, request_decision, serving_holding, states_told, take_over_decision, value_seq}
use Rattle.sl_host_law.specs.Decisions.DecisionLaws.{CommandsAreDecided, LastIsEnough}
use Rattle.sl_due.specs.DueCommands.{acquiring, busy_refusal, converting, decide_acquire, decide_add, decide_convert, decide_holder, decide_killpath, decide_leave, decide_orphan, decide_report, decide_request, decide_take_over, decided, holding_of, joined_refusal, leave_refusal, limit_refusal, orphan_refusal, pending_refusal, process_refusal, serving_orphan, session_refusal, setting_value, unless_refused, with_session}
use Rattle.sl_due.specs.Steps.{Step, seen}
use Rattle.sl_due.specs.declared.decision.Decision.TheVariants.{GetsValue, GivesUp, Joins, Leaves, ReadsArea, Replies, Requests, Shares, TakesOver}
use Rattle.sl_due.specs.declared.decision.Decision.{Decision}
use Rattle.sl_host_state.specs.KeptState.{HostState, MemberState}
use Rattle.sl_host_state.specs.HostStands.{MemberStands, Stands}
use Rattle.sl_trace.specs.Counts.{holds_already, next_value_seq, other_holder}
use Rattle.sl_trace.specs.Jobs.{wanted_mode}
use Rattle.sl_trace.specs.Leases.{spot_of}
use Rattle.sl_words.proofs.Lists.{find_inside}
use Rattle.sl_trace.specs.Sessions.{generation_of, present_sessions, sessions}
use Rattle.sl_trace.specs.Sightings.{states_seen}
use Rattle.sl_trace.specs.declared.delta.DeltaKnown.{DeltaKnown}
use Rattle.sl_trace.specs.declared.session.Session.{Session}
use Rattle.sl_trace.specs.CountLimits.{most_killpaths, most_lockspaces}
use Rattle.sl_trace.specs.KillPrograms.{KillProgram, kill_programs}
use Rattle.sl_trace.specs.Traces.{Trace, is_orphan, is_shared, no_process, same_place}
use Rattle.sl_trace.specs.declared.command.Command.TheVariants.{Acquire, AddLockspace, Convert, GetLvb, HostStatus, InqLockspace, Release, ReleaseOrphan, RemLockspace, Request, RunProgram, SetKillpath, SetLvb, Status, TakeOver}
use Rattle.sl_trace.specs.declared.command.Command.{Command}
use Rattle.sl_trace.specs.declared.command.LockspaceArg.{LockspaceArg}
use Rattle.sl_trace.specs.declared.command.ResourceArg.{ResourceArg}
use Rattle.sl_trace.specs.declared.effects.Grant.{Grant}
use Rattle.sl_trace.specs.declared.effects.Mode.{Mode}
use Rattle.sl_trace.specs.declared.effects.Spot.{Spot}
use Rattle.sl_trace.specs.declared.input.Input.{Input}
use Rattle.sl_trace.specs.declared.reply.Limited.TheVariants.{Killpaths, Lockspaces, Seq as SeqLimit}
use Rattle.sl_trace.specs.declared.reply.Reply.TheVariants.{Busy, Done, Generation, Hosts, Limit as LimitReached, NoOrphan, NotHeld, Sessions}
use Rattle.sl_trace.specs.declared.reply.Reply.{Reply}
use Rattle.sl_words.proofs.CaseLaws.{false_is_true}
use Rattle.sl_words.proofs.WordLaws.{and_true}
use Rattle.sl_words.specs.Bounds.{is_number}
use Rattle.sl_words.specs.Words.{choose, least, same_truth}
use Rattle.std.proofs.Common.{ap, refl, ◌∙◌}
use Rattle.std.specs.List.{list_any}
use Rattle.std.specs.Option.{option_map_or}
use Rattle.std.specs.Prelude.{Bool, Contains, List, None, Option, Some, false, filter, find, is_none, length, map, nat_le, not, option_and_then, option_map, true, [], ℕ, ◌&&◌, ◌++◌, ◌+◌, ◌==◌, ◌∷◌, ◌≡◌}

-- ---- refusals, one by one

unless : (o p : Option Reply) (os ps : List (Option Reply)) (d e : Decision) → o ≡ p → unless_refused os d ≡ unless_refused ps e → unless_refused (o ∷ os) d ≡ unless_refused (p ∷ ps) e
unless o p os ps d e first rest = ap (λ r. unless_refused (r ∷ os) d) first ∙ by p where
  by : (r : Option Reply) → elim r as (λ z. Decision) [ Some why ↦ Replies why | None ↦ unless_refused os d ] ≡ elim r as (λ z. Decision) [ Some why ↦ Replies why | None ↦ unless_refused ps e ]
  by None = rest
  by (Some why) = refl

for_asking : (o : Option ℕ) (f g : ℕ → Option Reply) → ((p : ℕ) → f p ≡ g p) → option_and_then f o ≡ option_and_then g o
for_asking None f g same = refl
for_asking (Some p) f g same = same p

for_holding : (o : Option Grant) (f g : Grant → Decision) (d : Decision) → ((x : Grant) → o ≡ Some x → f x ≡ g x) → option_map_or f o d ≡ option_map_or g o d
for_holding None f g d same = refl
for_holding (Some x) f g d same = same x refl

module _ (i : Input) (h : HostState) (x : Step) (s : Stands i h x) where
  -- Holdings are those kept.
  abbrev on_these : List Grant → ℕ → Spot → List Grant
  on_these gs number at = filter (λ g. same_place g.path g.offset at.path at.base) (filter (λ g. g.session == number) gs)

  process : (p : ℕ) → process_refusal (seen x) p ≡ process_refused h p
  process p = process_is h x.setting (seen x) p s.keeps

  pending : (at : Spot) → pending_refusal x.setting (seen x) at ≡ pending_refused h at
  pending at = pending_is h x.setting (seen x) at s.keeps

  -- ---- on a resource

  shared_is : (m : MemberState) (r : ResourceArg) (shared : Bool) → acquiring (seen x) m.who r shared ≡ member_acquires h m r shared
  shared_is m r shared =
      ap (λ gs. elim shared as (λ z. Decision) [
        | false ↦ ReadsArea m.who r
        | true ↦ elim (find (λ (g : Grant). is_shared g.mode) (on_these gs m.who.number (spot_of r))) as (λ z. Decision) [ None ↦ ReadsArea m.who r | Some g ↦ Shares m.who g.lver ]
      ]) s.keeps.holdings

  acquire : (r : ResourceArg) (asking : Option ℕ) (shared program : Bool) → decide_acquire x.setting (seen x) r asking shared program ≡ acquire_decision h r asking shared program
  acquire r asking shared program =
      let at : Spot = spot_of r in
      let es : Trace = seen x in
      let f : Session → Decision = λ t.
      unless_refused (session_refusal x.setting es t ∷ option_and_then (process_refusal es) asking ∷ busy_refusal es at asking shared ∷ pending_refusal x.setting es at ∷ limit_refusal x.setting es t at program ∷ [])
      (acquiring es t r shared)
      in
      ap (λ o. with_session o f) (named_is h x.setting es r.lockspace s.keeps)
      ∙ for_member (member_named h r.lockspace) f
      (λ m. unless_refused (member_refusal m ∷ option_and_then (process_refused h) asking ∷ busy_refused h at asking shared ∷ pending_refused h at ∷ limit_refused h m at program ∷ []) (member_acquires h m r shared))
      (λ m is. (let stands = named_stands h x.setting es r.lockspace m s.keeps is in
      unless (session_refusal x.setting es m.who) (member_refusal m)
      (option_and_then (process_refusal es) asking ∷ busy_refusal es at asking shared ∷ pending_refusal x.setting es at ∷ limit_refusal x.setting es m.who at program ∷ [])
      (option_and_then (process_refused h) asking ∷ busy_refused h at asking shared ∷ pending_refused h at ∷ limit_refused h m at program ∷ []) (acquiring es m.who r shared) (member_acquires h m r shared)
      (refusal_is x.setting es m stands)
      (unless (option_and_then (process_refusal es) asking) (option_and_then (process_refused h) asking)
      (busy_refusal es at asking shared ∷ pending_refusal x.setting es at ∷ limit_refusal x.setting es m.who at program ∷ []) (busy_refused h at asking shared ∷ pending_refused h at ∷ limit_refused h m at program ∷ [])
      (acquiring es m.who r shared) (member_acquires h m r shared) (for_asking asking (process_refusal es) (process_refused h) process)
      (unless (busy_refusal es at asking shared) (busy_refused h at asking shared) (pending_refusal x.setting es at ∷ limit_refusal x.setting es m.who at program ∷ [])
      (pending_refused h at ∷ limit_refused h m at program ∷ []) (acquiring es m.who r shared) (member_acquires h m r shared) (busy_is i h x at asking shared s)
      (unless (pending_refusal x.setting es at) (pending_refused h at) (limit_refusal x.setting es m.who at program ∷ []) (limit_refused h m at program ∷ []) (acquiring es m.who r shared)
      (member_acquires h m r shared) (pending at)
      (unless (limit_refusal x.setting es m.who at program) (limit_refused h m at program) [] [] (acquiring es m.who r shared) (member_acquires h m r shared) (limit_is i h x m at program s stands)
      (shared_is m r shared)))))))

  holding_is : (m : MemberState) (at : Spot) (p : ℕ) (serves : Grant → Bool) → holding_of (seen x) m.who at p serves ≡ serving_holding h m at p serves
  holding_is m at p serves = ap (λ gs. find (λ (g : Grant). g.process == p && serves g) (on_these gs m.who.number at)) s.keeps.holdings

  holder : (r : ResourceArg) (p : ℕ) (serves : Grant → Bool) (f : Session → Grant → Decision) (f' : MemberState → Grant → Decision)
      → ((m : MemberState) (g : Grant) → member_named h r.lockspace ≡ Some m → serving_holding h m (spot_of r) p serves ≡ Some g → f m.who g ≡ f' m g)
      → decide_holder x.setting (seen x) r p serves f ≡ holder_decision h r p serves f'
  holder r p serves f f' same =
      let at : Spot = spot_of r in
      let es : Trace = seen x in
      let now : Session → Decision = λ t.
      unless_refused (session_refusal x.setting es t ∷ process_refusal es p ∷ choose (is_none (holding_of es t at p serves)) NotHeld ∷ pending_refusal x.setting es at ∷ [])
      (option_map_or (f t) (holding_of es t at p serves) (Replies NotHeld))
      in
      ap (λ o. with_session o now) (named_is h x.setting es r.lockspace s.keeps)
      ∙ for_member (member_named h r.lockspace) now
      (λ m. unless_refused (member_refusal m ∷ process_refused h p ∷ choose (is_none (serving_holding h m at p serves)) NotHeld ∷ pending_refused h at ∷ [])
      (option_map_or (f' m) (serving_holding h m at p serves) (Replies NotHeld)))
      (λ m is. (let held : Option Grant = serving_holding h m at p serves in
      let end : Decision = option_map_or (f m.who) (holding_of es m.who at p serves) (Replies NotHeld) in
      let end' : Decision = option_map_or (f' m) held (Replies NotHeld) in
      unless (session_refusal x.setting es m.who) (member_refusal m) (process_refusal es p ∷ choose (is_none (holding_of es m.who at p serves)) NotHeld ∷ pending_refusal x.setting es at ∷ [])
      (process_refused h p ∷ choose (is_none held) NotHeld ∷ pending_refused h at ∷ []) end end' (refusal_is x.setting es m (named_stands h x.setting es r.lockspace m s.keeps is))
      (unless (process_refusal es p) (process_refused h p) (choose (is_none (holding_of es m.who at p serves)) NotHeld ∷ pending_refusal x.setting es at ∷ []) (choose (is_none held) NotHeld ∷ pending_refused h at ∷ [])
      end end' (process p)
      (unless (choose (is_none (holding_of es m.who at p serves)) NotHeld) (choose (is_none held) NotHeld) (pending_refusal x.setting es at ∷ []) (pending_refused h at ∷ []) end end'
      (ap (λ o. choose (is_none o) NotHeld) (holding_is m at p serves))
      (unless (pending_refusal x.setting es at) (pending_refused h at) [] [] end end' (pending at)
      (ap (λ o. option_map_or (f m.who) o (Replies NotHeld)) (holding_is m at p serves) ∙ for_holding held (f m.who) (f' m) (Replies NotHeld) (λ g there. same m g is there)))))))

  other_is : (at : Spot) (p : ℕ) (mode : Mode)
      → option_and_then (λ q. choose (not (is_shared mode)) (Busy q)) (other_holder (seen x) at p) ≡ option_and_then (λ q. choose (not (is_shared mode)) (Busy q)) (other_at h at p)
  other_is at p mode =
      ap (λ gs. option_and_then (λ q. choose (not (is_shared mode)) (Busy q)) (least (map (λ (g : Grant). g.process) (filter (λ g. not (g.process == p)) (filter (λ g. same_place g.path g.offset at.path at.base) gs))))) s.keeps.holdings

  convert : (r : ResourceArg) (p : ℕ) (mode : Mode) → decide_convert x.setting (seen x) r p mode ≡ convert_decision h r p mode
  convert r p mode =
      let at : Spot = spot_of r in
      let es : Trace = seen x in
      let any : Grant → Bool = λ g. true in
      let other : Option Reply = option_and_then (λ q. choose (not (is_shared mode)) (Busy q)) (other_holder es at p) in
      let other' : Option Reply = option_and_then (λ q. choose (not (is_shared mode)) (Busy q)) (other_at h at p) in
      let now : Session → Decision = λ t.
      unless_refused (session_refusal x.setting es t ∷ process_refusal es p ∷ choose (is_none (holding_of es t at p any)) NotHeld ∷ other ∷ pending_refusal x.setting es at ∷ [])
      (option_map_or (converting t r mode) (holding_of es t at p any) (Replies NotHeld))
      in
      ap (λ o. with_session o now) (named_is h x.setting es r.lockspace s.keeps)
      ∙ for_member (member_named h r.lockspace) now
      (λ m. unless_refused (member_refusal m ∷ process_refused h p ∷ choose (is_none (serving_holding h m at p any)) NotHeld ∷ other' ∷ pending_refused h at ∷ [])
      (option_map_or (member_converts m r mode) (serving_holding h m at p any) (Replies NotHeld)))
      (λ m is. (let held : Option Grant = serving_holding h m at p any in
      let end : Decision = option_map_or (converting m.who r mode) (holding_of es m.who at p any) (Replies NotHeld) in
      let end' : Decision = option_map_or (member_converts m r mode) held (Replies NotHeld) in
      unless (session_refusal x.setting es m.who) (member_refusal m) (process_refusal es p ∷ choose (is_none (holding_of es m.who at p any)) NotHeld ∷ other ∷ pending_refusal x.setting es at ∷ [])
      (process_refused h p ∷ choose (is_none held) NotHeld ∷ other' ∷ pending_refused h at ∷ []) end end' (refusal_is x.setting es m (named_stands h x.setting es r.lockspace m s.keeps is))
      (unless (process_refusal es p) (process_refused h p) (choose (is_none (holding_of es m.who at p any)) NotHeld ∷ other ∷ pending_refusal x.setting es at ∷ [])
      (choose (is_none held) NotHeld ∷ other' ∷ pending_refused h at ∷ []) end end' (process p)
      (unless (choose (is_none (holding_of es m.who at p any)) NotHeld) (choose (is_none held) NotHeld) (other ∷ pending_refusal x.setting es at ∷ []) (other' ∷ pending_refused h at ∷ []) end end'
      (ap (λ o. choose (is_none o) NotHeld) (holding_is m at p any))
      (unless other other' (pending_refusal x.setting es at ∷ []) (pending_refused h at ∷ []) end end' (other_is at p mode)
      (unless (pending_refusal x.setting es at) (pending_refused h at) [] [] end end' (pending at)
      (ap (λ o. option_map_or (converting m.who r mode) o (Replies NotHeld)) (holding_is m at p any))))))))

  orphan_is : (m : MemberState) (at : Spot) (serves : Grant → Bool) → serving_orphan (seen x) m.who at serves ≡ orphan_at h m at serves
  orphan_is m at serves = ap (λ gs. option_and_then (λ (g : Grant). choose (serves g) g) (find is_orphan (on_these gs m.who.number at))) s.keeps.holdings

  -- With what it is refused for after that, which asks holdings alone.
  then_pending : (os ps : List (Option Reply)) (at : Spot) (d e : Decision) → os ≡ ps → d ≡ e → unless_refused (os ++ pending_refusal x.setting (seen x) at ∷ []) d ≡ unless_refused (ps ++ pending_refused h at ∷ []) e
  then_pending os ps at d e same is =
      ap (λ zs. unless_refused (zs ++ pending_refusal x.setting (seen x) at ∷ []) d) same
      ∙ ap (λ o. unless_refused (ps ++ o ∷ []) d) (pending at)
      ∙ ap (unless_refused (ps ++ pending_refused h at ∷ [])) is

  orphan : (r : ResourceArg) (asking : Option ℕ) (serves : Grant → Bool) (os ps : List (Option Reply)) (f : Session → Grant → Decision) (f' : MemberState → Grant → Decision) → os ≡ ps
      → ((m : MemberState) (g : Grant) → f m.who g ≡ f' m g) → decide_orphan x.setting (seen x) r asking serves os f ≡ orphan_decision h r asking serves ps f'
  orphan r asking serves os ps f f' refusals same =
      let at : Spot = spot_of r in
      let es : Trace = seen x in
      let now : Session → Decision = λ t.
      unless_refused (session_refusal x.setting es t ∷ option_and_then (process_refusal es) asking ∷ choose (is_none (serving_orphan es t at serves)) NoOrphan ∷ os ++ pending_refusal x.setting es at ∷ [])
      (option_map_or (f t) (serving_orphan es t at serves) (Replies NoOrphan))
      in
      ap (λ o. with_session o now) (named_is h x.setting es r.lockspace s.keeps)
      ∙ for_member (member_named h r.lockspace) now
      (λ m. unless_refused (member_refusal m ∷ option_and_then (process_refused h) asking ∷ choose (is_none (orphan_at h m at serves)) NoOrphan ∷ ps ++ pending_refused h at ∷ [])
      (option_map_or (f' m) (orphan_at h m at serves) (Replies NoOrphan)))
      (λ m is. (let held : Option Grant = orphan_at h m at serves in
      let end : Decision = option_map_or (f m.who) (serving_orphan es m.who at serves) (Replies NoOrphan) in
      let end' : Decision = option_map_or (f' m) held (Replies NoOrphan) in
      let ends : end ≡ end' = ap (λ o. option_map_or (f m.who) o (Replies NoOrphan)) (orphan_is m at serves) ∙ for_holding held (f m.who) (f' m) (Replies NoOrphan) (λ g there. same m g) in
      unless (session_refusal x.setting es m.who) (member_refusal m)
      (option_and_then (process_refusal es) asking ∷ choose (is_none (serving_orphan es m.who at serves)) NoOrphan ∷ os ++ pending_refusal x.setting es at ∷ [])
      (option_and_then (process_refused h) asking ∷ choose (is_none held) NoOrphan ∷ ps ++ pending_refused h at ∷ []) end end' (refusal_is x.setting es m (named_stands h x.setting es r.lockspace m s.keeps is))
      (unless (option_and_then (process_refusal es) asking) (option_and_then (process_refused h) asking) (choose (is_none (serving_orphan es m.who at serves)) NoOrphan ∷ os ++ pending_refusal x.setting es at ∷ [])
      (choose (is_none held) NoOrphan ∷ ps ++ pending_refused h at ∷ []) end end' (for_asking asking (process_refusal es) (process_refused h) process)
      (unless (choose (is_none (serving_orphan es m.who at serves)) NoOrphan) (choose (is_none held) NoOrphan) (os ++ pending_refusal x.setting es at ∷ []) (ps ++ pending_refused h at ∷ []) end end'
      (ap (λ o. choose (is_none o) NoOrphan) (orphan_is m at serves)) (then_pending os ps at end end' refusals ends)))))

  take_over : (r : ResourceArg) (p : ℕ) (shared : Bool) → decide_take_over x.setting (seen x) r p shared ≡ take_over_decision h r p shared
  take_over r p shared =
      let at : Spot = spot_of r in
      orphan r (Some p) (λ g. same_truth shared (is_shared g.mode)) (option_map (λ q. Busy q) (holds_already (seen x) at p) ∷ []) (option_map (λ q. Busy q) (holds_there h at p) ∷ []) (λ t g. TakesOver t g)
      (λ m g. TakesOver m.who g)
      (ap (λ gs. option_map (λ q. Busy q) (choose (list_any (λ (g : Grant). g.process == p) (filter (λ g. same_place g.path g.offset at.path at.base) gs)) p) ∷ []) s.keeps.holdings) (λ m g. refl)

  request : (r : ResourceArg) → decide_request x.setting (seen x) r ≡ request_decision h r
  request r =
      let at : Spot = spot_of r in
      let es : Trace = seen x in
      let now : Session → Decision = λ t. unless_refused (session_refusal x.setting es t ∷ pending_refusal x.setting es at ∷ []) (Requests t r) in
      ap (λ o. with_session o now) (named_is h x.setting es r.lockspace s.keeps)
      ∙ for_member (member_named h r.lockspace) now (λ m. unless_refused (member_refusal m ∷ pending_refused h at ∷ []) (Requests m.who r))
      (λ m is. unless (session_refusal x.setting es m.who) (member_refusal m) (pending_refusal x.setting es at ∷ []) (pending_refused h at ∷ []) (Requests m.who r) (Requests m.who r)
      (refusal_is x.setting es m (named_stands h x.setting es r.lockspace m s.keeps is))
      (unless (pending_refusal x.setting es at) (pending_refused h at) [] [] (Requests m.who r) (Requests m.who r) (pending at) refl))

  -- ---- on a lockspace

  add : (a : LockspaceArg) → decide_add x.setting (seen x) a ≡ add_decision h a
  add a =
      let es : Trace = seen x in
      let full : ℕ → Option Reply = λ n. choose (nat_le most_lockspaces n) (LimitReached Lockspaces) in
      ap (λ o. unless_refused (joined_refusal x.setting es o ∷ full (length (present_sessions x.setting es)) ∷ []) (Joins (length (sessions x.setting es)) a)) (named_is h x.setting es a.name s.keeps)
      ∙ ap (λ o. unless_refused (o ∷ full (length (present_sessions x.setting es)) ∷ []) (Joins (length (sessions x.setting es)) a))
      (joined_refusal_is x.setting es (member_named h a.name) (λ m is. named_stands h x.setting es a.name m s.keeps is))
      ∙ ap (λ n. unless_refused (joined_refused (member_named h a.name) ∷ full n ∷ []) (Joins (length (sessions x.setting es)) a)) (how_many_present h x.setting es s.keeps)
      ∙ ap (λ n. unless_refused (joined_refused (member_named h a.name) ∷ full (length h.members) ∷ []) (Joins n a)) s.keeps.born

  leave : (a : LockspaceArg) → decide_leave x.setting (seen x) a ≡ leave_decision h a
  leave a =
      let es : Trace = seen x in
      let now : Session → Decision = λ t. unless_refused (session_refusal x.setting es t ∷ orphan_refusal es t ∷ leave_refusal es t ∷ []) (Leaves t) in
      let orphaned : MemberState → Option Reply = λ m. choose (list_any is_orphan (held_of h m)) (Busy no_process) in
      let spent : MemberState → Option Reply = λ m. choose (not (is_number (m.known.seq + 1))) (LimitReached SeqLimit) in
      ap (λ o. with_session o now) (matching_is h x.setting es a s.keeps)
      ∙ for_member (member_of h a) now (λ m. unless_refused (member_refusal m ∷ orphaned m ∷ spent m ∷ []) (Leaves m.who))
      (λ m is. (let stands = member_of_stands h x.setting es a m s.keeps is in
      unless (session_refusal x.setting es m.who) (member_refusal m) (orphan_refusal es m.who ∷ leave_refusal es m.who ∷ []) (orphaned m ∷ spent m ∷ []) (Leaves m.who) (Leaves m.who) (refusal_is x.setting es m stands)
      (unless (orphan_refusal es m.who) (orphaned m) (leave_refusal es m.who ∷ []) (spent m ∷ []) (Leaves m.who) (Leaves m.who)
      (ap (λ gs. choose (list_any is_orphan (filter (λ (g : Grant). g.session == m.who.number) gs)) (Busy no_process)) s.keeps.holdings)
      (unless (leave_refusal es m.who) (spent m) [] [] (Leaves m.who) (Leaves m.who) (ap (λ (d : DeltaKnown). choose (not (is_number (d.seq + 1))) (LimitReached SeqLimit)) stands.known) refl))))

  report : (a : LockspaceArg) (f : Session → Reply) (g : MemberState → Reply) → ((m : MemberState) → MemberStands x.setting (seen x) m → f m.who ≡ g m) → decide_report x.setting (seen x) a f ≡ report_decision h a g
  report a f g same =
      let es : Trace = seen x in
      let now : Session → Decision = λ t. unless_refused (session_refusal x.setting es t ∷ []) (Replies (f t)) in
      ap (λ o. with_session o now) (matching_is h x.setting es a s.keeps)
      ∙ for_member (member_of h a) now (λ m. unless_refused (member_refusal m ∷ []) (Replies (g m)))
      (λ m is. (let stands = member_of_stands h x.setting es a m s.keeps is in
      unless (session_refusal x.setting es m.who) (member_refusal m) [] [] (Replies (f m.who)) (Replies (g m)) (refusal_is x.setting es m stands) (ap (λ r. Replies r) (same m stands))))

  killpath : (p : ℕ) → decide_killpath x.setting (seen x) p ≡ killpath_decision h p
  killpath p =
      let limit : List KillProgram → Option Reply = λ ks. choose (is_none (option_map (λ (z : KillProgram). z.program) (find (λ (z : KillProgram). z.process == p) ks)) && nat_le most_killpaths (length ks)) (LimitReached Killpaths) in
      unless (process_refusal (seen x) p) (process_refused h p) (limit (kill_programs x.setting (seen x)) ∷ []) (limit h.programs ∷ []) (Replies Done) (Replies Done) (process p)
      (unless (limit (kill_programs x.setting (seen x))) (limit h.programs) [] [] (Replies Done) (Replies Done) (ap limit s.keeps.programs) refl)

  -- ---- a value

  exclusive_held : (m : MemberState) (at : Spot) (p : ℕ) (g : Grant) → serving_holding h m at p (λ z. not (is_shared z.mode)) ≡ Some g → Contains (held_on h m at) g × (is_shared g.mode ≡ false)
  exclusive_held m at p g is =
      let f = find_inside (λ (z : Grant). z.process == p && not (is_shared z.mode)) (held_on h m at) g is in
      (f.0, by (is_shared g.mode) (and_true (g.process == p) (not (is_shared g.mode)) f.1).1) where
        by : (b : Bool) → not b ≡ true → b ≡ false
        by true no_it = absurd (false_is_true no_it)
        by false no_it = refl

  set : (r : ResourceArg) (p : ℕ) (bytes : List ℕ) → LastIsEnough h x (SetLvb r p bytes)
      → decide_holder x.setting (seen x) r p (λ g. not (is_shared g.mode)) (λ t g. setting_value t (spot_of r) g (next_value_seq x.setting (seen x) t (spot_of r) g.lver) bytes)
      ≡ holder_decision h r p (λ g. not (is_shared g.mode)) (λ m g. member_sets m (spot_of r) g (value_seq m (spot_of r) g.lver) bytes)
  set r p bytes last =
      holder r p (λ g. not (is_shared g.mode)) (λ t g. setting_value t (spot_of r) g (next_value_seq x.setting (seen x) t (spot_of r) g.lver) bytes)
      (λ m g. member_sets m (spot_of r) g (value_seq m (spot_of r) g.lver) bytes)
      (λ m g is there. (let held = exclusive_held m (spot_of r) p g there in ap (λ n. member_sets m (spot_of r) g n bytes) (last m g is held.0 held.1)))

  -- ---- all

  pub by_command : (c : Command) → LastIsEnough h x c → decided x.setting (seen x) x.reading c ≡ decision_of h c
  unfolding decided decision_of
  by_command (AddLockspace a) last = add a
  by_command (RemLockspace a) last = leave a
  by_command (InqLockspace a) last = report a (λ t. Generation (generation_of (seen x) t)) (λ m. Generation m.known.generation) (λ m stands. ap (λ n. Generation n) (generation_is x.setting (seen x) m stands))
  by_command (HostStatus a) last =
      report a (λ t. Hosts (states_seen x.setting (seen x) t x.reading)) (λ m. Hosts (states_told h m)) (λ m stands. ap (λ z. Hosts z) (states_are h x.setting (seen x) x.reading m s.reading s.keeps stands))
  by_command (Acquire r shared p persistent) last = acquire r (Some p) shared false
  by_command (TakeOver r shared p persistent) last = take_over r p shared
  by_command (RunProgram r shared path) last = acquire r None shared true
  by_command (Release r p) last = holder r p (λ g. true) (λ t g. GivesUp t g) (λ m g. GivesUp m.who g) (λ m g is there. refl)
  by_command (ReleaseOrphan r) last = orphan r None (λ g. true) [] [] (λ t g. GivesUp t g) (λ m g. GivesUp m.who g) refl (λ m g. refl)
  by_command (Convert r shared p) last = convert r p (wanted_mode (Convert r shared p))
  by_command (Request r lver how) last = request r
  by_command (GetLvb r p) last = holder r p (λ g. true) (λ t g. GetsValue t (spot_of r)) (λ m g. GetsValue m.who (spot_of r)) (λ m g is there. refl)
  by_command (SetLvb r p bytes) last = set r p bytes last
  by_command (SetKillpath p path) last = killpath p
  by_command Status last = ap (λ z. Replies (Sessions z)) (sessions_are h x.setting (seen x) s.keeps)

pub commands_are_decided : CommandsAreDecided
commands_are_decided i h x c s last = by_command i h x s c last
