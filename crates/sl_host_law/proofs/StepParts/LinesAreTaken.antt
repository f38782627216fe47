-- A command line as a whole.
use Rattle.sl_due_facts.proofs.Acts.DecisionsAreTheirs.{decisions_are_theirs}
use Rattle.sl_due_facts.specs.Acts.DueDaemons.{IsDecidedFor}
use Rattle.sl_area.specs.AreaSizes.{Layout}
use Rattle.sl_area.specs.AreaLayout.{area_sectors, delta_offset, value_offset}
use Rattle.sl_host_law.proofs.Calls.MemberCalls.SpotsMore.{one_spot}
use Rattle.sl_host_law.proofs.Calls.CallsAreTaken.{calls_are_taken}
use Rattle.sl_host_law.proofs.Calls.InputsAreHeard.{inputs_are_heard}
use Rattle.sl_host_law.proofs.Calls.JoiningsAreTaken.{joinings_are_taken}
use Rattle.sl_host_law.specs.Calls.MemberCalls.{CallFits, fits_lease, fits_value, is_idle_job, is_leaving_alone}
use Rattle.sl_host_law.proofs.Decisions.CommandsAreDecided.{commands_are_decided}
use Rattle.sl_host_law.proofs.Decisions.QuestionsByKept.{open_is}
use Rattle.sl_host_law.specs.Decisions.CommandDecisions.{open_at}
use Rattle.sl_due.specs.DueCommands.{answer_line, carry_command, carry_decision, carry_line, decided, on_line, reply_at_once}
use Rattle.sl_due.specs.DueRecovery.{signal_and_refuse}
use Rattle.sl_due.specs.Steps.{Step, add_call_of, seen, with_input}
use Rattle.sl_due.specs.declared.decision.Decision.TheVariants.{GetsValue, Joins, Leaves, ReadsArea, Replies, Requests, SetsValue}
use Rattle.sl_due.specs.declared.decision.Decision.{Decision}
use Rattle.sl_host_law.proofs.SharedFacts.PlainLists.{at_some}
use Rattle.sl_host_state.specs.HeardInputs.{answered_line, heard_line, new_job}
use Rattle.sl_host_state.specs.KeptState.{Config, HostState, LeaseState, MemberState}
use Rattle.sl_host_state.specs.MadeEffects.{is_lease_on, next_submitted, with_call, with_joining}
use Rattle.sl_host_state.specs.NewHost.{IsOfProgram}
use Rattle.sl_host_state.specs.HostStands.{IsWaiting, LeaseStands, Stands}
use Rattle.sl_host_state.specs.declared.kept_parts.JobState.{JobState}
use Rattle.sl_host_state.specs.declared.kept_parts.LeaseCall.{LeaseCall}
use Rattle.sl_trace.specs.Leases.{is_lease_call, is_on, lease_calls, open_on}
use Rattle.sl_host_law.proofs.StepParts.RefusalsAreTaken.{refusals_are_taken}
use Rattle.sl_host_law.specs.StepParts.Lines.{HeardBy, LineComes, LinesAreTaken}
use Rattle.sl_host_law.specs.StepParts.Refusals.{jobs_but, numbers_of, signalling_and_refusing}
use Rattle.sl_words.proofs.Lists.{contains_first, contains_none, find_inside, in_map, kept, kept_inside}
use Rattle.sl_host_law.specs.Questions.Members.{IsMemberAt, jobs_in}
use Rattle.sl_sector.specs.declared.sector.Rec.TheVariants.{ValueIs}
use Rattle.sl_sector.specs.declared.sector.ValueRec.{ValueRec}
use Rattle.sl_trace.specs.Sessions.{calls_of, is_call_of, me}
use Rattle.sl_trace.specs.declared.session.Session.{Session}
use Rattle.sl_trace.specs.Traces.{Submitted, next_job, outstanding, submitted}
use Rattle.sl_trace.specs.declared.command.Command.{Command}
use Rattle.sl_trace.specs.declared.command.LockspaceArg.{LockspaceArg}
use Rattle.sl_trace.specs.declared.command.ResourceArg.{ResourceArg}
use Rattle.sl_trace.specs.declared.effects.JoinStep.TheVariants.{FirstRead}
use Rattle.sl_trace.specs.declared.effects.LeaseStep.TheVariants.{ReadArea}
use Rattle.sl_trace.specs.declared.effects.Op.TheVariants.{ReadSectors, WriteRecord}
use Rattle.sl_trace.specs.declared.effects.Op.{Op}
use Rattle.sl_trace.specs.declared.effects.Purpose.TheVariants.{Joining, Lease, RequestRead, ValueRead, ValueWrite}
use Rattle.sl_trace.specs.declared.effects.Purpose.{Purpose}
use Rattle.sl_trace.specs.declared.effects.Spot.{Spot}
use Rattle.sl_trace.specs.declared.effects.Work.TheVariants.{ForJob}
use Rattle.sl_trace.specs.declared.input.Input.TheVariants.{Line, Wake}
use Rattle.sl_trace.specs.declared.input.Input.{Input}
use Rattle.sl_trace.specs.declared.reply.Reply.TheVariants.{BadCommand as Misread}
use Rattle.sl_trace.specs.declared.reply.Reply.{Reply}
use Rattle.sl_words.proofs.CaseLaws.{false_is_true, none_some}
use Rattle.sl_words.proofs.WordLaws.{and_true}
use Rattle.sl_words.specs.Results.{◌>>=◌}
use Rattle.sl_words.specs.Words.{least}
use Rattle.std.proofs.Common.{ap, arith, inl, refl, subst, sym, ◌∙◌}
use Rattle.std.proofs.lemmas.Bool.Decides.{Decides-eqb}
use Rattle.std.specs.List.{list_any}
use Rattle.std.specs.Prelude.{Bool, Contains, Err, IsTrue, List, None, Ok, Option, Result, Some, false, find, is_none, map, min, not, slice_get, true, [], ℕ, ◌&&◌, ◌++◌, ◌+◌, ◌==◌, ◌∷◌, ◌≡◌, ◌||◌}

-- ---- what a text comes to

reads_is : (h : HostState) (x : Step) (text : List ℕ) → Stands Wake h x → x.setting.read text ≡ h.config.read text
reads_is h x text s = ap (λ (c : Config). c.read text) s.keeps.config

number_is : (h : HostState) (x : Step) → Stands Wake h x → next_job x.setting (seen x) ≡ h.next_job
number_is h x s = s.keeps.lines

misread : (h : HostState) (x : Step) (text : List ℕ) (column : ℕ) → Stands Wake h x → h.made.calls ≡ [] → h.config.read text ≡ Err column
    → Stands (Line text) (answered_line (h.config.read text) (Misread column) h) (on_line text x)
unfolding on_line
misread h x text column s bare says =
    subst (λ y. Stands (Line text) (answered_line (h.config.read text) (Misread column) h) y)
    (sym (ap (λ (o : Result Command ℕ). carry_line text (next_job x.setting (seen x)) (o >>= (λ c. Ok (c, decided x.setting (seen x) x.reading c))) x) (reads_is h x text s ∙ says)))
    (inputs_are_heard.answered h x text (Misread column) bare s)

-- A text that says a command is that command, decided.
by_command : (h : HostState) (x : Step) (text : List ℕ) (c : Command) (d : Decision) → LineComes h x text c d → on_line text x ≡ carry_command text (next_job x.setting (seen x)) c d x
unfolding on_line
by_command h x text c d l =
    ap (λ (o : Result Command ℕ). carry_line text (next_job x.setting (seen x)) (o >>= (λ e. Ok (e, decided x.setting (seen x) x.reading e))) x) (reads_is h x text l.stands ∙ l.says)
    ∙ ap (λ e. carry_command text (next_job x.setting (seen x)) c e x) (commands_are_decided Wake h x c l.stands l.last ∙ l.decision)

answered : (h : HostState) (x : Step) (text : List ℕ) (c : Command) (r : Reply) → LineComes h x text c (Replies r) → Stands (Line text) (answered_line (h.config.read text) r h) (on_line text x)
answered h x text c r l =
    subst (λ y. Stands (Line text) (answered_line (h.config.read text) r h) y) (sym (by_command h x text c (Replies r) l)) (inputs_are_heard.answered h x text r l.at.calls l.stands)

pub heard : (h : HostState) (x : Step) (text : List ℕ) (c : Command) (d : Decision) → LineComes h x text c d → Stands (Line text) (heard_line c h) (with_input (Line text) x)
heard h x text c d l = inputs_are_heard.line h x text c l.says l.at l.stands

pub carried : (h : HostState) (x : Step) (text : List ℕ) (c : Command) (d : Decision) → LineComes h x text c d → reply_at_once d ≡ None
    → on_line text x ≡ carry_decision h.next_job c d (with_input (Line text) x)
carried h x text c d l none =
    by_command h x text c d l
    ∙ ap (λ o. elim o as (λ z. Step) [ Some r ↦ answer_line text (next_job x.setting (seen x)) r x | None ↦ carry_decision (next_job x.setting (seen x)) c d (with_input (Line text) x) ]) none
    ∙ ap (λ n. carry_decision n c d (with_input (Line text) x)) (number_is h x l.stands)

-- ---- its job

-- The job of the line waits for no call.
own_idle : (h : HostState) (c : Command) → is_idle_job (heard_line c h) h.next_job ≡ true
own_idle h c = any_last h.jobs where
  or_true_right : (b : Bool) → (b || true) ≡ true
  or_true_right true = refl
  or_true_right false = refl

  any_last : (js : List JobState) → list_any (λ j. j.number == h.next_job && is_none j.waits) (js ++ new_job h.next_job (Some c) ∷ []) ≡ true
  any_last [] = ap (λ b. b && true || false) ((Decides-eqb h.next_job h.next_job).1 refl)
  any_last (j ∷ js) = ap (λ b. j.number == h.next_job && is_none j.waits || b) (any_last js) ∙ or_true_right (j.number == h.next_job && is_none j.waits)

idle_or : (h : HostState) (c : Command) (m : MemberState) → IsTrue (is_idle_job (heard_line c h) h.next_job || is_leaving_alone (heard_line c h) m h.next_job)
idle_or h c m = ap (λ b. b || is_leaving_alone (heard_line c h) m h.next_job) (own_idle h c)

-- ---- a session begins, or is left

layout_is : (h : HostState) (x : Step) → Stands Wake h x → x.setting.layout ≡ h.config.layout
layout_is h x s = ap (λ (c : Config). c.layout) s.keeps.config

joins : (h : HostState) (x : Step) (text : List ℕ) (c : Command) (n : ℕ) (a : LockspaceArg) → LineComes h x text c (Joins n a) → IsOfProgram h.config.layout
    → Stands (Line text) (with_joining h.next_job a (Joining h.next_job FirstRead) (delta_offset h.config.layout a.offset a.id) (ReadSectors 1) (heard_line c h)) (on_line text x)
unfolding carry_decision
joins h x text c n a l program =
    let theirs : IsDecidedFor x.setting (seen x) c (Joins n a) =
    subst (λ d. IsDecidedFor x.setting (seen x) c d) (commands_are_decided Wake h x c l.stands l.last ∙ l.decision) (decisions_are_theirs x.setting (seen x) x.reading c)
    in
    let number : n ≡ h.born = theirs.1 ∙ l.stands.keeps.born in
    let h' : HostState = heard_line c h in
    let after : HostState = with_joining h.next_job a (Joining h.next_job FirstRead) (delta_offset h.config.layout a.offset a.id) (ReadSectors 1) h' in
    let y : Step = with_input (Line text) x in
    subst (λ z. Stands (Line text) after z) (sym (carried h x text c (Joins n a) l refl))
    (subst (λ k. Stands (Line text) after (add_call_of k a.path (Joining h.next_job FirstRead) (delta_offset y.setting.layout a.offset a.id) (ReadSectors 1) y)) (sym number)
    (subst (λ g. Stands (Line text) after (add_call_of h.born a.path (Joining h.next_job FirstRead) (delta_offset g a.offset a.id) (ReadSectors 1) y)) (sym (layout_is h x l.stands))
    (joinings_are_taken h' y h.next_job text a (delta_offset h.config.layout a.offset a.id) 1
    (record { says = l.says ∙ ap (λ e. Ok e) theirs.0; number = refl; runs = own_idle h c; bare = l.at.calls; program = program }) (heard h x text c (Joins n a) l))))

-- The member, as the line has been heard.
pub member_at : (h : HostState) (x : Step) (text : List ℕ) (c : Command) (d : Decision) (k : ℕ) (m : MemberState) (s : Session) → LineComes h x text c d → HeardBy h c k m s
    → IsMemberAt (Line text) (heard_line c h) (with_input (Line text) x) k m
member_at h x text c d k m s l by = record { stands = heard h x text c d l; there = by.there }

others_later : (h : HostState) (c : Command) (m : MemberState) (n : ℕ) → Contains (numbers_of (jobs_but (Some h.next_job) (heard_line c h) m)) n → (n + 1 == h.next_job + 1) ≡ false
others_later h c m n there =
    let j = in_map (λ (z : JobState). z.number) (jobs_but (Some h.next_job) (heard_line c h) m) n there in
    let other = (kept_inside (λ (z : JobState). not (h.next_job == z.number)) (jobs_in (heard_line c h) m) j.0 j.1).1 in
    apart j.0.number n h.next_job j.2 (not_true (h.next_job == j.0.number) other) where
      not_true : (b : Bool) → not b ≡ true → b ≡ false
      not_true false is = refl
      not_true true is = absurd (false_is_true is)

      apart : (a b k : ℕ) → a ≡ b → (k == a) ≡ false → (b + 1 == k + 1) ≡ false
      apart a b k same other = grind (arith, same, other)

leaves : (h : HostState) (x : Step) (text : List ℕ) (c : Command) (s : Session) (k : ℕ) (m : MemberState) → LineComes h x text c (Leaves s) → HeardBy h c k m s
    → Stands (Line text) (signalling_and_refusing m (Some h.next_job) (heard_line c h)) (on_line text x)
unfolding carry_decision
leaves h x text c s k m l by =
    subst (λ z. Stands (Line text) (signalling_and_refusing m (Some h.next_job) (heard_line c h)) z) (sym (carried h x text c (Leaves s) l refl))
    (subst (λ t. Stands (Line text) (signalling_and_refusing m (Some h.next_job) (heard_line c h)) (signal_and_refuse t (Some h.next_job) (with_input (Line text) x))) by.whose
    (refusals_are_taken.whole (Line text) (heard_line c h) (with_input (Line text) x) k m (Some h.next_job) (member_at h x text c (Leaves s) k m s l by)
    (λ n there. (tt, inl (others_later h c m n there)))))

-- ---- a call of a session

-- A call of the member that fits is taken.
calls : (h : HostState) (x : Step) (text : List ℕ) (c : Command) (d : Decision) (s : Session) (k : ℕ) (m : MemberState) (path : List ℕ) (purpose : Purpose) (offset : ℕ) (op : Op) → LineComes h x text c d → HeardBy h c k m s
    → reply_at_once d ≡ None → CallFits (heard_line c h) m (next_submitted (heard_line c h) m.who.number path purpose offset op)
    → carry_decision h.next_job c d (with_input (Line text) x) ≡ add_call_of s.number path purpose offset op (with_input (Line text) x)
    → Stands (Line text) (with_call m.who.number path purpose offset op (heard_line c h)) (on_line text x)
calls h x text c d s k m path purpose offset op l by none fits is =
    subst (λ z. Stands (Line text) (with_call m.who.number path purpose offset op (heard_line c h)) z) (sym (carried h x text c d l none ∙ is))
    (subst (λ (t : Session). Stands (Line text) (with_call m.who.number path purpose offset op (heard_line c h)) (add_call_of t.number path purpose offset op (with_input (Line text) x))) by.whose
    (calls_are_taken (heard_line c h) k m path purpose offset op by.there fits (Line text) (with_input (Line text) x) (heard h x text c d l)))

requests : (h : HostState) (x : Step) (text : List ℕ) (c : Command) (s : Session) (r : ResourceArg) (k : ℕ) (m : MemberState) → LineComes h x text c (Requests s r) → HeardBy h c k m s
    → Stands (Line text) (with_call m.who.number r.path (RequestRead h.next_job) r.offset (ReadSectors 2) (heard_line c h)) (on_line text x)
unfolding carry_decision
requests h x text c s r k m l by =
    calls h x text c (Requests s r) s k m r.path (RequestRead h.next_job) r.offset (ReadSectors 2) l by refl
    (record { later = refl; job = idle_or h c m; turn = refl; generation = refl; value = refl; lease = refl; again = refl }) refl

-- Offsets, by the configuration.
value_place : (h : HostState) (x : Step) (at : Spot) → Stands Wake h x → value_offset x.setting.layout at.base ≡ value_offset h.config.layout at.base
value_place h x at s = ap (λ g. value_offset g at.base) (layout_is h x s)

gets : (h : HostState) (x : Step) (text : List ℕ) (c : Command) (s : Session) (at : Spot) (k : ℕ) (m : MemberState) → LineComes h x text c (GetsValue s at) → HeardBy h c k m s
    → Stands (Line text) (with_call m.who.number at.path (ValueRead h.next_job) (value_offset h.config.layout at.base) (ReadSectors 1) (heard_line c h)) (on_line text x)
unfolding carry_decision
gets h x text c s at k m l by =
    calls h x text c (GetsValue s at) s k m at.path (ValueRead h.next_job) (value_offset h.config.layout at.base) (ReadSectors 1) l by refl
    (record { later = refl; job = idle_or h c m; turn = refl; generation = refl; value = refl; lease = refl; again = refl })
    (ap (λ o. add_call_of s.number at.path (ValueRead h.next_job) o (ReadSectors 1) (with_input (Line text) x)) (value_place h x at l.stands))

sets : (h : HostState) (x : Step) (text : List ℕ) (c : Command) (s : Session) (at : Spot) (v : ValueRec) (k : ℕ) (m : MemberState) → LineComes h x text c (SetsValue s at v) → HeardBy h c k m s
    → IsTrue (fits_value h.config.layout m (next_submitted h m.who.number at.path (ValueWrite h.next_job) (value_offset h.config.layout at.base) (WriteRecord (ValueIs v))))
    → Stands (Line text) (with_call m.who.number at.path (ValueWrite h.next_job) (value_offset h.config.layout at.base) (WriteRecord (ValueIs v)) (heard_line c h)) (on_line text x)
unfolding carry_decision
sets h x text c s at v k m l by on =
    calls h x text c (SetsValue s at v) s k m at.path (ValueWrite h.next_job) (value_offset h.config.layout at.base) (WriteRecord (ValueIs v)) l by refl
    (record { later = refl; job = idle_or h c m; turn = refl; generation = refl; value = on; lease = refl; again = refl })
    (ap (λ o. add_call_of s.number at.path (ValueWrite h.next_job) o (WriteRecord (ValueIs v)) (with_input (Line text) x)) (value_place h x at l.stands))

reads : (h : HostState) (x : Step) (text : List ℕ) (c : Command) (s : Session) (r : ResourceArg) (k : ℕ) (m : MemberState) → LineComes h x text c (ReadsArea s r) → HeardBy h c k m s
    → IsTrue (fits_lease h.config.layout m (next_submitted h m.who.number r.path (Lease (ForJob h.next_job) (ReadArea r.name)) r.offset (ReadSectors (area_sectors h.config.layout))))
    → Stands (Line text) (with_call m.who.number r.path (Lease (ForJob h.next_job) (ReadArea r.name)) r.offset (ReadSectors (area_sectors h.config.layout)) (heard_line c h)) (on_line text x)
unfolding carry_decision
reads h x text c s r k m l by free =
    calls h x text c (ReadsArea s r) s k m r.path (Lease (ForJob h.next_job) (ReadArea r.name)) r.offset (ReadSectors (area_sectors h.config.layout)) l by refl
    (record { later = refl; job = idle_or h c m; turn = refl; generation = refl; value = refl; lease = free; again = refl })
    (ap (λ (g : Layout). add_call_of s.number r.path (Lease (ForJob h.next_job) (ReadArea r.name)) r.offset (ReadSectors (area_sectors g)) (with_input (Line text) x)) (layout_is h x l.stands))

-- ---- a lease that waits has an open call on its area

free : (i : Input) (h : HostState) (x : Step) (k : ℕ) (m : MemberState) (at : Spot) (l : LeaseState) → IsMemberAt i h x k m → open_at h at ≡ None → find (is_lease_on at) m.leases ≡ Some l
    → l.waiting ≡ None
free i h x k m at l in_it none there = by l.waiting refl where
  found : Contains m.leases l × (is_lease_on at l ≡ true)
  found = find_inside (is_lease_on at) m.leases l there

  place : (j : ℕ) × (slice_get m.leases j ≡ Some l)
  place = at_some m.leases l found.0

  stands : LeaseStands x.setting.layout m.who.lockspace (me (seen x) m.who) l (lease_calls x.setting (seen x) m.who l.spot)
  stands = (in_it.stands.keeps.members k m in_it.there).leases place.0 l place.1

  here : at ≡ l.spot
  here = one_spot at l.spot found.1

  newest : (w : LeaseCall) (ms : List Submitted) → IsWaiting (Some w) ms → (c : Submitted) × Contains ms c × (c.answer ≡ None)
  newest w [] waits = absurd waits
  newest w (c ∷ cs) waits = (c, contains_first c cs, waits.0.0)

  by : (o : Option LeaseCall) → l.waiting ≡ o → o ≡ None
  by None is = refl
  by (Some w) is =
      let c = newest w (lease_calls x.setting (seen x) m.who l.spot) (subst (λ o. IsWaiting o (lease_calls x.setting (seen x) m.who l.spot)) is stands.waiting) in
      let on = kept_inside (λ (d : Submitted). is_lease_call d && is_on x.setting.layout l.spot d.call) (calls_of (seen x) m.who) c.0 c.1 in
      let mine = kept_inside (is_call_of m.who) (submitted (seen x)) c.0 on.0 in
      let out : Contains (outstanding (seen x)) c.0 = kept (λ (d : Submitted). is_none d.answer) (submitted (seen x)) c.0 (ap (λ o. is_none o) c.2) mine.0 in
      let there_on : is_on x.setting.layout at c.0.call ≡ true =
      subst (λ p. is_on x.setting.layout p c.0.call ≡ true) (sym here) (and_true (is_lease_call c.0) (is_on x.setting.layout l.spot c.0.call) on.1).1
      in
      absurd (no_least (open_on x.setting (seen x) at) c.0 (kept (λ (d : Submitted). is_on x.setting.layout at d.call) (outstanding (seen x)) c.0 there_on out)
      (open_is h x.setting (seen x) at in_it.stands.keeps ∙ none)) where
        no_least : (ms : List Submitted) (d : Submitted) → Contains ms d → least (map (λ z. z.call.number) ms) ≡ None → ⊥
        no_least [] d in_none is_none_it = contains_none d in_none
        no_least (z ∷ zs) d in_it2 is_it = none_some_least z.call.number (least (map (λ y. y.call.number) zs)) is_it where
          none_some_least : (n : ℕ) (o : Option ℕ) → elim o as (λ y. Option ℕ) [ None ↦ Some n | Some y ↦ Some (min n y) ] ≡ None → ⊥
          none_some_least n None bad = none_some n (sym bad)
          none_some_least n (Some y) bad = none_some (min n y) (sym bad)

pub lines_are_taken : LinesAreTaken
lines_are_taken =
    record { misread = misread; answered = answered; heard = heard; carried = carried; joins = joins; leaves = leaves; requests = requests; gets = gets; sets = sets; reads = reads; free = free }
