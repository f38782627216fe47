-- What a decision asks of the steps has the answer that the kept state gives.
use Rattle.sl_host_law.proofs.Decisions.PlainSums.{apart_unmapped, least_reversed, list_mapped, order_sum, row_apart, sum_mapped}
use Rattle.sl_host_law.specs.Decisions.CommandDecisions.{busy_refused, is_open_on, joined_refused, lease_count, limit_refused, member_named, member_of, member_refusal, open_at, pending_refused, process_refused, sessions_told, states_told, with_member}
use Rattle.sl_due.specs.DueCommands.{busy_refusal, joined_refusal, limit_refusal, matching_session, pending_refusal, process_refusal, session_refusal, with_session}
use Rattle.sl_due.specs.Steps.{Step, seen}
use Rattle.sl_due.specs.declared.decision.Decision.{Decision}
use Rattle.sl_host_law.proofs.SharedFacts.PlainLists.{any_mapped, at_some, filter_as, found_mapped}
use Rattle.sl_host_law.proofs.SharedFacts.PlainOrders.{AreApart}
use Rattle.sl_host_state.proofs.StepQuestions.{questions_are_answered}
use Rattle.sl_host_state.specs.StepQuestions.{ungranted_in}
use Rattle.sl_host_state.specs.KeptState.{Config, HostState, LeaseState, MemberState}
use Rattle.sl_host_state.specs.MadeEffects.{is_lease_on}
use Rattle.sl_host_state.specs.HostStands.{Keeps, MemberStands, Stands, is_there, kept_call}
use Rattle.sl_host_state.specs.declared.kept_parts.OpenCall.{OpenCall}
use Rattle.sl_trace.specs.Counts.{child_count, holder_count, pending_call, resource_count}
use Rattle.sl_trace.specs.Jobs.{is_asking_lease}
use Rattle.sl_trace.specs.Leases.{lease_spots}
use Rattle.sl_words.proofs.Lists.{filter_both, find_inside}
use Rattle.sl_words.proofs.Options.{then_value}
use Rattle.sl_trace.specs.Sessions.{calls_of, generation_of, has_open_write, is_joined, is_present, is_session_arg, joined_after, leaving_job, present_sessions, refused_after, removed_after, renewing, session_named, sessions}
use Rattle.sl_trace.specs.Sightings.{host_state, sessions_seen, sightings, states_seen}
use Rattle.sl_trace.specs.declared.delta.DeltaKnown.{DeltaKnown}
use Rattle.sl_trace.specs.declared.session.Begun.{Begun}
use Rattle.sl_trace.specs.declared.session.Renewing.{Renewing}
use Rattle.sl_trace.specs.declared.session.Session.{Session}
use Rattle.sl_trace.specs.CountLimits.{most_children, most_holders, most_processes, most_resources}
use Rattle.sl_trace.specs.Traces.{Child, Job, Setting, Submitted, Trace, children, first_child, outstanding, same_spot}
use Rattle.sl_trace.specs.declared.command.LockspaceArg.{LockspaceArg}
use Rattle.sl_trace.specs.declared.effects.Spot.{Spot}
use Rattle.sl_trace.specs.declared.input.Input.{Input}
use Rattle.sl_trace.specs.declared.reply.HostState.{HostState as Looks}
use Rattle.sl_trace.specs.declared.reply.Limited.TheVariants.{Children, Holders, Resources}
use Rattle.sl_trace.specs.declared.reply.Reply.TheVariants.{Busy, Joined, Joining as StillJoining, Limit as LimitReached, NoProcess, Pending, Recovering}
use Rattle.sl_trace.specs.declared.reply.Reply.{Reply}
use Rattle.sl_trace.specs.declared.reply.SessionOf.{SessionOf}
use Rattle.sl_trace.specs.declared.reply.StateOf.{StateOf}
use Rattle.sl_words.proofs.CaseLaws.{true_is_false}
use Rattle.sl_words.proofs.WordLaws.{choose_some}
use Rattle.sl_words.specs.Orders.{is_text_before}
use Rattle.sl_words.specs.Words.{choose, least, some_is}
use Rattle.sl_area.specs.AreaSizes.{Layout}
use Rattle.sl_watch.proofs.SummaryLaws.{state_read}
use Rattle.sl_watch.specs.Summaries.{bare, state_by}
use Rattle.sl_watch.specs.Watches.{kept_at}
use Rattle.std.proofs.Common.{ap, arith, refl, subst, suc, sym, zero, ◌∙◌}
use Rattle.std.proofs.lemmas.Bool.Decides.{Decides-eqb}
use Rattle.std.proofs.lemmas.List.{length-map}
use Rattle.std.specs.List.{AllByRecursion, list_any, range_with_len}
use Rattle.std.specs.Option.{option_or}
use Rattle.std.specs.Prelude.{Bool, List, None, Option, Some, bytes_eq, cond, false, filter, find, if◌then◌else◌, is_none, is_some, length, map, nat_le, not, option_and_then, option_map, sum_by, true, [], ℕ, ◌&&◌, ◌+◌, ◌<◌, ◌==◌, ◌||◌, ◌∷◌, ◌≡◌, ◌≤◌}

-- ---- members by name

pub named_is : (h : HostState) (st : Setting) (es : Trace) (name : List ℕ) → Keeps h st es → session_named st es name ≡ option_map (λ m. m.who) (member_named h name)
named_is h st es name k =
    ap (find (λ (s : Session). bytes_eq s.lockspace name)) k.present
    ∙ found_mapped (λ (s : Session). bytes_eq s.lockspace name) (λ (m : MemberState). m.who) h.members

pub matching_is : (h : HostState) (st : Setting) (es : Trace) (a : LockspaceArg) → Keeps h st es → matching_session st es a ≡ option_map (λ m. m.who) (member_of h a)
matching_is h st es a k = ap (option_and_then (λ (s : Session). choose (is_session_arg s a) s)) (named_is h st es a.name k) ∙ by (member_named h a.name) where
  chosen : (b : Bool) (m : MemberState) → choose b m.who ≡ option_map (λ (z : MemberState). z.who) (choose b m)
  chosen true m = refl
  chosen false m = refl

  by : (o : Option MemberState)
      → option_and_then (λ s. choose (is_session_arg s a) s) (option_map (λ (m : MemberState). m.who) o) ≡ option_map (λ (m : MemberState). m.who) (option_and_then (λ m. choose (is_session_arg m.who a) m) o)
  by None = refl
  by (Some m) = chosen (is_session_arg m.who a) m

-- A member that is found stands for its session.
pub named_stands : (h : HostState) (st : Setting) (es : Trace) (name : List ℕ) (m : MemberState) → Keeps h st es → member_named h name ≡ Some m → MemberStands st es m
named_stands h st es name m k is =
    let at = at_some h.members m (find_inside (λ (z : MemberState). bytes_eq z.who.lockspace name) h.members m is).0 in
    k.members at.0 m at.1

pub member_of_stands : (h : HostState) (st : Setting) (es : Trace) (a : LockspaceArg) (m : MemberState) → Keeps h st es → member_of h a ≡ Some m → MemberStands st es m
member_of_stands h st es a m k is =
    let z = then_value (λ (y : MemberState). choose (is_session_arg y.who a) y) (member_named h a.name) m is in
    subst (λ y. MemberStands st es y) (choose_some (is_session_arg z.0.who a) z.0 m z.2).1 (named_stands h st es a.name z.0 k z.1)

pub for_member : (o : Option MemberState) (f : Session → Decision) (g : MemberState → Decision) → ((m : MemberState) → o ≡ Some m → f m.who ≡ g m) → with_session (option_map (λ m. m.who) o) f ≡ with_member o g
for_member None f g same = refl
for_member (Some m) f g same = same m refl

-- ---- a member's state

abbrev begun_of : Job → Begun
begun_of j = record { at = j.at; reading = j.reading; kills_from = j.at + 1 }

none_leaving : (o : Option Job) → is_none o ≡ is_none (option_map begun_of o)
none_leaving None = refl
none_leaving (Some j) = refl

-- By whether it is joined, how it renews, and whether it is not leaving.
abbrev refusal_by : Bool → Renewing → Bool → Option Reply
refusal_by joined r stays = if not joined then Some StillJoining else choose (not (joined && is_none r.recovery && stays)) (Recovering r.last)

pub refusal_is : (st : Setting) (es : Trace) (m : MemberState) → MemberStands st es m → session_refusal st es m.who ≡ member_refusal m
refusal_is st es m s =
    ap (λ b. refusal_by b (renewing st es m.who) (is_none (leaving_job st es m.who))) s.joined
    ∙ ap (λ r. refusal_by m.joined r (is_none (leaving_job st es m.who))) s.renewing
    ∙ ap (refusal_by m.joined m.renewing) (none_leaving (leaving_job st es m.who))
    ∙ ap (λ o. refusal_by m.joined m.renewing (is_none o)) s.leaving

pub generation_is : (st : Setting) (es : Trace) (m : MemberState) → MemberStands st es m → generation_of es m.who ≡ m.known.generation
generation_is st es m s = ap (λ (k : DeltaKnown). k.generation) s.known

pub joined_refusal_is : (st : Setting) (es : Trace) (o : Option MemberState) → ((m : MemberState) → o ≡ Some m → MemberStands st es m)
    → joined_refusal st es (option_map (λ m. m.who) o) ≡ joined_refused o
joined_refusal_is st es None stands = refl
joined_refusal_is st es (Some m) stands =
    ap (λ r. option_or r (Some (Joined (generation_of es m.who)))) (refusal_is st es m (stands m refl))
    ∙ ap (λ n. option_or (member_refusal m) (Some (Joined n))) (generation_is st es m (stands m refl))

-- ---- processes

-- Whether a child runs.
abbrev runs : Child → Bool
runs k = some_is (λ ok. ok) k.answer && not k.exited

running_there : (k : Child) → is_there k ≡ false → runs k ≡ false
running_there k = by (is_none k.answer) (runs k) where
  by : (a b : Bool) → (a || b) ≡ false → b ≡ false
  by true b is = absurd (true_is_false is)
  by false b is = is

gone_after : (p : ℕ) (ks : List Child) → AllByRecursion (λ k. p ≡ k.process → ⊥) ks → find (λ k. k.process == p) (filter is_there ks) ≡ None
gone_after p [] other = refl
gone_after p (k ∷ ks) other = by (is_there k) (gone_after p ks other.1) where
  not_it : (b : Bool) → (k.process == p) ≡ b → cond b (Some k) (find (λ z. z.process == p) (filter is_there ks)) ≡ find (λ z. z.process == p) (filter is_there ks)
  not_it true is = absurd (other.0 (sym ((Decides-eqb k.process p).0 is)))
  not_it false is = refl

  by : (b : Bool) → find (λ z. z.process == p) (filter is_there ks) ≡ None → find (λ z. z.process == p) (cond b (k ∷ filter is_there ks) (filter is_there ks)) ≡ None
  by true rest = not_it (k.process == p) refl ∙ rest
  by false rest = rest

running_kept : (p : ℕ) (ks : List Child) → AreApart (λ (k : Child). k.process) ks
    → some_is runs (find (λ k. k.process == p) ks) ≡ some_is runs (find (λ k. k.process == p) (filter is_there ks))
running_kept p [] apart = refl
running_kept p (k ∷ ks) apart = by (k.process == p) refl (is_there k) refl (running_kept p ks apart.1) where
  by : (b : Bool) → (k.process == p) ≡ b → (c : Bool) → is_there k ≡ c → some_is runs (find (λ z. z.process == p) ks) ≡ some_is runs (find (λ z. z.process == p) (filter is_there ks))
      → some_is runs (cond b (Some k) (find (λ z. z.process == p) ks)) ≡ some_is runs (find (λ z. z.process == p) (cond c (k ∷ filter is_there ks) (filter is_there ks)))
  by true is true there rest = ap (λ d. some_is runs (cond d (Some k) (find (λ (z : Child). z.process == p) (filter is_there ks)))) (sym is)
  by true is false there rest =
      running_there k there
      ∙ sym (ap (some_is runs) (gone_after p ks (subst (λ n. AllByRecursion (λ (z : Child). n ≡ z.process → ⊥) ks) ((Decides-eqb k.process p).0 is) apart.0)))
  by false is true there rest = rest ∙ ap (λ d. some_is runs (cond d (Some k) (find (λ (z : Child). z.process == p) (filter is_there ks)))) (sym is)
  by false is false there rest = rest

children_apart : (h : HostState) (st : Setting) (es : Trace) → Keeps h st es → AreApart (λ (k : Child). k.process) (children es)
children_apart h st es k =
    apart_unmapped (λ (c : Child). c.process) (children es)
    (subst (λ ns. AreApart (λ (n : ℕ). n) ns) (sym k.counted) (row_apart first_child (length (children es))))

pub process_is : (h : HostState) (st : Setting) (es : Trace) (p : ℕ) → Keeps h st es → process_refusal es p ≡ process_refused h p
process_is h st es p k =
    ap (λ b. choose (not (nat_le p most_processes || b)) (NoProcess p))
    (running_kept p (children es) (children_apart h st es k) ∙ ap (λ (ks : List Child). some_is runs (find (λ z. z.process == p) ks)) k.children)

-- ---- the area: holdings in the way, open calls

pub busy_is : (i : Input) (h : HostState) (x : Step) (at : Spot) (asking : Option ℕ) (shared : Bool) → Stands i h x → busy_refusal (seen x) at asking shared ≡ busy_refused h at asking shared
busy_is i h x at asking shared s = ap (option_map (λ p. Busy p)) (questions_are_answered.busy i h x at asking shared s)

kept_filter : (q : OpenCall → Bool) (ms : List Submitted) → map (λ m. m.call.number) (filter (λ m. q (kept_call m)) ms) ≡ map (λ c. c.number) (filter q (map kept_call ms))
kept_filter q [] = refl
kept_filter q (m ∷ ms) = by (q (kept_call m)) (kept_filter q ms) where
  by : (b : Bool) → map (λ z. z.call.number) (filter (λ z. q (kept_call z)) ms) ≡ map (λ c. c.number) (filter q (map kept_call ms))
      → map (λ z. z.call.number) (cond b (m ∷ filter (λ z. q (kept_call z)) ms) (filter (λ z. q (kept_call z)) ms)) ≡ map (λ c. c.number) (cond b (kept_call m ∷ filter q (map kept_call ms)) (filter q (map kept_call ms)))
  by true rest = ap (λ ns. m.call.number ∷ ns) rest
  by false rest = rest

pub open_is : (h : HostState) (st : Setting) (es : Trace) (at : Spot) → Keeps h st es → pending_call st es at ≡ open_at h at
open_is h st es at k =
    ap least (kept_filter (is_open_on st.layout at) (outstanding es))
    ∙ ap (λ cs. least (map (λ (c : OpenCall). c.number) (filter (is_open_on st.layout at) cs))) k.unanswered
    ∙ least_reversed (λ (c : OpenCall). c.number) (is_open_on st.layout at) h.unanswered
    ∙ ap (λ (c : Config). least (map (λ (z : OpenCall). z.number) (filter (is_open_on c.layout at) h.unanswered))) k.config

pub pending_is : (h : HostState) (st : Setting) (es : Trace) (at : Spot) → Keeps h st es → pending_refusal st es at ≡ pending_refused h at
pending_is h st es at k = ap (option_map (λ n. Pending n)) (open_is h st es at k)

-- ---- limits

pub joined_present : (es : Trace) (s : Session) → is_joined es s ≡ (is_present es s && is_joined es s)
joined_present es s = by (joined_after es s) (removed_after es s) where
  by : (o r : Option ℕ)
      → (is_some o && is_none r)
      ≡ ((is_none (elim o as (λ z. Option ℕ) [ Some k ↦ r | None ↦ refused_after es s ]) || is_none o && has_open_write es s) && (is_some o && is_none r))
  by None r = none (is_none (refused_after es s) || has_open_write es s) where
    none : (b : Bool) → false ≡ (b && false)
    none true = refl
    none false = refl
  by (Some k) None = refl
  by (Some k) (Some j) = refl

pub leases_are : (h : HostState) (st : Setting) (es : Trace) → Keeps h st es → resource_count st es ≡ lease_count h
leases_are h st es k =
    let f : Session → ℕ = λ s. length (lease_spots st es s) in
    ap (sum_by f) (filter_as (is_joined es) (λ s. is_present es s && is_joined es s) (sessions st es) (joined_present es) ∙ filter_both (is_present es) (is_joined es) (sessions st es))
    ∙ sym (order_sum f (is_joined es) (λ a b. is_text_before a.lockspace b.lockspace) (filter (is_present es) (sessions st es)))
    ∙ ap (λ ss. sum_by f (filter (is_joined es) ss)) k.present
    ∙ sum_mapped (λ (m : MemberState). m.who) f (is_joined es) (λ (m : MemberState). length m.leases) (λ (m : MemberState). m.joined) h.members
    (λ m there. (let at = at_some h.members m there in (k.members at.0 m at.1).joined))
    (λ m there. (let at = at_some h.members m there in ap (λ ss. length ss) (k.members at.0 m at.1).spots ∙ length-map m.leases (λ (l : LeaseState). l.spot)))

abbrev limit_by : Bool → ℕ → ℕ → ℕ → Bool → Option Reply
limit_by there leases holders kids program =
    option_map (λ l. LimitReached l)
    (option_or (choose (not there && nat_le most_resources leases) Resources)
    (option_or (choose (nat_le most_holders holders) Holders) (choose (program && nat_le most_children kids) Children)))

pub limit_is : (i : Input) (h : HostState) (x : Step) (m : MemberState) (at : Spot) (program : Bool) → Stands i h x → MemberStands x.setting (seen x) m
    → limit_refusal x.setting (seen x) m.who at program ≡ limit_refused h m at program
limit_is i h x m at program s k =
    ap (λ b. limit_by b (resource_count x.setting (seen x)) (holder_count x.setting (seen x)) (child_count x.setting (seen x)) program)
    (ap (list_any (same_spot at)) k.spots ∙ any_mapped (same_spot at) (λ (l : LeaseState). l.spot) m.leases)
    ∙ ap (λ n. limit_by (list_any (is_lease_on at) m.leases) n (holder_count x.setting (seen x)) (child_count x.setting (seen x)) program) (leases_are h x.setting (seen x) s.keeps)
    ∙ ap (λ n. limit_by (list_any (is_lease_on at) m.leases) (lease_count h) n (child_count x.setting (seen x)) program) (questions_are_answered.holders i h x s)
    ∙ ap (λ n. limit_by (list_any (is_lease_on at) m.leases) (lease_count h) (length h.holdings + ungranted_in h is_asking_lease) n program) (questions_are_answered.children i h x s)

-- ---- what is told

-- Two functions that are the same in a range.
range_as : {A : Type 0} (f g : ℕ → A) (a n : ℕ) → ((i : ℕ) → a ≤ i → i < a + n → f i ≡ g i) → map f (range_with_len a n) ≡ map g (range_with_len a n)
range_as f g a zero are = refl
range_as f g a (suc n) are =
    ap (λ y. y ∷ map f (range_with_len (a + 1) n)) (are a (omega arith) (omega arith))
    ∙ ap (λ ys. g a ∷ ys) (range_as f g (a + 1) n (λ i one most. are i (omega (arith, one)) (omega (arith, most))))

abbrev state_of : ℕ → Looks → StateOf
state_of id looks = record { id = id; state = looks }

pub states_are : (h : HostState) (st : Setting) (es : Trace) (now : ℕ) (m : MemberState) → now ≡ h.reading → Keeps h st es → MemberStands st es m → states_seen st es m.who now ≡ states_told h m
states_are h st es now m is k s =
    range_as (λ id. state_of id (host_state st.timing st.layout id (sightings st.layout id (calls_of es m.who)) now)) (λ id. state_of id (state_by m.watch.timing (bare (kept_at m.watch id)).run now))
    1 st.layout.hosts (λ id one most. ap (state_of id) (by id one (omega (arith, most))))
    ∙ ap (λ (c : Config). map (λ id. state_of id (state_by m.watch.timing (bare (kept_at m.watch id)).run now)) (range_with_len 1 c.layout.hosts)) k.config
    ∙ ap (λ t. map (λ id. state_of id (state_by m.watch.timing (bare (kept_at m.watch id)).run t)) (range_with_len 1 h.config.layout.hosts)) is where
      by : (id : ℕ) → 1 ≤ id → id ≤ st.layout.hosts → host_state st.timing st.layout id (sightings st.layout id (calls_of es m.who)) now ≡ state_by m.watch.timing (bare (kept_at m.watch id)).run now
      by id one most =
          ap (λ t. host_state t st.layout id (sightings st.layout id (calls_of es m.who)) now) (sym s.seen.timed)
          ∙ ap (λ g. host_state m.watch.timing g id (sightings st.layout id (calls_of es m.who)) now) (sym s.seen.sized)
          ∙ sym (state_read m.watch (λ id. sightings st.layout id (calls_of es m.who)) id now s.seen.stands one (subst (λ (g : Layout). id ≤ g.hosts) (sym s.seen.sized) most))

abbrev told : List ℕ → ℕ → ℕ → SessionOf
told name id generation = record { lockspace = name; id = id; generation = generation }

pub sessions_are : (h : HostState) (st : Setting) (es : Trace) → Keeps h st es → sessions_seen st es ≡ sessions_told h
sessions_are h st es k =
    ap (λ ss. map (λ (s : Session). told s.lockspace s.id (generation_of es s)) (filter (is_joined es) ss)) k.present
    ∙ list_mapped (λ (m : MemberState). m.who) (λ (s : Session). told s.lockspace s.id (generation_of es s)) (is_joined es) (λ (m : MemberState). told m.who.lockspace m.who.id m.known.generation) (λ (m : MemberState). m.joined) h.members
    (λ m there. (let at = at_some h.members m there in (k.members at.0 m at.1).joined))
    (λ m there. (let at = at_some h.members m there in ap (told m.who.lockspace m.who.id) (generation_is st es m (k.members at.0 m at.1))))

pub how_many_present : (h : HostState) (st : Setting) (es : Trace) → Keeps h st es → length (present_sessions st es) ≡ length h.members
how_many_present h st es k = ap (λ ss. length ss) k.present ∙ length-map h.members (λ (m : MemberState). m.who)
