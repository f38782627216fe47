-- The first read of a joining is taken: its session begins with it.
use Rattle.sl_area.specs.AreaSizes.{Layout}
use Rattle.sl_host_law.proofs.Calls.MemberCalls.KeepsMore.{keeps_more}
use Rattle.sl_host_law.proofs.Calls.MemberCalls.MemberMore.{MemberFits, called, more, newest, others_stay, own_stands, stays_by_calls}
use Rattle.sl_host_law.proofs.Calls.MemberCalls.PresentMore.{others_present}
use Rattle.sl_host_law.proofs.Calls.CallsAreTaken.{idle_fits, is_next, layout_is, made, quiet_more, runs_too, whos_stay}
use Rattle.sl_host_law.proofs.Calls.Joinings.CallsBelow.{owned_so_far}
use Rattle.sl_host_law.proofs.Calls.Joinings.NewSession.{IsToCome, new_stands, not_joined_yet, not_refused_yet}
use Rattle.sl_host_law.specs.Calls.Joinings.{JoiningFits, JoiningsAreTaken}
use Rattle.sl_due.specs.Steps.{Step, seen}
use Rattle.sl_host_law.proofs.SharedFacts.KeptJobs.{running_there}
use Rattle.sl_host_law.proofs.SharedFacts.MembersAreSessions.{member_inside}
use Rattle.sl_host_law.proofs.SharedFacts.PlainLists.{at_mapped, at_some, filter_where}
use Rattle.sl_host_law.proofs.SharedFacts.PlainOrders.{put_inside, put_mapped}
use Rattle.sl_host_law.proofs.SharedFacts.QuietMoments.{job_quiet, member_quiet, quiet_by}
use Rattle.sl_host_law.proofs.SharedFacts.SessionNumbers.{below_count}
use Rattle.sl_host_state.specs.KeptState.{Config, HostState, MemberState}
use Rattle.sl_host_state.specs.MadeEffects.{calling, member_calling, with_member}
use Rattle.sl_host_state.specs.NewHost.{IsOfProgram, new_member}
use Rattle.sl_host_state.specs.HostStands.{IsQuiet, Keeps, MemberStands, Stands, member_moments}
use Rattle.sl_words.proofs.Lists.{contains_none, got_inside}
use Rattle.sl_words.proofs.Numbers.{number_itself}
use Rattle.sl_words.proofs.Options.{none_is}
use Rattle.sl_trace.specs.Sessions.{added, added_by, has_open_write, is_join_call, is_present, joined_after, joining_session, present_sessions, refused_after, removed_after, sessions}
use Rattle.sl_trace.specs.declared.session.Session.{Session}
use Rattle.sl_trace.proofs.TraceFacts.{fold-push}
use Rattle.sl_trace.specs.Traces.{Setting, next_job, numbers_taken, reply_to, takes_number}
use Rattle.sl_trace.specs.declared.command.Command.TheVariants.{AddLockspace}
use Rattle.sl_trace.specs.declared.command.Command.{Command}
use Rattle.sl_trace.specs.declared.command.LockspaceArg.{LockspaceArg}
use Rattle.sl_trace.specs.declared.effects.Call.{Call}
use Rattle.sl_trace.specs.declared.effects.Effects.{Effects}
use Rattle.sl_trace.specs.declared.effects.JoinStep.TheVariants.{FirstRead}
use Rattle.sl_trace.specs.declared.effects.Op.TheVariants.{ReadSectors}
use Rattle.sl_trace.specs.declared.effects.Purpose.TheVariants.{Joining}
use Rattle.sl_trace.specs.declared.input.Input.TheVariants.{Line}
use Rattle.sl_words.proofs.CaseLaws.{is_false}
use Rattle.sl_words.specs.Orders.{in_order, is_text_before, put_in}
use Rattle.std.proofs.Common.{ap, arith, inl, inr, refl, subst, sym, ◌∙◌}
use Rattle.std.proofs.lemmas.Bool.Decides.{Decides-eqb}
use Rattle.std.proofs.lemmas.List.{append-nil, length_push}
use Rattle.std.proofs.lemmas.List.Elements.{filter-append}
use Rattle.std.specs.List.{list_any}
use Rattle.std.specs.Prelude.{Bool, Contains, List, None, Ok, Option, Result, Some, cond, false, filter, is_none, length, map, slice_get, true, [], ℕ, ◌&&◌, ◌++◌, ◌+◌, ◌<◌, ◌==◌, ◌||◌, ◌∷◌, ◌≡◌, ◌≤◌, ◌⊎◌}

-- ---- the session

-- The session that begins.
abbrev begun : HostState → ℕ → LockspaceArg → Session
begun h job a = joining_session h.born job a

-- Its first read.
abbrev first_read : Step → HostState → ℕ → LockspaceArg → ℕ → ℕ → Call
first_read x h job a offset sectors = made x h.born a.path (Joining job FirstRead) offset (ReadSectors sectors)

bare_step : (h : HostState) (x : Step) (text : List ℕ) → Stands (Line text) h x → h.made.calls ≡ [] → x.effects.calls ≡ []
bare_step h x text s bare = ap (λ (f : Effects). f.calls) s.made ∙ bare

-- So far no session has begun in this step.
sessions_before : (h : HostState) (x : Step) (text : List ℕ) → Stands (Line text) h x → h.made.calls ≡ [] → sessions x.setting (seen x) ≡ sessions x.setting x.past
sessions_before h x text s bare =
    ap (λ cs. sessions x.setting x.past ++ elim (list_any (λ (c : Call). is_join_call FirstRead c.purpose) cs) as (λ z. List Session) [
      | false ↦ []
      | true ↦ elim (added_by x.setting x.input) as (λ z. List Session) [ None ↦ [] | Some b ↦ joining_session (length (sessions x.setting x.past)) (next_job x.setting x.past) b ∷ [] ]
    ]) (bare_step h x text s bare)
    ∙ append-nil (sessions x.setting x.past)

job_number : (h : HostState) (x : Step) (text : List ℕ) (job : ℕ) → Stands (Line text) h x → h.next_job ≡ job + 1 → next_job x.setting x.past ≡ job
job_number h x text job s number =
    let lines : x.setting.first.job + elim (takes_number x.input) as (λ z. ℕ) [ true ↦ numbers_taken x.past + 1 | false ↦ numbers_taken x.past ] ≡ h.next_job = s.keeps.lines in
    let line : x.setting.first.job + (numbers_taken x.past + 1) ≡ h.next_job =
    sym (ap (λ i. x.setting.first.job + elim (takes_number i) as (λ z. ℕ) [ true ↦ numbers_taken x.past + 1 | false ↦ numbers_taken x.past ]) s.input) ∙ lines
    in
    omega (arith, line, number)

-- With its first read it is the last of all.
sessions_begun : (h : HostState) (x : Step) (job : ℕ) (text : List ℕ) (a : LockspaceArg) (offset sectors : ℕ) → JoiningFits h job text a → Stands (Line text) h x
    → sessions x.setting (seen (more (first_read x h job a offset sectors) x)) ≡ sessions x.setting (seen x) ++ begun h job a ∷ []
sessions_begun h x job text a offset sectors fits s =
    let st : Setting = x.setting in
    let ss : List Session = sessions st x.past in
    let was : sessions st (seen x) ≡ ss = sessions_before h x text s fits.bare in
    let reads : st.read text ≡ Ok (AddLockspace a) = ap (λ (c : Config). c.read text) s.keeps.config ∙ fits.says in
    let count : length ss ≡ h.born = sym (ap (λ zs. length zs) was) ∙ s.keeps.born in
    let by_looks : Bool → List Session = λ looks. ss ++ elim looks as (λ z. List Session) [
      | false ↦ []
      | true ↦ elim (added_by st x.input) as (λ z. List Session) [ None ↦ [] | Some b ↦ joining_session (length ss) (next_job st x.past) b ∷ [] ]
    ] in
    ap (λ cs. by_looks (list_any (λ (c : Call). is_join_call FirstRead c.purpose) (cs ++ first_read x h job a offset sectors ∷ []))) (bare_step h x text s fits.bare)
    ∙ ap (λ i. ss ++ elim (added_by st i) as (λ z. List Session) [ None ↦ [] | Some b ↦ joining_session (length ss) (next_job st x.past) b ∷ [] ]) s.input
    ∙ ap (λ (o : Result Command ℕ). ss ++ elim (added o) as (λ z. List Session) [ None ↦ [] | Some b ↦ joining_session (length ss) (next_job st x.past) b ∷ [] ]) reads
    ∙ ap (λ n. ss ++ joining_session n (next_job st x.past) a ∷ []) count
    ∙ ap (λ n. ss ++ joining_session h.born n a ∷ []) (job_number h x text job s fits.number)
    ∙ ap (λ zs. zs ++ begun h job a ∷ []) (sym was)

-- Before it nothing is to tell of the session.
to_come : (h : HostState) (x : Step) (job : ℕ) (text : List ℕ) (a : LockspaceArg) → JoiningFits h job text a → Stands (Line text) h x → IsToCome x.setting (seen x) (begun h job a) job
to_come h x job text a fits s =
    let r = running_there h x.setting (seen x) job s.keeps (runs_too h.jobs job fits.runs) in
    record {
      job = refl;
      owned = owned_so_far x s.past (bare_step h x text s fits.bare);
      later = (let count : length (sessions x.setting (seen x)) ≡ h.born = s.keeps.born in omega (arith, count));
      unreplied = none_is (reply_to (seen x) job) r.3;
    }

-- All others have lower numbers.
other_number : (h : HostState) (x : Step) (t : Session) → Keeps h x.setting (seen x) → Contains (sessions x.setting (seen x)) t → (h.born == t.number) ≡ false
other_number h x t k there =
    let below : t.number < length (sessions x.setting (seen x)) = below_count x.setting (seen x) t there in
    is_false (h.born == t.number) (λ same. (let number : h.born ≡ t.number = (Decides-eqb h.born t.number).0 same in
    let count : length (sessions x.setting (seen x)) ≡ h.born = k.born in absurd (omega (arith, below, number, count))))

-- ---- who is present

begun_present : (x : Step) (s : Session) (call : Call) → joined_after (seen x) s ≡ None → refused_after (seen x) s ≡ None → is_present (seen (more call x)) s ≡ true
begun_present x s call joined refused =
    ap (λ o. is_none (elim o as (λ z. Option ℕ) [ Some k ↦ removed_after (seen x) s | None ↦ refused_after (seen x) s ]) || is_none o && has_open_write (seen (more call x)) s) joined
    ∙ ap (λ o. is_none o || true && has_open_write (seen (more call x)) s) refused

present_begun : (h : HostState) (x : Step) (job : ℕ) (text : List ℕ) (a : LockspaceArg) (offset sectors : ℕ) → JoiningFits h job text a → Stands (Line text) h x
    → present_sessions x.setting (seen (more (first_read x h job a offset sectors) x)) ≡ map (λ m. m.who) (with_member (new_member h.config (begun h job a)) h.members)
present_begun h x job text a offset sectors fits s =
    let call : Call = first_read x h job a offset sectors in
    let ss : List Session = sessions x.setting (seen x) in
    let before : Session → Session → Bool = λ u v. is_text_before u.lockspace v.lockspace in
    let come = to_come h x job text a fits s in
    let new : is_present (seen (more call x)) (begun h job a) ≡ true =
    begun_present x (begun h job a) call (not_joined_yet x.setting (seen x) (begun h job a) job come) (not_refused_yet x.setting (seen x) (begun h job a) job come)
    in
    ap (λ zs. in_order before (filter (is_present (seen (more call x))) zs)) (sessions_begun h x job text a offset sectors fits s)
    ∙ ap (in_order before) (filter-append (is_present (seen (more call x))) ss (begun h job a ∷ []))
    ∙ ap (λ b. in_order before (filter (is_present (seen (more call x))) ss ++ cond b (begun h job a ∷ []) [])) new
    ∙ ap (λ zs. in_order before (zs ++ begun h job a ∷ []))
    (filter_where (is_present (seen (more call x))) (is_present (seen x)) ss (λ t there. others_present x call t (other_number h x t s.keeps there)))
    ∙ fold-push (λ sorted z. put_in before z sorted) [] (filter (is_present (seen x)) ss) (begun h job a)
    ∙ ap (put_in before (begun h job a)) s.keeps.present
    ∙ sym (put_mapped (λ (m : MemberState). m.who) before (new_member h.config (begun h job a)) h.members)

-- ---- the members

new_fits : (g : Layout) (x : Step) (h : HostState) (job : ℕ) (a : LockspaceArg) (offset sectors : ℕ) → MemberFits g (new_member h.config (begun h job a)) (newest x (first_read x h job a offset sectors))
new_fits g x h job a offset sectors = record { turn = refl; generation = refl; value = refl; lease = refl; again = refl }

members_begun : (h : HostState) (x : Step) (job : ℕ) (text : List ℕ) (a : LockspaceArg) (offset sectors : ℕ) → JoiningFits h job text a → Stands (Line text) h x → (i : ℕ) (m : MemberState)
    → slice_get (map (member_calling h.config.layout (newest x (first_read x h job a offset sectors))) (with_member (new_member h.config (begun h job a)) h.members)) i ≡ Some m
    → MemberStands x.setting (seen (more (first_read x h job a offset sectors) x)) m
members_begun h x job text a offset sectors fits s i m at =
    from (at_mapped (member_calling h.config.layout (newest x (first_read x h job a offset sectors))) (with_member (new_member h.config (begun h job a)) h.members) i m at) where
      new : MemberStands x.setting (seen (more (first_read x h job a offset sectors) x)) (member_calling h.config.layout (newest x (first_read x h job a offset sectors)) (new_member h.config (begun h job a)))
      new =
          subst (λ b. MemberStands x.setting (seen (more (first_read x h job a offset sectors) x)) (cond b (called h.config.layout (newest x (first_read x h job a offset sectors)) (new_member h.config (begun h job a))) (new_member h.config (begun h job a))))
          (sym (number_itself h.born))
          (subst (λ g. MemberStands x.setting (seen (more (first_read x h job a offset sectors) x)) (called g (newest x (first_read x h job a offset sectors)) (new_member h.config (begun h job a)))) (layout_is h x s.keeps)
          (own_stands x (first_read x h job a offset sectors) (new_member h.config (begun h job a)) (number_itself h.born) (new_fits x.setting.layout x h job a offset sectors)
          (subst (λ c. MemberStands x.setting (seen x) (new_member c (begun h job a))) s.keeps.config
          (new_stands x.setting (seen x) (begun h job a) job (subst (λ (c : Config). IsOfProgram c.layout) (sym s.keeps.config) fits.program) (to_come h x job text a fits s)))))

      old : (z : MemberState) → Contains h.members z → MemberStands x.setting (seen (more (first_read x h job a offset sectors) x)) (member_calling h.config.layout (newest x (first_read x h job a offset sectors)) z)
      old z there =
          let k = at_some h.members z there in
          let other : (h.born == z.who.number) ≡ false = other_number h x z.who s.keeps (member_inside h x.setting (seen x) k.0 z s.keeps k.1).0 in
          subst (λ b. MemberStands x.setting (seen (more (first_read x h job a offset sectors) x)) (cond b (called h.config.layout (newest x (first_read x h job a offset sectors)) z) z)) (sym other)
          (stays_by_calls x (first_read x h job a offset sectors) z (others_stay x (first_read x h job a offset sectors) z.who other) (s.keeps.members k.0 z k.1))

      one : (z : MemberState) → (new_member h.config (begun h job a) ≡ z) ⊎ Contains h.members z
          → MemberStands x.setting (seen (more (first_read x h job a offset sectors) x)) (member_calling h.config.layout (newest x (first_read x h job a offset sectors)) z)
      one z (inl is) = subst (λ y. MemberStands x.setting (seen (more (first_read x h job a offset sectors) x)) (member_calling h.config.layout (newest x (first_read x h job a offset sectors)) y)) is new
      one z (inr there) = old z there

      from : (z : MemberState) × (slice_get (with_member (new_member h.config (begun h job a)) h.members) i ≡ Some z) × (member_calling h.config.layout (newest x (first_read x h job a offset sectors)) z ≡ m)
          → MemberStands x.setting (seen (more (first_read x h job a offset sectors) x)) m
      from z =
          subst (λ y. MemberStands x.setting (seen (more (first_read x h job a offset sectors) x)) y) z.2
          (one z.0 (put_inside (λ (u v : MemberState). is_text_before u.who.lockspace v.who.lockspace) (new_member h.config (begun h job a)) h.members z.0
          (got_inside (with_member (new_member h.config (begun h job a)) h.members) i z.0 z.1)))

-- ---- the whole

-- The host with the session, before its call.
abbrev with_begun : HostState → ℕ → LockspaceArg → HostState
with_begun h job a = record h { born = h.born + 1; members = with_member (new_member h.config (begun h job a)) h.members }

quiet_begun : (h : HostState) (job : ℕ) (a : LockspaceArg) → IsQuiet h → IsQuiet (with_begun h job a)
quiet_begun h job a quiet =
    quiet_by (with_begun h job a)
    (λ m now there at. by m now (put_inside (λ (u v : MemberState). is_text_before u.who.lockspace v.who.lockspace) (new_member h.config (begun h job a)) h.members m there) at)
    (λ j now there at. job_quiet h j now quiet there at) where
      by : (m : MemberState) (now : ℕ) → (new_member h.config (begun h job a) ≡ m) ⊎ Contains h.members m → Contains (member_moments h m) now → h.quiet_until ≤ now
      by m now (inl is) at = absurd (contains_none now (subst (λ y. Contains (member_moments h y) now) (sym is) at))
      by m now (inr old) at = member_quiet h m now quiet old at

begun_count : (h : HostState) (x : Step) (job : ℕ) (text : List ℕ) (a : LockspaceArg) (offset sectors : ℕ) → JoiningFits h job text a → Stands (Line text) h x
    → length (sessions x.setting (seen (more (first_read x h job a offset sectors) x))) ≡ h.born + 1
begun_count h x job text a offset sectors fits s =
    ap (λ ss. length ss) (sessions_begun h x job text a offset sectors fits s)
    ∙ length_push (sessions x.setting (seen x)) (begun h job a)
    ∙ ap (λ n. n + 1) s.keeps.born

begun_stands : (h : HostState) (x : Step) (job : ℕ) (text : List ℕ) (a : LockspaceArg) (offset sectors : ℕ) → JoiningFits h job text a → Stands (Line text) h x
    → Stands (Line text) (calling (newest x (first_read x h job a offset sectors)) (with_begun h job a)) (more (first_read x h job a offset sectors) x)
begun_stands h x job text a offset sectors fits s =
    let call : Call = first_read x h job a offset sectors in
    let job_fit = idle_fits h x job s.keeps fits.runs in
    record {
      input = s.input;
      past = s.past;
      reading = s.reading;
      before = s.before;
      made = ap (λ (f : Effects). record f { calls = f.calls ++ call ∷ [] }) s.made;
      keeps =
          keeps_more h x call (h.born + 1) (map (member_calling h.config.layout (newest x call)) (with_member (new_member h.config (begun h job a)) h.members)) s.keeps refl
          job_fit.known job_fit.alone
          (begun_count h x job text a offset sectors fits s)
          (present_begun h x job text a offset sectors fits s ∙ whos_stay h.config.layout (newest x call) (with_member (new_member h.config (begun h job a)) h.members))
          (members_begun h x job text a offset sectors fits s);
      quiet = quiet_more (with_begun h job a) (newest x call) (quiet_begun h job a s.quiet);
    }

pub joinings_are_taken : JoiningsAreTaken
joinings_are_taken h x job text a offset sectors fits s =
    let is = is_next (Line text) h x h.born a.path (Joining job FirstRead) offset (ReadSectors sectors) s in
    subst (λ c. Stands (Line text) (calling c (with_begun h job a)) (more (first_read x h job a offset sectors) x)) (sym is) (begun_stands h x job text a offset sectors fits s)
