-- A call that a member may make is taken.
use Rattle.sl_area.specs.AreaSizes.{Layout}
use Rattle.sl_host_law.proofs.Calls.MemberCalls.KeepsMore.{is_alone, keeps_more}
use Rattle.sl_host_law.proofs.Calls.MemberCalls.MemberMore.{MemberFits, called, more, newest, own_stands, stays_by_calls, others_stay}
use Rattle.sl_host_law.proofs.Calls.MemberCalls.PresentMore.{present_stay, sessions_stay}
use Rattle.sl_host_law.specs.Calls.MemberCalls.{CallFits, CallsAreTaken, fits_again, fits_job, fits_lease, fits_value, is_idle_job, is_leaving_alone}
use Rattle.sl_due.specs.Steps.{Step, seen}
use Rattle.sl_host_law.proofs.SharedFacts.IdleJobs.{idle_is_alone}
use Rattle.sl_host_law.proofs.SharedFacts.KeptJobs.{kept_numbered, leaving_numbered}
use Rattle.sl_host_law.proofs.SharedFacts.MembersAreSessions.{members_are_sessions, numbers_are_apart}
use Rattle.sl_host_law.proofs.SharedFacts.PlainLists.{at_mapped, one_there}
use Rattle.sl_host_law.proofs.SharedFacts.QuietMoments.{job_quiet, lowered_most, lowered_reaches, member_quiet, quiet_by}
use Rattle.sl_host_state.specs.KeptState.{Config, HostState, MemberState}
use Rattle.sl_host_state.specs.MadeEffects.{calling, job_calling, member_calling, next_submitted}
use Rattle.sl_host_state.specs.HostStands.{IsQuiet, Keeps, MemberStands, Stands, is_kept_of, job_moments, kept_waiting, member_moments}
use Rattle.sl_host_state.specs.declared.kept_parts.JobState.{JobState}
use Rattle.sl_words.proofs.Lists.{any_found, any_of, contains_cases, contains_none, in_map}
use Rattle.sl_words.proofs.Numbers.{equal_is_most, trans_le}
use Rattle.sl_trace.specs.Traces.{Submitted, is_of_job, job_numbered, job_of, new_call, next_call}
use Rattle.sl_trace.specs.declared.effects.Call.{Call}
use Rattle.sl_trace.specs.declared.effects.Effects.{Effects}
use Rattle.sl_trace.specs.declared.effects.Op.{Op}
use Rattle.sl_trace.specs.declared.effects.Purpose.{Purpose}
use Rattle.sl_trace.specs.declared.input.Input.{Input}
use Rattle.sl_words.proofs.CaseLaws.{false_is_true, none_some, some_value}
use Rattle.sl_words.proofs.WordLaws.{and_true, or_true}
use Rattle.sl_words.specs.Words.{some_is}
use Rattle.std.proofs.Common.{ap, arith, inl, inr, refl, subst, suc, sym, ◌∙◌}
use Rattle.std.proofs.lemmas.Bool.Decides.{Decides-eqb}
use Rattle.std.specs.List.{list_any}
use Rattle.std.specs.Option.{option_map_or}
use Rattle.std.specs.Prelude.{Bool, Contains, List, None, Option, Some, cond, false, is_some, length, map, not, slice_get, true, [], ℕ, ◌&&◌, ◌++◌, ◌+◌, ◌-◌, ◌==◌, ◌∷◌, ◌≡◌, ◌≤◌, is_none, ◌||◌}

-- ---- nothing is due sooner

same_moments : (h : HostState) (c : Submitted) (m : MemberState) → member_moments (calling c h) (member_calling h.config.layout c m) ≡ member_moments h m
same_moments h c m = by (c.call.session == m.who.number) where
  by : (b : Bool) → member_moments h (cond b (called h.config.layout c m) m) ≡ member_moments h m
  by true = refl
  by false = refl

job_of_some : (c : Submitted) (job : ℕ) → is_of_job job c ≡ true → is_some (job_of c.call.purpose) ≡ true
job_of_some c job is = by (job_of c.call.purpose) is where
  by : (o : Option ℕ) → some_is (λ j. j == job) o ≡ true → is_some o ≡ true
  by None at = at
  by (Some j) at = refl

only_one : (a b : ℕ) → Contains (a ∷ []) b → a ≡ b
only_one a b there = elim (contains_cases a [] b there) [ inl is ↦ is | inr none ↦ absurd (contains_none b none) ]

pub quiet_more : (h : HostState) (c : Submitted) → IsQuiet h → IsQuiet (calling c h)
quiet_more h c quiet =
    quiet_by (calling c h)
    (λ m now there at. of_member (in_map (member_calling h.config.layout c) h.members m there) now at)
    (λ j now there at. of_job (in_map (job_calling c) h.jobs j there) now at) where
      least : (calling c h).quiet_until ≤ h.quiet_until
      least = lowered_most (is_some (job_of c.call.purpose)) (c.reading + h.config.timing.io) h

      of_member : {m : MemberState} → (z : MemberState) × Contains h.members z × (member_calling h.config.layout c z ≡ m) → (now : ℕ) → Contains (member_moments (calling c h) m) now → (calling c h).quiet_until ≤ now
      of_member z now at =
          trans_le (calling c h).quiet_until h.quiet_until now least
          (member_quiet h z.0 now quiet z.1 (subst (λ ns. Contains ns now) (same_moments h c z.0) (subst (λ y. Contains (member_moments (calling c h) y) now) (sym z.2) at)))

      within : (z : JobState) → Contains h.jobs z → (now : ℕ) → (b : Bool) → is_of_job z.number c ≡ b
          → Contains (job_moments h (cond b (record z { waits = Some (kept_waiting c) }) z)) now → (calling c h).quiet_until ≤ now
      within z in_it now true its at =
          trans_le (calling c h).quiet_until (c.reading + h.config.timing.io) now
          (lowered_reaches (is_some (job_of c.call.purpose)) (c.reading + h.config.timing.io) h (job_of_some c z.number its))
          (equal_is_most (c.reading + h.config.timing.io) now (only_one (c.reading + h.config.timing.io) now at))
      within z in_it now false its at = trans_le (calling c h).quiet_until h.quiet_until now least (job_quiet h z now quiet in_it at)

      of_job : {j : JobState} → (z : JobState) × Contains h.jobs z × (job_calling c z ≡ j) → (now : ℕ) → Contains (job_moments (calling c h) j) now → (calling c h).quiet_until ≤ now
      of_job z now at = within z.0 z.1 now (is_of_job z.0.number c) refl (subst (λ y. Contains (job_moments h y) now) (sym z.2) at)

-- ---- the call itself

-- The call, with the next number.
abbrev pub made : Step → ℕ → List ℕ → Purpose → ℕ → Op → Call
made x session path purpose offset op = record { number = next_call x.setting (seen x); session = session; purpose = purpose; path = path; offset = offset; op = op }

pub is_next : (i : Input) (h : HostState) (x : Step) (session : ℕ) (path : List ℕ) (purpose : Purpose) (offset : ℕ) (op : Op) → Stands i h x
    → next_submitted h session path purpose offset op ≡ newest x (made x session path purpose offset op)
is_next i h x session path purpose offset op s =
    let entries : suc (length x.past) ≡ h.entries = s.keeps.entries in
    let at : h.entries - 1 ≡ length x.past = omega (arith, entries) in
    let next : h.first_call + length h.made.calls ≡ next_call x.setting (seen x) = sym s.keeps.calls in
    ap (λ n. new_call n h.reading (record { number = h.first_call + length h.made.calls; session = session; purpose = purpose; path = path; offset = offset; op = op })) at
    ∙ ap (λ n. new_call (length x.past) n (record { number = h.first_call + length h.made.calls; session = session; purpose = purpose; path = path; offset = offset; op = op })) (sym s.reading)
    ∙ ap (λ n. new_call (length x.past) x.reading (record { number = n; session = session; purpose = purpose; path = path; offset = offset; op = op })) next

pub layout_is : (h : HostState) (x : Step) → Keeps h x.setting (seen x) → x.setting.layout ≡ h.config.layout
layout_is h x k = ap (λ (c : Config). c.layout) k.config

-- ---- its job

-- What a call's job must be: one of the trace's, with no other call open.
pub record JobFits (h : HostState) (x : Step) (job : Option ℕ) : Type 0 where
  pub known : (j : ℕ) → job ≡ Some j → is_some (job_numbered x.setting (seen x) j) ≡ true
  pub alone : is_alone h.unanswered job ≡ true

one_fits : (h : HostState) (x : Step) (n : ℕ) → is_some (job_numbered x.setting (seen x) n) ≡ true → list_any (is_kept_of n) h.unanswered ≡ false → JobFits h x (Some n)
one_fits h x n known alone = record { known = λ j is. subst (λ m. is_some (job_numbered x.setting (seen x) m) ≡ true) (some_value n j is) known; alone = ap not alone }

pub runs_too : (js : List JobState) (n : ℕ) → list_any (λ j. j.number == n && is_none j.waits) js ≡ true → list_any (λ j. j.number == n) js ≡ true
runs_too js n is =
    let f = any_found (λ (j : JobState). j.number == n && is_none j.waits) js is in
    any_of (λ (j : JobState). j.number == n) js f.0 (and_true (f.0.number == n) (is_none f.0.waits) f.2).0 f.1

-- A job that waits for none fits.
pub idle_fits : (h : HostState) (x : Step) (n : ℕ) → Keeps h x.setting (seen x) → is_idle_job h n ≡ true → JobFits h x (Some n)
idle_fits h x n k is = one_fits h x n (kept_numbered h x.setting (seen x) n k (runs_too h.jobs n is)) (idle_is_alone h x.setting (seen x) n k is)

leaving_fits : (h : HostState) (x : Step) (s : MemberState) (n : ℕ) → MemberStands x.setting (seen x) s → is_leaving_alone h s n ≡ true → JobFits h x (Some n)
leaving_fits h x s n m is =
    let both = and_true (some_is (λ j. j == n) s.known.leaving) (not (list_any (is_kept_of n) h.unanswered)) is in
    one_fits h x n (leaving_numbered x.setting (seen x) s n m both.0) (not_is (list_any (is_kept_of n) h.unanswered) both.1) where
      not_is : (b : Bool) → not b ≡ true → b ≡ false
      not_is false it = refl
      not_is true it = absurd (false_is_true it)

job_fits : (h : HostState) (x : Step) (s : MemberState) (c : Submitted) → Keeps h x.setting (seen x) → MemberStands x.setting (seen x) s → fits_job h s c ≡ true → JobFits h x (job_of c.call.purpose)
job_fits h x s c k m fits = by (job_of c.call.purpose) fits where
  by : (o : Option ℕ) → option_map_or (λ j. is_idle_job h j || is_leaving_alone h s j) o true ≡ true → JobFits h x o
  by None is = record { known = λ j at. absurd (none_some j at); alone = refl }
  by (Some j) is =
      elim (or_true (is_idle_job h j) (is_leaving_alone h s j) is) [
        | inl idle ↦ idle_fits h x j k idle
        | inr leaves ↦ leaving_fits h x s j m leaves
      ]

-- ---- the members

members_more : (h : HostState) (x : Step) (k : ℕ) (s : MemberState) (call : Call) → Keeps h x.setting (seen x) → slice_get h.members k ≡ Some s → call.session ≡ s.who.number
    → CallFits h s (newest x call) → (i : ℕ) (m : MemberState) → slice_get (map (member_calling h.config.layout (newest x call)) h.members) i ≡ Some m
    → MemberStands x.setting (seen (more call x)) m
members_more h x k s call keeps there its fits i m at = from (at_mapped (member_calling h.config.layout (newest x call)) h.members i m at) where
  fitting : MemberFits x.setting.layout s (newest x call)
  fitting =
      let same : h.config.layout ≡ x.setting.layout = sym (layout_is h x keeps) in
      record {
        turn = fits.turn;
        generation = fits.generation;
        value = subst (λ g. fits_value g s (newest x call) ≡ true) same fits.value;
        lease = subst (λ g. fits_lease g s (newest x call) ≡ true) same fits.lease;
        again = subst (λ g. fits_again g s (newest x call) ≡ true) same fits.again;
      }

  own : (z : MemberState) → slice_get h.members i ≡ Some z → (call.session == z.who.number) ≡ true → MemberStands x.setting (seen (more call x)) (called h.config.layout (newest x call) z)
  own z z_at mine =
      let number : s.who.number ≡ z.who.number = sym its ∙ (Decides-eqb call.session z.who.number).0 mine in
      let place : k ≡ i = numbers_are_apart h x.setting (seen x) k i s z keeps there z_at number in
      let same : s ≡ z = one_there h.members i s z (subst (λ n. slice_get h.members n ≡ Some s) place there) z_at in
      let session : (call.session == s.who.number) ≡ true = (Decides-eqb call.session s.who.number).1 its in
      subst (λ g. MemberStands x.setting (seen (more call x)) (called g (newest x call) z)) (layout_is h x keeps)
      (subst (λ y. MemberStands x.setting (seen (more call x)) (called x.setting.layout (newest x call) y)) same
      (own_stands x call s session fitting (keeps.members k s there)))

  one : (z : MemberState) → slice_get h.members i ≡ Some z → (b : Bool) → (call.session == z.who.number) ≡ b
      → MemberStands x.setting (seen (more call x)) (cond b (called h.config.layout (newest x call) z) z)
  one z z_at true mine = own z z_at mine
  one z z_at false other = stays_by_calls x call z (others_stay x call z.who other) (keeps.members i z z_at)

  from : (z : MemberState) × (slice_get h.members i ≡ Some z) × (member_calling h.config.layout (newest x call) z ≡ m) → MemberStands x.setting (seen (more call x)) m
  from z = subst (λ y. MemberStands x.setting (seen (more call x)) y) z.2 (one z.0 z.1 (call.session == z.0.who.number) refl)

pub whos_stay : (g : Layout) (c : Submitted) (ms : List MemberState) → map (λ m. m.who) ms ≡ map (λ m. m.who) (map (member_calling g c) ms)
whos_stay g c [] = refl
whos_stay g c (m ∷ ms) = ap (λ s. s ∷ map (λ (n : MemberState). n.who) ms) (by (c.call.session == m.who.number)) ∙ ap (λ ss. (member_calling g c m).who ∷ ss) (whos_stay g c ms) where
  by : (b : Bool) → m.who ≡ (cond b (called g c m) m).who
  by true = refl
  by false = refl

-- ---- the whole

called_stands : (i : Input) (h : HostState) (x : Step) (k : ℕ) (s : MemberState) (call : Call) → Stands i h x → slice_get h.members k ≡ Some s → call.session ≡ s.who.number
    → call.number ≡ next_call x.setting (seen x) → CallFits h s (newest x call) → Stands i (calling (newest x call) h) (more call x)
called_stands i h x k s call stands there its next fits =
    let keeps : Keeps h x.setting (seen x) = stands.keeps in
    let job = job_fits h x s (newest x call) keeps (keeps.members k s there) fits.job in
    let session = members_are_sessions h x.setting (seen x) k s keeps there in
    record {
      input = stands.input;
      past = stands.past;
      reading = stands.reading;
      before = stands.before;
      made = ap (λ (f : Effects). record f { calls = f.calls ++ call ∷ [] }) stands.made;
      keeps =
          keeps_more h x call h.born (map (member_calling h.config.layout (newest x call)) h.members) keeps next job.known job.alone
          (ap (λ ss. length ss) (sessions_stay x call fits.later) ∙ keeps.born)
          (present_stay x call s.who fits.later its session.0 session.1 ∙ (keeps.present ∙ whos_stay h.config.layout (newest x call) h.members))
          (members_more h x k s call keeps there its fits);
      quiet = quiet_more h (newest x call) stands.quiet;
    }

pub calls_are_taken : CallsAreTaken
calls_are_taken h k s path purpose offset op there fits i x stands =
    let is = is_next i h x s.who.number path purpose offset op stands in
    subst (λ c. Stands i (calling c h) (more (made x s.who.number path purpose offset op) x)) (sym is)
    (called_stands i h x k s (made x s.who.number path purpose offset op) stands there refl refl (subst (λ c. CallFits h s c) is fits))
