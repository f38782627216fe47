-- What is known of a host as a whole, by the trace that it stands for.
use Rattle.sl_area.specs.AreaSizes.{Layout}
use Rattle.sl_due.specs.Steps.{Step, seen}
use Rattle.sl_due_facts.proofs.Jobs.JobsAreNumbered.{below, command_read, job_reads}
use Rattle.sl_due_law.proofs.LawfulTraces.OwnRecords.{fits_it}
use Rattle.sl_host_law.proofs.Calls.Beginnings.NothingIsDue.{began_before}
use Rattle.sl_host_law.proofs.SharedFacts.MembersAreSessions.{member_inside}
use Rattle.sl_host_law.proofs.SharedFacts.PlainLists.{at_some}
use Rattle.sl_host_law.specs.Questions.Jobs.{command_in}
use Rattle.sl_host_state.specs.KeptState.{Config, HostState, MemberState}
use Rattle.sl_host_state.specs.HostStands.{HostStands, MemberStands, kept_job}
use Rattle.sl_host_state.specs.declared.kept_parts.JobState.{JobState}
use Rattle.sl_member.specs.HostMembers.{AreApart}
use Rattle.sl_words.proofs.Lists.{contains_first, contains_more, find_inside, in_map, kept_inside}
use Rattle.sl_words.proofs.Options.{then_value}
use Rattle.sl_sector.specs.Records.{Fits}
use Rattle.sl_trace.specs.Sessions.{calls_of, free_write, leaving_job}
use Rattle.sl_trace.specs.declared.delta.DeltaKnown.{DeltaKnown}
use Rattle.sl_trace.specs.declared.session.Begun.{Begun}
use Rattle.sl_trace.specs.declared.session.Renewing.{Renewing}
use Rattle.sl_step_law.specs.KnownHosts.{HostsAreKnown}
use Rattle.sl_step_law.specs.Moments.{IsMoment}
use Rattle.sl_step_law.specs.ReadyHosts.{IsReady}
use Rattle.sl_trace.specs.CommandForms.{IsCommand}
use Rattle.sl_trace.specs.Traces.{Job, Setting, Submitted, Trace, is_running, jobs, line_in, next_job, running_jobs}
use Rattle.sl_trace.specs.declared.command.Command.{Command}
use Rattle.sl_trace.specs.declared.input.Input.{Input}
use Rattle.sl_words.proofs.CaseLaws.{none_some, true_is_false}
use Rattle.sl_words.specs.Bounds.{moments}
use Rattle.std.proofs.Common.{ap, append-nil, arith, refl, subst, sym, ◌∙◌}
use Rattle.std.proofs.lemmas.Bool.Decides.{nat_tests}
use Rattle.std.proofs.lemmas.List.{map-append}
use Rattle.std.specs.List.{AllByRecursion}
use Rattle.std.specs.Prelude.{Bool, Contains, List, None, Ok, Option, Some, cond, false, filter, find, is_some, length, map, option_map, true, [], ℕ, ◌++◌, ◌+◌, ◌<◌, ◌==◌, ◌∷◌, ◌≡◌}

-- ---- the clock

timely : (i : Input) (h : HostState) (x : Step) → IsMoment i h x → h.reading < moments
timely i h x o = subst (λ n. n < moments) o.stands.reading o.kept.known.0.orderly.is_trace.0.below

-- ---- commands

module _ (i : Input) (h : HostState) (x : Step) (o : IsMoment i h x) where
  layouts : x.setting.layout ≡ h.config.layout
  layouts = ap (λ (z : Config). z.layout) o.stands.keeps.config

  -- A job's command was read.
  of_job : (k : JobState) (c : Command) → Contains h.jobs k → k.command ≡ Some c → IsCommand h.config.layout c
  of_job k c there is =
      let j = in_map (kept_job (seen x)) (running_jobs x.setting (seen x)) k (subst (λ js. Contains js k) (sym o.stands.keeps.jobs) there) in
      let inside = kept_inside (λ (z : Job). is_running (seen x) z.number) (jobs x.setting (seen x)) j.0 j.1 in
      let says : j.0.command ≡ Ok c = command_read j.0 c (ap (λ (z : JobState). z.command) j.2 ∙ is) in
      let text = job_reads x.setting (seen x) j.0 inside.0 in
      subst (λ (g : Layout). IsCommand g c) layouts (o.kept.known.0.setting.reads text.0 c (sym text.1 ∙ says))

  commands : (n : ℕ) (c : Command) → command_in h n ≡ Some c → IsCommand h.config.layout c
  commands n c is =
      let v = then_value (λ (j : JobState). j.command) (find (λ j. j.number == n) h.jobs) c is in
      of_job v.0 c (find_inside (λ (j : JobState). j.number == n) h.jobs v.0 v.1).0 v.2

reads : (h : HostState) (x : Step) (text : List ℕ) (c : Command) → IsReady h x → h.config.read text ≡ Ok c → IsCommand h.config.layout c
reads h x text c r says =
    subst (λ (g : Layout). IsCommand g c) (ap (λ (z : Config). z.layout) r.stands.keeps.config)
    (r.kept.known.0.setting.reads text c (ap (λ (z : Config). z.read text) r.stands.keeps.config ∙ says))

-- ---- a leaving

numbered : (o : Option Job) (j : ℕ) → option_map (λ (z : Job). z.number) o ≡ Some j → (k : Job) × (o ≡ Some k)
numbered None j is = absurd (none_some j is)
numbered (Some k) j is = (k, refl)

unwritten : (o : Option Submitted) → is_some o ≡ false → o ≡ None
unwritten None is = refl
unwritten (Some c) is = absurd (true_is_false is)

left : (i : Input) (h : HostState) (x : Step) (m : MemberState) (j : ℕ) → IsMoment i h x → Contains h.members m → m.joined ≡ true → m.known.leaving ≡ Some j → m.known.freed ≡ false → Fits (m.known.seq + 1)
left i h x m j o there joined leaves unfreed =
    let place = at_some h.members m there in
    let stands : MemberStands x.setting (seen x) m = o.stands.keeps.members place.0 m place.1 in
    let listed = (member_inside h x.setting (seen x) place.0 m o.stands.keeps place.1).0 in
    let k = numbered (leaving_job x.setting (seen x) m.who) j (ap (λ (d : DeltaKnown). d.leaving) stands.known ∙ leaves) in
    subst (λ (d : DeltaKnown). Fits (d.seq + 1)) stands.known
    (fits_it _ (o.kept.known.0.facts.delta.left m.who k.0 listed (stands.joined ∙ joined) k.1 (unwritten (free_write (calls_of (seen x) m.who)) (ap (λ (d : DeltaKnown). d.freed) stands.known ∙ unfreed))))

-- ---- jobs

all_more : (P : ℕ → Type 0) (xs : List ℕ) (y : ℕ) → AllByRecursion P xs → P y → AllByRecursion P (xs ++ y ∷ [])
all_more P [] y all one = (one, tt)
all_more P (x ∷ xs) y all one = (all.0, all_more P xs y all.1 one)

other_number : (a b : ℕ) → a < b → (a == b) ≡ false
other_number a b less = grind (arith, less, nat_tests)

apart_more : (ns : List ℕ) (n : ℕ) → AreApart ns → ((k : ℕ) → Contains ns k → k < n) → AreApart (ns ++ n ∷ [])
apart_more [] n apart less = (tt, tt)
apart_more (k ∷ ns) n apart less =
    (all_more (λ z. (k == z) ≡ false) ns n apart.0 (other_number k n (less k (contains_first k ns))), apart_more ns n apart.1 (λ z there. less z (contains_more k ns z there)))

jobs_apart : (st : Setting) (es : Trace) → AreApart (map (λ (j : Job). j.number) (jobs st es))
jobs_apart st [] = tt
jobs_apart st (e ∷ es) = by (line_in e.input) (jobs_apart st es) where
  lower : (k : ℕ) → Contains (map (λ (j : Job). j.number) (jobs st es)) k → k < next_job st es
  lower k there = (let j = in_map (λ (j : Job). j.number) (jobs st es) k there in subst (λ n. n < next_job st es) j.2 (below st es j.0 j.1))

  by : (l : Option (List ℕ)) → AreApart (map (λ (j : Job). j.number) (jobs st es))
      → AreApart (map (λ (j : Job). j.number) (jobs st es
      ++ elim l as (λ z. List Job) [ None ↦ [] | Some text ↦ record { number = next_job st es; at = length es; reading = e.reading; command = st.read text } ∷ [] ]))
  by None apart = subst (λ js. AreApart (map (λ (j : Job). j.number) js)) (sym (append-nil (jobs st es))) apart
  by (Some text) apart =
      subst AreApart (sym (map-append (λ (j : Job). j.number) (jobs st es) (record { number = next_job st es; at = length es; reading = e.reading; command = st.read text } ∷ [])))
      (apart_more (map (λ (j : Job). j.number) (jobs st es)) (next_job st es) apart lower)

all_kept : (P : ℕ → Type 0) (p : Job → Bool) (js : List Job) → AllByRecursion P (map (λ (j : Job). j.number) js) → AllByRecursion P (map (λ (j : Job). j.number) (filter p js))
all_kept P p [] all = tt
all_kept P p (j ∷ js) all = by (p j) (all_kept P p js all.1) where
  by : (b : Bool) → AllByRecursion P (map (λ (j : Job). j.number) (filter p js)) → AllByRecursion P (map (λ (j : Job). j.number) (cond b (j ∷ filter p js) (filter p js)))
  by true rest = (all.0, rest)
  by false rest = rest

apart_kept : (p : Job → Bool) (js : List Job) → AreApart (map (λ (j : Job). j.number) js) → AreApart (map (λ (j : Job). j.number) (filter p js))
apart_kept p [] apart = tt
apart_kept p (j ∷ js) apart = by (p j) (apart_kept p js apart.1) where
  by : (b : Bool) → AreApart (map (λ (j : Job). j.number) (filter p js)) → AreApart (map (λ (j : Job). j.number) (cond b (j ∷ filter p js) (filter p js)))
  by true rest = (all_kept (λ k. (j.number == k) ≡ false) p js apart.0, rest)
  by false rest = rest

kept_numbers : (es : Trace) (js : List Job) → map (λ (j : JobState). j.number) (map (kept_job es) js) ≡ map (λ (j : Job). j.number) js
kept_numbers es [] = refl
kept_numbers es (j ∷ js) = ap (λ ns. j.number ∷ ns) (kept_numbers es js)

apart : (i : Input) (h : HostState) (x : Step) → IsMoment i h x → AreApart (map (λ j. j.number) h.jobs)
apart i h x o =
    subst (λ js. AreApart (map (λ (j : JobState). j.number) js)) o.stands.keeps.jobs
    (subst AreApart (sym (kept_numbers (seen x) (running_jobs x.setting (seen x)))) (apart_kept (λ j. is_running (seen x) j.number) (jobs x.setting (seen x)) (jobs_apart x.setting (seen x))))

-- ---- recoveries

began : (h : HostState) (st : Setting) (es : Trace) (m : MemberState) (b : Begun) → HostStands h st es → Contains h.members m → m.renewing.recovery ≡ Some b → b.at < h.entries
began h st es m b s there is =
    let place = at_some h.members m there in
    subst (λ n. b.at < n) s.keeps.entries (began_before st es m.who b (ap (λ (r : Renewing). r.recovery) (s.keeps.members place.0 m place.1).renewing ∙ is))

pub hosts_are_known : HostsAreKnown
hosts_are_known =
    record {
      timely = timely;
      reads = reads;
      commands = λ i h x j c o is. commands i h x o j c is;
      left = left;
      apart = apart;
      began = began;
    }
