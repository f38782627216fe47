-- What a command comes to keeps the facts of a job's work: its first call has nothing in its way, and is the first of its job.
use Rattle.sl_due_facts.proofs.Acts.DecisionsAreTheirs.{Of}
use Rattle.sl_due_facts.proofs.Acts.Pairs.Decisions.{conversion_is, release_is}
use Rattle.sl_due_facts.proofs.Acts.PlainActs.{line_has}
use Rattle.sl_due_facts.specs.Acts.Acts.{Has, next_of_conversion, next_of_release}
use Rattle.sl_due_facts.specs.Acts.TraceSoFar.{entry_of}
use Rattle.sl_area.specs.AreaLayout.{area_sectors, block_place, delta_offset, leader_offset, value_offset}
use Rattle.sl_area.specs.AreaRecords.{block_record, leader_record}
use Rattle.sl_due.specs.DueCommands.{after_end, carry_decision, decided}
use Rattle.sl_due.specs.CarriedLease.{carry_lease, grant_of, name_on, next_turn}
use Rattle.sl_due.specs.Steps.{Step, add_call_of, add_end, add_reply, seen, with_input}
use Rattle.sl_due.specs.declared.decision.Decision.TheVariants.{ConvertsTo, GetsValue, GivesUp, Joins, Leaves, ReadsArea, Replies, Requests, SetsValue, Shares, TakesOver}
use Rattle.sl_due.specs.declared.decision.Decision.{Decision}
use Rattle.sl_due_leases.proofs.Grants.WorksByAnswers.{granted_works, new_spot, one_job}
use Rattle.sl_due_leases.proofs.Grants.OthersGoOn.{stopped_on}
use Rattle.sl_due_leases.proofs.Grants.WorksByDeltas.{other_call_works, works_go_on}
use Rattle.sl_due_leases.proofs.Grants.WorksByEffects.{CallsOwned, IsNewWork, WorksAt, call_works, end_works, reply_works}
use Rattle.sl_due_leases.proofs.Grants.WorksByGrants.{NobodyWorksAt}
use Rattle.sl_due_leases.proofs.Grants.WorksByInputs.{input_works}
use Rattle.sl_due_leases.proofs.Holdings.DecisionsHaveGrounds.{decisions_have_grounds, none_least, none_mapped, nothing_left}
use Rattle.sl_due_leases.proofs.Holdings.HoldingFactsBegin.{none_ended}
use Rattle.sl_due_leases.proofs.Holdings.HoldingsByCalls.{call_added}
use Rattle.sl_due_leases.proofs.Holdings.HoldingsByEffects.{later_same}
use Rattle.sl_due_leases.proofs.Holdings.HoldingsByInputs.{calls_stay, children_seen, sessions_seen_still}
use Rattle.sl_due_leases.proofs.Holdings.HoldingsByLines.{asked_resource, base_of, born_by, here_held, no_told}
use Rattle.sl_due_leases.proofs.Holdings.HoldingsByLeases.{base_aligned}
use Rattle.sl_due_leases.proofs.Holdings.LeaseCallers.{on_own_area}
use Rattle.sl_due_leases.proofs.Holdings.LeaseConversions.{spot_is}
use Rattle.sl_due_leases.proofs.Holdings.LeasePlaces.{base_on, own_on}
use Rattle.sl_due_leases.proofs.Holdings.PlainPlaces.{one_place}
use Rattle.sl_due_leases.proofs.Ways.WayFactsHeld.PlacesStand.{id_in_range}
use Rattle.sl_due_leases.specs.Holdings.DecisionGrounds.{AsksLease, ConvertGrounds, GiveUpGrounds, HasGrounds, IsReady, ReadGrounds, Releases as ReleasesIt}
use Rattle.sl_due_leases.specs.Holdings.Moments.{Known}
use Rattle.sl_due_facts.proofs.Jobs.JobsAreNumbered.{next_is_new}
use Rattle.sl_due_facts.proofs.Jobs.LinesAreAllowed.{new_command}
use Rattle.sl_run.specs.LawfulModes.{shared_since}
use Rattle.sl_trace.specs.Ballots.{moded_block}
use Rattle.sl_trace.specs.Counts.{held_here, may_act}
use Rattle.sl_trace.specs.Jobs.{aim_of_command, command_numbered, command_of, process_named, resource_named, wanted_mode, wants_shared}
use Rattle.sl_trace.specs.Conversions.{convert_next}
use Rattle.sl_trace.specs.LeaseDecisions.{leader_for, lease_place}
use Rattle.sl_trace.specs.Releases.{release_next}
use Rattle.sl_trace.specs.Leases.{has_shared_on, holdings_on, is_on, known, shared_on, spot_of, spot_of_call}
use Rattle.sl_trace.specs.declared.lease.Aim.TheVariants.{Acquires, Converts, Releases}
use Rattle.sl_trace.specs.declared.lease.Aim.{Aim}
use Rattle.sl_trace.specs.declared.lease.LeaseNext.TheVariants.{Nothing, ReadFor, WriteBlock}
use Rattle.sl_words.proofs.Lists.{contains_cases, contains_none, find_fails, find_inside, got_inside, kept, kept_inside}
use Rattle.sl_words.proofs.Numbers.{lt_then_le, number_itself, refl_le}
use Rattle.sl_words.proofs.Options.{some_of, then_value}
use Rattle.sl_sector.specs.declared.sector.Block.{Block}
use Rattle.sl_sector.specs.declared.sector.Rec.TheVariants.{ValueIs}
use Rattle.sl_trace.specs.Sessions.{holdings_of, session_numbered, sessions}
use Rattle.sl_trace.specs.declared.reply.Limited.TheVariants.{Turn as TurnLimit}
use Rattle.sl_trace.specs.declared.session.Session.{Session}
use Rattle.sl_due_facts.specs.Facts.HeardCall.{heard_by}
use Rattle.sl_due_facts.specs.Facts.JobFacts.{JobFacts}
use Rattle.sl_due_facts.specs.Facts.WorkFacts.{MayBeHeld}
use Rattle.sl_trace.specs.CommandForms.{IsCommand}
use Rattle.sl_trace.specs.Traces.{Setting, Submitted, Trace, end_of, held_by, holdings, is_ended_by, is_shared, job_numbered, job_of, new_call, next_child, next_job, outstanding, same_place, spot_of_grant, submitted}
use Rattle.sl_trace.specs.declared.command.Command.{Command}
use Rattle.sl_trace.specs.declared.command.ResourceArg.{ResourceArg}
use Rattle.sl_trace.specs.declared.effects.Call.{Call}
use Rattle.sl_trace.specs.declared.effects.Grant.{Grant}
use Rattle.sl_trace.specs.declared.effects.JoinStep.TheVariants.{FirstRead}
use Rattle.sl_trace.specs.declared.effects.LeaseStep.TheVariants.{ClearMode, FreeLeader, ReadArea, SetMode}
use Rattle.sl_trace.specs.declared.effects.LeaseStep.{LeaseStep}
use Rattle.sl_trace.specs.declared.effects.Mode.TheVariants.{Exclusive, Shared}
use Rattle.sl_trace.specs.declared.effects.Mode.{Mode}
use Rattle.sl_trace.specs.declared.effects.Op.TheVariants.{ReadSectors, WriteRecord}
use Rattle.sl_trace.specs.declared.effects.Op.{Op}
use Rattle.sl_trace.specs.declared.effects.Purpose.TheVariants.{Joining, Lease, RequestRead, ValueRead, ValueWrite}
use Rattle.sl_trace.specs.declared.effects.Spot.{Spot}
use Rattle.sl_trace.specs.declared.effects.Work.TheVariants.{ForJob}
use Rattle.sl_trace.specs.declared.input.Input.TheVariants.{Line, Wake}
use Rattle.sl_trace.specs.declared.reply.Reply.TheVariants.{Done, Limit as LimitReached}
use Rattle.sl_words.proofs.CaseLaws.{none_some, not_both, one_value, some_value, true_is_false}
use Rattle.sl_words.proofs.WordLaws.{and_true}
use Rattle.sl_words.specs.Words.{same_truth}
use Rattle.std.proofs.Common.{ap, append-nil, arith, inl, inr, refl, subst, suc, sym, ◌∙◌}
use Rattle.std.proofs.lemmas.Bool.{eqb-true, leb-true}
use Rattle.std.specs.Option.{option_map_or}
use Rattle.std.specs.Prelude.{Bool, Contains, IsSome, List, None, Ok, Option, Some, [], false, filter, is_none, is_some, length, map, nat_le, not, true, ℕ, ◌%◌, ◌&&◌, ◌++◌, ◌<◌, ◌==◌, ◌||◌, ◌∷◌, ◌≡◌, ◌≤◌, ◌⊎◌}

-- ---- the first call of a job

pub record FirstWork (z : Step) (c : Call) (j : ℕ) (step : LeaseStep) (d : Command) (at : Spot) : Type 0 where
  pub purpose : c.purpose ≡ Lease (ForJob j) step
  pub named : command_numbered z.setting (seen z) j ≡ Some d
  pub spot : spot_of_call z.setting.layout (new_call (length z.past) z.reading c) ≡ at
  pub known : IsSome (session_numbered z.setting (seen z) c.session)
  pub new : (m : Submitted) → Contains (submitted (seen z)) m → job_of m.call.purpose ≡ Some j → ⊥
  pub beside : (aim : Aim) (h : Grant) → aim_of_command d ≡ Some aim → Contains (holdings (seen z)) h → same_place h.path h.offset at.path at.base ≡ true → MayBeHeld (new_call (length z.past) z.reading c) d aim h
  pub modes : aim_of_command d ≡ Some (Converts Shared) → step ≡ SetMode
  pub acts : (p : ℕ) → process_named d ≡ Some p → p < next_child (seen z)
  pub unshared : (mode : Mode) (q : Session) → aim_of_command d ≡ Some (Acquires mode) → session_numbered z.setting (seen z) c.session ≡ Some q → shared_since (length z.past) (seen z) q at ≡ false

first_work : (z : Step) (c : Call) (j : ℕ) (step : LeaseStep) (d : Command) (at : Spot) → FirstWork z c j step d at → IsNewWork z c
first_work z c j step d at f =
    record {
      beside = λ i b e aim h its runs named aimed there same.
          let d_is : d ≡ e = command_is i b e its named in
          subst (λ k. MayBeHeld v k aim h) d_is (f.beside aim h (ap (λ k. aim_of_command k) d_is ∙ aimed) there (subst (λ (s : Spot). same_place h.path h.offset s.path s.base ≡ true) f.spot same));
      modes = λ i b e its runs named aimed.
          let d_is : d ≡ e = command_is i b e its named in
          sym (one_job j i step b (sym f.purpose ∙ its)).1 ∙ f.modes (ap (λ k. aim_of_command k) d_is ∙ aimed);
      acts = λ i b e p its runs named process. (let d_is : d ≡ e = command_is i b e its named in f.acts p (ap (λ k. process_named k) d_is ∙ process));
      unshared = λ i b e mode q its runs named aimed session.
          let d_is : d ≡ e = command_is i b e its named in
          let o = one_job j i step b (sym f.purpose ∙ its) in (
            subst (λ s. shared_since (length z.past) (seen z) q s ≡ false) (sym f.spot) (f.unshared mode q (ap (λ k. aim_of_command k) d_is ∙ aimed) session),
            λ m earlier there of. absurd (f.new m there (ap (λ p. job_of p) of ∙ ap (λ n. Some n) (sym o.0))),
          );
      known = λ i b its. f.known;
      lone = λ i b m earlier its there none of. (let o = one_job j i step b (sym f.purpose ∙ its) in f.new m there (ap (λ p. job_of p) of ∙ ap (λ n. Some n) (sym o.0)));
    } where
      v : Submitted
      v = new_call (length z.past) z.reading c

      command_is : (i : ℕ) (b : LeaseStep) (e : Command) → c.purpose ≡ Lease (ForJob i) b → command_numbered z.setting (seen z) i ≡ Some e → d ≡ e
      command_is i b e its named =
          let o = one_job j i step b (sym f.purpose ∙ its) in
          one_value d e (command_numbered z.setting (seen z) i) (subst (λ n. command_numbered z.setting (seen z) n ≡ Some d) o.0 f.named) named

-- The line's own job has made no call.
new_job : (x : Step) → JobFacts x.setting (seen x) (heard_by x.input) → (m : Submitted) → Contains (submitted (seen x)) m → job_of m.call.purpose ≡ Some (next_job x.setting (seen x)) → ⊥
new_job x jobs m there of =
    let k = some_of (command_numbered x.setting (seen x) (next_job x.setting (seen x))) (jobs.called m (next_job x.setting (seen x)) there of) in
    let v = then_value command_of (job_numbered x.setting (seen x) (next_job x.setting (seen x))) k.0 k.1 in
    none_some v.0 (sym (next_is_new x.setting (seen x)) ∙ v.1)

-- ---- what was shared before

-- Before anything was ended or granted it is what was held before the step.
pub held_before : (x : Step) → x.effects.ends ≡ [] → x.effects.grants ≡ [] → holdings (seen x) ≡ holdings x.past
held_before x ends grants =
    ap (λ gs. filter (λ g. not (is_ended_by x.effects.ends g)) (holdings x.past) ++ gs) grants
    ∙ (append-nil (filter (λ g. not (is_ended_by x.effects.ends g)) (holdings x.past)) ∙ (ap (λ es. filter (λ g. not (is_ended_by es g)) (holdings x.past)) ends ∙ none_ended (holdings x.past)))

-- Since a later entry nothing was shared.
pub since_later : (t : Trace) (n : ℕ) (s : Session) (at : Spot) → length t ≤ n → shared_since n t s at ≡ false
since_later [] n s at le = refl
since_later (e ∷ es) n s at le = by (nat_le n (length es)) refl (since_later es n s at (lower (length es) n le)) where
  lower : (a b : ℕ) → suc a ≤ b → a ≤ b
  lower a b le = omega (arith, le)

  by : (b : Bool) → nat_le n (length es) ≡ b → shared_since n es s at ≡ false → ((nat_le n (length es) && has_shared_on es s at) || shared_since n es s at) ≡ false
  by false is rest = ap (λ b. (b && has_shared_on es s at) || shared_since n es s at) is ∙ rest
  by true is rest = absurd (never n (length es) (leb-true n (length es) is) le) where
    never : (a b : ℕ) → a ≤ b → suc b ≤ a → ⊥
    never a b up down = omega (arith, up, down)

pub none_shared_on : (t : Trace) (s : Session) (at : Spot) → ((g : Grant) → Contains (holdings t) g → g.session ≡ s.number → same_place g.path g.offset at.path at.base ≡ true → is_shared g.mode ≡ true → ⊥) → has_shared_on t s at ≡ false
none_shared_on t s at none = by (shared_on t s at) refl where
  by : (o : Option Grant) → shared_on t s at ≡ o → has_shared_on t s at ≡ false
  by None is = ap (λ o. is_some o) is
  by (Some g) is =
      let f = find_inside (λ (k : Grant). is_shared k.mode) (holdings_on t s at) g is in
      let on = kept_inside (λ (k : Grant). same_place k.path k.offset at.path at.base) (holdings_of t s) g f.0 in
      let of = kept_inside (λ (k : Grant). k.session == s.number) (holdings t) g on.0 in
      absurd (none g of.0 (eqb-true g.session s.number of.1) on.1 f.1)

pub since_now : (past : Trace) (t : Trace) (n : ℕ) (s : Session) (at : Spot) → n ≡ length past → has_shared_on past s at ≡ false → ((nat_le n (length past) && has_shared_on past s at) || shared_since n past s at) ≡ false
since_now past t n s at is none =
    ap (λ b. (nat_le n (length past) && b) || shared_since n past s at) none ∙ (off (nat_le n (length past)) (shared_since n past s at) ∙ since_later past n s at (subst (λ k. length past ≤ k) (sym is) (refl_le (length past)))) where
      off : (a b : Bool) → ((a && false) || b) ≡ b
      off true b = refl
      off false b = refl

pub own_held : (t : Trace) (s : Session) (at : Spot) (g : Grant) → Contains (holdings t) g → g.session ≡ s.number → same_place g.path g.offset at.path at.base ≡ true → Contains (holdings_on t s at) g
own_held t s at g there mine same =
    kept (λ (k : Grant). same_place k.path k.offset at.path at.base) (holdings_of t s) g same
    (kept (λ (k : Grant). k.session == s.number) (holdings t) g (subst (λ n. (g.session == n) ≡ true) mine (number_itself g.session)) there)

-- ---- aims

mode_shared : (b : Bool) → is_shared (elim b as (λ z. Mode) [ true ↦ Shared | false ↦ Exclusive ]) ≡ b
mode_shared true = refl
mode_shared false = refl

abbrev acquires_in : Aim → Option Mode
acquires_in (Acquires m) = Some m
acquires_in a = None

abbrev converts_in : Aim → Option Mode
converts_in (Converts m) = Some m
converts_in a = None

aimed_as : (c : Command) (a b : Aim) → aim_of_command c ≡ Some a → aim_of_command c ≡ Some b → a ≡ b
aimed_as c a b one two = one_value a b (aim_of_command c) one two

-- ---- an acquire that begins with a read of the area

-- All that a command's line comes with.
pub record Lined (x : Step) (text : List ℕ) (c : Command) (s : Session) : Type 0 where
  pub known : Known x
  pub wake : x.input ≡ Wake
  pub bare : x.effects.calls ≡ []
  pub says : x.setting.read text ≡ Ok c
  pub has : Has (with_input (Line text) x) s
  pub command : IsCommand x.setting.layout c
  pub works : WorksAt (with_input (Line text) x)

called : (x : Step) (text : List ℕ) (c : Command) (s : Session) → Lined x text c s → submitted (seen (with_input (Line text) x)) ≡ submitted (seen x)
called x text c s l = calls_stay x (Line text) l.wake l.bare refl

owned : (x : Step) (text : List ℕ) (c : Command) (s : Session) → Lined x text c s → CallsOwned (with_input (Line text) x)
owned x text c s l m there =
    subst (λ o. IsSome o) (sym (sessions_seen_still x (Line text) m.call.session l.bare)) (l.known.0.facts.calls.owned m (subst (λ ms. Contains ms m) (called x text c s l) there))

of_session : (x : Step) (text : List ℕ) (c : Command) (s : Session) → Lined x text c s → IsSome (session_numbered x.setting (seen (with_input (Line text) x)) s.number)
of_session x text c s l = subst (λ o. IsSome o) (sym l.has) refl

new_here : (x : Step) (text : List ℕ) (c : Command) (s : Session) → Lined x text c s → (m : Submitted) → Contains (submitted (seen (with_input (Line text) x))) m → job_of m.call.purpose ≡ Some (next_job x.setting (seen x)) → ⊥
new_here x text c s l m there of = new_job x l.known.0.facts.jobs m (subst (λ ms. Contains ms m) (called x text c s l) there) of

acting : (x : Step) (text : List ℕ) (c : Command) (s : Session) → Lined x text c s → (p : ℕ) → may_act (seen x) p ≡ true → p < next_child (seen (with_input (Line text) x))
acting x text c s l p may = lt_then_le p (next_child (seen x)) (next_child (seen (with_input (Line text) x))) (born_by x p l.known.0.facts.holdings may) (children_seen x (Line text))

reads_work : (x : Step) (text : List ℕ) (c : Command) (s : Session) (r : ResourceArg) → Lined x text c s → ReadGrounds x.setting (seen x) c s r
    → WorksAt (carry_lease s (spot_of r) (ForJob (next_job x.setting (seen x))) (ReadFor (ReadArea r.name)) (with_input (Line text) x))
unfolding carry_lease
reads_work x text c s r l g =
    call_works y s.number r.path (Lease (ForJob j) (ReadArea r.name)) r.offset (ReadSectors (area_sectors x.setting.layout)) (owned x text c s l)
    (first_work y call j (ReadArea r.name) c (spot_of r) (record {
      purpose = refl;
      named = new_command x text c l.wake l.says;
      spot = new_spot x.setting (spot_of r) call l.known.0.setting (base_of x.setting r (asked_resource x.setting c r l.command g.acquires.asks).0) (base_on x.setting (spot_of r) call l.known.0.setting refl refl);
      known = of_session x text c s l;
      new = new_here x text c s l;
      beside = λ aim h aimed there same. subst (λ a. MayBeHeld (new_call (length x.past) x.reading call) c a h) (aimed_as c (Acquires (wanted_mode c)) aim (acquiring c r g.acquires.asks) aimed) (beside h there same);
      modes = λ aimed. absurd (none_some Shared (ap (λ a. converts_in a) (aimed_as c (Acquires (wanted_mode c)) (Converts Shared) (acquiring c r g.acquires.asks) aimed)));
      acts = λ p process. acting x text c s l p (g.acquires.acts p process);
      unshared = λ mode q aimed session. subst (λ z. shared_since (length x.past) (seen y) z (spot_of r) ≡ false) (one_value s q (session_numbered x.setting (seen y) s.number) l.has session) (since_now x.past (seen y) (length x.past) s (spot_of r) refl before);
    })) l.works where
      y : Step
      y = with_input (Line text) x

      j : ℕ
      j = next_job x.setting (seen x)

      call : Call
      call = call_added s.number r.path (Lease (ForJob j) (ReadArea r.name)) r.offset (ReadSectors (area_sectors x.setting.layout)) y

      acquiring : (c : Command) (r : ResourceArg) → AsksLease c r → aim_of_command c ≡ Some (Acquires (wanted_mode c))
      acquiring c r (inl a) = subst (λ d. aim_of_command d ≡ Some (Acquires (wanted_mode d))) (sym a.3) refl
      acquiring c r (inr a) = subst (λ d. aim_of_command d ≡ Some (Acquires (wanted_mode d))) (sym a.2) refl

      apart : (h : Grant) → Contains (holdings (seen x)) h → same_place h.path h.offset r.path r.offset ≡ true → h.session ≡ s.number → ⊥
      apart h there same mine =
          let free = g.acquires.free h (here_held x (spot_of r) h there same) in
          not_both (is_shared h.mode) free.0 (find_fails (λ (k : Grant). is_shared k.mode) (holdings_on (seen x) s (spot_of r)) h (g.unshared free.1) (own_held (seen x) s (spot_of r) h there mine same))

      beside : (h : Grant) → Contains (holdings (seen x)) h → same_place h.path h.offset r.path r.offset ≡ true → MayBeHeld (new_call (length x.past) x.reading call) c (Acquires (wanted_mode c)) h
      beside h there same = (let free = g.acquires.free h (here_held x (spot_of r) h there same) in (mode_shared (wants_shared c) ∙ free.1, free.0, apart h there same, free.2))

      before : has_shared_on x.past s (spot_of r) ≡ false
      before =
          let w = l.known.1.waking l.wake in
          none_shared_on x.past s (spot_of r) (λ e there mine same shared. apart e (subst (λ gs. Contains gs e) (sym (held_before x w.0 w.1)) there) same mine)

-- ---- a release

gives_up_work : (x : Step) (text : List ℕ) (c : Command) (s : Session) (g : Grant) → Lined x text c s → GiveUpGrounds x.setting (seen x) c s g
    → WorksAt (after_end s (spot_of_grant g) (next_job x.setting (seen x)) g (add_end (end_of g) (with_input (Line text) x)))
unfolding after_end carry_lease
gives_up_work x text c s g l u = by (holdings_on (seen z) s at) refl where
  st : Setting
  st = x.setting

  at : Spot
  at = spot_of_grant g

  j : ℕ
  j = next_job st (seen x)

  y : Step
  y = with_input (Line text) x

  z : Step
  z = add_end (end_of g) y

  there : WorksAt z
  there = end_works y (end_of g) l.works

  held : Contains (holdings (seen x)) g
  held = (kept_inside (λ (k : Grant). k.session == s.number) (holdings (seen x)) g (kept_inside (λ (e : Grant). same_place e.path e.offset u.resource.path u.resource.offset) (holdings_of (seen x) s) g u.held).0).0

  id : (1 ≤ s.id) × (s.id ≤ st.layout.hosts)
  id = id_in_range st l.known.0.setting (seen y) s (got_inside (sessions st (seen y)) s.number s l.has)

  releasing : (c : Command) (r : ResourceArg) → ReleasesIt c r g → aim_of_command c ≡ Some Releases
  releasing c r (inl a) = ap (λ k. aim_of_command k) a.1
  releasing c r (inr a) = ap (λ k. aim_of_command k) a.0

  holder : (c : Command) (r : ResourceArg) → ReleasesIt c r g → (p : ℕ) → process_named c ≡ Some p → p ≡ g.process
  holder c r (inl a) p named = some_value p a.0 (sym named ∙ ap (λ k. process_named k) a.1) ∙ sym a.2
  holder c r (inr a) p named = absurd (none_some p (sym (ap (λ k. process_named k) a.0) ∙ named))

  aim_is : aim_of_command c ≡ Some Releases
  aim_is = releasing c u.resource u.releases

  first : (step : LeaseStep) (o : ℕ) (op : Op) → holdings_on (seen z) s at ≡ [] → is_on st.layout at (call_added s.number at.path (Lease (ForJob j) step) o op z) ≡ true
      → WorksAt (add_call_of s.number at.path (Lease (ForJob j) step) o op z)
  first step o op none on =
      let call : Call = call_added s.number at.path (Lease (ForJob j) step) o op z in
      call_works z s.number at.path (Lease (ForJob j) step) o op (owned x text c s l)
      (first_work z call j step c at (record {
        purpose = refl;
        named = new_command x text c l.wake l.says;
        spot = new_spot st at call l.known.0.setting (base_aligned y g (l.known.0.facts.holdings.owned g held).4) on;
        known = of_session x text c s l;
        new = new_here x text c s l;
        beside = λ aim h aimed inside same.
            subst (λ a. MayBeHeld (new_call (length x.past) x.reading call) c a h) (aimed_as c Releases aim aim_is aimed)
            (λ mine. contains_none h (subst (λ gs. Contains gs h) none (own_held (seen z) s at h inside mine same)));
        modes = λ aimed. absurd (none_some Shared (ap (λ a. converts_in a) (aimed_as c Releases (Converts Shared) aim_is aimed)));
        acts = λ p named.
            lt_then_le p (next_child (seen x)) (next_child (seen y)) (subst (λ n. n < next_child (seen x)) (sym (holder c u.resource u.releases p named)) (l.known.0.facts.holdings.born g held)) (children_seen x (Line text));
        unshared = λ mode q aimed session. absurd (none_some mode (ap (λ a. acquires_in a) (aimed_as c Releases (Acquires mode) aim_is aimed)));
      })) there

  released : (mode : Mode) → holdings_on (seen z) s at ≡ [] → WorksAt (carry_lease s at (ForJob j) (release_next (lease_place st s) (known st (seen z) s at) mode g.lver) z)
  released Exclusive none =
      let v = leader_for (lease_place st s) (known st (seen z) s at) false g.lver in
      first FreeLeader (leader_offset at.base) (WriteRecord (leader_record st.layout v)) none
      (base_on st at (call_added s.number at.path (Lease (ForJob j) FreeLeader) (leader_offset at.base) (WriteRecord (leader_record st.layout v)) z) l.known.0.setting refl refl)
  released Shared none = block (known st (seen z) s at).own where
    block : (o : Option Block) → WorksAt (carry_lease s at (ForJob j) (option_map_or (λ own. WriteBlock ClearMode (moded_block own false 0)) o Nothing) z)
    block None = there
    block (Some own) =
        let turn : ℕ = next_turn st (seen z) s at in
        let place : ℕ = block_place st.layout at.base s.id turn in
        let op : Op = WriteRecord (block_record st.layout turn s.lockspace (name_on st (seen z) s at) (moded_block own false 0)) in
        first ClearMode place op none (own_on st at s.id turn (call_added s.number at.path (Lease (ForJob j) ClearMode) place op z) l.known.0.setting id refl refl)

  by : (hs : List Grant) → holdings_on (seen z) s at ≡ hs
      → WorksAt (elim hs as (λ v. Step) [
        | e ∷ es ↦ add_reply j Done z
        | [] ↦ carry_lease s at (ForJob j) (next_of_release z.setting (seen z) s at g) z
      ])
  by (e ∷ es) is = reply_works z j Done (later_same z.past (entry_of z) (record { job = j; reply = Done }) refl) there
  by [] is =
      release_is (λ n. WorksAt (carry_lease s at (ForJob j) n z)) st (seen z) s at g (λ fits. released g.mode is)
      (λ paired over writes. reply_works z j (LimitReached TurnLimit) (later_same z.past (entry_of z) (record { job = j; reply = LimitReached TurnLimit }) refl) there)

-- ---- a conversion

unlike : (a b : Bool) → same_truth a b ≡ false → same_truth b a ≡ false
unlike true true is = is
unlike true false is = refl
unlike false true is = refl
unlike false false is = is

opposite : (a b : Bool) → same_truth a b ≡ false → a ≡ true → b ≡ false
opposite true b is at = is
opposite false b is at = absurd (true_is_false (sym at))

only_one : (gs : List Grant) (a b : Grant) → length gs ≡ 1 → Contains gs a → Contains gs b → a ≡ b
only_one [] a b one in_a in_b = absurd (contains_none a in_a)
only_one (g ∷ []) a b one in_a in_b = sym (only g a (contains_cases g [] a in_a)) ∙ only g b (contains_cases g [] b in_b) where
  only : (g e : Grant) → (g ≡ e) ⊎ Contains [] e → g ≡ e
  only g e (inl is) = is
  only g e (inr none) = absurd (contains_none e none)
only_one (g ∷ h ∷ gs) a b one in_a in_b = absurd (never (length gs) one) where
  never : (n : ℕ) → suc (suc n) ≡ 1 → ⊥
  never n is = omega (arith, is)

in_held : (gs : List Grant) (a b : Grant) → Contains gs b → a.process ≡ b.process → spot_of_grant a ≡ spot_of_grant b → Contains (held_by gs a.process a.path a.offset) b
in_held gs a b there by_one spot =
    kept (λ (k : Grant). k.process == a.process && same_place k.path k.offset a.path a.offset) gs b
    (subst (λ n. (b.process == n && same_place b.path b.offset a.path a.offset) ≡ true) (sym by_one)
    (ap (λ z. z && same_place b.path b.offset a.path a.offset) (number_itself b.process) ∙ subst (λ (v : Spot). same_place b.path b.offset v.path v.base ≡ true) (sym spot) (one_place b.path b.offset))) there

converts_work : (x : Step) (text : List ℕ) (c : Command) (s : Session) (r : ResourceArg) (mode : Mode) → Lined x text c s → ConvertGrounds x.setting (seen x) c s r mode
    → WorksAt (carry_lease s (spot_of r) (ForJob (next_job x.setting (seen x))) (next_of_conversion x.setting (seen (with_input (Line text) x)) s (spot_of r) mode r.name) (with_input (Line text) x))
unfolding carry_lease
converts_work x text c s r mode l g = conversion_is (λ n. WorksAt (carry_lease s at (ForJob j) n y)) st (seen y) s at mode r.name (λ fits. converting mode refl)
    (λ paired over writes. reply_works y j (LimitReached TurnLimit) (later_same y.past (entry_of y) (record { job = j; reply = LimitReached TurnLimit }) refl) l.works) where
      st : Setting
      st = x.setting

      at : Spot
      at = spot_of r

      j : ℕ
      j = next_job st (seen x)

      y : Step
      y = with_input (Line text) x

      id : (1 ≤ s.id) × (s.id ≤ st.layout.hosts)
      id = id_in_range st l.known.0.setting (seen y) s (got_inside (sessions st (seen y)) s.number s l.has)

      base : at.base % st.layout.area ≡ 0
      base = base_of st r (subst (λ k. IsCommand st.layout k) g.command l.command).0

      aim_is : aim_of_command c ≡ Some (Converts mode)
      aim_is = subst (λ d. aim_of_command d ≡ Some (Converts (wanted_mode d))) (sym g.command) refl ∙ ap (λ m. Some (Converts m)) (sym g.wanted)

      process : process_named c ≡ Some g.process
      process = ap (λ k. process_named k) g.command

      f : Contains (holdings_on (seen x) s at) g.holding × ((g.holding.process == g.process && true) ≡ true)
      f = find_inside (λ (k : Grant). k.process == g.process && true) (holdings_on (seen x) s at) g.holding g.held

      on : Contains (holdings_of (seen x) s) g.holding × (same_place g.holding.path g.holding.offset r.path r.offset ≡ true)
      on = kept_inside (λ (k : Grant). same_place k.path k.offset r.path r.offset) (holdings_of (seen x) s) g.holding f.0

      held : Contains (holdings (seen x)) g.holding
      held = (kept_inside (λ (k : Grant). k.session == s.number) (holdings (seen x)) g.holding on.0).0

      of : g.holding.process ≡ g.process
      of = eqb-true g.holding.process g.process (and_true (g.holding.process == g.process) true f.1).0

      -- what is held there is the holding itself
      the_holding : (m : Bool) → is_shared mode ≡ m → (h : Grant) → Contains (holdings (seen x)) h → same_place h.path h.offset r.path r.offset ≡ true → h ≡ g.holding
      the_holding true to_shared h there same =
          l.known.0.facts.holdings.alone g.holding h held there
          (subst (λ (v : Spot). same_place h.path h.offset v.path v.base ≡ true) (sym (spot_is g.holding at on.1)) same) (opposite (is_shared mode) (is_shared g.holding.mode) g.other to_shared)
      the_holding false to_exclusive h there same =
          let here : Contains (held_here (seen x) at) h = here_held x at h there same in
          let none : filter (λ (k : Grant). not (k.process == g.process)) (held_here (seen x) at) ≡ [] =
          none_mapped (λ (k : Grant). k.process) (filter (λ (k : Grant). not (k.process == g.process)) (held_here (seen x) at))
          (none_least (map (λ (k : Grant). k.process) (filter (λ (k : Grant). not (k.process == g.process)) (held_here (seen x) at))) (g.lone to_exclusive)) in
          let h_of : h.process ≡ g.process = eqb-true h.process g.process (not_false (h.process == g.process) (nothing_left (λ (k : Grant). not (k.process == g.process)) (held_here (seen x) at) h none here)) in
          one_of h g.holding there held (h_of ∙ sym of) (spot_is h at same ∙ sym (spot_is g.holding at on.1)) where
            not_false : (b : Bool) → not b ≡ false → b ≡ true
            not_false true is = refl
            not_false false is = absurd (true_is_false is)

            one_of : (a b : Grant) → Contains (holdings (seen x)) a → Contains (holdings (seen x)) b → a.process ≡ b.process → spot_of_grant a ≡ spot_of_grant b → a ≡ b
            one_of a b in_a in_b by_one spot =
                only_one (held_by (holdings (seen x)) a.process a.path a.offset) a b (l.known.0.facts.holdings.single a in_a) (in_held (holdings (seen x)) a a in_a refl refl) (in_held (holdings (seen x)) a b in_b by_one spot)

      first : (step : LeaseStep) (o : ℕ) (op : Op) → (mode ≡ Shared → step ≡ SetMode) → is_on st.layout at (call_added s.number at.path (Lease (ForJob j) step) o op y) ≡ true
          → WorksAt (add_call_of s.number at.path (Lease (ForJob j) step) o op y)
      first step o op moding on_it =
          let call : Call = call_added s.number at.path (Lease (ForJob j) step) o op y in
          call_works y s.number at.path (Lease (ForJob j) step) o op (owned x text c s l)
          (first_work y call j step c at (record {
            purpose = refl;
            named = new_command x text c l.wake l.says;
            spot = new_spot st at call l.known.0.setting base on_it;
            known = of_session x text c s l;
            new = new_here x text c s l;
            beside = λ aim h aimed there same.
                let is : h ≡ g.holding = the_holding (is_shared mode) refl h there same in
                subst (λ a. MayBeHeld (new_call (length x.past) x.reading call) c a h) (aimed_as c (Converts mode) aim aim_is aimed)
                (process ∙ ap (λ n. Some n) (sym of ∙ ap (λ (k : Grant). k.process) (sym is)), ap (λ (k : Grant). same_truth (is_shared k.mode) (is_shared mode)) is ∙ unlike (is_shared mode) (is_shared g.holding.mode) g.other);
            modes = λ aimed. moding (some_value mode Shared (ap (λ a. converts_in a) (aimed_as c (Converts mode) (Converts Shared) aim_is aimed)));
            acts = λ p named. acting x text c s l p (subst (λ q. may_act (seen x) q ≡ true) (some_value g.process p (sym process ∙ named)) g.acts);
            unshared = λ m q aimed session. absurd (none_some m (ap (λ a. acquires_in a) (aimed_as c (Converts mode) (Acquires m) aim_is aimed)));
          })) l.works

      converting : (m : Mode) → mode ≡ m → WorksAt (carry_lease s at (ForJob j) (convert_next (known st (seen y) s at) m r.name) y)
      converting Exclusive is =
          first (ReadArea r.name) r.offset (ReadSectors (area_sectors st.layout)) (λ shared. absurd (true_is_false (ap (λ m. is_shared m) (sym shared ∙ is))))
          (base_on st at (call_added s.number at.path (Lease (ForJob j) (ReadArea r.name)) r.offset (ReadSectors (area_sectors st.layout)) y) l.known.0.setting refl refl)
      converting Shared is = block (known st (seen y) s at).own where
        block : (o : Option Block)
            → WorksAt (carry_lease s at (ForJob j) (option_map_or (λ own. WriteBlock SetMode (moded_block own true (known st (seen y) s at).self.generation)) o Nothing) y)
        block None = l.works
        block (Some own) =
            let b : Block = moded_block own true (known st (seen y) s at).self.generation in
            let turn : ℕ = next_turn st (seen y) s at in
            let place : ℕ = block_place st.layout at.base s.id turn in
            let op : Op = WriteRecord (block_record st.layout turn s.lockspace (name_on st (seen y) s at) b) in
            first SetMode place op (λ shared. refl) (own_on st at s.id turn (call_added s.number at.path (Lease (ForJob j) SetMode) place op y) l.known.0.setting id refl refl)

-- ---- what is granted at once

pub nobody_waits : (x : Step) (text : List ℕ) (c : Command) (s : Session) (r e : ResourceArg) → Lined x text c s → IsReady x.setting (seen x) s r → resource_named c ≡ Some r → resource_named c ≡ Some e → (g : Grant) → spot_of_grant g ≡ spot_of e
    → NobodyWorksAt (with_input (Line text) x) g
nobody_waits x text c s r e l ready named named_e g at m j step there none purpose same =
    let spot : spot_of r ≡ spot_of_call x.setting.layout m =
    ap (λ z. spot_of z) (one_value r e (resource_named c) named named_e) ∙ (sym at ∙ spot_is g (spot_of_call x.setting.layout m) same) in
    let on : is_on x.setting.layout (spot_of r) m.call ≡ true = subst (λ z. is_on x.setting.layout z m.call ≡ true) (sym spot) (on_own_area x.setting m l.known.0.setting) in
    contains_none m (subst (λ ms. Contains ms m) ready.calm
    (kept (λ (d : Submitted). is_on x.setting.layout (spot_of r) d.call) (outstanding (seen x)) m on
    (kept (λ (d : Submitted). is_none d.answer) (submitted (seen x)) m (ap (λ o. is_none o) none) (subst (λ ms. Contains ms m) (called x text c s l) there))))

-- ---- all decisions

pub lines_work : (x : Step) (text : List ℕ) (c : Command) (d : Decision) → Known x → x.input ≡ Wake → x.effects.calls ≡ [] → x.setting.read text ≡ Ok c
    → decided x.setting (seen x) x.reading c ≡ d → WorksAt (carry_decision (next_job x.setting (seen x)) c d (with_input (Line text) x))
unfolding carry_decision carry_lease
lines_work x text c d k wake bare says at =
    by d (subst (λ z. HasGrounds x.setting (seen x) c z) at (decisions_have_grounds x.setting (seen x) x.reading c)) (subst (λ z. Of (Has y) z) at (line_has x text c bare)) where
      y : Step
      y = with_input (Line text) x

      j : ℕ
      j = next_job x.setting (seen x)

      h : WorksAt y
      h = input_works x (Line text) wake bare refl k.0.facts.jobs k.0.facts.works

      command : IsCommand x.setting.layout c
      command = k.0.setting.reads text c says

      lined : (s : Session) → Has y s → Lined x text c s
      lined s has = record { known = k; wake = wake; bare = bare; says = says; has = has; command = command; works = h }

      all_owned : CallsOwned y
      all_owned m there = subst (λ o. IsSome o) (sym (sessions_seen_still x (Line text) m.call.session bare)) (k.0.facts.calls.owned m (subst (λ ms. Contains ms m) (calls_stay x (Line text) wake bare refl) there))

      by : (d : Decision) → HasGrounds x.setting (seen x) c d → Of (Has y) d → WorksAt (carry_decision j c d y)
      by (Replies r) g has = h
      by (Joins n a) g has = other_call_works y n a.path (Joining j FirstRead) (delta_offset x.setting.layout a.offset a.id) (ReadSectors 1) all_owned refl h
      by (Leaves s) g has = stopped_on WorksAt works_go_on y s (Some j) (no_told x.past text) h
      by (ReadsArea s r) g has = reads_work x text c s r (lined s has) g
      by (Shares s lver) g has =
          granted_works y s j c Shared lver
          (λ r p persistent named.
          nobody_waits x text c s g.resource r (lined s has) g.acquires.ready (asked_resource x.setting c g.resource command g.acquires.asks).1 named (grant_of s r p Shared lver persistent) refl) h
      by (GivesUp s e) g has = gives_up_work x text c s e (lined s has) g
      by (TakesOver s e) g has =
          granted_works (add_end (end_of e) y) s j c e.mode e.lver
          (λ r p persistent named.
          nobody_waits x text c s g.resource r (lined s has) g.ready (ap (λ z. resource_named z) g.command) named (grant_of s r p e.mode e.lver persistent) refl) (end_works y (end_of e) h)
      by (ConvertsTo s r mode) g has = converts_work x text c s r mode (lined s has) g
      by (Requests s r) g has = other_call_works y s.number r.path (RequestRead j) r.offset (ReadSectors 2) all_owned refl h
      by (SetsValue s spot v) g has = other_call_works y s.number spot.path (ValueWrite j) (value_offset x.setting.layout spot.base) (WriteRecord (ValueIs v)) all_owned refl h
      by (GetsValue s spot) g has = other_call_works y s.number spot.path (ValueRead j) (value_offset x.setting.layout spot.base) (ReadSectors 1) all_owned refl h
