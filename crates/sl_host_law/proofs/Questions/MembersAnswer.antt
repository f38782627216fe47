-- What a step asks of a session is answered by its member.
use Rattle.sl_due.specs.CarriedDelta.{begins_by_read}
use Rattle.sl_due.specs.DueRequests.{bits_due, is_asked}
use Rattle.sl_due.specs.Steps.{Step, seen}
use Rattle.sl_host_law.proofs.SharedFacts.MembersAreSessions.{member_inside}
use Rattle.sl_host_law.proofs.SharedFacts.PlainLists.{any_as}
use Rattle.sl_host_state.specs.KeptState.{Config, HostState, MemberState}
use Rattle.sl_host_state.specs.HostStands.{Keeps, MemberStands, bits_of, config_of, is_asked_in, kept_job}
use Rattle.sl_host_state.specs.declared.kept_parts.JobState.{JobState}
use Rattle.sl_trace.specs.Jobs.{jobs_of_session, lockspace_named}
use Rattle.sl_trace.specs.Leases.{exclusive_on, has_shared_on, holdings_on, known, known_of, lease_calls}
use Rattle.sl_host_law.specs.Decisions.CommandDecisions.{held_on, is_active_member}
use Rattle.sl_host_law.specs.Questions.Members.{IsMemberAt, MemberAnswers, MembersAnswer, begins_by_read_in, evidence_seen, exclusive_at, has_call_open, is_leaving_in, is_recovering_in, jobs_in, me_in, over_in, shared_at}
use Rattle.sl_host_law.proofs.Replies.OpenCallsAreKept.{open_is, open_write_is, own_open}
use Rattle.sl_host_law.proofs.Replies.PlainFilters.{filter_mapped}
use Rattle.sl_sector.specs.Bitmaps.{bitmap_of}
use Rattle.sl_sector.specs.declared.sector.Owner.{Owner}
use Rattle.sl_trace.specs.Sessions.{calls_of, generation_of, has_open_write, is_active, is_call_of, is_leaving, is_present, is_recovering, joined_after, leaving_job, me, open_calls_of, recovery_of, refused_after, removed_after}
use Rattle.sl_area.specs.AreaSizes.{Layout}
use Rattle.sl_sector.specs.declared.sector.DeltaRec.{DeltaRec}
use Rattle.sl_trace.specs.Sightings.{counts_over, current_run, evidence, evidence_in, evidence_of, has_seen, run_with, seen_records, sighted, sightings}
use Rattle.sl_trace.specs.declared.sighting.Sighting.{Sighting}
use Rattle.sl_watch.proofs.SummaryLaws.{evidence_read}
use Rattle.sl_watch.specs.Summaries.{bare, evidence_by}
use Rattle.sl_watch.specs.Watches.{kept_at}
use Rattle.sl_trace.specs.declared.delta.DeltaKnown.{DeltaKnown}
use Rattle.sl_trace.specs.declared.session.Begun.{Begun}
use Rattle.sl_trace.specs.declared.session.Renewing.{Renewing}
use Rattle.sl_trace.specs.Traces.{Job, Submitted, is_orphan, is_shared, outstanding, running_jobs, same_place}
use Rattle.sl_trace.specs.declared.effects.Grant.{Grant}
use Rattle.sl_trace.specs.declared.effects.Spot.{Spot}
use Rattle.sl_trace.specs.declared.input.Input.{Input}
use Rattle.sl_words.proofs.CaseLaws.{false_is_true}
use Rattle.sl_words.specs.Orders.{rising}
use Rattle.sl_words.specs.Words.{is_empty, same_truth, some_is}
use Rattle.sl_words.proofs.WordLaws.{and_true}
use Rattle.std.proofs.Common.{ap, arith, refl, suc, sym, zero, ◌∙◌}
use Rattle.std.proofs.lemmas.Bool.Decides.{nat_tests}
use Rattle.std.proofs.lemmas.Bool.{leb-true}
use Rattle.sl_trace.specs.declared.reply.Evidence.TheVariants.{Newer}
use Rattle.sl_trace.specs.declared.reply.Evidence.{Evidence}
use Rattle.std.specs.Int.{is_in_range}
use Rattle.std.proofs.Math.Path.{fun_ext}
use Rattle.std.specs.List.{cons_option, list_any, range_with_len}
use Rattle.std.specs.Prelude.{Bool, List, None, Option, Some, bytes_eq, cond, false, filter, find, is_none, is_some, map, nat_le, nat_lt, not, option_map, true, [], ℕ, ◌&&◌, ◌+◌, ◌<◌, ◌==◌, ◌∷◌, ◌≡◌, ◌≤◌, ◌||◌}

some_mapped : {A B : Type 0} (f : A → B) (o : Option A) → is_some (option_map f o) ≡ is_some o
some_mapped f None = refl
some_mapped f (Some a) = refl

none_mapped : {A B : Type 0} (f : A → B) (o : Option A) → is_none (option_map f o) ≡ is_none o
none_mapped f None = refl
none_mapped f (Some a) = refl

abbrev begun_of : Job → Begun
begun_of j = record { at = j.at; reading = j.reading; kills_from = j.at + 1 }

-- A list is empty where it has no element.
empty_is : {A : Type 0} (xs : List A) → is_empty xs ≡ not (list_any (λ x. true) xs)
empty_is [] = refl
empty_is (x ∷ xs) = refl

-- Two tests that are the same in a range.
kept_range : (p q : ℕ → Bool) (a n : ℕ) → ((i : ℕ) → a ≤ i → i < a + n → p i ≡ q i) → filter p (range_with_len a n) ≡ filter q (range_with_len a n)
kept_range p q a zero are = refl
kept_range p q a (suc n) are =
    ap (λ b. cond b (a ∷ filter p (range_with_len (a + 1) n)) (filter p (range_with_len (a + 1) n))) (are a (omega arith) (omega arith))
    ∙ ap (λ ys. cond (q a) (a ∷ ys) ys) (kept_range p q (a + 1) n (λ i one most. are i (omega (arith, one)) (omega (arith, most))))

-- Nothing that was seen is no evidence.
no_reason : (g : ℕ) → elim (nat_lt g 0) as (λ z. Option Evidence) [ true ↦ Some (Newer 0) | false ↦ None ] ≡ None
no_reason g = by (nat_lt g 0) (grind (arith, nat_tests)) where
  by : (b : Bool) → b ≡ false → elim b as (λ z. Option Evidence) [ true ↦ Some (Newer 0) | false ↦ None ] ≡ None
  by false is = refl
  by true is = absurd cc

-- Where no record was seen there is no run.
no_run : (g : Layout) (id : ℕ) (ss : List Sighting) → seen_records g id ss ≡ [] → current_run g id ss ≡ None
no_run g id [] none = refl
no_run g id (s ∷ ss) none = by (sighted g id s) none where
  by : (o : Option DeltaRec) → cons_option o (seen_records g id ss) ≡ [] → option_map (λ d. run_with (current_run g id ss) s d (has_seen ss)) o ≡ None
  by None is = refl
  by (Some d) is = absurd cc

module _ (i : Input) (h : HostState) (x : Step) (k : ℕ) (m : MemberState) (at_it : IsMemberAt i h x k m) where
  keeps : Keeps h x.setting (seen x)
  keeps = at_it.stands.keeps

  stands : MemberStands x.setting (seen x) m
  stands = keeps.members k m at_it.there

  config : config_of x.setting ≡ h.config
  config = keeps.config

  present : is_present (seen x) m.who ≡ true
  present = (member_inside h x.setting (seen x) k m keeps at_it.there).1

  generation : generation_of (seen x) m.who ≡ m.known.generation
  generation = ap (λ (d : DeltaKnown). d.generation) stands.known

  recovery : recovery_of x.setting (seen x) m.who ≡ m.renewing.recovery
  recovery = ap (λ (r : Renewing). r.recovery) stands.renewing

  leaves : is_some (leaving_job x.setting (seen x) m.who) ≡ is_some m.leaving
  leaves = sym (some_mapped begun_of (leaving_job x.setting (seen x) m.who)) ∙ ap is_some stands.leaving

  stays : is_none (leaving_job x.setting (seen x) m.who) ≡ is_none m.leaving
  stays = sym (none_mapped begun_of (leaving_job x.setting (seen x) m.who)) ∙ ap is_none stands.leaving

  active : is_active x.setting (seen x) m.who ≡ is_active_member m
  active =
      ap (λ b. b && is_none (recovery_of x.setting (seen x) m.who) && is_none (leaving_job x.setting (seen x) m.who)) stands.joined
      ∙ ap (λ (o : Option Begun). m.joined && is_none o && is_none (leaving_job x.setting (seen x) m.who)) recovery ∙ ap (λ b. m.joined && is_none m.renewing.recovery && b) stays

  recovering : is_recovering x.setting (seen x) m.who ≡ is_recovering_in m
  recovering = ap (λ b. b && is_some (recovery_of x.setting (seen x) m.who)) stands.joined ∙ ap (λ (o : Option Begun). m.joined && is_some o) recovery

  leaving : is_leaving x.setting (seen x) m.who ≡ is_leaving_in m
  leaving = ap (λ b. b && is_some (leaving_job x.setting (seen x) m.who)) stands.joined ∙ ap (λ b. m.joined && b) leaves

  by_read : begins_by_read (seen x) (recovery_of x.setting (seen x) m.who) ≡ begins_by_read_in h m.renewing.recovery
  by_read =
      ap (λ n. some_is (λ (b : Begun). b.kills_from == n) (recovery_of x.setting (seen x) m.who)) keeps.entries
      ∙ ap (λ o. some_is (λ (b : Begun). b.kills_from == h.entries) o) recovery

  bits : (now : ℕ) → bits_due x.setting (calls_of (seen x) m.who) now ≡ bits_of x.setting m.asked now
  bits now =
      ap bitmap_of (kept_range (is_asked x.setting (calls_of (seen x) m.who) now) (is_asked_in x.setting m.asked now) 1 x.setting.layout.hosts
      (λ owner one most. stands.asked.each now owner one (omega (arith, most))))

  -- ---- what it has seen

  has_joined : is_some (joined_after (seen x) m.who) ≡ m.joined
  has_joined = by (joined_after (seen x) m.who) (removed_after (seen x) m.who) present ∙ stands.joined where
    by : (o p : Option ℕ) → (is_none (elim o as (λ z. Option ℕ) [ Some j ↦ p | None ↦ refused_after (seen x) m.who ]) || is_none o && has_open_write (seen x) m.who) ≡ true
        → is_some o ≡ (is_some o && is_none p)
    by None p is = refl
    by (Some j) None is = refl
    by (Some j) (Some n) is = absurd (false_is_true is)

  seen_evidence : (j g : ℕ) → evidence_in x.setting (calls_of (seen x) m.who) j g ≡ evidence_seen m j g
  seen_evidence j g = by (is_in_range 1 m.watch.sizes.hosts j) refl where
    ss : List Sighting
    ss = sightings x.setting.layout j (calls_of (seen x) m.who)

    hosts : x.setting.layout.hosts ≡ m.watch.sizes.hosts
    hosts = sym (ap (λ (z : Layout). z.hosts) stands.seen.sized)

    by : (b : Bool) → is_in_range 1 m.watch.sizes.hosts j ≡ b
        → evidence x.setting.timing x.setting.layout j g ss ≡ cond b (evidence_by m.watch.timing g (bare (kept_at m.watch j))) None
    by true is =
        let both = and_true (nat_le 1 j) (nat_le j m.watch.sizes.hosts) is in
        ap (λ t. evidence t x.setting.layout j g ss) (sym stands.seen.timed) ∙ ap (λ z. evidence m.watch.timing z j g ss) (sym stands.seen.sized)
        ∙ sym (evidence_read m.watch (λ id. sightings x.setting.layout id (calls_of (seen x) m.who)) j g stands.seen.stands (leb-true 1 j both.0) (leb-true j m.watch.sizes.hosts both.1))
    by false is =
        let none : seen_records x.setting.layout j ss ≡ [] = stands.seen.beyond j (ap (λ n. is_in_range 1 n j) hosts ∙ is) in
        ap (λ ds. evidence_of x.setting.timing g ds (current_run x.setting.layout j ss)) none ∙ ap (evidence_of x.setting.timing g []) (no_run x.setting.layout j ss none)
        ∙ no_reason g

  over : (j g : ℕ) → counts_over x.setting (seen x) m.who j g ≡ over_in m j g
  over j g =
      ap (λ e. over_by (is_some e) (generation_of (seen x) m.who) (is_some (joined_after (seen x) m.who))) (seen_evidence j g)
      ∙ ap (λ n. over_by (is_some (evidence_seen m j g)) n (is_some (joined_after (seen x) m.who))) generation
      ∙ ap (over_by (is_some (evidence_seen m j g)) m.known.generation) has_joined where
        over_by : Bool → ℕ → Bool → Bool
        over_by evident n joined = elim evident as (λ z. Bool) [ true ↦ true | false ↦ j == m.who.id && nat_lt g n && joined ]

  -- ---- its calls and holdings

  idle : is_empty (open_calls_of (seen x) m.who) ≡ not (has_call_open h m.who.number)
  idle =
      empty_is (open_calls_of (seen x) m.who)
      ∙ ap not (own_open (λ d. true) (seen x) m.who ∙ any_as (λ d. is_call_of m.who d && true) (is_call_of m.who) (outstanding (seen x)) (λ d. and_true (is_call_of m.who d))
      ∙ open_is (λ c. c.session == m.who.number) (seen x) h.unanswered keeps.unanswered) where
        and_true : (b : Bool) → (b && true) ≡ b
        and_true true = refl
        and_true false = refl

  held : (at : Spot) → holdings_on (seen x) m.who at ≡ held_on h m at
  held at = ap (λ (gs : List Grant). filter (λ g. same_place g.path g.offset at.path at.base) (filter (λ g. g.session == m.who.number) gs)) keeps.holdings

  jobs : map (kept_job (seen x)) (jobs_of_session x.setting (seen x) m.who) ≡ jobs_in h m
  jobs =
      sym (filter_mapped (λ (j : JobState). some_is (λ c. some_is (λ n. bytes_eq n m.who.lockspace) (lockspace_named c)) j.command) (kept_job (seen x)) (running_jobs x.setting (seen x)))
      ∙ ap (filter (λ (j : JobState). some_is (λ c. some_is (λ n. bytes_eq n m.who.lockspace) (lockspace_named c)) j.command)) keeps.jobs

  -- ---- a lease, up to its calls

  over_all : counts_over x.setting (seen x) m.who ≡ over_in m
  over_all = fun_ext (λ j. fun_ext (λ g. over j g))

  me_is : me (seen x) m.who ≡ me_in m
  me_is = ap (λ n. record { id = m.who.id; generation = n }) generation

  lease : (at : Spot) → known x.setting (seen x) m.who at
      ≡ known_of h.config.layout m.who.lockspace (me_in m) (is_some (shared_at h m at)) (option_map (λ g. g.lver) (exclusive_at h m at)) (over_in m) (lease_calls x.setting (seen x) m.who at)
  unfolding known
  lease at =
      let calls : List Submitted = lease_calls x.setting (seen x) m.who at in
      ap (λ (c : Config). known_of c.layout m.who.lockspace (me (seen x) m.who) (has_shared_on (seen x) m.who at) (option_map (λ g. g.lver) (exclusive_on (seen x) m.who at)) (counts_over x.setting (seen x) m.who) calls) config
      ∙ ap (λ (o : Owner). known_of h.config.layout m.who.lockspace o (has_shared_on (seen x) m.who at) (option_map (λ g. g.lver) (exclusive_on (seen x) m.who at)) (counts_over x.setting (seen x) m.who) calls) me_is
      ∙ ap (λ (gs : List Grant). known_of h.config.layout m.who.lockspace (me_in m) (is_some (find (λ g. is_shared g.mode) gs)) (option_map (λ g. g.lver) (find (λ g. not (is_shared g.mode)) gs)) (counts_over x.setting (seen x) m.who) calls) (held at)
      ∙ ap (λ (f : ℕ → ℕ → Bool). known_of h.config.layout m.who.lockspace (me_in m) (is_some (shared_at h m at)) (option_map (λ g. g.lver) (exclusive_at h m at)) f calls) over_all

  answers : MemberAnswers h x m
  answers =
      record {
        me = me_is;
        joined = stands.joined;
        active = active;
        recovering = recovering;
        leaving = leaving;
        renewal = ap (λ (r : Renewing). r.last) stands.renewing;
        recovery = recovery;
        by_read = by_read;
        bits = bits;
        evidence = seen_evidence;
        over = over;
        idle = idle;
        writes = open_write_is (seen x) m.who h.unanswered keeps.unanswered;
        holdings = ap (filter (λ (g : Grant). g.session == m.who.number)) keeps.holdings;
        held = held;
        shared = λ at. ap (find (λ (g : Grant). is_shared g.mode)) (held at);
        has_shared = λ at. ap (λ (gs : List Grant). is_some (find (λ g. is_shared g.mode) gs)) (held at);
        exclusive = λ at. ap (find (λ (g : Grant). not (is_shared g.mode))) (held at);
        orphan = λ at. ap (find is_orphan) (held at);
        otherwise = λ at p mode. ap (find (λ (g : Grant). g.process == p && not (same_truth (is_shared g.mode) (is_shared mode)))) (held at);
        holders = ap (λ (gs : List Grant). rising (map (λ g. g.process) (filter (λ g. not (is_orphan g)) (filter (λ g. g.session == m.who.number) gs)))) keeps.holdings;
        jobs = jobs;
        spots = stands.spots;
        lease = lease;
      }

pub members_answer : MembersAnswer
members_answer i h x k m at = answers i h x k m at
