-- What an answer makes for the job of its call: calls of the lease, grants, the start of a program, the write of a request.
use Rattle.sl_due_facts.specs.Acts.Acts.{Hears}
use Rattle.sl_due_facts.specs.Acts.TraceSoFar.{entry_of}
use Rattle.sl_area.specs.AreaSizes.{Layout}
use Rattle.sl_area.specs.AreaLayout.{block_place, leader_of, leader_offset, read_at}
use Rattle.sl_area.specs.AreaRecords.{block_record, leader_record}
use Rattle.sl_due.specs.CarriedLease.{carry_lease, convert_for, convert_holding, grant_for, held_otherwise, name_on, next_of_lease, next_turn, with_command}
use Rattle.sl_due.specs.DueRequests.{after_request_read, owner_read, request_refusal, write_request}
use Rattle.sl_due.specs.Steps.{Step, add_call_of, add_reply, seen, with_some}
use Rattle.sl_due_law.proofs.Causes.LaterSteps.{told_no_line}
use Rattle.sl_due_law.proofs.Causes.Leases.GrantCauses.{WriteHeard, freed_shared, is_wanted, mode_for}
use Rattle.sl_due_law.proofs.Causes.LineMakings.{Fresh, fresh_made, grant_made, lease_made, one_call, one_grant}
use Rattle.sl_due_law.proofs.Causes.PlainMakings.{adds, adds_nothing, is_special_call, made_plain, still_made}
use Rattle.sl_due_facts.proofs.Connections.HeardCalls.{heard_before}
use Rattle.sl_due_leases.proofs.Holdings.LeaseNexts.{IsFitNext, IsGrantOf, next_fits}
use Rattle.sl_due_law.specs.Causes.CauseFacts.{ChildFacts, IsTold}
use Rattle.sl_due_law.specs.Causes.Makings.{By_answer, By_line, FromJob, MadeSoFar}
use Rattle.sl_due_facts.specs.Facts.HeardCall.{heard_by}
use Rattle.sl_due_facts.specs.Facts.AllFacts.{Whole}
use Rattle.sl_due_leases.specs.Holdings.Moments.{Known}
use Rattle.sl_run.specs.Caused.{IsAccepted}
use Rattle.sl_trace.specs.Jobs.{aim_of, aim_of_command, command_numbered, command_of, process_named}
use Rattle.sl_trace.specs.LeaseDecisions.{lease_place}
use Rattle.sl_trace.specs.Leases.{holdings_on, is_leader_of, known, lver_written, spot_of_call}
use Rattle.sl_trace.specs.declared.lease.Aim.{Aim}
use Rattle.sl_trace.specs.declared.lease.Aim.TheVariants.{Acquires}
use Rattle.sl_trace.specs.declared.lease.LeaseNext.{LeaseNext}
use Rattle.sl_trace.specs.declared.lease.LeaseNext.TheVariants.{AnswerJob, BecomeExclusive, BecomeShared, GrantJob, Nothing as No_lease, ReadFor, WriteBlock, WriteLeader}
use Rattle.sl_words.proofs.Lists.{find_inside}
use Rattle.sl_request.specs.Requests.{check_request}
use Rattle.sl_sector.specs.SectorLayouts.{request_in}
use Rattle.sl_sector.specs.declared.sector.Leader.{Leader}
use Rattle.sl_sector.specs.declared.sector.Request.{Request as RequestRec}
use Rattle.sl_trace.specs.declared.session.Session.{Session}
use Rattle.sl_trace.specs.Traces.{Job, Submitted, is_shared, jobs, line_in, next_job}
use Rattle.sl_trace.specs.declared.command.Command.{Command}
use Rattle.sl_trace.specs.declared.command.Command.TheVariants.{Acquire, AddLockspace, Convert, GetLvb, HostStatus, InqLockspace, Release, ReleaseOrphan, RemLockspace, Request, RunProgram, SetKillpath, SetLvb, Status, TakeOver}
use Rattle.sl_trace.specs.declared.command.ResourceArg.{ResourceArg}
use Rattle.sl_trace.specs.declared.effects.Call.{Call}
use Rattle.sl_trace.specs.declared.effects.Grant.{Grant}
use Rattle.sl_trace.specs.declared.effects.LeaseStep.{LeaseStep}
use Rattle.sl_trace.specs.declared.effects.LeaseStep.TheVariants.{ClearMode, FreeLeader, Phase1Read, Phase1Write, Phase2Read, Phase2Write, ReadAgain, ReadArea, ReadBeforeBlock, ReadBeforeFree, SetMode, TakeLeader}
use Rattle.sl_trace.specs.declared.effects.Mode.{Mode}
use Rattle.sl_trace.specs.declared.effects.Mode.TheVariants.{Exclusive, Shared}
use Rattle.sl_trace.specs.declared.effects.Op.{Op}
use Rattle.sl_trace.specs.declared.effects.Op.TheVariants.{WriteRecord}
use Rattle.sl_trace.specs.declared.effects.Purpose.{Purpose}
use Rattle.sl_trace.specs.declared.effects.Purpose.TheVariants.{Lease, RequestRead, RequestWrite}
use Rattle.sl_trace.specs.declared.effects.Spot.{Spot}
use Rattle.sl_trace.specs.declared.effects.Work.TheVariants.{ForJob, Settling}
use Rattle.sl_trace.specs.declared.input.Answer.{Answer}
use Rattle.sl_trace.specs.declared.input.Answer.TheVariants.{Read, Written}
use Rattle.sl_trace.specs.declared.input.Input.TheVariants.{Answer as Told}
use Rattle.sl_trace.specs.declared.reply.Reply.{Reply}
use Rattle.sl_trace.specs.declared.reply.Reply.TheVariants.{RequestOld, TornLeader, WrongArea}
use Rattle.sl_run_law.proofs.Sessions.CallsAreMade.{same_answered}
use Rattle.sl_words.proofs.CaseLaws.{none_some, some_value, true_is_false}
use Rattle.sl_words.proofs.OptionLaws.{choose_none}
use Rattle.sl_words.proofs.WordLaws.{and_true}
use Rattle.sl_words.specs.Words.{choose, same_truth}
use Rattle.sl_trace.specs.declared.effects.LeaseRead.TheVariants.{OfArea, OfBlock, OfFree, OfPhase1, OfPhase2}
use Rattle.std.proofs.Common.{ap, inl, inr, refl, subst, sym, ◌∙◌}
use Rattle.std.proofs.lemmas.Bool.{eqb-true}
use Rattle.std.proofs.lemmas.List.{append-nil}
use Rattle.std.specs.Prelude.{Bool, IsTrue, List, None, Option, Some, [], false, find, if◌then◌else◌, length, not, option_and_then, true, ℕ, ◌&&◌, ◌++◌, ◌==◌, ◌∷◌, ◌≡◌}

-- ---- what was heard waited before

pub was_waiting : (x : Step) (s : Session) (m : Submitted) (answer : Answer) (j : ℕ) (step : LeaseStep) → Whole x → Hears x s m answer → m.call.purpose ≡ Lease (ForJob j) step → FromJob x.setting x.past x.input j
was_waiting x s m answer j step h hears purpose =
    let w = heard_before x s m answer h hears in
    let same : w.0.call ≡ m.call = sym (same_answered x.past (entry_of x) hears.number answer w.0).call ∙ ap (λ (d : Submitted). d.call) w.1.marked in
    By_answer w.0 (record { there = w.1.inside; opens = w.1.opened; step = step; purpose = ap (λ (c : Call). c.purpose) same ∙ purpose })
    (ap (λ i. heard_by i) hears.heard ∙ ap (λ n. Some n) (sym w.1.number))

-- The command of a job is what it was, where the input is no line.
pub command_before : (x : Step) (n : ℕ) → line_in x.input ≡ None → command_numbered x.setting (seen x) n ≡ command_numbered x.setting x.past n
command_before x n none =
    ap (λ (js : List Job). option_and_then command_of (find (λ (j : Job). j.number == n) js))
    (ap (λ (o : Option (List ℕ)). jobs x.setting x.past ++ elim o as (λ z. List Job) [ None ↦ [] | Some text ↦ record { number = next_job x.setting x.past; at = length x.past; reading = x.reading; command = x.setting.read text } ∷ [] ]) none
    ∙ append-nil (jobs x.setting x.past))

pub told_no_text : (x : Step) (n : ℕ) (answer : Answer) → x.input ≡ Told n answer → line_in x.input ≡ None
told_no_text x n answer is = ap (λ i. line_in i) is

-- ---- the lease's work

-- What a settling decides grants nothing, and calls for no job.
pub settling_grants : (x : Step) (s : Session) (at : Spot) (n : LeaseNext) → (carry_lease s at Settling n x).effects.grants ≡ x.effects.grants
unfolding carry_lease
settling_grants x s at No_lease = refl
settling_grants x s at (ReadFor (ReadArea name)) = refl
settling_grants x s at (ReadFor ReadBeforeFree) = refl
settling_grants x s at (ReadFor ReadBeforeBlock) = refl
settling_grants x s at (ReadFor (ReadAgain (OfArea name))) = refl
settling_grants x s at (ReadFor (ReadAgain OfFree)) = refl
settling_grants x s at (ReadFor (ReadAgain OfBlock)) = refl
settling_grants x s at (ReadFor (ReadAgain OfPhase1)) = refl
settling_grants x s at (ReadFor (ReadAgain OfPhase2)) = refl
settling_grants x s at (ReadFor Phase1Write) = refl
settling_grants x s at (ReadFor Phase1Read) = refl
settling_grants x s at (ReadFor Phase2Write) = refl
settling_grants x s at (ReadFor Phase2Read) = refl
settling_grants x s at (ReadFor TakeLeader) = refl
settling_grants x s at (ReadFor SetMode) = refl
settling_grants x s at (ReadFor FreeLeader) = refl
settling_grants x s at (ReadFor ClearMode) = refl
settling_grants x s at (WriteBlock step b) = refl
settling_grants x s at (WriteLeader step l) = refl
settling_grants x s at (AnswerJob r) = refl
settling_grants x s at (GrantJob mode lver) = refl
settling_grants x s at (BecomeShared lver l) = refl
settling_grants x s at (BecomeExclusive lver b) = refl

-- The mode that is granted is the one that a program's line asks for.
program_mode : (x : Step) (s : Session) (m : Submitted) (answer : Answer) (j : ℕ) (step : LeaseStep) (aim : Aim) (mode : Mode) (lver : ℕ) → Known x → Hears x s m answer → m.call.purpose ≡ Lease (ForJob j) step
    → aim_of x.setting (seen x) (ForJob j) ≡ Some aim → next_of_lease x.setting (seen x) s (spot_of_call x.setting.layout m) aim m step answer ≡ GrantJob mode lver
    → (r : ResourceArg) (shared : Bool) (path : List ℕ) → command_numbered x.setting (seen x) j ≡ Some (RunProgram r shared path) → is_shared mode ≡ shared
program_mode x s m answer j step aim mode lver known_here hears purpose aims next r shared path reads = by fit.2 where
  fit : (answer ≡ Written) × (lver ≡ lver_written m) × IsGrantOf aim step mode
  fit =
      subst (λ n. IsFitNext (known x.setting (seen x) s (spot_of_call x.setting.layout m)) aim (lver_written m) step answer n) next
      (next_fits (lease_place x.setting s) (known x.setting (seen x) s (spot_of_call x.setting.layout m)) aim m.call.number (lver_written m) step answer)

  its_aim : Acquires (mode_for shared) ≡ aim
  its_aim = some_value (Acquires (mode_for shared)) aim (sym (ap (λ o. option_and_then aim_of_command o) reads) ∙ aims)

  modes : {a b : Mode} → Acquires a ≡ Acquires b → a ≡ b
  modes same = cc

  wants : (k : Mode) → aim ≡ Acquires k → shared ≡ is_shared k
  wants k its = sym (is_wanted shared) ∙ ap (λ q. is_shared q) (modes (its_aim ∙ its))

  by : IsGrantOf aim step mode → is_shared mode ≡ shared
  by (inl v) = ap (λ q. is_shared q) v.1 ∙ sym (wants Exclusive v.2)
  by (inr v) =
      let w : WriteHeard x s m j FreeLeader (RunProgram r shared path) =
      record { known = known_here; hears = subst (λ a. Hears x s m a) fit.0 hears; purpose = purpose ∙ ap (λ k. Lease (ForJob j) k) v.0; reads = reads } in
      let same : v.2.0 ≡ Shared = freed_shared x s m j (RunProgram r shared path) v.2.0 w (aims ∙ ap (λ k. Some k) v.2.1) in
      ap (λ q. is_shared q) v.1 ∙ sym (wants v.2.0 v.2.1 ∙ ap (λ q. is_shared q) same)

-- A conversion that is done gives to who held.
converted_made : (x : Step) (s : Session) (at : Spot) (j : ℕ) (mode : Mode) (lver : ℕ) (p : Purpose) (o : Step → ℕ) (op : Step → Op) → Fresh x → is_special_call p ≡ false
    → ((c : Command) (q : ℕ) → command_numbered x.setting (seen x) j ≡ Some c → process_named c ≡ Some q → IsTold x.past q)
    → (let z : Step = with_command j (λ c. convert_for s at j c mode lver) x in MadeSoFar (add_call_of s.number at.path p (o z) (op z) z))
converted_made x s at j mode lver p o op f plain told = by (command_numbered x.setting (seen x) j) refl where
  P : Step → Type 0
  P z = MadeSoFar (add_call_of s.number at.path p (o z) (op z) z)

  alone : P x
  alone = one_call x s.number at.path p (o x) (op x) f (made_plain x.setting x.past x.input x.effects.grants (op x) p plain)

  held : (q : ℕ) → IsTold x.past q → (g : Option Grant) → held_otherwise (seen x) s at q mode ≡ g → P (with_some g (convert_holding j mode lver) x)
  held q is None none = alone
  held q is (Some g) found =
      still_made z (add_call_of s.number at.path p (o z) (op z) z) ((adds z).calls z s at.path p (o z) (op z) plain (adds_nothing z)) refl
      (one_grant x z (record g { mode = mode; lver = lver }) f refl refl refl refl refl (inr (inr (subst (λ n. IsTold x.past n) (sym its) is))))
    where
      z : Step
      z = convert_holding j mode lver g x

      its : g.process ≡ q
      its =
          let b = find_inside (λ (k : Grant). k.process == q && not (same_truth (is_shared k.mode) (is_shared mode))) (holdings_on (seen x) s at) g found in
          eqb-true g.process q (and_true (g.process == q) (not (same_truth (is_shared g.mode) (is_shared mode))) b.1).0

  process : (c : Command) → command_numbered x.setting (seen x) j ≡ Some c → (q : Option ℕ) → process_named c ≡ q → P (with_some q (λ n y. with_some (held_otherwise (seen y) s at n mode) (convert_holding j mode lver) y) x)
  process c reads None none = alone
  process c reads (Some q) names = held q (told c q reads names) (held_otherwise (seen x) s at q mode) refl

  by : (c : Option Command) → command_numbered x.setting (seen x) j ≡ c → P (with_some c (λ d. convert_for s at j d mode lver) x)
  by None none = alone
  by (Some c) reads = process c reads (process_named c) refl

-- What is known where the work on a lease goes on.
pub record AtItsAnswer (x : Step) (s : Session) (m : Submitted) (answer : Answer) (j : ℕ) (step : LeaseStep) (aim : Aim) : Type 0 where
  pub known : Known x
  pub fresh : Fresh x
  pub children : ChildFacts x.setting x.past
  pub hears : Hears x s m answer
  pub purpose : m.call.purpose ≡ Lease (ForJob j) step
  pub aims : aim_of x.setting (seen x) (ForJob j) ≡ Some aim

pub led_made : (x : Step) (s : Session) (m : Submitted) (answer : Answer) (j : ℕ) (step : LeaseStep) (aim : Aim) → AtItsAnswer x s m answer j step aim → (n : LeaseNext)
    → next_of_lease x.setting (seen x) s (spot_of_call x.setting.layout m) aim m step answer ≡ n → MadeSoFar (carry_lease s (spot_of_call x.setting.layout m) (ForJob j) n x)
unfolding carry_lease
led_made x s m answer j step aim h n next = by n next where
  at : Spot
  at = spot_of_call x.setting.layout m

  from : FromJob x.setting x.past x.input j
  from = was_waiting x s m answer j step h.known.0 h.hears h.purpose

  unread : line_in x.input ≡ None
  unread = told_no_text x h.hears.number answer h.hears.heard

  its : (c : Command) → command_numbered x.setting (seen x) j ≡ Some c → command_numbered x.setting x.past j ≡ Some c
  its c reads = sym (command_before x j unread) ∙ reads

  told : (c : Command) (p : ℕ) → command_numbered x.setting (seen x) j ≡ Some c → process_named c ≡ Some p → IsTold x.past p
  told c p reads names = go from where
    go : FromJob x.setting x.past x.input j → IsTold x.past p
    go (By_line text d line own says all) = absurd (told_no_line x.input h.hears.number answer text h.hears.heard line)
    go (By_answer d waits heard) = h.children.told d j c p waits (its c reads) names

  granted : (mode : Mode) (lver : ℕ) → next_of_lease x.setting (seen x) s at aim m step answer ≡ GrantJob mode lver → (c : Option Command) → command_numbered x.setting (seen x) j ≡ c
      → MadeSoFar (with_some c (λ d. grant_for s j d mode lver) x)
  granted mode lver is None none = fresh_made x h.fresh
  granted mode lver is (Some c) reads =
      grant_made x s j c mode lver h.fresh (record {
        from = from;
        told = λ p names. told c p reads names;
        starts = λ r shared path same. (
          inr (its c reads),
          program_mode x s m answer j step aim mode lver h.known h.hears h.purpose h.aims is r shared path (reads ∙ ap (λ d. Some d) same),
        );
      })

  by : (k : LeaseNext) → next_of_lease x.setting (seen x) s at aim m step answer ≡ k → MadeSoFar (carry_lease s at (ForJob j) k x)
  by No_lease is = lease_made x s at j No_lease h.fresh from tt
  by (ReadFor q) is = lease_made x s at j (ReadFor q) h.fresh from tt
  by (WriteBlock q b) is = lease_made x s at j (WriteBlock q b) h.fresh from tt
  by (WriteLeader q l) is = lease_made x s at j (WriteLeader q l) h.fresh from tt
  by (AnswerJob r) is = lease_made x s at j (AnswerJob r) h.fresh from tt
  by (GrantJob mode lver) is = granted mode lver is (command_numbered x.setting (seen x) j) refl
  by (BecomeShared lver l) is = converted_made x s at j Shared lver (Lease Settling FreeLeader) (λ z. leader_offset at.base) (λ z. WriteRecord (leader_record z.setting.layout l)) h.fresh refl (λ c p reads names. told c p reads names)
  by (BecomeExclusive lver b) is =
      converted_made x s at j Exclusive lver (Lease Settling ClearMode) (λ z. block_place z.setting.layout at.base s.id (next_turn z.setting (seen z) s at))
      (λ z. WriteRecord (block_record z.setting.layout (next_turn z.setting (seen z) s at) s.lockspace (name_on z.setting (seen z) s at) b)) h.fresh refl (λ c p reads names. told c p reads names)

-- ---- the read of a request

-- What the read showed lets the request pass.
pub not_refused : (g : Layout) (space : List ℕ) (r : ResourceArg) (asked force : ℕ) (bytes : List ℕ) → request_refusal g space r asked force bytes ≡ None → IsAccepted g bytes asked force
unfolding request_refusal
not_refused g space r asked force bytes = by (leader_of g bytes) refl where
  zero_of : (n : ℕ) → not (n == 0) ≡ false → n ≡ 0
  zero_of n is = eqb-true n 0 (by_bool (n == 0) is) where
    by_bool : (b : Bool) → not b ≡ false → b ≡ true
    by_bool true k = refl
    by_bool false k = absurd (true_is_false k)

  true_of : (b : Bool) → not b ≡ false → b ≡ true
  true_of true k = refl
  true_of false k = absurd (true_is_false k)

  by_record : (l : Leader) → leader_of g bytes ≡ Some l → (o : Option RequestRec) → request_in (read_at g bytes 1) ≡ o
      → elim o as (λ q. Option Reply) [ None ↦ choose (not (asked == 0)) (RequestOld l.lver None) | Some q ↦ choose (not (check_request l.lver q.lver asked force)) (RequestOld l.lver (Some q.lver)) ] ≡ None
      → IsAccepted g bytes asked force
  by_record l there None at none =
      (l, there, subst (λ o. elim o as (λ z. Type 0) [ None ↦ asked ≡ 0 | Some q ↦ IsTrue (check_request l.lver q.lver asked force) ]) (sym at) (zero_of asked (choose_none (not (asked == 0)) (RequestOld l.lver None) none)))
  by_record l there (Some q) at none = (
    l,
    there,
    subst (λ o. elim o as (λ z. Type 0) [ None ↦ asked ≡ 0 | Some k ↦ IsTrue (check_request l.lver k.lver asked force) ]) (sym at)
        (true_of (check_request l.lver q.lver asked force) (choose_none (not (check_request l.lver q.lver asked force)) (RequestOld l.lver (Some q.lver)) none)),
  )

  by_name : (l : Leader) → leader_of g bytes ≡ Some l → (b : Bool)
      → elim b as (λ q. Option Reply) [
        | false ↦ Some (WrongArea l.lockspace l.resource l.num_hosts)
        | true ↦ elim (request_in (read_at g bytes 1)) as (λ q. Option Reply) [
          | None ↦ choose (not (asked == 0)) (RequestOld l.lver None)
          | Some q ↦ choose (not (check_request l.lver q.lver asked force)) (RequestOld l.lver (Some q.lver))
        ]
      ] ≡ None
      → IsAccepted g bytes asked force
  by_name l there false none = absurd (none_some (WrongArea l.lockspace l.resource l.num_hosts) (sym none))
  by_name l there true none = by_record l there (request_in (read_at g bytes 1)) refl none

  by : (o : Option Leader) → leader_of g bytes ≡ o
      → elim o as (λ q. Option Reply) [
        | None ↦ Some TornLeader
        | Some l ↦ elim (is_leader_of g space r.name l) as (λ q. Option Reply) [
          | false ↦ Some (WrongArea l.lockspace l.resource l.num_hosts)
          | true ↦ elim (request_in (read_at g bytes 1)) as (λ q. Option Reply) [
            | None ↦ choose (not (asked == 0)) (RequestOld l.lver None)
            | Some q ↦ choose (not (check_request l.lver q.lver asked force)) (RequestOld l.lver (Some q.lver))
          ]
        ]
      ] ≡ None
      → IsAccepted g bytes asked force
  by None torn none = absurd (none_some TornLeader (sym none))
  by (Some l) there none = by_name l there (is_leader_of g space r.name l) none

pub asked_made : (x : Step) (s : Session) (m : Submitted) (j : ℕ) (bytes : List ℕ) (c : Command) → Whole x → Fresh x → Hears x s m (Read bytes) → m.call.purpose ≡ RequestRead j → command_numbered x.setting (seen x) j ≡ Some c
    → MadeSoFar (after_request_read s j bytes c x)
unfolding after_request_read
asked_made x s m j bytes (Request r asked force) h f hears purpose reads = by (request_refusal x.setting.layout s.lockspace r asked force bytes) refl where
  by : (o : Option Reply) → request_refusal x.setting.layout s.lockspace r asked force bytes ≡ o
      → MadeSoFar (elim o as (λ z. Step) [ Some why ↦ add_reply j why x | None ↦ write_request s j (owner_read x.setting.layout bytes) r asked force x ])
  by (Some why) is = fresh_made (add_reply j why x) (record { bare = f.bare; ungranted = f.ungranted; jobless = f.jobless })
  by None is =
      let w = heard_before x s m (Read bytes) h hears in
      let same : w.0.call ≡ m.call = sym (same_answered x.past (entry_of x) hears.number (Read bytes) w.0).call ∙ ap (λ (d : Submitted). d.call) w.1.marked in
      one_call x s.number r.path (RequestWrite j (owner_read x.setting.layout bytes)) _ _ f (record {
        read = w.0;
        there = w.1.inside;
        opens = w.1.opened;
        for = ap (λ (d : Call). d.purpose) same ∙ purpose;
        bytes = bytes;
        input = hears.heard ∙ ap (λ n. Told n (Read bytes)) (sym w.1.number);
        resource = r;
        asked = asked;
        force = force;
        command = sym (command_before x j (told_no_text x hears.number (Read bytes) hears.heard)) ∙ reads;
        accepted = not_refused x.setting.layout s.lockspace r asked force bytes is;
        written = record { force = force; host = (if asked == 0 then 0 else s.id); lver = asked };
        writes = (refl, refl, refl);
      })
asked_made x s m j bytes (AddLockspace a) h f hears purpose reads = fresh_made x f
asked_made x s m j bytes (RemLockspace a) h f hears purpose reads = fresh_made x f
asked_made x s m j bytes (InqLockspace a) h f hears purpose reads = fresh_made x f
asked_made x s m j bytes (HostStatus a) h f hears purpose reads = fresh_made x f
asked_made x s m j bytes (Acquire r shared p persistent) h f hears purpose reads = fresh_made x f
asked_made x s m j bytes (TakeOver r shared p persistent) h f hears purpose reads = fresh_made x f
asked_made x s m j bytes (Release r p) h f hears purpose reads = fresh_made x f
asked_made x s m j bytes (ReleaseOrphan r) h f hears purpose reads = fresh_made x f
asked_made x s m j bytes (Convert r shared p) h f hears purpose reads = fresh_made x f
asked_made x s m j bytes (RunProgram r shared path) h f hears purpose reads = fresh_made x f
asked_made x s m j bytes (GetLvb r p) h f hears purpose reads = fresh_made x f
asked_made x s m j bytes (SetLvb r p set) h f hears purpose reads = fresh_made x f
asked_made x s m j bytes (SetKillpath p path) h f hears purpose reads = fresh_made x f
asked_made x s m j bytes Status h f hears purpose reads = fresh_made x f
