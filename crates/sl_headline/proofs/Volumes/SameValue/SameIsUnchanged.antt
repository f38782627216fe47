-- Where lvmlockd is told that a group's value is the one that it knows, no other machine's write of it was answered since it was told.
use Rattle.sl_area.specs.AreaSizes.{Layout}
use Rattle.sl_area.specs.AreaLayout.{value_offset}
use Rattle.sl_safety.proofs.Sessions.OrderedFronts.{steps_grow}
use Rattle.sl_id_safety.proofs.State.CallLaws.{is_place}
use Rattle.sl_run.specs.LockNames.{group_lock, group_path, resource_of}
use Rattle.sl_run.specs.Lvm.{Lvm, SeenValue, is_seen, lock_process}
use Rattle.sl_words.proofs.Lists.{any_found, contains_first, next_before}
use Rattle.sl_run.specs.Inputs.{machine_of}
use Rattle.sl_run.specs.LvmPromises.{HasSeen, IsSetElsewhere, TellsSame}
use Rattle.sl_run.specs.Runs.{AfterEachFront, Happening}
use Rattle.sl_run.specs.Safety.{LawfulRun, world_at}
use Rattle.sl_run.specs.Values.{IsSet, IsSetBefore}
use Rattle.sl_run.specs.Worlds.{Course, Daemon, Machine, Program, Stamp, World, daemons_on, machine_at, world_with}
use Rattle.sl_run.specs.declared.header.Header.{Header}
use Rattle.sl_run_law.proofs.Course.Daemons.{daemons_are}
use Rattle.sl_run_law.proofs.Course.EntriesAreStamped.{entries_are_stamped}
use Rattle.sl_run_law.proofs.Front.RunsFromFronts.{last_event, run_after}
use Rattle.sl_run_law.proofs.Landing.CallsOfStep.{event_makes}
use Rattle.sl_run_law.proofs.Place.FoundInLists.{place_is}
use Rattle.sl_run_law.proofs.Place.TracesOnMachines.{layout_is}
use Rattle.sl_run_law.proofs.Watchdog.Stamps.{same_length}
use Rattle.sl_run_law.specs.Course.CallStamps.{stamp_in}
use Rattle.sl_safety.proofs.Value.ValueLaws.{values_are_last}
use Rattle.sl_safety.proofs.RunsAreSafe.{volumes_exclude}
use Rattle.sl_sector.specs.declared.sector.Rec.TheVariants.{ValueIs}
use Rattle.sl_sector.specs.declared.sector.ValueRec.{ValueRec}
use Rattle.sl_trace.specs.Traces.{Trace, record_of}
use Rattle.sl_trace.specs.declared.command.Command.TheVariants.{GetLvb, SetLvb}
use Rattle.sl_trace.specs.declared.effects.Call.{Call}
use Rattle.sl_trace.specs.declared.effects.Spot.{Spot}
use Rattle.sl_headline.proofs.Volumes.DueCallsFit.{due_runs_are_answered}
use Rattle.sl_headline.proofs.Volumes.EntriesAtFronts.{answered_front}
use Rattle.sl_headline.proofs.Volumes.MachineLocks.{asks_are_few}
use Rattle.sl_headline.proofs.Volumes.OneVersion.{versions_are_known_once}
use Rattle.sl_headline.proofs.Volumes.SameValue.AnswersCame.{all_done, answered_past}
use Rattle.sl_headline.proofs.Volumes.SameValue.ComparingEvent.{compares}
use Rattle.sl_headline.proofs.Volumes.SameValue.ToldVersions.{is_read, is_written, value_spot}
use Rattle.sl_headline.proofs.Volumes.SameValue.WritesSinceTold.{AnsweredLate, read_bars, write_bars}
use Rattle.sl_headline.proofs.Volumes.VersionsWereTold.{versions_were_told}
use Rattle.sl_headline.proofs.Volumes.LocksAreHeld.{locks_are_held}
use Rattle.sl_headline.proofs.Volumes.ToldVolumes.{told_volumes_exclude}
use Rattle.sl_headline.specs.Volumes.FittingRuns.{AnsweredRun, IsJobOf}
use Rattle.sl_headline.specs.Volumes.SameInRuns.{SameIsUnchangedInRuns, VolumesAreSafeInRuns, VolumesAreSafeWhenDue}
use Rattle.sl_headline.specs.Volumes.VersionsWereTold.{IsTold, WasTold}
use Rattle.sl_words.proofs.CaseLaws.{one_value, some_value}
use Rattle.sl_words.proofs.WordLaws.{and_true}
use Rattle.std.proofs.Common.{ap, arith, inl, inr, refl, subst, sym, ◌∙◌}
use Rattle.std.proofs.lemmas.Bool.{cases_lt, eq-eqb, eqb-true}
use Rattle.std.proofs.lemmas.List.{append-nil, append_assoc}
use Rattle.std.proofs.lemmas.Slice.Eq.{bytes_eq-Decides}
use Rattle.std.specs.Prelude.{Contains, IsSomeAnd, List, Option, Some, [], bytes_eq, false, length, suc, true, ℕ, ◌&&◌, ◌*◌, ◌++◌, ◌+◌, ◌<◌, ◌==◌, ◌∷◌, ◌≡◌, ◌≤◌}

-- ---- a call of another machine

record Kept (w : World) (k : ℕ) (c : Course) : Type 0 where
  machine : Machine
  at : machine_at w k ≡ Some machine
  course : Course
  has : Contains machine.calls course
  call : course.call ≡ c.call
  made : course.made ≡ c.made
  answered : course.answered ≡ c.answered
  done : course.done ≡ c.done

-- An event of one machine leaves the answers of another's calls.
kept_elsewhere : (p : Program) (h : Header) (now : List Happening) (x : Happening) → LawfulRun p h (now ++ x ∷ []) → (k : ℕ) (b : Machine) (c : Course) → machine_at (world_at p h now) k ≡ Some b
    → Contains b.calls c → (k ≡ machine_of x.0 → ⊥) → Kept (world_at p h (now ++ x ∷ [])) k c
kept_elsewhere p h now x run k b c at has other =
    let w : World = world_at p h now in
    let last = last_event p h now x run in
    let q = event_makes w x.0 last.effects last.may k b at in
    let t = q.2.turned.forth c has in
    let u = q.2.stepped.forth t.0 t.1 in
    let same : (u.0.answered ≡ t.0.answered) × (u.0.done ≡ t.0.done) =
    elim u.2.answer as (λ z. (u.0.answered ≡ t.0.answered) × (u.0.done ≡ t.0.done)) [ inl both ↦ both | inr told ↦ absurd (other told.here) ] in
    record {
      machine = q.0;
      at = ap (λ (v : World). machine_at v k) last.after ∙ q.1;
      course = u.0;
      has = u.1;
      call = u.2.call ∙ t.2.call;
      made = u.2.made ∙ t.2.made;
      answered = same.0 ∙ t.2.answered;
      done = same.1 ∙ t.2.done;
    }

-- ---- what is known

-- A version that is known.
record Known (m : Lvm) (group : List ℕ) (lver seq : ℕ) : Type 0 where
  value : SeenValue
  has : Contains m.seen value
  group_is : value.group ≡ group
  lver_is : value.lver ≡ lver
  seq_is : value.seq ≡ seq

known : (m : Lvm) (group : List ℕ) (lver seq : ℕ) → is_seen m group lver seq ≡ true → Known m group lver seq
known m group lver seq is =
    let f = any_found (λ (v : SeenValue). bytes_eq v.group group && v.lver == lver && v.seq == seq) m.seen is in
    let v : SeenValue = f.0 in
    let two = and_true (bytes_eq v.group group && v.lver == lver) (v.seq == seq) f.2 in
    let one = and_true (bytes_eq v.group group) (v.lver == lver) two.0 in
    record {
      value = v;
      has = f.1;
      group_is = (bytes_eq-Decides v.group group).0 one.0;
      lver_is = eqb-true v.lver lver one.1;
      seq_is = eqb-true v.seq seq two.1;
    }

-- ---- the newest stamp

newest_is : (s t : Stamp) (ss : List Stamp) (n : ℕ) → n ≡ length ss → stamp_in (s ∷ ss) n ≡ Some t → t ≡ s
newest_is s t ss n is at =
    some_value t s (sym at ∙ ap (λ b. elim b as (λ z. Option Stamp) [ true ↦ Some s | false ↦ stamp_in ss n ]) (eq-eqb n (length ss) is))

one_shorter : (a b : ℕ) → suc a ≡ suc b → b ≡ a
one_shorter a b e = omega (arith, e)

-- ---- the law

before_step : (s n t : ℕ) → s < n → t ≡ n + 1 → s < t
before_step s n t h e = omega (arith, h, e)

told_early : (t n b s : ℕ) → t < n → n ≤ b → b ≤ s → t < s
told_early t n b s h e f = omega (arith, h, e, f)

-- A version that was told before, and one that is read now, are of one write: so no write of another machine was answered between.
no_other : (p : Program) (h : Header) (before during : List Happening) (y : Happening) → AnsweredRun p h ((before ++ during) ++ y ∷ []) → (m : ℕ) (group : List ℕ) (v : SeenValue) → v.group ≡ group
    → (t : WasTold p h before m v) → (e : Course) (r : ValueRec) → IsSet (world_at p h ((before ++ during) ++ y ∷ [])) (value_spot h.geometry.area group) e r
    → r.lver ≡ v.lver → r.seq ≡ v.seq → (k : ℕ) → (k ≡ m → ⊥) → (d : Course) (s : Stamp)
    → AnsweredLate p h ((before ++ during) ++ y ∷ []) (value_spot h.geometry.area group) k d s → d.made.step ≤ e.made.step → (world_at p h before).step ≤ s.step → ⊥
no_other p h before during y a m group v its t e r set lver seq k other d s l le late =
    let rest : List Happening = t.rest ++ (during ++ y ∷ []) in
    let whole : (before ++ during) ++ y ∷ [] ≡ t.now ++ rest =
    append_assoc before during (y ∷ []) ∙ ap (λ ys. ys ++ (during ++ y ∷ [])) t.whole ∙ append_assoc t.now t.rest (during ++ y ∷ []) in
    let all : AnsweredRun p h (t.now ++ rest) = subst (λ ys. AnsweredRun p h ys) whole a in
    let front : AnsweredRun p h t.now = answered_front p h t.now rest all in
    let there = subst (λ ys. IsSet (world_at p h ys) (value_spot h.geometry.area group) e r) whole set in
    let q = subst (λ ys. AnsweredLate p h ys (value_spot h.geometry.area group) k d s) whole l in
    let grows : (world_at p h t.now).step ≤ (world_at p h before).step =
    subst (λ ys. (world_at p h t.now).step ≤ (world_at p h ys).step) (sym t.whole)
    (subst (λ (w : World). (world_at p h t.now).step ≤ w.step) (sym (run_after (world_with p h) t.now t.rest)) (steps_grow (world_at p h t.now) t.rest)) in
    let o : IsTold (world_at p h t.now) h.geometry.area m v.group v.lver v.seq = t.told in
    let es : Trace = o.entry ∷ o.past in
    let on = runs_on o.machine o.daemon o.there.1 in
    elim o.tells as (λ z. ⊥) [
      | inl read ↦
          let g = is_read p h t.now front m group v.lver v.seq (record {
            machine = o.machine;
            at = o.there.0;
            daemon = o.daemon;
            has = on;
            entry = o.entry;
            past = o.past;
            whole = o.there.2;
            reply = o.reply;
            given = o.given;
            bytes = read.0;
            job = subst (λ n. IsJobOf o.daemon.setting es o.reply.job (GetLvb (resource_of h.geometry.area (group_lock n)) lock_process)) its read.1;
            says = read.2;
          }) in
          read_bars p h t.now rest all.run m group v.lver v.seq o.daemon o.past g e r there lver seq k d s q le
          (told_early g.stamp.step (world_at p h t.now).step (world_at p h before).step s.step (answered_past p h t.now front.run m g.machine g.course g.stamp g.at g.has g.answered) grows late)
      | inr wrote ↦
          let g = is_written p h t.now front m group v.lver v.seq (record {
            machine = o.machine;
            at = o.there.0;
            daemon = o.daemon;
            has = on;
            entry = o.entry;
            past = o.past;
            whole = o.there.2;
            reply = o.reply;
            given = o.given;
            job = subst (λ n. IsJobOf o.daemon.setting es o.reply.job (SetLvb (resource_of h.geometry.area (group_lock n)) lock_process (1 ∷ []))) its wrote.0;
            says = wrote.1;
          }) in
          other
          (write_bars p h t.now rest all.run m group v.lver v.seq g e r there lver seq k d s q le
          (told_early g.stamp.step (world_at p h t.now).step (world_at p h before).step s.step (answered_past p h t.now front.run m g.machine g.course g.stamp g.at g.has g.answered) grows late))
    ]
  where
    runs_on : (a : Machine) (d : Daemon) → a.daemon ≡ Some d → Contains (daemons_on a) d
    runs_on a d is =
        subst (λ ds. Contains ds d) (sym (daemons_are a d is)) (contains_first d a.ended)

area_is : (p : Program) (h : Header) (xs : List Happening) → (world_at p h xs).layout.area ≡ h.geometry.area
area_is p h xs = ap (λ (g : Layout). g.area) (layout_is p h xs)

-- The write of another machine, after the event.
set_after : (p : Program) (h : Header) (now : List Happening) (y : Happening) (group : List ℕ) (m k : ℕ) (c : Course) (u : ValueRec) → record_of c.call.op ≡ Some (ValueIs u)
    → c.call.path ≡ group_path group → c.call.offset ≡ value_offset (world_at p h now).layout ((group_lock group).number * (world_at p h now).layout.area)
    → (q : Kept (world_at p h (now ++ y ∷ [])) k c) → (s : Stamp) → c.answered ≡ Some s
    → AnsweredLate p h (now ++ y ∷ []) (value_spot h.geometry.area group) k q.course s
set_after p h now y group m k c u says path offset q s told =
    let layout : (world_at p h now).layout ≡ (world_at p h (now ++ y ∷ [])).layout = layout_is p h now ∙ sym (layout_is p h (now ++ y ∷ [])) in
    record {
      machine = q.machine;
      there = q.at;
      has = q.has;
      value = u;
      writes = ap (λ (z : Call). record_of z.op) q.call ∙ says;
      path = ap (λ (z : Call). z.path) q.call ∙ path;
      offset = ap (λ (z : Call). z.offset) q.call ∙ offset ∙ ap (λ n. value_offset (world_at p h now).layout ((group_lock group).number * n)) (area_is p h now)
          ∙ ap (λ (g : Layout). value_offset g ((group_lock group).number * h.geometry.area)) layout;
      answered = q.answered ∙ told;
    }

same_at : (p : Program) (h : Header) (before during : List Happening) (y : Happening) → AnsweredRun p h ((before ++ during) ++ y ∷ []) → (m : ℕ) (group : List ℕ) (lver seq : ℕ)
    → AfterEachFront during (λ now. HasSeen (world_at p h (before ++ now)) m group lver seq) → TellsSame (world_at p h (before ++ during)) y m group
    → (c : Course) → IsSetElsewhere (world_at p h (before ++ during)) m group c → (s : Stamp) → c.answered ≡ Some s → c.done ≡ true → (world_at p h before).step ≤ s.step → ⊥
same_at p h before during y a m group lver seq seen tells c elsewhere s told done late =
    let now : List Happening = before ++ during in
    let ws : List Happening = now ++ y ∷ [] in
    let w : World = world_at p h now in
    let v : World = world_at p h ws in
    let at : Spot = value_spot h.geometry.area group in
    let mid : AnsweredRun p h now = answered_front p h now (y ∷ []) a in
    let first : AnsweredRun p h before = answered_front p h before during mid in
    let k = compares p h now y a m group tells in
    let early : HasSeen (world_at p h before) m group lver seq = subst (λ ys. HasSeen (world_at p h ys) m group lver seq) (append-nil before) (seen [] during refl) in
    let old = known early.0.locks.lvm group lver seq early.2 in
    let t = versions_were_told p h before first m early.0 old.value early.1 old.has in
    let still : HasSeen w m group lver seq = seen during [] (sym (append-nil during)) in
    let one = known still.0.locks.lvm group lver seq still.2 in
    let same_machine : k.machine ≡ still.0 = one_value k.machine still.0 (machine_at w m) k.at still.1 in
    let two = known still.0.locks.lvm group k.lver k.seq (subst (λ (z : Machine). is_seen z.locks.lvm group k.lver k.seq ≡ true) same_machine k.seen) in
    let same : one.value ≡ two.value = versions_are_known_once p h now mid.run m still.0 still.1 one.value two.value one.has two.has (one.group_is ∙ sym two.group_is) in
    let lvers : k.lver ≡ old.value.lver = sym two.lver_is ∙ ap (λ (z : SeenValue). z.lver) (sym same) ∙ one.lver_is ∙ sym old.lver_is in
    let seqs : k.seq ≡ old.value.seq = sym two.seq_is ∙ ap (λ (z : SeenValue). z.seq) (sym same) ∙ one.seq_is ∙ sym old.seq_is in
    let g = is_read p h ws a m group k.lver k.seq k.told in
    let stamped = entries_are_stamped p h ws a.run m k.told.machine k.told.daemon k.told.at k.told.has in
    let long : length k.told.past ≡ length k.older =
    one_shorter (length k.older) (length k.told.past)
    (ap (λ (z : List Stamp). length z) (sym k.newest) ∙ same_length k.told.daemon.stamps k.told.daemon.trace stamped ∙ ap (λ (z : Trace). length z) k.told.whole) in
    let stamp : g.stamp ≡ k.stamp =
    newest_is k.stamp g.stamp k.older (length k.told.past) long (ap (λ ss. stamp_in ss (length k.told.past)) (sym k.newest) ∙ g.stamped) in
    let step : g.stamp.step ≡ w.step + 1 = ap (λ (z : Stamp). z.step) stamp ∙ k.step in
    let n : ℕ = elsewhere.machine.0 in
    let other : n ≡ m → ⊥ = elsewhere.machine.2 in
    let kept = kept_elsewhere p h now y a.run n elsewhere.machine.1 c elsewhere.machine.3 elsewhere.machine.4 (λ is. other (is ∙ tells.there.0)) in
    let place = place_is c.call.path c.call.offset (group_path group) (value_offset w.layout ((group_lock group).number * w.layout.area)) elsewhere.place in
    let l = set_after p h now y group m n c elsewhere.value.0 elsewhere.value.1 place.0 place.1 kept s told in
    let set : IsSet v at kept.course l.value =
    record {
      machine = (n, kept.machine, kept.at, kept.has);
      value = l.writes;
      place = is_place kept.course.call.path kept.course.call.offset at.path (value_offset v.layout at.base) l.path l.offset;
    } in
    let past : s.step < w.step = answered_past p h now mid.run n elsewhere.machine.1 c s elsewhere.machine.3 elsewhere.machine.4 told in
    let sooner : IsSetBefore kept.course g.stamp.step =
    (kept.done ∙ done, subst (λ o. IsSomeAnd o (λ (z : Stamp). z.step < g.stamp.step)) (sym l.answered) (before_step s.step w.step g.stamp.step past step)) in
    let may = values_are_last p h ws a.run at g.course g.stamp.step g.value g.given in
    elim may.1 as (λ z. ⊥) [
      | inl written ↦
          no_other p h before during y a m group old.value old.group_is t written.0 _ written.1 (g.version.0 ∙ lvers) (g.version.1 ∙ seqs) n other kept.course s l
          (written.3 kept.course l.value set sooner) late
      | inr none ↦ none.1 kept.course l.value set sooner
    ]

pub same_is_unchanged : SameIsUnchangedInRuns
same_is_unchanged p h xs r before during rest y m group lver seq whole seen tells c elsewhere done =
    let now : List Happening = before ++ during in
    let parts : xs ≡ (now ++ y ∷ []) ++ rest = whole ∙ sym (next_before now y rest) in
    let a : AnsweredRun p h (now ++ y ∷ []) = answered_front p h (now ++ y ∷ []) rest (subst (λ ys. AnsweredRun p h ys) parts r) in
    let mid : AnsweredRun p h now = answered_front p h now (y ∷ []) a in
    let s = all_done p h now mid.run elsewhere.machine.0 elsewhere.machine.1 c elsewhere.machine.3 elsewhere.machine.4 done in
    subst (λ o. IsSomeAnd o (λ (z : Stamp). z.step < (world_at p h before).step)) (sym s.1)
    (elim (cases_lt s.0.step (world_at p h before).step) as (λ z. s.0.step < (world_at p h before).step) [
      | inl early ↦ early
      | inr late ↦ absurd (same_at p h before during y a m group lver seq seen tells c elsewhere s.0 s.1 done late)
    ])

pub volumes_are_safe : VolumesAreSafeInRuns
volumes_are_safe p h xs r =
    record {
      exclusive = volumes_exclude p h xs r.run xs [] (sym (append-nil xs));
      few = asks_are_few p h xs r.run;
      same = same_is_unchanged p h xs r;
      held = locks_are_held p h xs r;
      told = told_volumes_exclude p h xs r;
    }

pub volumes_are_safe_when_due : VolumesAreSafeWhenDue
volumes_are_safe_when_due p h xs run reads due set = volumes_are_safe p h xs (due_runs_are_answered p h xs run reads due set)
