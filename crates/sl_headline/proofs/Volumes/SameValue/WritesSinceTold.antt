-- A write of the group's value that was answered after a version was told came after the write of that version.
use Rattle.sl_area.specs.AreaSizes.{Layout}
use Rattle.sl_area.specs.AreaLayout.{value_offset}
use Rattle.sl_safety.proofs.Resources.Calls.{IsOwned, found_of, owned, owner_found, there_sent}
use Rattle.sl_safety.proofs.Resources.StepsNameEntries.{call_timed}
use Rattle.sl_safety.specs.Resources.SentCalls.{Sent, sender_of}
use Rattle.sl_id_safety.proofs.State.TraceBridge.{falls_below}
use Rattle.sl_id_safety.proofs.State.CallLaws.{is_place}
use Rattle.sl_id_safety.proofs.Steps.OtherSessions.{goes_has}
use Rattle.sl_run.specs.Runs.{Happening}
use Rattle.sl_run.specs.Safety.{Found, LawfulRun, SessionId, world_at}
use Rattle.sl_run.specs.Values.{IsSet}
use Rattle.sl_run.specs.Worlds.{Course, Daemon, Machine, Program, Stamp, World, is_open, machine_at, world_with}
use Rattle.sl_run.specs.declared.header.Header.{Header}
use Rattle.sl_run_law.proofs.Front.RunsFromFronts.{fronts_are_lawful, run_after}
use Rattle.sl_run_law.proofs.Moment.MachinesInOrder.{machines_ordered}
use Rattle.sl_run_law.proofs.Place.FoundInLists.{place_is}
use Rattle.sl_run_law.proofs.Place.TracesOnMachines.{layout_is}
use Rattle.sl_run_law.proofs.CoursesGoOn.{run_tracks}
use Rattle.sl_run_law.specs.CoursesGoOn.{Continues}
use Rattle.sl_safety.proofs.Value.WritesAreBarred.{none_between}
use Rattle.sl_safety.proofs.Value.CallsCome.{WasThere, calls_come}
use Rattle.sl_safety.proofs.Value.ReaderFronts.{reader_there}
use Rattle.sl_safety.proofs.Value.ValueLaws.{holders_keep_values, one_writes_value, values_are_last}
use Rattle.sl_safety.proofs.Value.ReaderCalls.{Reader, given_to, is_own}
use Rattle.sl_safety.specs.Value.ValueWrites.{WritesValue}
use Rattle.sl_sector.specs.declared.sector.Rec.TheVariants.{ValueIs}
use Rattle.sl_sector.specs.declared.sector.ValueRec.{ValueRec}
use Rattle.sl_trace.specs.Traces.{Trace, record_of}
use Rattle.sl_trace.specs.declared.effects.Call.{Call}
use Rattle.sl_trace.specs.declared.effects.Spot.{Spot}
use Rattle.sl_headline.proofs.Volumes.SameValue.AnswersCame.{CameBefore, all_came, open_then}
use Rattle.sl_headline.proofs.Volumes.SameValue.FirstIsUnset.{first_is_unset}
use Rattle.sl_headline.proofs.Volumes.SameValue.ToldVersions.{IsRead, IsWritten, value_spot}
use Rattle.sl_headline.proofs.Volumes.SameValue.Versions.{has_seq, one_version}
use Rattle.sl_words.proofs.CaseLaws.{one_value, some_value}
use Rattle.std.proofs.Common.{ap, arith, inl, inr, subst, sym, ◌∙◌}
use Rattle.std.proofs.lemmas.List.{append_assoc}
use Rattle.std.specs.Prelude.{Contains, List, Some, true, ℕ, ◌++◌, ◌+◌, ◌<◌, ◌≡◌, ◌≤◌}

-- ---- calls later and before

-- A call of a front is there later.
record IsLater (w : World) (m : ℕ) (c : Course) : Type 0 where
  machine : Machine
  at : machine_at w m ≡ Some machine
  course : Course
  has : Contains machine.calls course
  goes : Continues c course

is_later : (p : Program) (h : Header) (now rest : List Happening) (m : ℕ) (a : Machine) (c : Course) → machine_at (world_at p h now) m ≡ Some a → Contains a.calls c → IsLater (world_at p h (now ++ rest)) m c
is_later p h now rest m a c at has =
    let t = run_tracks (world_at p h now) rest m a at in
    let k = goes_has a.calls t.0.calls c t.2.calls has in
    record {
      machine = t.0;
      at = ap (λ (w : World). machine_at w m) (run_after (world_with p h) now rest) ∙ t.1;
      course = k.0;
      has = k.1;
      goes = k.2;
    }

-- So is a write of a value.
set_later : (p : Program) (h : Header) (now rest : List Happening) (at : Spot) (m : ℕ) (a : Machine) (c : Course) (v : ValueRec) → machine_at (world_at p h now) m ≡ Some a → Contains a.calls c
    → record_of c.call.op ≡ Some (ValueIs v) → c.call.path ≡ at.path → c.call.offset ≡ value_offset (world_at p h now).layout at.base
    → (l : IsLater (world_at p h (now ++ rest)) m c) × IsSet (world_at p h (now ++ rest)) at l.course v
set_later p h now rest at m a c v there has writes path offset =
    let l = is_later p h now rest m a c there has in
    let layout : (world_at p h now).layout ≡ (world_at p h (now ++ rest)).layout = layout_is p h now ∙ sym (layout_is p h (now ++ rest)) in (
      l,
      record {
        machine = (m, l.machine, l.at, l.has);
        value = ap (λ (y : Call). record_of y.op) l.goes.call ∙ writes;
        place = is_place l.course.call.path l.course.call.offset at.path (value_offset (world_at p h (now ++ rest)).layout at.base) (ap (λ (y : Call). y.path) l.goes.call ∙ path)
            (ap (λ (y : Call). y.offset) l.goes.call ∙ offset ∙ ap (λ (g : Layout). value_offset g at.base) layout);
      },
    )

late_by : (n s k : ℕ) → n < s → s < k → k ≡ n + 1 → ⊥
late_by n s k h e f = omega (arith, h, e, f)

-- What was made before an answer was there at the front before it.
there_then : (p : Program) (h : Header) (now rest : List Happening) → LawfulRun p h (now ++ rest) → (m : ℕ) (a : Machine) (c : Course) → machine_at (world_at p h (now ++ rest)) m ≡ Some a
    → Contains a.calls c → (step : ℕ) → step ≡ (world_at p h now).step + 1 → c.made.step < step → WasThere (world_at p h now) m c
there_then p h now rest run m a c at has step is made =
    elim (calls_come p h now rest run m a c at has) as (λ z. WasThere (world_at p h now) m c) [
      | inl b ↦ b
      | inr late ↦ absurd (late_by (world_at p h now).step c.made.step step late made is)
    ]

-- It was made before that front.
made_then : (p : Program) (h : Header) (now : List Happening) → LawfulRun p h now → (m : ℕ) (c : Course) → (b : WasThere (world_at p h now) m c) → c.made.step < (world_at p h now).step
made_then p h now run m c b =
    subst (λ (s : Stamp). s.step < (world_at p h now).step) (sym b.made)
    (falls_below (world_at p h now).step b.machine.calls b.course (machines_ordered p h now run m b.machine b.at).calls b.has).0

-- ---- a write in flight at a front

record Flies (p : Program) (h : Header) (now : List Happening) (at : Spot) (m : ℕ) (c : Course) : Type 0 where
  course : Course
  made : c.made ≡ course.made
  found : Found
  writes : WritesValue (world_at p h now) (sender_of (record { machine = m; course = course })) found at course

flies : (p : Program) (h : Header) (now : List Happening) → LawfulRun p h now → (at : Spot) (m : ℕ) (c : Course) (v : ValueRec) → record_of c.call.op ≡ Some (ValueIs v)
    → c.call.path ≡ at.path → c.call.offset ≡ value_offset (world_at p h now).layout at.base → (b : WasThere (world_at p h now) m c) → is_open b.machine b.course ≡ true → Flies p h now at m c
flies p h now run at m c v says path offset b opens =
    let w : World = world_at p h now in
    let x : Sent = record { machine = m; course = b.course } in
    let k : IsOwned w x = owned p h now run x (there_sent w m b.machine b.course b.at b.has) in
    let machine : k.there.machine ≡ b.machine = one_value k.there.machine b.machine (machine_at w m) k.there.at b.at in
    record {
      course = b.course;
      made = b.made;
      found = found_of k;
      writes = record {
        is = owner_found w x k;
        has = k.there.has;
        own = is_own b.course m;
        value = v;
        writes = ap (λ (z : Call). record_of z.op) (sym b.call) ∙ says;
        place = is_place b.course.call.path b.course.call.offset at.path (value_offset w.layout at.base) (ap (λ (z : Call). z.path) (sym b.call) ∙ path)
            (ap (λ (z : Call). z.offset) (sym b.call) ∙ offset);
        flies = subst (λ (z : Machine). is_open z b.course ≡ true) (sym machine) opens;
      };
    }

-- ---- a write that was answered later

-- A write of the value by machine k, answered at a stamp.
pub record AnsweredLate (p : Program) (h : Header) (ws : List Happening) (at : Spot) (k : ℕ) (d : Course) (s : Stamp) : Type 0 where
  pub machine : Machine
  pub there : machine_at (world_at p h ws) k ≡ Some machine
  pub has : Contains machine.calls d
  pub value : ValueRec
  pub writes : record_of d.call.op ≡ Some (ValueIs value)
  pub path : d.call.path ≡ at.path
  pub offset : d.call.offset ≡ value_offset (world_at p h ws).layout at.base
  pub answered : d.answered ≡ Some s

-- At a front between its making and its answer it is in flight.
flew : (p : Program) (h : Header) (now rest : List Happening) → LawfulRun p h (now ++ rest) → (at : Spot) (k : ℕ) (d : Course) (s : Stamp) → AnsweredLate p h (now ++ rest) at k d s
    → WasThere (world_at p h now) k d → (world_at p h now).step < s.step → Flies p h now at k d
flew p h now rest run at k d s l b late =
    let layout : (world_at p h (now ++ rest)).layout ≡ (world_at p h now).layout = layout_is p h (now ++ rest) ∙ sym (layout_is p h now) in
    flies p h now (fronts_are_lawful p h now rest run) at k d l.value l.writes l.path (l.offset ∙ ap (λ (g : Layout). value_offset g at.base) layout) b
    (open_then p h now rest run k l.machine d l.there l.has s l.answered late b)

below : (n t s : ℕ) → t ≡ n + 1 → t < s → n < s
below n t s e h = omega (arith, e, h)

just : (n t : ℕ) → t ≡ n + 1 → n < t
just n t e = omega (arith, e)

at_most : (a b c d : ℕ) → a ≤ b → b ≡ c → c < d → a < d
at_most a b c d h e f = omega (arith, h, e, f)

-- ---- beside a reader

reader_bars : (p : Program) (h : Header) (now rest : List Happening) → LawfulRun p h (now ++ rest) → (at : Spot) (i : SessionId) (f : Found) (r : Course) (v : ValueRec) (stamp : Stamp)
    → Reader p h now at i f r v stamp → r.call.path ≡ at.path → r.call.offset ≡ value_offset (world_at p h now).layout at.base → CameBefore p h now stamp
    → (k : ℕ) (d : Course) (s : Stamp) → AnsweredLate p h (now ++ rest) at k d s → d.made.step < stamp.step → stamp.step < s.step → ⊥
reader_bars p h now rest run at i f r v stamp R path offset came k d s l early late =
    let front : List Happening = came.before in
    let n : ℕ = (world_at p h front).step in
    let whole : now ++ rest ≡ front ++ (came.rest ++ rest) = ap (λ ys. ys ++ rest) came.whole ∙ append_assoc front came.rest rest in
    let more : LawfulRun p h (front ++ (came.rest ++ rest)) = subst (λ ys. LawfulRun p h ys) whole run in
    let mid : LawfulRun p h (front ++ came.rest) = subst (λ ys. LawfulRun p h ys) came.whole R.own.run in
    let first : LawfulRun p h front = fronts_are_lawful p h front came.rest mid in
    let q : AnsweredLate p h (front ++ (came.rest ++ rest)) at k d s = subst (λ ys. AnsweredLate p h ys at k d s) whole l in
    let b = there_then p h front (came.rest ++ rest) more k q.machine d q.there q.has stamp.step came.step early in
    let w = flew p h front (came.rest ++ rest) more at k d s q b (below n stamp.step s.step came.step late) in
    let timed : r.made.step < stamp.step = (call_timed p h now R.own.run i.machine f.machine r R.own.known.there.at R.own.there).answered stamp R.answered in
    let c = there_then p h front came.rest mid i.machine f.machine r
    (subst (λ ys. machine_at (world_at p h ys) i.machine ≡ Some f.machine) came.whole R.own.known.there.at) R.own.there stamp.step came.step timed in
    let t = reader_there p h now front came.rest at i f r v stamp R came.whole (made_then p h front first i.machine r c) (just n stamp.step came.step) in
    none_between holders_keep_values p h now front at i f r v stamp R t path offset (sender_of (record { machine = k; course = w.course })) w.found w.course w.writes

-- After a version was read, no write that came no later than that of the version is answered.
pub read_bars : (p : Program) (h : Header) (now rest : List Happening) → LawfulRun p h (now ++ rest) → (m : ℕ) (group : List ℕ) (lver seq : ℕ) (x : Daemon) (past : Trace)
    → (g : IsRead p h now m group lver seq x past) → (e : Course) (v : ValueRec) → IsSet (world_at p h (now ++ rest)) (value_spot h.geometry.area group) e v → v.lver ≡ lver → v.seq ≡ seq
    → (k : ℕ) (d : Course) (s : Stamp) → AnsweredLate p h (now ++ rest) (value_spot h.geometry.area group) k d s → d.made.step ≤ e.made.step → g.stamp.step < s.step → ⊥
read_bars p h now rest run m group lver seq x past g e v set same_lver same_seq k d s l le late =
    let at : Spot = value_spot h.geometry.area group in
    let u : World = world_at p h now in
    let front : LawfulRun p h now = fronts_are_lawful p h now rest run in
    let may = values_are_last p h now front at g.course g.stamp.step g.value g.given in
    let place = place_is g.course.call.path g.course.call.offset at.path (value_offset u.layout at.base) g.given.place in
    elim may.1 as (λ z. ⊥) [
      | inl written ↦
          let c : Course = written.0 in
          let q = written.1.machine in
          let there = place_is c.call.path c.call.offset at.path (value_offset u.layout at.base) written.1.place in
          let later = set_later p h now rest at q.0 q.1 c _ q.2 q.3 written.1.value there.0 there.1 in
          let one = one_version p h (now ++ rest) run at e later.0.course v _ set later.1 (same_lver ∙ sym g.version.0) (same_seq ∙ sym g.version.1) in
          let made : e.made.step ≡ c.made.step = ap (λ (y : Course). y.made.step) one.1 ∙ ap (λ (y : Stamp). y.step) later.0.goes.made in
          let t = given_to p h now front at g.course g.stamp.step g.value g.given in
          let when : t.stamp.step ≡ g.stamp.step = t.when in
          let stamp : t.stamp ≡ g.stamp = some_value t.stamp g.stamp (sym t.reader.answered ∙ g.answered) in
          reader_bars p h now rest run at t.session t.found g.course g.value t.stamp t.reader place.0 place.1
          (subst (λ y. CameBefore p h now y) (sym stamp) (all_came p h now front m g.machine g.course g.stamp g.at g.has g.answered))
          k d s l (subst (λ n. d.made.step < n) (sym when) (at_most d.made.step e.made.step c.made.step g.stamp.step le made written.2))
          (subst (λ n. n < s.step) (sym when) late)
      | inr first ↦
          has_seq p h (now ++ rest) run at e v set
          (same_seq ∙ sym g.version.1 ∙ first_is_unset p h now front at.path (value_offset u.layout at.base) _ first.0)
    ]

-- ---- beside a writer

pub write_bars : (p : Program) (h : Header) (now rest : List Happening) → LawfulRun p h (now ++ rest) → (m : ℕ) (group : List ℕ) (lver seq : ℕ)
    → (g : IsWritten p h now m group lver seq) → (e : Course) (v : ValueRec) → IsSet (world_at p h (now ++ rest)) (value_spot h.geometry.area group) e v → v.lver ≡ lver → v.seq ≡ seq
    → (k : ℕ) (d : Course) (s : Stamp) → AnsweredLate p h (now ++ rest) (value_spot h.geometry.area group) k d s → d.made.step ≤ e.made.step → g.stamp.step < s.step → k ≡ m
write_bars p h now rest run m group lver seq g e v set same_lver same_seq k d s l le late =
    let at : Spot = value_spot h.geometry.area group in
    let whole : LawfulRun p h now = fronts_are_lawful p h now rest run in
    let later = set_later p h now rest at m g.machine g.course g.value g.at g.has g.writes g.path g.offset in
    let one = one_version p h (now ++ rest) run at e later.0.course v g.value set later.1 (same_lver ∙ sym g.version.0) (same_seq ∙ sym g.version.1) in
    let made : e.made.step ≡ g.course.made.step = ap (λ (y : Course). y.made.step) one.1 ∙ ap (λ (y : Stamp). y.step) later.0.goes.made in
    let timed : g.course.made.step < g.stamp.step = (call_timed p h now whole m g.machine g.course g.at g.has).answered g.stamp g.answered in
    let came = all_came p h now whole m g.machine g.course g.stamp g.at g.has g.answered in
    let front : List Happening = came.before in
    let n : ℕ = (world_at p h front).step in
    let parts : now ++ rest ≡ front ++ (came.rest ++ rest) = ap (λ ys. ys ++ rest) came.whole ∙ append_assoc front came.rest rest in
    let more : LawfulRun p h (front ++ (came.rest ++ rest)) = subst (λ ys. LawfulRun p h ys) parts run in
    let mid : LawfulRun p h (front ++ came.rest) = subst (λ ys. LawfulRun p h ys) came.whole whole in
    let first : LawfulRun p h front = fronts_are_lawful p h front came.rest mid in
    let q : AnsweredLate p h (front ++ (came.rest ++ rest)) at k d s = subst (λ ys. AnsweredLate p h ys at k d s) parts l in
    let b = there_then p h front (came.rest ++ rest) more k q.machine d q.there q.has g.stamp.step came.step (at_most d.made.step e.made.step g.course.made.step g.stamp.step le made timed) in
    let other = flew p h front (came.rest ++ rest) more at k d s q b (below n g.stamp.step s.step came.step late) in
    let own : AnsweredLate p h (front ++ came.rest) at m g.course g.stamp =
    subst (λ ys. AnsweredLate p h ys at m g.course g.stamp) came.whole
    (record { machine = g.machine; there = g.at; has = g.has; value = g.value; writes = g.writes; path = g.path; offset = g.offset; answered = g.answered }) in
    let c = there_then p h front came.rest mid m own.machine g.course own.there own.has g.stamp.step came.step timed in
    let its = flew p h front came.rest mid at m g.course g.stamp own c (just n g.stamp.step came.step) in
    let same = one_writes_value p h front first _ _ other.found its.found at other.course its.course other.writes its.writes in
    ap (λ (z : SessionId). z.machine) same.0
