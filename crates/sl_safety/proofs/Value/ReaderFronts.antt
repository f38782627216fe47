-- A reader's session at a front between its call and its answer: it holds the resource there, and is not over.
use Rattle.sl_run_law.proofs.Course.MachinesMirror.{machines_mirror}
use Rattle.sl_run_law.proofs.Course.EntriesAreStamped.{entries_are_stamped}
use Rattle.sl_run_law.specs.Course.CallStamps.{IsStampOf, stamp_in}
use Rattle.sl_run_law.proofs.Front.RunsFromFronts.{fronts_are_lawful}
use Rattle.sl_safety.proofs.Grant.CallsOfFronts.{calls_grow}
use Rattle.sl_safety.proofs.Holding.StayingIsFreeless.{staying_is_freeless}
use Rattle.sl_id_safety.proofs.OverIsQuiet.{GoesOn, goes_on, old_stamp, over_is_quiet, stamp_before}
use Rattle.sl_run.specs.LawfulValue.{held_since}
use Rattle.sl_trace.specs.Leases.{holdings_on}
use Rattle.sl_run_law.proofs.Place.Looks.{made_below}
use Rattle.sl_words.proofs.Lists.{contains_first, find_inside, kept_inside}
use Rattle.sl_safety.proofs.Resources.Calls.{IsOwned, found_of, owned, owner_found, there_sent}
use Rattle.sl_safety.proofs.Resources.OwnBlocks.{session_as}
use Rattle.sl_safety.proofs.Resources.StepsNameEntries.{one_entry}
use Rattle.sl_safety.specs.Resources.SentCalls.{Sent, sender_of}
use Rattle.sl_run.specs.Runs.{Happening}
use Rattle.sl_run.specs.Safety.{Found, IsSession, LawfulRun, SessionId, is_course_of, is_over, session_of_world, setting_in, trace_of, world_at}
use Rattle.sl_run.specs.Worlds.{Course, Program, Stamp, World}
use Rattle.sl_run.specs.declared.header.Header.{Header}
use Rattle.sl_sector.specs.declared.sector.ValueRec.{ValueRec}
use Rattle.sl_run_law.proofs.Sessions.MarksStay.{marks_stay}
use Rattle.sl_trace.specs.Sessions.{calls_of, ended_after, is_active, is_call_of, is_free_purpose, is_joined, joined_after, leaving_job, recovery_of, refused_after, removed_after}
use Rattle.sl_trace.specs.declared.session.Session.{Session}
use Rattle.sl_trace.specs.Traces.{Setting, Submitted, Trace, submitted}
use Rattle.sl_trace.specs.declared.effects.Call.{Call}
use Rattle.sl_trace.specs.declared.effects.Grant.{Grant}
use Rattle.sl_trace.specs.declared.effects.Spot.{Spot}
use Rattle.sl_safety.proofs.Value.CallsCome.{Comes, WasThere, calls_come}
use Rattle.sl_safety.proofs.Value.EntryStamps.{long_as}
use Rattle.sl_safety.proofs.Value.OwnCalls.{OwnCall, own_call}
use Rattle.sl_safety.proofs.Value.ReaderCalls.{Reader}
use Rattle.sl_words.proofs.CaseLaws.{false_is_true, none_some}
use Rattle.sl_words.proofs.WordLaws.{and_true}
use Rattle.std.proofs.Common.{ap, arith, inl, inr, refl, subst, sym, ◌∙◌}
use Rattle.std.proofs.lemmas.Bool.Decides.{nat_tests}
use Rattle.std.proofs.lemmas.Bool.{cases_lt, eqb-true}
use Rattle.std.specs.Prelude.{Bool, Contains, List, None, Option, Some, [], false, is_none, is_some, length, nat_le, nat_lt, not, suc, true, ℕ, ◌&&◌, ◌++◌, ◌<◌, ◌==◌, ◌||◌, ◌∷◌, ◌≡◌, ◌≤◌, ◌⊎◌}

-- ---- lists and traces

longer : {A : Type 0} (xs ys : List A) → length ys ≤ length (xs ++ ys)
longer [] ys = omega arith
longer (x ∷ xs) ys = let rest = longer xs ys in omega (arith, rest)

rest_of : {A : Type 0} (a b : A) (xs ys : List A) → a ∷ xs ≡ b ∷ ys → xs ≡ ys
rest_of a b xs ys h = cc

too_long : (x y b z : ℕ) → suc x ≡ b → z ≤ x → b ≤ z → ⊥
too_long x y b z e h k = omega (arith, e, h, k)

-- Of two ends of a list the shorter is an end of the longer.
ends : {A : Type 0} (xs zs ys bs : List A) → xs ++ zs ≡ ys ++ bs → length bs ≤ length zs → (mid : List A) × (zs ≡ mid ++ bs)
ends [] zs ys bs h le = (ys, h)
ends (x ∷ xs) zs [] bs h le = absurd (too_long (length (xs ++ zs)) 0 (length bs) (length zs) (ap (λ us. length us) h) (longer xs zs) le)
ends (x ∷ xs) zs (y ∷ ys) bs h le = ends xs zs ys bs (rest_of x y (xs ++ zs) (ys ++ bs) h) le

held_end : (since : ℕ) (mid t : Trace) (s : Session) (at : Spot) → held_since since (mid ++ t) s at ≡ true → held_since since t s at ≡ true
held_end since [] t s at h = h
held_end since (e ∷ mid) t s at h =
    held_end since mid t s at
    (and_true (not (nat_le since (length (mid ++ t))) || nat_lt 0 (length (holdings_on (e ∷ mid ++ t) s at))) (held_since since (mid ++ t) s at) h).1

or_right_is : (a b : Bool) → a ≡ true → (not a || b) ≡ true → b ≡ true
or_right_is true b is h = h
or_right_is false b is h = absurd (false_is_true is)

is_within : (m n : ℕ) → m < suc n → nat_le m n ≡ true
is_within m n h = grind (arith, nat_tests)

no_less : (m : ℕ) → m < 0 → ⊥
no_less m h = omega (arith, h)

held_now : (since : ℕ) (t : Trace) (s : Session) (at : Spot) → held_since since t s at ≡ true → since < length t → nat_lt 0 (length (holdings_on t s at)) ≡ true
held_now since [] s at h lt = absurd (no_less since lt)
held_now since (e ∷ t) s at h lt =
    or_right_is (nat_le since (length t)) (nat_lt 0 (length (holdings_on (e ∷ t) s at))) (is_within since (length t) lt)
    (and_true (not (nat_le since (length t)) || nat_lt 0 (length (holdings_on (e ∷ t) s at))) (held_since since t s at) h).0

some_first : {A : Type 0} (xs : List A) → nat_lt 0 (length xs) ≡ true → (x : A) × Contains xs x
some_first [] h = absurd (false_is_true h)
some_first (x ∷ xs) h = (x, contains_first x xs)

-- ---- who is active has not ended

none_by : {A : Type 0} (o : Option A) → is_none o ≡ true → o ≡ None
none_by None h = refl
none_by (Some a) h = absurd (false_is_true h)

ended_not : (joined removed refused : Option ℕ) (k : ℕ) → (is_some joined && is_none removed) ≡ true → elim joined as (λ z. Option ℕ) [ Some j ↦ removed | None ↦ refused ] ≡ Some k → ⊥
ended_not None removed refused k h is = false_is_true h
ended_not (Some j) None refused k h is = none_some k is
ended_not (Some j) (Some r) refused k h is = false_is_true h

record IsActive (st : Setting) (es : Trace) (s : Session) : Type 0 where
  going : (k : ℕ) → ended_after es s ≡ Some k → ⊥
  staying : leaving_job st es s ≡ None

is_going : (st : Setting) (es : Trace) (s : Session) → is_active st es s ≡ true → IsActive st es s
is_going st es s h =
    let one = and_true (is_joined es s && is_none (recovery_of st es s)) (is_none (leaving_job st es s)) h in
    let two = and_true (is_joined es s) (is_none (recovery_of st es s)) one.0 in
    record {
      going = λ k is. ended_not (joined_after es s) (removed_after es s) (refused_after es s) k two.0 is;
      staying = none_by (leaving_job st es s) one.1;
    }

-- ---- the reader at a front

pub record ReaderThere (p : Program) (h : Header) (xs now : List Happening) (at : Spot) (i : SessionId) (f : Found) (c : Course) (v : ValueRec) (stamp : Stamp) (R : Reader p h xs at i f c v stamp) : Type 0 where
  pub run : LawfulRun p h now
  pub found : Found
  pub its : IsSession (world_at p h now) i found
  pub course : Course
  pub own : OwnCall p h now i found course
  pub call : c.call ≡ course.call
  pub session : f.session ≡ found.session
  pub setting : setting_in f ≡ setting_in found
  pub mid : Trace
  pub ends : R.entry ∷ R.past ≡ mid ++ trace_of found
  pub index : own.call.at ≡ R.own.call.at
  pub held : Grant
  pub has : Contains (holdings_on (trace_of found) found.session at) held
  pub alive : is_over i found ≡ true → ⊥

not_both : (a b : ℕ) → a < b → b < a → ⊥
not_both a b h k = omega (arith, h, k)

over_long : (p l k n : ℕ) → suc p ≤ l → k ≤ p → l ≡ k → ⊥
over_long p l k n h le e = omega (arith, h, le, e)

one_more : (a b : ℕ) → a ≤ b → a ≤ suc b
one_more a b h = omega (arith, h)

alive_there : (p : Program) (h : Header) (xs now rest : List Happening) (at : Spot) (i : SessionId) (f g : Found) (c : Course) (v : ValueRec) (stamp : Stamp) (R : Reader p h xs at i f c v stamp)
    → LawfulRun p h (now ++ rest) → (on : GoesOn p h now rest i g f) → length (trace_of g) ≤ length R.past → (mid : Trace) → R.entry ∷ R.past ≡ mid ++ trace_of g → is_over i g ≡ true → ⊥
alive_there p h xs now rest at i f g c v stamp R run on short mid whole over = by on.running where
  by : (g.machine.daemon ≡ Some g.daemon) ⊎ (trace_of f ≡ trace_of g) → ⊥
  by (inr same) =
      over_long (length R.past) (length (trace_of f)) (length (trace_of g)) 0
      (subst (λ t. length (R.entry ∷ R.past) ≤ length t) (sym R.whole) (longer R.later (R.entry ∷ R.past))) short (ap (λ t. length t) same)
  by (inl runs) =
      let st : Setting = setting_in f in
      let active = is_going st (R.entry ∷ R.past) f.session R.active in
      let quiet = over_is_quiet i g (machines_mirror p h now (fronts_are_lawful p h now rest run) i.machine g.machine on.before.there.at) runs over in
      elim quiet as (λ z. ⊥) [
        | inl ended ↦
            active.going ended.0
            (ap (λ (s : Session). ended_after (R.entry ∷ R.past) s) on.session ∙ ap (λ t. ended_after t g.session) whole ∙ marks_stay.ended mid (trace_of g) g.session ended.0 ended.1)
        | inr free ↦
            let m : Submitted = free.0 in
            let found = find_inside (λ (y : Submitted). is_free_purpose y.call.purpose) (calls_of (trace_of g) g.session) m free.1 in
            let mine = kept_inside (is_call_of g.session) (submitted (trace_of g)) m found.0 in
            let grown = calls_grow mid (trace_of g) m mine.0 in
            staying_is_freeless st (R.entry ∷ R.past) f.session R.lawful R.its active.staying grown.now (subst (λ t. Contains (submitted t) grown.now) (sym whole) grown.inside)
            (ap (λ (y : Call). y.session) grown.call ∙ eqb-true m.call.session g.session.number mine.1 ∙ ap (λ (s : Session). s.number) (sym on.session))
            (ap (λ (y : Call). is_free_purpose y.purpose) grown.call ∙ found.1)
      ]

reader_by : (p : Program) (h : Header) (xs now rest : List Happening) (at : Spot) (i : SessionId) (f : Found) (c : Course) (v : ValueRec) (stamp : Stamp) (R : Reader p h xs at i f c v stamp)
    → xs ≡ now ++ rest → (world_at p h now).step < stamp.step → (b : WasThere (world_at p h now) i.machine c) → ReaderThere p h xs now at i f c v stamp R
reader_by p h xs now rest at i f c v stamp R whole late b =
    let w : World = world_at p h now in
    let run : LawfulRun p h (now ++ rest) = subst (λ ys. LawfulRun p h ys) whole R.own.run in
    let front : LawfulRun p h now = fronts_are_lawful p h now rest run in
    let x : Sent = record { machine = i.machine; course = b.course } in
    let k : IsOwned w x = owned p h now front x (there_sent w i.machine b.machine b.course b.at b.has) in
    let mine : is_course_of i b.course ≡ true =
    ap (λ d. d == i.daemon && b.course.call.session == i.number) (sym b.daemon) ∙ ap (λ (y : Call). c.daemon == i.daemon && y.session == i.number) (sym b.call) ∙ R.own.own in
    let both = and_true (b.course.daemon == i.daemon) (b.course.call.session == i.number) mine in
    let sender : sender_of x ≡ i =
    session_as i.machine b.course.daemon b.course.call.session i.machine i.daemon i.number refl (eqb-true b.course.daemon i.daemon both.0) (eqb-true b.course.call.session i.number both.1) in
    let g : Found = found_of k in
    let its : IsSession w i g = ap (session_of_world w) (sym sender) ∙ owner_found w x k in
    let o : OwnCall p h now i g b.course = own_call p h now front i g its b.course k.there.has mine in
    let on : GoesOn p h now rest i g f = goes_on p h now rest run i g f its (subst (λ ys. IsSession (world_at p h ys) i f) whole R.own.is_session) in
    let stamps : length g.daemon.stamps ≡ length (trace_of g) =
    long_as IsStampOf g.daemon.stamps (trace_of g) (entries_are_stamped p h now front i.machine g.machine g.daemon o.known.there.at o.known.there.has) in
    let below : o.call.at < length (trace_of g) = made_below (trace_of g) o.call o.inside in
    let stamped : stamp_in f.daemon.stamps o.call.at ≡ Some b.course.made =
    ap (λ ss. stamp_in ss o.call.at) on.stamped ∙ stamp_before on.stamps g.daemon.stamps o.call.at (subst (λ n. o.call.at < n) (sym stamps) below) ∙ o.is.made in
    let index : o.call.at ≡ R.own.call.at =
    one_entry (world_at p h xs).step f.daemon.stamps o.call.at R.own.call.at b.course.made c.made R.own.known.stamps stamped R.own.is.made (ap (λ (s : Stamp). s.step) (sym b.made)) in
    let short : length (trace_of g) ≤ length R.past =
    elim (cases_lt (length R.past) (length (trace_of g))) as (λ z. length (trace_of g) ≤ length R.past) [
      | inl lt ↦ absurd (not_both stamp.step w.step (old_stamp p h now rest run i g f on (length R.past) stamp lt R.stamped) late)
      | inr le ↦ le
    ] in
    let e = ends R.later (R.entry ∷ R.past) on.newer (trace_of g) (sym R.whole ∙ on.trace) (one_more (length (trace_of g)) (length R.past) short) in
    let since : held_since R.own.call.at (trace_of g) f.session at ≡ true = held_end R.own.call.at e.0 (trace_of g) f.session at (subst (λ t. held_since R.own.call.at t f.session at ≡ true) e.1 R.held) in
    let some = held_now R.own.call.at (trace_of g) f.session at since (subst (λ n. n < length (trace_of g)) index below) in
    let one = some_first (holdings_on (trace_of g) f.session at) some in
    record {
      run = front;
      found = g;
      its = its;
      course = b.course;
      own = o;
      call = b.call;
      session = on.session;
      setting = on.setting;
      mid = e.0;
      ends = e.1;
      index = index;
      held = one.0;
      has = subst (λ (s : Session). Contains (holdings_on (trace_of g) s at) one.0) on.session one.1;
      alive = alive_there p h xs now rest at i f g c v stamp R run on short e.0 e.1;
    }

pub reader_there : (p : Program) (h : Header) (xs now rest : List Happening) (at : Spot) (i : SessionId) (f : Found) (c : Course) (v : ValueRec) (stamp : Stamp) (R : Reader p h xs at i f c v stamp)
    → xs ≡ now ++ rest → c.made.step < (world_at p h now).step → (world_at p h now).step < stamp.step → ReaderThere p h xs now at i f c v stamp R
reader_there p h xs now rest at i f c v stamp R whole early late =
    let run : LawfulRun p h (now ++ rest) = subst (λ ys. LawfulRun p h ys) whole R.own.run in
    let comes : Comes (world_at p h now) (world_at p h xs) = subst (λ ys. Comes (world_at p h now) (world_at p h ys)) (sym whole) (calls_come p h now rest run) in
    elim (comes i.machine f.machine c R.own.known.there.at R.own.there) as (λ z. ReaderThere p h xs now at i f c v stamp R) [
      | inl b ↦ reader_by p h xs now rest at i f c v stamp R whole late b
      | inr after ↦ absurd (not_both c.made.step (world_at p h now).step early after)
    ]
