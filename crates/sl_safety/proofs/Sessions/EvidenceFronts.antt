-- What a session had counted as over by a step it counted at a front that had come by then.
use Rattle.sl_run_law.proofs.Course.EntriesAreStamped.{entries_are_stamped}
use Rattle.sl_run_law.specs.Course.CallStamps.{stamp_in}
use Rattle.sl_run_law.proofs.Front.RunsFromFronts.{fronts_are_lawful}
use Rattle.sl_id_safety.proofs.OverIsQuiet.{stamp_before}
use Rattle.sl_id_safety.proofs.State.TraceBridge.{IsKnown, known}
use Rattle.sl_id_safety.proofs.State.SessionFacts.{grounds}
use Rattle.sl_run.proofs.LawFacts.{orderly-front}
use Rattle.sl_run.specs.Lawful.{Orderly}
use Rattle.sl_run_law.proofs.Moment.MachinesInOrder.{entries_ordered, fall_front, fall_step}
use Rattle.sl_run_law.specs.Moment.Orders.{Fall}
use Rattle.sl_run_law.proofs.Place.Daemons.{daemons_are_fine, stamp_order}
use Rattle.sl_run_law.proofs.Place.TracesOnMachines.{owner_of}
use Rattle.sl_words.proofs.Lists.{contains_cases, contains_first, kept_inside}
use Rattle.sl_safety.proofs.Resources.StepsNameEntries.{one_entry}
use Rattle.sl_safety.specs.Resources.Histories.{trace_by}
use Rattle.sl_run.specs.Runs.{Happening}
use Rattle.sl_run.specs.Safety.{Found, IsSession, LawfulRun, SessionId, world_at}
use Rattle.sl_run.specs.Worlds.{Daemon, Program, Stamp}
use Rattle.sl_run.specs.declared.header.Header.{Header}
use Rattle.sl_safety.proofs.Sessions.OrderedDaemons.{BeganSince, IsAfter}
use Rattle.sl_safety.proofs.Sessions.OrderedFronts.{FrontAt, nothing_more}
use Rattle.sl_safety.proofs.Sessions.OrderedOnce.{stamp_past}
use Rattle.sl_safety.proofs.Sessions.OrderedStood.{Behind, behind}
use Rattle.sl_safety.proofs.Sessions.OrderedTraces.{begun_end, same_length, stamp_newer, stamp_of}
use Rattle.sl_run_law.proofs.Sessions.CallOwners.{sessions_stay}
use Rattle.sl_run_law.specs.Sessions.SessionLaws.{IsSession as IsSessionOf}
use Rattle.sl_trace.specs.Sessions.{calls_of, generation_of, is_call_of, joined_after, session_numbered}
use Rattle.sl_trace.specs.Sightings.{counted_over, counts_over, evidence_in}
use Rattle.sl_trace.specs.declared.session.Session.{Session}
use Rattle.sl_trace.specs.Traces.{Setting, Submitted, Trace, submitted}
use Rattle.sl_trace.specs.declared.effects.Entry.{Entry}
use Rattle.sl_trace.specs.declared.reply.Evidence.TheVariants.{Newer}
use Rattle.sl_trace.specs.declared.reply.Evidence.{Evidence}
use Rattle.sl_run_law.proofs.Watchdog.Stamps.{stamp_there}
use Rattle.sl_words.proofs.CaseLaws.{one_value, true_is_false}
use Rattle.sl_words.proofs.WordLaws.{and_true}
use Rattle.std.proofs.Common.{ap, arith, inl, inr, refl, subst, sym, ◌∙◌}
use Rattle.std.proofs.lemmas.Bool.Decides.{nat_tests}
use Rattle.std.proofs.lemmas.Bool.{cases_lt, eqb-true}
use Rattle.std.specs.Prelude.{Bool, Contains, List, None, Option, Some, [], drop, false, is_some, length, nat_le, nat_lt, suc, true, ℕ, ◌&&◌, ◌++◌, ◌+◌, ◌<◌, ◌==◌, ◌∷◌, ◌≡◌, ◌≤◌, ◌⊎◌}

-- ---- ends of traces

-- An end of a trace at which the session counts the generation as over.
pub record CountedAt (st : Setting) (es : Trace) (s : Session) (j n : ℕ) : Type 0 where
  pub newer : Trace
  pub past : Trace
  pub whole : es ≡ newer ++ past
  pub counts : counts_over st past s j n ≡ true

pub counted_at : (st : Setting) (es : Trace) (s : Session) (j n : ℕ) → counted_over st es s j n ≡ true → CountedAt st es s j n
counted_at st [] s j n is = record { newer = []; past = []; whole = refl; counts = is }
counted_at st (e ∷ es) s j n is = by (λ more. counted_at st es s j n more) (counts_over st (e ∷ es) s j n) refl is where
  by : (counted_over st es s j n ≡ true → CountedAt st es s j n) → (b : Bool) → counts_over st (e ∷ es) s j n ≡ b
      → elim b as (λ z. Bool) [ true ↦ true | false ↦ counted_over st es s j n ] ≡ true → CountedAt st (e ∷ es) s j n
  by rest true counts so = record { newer = []; past = e ∷ es; whole = refl; counts = counts }
  by rest false counts so =
      let r = rest so in
      record { newer = e ∷ r.newer; past = r.past; whole = ap (λ t. e ∷ t) r.whole; counts = r.counts }

longer : (newer es : Trace) → length es ≤ length (newer ++ es)
longer [] es = omega arith
longer (e ∷ newer) es = omega (arith, longer newer es)

le_is : (m n : ℕ) → nat_le m n ≡ true → m ≤ n
le_is m n h = grind (arith, nat_tests)

-- The trace by a step is the end whose stamps came by then.
pub record EndsBy (ss : List Stamp) (es : Trace) (t : ℕ) : Type 0 where
  pub newer : Trace
  pub whole : es ≡ newer ++ trace_by ss es t
  pub before : (q : ℕ) (s : Stamp) → q < length (trace_by ss es t) → stamp_in ss q ≡ Some s → s.step ≤ t

not_later : (n : ℕ) (s u : Stamp) (ss : List Stamp) (t : ℕ) → Fall n (s ∷ ss) → s.step ≤ t → Contains (s ∷ ss) u → u.step ≤ t
not_later n s u ss t fall le there =
    elim (contains_cases s ss u there) as (λ z. u.step ≤ t) [
      | inl here ↦ subst (λ (x : Stamp). x.step ≤ t) here le
      | inr old ↦ omega (arith, fall_step s.step ss u fall.1 old, le)
    ]

abbrev by_step : List Stamp → Entry → Trace → ℕ → Bool → Trace
by_step ss e es t b = elim b as (λ z. Trace) [ true ↦ e ∷ es | false ↦ trace_by ss es t ]

pub ends_by : (n : ℕ) (ss : List Stamp) (es : Trace) (t : ℕ) → Fall n ss → length ss ≡ length es → EndsBy ss es t
ends_by n [] es t fall long = record { newer = es; whole = sym (nothing_more es); before = λ q s lt at. absurd (omega (arith, lt)) }
ends_by n (s ∷ ss) [] t fall long = absurd (omega (arith, long))
ends_by n (s ∷ ss) (e ∷ es) t fall long = by (ends_by s.step ss es t fall.1 (omega (arith, long))) (nat_le s.step t) refl where
  by : EndsBy ss es t → (b : Bool) → nat_le s.step t ≡ b → EndsBy (s ∷ ss) (e ∷ es) t
  by r true is =
      let same : trace_by (s ∷ ss) (e ∷ es) t ≡ e ∷ es = ap (by_step ss e es t) is in
      record { newer = []; whole = sym same; before = λ q u lt at. not_later n s u ss t fall (le_is s.step t is) (stamp_there (s ∷ ss) q u at) }
  by r false is =
      let same : trace_by (s ∷ ss) (e ∷ es) t ≡ trace_by ss es t = ap (by_step ss e es t) is in
      let le : length (trace_by ss es t) ≤ length es = subst (λ u. length (trace_by ss es t) ≤ length u) (sym r.whole) (longer r.newer (trace_by ss es t)) in
      record {
        newer = e ∷ r.newer;
        whole = ap (λ u. e ∷ u) r.whole ∙ ap (λ u. (e ∷ r.newer) ++ u) (sym same);
        before = λ q u lt at.
            let less : q < length (trace_by ss es t) = subst (λ v. q < length v) same lt in
            r.before q u less (sym (stamp_before (s ∷ []) ss q (omega (arith, less, le, long))) ∙ at);
      }

not_longer : {A : Type 0} (x : A) (xs fs gs : List A) → fs ≡ (x ∷ xs) ++ gs → length fs ≡ length gs → ⊥
not_longer {A} x xs fs gs same long = let n : length fs ≡ length ((x ∷ xs) ++ gs) = ap (λ l. length l) same in omega (arith, n, long, more xs) where
  more : (ys : List A) → length gs ≤ length (ys ++ gs)
  more [] = omega arith
  more (y ∷ ys) = omega (arith, more ys)

-- Ends of one list that are as long are one.
pub same_ends : {A : Type 0} (xs ys fs gs : List A) → xs ++ fs ≡ ys ++ gs → length fs ≡ length gs → fs ≡ gs
same_ends [] [] fs gs same long = same
same_ends [] (y ∷ ys) fs gs same long = absurd (not_longer y ys fs gs same long)
same_ends (x ∷ xs) [] fs gs same long = absurd (not_longer x xs gs fs (sym same) (sym long))
same_ends (x ∷ xs) (y ∷ ys) fs gs same long = same_ends xs ys fs gs (ap (λ us. drop 1 us) same) long

-- ---- who counts has begun

below_none : (n : ℕ) → nat_lt n 0 ≡ false
below_none n = grind (arith, nat_tests)

none_seen : (st : Setting) (j n : ℕ) → is_some (evidence_in st [] j n) ≡ false
none_seen st j n = ap (λ b. is_some (elim b as (λ z. Option Evidence) [ true ↦ Some (Newer 0) | false ↦ None ])) (below_none n)

-- Without calls only a session that has joined counts any generation as over.
pub no_calls_joined : (st : Setting) (es : Trace) (s : Session) (j n : ℕ) → calls_of es s ≡ [] → counts_over st es s j n ≡ true → is_some (joined_after es s) ≡ true
no_calls_joined st es s j n none counts =
    let own : Bool = j == s.id && nat_lt n (generation_of es s) && is_some (joined_after es s) in
    let so : own ≡ true =
    sym (ap (λ ms. elim (is_some (evidence_in st ms j n)) as (λ z. Bool) [ true ↦ true | false ↦ own ]) none ∙ ap (λ b. elim b as (λ z. Bool) [ true ↦ true | false ↦ own ]) (none_seen st j n)) ∙ counts in
    (and_true (j == s.id && nat_lt n (generation_of es s)) (is_some (joined_after es s)) so).1

some_entry : (o : Option ℕ) → is_some o ≡ true → (k : ℕ) × (o ≡ Some k)
some_entry None some = absurd (true_is_false (sym some))
some_entry (Some k) some = (k, refl)

pub counting_begun : (st : Setting) (newer es : Trace) (s : Session) (j n : ℕ) → Orderly st (newer ++ es) → IsSessionOf st (newer ++ es) s → counts_over st es s j n ≡ true → IsSessionOf st es s
counting_begun st newer es s j n h its counts = by (calls_of es s) refl where
  by : (ms : List Submitted) → calls_of es s ≡ ms → IsSessionOf st es s
  by [] none =
      let k = some_entry (joined_after es s) (no_calls_joined st es s j n none counts) in
      begun_end st newer es s k.0 h its k.1
  by (m ∷ ms) is =
      let mine = kept_inside (is_call_of s) (submitted es) m (subst (λ xs. Contains xs m) (sym is) (contains_first m ms)) in
      let o = owner_of st es m (orderly-front st newer es h) mine.0 in
      let number : o.0.number ≡ s.number = sym o.2 ∙ eqb-true m.call.session s.number mine.1 in
      let at : session_numbered st es s.number ≡ Some o.0 = ap (λ k. session_numbered st es k) (sym number) ∙ o.1 in
      at ∙ ap (λ x. Some x) (one_value o.0 s (session_numbered st (newer ++ es) s.number) (sessions_stay st newer es s.number o.0 at) its)

-- ---- the front of an entry

contrary : (n s : ℕ) → s ≤ n → n < s → ⊥
contrary n s p q = omega (arith, p, q)

one_more_not : (q : ℕ) → q ≡ suc q → ⊥
one_more_not q is = omega (arith, is)

pinned : (a b n : ℕ) → a ≤ b → b < n → n ≤ a + 1 → a ≡ b
pinned a b n p q r = omega (arith, p, q, r)

exactly : (q n : ℕ) → q < n → n ≤ suc q → n ≡ suc q
exactly q n p r = omega (arith, p, r)

-- At the front of an entry's step the entry is the newest of its daemon.
pub behind_entry : (p : Program) (h : Header) (xs : List Happening) → LawfulRun p h xs → (i : SessionId) (g : Found) → IsSession (world_at p h xs) i g → (q : ℕ) (s : Stamp)
    → stamp_in g.daemon.stamps q ≡ Some s → (f : FrontAt p h xs s.step) → (b : Behind (world_at p h f.now) i g) × (length b.came.daemon.trace ≡ suc q)
behind_entry p h xs run i g its q s at f =
    by (behind p h f.now f.rest f.run i g (subst (λ ys. IsSession (world_at p h ys) i g) f.whole its))
    (not_after (known grounds p h xs run i g its) f.ends)
  where
    not_after : IsKnown (world_at p h xs) i g → (f.rest ≡ []) ⊎ (s.step ≤ (world_at p h f.now).step) → (world_at p h f.now).step < s.step → ⊥
    not_after kn (inr le) lt = contrary (world_at p h f.now).step s.step le lt
    not_after kn (inl none) lt =
        let whole : xs ≡ f.now = f.whole ∙ ap (λ ys. f.now ++ ys) none ∙ nothing_more f.now in
        let past = stamp_past p h xs run i.machine s (record { machine = g.machine; at = kn.there.at; daemon = g.daemon; has = kn.there.has; stamp = stamp_there g.daemon.stamps q s at }) in
        let less : s.step < (world_at p h f.now).step = subst (λ ys. s.step < (world_at p h ys).step) whole past in
        omega (arith, less, lt)

    exact : (b : Behind (world_at p h f.now) i g) → q < length b.came.daemon.stamps → (suc q < length b.came.daemon.stamps) ⊎ (length b.came.daemon.stamps ≤ suc q)
        → length b.came.daemon.stamps ≡ suc q
    exact b lt (inr le) = exactly q (length b.came.daemon.stamps) lt le
    exact b lt (inl more) =
        let d : Daemon = b.came.daemon in
        let here : LawfulRun p h f.now = fronts_are_lawful p h f.now f.rest f.run in
        let u = stamp_of d.stamps (suc q) more in
        let there : stamp_in d.stamps q ≡ Some s = sym (stamp_before b.came.stamps d.stamps q lt) ∙ ap (λ ss. stamp_in ss q) (sym b.came.stamped) ∙ at in
        let ordered = stamp_order (world_at p h f.now).step d.stamps q (suc q) s u.0 (daemons_are_fine p h f.now here i.machine b.machine d b.at b.came.has).stamps there u.1 (omega arith) in
        let below = stamp_past p h f.now here i.machine u.0 (record { machine = b.machine; at = b.at; daemon = d; has = b.came.has; stamp = stamp_there d.stamps (suc q) u.0 u.1 }) in
        let fall = fall_front (world_at p h f.now).step d.stamps (d.begun ∷ []) (entries_ordered p h f.now here i.machine b.machine d b.at b.came.has) in
        absurd (one_more_not q (one_entry (world_at p h f.now).step d.stamps q (suc q) s u.0 fall there u.1 (pinned s.step u.0.step (world_at p h f.now).step ordered below f.begins)))

    has : (b : Behind (world_at p h f.now) i g) → ((world_at p h f.now).step < s.step → ⊥) → (q < length b.came.daemon.stamps) ⊎ (length b.came.daemon.stamps ≤ q)
        → q < length b.came.daemon.stamps
    has b never (inl lt) = lt
    has b never (inr le) = absurd (never (b.came.later s (stamp_newer b.came.stamps b.came.daemon.stamps q s (subst (λ ss. stamp_in ss q ≡ Some s) b.came.stamped at) le)))

    by : Behind (world_at p h f.now) i g ⊎ BeganSince (IsAfter (world_at p h f.now)) g.daemon → ((world_at p h f.now).step < s.step → ⊥)
        → (b : Behind (world_at p h f.now) i g) × (length b.came.daemon.trace ≡ suc q)
    by (inr new) never = absurd (never (new.later s (stamp_there g.daemon.stamps q s at)))
    by (inl b) never =
        let d : Daemon = b.came.daemon in
        let lt = has b never (cases_lt q (length d.stamps)) in (
          b,
          sym (same_length d.stamps d.trace (entries_are_stamped p h f.now (fronts_are_lawful p h f.now f.rest f.run) i.machine b.machine d b.at b.came.has))
              ∙ exact b lt (cases_lt (suc q) (length d.stamps)),
        )
