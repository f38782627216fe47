-- The stamp from which a session's connection counts, and its reading.
use Rattle.sl_run_law.proofs.Course.MatchedCall.{newest_stamp, stamp_stays}
use Rattle.sl_run_law.specs.Course.CallStamps.{IsStampOf, IsStamped, Pairwise, stamp_in}
use Rattle.sl_run.proofs.LawFacts.{orderly-front}
use Rattle.sl_run.specs.Lawful.{Orderly}
use Rattle.sl_run.specs.LawfulConnections.{acts_until, is_covered}
use Rattle.sl_words.proofs.Lists.{contains_first, contains_more, contains_none, find_inside}
use Rattle.sl_run.specs.Worlds.{Daemon, Stamp}
use Rattle.sl_run_law.proofs.Sessions.JoiningsInTurn.{joined_before}
use Rattle.sl_run_law.proofs.Sessions.CallsAreMade.{old_or_new, was_marked}
use Rattle.sl_run_law.specs.Sessions.SessionLaws.{IsSession}
use Rattle.sl_trace.specs.Sessions.{joined_after, last_renewal}
use Rattle.sl_trace.specs.declared.session.Session.{Session}
use Rattle.sl_time.specs.Times.{fail, reading_of}
use Rattle.sl_trace.specs.WatchdogConnections.{last_registering, registers}
use Rattle.sl_trace.specs.Traces.{Setting, Submitted, Trace, mark, submitted}
use Rattle.sl_trace.specs.declared.effects.Entry.{Entry}
use Rattle.sl_trace.specs.declared.input.Given.{Given}
use Rattle.sl_run_law.proofs.Watchdog.ConnectionNeeded.{was_covered}
use Rattle.sl_run_law.proofs.Watchdog.Freshness.{acts_joined, acts_joining, nothing_covered}
use Rattle.sl_run_law.proofs.Watchdog.Joins.{has_renewal}
use Rattle.sl_run_law.proofs.Watchdog.TraceNumbers.{given_first, given_one}
use Rattle.sl_run_law.proofs.Watchdog.Readings.{Counts, NextRenewal, Stays, next_renewal, told}
use Rattle.sl_run_law.specs.Watchdog.ActingTimes.{acting_stamp, registering_entry, renewal_entry}
use Rattle.sl_words.proofs.CaseLaws.{false_is_true, none_some, some_value}
use Rattle.std.proofs.Common.{ap, inl, inr, refl, subst, sym, ◌∙◌}
use Rattle.std.specs.List.{list_any}
use Rattle.std.specs.Prelude.{Bool, Contains, List, None, Option, Some, [], false, is_some, length, option_and_then, slice_get, suc, true, ℕ, ◌+◌, ◌==◌, ◌∷◌, ◌≡◌}

-- ---- stamps of entries

pub same_length : (ss : List Stamp) (es : Trace) → Pairwise IsStampOf ss es → length ss ≡ length es
same_length [] [] h = refl
same_length [] (e ∷ es) h = absurd h
same_length (s ∷ ss) [] h = absurd h
same_length (s ∷ ss) (e ∷ es) h = ap (λ n. suc n) (same_length ss es h.1)

abbrev stamp_by : Bool → Stamp → Option Stamp → Option Stamp
stamp_by b s o = elim b [ true ↦ Some s | false ↦ o ]

stamp_there_by : (ss : List Stamp) (i : ℕ) (s t : Stamp) (b : Bool) → stamp_by b s (stamp_in ss i) ≡ Some t → (stamp_in ss i ≡ Some t → Contains ss t) → Contains (s ∷ ss) t
stamp_there_by ss i s t true h rest = subst (λ x. Contains (s ∷ ss) x) (some_value s t h) (contains_first s ss)
stamp_there_by ss i s t false h rest = contains_more s ss t (rest h)

pub stamp_there : (ss : List Stamp) (i : ℕ) (t : Stamp) → stamp_in ss i ≡ Some t → Contains ss t
stamp_there [] i t h = absurd (none_some t h)
stamp_there (s ∷ ss) i t h = stamp_there_by ss i s t (i == length ss) h (λ rest. stamp_there ss i t rest)

-- A stamp of this place with this reading.
record HasStamp (ss : List Stamp) (i r : ℕ) : Type 0 where
  stamp : Stamp
  at : stamp_in ss i ≡ Some stamp
  shows : reading_of stamp.clock ≡ r

has_more : (s : Stamp) (ss : List Stamp) (i r : ℕ) → HasStamp ss i r → HasStamp (s ∷ ss) i r
has_more s ss i r h = record { stamp = h.stamp; at = stamp_stays s ss i h.stamp h.at; shows = h.shows }

-- ---- of registerings

abbrev entry_by : Bool → ℕ → Option ℕ → Option ℕ
entry_by b now before = elim b [ true ↦ Some now | false ↦ before ]

abbrev reading_by : Bool → ℕ → ℕ → ℕ
reading_by b now before = elim b [ true ↦ now | false ↦ before ]

registering_by : (s : Stamp) (ss : List Stamp) (e : Entry) (es : Trace) (name : List ℕ) (i : ℕ) → Pairwise IsStampOf (s ∷ ss) (e ∷ es) → (b : Bool)
    → entry_by b (length es) (registering_entry es name) ≡ Some i → (registering_entry es name ≡ Some i → HasStamp ss i (last_registering es name))
    → HasStamp (s ∷ ss) i (reading_by b e.reading (last_registering es name))
registering_by s ss e es name i h true is rest =
    let at : i ≡ length ss = sym (some_value (length es) i is) ∙ sym (same_length ss es h.1) in
    record { stamp = s; at = newest_stamp s ss i at; shows = h.0 }
registering_by s ss e es name i h false is rest = has_more s ss i (last_registering es name) (rest is)

registering_stamp : (ss : List Stamp) (es : Trace) (name : List ℕ) (i : ℕ) → Pairwise IsStampOf ss es → registering_entry es name ≡ Some i → HasStamp ss i (last_registering es name)
registering_stamp ss [] name i h is = absurd (none_some i is)
registering_stamp [] (e ∷ es) name i h is = absurd h
registering_stamp (s ∷ ss) (e ∷ es) name i h is =
    registering_by s ss e es name i h (list_any (registers name) e.effects.moves) is (λ rest. registering_stamp ss es name i h.1 rest)

-- ---- of renewals

call_stamp : (ss : List Stamp) (es : Trace) (m : Submitted) → Pairwise IsStampOf ss es → Contains (submitted es) m → HasStamp ss m.at m.reading
call_stamp ss [] m h there = absurd (contains_none m there)
call_stamp [] (e ∷ es) m h there = absurd h
call_stamp (s ∷ ss) (e ∷ es) m h there =
    elim (old_or_new (length es) e.reading e.effects.calls (mark es e e.input (submitted es)) m there) as (λ z. HasStamp (s ∷ ss) m.at m.reading) [
      | inr new ↦ record { stamp = s; at = newest_stamp s ss m.at (new.place ∙ sym (same_length ss es h.1)); shows = h.0 ∙ sym new.reading_is }
      | inl old ↦
          let w = was_marked es e e.input (submitted es) m old in
          has_more s ss m.at m.reading
          (subst (λ r. HasStamp ss m.at r) (sym w.same.reading) (subst (λ i. HasStamp ss i w.before.reading) (sym w.same.at) (call_stamp ss es w.before h.1 w.inside)))
    ]

abbrev renewal_by : Option Submitted → Option ℕ → Option ℕ
renewal_by now before = elim now [ Some m ↦ Some m.at | None ↦ before ]

renewal_next : (st : Setting) (s : Stamp) (ss : List Stamp) (e : Entry) (es : Trace) (x : Session) (i : ℕ) → Pairwise IsStampOf (s ∷ ss) (e ∷ es) → renewal_entry st (e ∷ es) x ≡ Some i
    → (renewal_entry st es x ≡ Some i → HasStamp ss i (last_renewal st es x)) → NextRenewal st es x e → HasStamp (s ∷ ss) i (last_renewal st (e ∷ es) x)
renewal_next st s ss e es x i h is rest (Stays none same) =
    subst (λ r. HasStamp (s ∷ ss) i r) (sym same)
    (has_more s ss i (last_renewal st es x) (rest (sym (ap (λ o. renewal_by o (renewal_entry st es x)) none) ∙ is)))
renewal_next st s ss e es x i h is rest (Counts m in_it told_is now) =
    let w = told es x e.input m told_is in
    let there = find_inside (λ (y : Submitted). y.call.number == w.number) (submitted es) m w.found in
    let at : m.at ≡ i = some_value m.at i (sym (ap (λ o. renewal_by o (renewal_entry st es x)) in_it) ∙ is) in
    subst (λ r. HasStamp (s ∷ ss) i r) (sym now)
    (subst (λ j. HasStamp (s ∷ ss) j m.reading) at (has_more s ss m.at m.reading (call_stamp ss es m h.1 there.0)))

renewal_stamp : (st : Setting) (ss : List Stamp) (es : Trace) (x : Session) (i : ℕ) → Pairwise IsStampOf ss es → renewal_entry st es x ≡ Some i → HasStamp ss i (last_renewal st es x)
renewal_stamp st ss [] x i h is = absurd (none_some i is)
renewal_stamp st [] (e ∷ es) x i h is = absurd h
renewal_stamp st (s ∷ ss) (e ∷ es) x i h is =
    renewal_next st s ss e es x i h is (λ rest. renewal_stamp st ss es x i h.1 rest) (next_renewal st es x e)

renewal_none : (st : Setting) (es : Trace) (x : Session) → renewal_entry st es x ≡ None → last_renewal st es x ≡ x.renewed
renewal_none st [] x is = refl
renewal_none st (e ∷ es) x is = by (next_renewal st es x e) (λ rest. renewal_none st es x rest)
  where
    by : NextRenewal st es x e → (renewal_entry st es x ≡ None → last_renewal st es x ≡ x.renewed) → last_renewal st (e ∷ es) x ≡ x.renewed
    by (Stays none same) rest = same ∙ rest (sym (ap (λ o. renewal_by o (renewal_entry st es x)) none) ∙ is)
    by (Counts m in_it told_is now) rest =
        absurd (none_some m.at (sym is ∙ ap (λ o. renewal_by o (renewal_entry st es x)) in_it))

-- ---- a covered session that isn't joined has registered

has_registered : (st : Setting) (es : Trace) (s : Session) → Orderly st es → IsSession st es s → joined_after es s ≡ None → is_covered es s ≡ true
    → (i : ℕ) × (registering_entry es s.lockspace ≡ Some i)
has_registered st [] s h its none is = absurd (nothing_covered s none is)
has_registered st (e ∷ past) s h its none is =
    by (list_any (registers s.lockspace) e.effects.moves) refl
    (λ quiet. let w = was_covered st e past s h its none is quiet in
    has_registered st past s (orderly-front st (e ∷ []) past h) w.its (joined_before e past s (joined_after past s) refl none) w.covered)
  where
    by : (b : Bool) → list_any (registers s.lockspace) e.effects.moves ≡ b → (list_any (registers s.lockspace) e.effects.moves ≡ false → (i : ℕ) × (registering_entry past s.lockspace ≡ Some i))
        → (i : ℕ) × (registering_entry (e ∷ past) s.lockspace ≡ Some i)
    by true at rest = (length past, ap (λ b. entry_by b (length past) (registering_entry past s.lockspace)) at)
    by false at rest =
        let r = rest at in
        (r.0, ap (λ b. entry_by b (length past) (registering_entry past s.lockspace)) at ∙ r.1)

-- ---- all in all

-- The stamp from which the session's connection counts: one of its daemon, with the reading until which it acts but for `fail`.
pub record CountsFrom (d : Daemon) (s : Session) : Type 0 where
  pub stamp : Stamp
  pub from : acting_stamp d s ≡ Some stamp
  pub there : Contains (d.begun ∷ d.stamps) stamp
  pub until : reading_of stamp.clock + fail d.setting.timing ≡ acts_until d.setting d.trace s

abbrev stamp_for : Daemon → Option ℕ → Option ℕ → Option ℕ → Option Stamp
stamp_for d joined renewal registering =
    elim joined [
      | Some k ↦ elim renewal [ Some i ↦ stamp_in d.stamps i | None ↦ Some d.begun ]
      | None ↦ option_and_then (stamp_in d.stamps) registering
    ]

-- What a daemon is given was renewed as it began.
abbrev pub GivenNow : Daemon → Type 0
GivenNow d = (n : ℕ) (g : Given) → slice_get d.setting.given n ≡ Some g → g.renewed ≡ reading_of d.begun.clock

counts_joined : (d : Daemon) (s : Session) (k : ℕ) → IsStamped d → Orderly d.setting d.trace → IsSession d.setting d.trace s → GivenNow d → joined_after d.trace s ≡ Some k
    → (o : Option ℕ) → renewal_entry d.setting d.trace s ≡ o → CountsFrom d s
counts_joined d s k stamped h its given joined (Some i) is =
    let r = renewal_stamp d.setting d.stamps d.trace s i stamped is in
    record {
      stamp = r.stamp;
      from = ap (λ o. stamp_for d o (renewal_entry d.setting d.trace s) (registering_entry d.trace s.lockspace)) joined
          ∙ ap (λ o. stamp_for d (Some k) o (registering_entry d.trace s.lockspace)) is ∙ r.at;
      there = contains_more d.begun d.stamps r.stamp (stamp_there d.stamps i r.stamp r.at);
      until = ap (λ n. n + fail d.setting.timing) r.shows ∙ sym (acts_joined d.setting d.trace s k joined);
    }
counts_joined d s k stamped h its given joined None is =
    let job = no_job (s.job) refl in
    let g = given_one d.setting s.number s (given_first d.setting d.trace s.number s its job) in
    let last = renewal_none d.setting d.trace s is in
    let same : reading_of d.begun.clock ≡ last_renewal d.setting d.trace s = sym (given s.number g.0 g.1) ∙ sym g.3 ∙ sym last in
    record {
      stamp = d.begun;
      from = ap (λ o. stamp_for d o (renewal_entry d.setting d.trace s) (registering_entry d.trace s.lockspace)) joined
          ∙ ap (λ o. stamp_for d (Some k) o (registering_entry d.trace s.lockspace)) is;
      there = contains_first d.begun d.stamps;
      until = ap (λ n. n + fail d.setting.timing) same ∙ sym (acts_joined d.setting d.trace s k joined);
    }
  where
    no_job : (o : Option ℕ) → s.job ≡ o → s.job ≡ None
    no_job None job = job
    no_job (Some j) job = absurd (false_is_true (sym (ap (λ o. is_some o) is) ∙ has_renewal d.setting d.trace s j k h its job joined))

counts_by : (d : Daemon) (s : Session) → IsStamped d → Orderly d.setting d.trace → IsSession d.setting d.trace s → GivenNow d → is_covered d.trace s ≡ true
    → (o : Option ℕ) → joined_after d.trace s ≡ o → CountsFrom d s
counts_by d s stamped h its given is (Some k) joined = counts_joined d s k stamped h its given joined (renewal_entry d.setting d.trace s) refl
counts_by d s stamped h its given is None none =
    let i = has_registered d.setting d.trace s h its none is in
    let r = registering_stamp d.stamps d.trace s.lockspace i.0 stamped i.1 in
    record {
      stamp = r.stamp;
      from = ap (λ o. stamp_for d o (renewal_entry d.setting d.trace s) (registering_entry d.trace s.lockspace)) none
          ∙ ap (λ o. option_and_then (stamp_in d.stamps) o) i.1 ∙ r.at;
      there = contains_more d.begun d.stamps r.stamp (stamp_there d.stamps i.0 r.stamp r.at);
      until = ap (λ n. n + fail d.setting.timing) r.shows ∙ sym (acts_joining d.setting d.trace s none);
    }

pub counts_from : (d : Daemon) (s : Session) → IsStamped d → Orderly d.setting d.trace → IsSession d.setting d.trace s → GivenNow d → is_covered d.trace s ≡ true → CountsFrom d s
counts_from d s stamped h its given is = counts_by d s stamped h its given is (joined_after d.trace s) refl
