-- What the moves of an entry so far say is kept by acts of one session, and by those that move nothing.
use Rattle.sl_due_facts.specs.Connections.MovedSoFar.{IsClosed, MovedSoFar}
use Rattle.sl_due_facts.specs.Acts.TraceSoFar.{SoFar, entry_of}
use Rattle.sl_due.specs.Steps.{Step, seen, with_input}
use Rattle.sl_due_facts.proofs.Jobs.SessionsArePresent.{joined_present, present_inside, session_has}
use Rattle.sl_run.specs.LawfulConnections.{is_covered}
use Rattle.sl_words.proofs.Lists.{any_found, any_of, kept, kept_inside}
use Rattle.sl_words.proofs.Options.{none_is}
use Rattle.sl_run_law.proofs.Front.JoinedLists.{contains_left}
use Rattle.sl_due_facts.proofs.Connections.ConnectionLines.{writing_present}
use Rattle.sl_due_facts.proofs.Connections.ConnectionsChange.{Alters, IsAlone}
use Rattle.sl_due_facts.proofs.Connections.SessionParts.{SameSession, covered_at_work, covered_present, same_present, unjoined_not}
use Rattle.sl_due_facts.proofs.Connections.SteadyActs.{Steady}
use Rattle.sl_due_facts.proofs.Sessions.NamesGrow.{input_present, write_then}
use Rattle.sl_trace.specs.Sessions.{begun_in, calls_of, has_open_write, is_covered_stage, is_joined, is_present, joined_after, open_calls_of, refused_after, removed_after, sessions, stage_in}
use Rattle.sl_trace.specs.declared.session.Session.{Session}
use Rattle.sl_trace.specs.declared.stage.Stage.TheVariants.{Waiting}
use Rattle.sl_due_facts.specs.Facts.HeardCall.{IsOpen, heard_by}
use Rattle.sl_due_facts.specs.Facts.SessionFacts.{NameFacts}
use Rattle.sl_trace.specs.WatchdogConnections.{registers, unregisters}
use Rattle.sl_trace.specs.Traces.{Submitted, is_write, unanswered}
use Rattle.sl_trace.specs.declared.input.Input.TheVariants.{Wake}
use Rattle.sl_trace.specs.declared.input.Input.{Input}
use Rattle.sl_run_law.proofs.Sessions.NamesAreApart.{writers_stay}
use Rattle.sl_words.proofs.CaseLaws.{false_is_true, is_false, not_both}
use Rattle.std.proofs.Common.{ap, ap₂, inl, inr, refl, subst, sym, ◌∙◌}
use Rattle.std.proofs.lemmas.Slice.Eq.{bytes_eq-Decides}
use Rattle.std.specs.List.{list_any}
use Rattle.std.specs.Prelude.{Bool, Contains, List, None, Option, Some, [], bytes_eq, false, is_none, is_some, length, true, ℕ, ◌&&◌, ◌≡◌, ◌⊎◌}

-- ---- who is closed

-- Whoever is present no more writes nothing.
pub absent_closed : (x : Step) (s : Session) → SoFar x → Contains (sessions x.setting (seen x)) s → is_present (seen x) s ≡ false → IsClosed x s
absent_closed x s orderly there absent_one = record { unwritten = is_false (has_open_write (seen x) s) (λ writes. by (joined_after (seen x) s) refl writes); gone = inl absent_one } where
  stays : has_open_write (seen x) s ≡ true → removed_after (seen x) s ≡ None
  stays writes = writers_stay x.setting (seen x) s orderly (session_has x.setting (seen x) s there) writes

  by : (o : Option ℕ) → joined_after (seen x) s ≡ o → has_open_write (seen x) s ≡ true → ⊥
  by None none writes = not_both (is_present (seen x) s) (writing_present (seen x) s none writes) absent_one
  by (Some k) joined writes =
      not_both (is_present (seen x) s) (joined_present (seen x) s (ap₂ (λ o p. is_some o && is_none p) joined (stays writes))) absent_one

pub closed_unjoined : (x : Step) (s : Session) → IsClosed x s → is_joined (seen x) s ≡ false
closed_unjoined x s c = is_false (is_joined (seen x) s) (λ joined. by c.gone joined) where
  by : (is_present (seen x) s ≡ false) ⊎ ((joined_after (seen x) s ≡ None) × (refused_after (seen x) s ≡ None) × (stage_in (calls_of (seen x) s) ≡ Waiting) × (x.input ≡ Wake → ⊥)) → is_joined (seen x) s ≡ true → ⊥
  by (inl absent_one) joined = not_both (is_present (seen x) s) (joined_present (seen x) s joined) absent_one
  by (inr waits) joined = unjoined_not (seen x) s waits.0 joined

pub closed_uncovered : (x : Step) (s : Session) → IsClosed x s → is_covered (seen x) s ≡ true → ⊥
closed_uncovered x s c is = by c.gone where
  by : (is_present (seen x) s ≡ false) ⊎ ((joined_after (seen x) s ≡ None) × (refused_after (seen x) s ≡ None) × (stage_in (calls_of (seen x) s) ≡ Waiting) × (x.input ≡ Wake → ⊥)) → ⊥
  by (inl absent_one) = not_both (is_present (seen x) s) (covered_present (seen x) s is) absent_one
  by (inr waits) = false_is_true (sym (covered_at_work (seen x) s waits.0 waits.1 ∙ ap (λ q. is_covered_stage q) waits.2) ∙ is)

pub closed_same : (x y : Step) (s : Session) → y.input ≡ x.input → SameSession (seen x) (seen y) s → IsClosed x s → IsClosed y s
closed_same x y s input h c =
    record {
      unwritten = ap (λ ms. list_any (λ (m : Submitted). is_write m.call.op) (unanswered ms)) h.calls ∙ c.unwritten;
      gone = by c.gone;
    } where
      by : (is_present (seen x) s ≡ false) ⊎ ((joined_after (seen x) s ≡ None) × (refused_after (seen x) s ≡ None) × (stage_in (calls_of (seen x) s) ≡ Waiting) × (x.input ≡ Wake → ⊥))
          → (is_present (seen y) s ≡ false) ⊎ ((joined_after (seen y) s ≡ None) × (refused_after (seen y) s ≡ None) × (stage_in (calls_of (seen y) s) ≡ Waiting) × (y.input ≡ Wake → ⊥))
      by (inl absent_one) = inl (same_present (seen x) (seen y) s h ∙ absent_one)
      by (inr waits) = inr (h.joined ∙ waits.0, h.refused ∙ waits.1, ap (λ ms. stage_in ms) h.calls ∙ waits.2, λ wake. waits.3 (sym input ∙ wake))

-- The sessions of before are there.
pub there_now : (x : Step) (s : Session) → Contains (sessions x.setting x.past) s → Contains (sessions x.setting (seen x)) s
there_now x s there = contains_left (sessions x.setting x.past) (begun_in x.setting x.past (length (sessions x.setting x.past)) (entry_of x)) s there

past_there : (x y : Step) (s : Session) → y.setting ≡ x.setting → y.past ≡ x.past → Contains (sessions y.setting y.past) s → Contains (sessions x.setting x.past) s
past_there x y s setting before there = subst (λ es. Contains (sessions x.setting es) s) before (subst (λ st. Contains (sessions st y.past) s) setting there)

names_past : (x y : Step) → y.setting ≡ x.setting → y.past ≡ x.past → NameFacts x.setting x.past None → NameFacts y.setting y.past None
names_past x y setting before h = subst (λ es. NameFacts y.setting es None) (sym before) (subst (λ st. NameFacts st x.past None) (sym setting) h)

-- ---- an act that moves nothing

pub moves_steady : (x y : Step) → Steady x y → MovedSoFar x → MovedSoFar y
moves_steady x y h m =
    record {
      before = names_past x y h.setting h.before m.before;
      opened = λ s there is. subst (λ es. is_covered es s ≡ false) (sym h.before) (m.opened s (past_there x y s h.setting h.before there) (subst (λ ms. list_any (registers s.lockspace) ms ≡ true) h.moves is));
      closed = λ s there present is.
          closed s (past_there x y s h.setting h.before there)
          (m.closed s (past_there x y s h.setting h.before there) (subst (λ es. is_present es s ≡ true) h.before present) (subst (λ ms. list_any (unregisters s.lockspace) ms ≡ true) h.moves is));
    } where
      closed : (s : Session) → Contains (sessions x.setting x.past) s → IsClosed x s → IsClosed y s
      closed s there c =
          let now = there_now x s there in
          closed_same x y s h.input (record { joined = h.joined s now; removed = h.removed s now; refused = h.refused s now; calls = h.calls s now (closed_unjoined x s c) }) c

-- ---- an input

pub moves_seen : (x : Step) (i : Input) → x.input ≡ Wake → x.effects.calls ≡ [] → MovedSoFar x → MovedSoFar (with_input i x)
moves_seen x i wake bare m =
    record {
      before = m.before;
      opened = m.opened;
      closed = λ s there present is. closed s (m.closed s there present is);
    } where
      closed : (s : Session) → IsClosed x s → IsClosed (with_input i x) s
      closed s c =
          record {
            unwritten = is_false (has_open_write (seen (with_input i x)) s) (λ writes. not_both (has_open_write (seen x) s) (write_then x i s wake bare writes) c.unwritten);
            gone = by c.gone;
          } where
            by : (is_present (seen x) s ≡ false) ⊎ ((joined_after (seen x) s ≡ None) × (refused_after (seen x) s ≡ None) × (stage_in (calls_of (seen x) s) ≡ Waiting) × (x.input ≡ Wake → ⊥))
                → (is_present (seen (with_input i x)) s ≡ false)
                ⊎ ((joined_after (seen (with_input i x)) s ≡ None) × (refused_after (seen (with_input i x)) s ≡ None) × (stage_in (calls_of (seen (with_input i x)) s) ≡ Waiting) × (i ≡ Wake → ⊥))
            by (inl absent_one) = inl (is_false (is_present (seen (with_input i x)) s) (λ present. not_both (is_present (seen x) s) (input_present x i s wake bare present) absent_one))
            by (inr waits) = absurd (waits.3 wake)

-- ---- an act of one session

pub record MovesOne (x y : Step) (z : Session) : Type 0 where
  pub setting : y.setting ≡ x.setting
  pub before : y.past ≡ x.past
  pub input : y.input ≡ x.input
  pub alters : Alters x.setting (seen x) (seen y) (heard_by x.input) z
  pub present : is_present (seen x) z ≡ true
  pub alone : IsAlone x.setting (seen x) z
  -- its name alone is removed, or made known anew where it was there and not covered
  pub closes : (n : List ℕ) → bytes_eq n z.lockspace ≡ false → list_any (unregisters n) y.effects.moves ≡ true → list_any (unregisters n) x.effects.moves ≡ true
  pub opens : (n : List ℕ) → list_any (registers n) y.effects.moves ≡ true
      → (list_any (registers n) x.effects.moves ≡ true) ⊎ ((bytes_eq n z.lockspace ≡ true) × Contains (sessions x.setting x.past) z × (is_present x.past z ≡ true) × (is_covered x.past z ≡ false))
  -- it is closed, or was not, and its connection not removed
  pub own : IsClosed y z ⊎ ((IsClosed x z → ⊥) × (list_any (unregisters z.lockspace) y.effects.moves ≡ true → list_any (unregisters z.lockspace) x.effects.moves ≡ true))

pub moves_one : (x y : Step) (z : Session) → SoFar x → MovesOne x y z → MovedSoFar x → MovedSoFar y
moves_one x y z orderly h m =
    record {
      before = names_past x y h.setting h.before m.before;
      opened = λ s there is. subst (λ es. is_covered es s ≡ false) (sym h.before) (opened s (past_there x y s h.setting h.before there) (h.opens s.lockspace is));
      closed = λ s there present is. closed s (past_there x y s h.setting h.before there) (subst (λ es. is_present es s ≡ true) h.before present) is (bytes_eq s.lockspace z.lockspace) refl;
    } where
      opened : (s : Session) → Contains (sessions x.setting x.past) s
          → (list_any (registers s.lockspace) x.effects.moves ≡ true) ⊎ ((bytes_eq s.lockspace z.lockspace ≡ true) × Contains (sessions x.setting x.past) z × (is_present x.past z ≡ true) × (is_covered x.past z ≡ false))
          → is_covered x.past s ≡ false
      opened s there (inl is) = m.opened s there is
      opened s there (inr new) =
          is_false (is_covered x.past s) (λ covered.
          let one : s ≡ z =
          m.before.apart s z (present_inside x.setting x.past s there (covered_present x.past s covered)) (present_inside x.setting x.past z new.1 new.2) ((bytes_eq-Decides s.lockspace z.lockspace).0 new.0)
          in
          not_both (is_covered x.past z) (subst (λ q. is_covered x.past q ≡ true) one covered) new.3)

      -- one that was present no more
      absent_still : (s : Session) → Contains (sessions x.setting (seen x)) s → is_present (seen x) s ≡ false → IsClosed y s
      absent_still s there absent_one =
          record {
            unwritten = is_false (has_open_write (seen y) s) (λ writes. open_one (any_found (λ (k : Submitted). is_write k.call.op) (open_calls_of (seen y) s) writes));
            gone = inl (is_false (is_present (seen y) s) (λ present. not_both (is_present (seen x) s) (h.alters.less s there present) absent_one));
          } where
            open_one : (k : Submitted) × Contains (open_calls_of (seen y) s) k × (is_write k.call.op ≡ true) → ⊥
            open_one f = by (h.alters.writes s f.0 there left.0 f.2 (inl (none_is f.0.answer left.1))) where
              left : Contains (calls_of (seen y) s) f.0 × (is_none f.0.answer ≡ true)
              left = kept_inside (λ (k : Submitted). is_none k.answer) (calls_of (seen y) s) f.0 f.1

              by : (Contains (calls_of (seen x) s) f.0 × IsOpen (seen x) (heard_by x.input) f.0) ⊎ (s ≡ z) → ⊥
              by (inl old) =
                  not_both (has_open_write (seen x) s)
                  (any_of (λ (k : Submitted). is_write k.call.op) (open_calls_of (seen x) s) f.0 f.2 (kept (λ (k : Submitted). is_none k.answer) (calls_of (seen x) s) f.0 left.1 old.0))
                  (absent_closed x s orderly there absent_one).unwritten
              by (inr one) = not_both (is_present (seen x) z) h.present (subst (λ q. is_present (seen x) q ≡ false) one absent_one)

      same_name_closed : (s : Session) → Contains (sessions x.setting x.past) s → is_present x.past s ≡ true → list_any (unregisters s.lockspace) y.effects.moves ≡ true → bytes_eq s.lockspace z.lockspace ≡ true
          → (b : Bool) → is_present (seen x) s ≡ b → IsClosed y s
      same_name_closed s there present is same false absent_one = absent_still s (there_now x s there) absent_one
      same_name_closed s there present is same true now = by h.own where
        one : s ≡ z
        one = h.alone s (there_now x s there) now ((bytes_eq-Decides s.lockspace z.lockspace).0 same)

        by : IsClosed y z ⊎ ((IsClosed x z → ⊥) × (list_any (unregisters z.lockspace) y.effects.moves ≡ true → list_any (unregisters z.lockspace) x.effects.moves ≡ true)) → IsClosed y s
        by (inl c) = subst (λ q. IsClosed y q) (sym one) c
        by (inr none) =
            absurd (none.0 (subst (λ q. IsClosed x q) one
            (m.closed s there present (subst (λ (q : Session). list_any (unregisters q.lockspace) x.effects.moves ≡ true) (sym one) (none.1 (subst (λ (q : Session). list_any (unregisters q.lockspace) y.effects.moves ≡ true) one is))))))

      closed : (s : Session) → Contains (sessions x.setting x.past) s → is_present x.past s ≡ true → list_any (unregisters s.lockspace) y.effects.moves ≡ true → (b : Bool) → bytes_eq s.lockspace z.lockspace ≡ b → IsClosed y s
      closed s there present is false other =
          closed_same x y s h.input (h.alters.other s (there_now x s there) other) (m.closed s there present (h.closes s.lockspace other is))
      closed s there present is true same = same_name_closed s there present is same (is_present (seen x) s) refl
