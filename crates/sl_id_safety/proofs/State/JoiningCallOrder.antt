-- The calls of a session's joining come in its order, also once it has joined: each step but the watch comes once, and what comes
-- before it is answered.
use Rattle.sl_words.proofs.Lists.{find_inside, got_inside, kept_inside}
use Rattle.sl_run_law.specs.FatesStay.{Every}
use Rattle.sl_run_law.proofs.Watchdog.TraceNumbers.{begun_is, either_place}
use Rattle.sl_id_safety.proofs.State.PairedLists.{EveryTail}
use Rattle.sl_id_safety.proofs.State.Tails.{AreLater, IsLater, marked_later}
use Rattle.sl_run.proofs.LawFacts.{orderly-front}
use Rattle.sl_run.specs.Lawful.{Orderly}
use Rattle.sl_run.specs.LawfulCalls.{may_submit}
use Rattle.sl_run.specs.LawfulDelta.{LawfulDeltaCall, LawfulJoin}
use Rattle.sl_run.specs.LawForms.{cut_at}
use Rattle.sl_run_law.proofs.Sessions.WritesAreCovered.{joinings_are_in_turn}
use Rattle.sl_run_law.proofs.Sessions.TraceGrowth.{mine_marked, mine_next, other_next, to_all}
use Rattle.sl_run_law.proofs.Sessions.CallsAreMade.{WasOpen, old_or_new, was_marked}
use Rattle.sl_run_law.proofs.Sessions.SessionNames.{absent}
use Rattle.sl_run_law.proofs.Sessions.JoiningsAreOrdered.{begun_before, joinings_are_ordered, old_one}
use Rattle.sl_run_law.proofs.Sessions.CallOwners.{owned, session_more}
use Rattle.sl_run_law.proofs.Sessions.EndedAreSilent.{stage_by}
use Rattle.sl_run_law.specs.Sessions.SessionLaws.{IsSession as IsSessionOf, all_done, fits, fits_as, has_reply, is_in_turn, is_ordered, may_come, may_follow}
use Rattle.sl_trace.specs.Sessions.{begun_in, calls_of, free_write, has_open_write, is_call_of, is_join_call, joined_after, refused_after, removed_after, session_named, session_numbered, sessions, stage_in, stage_of}
use Rattle.sl_trace.specs.declared.session.Session.{Session}
use Rattle.sl_trace.specs.declared.stage.Stage.TheVariants.{Deciding, Ended, Freeing, Looking, Standing, Verifying, Waiting}
use Rattle.sl_trace.specs.declared.stage.Stage.{Stage}
use Rattle.sl_trace.specs.Traces.{Answered, Setting, Submitted, Trace, is_write, mark, new_call, submitted}
use Rattle.sl_trace.specs.declared.effects.Call.{Call}
use Rattle.sl_trace.specs.declared.effects.Entry.{Entry}
use Rattle.sl_trace.specs.declared.effects.JoinStep.TheVariants.{ClaimWrite, DecidingRead, FirstRead, FirstRenewal, VerifyRead, WatchRead}
use Rattle.sl_trace.specs.declared.effects.JoinStep.{JoinStep}
use Rattle.sl_trace.specs.declared.effects.Purpose.TheVariants.{Joining}
use Rattle.sl_trace.specs.declared.effects.Purpose.{Purpose}
use Rattle.sl_words.proofs.CaseLaws.{false_is_true, no_value, none_some, one_value, true_is_false}
use Rattle.sl_words.proofs.WordLaws.{and_true}
use Rattle.std.proofs.Common.{ap, arith, inl, inr, refl, subst, sym, ◌∙◌}
use Rattle.std.proofs.lemmas.Bool.{and_from, eqb-true}
use Rattle.std.specs.Prelude.{Bool, Contains, List, None, Option, Some, [], false, is_none, is_some, length, slice_get, suc, true, ℕ, ◌&&◌, ◌<◌, ◌==◌, ◌||◌, ◌∷◌, ◌≡◌, ◌≤◌, ◌⊎◌}

-- ---- the place of a step

abbrev pub is_joining : Purpose → Bool
is_joining (Joining j step) = true
is_joining p = false

abbrev pub rank_at : JoinStep → ℕ
rank_at FirstRead = 1
rank_at WatchRead = 2
rank_at DecidingRead = 3
rank_at ClaimWrite = 4
rank_at VerifyRead = 5
rank_at FirstRenewal = 6

abbrev pub rank : Purpose → ℕ
rank (Joining j step) = rank_at step
rank p = 0

-- What comes before a step comes before it in the order of a joining; only looks may be many.
abbrev pub Precede : Submitted → Submitted → Type 0
Precede m x = (rank x.call.purpose < rank m.call.purpose) ⊎ ((rank x.call.purpose ≤ 2) × (rank m.call.purpose ≡ 2))

abbrev Ranks : ℕ → ℕ → Type 0
Ranks n k = (n < k) ⊎ ((n ≤ 2) × (k ≡ 2))

follows_at : (a b : JoinStep) (i j : ℕ) → may_follow (Joining i a) (Joining j b) ≡ true → Ranks (rank_at a) (rank_at b)
follows_at FirstRead WatchRead i j h = inl (omega arith)
follows_at FirstRead DecidingRead i j h = inl (omega arith)
follows_at WatchRead WatchRead i j h = inr (omega arith, refl)
follows_at WatchRead DecidingRead i j h = inl (omega arith)
follows_at DecidingRead ClaimWrite i j h = inl (omega arith)
follows_at ClaimWrite VerifyRead i j h = inl (omega arith)
follows_at VerifyRead FirstRenewal i j h = inl (omega arith)
follows_at a b i j h = absurd (false_is_true h)

follows_by : (p q : Purpose) → may_follow p q ≡ true → Ranks (rank p) (rank q)
follows_by (Joining i a) (Joining j b) h = follows_at a b i j h
follows_by p q h = absurd (false_is_true h)

ranks_again : (n k r : ℕ) → Ranks n k → Ranks k r → Ranks n r
ranks_again n k r (inl a) (inl b) = inl (omega (arith, a, b))
ranks_again n k r (inl a) (inr b) = inr (omega (arith, a, b.0), b.1)
ranks_again n k r (inr a) (inl b) = inl (omega (arith, a.0, a.1, b))
ranks_again n k r (inr a) (inr b) = inr (a.0, b.1)

ordered_below : (m : Submitted) (ms : List Submitted) → may_come ms m.call.purpose ≡ true → is_ordered ms ≡ true → Every (Precede m) ms
ordered_below m [] comes h = tt
ordered_below m (y ∷ ys) comes h =
    let parts = and_true (may_come ys y.call.purpose) (is_ordered ys) h in
    let one = follows_by y.call.purpose m.call.purpose comes in
    (one, below_all m y ys one (ordered_below y ys parts.0 parts.1))
  where
    below_all : (m y : Submitted) (ys : List Submitted) → Precede m y → Every (Precede y) ys → Every (Precede m) ys
    below_all m y [] one h = tt
    below_all m y (z ∷ zs) one h = (ranks_again (rank z.call.purpose) (rank y.call.purpose) (rank m.call.purpose) h.0 one, below_all m y zs one h.1)

-- A call of a joining, with those that stood before it.
pub record IsInPlace (m : Submitted) (older : List Submitted) : Type 0 where
  pub below : Every (Precede m) older
  pub fit : fits m ≡ true
  pub done : all_done older ≡ true

abbrev pub InPlace : Submitted → List Submitted → Type 0
InPlace m older = is_joining m.call.purpose ≡ true → IsInPlace m older

done_turn : (ms : List Submitted) → all_done ms ≡ true → is_in_turn ms ≡ true
done_turn [] h = refl
done_turn (m ∷ ms) h =
    let parts = and_true (fits m && has_reply m) (all_done ms) h in
    let one = and_true (fits m) (has_reply m) parts.0 in
    let two = parts.1 in and_from (fits m) (all_done ms) one.0 two

from_order : (ms : List Submitted) → is_in_turn ms ≡ true → is_ordered ms ≡ true → EveryTail InPlace ms
from_order [] turn h = tt
from_order (m ∷ ms) turn h =
    let t = and_true (fits m) (all_done ms) turn in
    let o = and_true (may_come ms m.call.purpose) (is_ordered ms) h in
    (λ joins. record { below = ordered_below m ms o.0 o.1; fit = t.0; done = t.1 }, from_order ms (done_turn ms t.1) o.1)

-- ---- answers

below_later : (m n : Submitted) (ms ns : List Submitted) → IsLater m n → AreLater ms ns → Every (Precede n) ns → Every (Precede m) ms
below_later m n [] ns one all h = tt
below_later m n (x ∷ ms) [] one all h = absurd all
below_later m n (x ∷ ms) (y ∷ ns) one all h = (
  subst (λ (c : Call). Ranks (rank x.call.purpose) (rank c.purpose)) (sym one.same.call)
      (subst (λ (c : Call). Ranks (rank c.purpose) (rank n.call.purpose)) (sym all.0.same.call) h.0),
  below_later m n ms ns one all.1 h.1,
)

fits_later : (m n : Submitted) → IsLater m n → fits n ≡ true → fits m ≡ true
fits_later m n one h = ap (λ (c : Call). fits_as c.purpose (is_write c.op)) one.same.call ∙ h

reply_by : (m n : Submitted) → IsLater m n → (o : Option Answered) → n.answer ≡ o → is_some o ≡ true → has_reply m ≡ true
reply_by m n one None is h = absurd (false_is_true h)
reply_by m n one (Some a) is h = ap (λ (x : Submitted). has_reply x) (one.stays a is) ∙ ap (λ q. is_some q) is

done_later : (ms ns : List Submitted) → AreLater ms ns → all_done ns ≡ true → all_done ms ≡ true
done_later [] ns all h = refl
done_later (x ∷ ms) [] all h = absurd all
done_later (x ∷ ms) (y ∷ ns) all h =
    let parts = and_true (fits y && has_reply y) (all_done ns) h in
    let one = and_true (fits y) (has_reply y) parts.0 in
    and_from (fits x && has_reply x) (all_done ms) (and_from (fits x) (has_reply x) (fits_later x y all.0 one.0) (reply_by x y all.0 y.answer refl one.1)) (done_later ms ns all.1 parts.1)

places_later : (ms ns : List Submitted) → AreLater ms ns → EveryTail InPlace ns → EveryTail InPlace ms
places_later [] ns all h = tt
places_later (m ∷ ms) [] all h = absurd all
places_later (m ∷ ms) (n ∷ ns) all h = (one, places_later ms ns all.1 h.1) where
  one : InPlace m ms
  one joins =
      let was = h.0 (ap (λ (c : Call). is_joining c.purpose) (sym all.0.same.call) ∙ joins) in
      record { below = below_later m n ms ns all.0 all.1 was.below; fit = fits_later m n all.0 was.fit; done = done_later ms ns all.1 was.done }

-- ---- a joined session makes no call of a joining

abbrev is_late : Stage → Bool
is_late Standing = true
is_late Freeing = true
is_late Ended = true
is_late stage = false

late_by : (joined removed refused : Option ℕ) (free : Option Submitted) (joining : Stage) (k : ℕ) → joined ≡ Some k → is_late (stage_by joined removed refused free joining) ≡ true
late_by None removed refused free joining k is = absurd (none_some k is)
late_by (Some j) (Some i) refused free joining k is = refl
late_by (Some j) None refused (Some m) joining k is = refl
late_by (Some j) None refused None joining k is = refl

late : (t : Trace) (s : Session) (k : ℕ) → joined_after t s ≡ Some k → is_late (stage_of t s) ≡ true
late t s k is = late_by (joined_after t s) (removed_after t s) (refused_after t s) (free_write (calls_of t s)) (stage_in (calls_of t s)) k is

no_stage : (t : Trace) (s : Session) (k : ℕ) (x : Stage) → joined_after t s ≡ Some k → stage_of t s ≡ x → is_late x ≡ false → ⊥
no_stage t s k x joined is early = true_is_false (sym (late t s k joined) ∙ ap (λ y. is_late y) is ∙ early)

pub joined_not : (st : Setting) (t : Trace) (s : Session) (n : Submitted) (k : ℕ) (p : Purpose) → LawfulDeltaCall st t s n p → joined_after t s ≡ Some k
    → (session_named st t s.lockspace ≡ None → ⊥) → is_joining p ≡ false
joined_not st t s n k (Joining j FirstRead) law joined named = absurd (named law.apart)
joined_not st t s n k (Joining j WatchRead) law joined named = absurd (no_stage t s k Looking joined law.looking refl)
joined_not st t s n k (Joining j DecidingRead) law joined named = absurd (no_stage t s k Looking joined law.looking refl)
joined_not st t s n k (Joining j ClaimWrite) law joined named = absurd (no_stage t s k Deciding joined law.deciding refl)
joined_not st t s n k (Joining j VerifyRead) law joined named = absurd (no_stage t s k Waiting joined law.waiting refl)
joined_not st t s n k (Joining j FirstRenewal) law joined named = absurd (no_stage t s k Verifying joined law.verifying refl)
joined_not st t s n k p law joined named = refl

present_by : (joined removed refused : Option ℕ) (free : Option Submitted) (joining : Stage) (b : Bool) (k : ℕ) → joined ≡ Some k
    → may_submit (stage_by joined removed refused free joining) ≡ true
    → (is_none (elim joined as (λ x. Option ℕ) [ Some j ↦ removed | None ↦ refused ]) || is_none joined && b) ≡ true
present_by None removed refused free joining b k is may = absurd (none_some k is)
present_by (Some j) (Some i) refused free joining b k is may = absurd (false_is_true may)
present_by (Some j) None refused free joining b k is may = refl

pub has_name : (st : Setting) (t : Trace) (s : Session) (k : ℕ) → Contains (sessions st t) s → joined_after t s ≡ Some k → may_submit (stage_of t s) ≡ true
    → session_named st t s.lockspace ≡ None → ⊥
has_name st t s k there joined may none =
    absent st t s.lockspace s there refl none
    (present_by (joined_after t s) (removed_after t s) (refused_after t s) (free_write (calls_of t s)) (stage_in (calls_of t s)) (has_open_write t s) k joined may)

-- ---- a joined session had begun before

-- A call that is answered after an entry had been made before it.
pub answered_old : (e : Entry) (past : Trace) (m : Submitted) (a : Answered) → Contains (submitted (e ∷ past)) m → m.answer ≡ Some a → WasOpen (submitted past) m
answered_old e past m a there is =
    was_marked past e e.input (submitted past) m
    (old_one m (length past) e.reading e.effects.calls (mark past e e.input (submitted past)) (ap (λ o. is_some o) is)
    (old_or_new (length past) e.reading e.effects.calls (mark past e e.input (submitted past)) m there))

joined_renewal : (st : Setting) (e : Entry) (past : Trace) (s : Session) → Orderly st (e ∷ past) → IsSessionOf st (e ∷ past) s → (k : ℕ) → LawfulJoin (e ∷ past) s k
    → IsSessionOf st past s
joined_renewal st e past s h its k j =
    let found = find_inside (λ (m : Submitted). is_join_call FirstRenewal m.call.purpose) (calls_of (e ∷ past) s) j.renewal j.first in
    let own = kept_inside (is_call_of s) (submitted (e ∷ past)) j.renewal found.0 in
    let w = answered_old e past j.renewal j.answer own.0 j.done.0 in
    let number = ap (λ (c : Call). c.session) (sym w.same.call) ∙ eqb-true j.renewal.call.session s.number own.1 in
    ap (λ n. session_numbered st past n) (sym number)
    ∙ begun_before st e past s h (λ x at. one_value x s (session_numbered st (e ∷ past) s.number) at its) w.before w.inside number

pub begun_if_joined : (st : Setting) (e : Entry) (past : Trace) (s : Session) → Orderly st (e ∷ past) → IsSessionOf st (e ∷ past) s → (k : ℕ) → joined_after (e ∷ past) s ≡ Some k
    → IsSessionOf st past s
begun_if_joined st e past s h its k joined = by s.job refl where
  by : (job : Option ℕ) → s.job ≡ job → IsSessionOf st past s
  by (Some j) is = joined_renewal st e past s h its k (h.delta.0.joins s (got_inside (sessions st (e ∷ past)) s.number s its) j k is joined)
  by None is =
      elim (either_place (sessions st past) (begun_in st past (length (sessions st past)) e) s.number s its) as (λ z. IsSessionOf st past s) [
        | inl was ↦ was
        | inr new ↦ let job = (begun_is st past (length (sessions st past)) new.0 e s new.2).1.job in absurd (no_value job.0 s.job job.1 is)
      ]

-- ---- along the trace

place_next : (st : Setting) (e : Entry) (past : Trace) (s : Session) → Orderly st (e ∷ past) → IsSessionOf st (e ∷ past) s → IsSessionOf st past s
    → (j : ℕ) → joined_after (e ∷ past) s ≡ Some j → (k : ℕ) (c : Call) → slice_get e.effects.calls k ≡ Some c → (b : Bool) → (c.session == s.number) ≡ b
    → EveryTail InPlace (calls_of (cut_at k e ∷ past) s) → EveryTail InPlace (calls_of (cut_at (suc k) e ∷ past) s)
place_next st e past s h its was j joined k c at false other old = subst (EveryTail InPlace) (sym (other_next past e s k c at other)) old
place_next st e past s h its was j joined k c at true mine old =
    let own = owned st [] e past s h its k c at (eqb-true c.session s.number mine) in
    let t : Trace = cut_at k e ∷ past in
    let none = joined_not st t s (new_call (length past) e.reading c) j c.purpose (h.delta.0.calls k c s at own) joined
    (has_name st t s j (got_inside (sessions st t) s.number s (session_more st (cut_at k e) past s.number s was)) joined (h.calls.0.alive k c s at own)) in
    subst (EveryTail InPlace) (sym (mine_next past e s k c at mine)) (λ joins. absurd (true_is_false (sym joins ∙ none)), old)

pub in_place : (st : Setting) (es : Trace) (s : Session) → Orderly st es → IsSessionOf st es s → EveryTail InPlace (calls_of es s)
in_place st [] s h its = tt
in_place st (e ∷ past) s h its = by (λ was. in_place st past s (orderly-front st (e ∷ []) past h) was) (joined_after (e ∷ past) s) refl where
  by : (IsSessionOf st past s → EveryTail InPlace (calls_of past s)) → (o : Option ℕ) → joined_after (e ∷ past) s ≡ o → EveryTail InPlace (calls_of (e ∷ past) s)
  by rest None none = from_order (calls_of (e ∷ past) s) (joinings_are_in_turn st (e ∷ past) s h its none) (joinings_are_ordered st (e ∷ past) s h its none)
  by rest (Some j) joined =
      let was = begun_if_joined st e past s h its j joined in
      to_all (λ t. EveryTail InPlace (calls_of t s)) e past
      (subst (EveryTail InPlace) (sym (mine_marked past e s))
      (places_later (mark past (cut_at 0 e) e.input (calls_of past s)) (calls_of past s) (marked_later past (cut_at 0 e) e.input (calls_of past s)) (rest was)))
      (λ k c at old. place_next st e past s h its was j joined k c at (c.session == s.number) refl old)
