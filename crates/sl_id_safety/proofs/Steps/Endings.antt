-- A daemon's end, and a reset of its machine: of its sessions one may lose its claim, or end.
use Rattle.sl_id_safety.proofs.State.FindingFrames.{IsFound, find_passes, moved}
use Rattle.sl_id_safety.proofs.State.Frames.{SamePast, decides_past, flying_of, free_landed_by, free_of, is_running, join_past, open_while}
use Rattle.sl_id_safety.specs.State.IdStates.{claim_may_land, deciding_sample, join_course, own_courses, runs_still}
use Rattle.sl_words.proofs.Lists.{contains_cases, contains_none}
use Rattle.sl_run.specs.Safety.{Found, SessionId, free_landed, has_write_in_flight, is_course_of, is_over, trace_of, was_reset}
use Rattle.sl_run.specs.Worlds.{Course, Daemon, Machine, World, daemons_on, is_in_flight, is_write_course, machine_at, may_land, resets_after}
use Rattle.sl_trace.specs.Sessions.{calls_of, ended_after, free_write, is_join_call, refused_after}
use Rattle.sl_trace.specs.declared.effects.JoinStep.TheVariants.{ClaimWrite}
use Rattle.sl_words.proofs.CaseLaws.{is_false, not_both, true_is_false}
use Rattle.sl_words.proofs.WordLaws.{and_true, or_true}
use Rattle.sl_words.specs.Words.{some_is}
use Rattle.std.proofs.Common.{ap, inl, inr, refl, sym, ◌∙◌}
use Rattle.std.proofs.lemmas.Bool.{and_from, or_left, or_right}
use Rattle.std.specs.List.{list_any}
use Rattle.std.specs.Prelude.{Bool, Contains, List, None, Option, Some, false, filter, is_none, is_some, nat_lt, not, true, [], ℕ, ◌&&◌, ◌+◌, ◌==◌, ◌||◌, ◌∷◌, ◌≡◌, ◌⊎◌}

-- ---- what ends

-- Whether a reset of the machine after this step is more than `land` ago.
abbrev pub long_ago : ℕ → ℕ → Machine → ℕ → Bool
long_ago land now a step = list_any (λ r. nat_lt (r.moment + land) now) (resets_after a step)

-- A machine on which a daemon's run ends, or which is reset.
pub record EndsOn (w v : World) (m : ℕ) : Type 0 where
  pub before : Machine
  pub after : Machine
  pub at : machine_at w m ≡ Some before
  pub later : machine_at v m ≡ Some after
  pub elsewhere : (k : ℕ) → (k ≡ m → ⊥) → machine_at v k ≡ machine_at w k
  pub calls : after.calls ≡ before.calls
  pub daemons : daemons_on after ≡ daemons_on before
  pub none : after.daemon ≡ None
  -- a reset of this moment is not long ago
  pub resets : (land step : ℕ) → long_ago land w.moment after step ≡ long_ago land w.moment before step
  pub moment : v.moment ≡ w.moment
  -- the daemon whose sessions may change: for all others nothing changes
  pub daemon : ℕ
  pub steady : (d : Daemon) → Contains (daemons_on before) d → (d.number ≡ daemon → ⊥) → is_running d.number before ≡ false

-- ---- a session of the machine

any_by : (p q : Course → Bool) (c : Course) (cs : List Course) → ((x : Course) → p x ≡ true → q x ≡ true) → (p c ≡ true) ⊎ (list_any p cs ≡ true)
    → (list_any p cs ≡ true → list_any q cs ≡ true) → (q c || list_any q cs) ≡ true
any_by p q c cs more (inl this) rest = or_left (q c) (list_any q cs) (more c this)
any_by p q c cs more (inr there) rest = or_right (q c) (list_any q cs) (rest there)

any_more : (p q : Course → Bool) (cs : List Course) → ((c : Course) → p c ≡ true → q c ≡ true) → list_any p cs ≡ true → list_any q cs ≡ true
any_more p q [] more h = h
any_more p q (c ∷ cs) more h = any_by p q c cs more (or_true (p c) (list_any p cs) h) (any_more p q cs more)

any_has : (p : Course → Bool) (cs : List Course) (c : Course) → Contains cs c → p c ≡ true → list_any p cs ≡ true
any_has p [] c has h = absurd (contains_none c has)
any_has p (x ∷ cs) c has h =
    elim (contains_cases x cs c has) as (λ z. (p x || list_any p cs) ≡ true) [
      | inl e ↦ or_left (p x) (list_any p cs) (ap p e ∙ h)
      | inr more ↦ or_right (p x) (list_any p cs) (any_has p cs c more h)
    ]

open_more : (r a m : Bool) → (a && (false || m)) ≡ true → (a && (r || m)) ≡ true
open_more true true m h = refl
open_more false true m h = h
open_more r false m h = h

writes_more : (r : Bool) (c : Course) → (is_write_course c && open_while false c) ≡ true → (is_write_course c && open_while r c) ≡ true
writes_more r c h =
    let p = and_true (is_write_course c) (open_while false c) h in
    and_from (is_write_course c) (open_while r c) p.0 (open_more r (is_none c.answered) (may_land c) p.1)

-- What is known of a session on the machine.
pub record EndsOf (i : SessionId) (f g : Found) : Type 0 where
  pub past : SamePast i f g
  pub stops : runs_still g ≡ false
  pub reset : was_reset g ≡ was_reset f
  pub flying : has_write_in_flight i g.machine ≡ true → has_write_in_flight i f.machine ≡ true
  pub claim : (c : Course) → join_course i ClaimWrite g.machine ≡ Some c → may_land c ≡ true → has_write_in_flight i g.machine ≡ true

flies_after : (i : SessionId) (a b : Machine) → b.calls ≡ a.calls → is_running i.daemon b ≡ false → has_write_in_flight i b ≡ true
    → has_write_in_flight i a ≡ true
flies_after i a b calls stops h =
    let t : Bool = is_running i.daemon a in
    flying_of i a ∙ any_more (λ x. is_write_course x && open_while false x) (λ x. is_write_course x && open_while t x) (own_courses i a) (writes_more t)
    (ap (λ cs. list_any (λ x. is_write_course x && open_while false x) cs) (sym (ap (λ cs. filter (is_course_of i) cs) calls))
    ∙ ap (λ r. list_any (λ x. is_write_course x && open_while r x) (own_courses i b)) (sym stops) ∙ sym (flying_of i b) ∙ h)

claim_flies : (i : SessionId) (b : Machine) (c : Course) → is_running i.daemon b ≡ false → join_course i ClaimWrite b ≡ Some c → may_land c ≡ true
    → has_write_in_flight i b ≡ true
claim_flies i b c stops at lands =
    let p = find_passes (λ x. is_join_call ClaimWrite x.call.purpose) (own_courses i b) c at in
    let q = and_true (is_write_course c && is_none c.answered) (is_in_flight c.fate) lands in
    let r = and_true (is_write_course c) (is_none c.answered) q.0 in
    flying_of i b ∙ ap (λ t. list_any (λ x. is_write_course x && open_while t x) (own_courses i b)) stops
    ∙ any_has (λ x. is_write_course x && open_while false x) (own_courses i b) c p.there
    (and_from (is_write_course c) (open_while false c) r.0 (and_from (is_none c.answered) (may_land c) r.1 lands))

pub not_running : (n : ℕ) (b : Machine) → b.daemon ≡ None → is_running n b ≡ false
not_running n b h = ap (λ (o : Option Daemon). some_is (λ d. d.number == n) o) h

-- Where no reset comes that is long ago, none has come for the session.
pub resets_found : (n : ℕ) (i : SessionId) (f : Found) (a b : Machine) → IsFound n i a f
    → ((land step : ℕ) → long_ago land n b step ≡ long_ago land n a step) → was_reset (moved b f) ≡ was_reset f
resets_found n i f a b found resets =
    let land : ℕ = f.daemon.setting.timing.land in
    let step : ℕ = f.daemon.begun.step in
    ap (λ k. long_ago land k b step) found.now ∙ resets land step ∙ ap (λ k. long_ago land k a step) (sym found.now)
    ∙ ap (λ x. long_ago land f.now x step) (sym found.machine)

pub ends_of : (n : ℕ) (i : SessionId) (f : Found) (a b : Machine) → IsFound n i a f → b.calls ≡ a.calls → b.daemon ≡ None
    → ((land step : ℕ) → long_ago land n b step ≡ long_ago land n a step) → EndsOf i f (moved b f)
ends_of n i f a b found calls none resets =
    let same : b.calls ≡ f.machine.calls = calls ∙ ap (λ x. x.calls) (sym found.machine) in
    record {
      past = record { calls = ap (λ cs. filter (is_course_of i) cs) same; session = refl; setting = refl; begun = refl; trace = refl; stamps = refl };
      stops = not_running f.daemon.number b none;
      reset = resets_found n i f a b found resets;
      flying = flies_after i f.machine b same (not_running i.daemon b none);
      claim = λ c. claim_flies i b c (not_running i.daemon b none);
    }

-- ---- its flags

claim_by : (o : Option Course) (r s x : Bool) → r ≡ false → elim o as (λ z. Bool) [ None ↦ r && x | Some c ↦ may_land c ] ≡ true
    → elim o as (λ z. Bool) [ None ↦ s && x | Some c ↦ may_land c ] ≡ true
claim_by None r s x stops h = absurd (not_both (r && x) h (ap (λ b. b && x) stops))
claim_by (Some c) r s x stops h = h

claim_is : (i : SessionId) (g : Found) (o : Option Course) (x : Bool) → runs_still g ≡ false → join_course i ClaimWrite g.machine ≡ o
    → elim o as (λ z. Bool) [ None ↦ runs_still g && x | Some c ↦ may_land c ] ≡ true
    → (c : Course) × (join_course i ClaimWrite g.machine ≡ Some c) × (may_land c ≡ true)
claim_is i g None x stops at h = absurd (not_both (runs_still g && x) h (ap (λ b. b && x) stops))
claim_is i g (Some c) x stops at h = (c, at, h)

-- A claim that may land after it might before.
pub pending_before : (i : SessionId) (f g : Found) → EndsOf i f g → (is_some (deciding_sample i g) && claim_may_land i g) ≡ true
    → (is_some (deciding_sample i f) && claim_may_land i f) ≡ true
pending_before i f g e h =
    let p = and_true (is_some (deciding_sample i g)) (claim_may_land i g) h in
    let s = e.past in
    let refused : is_none (refused_after (trace_of g) g.session) ≡ is_none (refused_after (trace_of f) f.session) =
    ap (λ es. is_none (refused_after es g.session)) s.trace ∙ ap (λ x. is_none (refused_after (trace_of f) x)) s.session in
    let claim : elim (join_course i ClaimWrite f.machine) as (λ z. Bool) [ None ↦ runs_still g && is_none (refused_after (trace_of f) f.session) | Some c ↦ may_land c ] ≡ true =
    ap (λ o. elim o as (λ z. Bool) [ None ↦ runs_still g && is_none (refused_after (trace_of f) f.session) | Some c ↦ may_land c ]) (sym (join_past i ClaimWrite f g s))
    ∙ ap (λ b. elim (join_course i ClaimWrite g.machine) as (λ z. Bool) [ None ↦ runs_still g && b | Some c ↦ may_land c ]) (sym refused) ∙ p.1 in
    and_from (is_some (deciding_sample i f)) (claim_may_land i f) (ap is_some (sym (decides_past i f g s)) ∙ p.0)
    (claim_by (join_course i ClaimWrite f.machine) (runs_still g) (runs_still f) (is_none (refused_after (trace_of f) f.session)) e.stops claim)

free_same : (i : SessionId) (f g : Found) → SamePast i f g → free_landed i g ≡ free_landed i f
free_same i f g s =
    free_of i g ∙ ap (λ cs. free_landed_by cs (free_write (calls_of (trace_of g) g.session))) s.calls
    ∙ ap (λ es. free_landed_by (own_courses i f.machine) (free_write (calls_of es g.session))) s.trace
    ∙ ap (λ x. free_landed_by (own_courses i f.machine) (free_write (calls_of (trace_of f) x))) s.session ∙ sym (free_of i f)

only_free : (a b c : Bool) → c ≡ true → (a || b && not c) ≡ true → a ≡ true
only_free true b c h k = refl
only_free false true true h k = absurd (true_is_false (sym k))
only_free false false c h k = absurd (true_is_false (sym k))
only_free false true false h k = absurd (true_is_false (sym h))

-- Where it is over after, but wasn't before, no claim of it may land.
pub last_one : (i : SessionId) (f g : Found) → EndsOf i f g → is_over i f ≡ false → is_over i g ≡ true
    → (is_some (deciding_sample i g) && claim_may_land i g) ≡ false
last_one i f g e alive closed =
    is_false (is_some (deciding_sample i g) && claim_may_land i g) (λ h.
    let p = and_true (is_some (deciding_sample i g)) (claim_may_land i g) h in
    let c = claim_is i g (join_course i ClaimWrite g.machine) (is_none (refused_after (trace_of g) g.session)) e.stops refl p.1 in
    let flies : has_write_in_flight i g.machine ≡ true = e.claim c.0 c.1 c.2 in
    let free : free_landed i g ≡ true =
    only_free (free_landed i g) (is_some (ended_after (trace_of g) g.session) || was_reset g) (has_write_in_flight i g.machine) flies closed in
    not_both (is_over i f)
    (or_left (free_landed i f) ((is_some (ended_after (trace_of f) f.session) || was_reset f) && not (has_write_in_flight i f.machine))
    (sym (free_same i f g e.past) ∙ free)) alive)

over_by : (a b c x y z : Bool) → a ≡ x → (b ≡ true → y ≡ true) → (z ≡ true → c ≡ true) → (a || b && not c) ≡ true → (x || y && not z) ≡ true
over_by true b c x y z same more less h = or_left x (y && not z) (sym same)
over_by false true false x y true same more less h = absurd (true_is_false (sym (less refl)))
over_by false true false x y false same more less h = or_right x (y && true) (and_from y true (more refl) refl)
over_by false true true x y z same more less h = absurd (true_is_false (sym h))
over_by false false c x y z same more less h = absurd (true_is_false (sym h))

or_more : (a b x y : Bool) → a ≡ x → (b ≡ true → y ≡ true) → (a || b) ≡ true → (x || y) ≡ true
or_more true b x y same more h = or_left x y (sym same)
or_more false b x y same more h = or_right x y (more h)

-- One that is over stays over.
pub over_stays : (i : SessionId) (f g : Found) → EndsOf i f g → is_over i f ≡ true → is_over i g ≡ true
over_stays i f g e h =
    let s = e.past in
    let same : is_some (ended_after (trace_of f) f.session) ≡ is_some (ended_after (trace_of g) g.session) =
    sym (ap (λ es. is_some (ended_after es g.session)) s.trace ∙ ap (λ x. is_some (ended_after (trace_of f) x)) s.session) in
    over_by (free_landed i f) (is_some (ended_after (trace_of f) f.session) || was_reset f) (has_write_in_flight i f.machine) (free_landed i g)
    (is_some (ended_after (trace_of g) g.session) || was_reset g) (has_write_in_flight i g.machine) (sym (free_same i f g s))
    (or_more (is_some (ended_after (trace_of f) f.session)) (was_reset f) (is_some (ended_after (trace_of g) g.session)) (was_reset g) same (λ was. e.reset ∙ was))
    e.flying h
