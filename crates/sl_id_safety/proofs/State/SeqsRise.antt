-- The delta records that a session writes: one generation, and each seq above all before.
use Rattle.sl_run_law.proofs.Course.Daemons.{every_has}
use Rattle.sl_run_law.proofs.Place.Looks.{stands}
use Rattle.sl_words.proofs.Lists.{contains_cases, contains_first, contains_more, contains_none, find_inside, got_inside, kept, kept_inside}
use Rattle.sl_words.proofs.Options.{then_value}
use Rattle.sl_run_law.specs.FatesStay.{Every}
use Rattle.sl_id_safety.proofs.State.ClaimsHaveDecided.{done_of}
use Rattle.sl_id_safety.proofs.State.CallLaws.{IsLawfulCall, lawful_call}
use Rattle.sl_id_safety.proofs.State.PairedLists.{EveryTail, every_from}
use Rattle.sl_run_law.proofs.Place.FoundInLists.{partner_of}
use Rattle.sl_id_safety.proofs.State.JoiningCallOrder.{InPlace, Precede, answered_old, rank, rank_at}
use Rattle.sl_id_safety.proofs.State.JoiningSteps.{ranks_of, twice}
use Rattle.sl_id_safety.proofs.State.Tails.{AreLater, AreMade, all_made, IsLater, IsMadeAfter, front_at, marked_later}
use Rattle.sl_run.specs.Lawful.{Orderly}
use Rattle.sl_run.specs.LawfulDelta.{LawfulDeltaCall, LawfulFirstRenewal, LawfulJoin}
use Rattle.sl_run.specs.LawForms.{cut_at}
use Rattle.sl_sector.specs.Bitmaps.{no_bits}
use Rattle.sl_sector.specs.declared.sector.DeltaRec.{DeltaRec}
use Rattle.sl_sector.specs.declared.sector.DeltaState.TheVariants.{Free, Live}
use Rattle.sl_sector.specs.declared.sector.DeltaState.{DeltaState}
use Rattle.sl_run_law.proofs.Sessions.TraceGrowth.{mine_marked, mine_next, other_next, to_cut}
use Rattle.sl_run_law.specs.Sessions.SessionLaws.{IsSession as IsSessionOf, fits_as}
use Rattle.sl_trace.specs.DeltaDecisions.{claim_of, delta_of_session, delta_record}
use Rattle.sl_trace.specs.Sessions.{calls_of, delta_of_record, delta_written, generation_in, generation_of, given_number, is_call_of, is_delta_purpose, is_free_purpose, is_join_call, is_survey_purpose, join_call, last_delta, last_seq, seq_in, sessions, stage_of}
use Rattle.sl_trace.specs.declared.session.Session.{Session}
use Rattle.sl_trace.specs.declared.stage.Stage.TheVariants.{Standing}
use Rattle.sl_trace.specs.Traces.{Setting, Submitted, Trace, is_write, mark, new_call, record_of, submitted}
use Rattle.sl_trace.specs.declared.effects.Call.{Call}
use Rattle.sl_trace.specs.declared.effects.Entry.{Entry}
use Rattle.sl_trace.specs.declared.effects.JoinStep.TheVariants.{ClaimWrite, DecidingRead, FirstRead, FirstRenewal, VerifyRead, WatchRead}
use Rattle.sl_trace.specs.declared.effects.JoinStep.{JoinStep}
use Rattle.sl_trace.specs.declared.effects.Op.TheVariants.{ReadSectors, WriteRecord}
use Rattle.sl_trace.specs.declared.effects.Op.{Op}
use Rattle.sl_trace.specs.declared.effects.Purpose.TheVariants.{Joining, Leaving, Renewal, Survey}
use Rattle.sl_trace.specs.declared.effects.Purpose.{Purpose}
use Rattle.sl_words.proofs.CaseLaws.{false_is_true, no_value, none_some, one_value, true_is_false}
use Rattle.std.proofs.Common.{ap, arith, inl, inr, refl, subst, sym, ◌∙◌}
use Rattle.std.specs.Option.{option_map_or}
use Rattle.std.specs.Prelude.{Bool, Contains, List, None, Option, Some, [], false, length, not, option_and_then, slice_get, suc, true, ℕ, ◌&&◌, ◌+◌, ◌<◌, ◌==◌, ◌∷◌, ◌≡◌, ◌⊎◌}

-- ---- the shape of what a session writes beside its claim

-- The first renewal continues the claim.
pub record IsFirst (st : Setting) (t : Trace) (s : Session) (n : Submitted) (d : DeltaRec) (p : Purpose) : Type 0 where
  pub at : is_join_call FirstRenewal p ≡ true
  pub law : LawfulFirstRenewal st t s n
  pub generation : d.generation ≡ law.claim.generation
  pub seq : d.seq ≡ law.claim.seq + 1

-- Any later one continues the last.
pub record IsNext (t : Trace) (s : Session) (d : DeltaRec) : Type 0 where
  pub standing : stage_of t s ≡ Standing
  pub generation : d.generation ≡ generation_of t s
  pub seq : d.seq ≡ last_seq t s + 1

pub record IsShaped (st : Setting) (t : Trace) (s : Session) (n : Submitted) (d : DeltaRec) (p : Purpose) : Type 0 where
  pub delta : (is_delta_purpose p && not (is_survey_purpose p)) ≡ true
  pub names : (d.lockspace ≡ s.lockspace) × (d.id ≡ s.id) × (d.host ≡ Some st.name)
  pub state : (d.state ≡ Live) ⊎ ((d.state ≡ Free) × (is_free_purpose p ≡ true))
  pub live : is_free_purpose p ≡ false → d.state ≡ Live
  pub kind : IsFirst st t s n d p ⊎ IsNext t s d

unwritten : (op : Op) (n : ℕ) (d : DeltaRec) → op ≡ ReadSectors n → option_and_then delta_of_record (record_of op) ≡ Some d → ⊥
unwritten op n d reads is = none_some d (ap (λ x. option_and_then delta_of_record (record_of x)) (sym reads) ∙ is)

names_of_record : (st : Setting) (s : Session) (state : DeltaState) (generation seq now : ℕ) (bits : List ℕ) (d : DeltaRec)
    → delta_record (delta_of_session st s) state generation seq now bits ≡ d → (d.lockspace ≡ s.lockspace) × (d.id ≡ s.id) × (d.host ≡ Some st.name)
names_of_record st s state generation seq now bits d is = (ap (λ x. x.lockspace) (sym is), ap (λ x. x.id) (sym is), ap (λ x. x.host) (sym is))

shape_first : (st : Setting) (t : Trace) (s : Session) (n : Submitted) (d : DeltaRec) (j : ℕ) (law : LawfulFirstRenewal st t s n)
    → delta_record (delta_of_session st s) Live law.claim.generation (law.claim.seq + 1) n.reading no_bits ≡ d → IsShaped st t s n d (Joining j FirstRenewal)
shape_first st t s n d j law is =
    record {
      delta = refl;
      names = names_of_record st s Live law.claim.generation (law.claim.seq + 1) n.reading no_bits d is;
      state = inl (ap (λ x. x.state) (sym is));
      live = λ apart. ap (λ x. x.state) (sym is);
      kind = inl (record { at = refl; law = law; generation = ap (λ x. x.generation) (sym is); seq = ap (λ x. x.seq) (sym is) });
    }

shape_next : (st : Setting) (t : Trace) (s : Session) (n : Submitted) (d : DeltaRec) (bits : List ℕ) → stage_of t s ≡ Standing
    → delta_record (delta_of_session st s) Live (generation_of t s) (last_seq t s + 1) n.reading bits ≡ d → IsShaped st t s n d Renewal
shape_next st t s n d bits standing is =
    record {
      delta = refl;
      names = names_of_record st s Live (generation_of t s) (last_seq t s + 1) n.reading bits d is;
      state = inl (ap (λ x. x.state) (sym is));
      live = λ apart. ap (λ x. x.state) (sym is);
      kind = inr (record { standing = standing; generation = ap (λ x. x.generation) (sym is); seq = ap (λ x. x.seq) (sym is) });
    }

shape_last : (st : Setting) (t : Trace) (s : Session) (n : Submitted) (d : DeltaRec) (j : ℕ) → stage_of t s ≡ Standing
    → delta_record (delta_of_session st s) Free (generation_of t s) (last_seq t s + 1) n.reading no_bits ≡ d → IsShaped st t s n d (Leaving j)
shape_last st t s n d j standing is =
    record {
      delta = refl;
      names = names_of_record st s Free (generation_of t s) (last_seq t s + 1) n.reading no_bits d is;
      state = inr (ap (λ x. x.state) (sym is), refl);
      live = λ apart. absurd (true_is_false apart);
      kind = inr (record { standing = standing; generation = ap (λ x. x.generation) (sym is); seq = ap (λ x. x.seq) (sym is) });
    }

pub shape : (st : Setting) (t : Trace) (s : Session) (n : Submitted) (d : DeltaRec) (p : Purpose) → LawfulDeltaCall st t s n p → delta_written n ≡ Some d
    → is_join_call ClaimWrite p ≡ false → IsShaped st t s n d p
shape st t s n d (Joining j FirstRead) law is apart = absurd (unwritten n.call.op 1 d law.reads is)
shape st t s n d (Joining j WatchRead) law is apart = absurd (unwritten n.call.op 1 d law.reads is)
shape st t s n d (Joining j DecidingRead) law is apart = absurd (unwritten n.call.op 1 d law.reads is)
shape st t s n d (Joining j VerifyRead) law is apart = absurd (unwritten n.call.op 1 d law.reads is)
shape st t s n d (Joining j ClaimWrite) law is apart = absurd (true_is_false apart)
shape st t s n d (Joining j FirstRenewal) law is apart =
    shape_first st t s n d j law
    (one_value (delta_record (delta_of_session st s) Live law.claim.generation (law.claim.seq + 1) n.reading no_bits) d (delta_written n) law.written is)
shape st t s n d Renewal law is apart =
    shape_next st t s n d law.bitmap law.standing
    (one_value (delta_record (delta_of_session st s) Live (generation_of t s) (last_seq t s + 1) n.reading law.bitmap) d (delta_written n) law.written is)
shape st t s n d (Leaving j) law is apart =
    shape_last st t s n d j law.standing
    (one_value (delta_record (delta_of_session st s) Free (generation_of t s) (last_seq t s + 1) n.reading no_bits) d (delta_written n) law.written is)
shape st t s n d Survey law is apart = absurd (unwritten n.call.op st.layout.hosts d law.whole.2 is)
shape st t s n d p law is apart = absurd (no_value d (delta_written n) is law)

-- ---- a joined session has its first renewal behind it

front_next : (e : Entry) (past : Trace) (s : Session) (r : Submitted) (k : ℕ) (c : Call) → slice_get e.effects.calls k ≡ Some c → (b : Bool) → (c.session == s.number) ≡ b
    → Contains (calls_of (cut_at k e ∷ past) s) r → Contains (calls_of (cut_at (suc k) e ∷ past) s) r
front_next e past s r k c at false other there = subst (λ ms. Contains ms r) (sym (other_next past e s k c at other)) there
front_next e past s r k c at true mine there =
    subst (λ ms. Contains ms r) (sym (mine_next past e s k c at mine)) (contains_more (new_call (length past) e.reading c) (calls_of (cut_at k e ∷ past) s) r there)

front_keeps : (e : Entry) (past : Trace) (s : Session) (r : Submitted) (k : ℕ) → Contains (calls_of (cut_at 0 e ∷ past) s) r → Contains (calls_of (cut_at k e ∷ past) s) r
front_keeps e past s r k there =
    to_cut (λ t. Contains (calls_of t s) r) e past there (λ j c at old. front_next e past s r j c at (c.session == s.number) refl old) k

-- A call of before an entry is at each of its fronts.
at_front : (e : Entry) (past : Trace) (s : Session) (b : Submitted) (k : ℕ) → Contains (calls_of past s) b
    → (r : Submitted) × Contains (calls_of (cut_at k e ∷ past) s) r × IsLater r b
at_front e past s b k there =
    let ms : List Submitted = mark past (cut_at 0 e) e.input (calls_of past s) in
    let one = partner_of IsLater ms (calls_of past s) b (marked_later past (cut_at 0 e) e.input (calls_of past s)) there in
    (one.0, front_keeps e past s one.0 k (subst (λ xs. Contains xs one.0) (sym (mine_marked past e s)) one.1), one.2)

abbrev pub HasFirst : List Submitted → Type 0
HasFirst ms = (q : Submitted) × Contains ms q × (is_join_call FirstRenewal q.call.purpose ≡ true)

renewal_behind : (es : Trace) (s : Session) (m : Submitted) (older : List Submitted) (d : IsMadeAfter es s m older) (k : ℕ) → LawfulJoin (d.entry ∷ d.past) s k → HasFirst older
renewal_behind es s m older d k j =
    let found = find_inside (λ (x : Submitted). is_join_call FirstRenewal x.call.purpose) (calls_of (d.entry ∷ d.past) s) j.renewal j.first in
    let own = kept_inside (is_call_of s) (submitted (d.entry ∷ d.past)) j.renewal found.0 in
    let w = answered_old d.entry d.past j.renewal j.answer own.0 j.done.0 in
    let mine : is_call_of s w.before ≡ true = ap (λ (x : Call). x.session == s.number) (sym w.same.call) ∙ own.1 in
    let one = at_front d.entry d.past s w.before d.index (kept (is_call_of s) (submitted d.past) w.before mine w.inside) in
    let two = partner_of IsLater older (calls_of (front_at d) s) one.0 d.prior one.1 in
    (two.0, two.1, ap (λ (x : Call). is_join_call FirstRenewal x.purpose) (two.2.same.call ∙ one.2.same.call ∙ sym w.same.call) ∙ found.1)

pub joined_behind : (st : Setting) (es : Trace) (s : Session) (m : Submitted) (older : List Submitted) (d : IsMadeAfter es s m older) → IsLawfulCall st es s m older d
    → stage_of (front_at d) s ≡ Standing → (s.job ≡ None) ⊎ HasFirst older
joined_behind st es s m older d l is = by s.job refl where
  by : (job : Option ℕ) → s.job ≡ job → (s.job ≡ None) ⊎ HasFirst older
  by None none = inl none
  by (Some j) job =
      let k = stands (front_at d) s is in
      inr (renewal_behind es s m older d k.0
      (l.lawful.delta.0.joins s (got_inside (sessions st (d.entry ∷ d.past)) m.call.session s l.its) j k.0 job k.1))

-- ---- by what stands behind it

pub record OfClaim (older : List Submitted) (d : DeltaRec) : Type 0 where
  pub claim : DeltaRec
  pub call : Submitted
  pub inside : Contains older call
  pub at : is_join_call ClaimWrite call.call.purpose ≡ true
  pub written : delta_written call ≡ Some claim
  pub generation : d.generation ≡ claim.generation
  pub seq : d.seq ≡ claim.seq + 1

pub record OfLast (s : Session) (older : List Submitted) (d : DeltaRec) : Type 0 where
  pub generation : d.generation ≡ generation_in s older
  pub seq : d.seq ≡ seq_in s older + 1
  pub joined : (s.job ≡ None) ⊎ HasFirst older

-- A call that writes a delta record, with those behind it.
abbrev pub Shaped : Session → Submitted → List Submitted → Type 0
Shaped s m older = (d : DeltaRec) → delta_written m ≡ Some d → is_join_call ClaimWrite m.call.purpose ≡ false
    → (OfClaim older d × (is_join_call FirstRenewal m.call.purpose ≡ true)) ⊎ OfLast s older d

-- What was claimed at a front stands behind.
pub claim_behind : (es : Trace) (s : Session) (m : Submitted) (older : List Submitted) (d : IsMadeAfter es s m older) (claim : DeltaRec)
    → claim_of (calls_of (front_at d) s) ≡ Some claim
    → (q : Submitted) × Contains older q × (is_join_call ClaimWrite q.call.purpose ≡ true) × (delta_written q ≡ Some claim)
claim_behind es s m older d claim is =
    let one = then_value delta_written (join_call (calls_of (front_at d) s) ClaimWrite) claim is in
    let there = find_inside (λ (x : Submitted). is_join_call ClaimWrite x.call.purpose) (calls_of (front_at d) s) one.0 one.1 in
    let two = partner_of IsLater older (calls_of (front_at d) s) one.0 d.prior there.0 in (
      two.0,
      two.1,
      ap (λ (x : Call). is_join_call ClaimWrite x.purpose) two.2.same.call ∙ there.1,
      ap (λ (x : Call). option_and_then delta_of_record (record_of x.op)) two.2.same.call ∙ one.2,
    )

abbrev last_by : Option DeltaRec → Option DeltaRec → Option DeltaRec
last_by o rest = elim o [ Some d ↦ Some d | None ↦ rest ]

last_later : (ms ns : List Submitted) → AreLater ms ns → last_delta ms ≡ last_delta ns
last_later [] [] h = refl
last_later [] (n ∷ ns) h = absurd h
last_later (m ∷ ms) [] h = absurd h
last_later (m ∷ ms) (n ∷ ns) h =
    ap (λ (c : Call). last_by (option_and_then delta_of_record (record_of c.op)) (last_delta ms)) h.0.same.call
    ∙ ap (λ o. last_by (delta_written n) o) (last_later ms ns h.1)

of_claim : (st : Setting) (es : Trace) (s : Session) (m : Submitted) (older : List Submitted) (x : IsMadeAfter es s m older) (n : Submitted) (d : DeltaRec) (p : Purpose)
    → IsFirst st (front_at x) s n d p → OfClaim older d
of_claim st es s m older x n d p f =
    let q = claim_behind es s m older x f.law.claim f.law.claimed in
    record { claim = f.law.claim; call = q.0; inside = q.1; at = q.2; written = q.3; generation = f.generation; seq = f.seq }

of_last : (st : Setting) (es : Trace) (s : Session) (m : Submitted) (older : List Submitted) (x : IsMadeAfter es s m older) (d : DeltaRec) → IsLawfulCall st es s m older x
    → IsNext (front_at x) s d → OfLast s older d
of_last st es s m older x d l n =
    let same = last_later older (calls_of (front_at x) s) x.prior in
    record {
      generation = n.generation ∙ ap (λ o. option_map_or (λ (e : DeltaRec). e.generation) o (given_number s)) (sym same);
      seq = n.seq ∙ ap (λ o. option_map_or (λ (e : DeltaRec). e.seq) o (given_number s) + 1) (sym same);
      joined = joined_behind st es s m older x l n.standing;
    }

shaped_at : (st : Setting) (es : Trace) (s : Session) → Orderly st es → IsSessionOf st es s → (m : Submitted) (older : List Submitted) → IsMadeAfter es s m older → Shaped s m older
shaped_at st es s h its m older x d is apart =
    let l = lawful_call st es s m older x h its in
    let k = shape st (front_at x) s (new_call (length x.past) x.entry.reading m.call) d m.call.purpose l.law is apart in
    elim k.kind as (λ z. (OfClaim older d × (is_join_call FirstRenewal m.call.purpose ≡ true)) ⊎ OfLast s older d) [
      | inl first ↦ inl (of_claim st es s m older x (new_call (length x.past) x.entry.reading m.call) d m.call.purpose first, first.at)
      | inr next ↦ inr (of_last st es s m older x d l next)
    ]

all_shaped_by : (st : Setting) (es : Trace) (s : Session) → Orderly st es → IsSessionOf st es s → (ms : List Submitted) → AreMade es s ms → EveryTail (Shaped s) ms
all_shaped_by st es s h its [] made = tt
all_shaped_by st es s h its (m ∷ ms) made = (shaped_at st es s h its m ms made.0, all_shaped_by st es s h its ms made.1)

pub all_shaped : (st : Setting) (es : Trace) (s : Session) → Orderly st es → IsSessionOf st es s → EveryTail (Shaped s) (calls_of es s)
all_shaped st es s h its = all_shaped_by st es s h its (calls_of es s) (all_made es s)

-- A first renewal writes.
abbrev pub Renews : Submitted → Type 0
Renews m = is_join_call FirstRenewal m.call.purpose ≡ true → (e : DeltaRec) × (delta_written m ≡ Some e)

renews_by : (st : Setting) (t : Trace) (s : Session) (n : Submitted) (p : Purpose) → LawfulDeltaCall st t s n p → is_join_call FirstRenewal p ≡ true
    → (e : DeltaRec) × (delta_written n ≡ Some e)
renews_by st t s n (Joining j FirstRenewal) law is = (delta_record (delta_of_session st s) Live law.claim.generation (law.claim.seq + 1) n.reading no_bits, law.written)
renews_by st t s n (Joining j FirstRead) law is = absurd (false_is_true is)
renews_by st t s n (Joining j WatchRead) law is = absurd (false_is_true is)
renews_by st t s n (Joining j DecidingRead) law is = absurd (false_is_true is)
renews_by st t s n (Joining j ClaimWrite) law is = absurd (false_is_true is)
renews_by st t s n (Joining j VerifyRead) law is = absurd (false_is_true is)
renews_by st t s n p law is = absurd (false_is_true is)

all_renew_by : (st : Setting) (es : Trace) (s : Session) → Orderly st es → IsSessionOf st es s → (ms : List Submitted) → AreMade es s ms → Every Renews ms
all_renew_by st es s h its [] made = tt
all_renew_by st es s h its (m ∷ ms) made = (
  λ is. renews_by st (front_at made.0) s (new_call (length made.0.past) made.0.entry.reading m.call) m.call.purpose (lawful_call st es s m ms made.0 h its).law is,
  all_renew_by st es s h its ms made.1,
)

pub all_renew : (st : Setting) (es : Trace) (s : Session) → Orderly st es → IsSessionOf st es s → Every Renews (calls_of es s)
all_renew st es s h its = all_renew_by st es s h its (calls_of es s) (all_made es s)

-- ---- one generation

abbrev pub HasGeneration : ℕ → Submitted → Type 0
HasGeneration g m = (d : DeltaRec) → delta_written m ≡ Some d → d.generation ≡ g

abbrev pub ClaimHasGeneration : ℕ → Submitted → Type 0
ClaimHasGeneration g m = is_join_call ClaimWrite m.call.purpose ≡ true → HasGeneration g m

pub last_inside : (ms : List Submitted) (d : DeltaRec) → last_delta ms ≡ Some d → (m : Submitted) × Contains ms m × (delta_written m ≡ Some d)
last_inside [] d is = absurd (none_some d is)
last_inside (m ∷ ms) d is = by (λ more. last_inside ms d more) (delta_written m) refl is where
  by : (last_delta ms ≡ Some d → (x : Submitted) × Contains ms x × (delta_written x ≡ Some d)) → (o : Option DeltaRec) → delta_written m ≡ o → last_by o (last_delta ms) ≡ Some d
      → (x : Submitted) × Contains (m ∷ ms) x × (delta_written x ≡ Some d)
  by rest (Some e) its at = (m, contains_first m ms, its ∙ at)
  by rest None its at = let r = rest at in (r.0, contains_more m ms r.0 r.1, r.2)

pub last_none : (ms : List Submitted) → last_delta ms ≡ None → (m : Submitted) → Contains ms m → (d : DeltaRec) → delta_written m ≡ Some d → ⊥
last_none [] none m there d is = contains_none m there
last_none (x ∷ ms) none m there d is = by (λ rest old. last_none ms rest m old d is) (delta_written x) refl none (contains_cases x ms m there) where
  by : (last_delta ms ≡ None → Contains ms m → ⊥) → (o : Option DeltaRec) → delta_written x ≡ o → last_by o (last_delta ms) ≡ None → (x ≡ m) ⊎ Contains ms m → ⊥
  by rest (Some e) its at place = none_some e (sym at)
  by rest None its at (inl here) = no_value d (delta_written m) is (ap (λ (y : Submitted). delta_written y) (sym here) ∙ its)
  by rest None its at (inr old) = rest at old

given_one : (s : Session) (g : ℕ) → s.job ≡ None → g ≡ 1 → given_number s ≡ g
given_one s g none one = ap (λ (o : Option ℕ). elim o as (λ z. ℕ) [ None ↦ 1 | Some j ↦ 0 ]) none ∙ sym one

last_generation : (s : Session) (g : ℕ) (older : List Submitted) → (s.job ≡ None → g ≡ 1) → Every Renews older → Every (HasGeneration g) older → (s.job ≡ None) ⊎ HasFirst older
    → generation_in s older ≡ g
last_generation s g older given renews each joined = by (last_delta older) refl joined where
  by : (o : Option DeltaRec) → last_delta older ≡ o → (s.job ≡ None) ⊎ HasFirst older → option_map_or (λ (e : DeltaRec). e.generation) o (given_number s) ≡ g
  by (Some e) is j = let r = last_inside older e is in every_has (HasGeneration g) older r.0 each r.1 e r.2
  by None is (inl none) = given_one s g none (given none)
  by None is (inr first) =
      let w = every_has Renews older first.0 renews first.1 first.2 in
      absurd (last_none older is first.0 first.1 w.0 w.1)

pub one_generation : (s : Session) (g : ℕ) → (s.job ≡ None → g ≡ 1) → (ms : List Submitted) → EveryTail (Shaped s) ms → Every Renews ms → Every (ClaimHasGeneration g) ms
    → Every (HasGeneration g) ms
one_generation s g given [] shaped renews claims = tt
one_generation s g given (m ∷ ms) shaped renews claims =
    let rest = one_generation s g given ms shaped.1 renews.1 claims.1 in
    (λ d is. by rest d is (is_join_call ClaimWrite m.call.purpose) refl, rest)
  where
    of_kind : Every (HasGeneration g) ms → (d : DeltaRec) → (OfClaim ms d × (is_join_call FirstRenewal m.call.purpose ≡ true)) ⊎ OfLast s ms d → d.generation ≡ g
    of_kind rest d (inl c) = c.0.generation ∙ every_has (HasGeneration g) ms c.0.call rest c.0.inside c.0.claim c.0.written
    of_kind rest d (inr l) = l.generation ∙ last_generation s g ms given renews.1 rest l.joined

    by : Every (HasGeneration g) ms → (d : DeltaRec) → delta_written m ≡ Some d → (b : Bool) → is_join_call ClaimWrite m.call.purpose ≡ b → d.generation ≡ g
    by rest d is true at = claims.0 at d is
    by rest d is false at = of_kind rest d (shaped.0 d is at)

-- ---- each seq above all before

abbrev pub HasLess : ℕ → Submitted → Type 0
HasLess n r = (e : DeltaRec) → delta_written r ≡ Some e → e.seq < n

abbrev pub Rises : Submitted → List Submitted → Type 0
Rises m older = (d : DeltaRec) → delta_written m ≡ Some d → Every (HasLess d.seq) older

-- One call of a step that comes once.
pub unique : (step : JoinStep) → (rank_at step ≡ 2 → ⊥) → (ms : List Submitted) → EveryTail InPlace ms → (a b : Submitted) → Contains ms a → Contains ms b
    → is_join_call step a.call.purpose ≡ true → is_join_call step b.call.purpose ≡ true → a ≡ b
unique step once [] places a b there here p q = absurd (contains_none a there)
unique step once (x ∷ xs) places a b there here p q =
    by (λ one two. unique step once xs places.1 a b one two p q) (contains_cases x xs a there) (contains_cases x xs b here)
  where
    clash : (y z : Submitted) → x ≡ y → Contains xs z → is_join_call step y.call.purpose ≡ true → is_join_call step z.call.purpose ≡ true → ⊥
    clash y z is behind r t =
        let first : is_join_call step x.call.purpose ≡ true = ap (λ (u : Submitted). is_join_call step u.call.purpose) is ∙ r in
        let k = ranks_of step x.call.purpose first in
        twice z x (rank_at step) (ranks_of step z.call.purpose t).1 k.1 once (every_has (Precede x) xs z (places.0 k.0).below behind)

    by : (Contains xs a → Contains xs b → a ≡ b) → (x ≡ a) ⊎ Contains xs a → (x ≡ b) ⊎ Contains xs b → a ≡ b
    by rest (inl i) (inl j) = sym i ∙ j
    by rest (inl i) (inr j) = absurd (clash a b i j p q)
    by rest (inr i) (inl j) = absurd (clash b a j i q p)
    by rest (inr i) (inr j) = rest i j

less_last : (d : DeltaRec) (ms : List Submitted) (n : ℕ) → d.seq < n → Every (HasLess d.seq) ms → Every (HasLess n) ms
less_last d [] n lt h = tt
less_last d (m ∷ ms) n lt h = (λ e is. omega (arith, lt, h.0 e is), less_last d ms n lt h.1)

-- What continues the last is above all.
above_last : (s : Session) (ms : List Submitted) → EveryTail Rises ms → (n : ℕ) → n ≡ seq_in s ms + 1 → Every (HasLess n) ms
above_last s [] rises n is = tt
above_last s (m ∷ ms) rises n is = by (λ same. above_last s ms rises.1 n same) (delta_written m) refl is where
  by : (n ≡ seq_in s ms + 1 → Every (HasLess n) ms) → (o : Option DeltaRec) → delta_written m ≡ o
      → n ≡ option_map_or (λ (x : DeltaRec). x.seq) (last_by o (last_delta ms)) (given_number s) + 1 → Every (HasLess n) (m ∷ ms)
  by rest (Some d) its at =
      let lt : d.seq < n = omega (arith, at) in (
        λ e h. let same : d.seq ≡ e.seq = ap (λ (x : DeltaRec). x.seq) (one_value d e (delta_written m) its h) in omega (arith, same, lt),
        less_last d ms n lt (rises.0 d its),
      )
  by rest None its at = (λ e h. absurd (no_value e (delta_written m) h its), rest at)

-- Before the verify read of a joining only its claim writes.
writer_step : (p : Purpose) (w : Bool) → fits_as p w ≡ true → rank p < 6 → w ≡ true → is_join_call ClaimWrite p ≡ true
writer_step (Joining j ClaimWrite) w h lt is = refl
writer_step (Joining j FirstRenewal) w h lt is = absurd (omega (arith, lt))
writer_step (Joining j FirstRead) w h lt is = absurd (false_is_true (sym (ap (λ b. not b) is) ∙ h))
writer_step (Joining j WatchRead) w h lt is = absurd (false_is_true (sym (ap (λ b. not b) is) ∙ h))
writer_step (Joining j DecidingRead) w h lt is = absurd (false_is_true (sym (ap (λ b. not b) is) ∙ h))
writer_step (Joining j VerifyRead) w h lt is = absurd (false_is_true (sym (ap (λ b. not b) is) ∙ h))
writer_step p w h lt is = absurd (false_is_true h)

early_step : (p : Purpose) (w : Bool) → fits_as p w ≡ true → rank p < 4 → w ≡ true → ⊥
early_step (Joining j FirstRead) w h lt is = false_is_true (sym (ap (λ b. not b) is) ∙ h)
early_step (Joining j WatchRead) w h lt is = false_is_true (sym (ap (λ b. not b) is) ∙ h)
early_step (Joining j DecidingRead) w h lt is = false_is_true (sym (ap (λ b. not b) is) ∙ h)
early_step (Joining j ClaimWrite) w h lt is = omega (arith, lt)
early_step (Joining j VerifyRead) w h lt is = omega (arith, lt)
early_step (Joining j FirstRenewal) w h lt is = omega (arith, lt)
early_step p w h lt is = false_is_true h

writing_by : (op : Op) (d : DeltaRec) → option_and_then delta_of_record (record_of op) ≡ Some d → is_write op ≡ true
writing_by (ReadSectors n) d h = absurd (none_some d h)
writing_by (WriteRecord r) d h = refl

rank_under : (m x : Submitted) (n : ℕ) → rank m.call.purpose ≡ n → (n ≡ 2 → ⊥) → Precede m x → rank x.call.purpose < n
rank_under m x n is once (inl lt) = omega (arith, lt, is)
rank_under m x n is once (inr both) = absurd (once (sym is ∙ both.1))

-- Nothing is written before a claim.
before_claim : (m : Submitted) (ms : List Submitted) → InPlace m ms → is_join_call ClaimWrite m.call.purpose ≡ true → (n : ℕ) → Every (HasLess n) ms
before_claim m ms place at n =
    let k = ranks_of ClaimWrite m.call.purpose at in
    let p = place k.0 in
    every_from (HasLess n) ms (λ x there e is.
    absurd (early_step x.call.purpose (is_write x.call.op) (done_of ms x p.done there).0
    (rank_under m x 4 k.1 (λ z. omega (arith, z)) (every_has (Precede m) ms x p.below there)) (writing_by x.call.op e is)))

-- Only the claim is written before the first renewal.
before_first : (m : Submitted) (ms : List Submitted) → InPlace m ms → EveryTail InPlace ms → is_join_call FirstRenewal m.call.purpose ≡ true → (d : DeltaRec) → OfClaim ms d
    → Every (HasLess d.seq) ms
before_first m ms place places at d c =
    let k = ranks_of FirstRenewal m.call.purpose at in
    let p = place k.0 in
    every_from (HasLess d.seq) ms (λ x there e is.
    let claims = writer_step x.call.purpose (is_write x.call.op) (done_of ms x p.done there).0
    (rank_under m x 6 k.1 (λ z. omega (arith, z)) (every_has (Precede m) ms x p.below there)) (writing_by x.call.op e is) in
    let one = unique ClaimWrite (λ z. omega (arith, z)) ms places x c.call there c.inside claims c.at in
    let same : e.seq ≡ c.claim.seq = ap (λ (y : DeltaRec). y.seq) (one_value e c.claim (delta_written c.call) (ap (λ (y : Submitted). delta_written y) (sym one) ∙ is) c.written) in
    omega (arith, same, c.seq))

pub all_rise : (s : Session) (ms : List Submitted) → EveryTail (Shaped s) ms → EveryTail InPlace ms → EveryTail Rises ms
all_rise s [] shaped places = tt
all_rise s (m ∷ ms) shaped places =
    let rest = all_rise s ms shaped.1 places.1 in
    (λ d is. by rest d is (is_join_call ClaimWrite m.call.purpose) refl, rest)
  where
    of_kind : EveryTail Rises ms → (d : DeltaRec) → (OfClaim ms d × (is_join_call FirstRenewal m.call.purpose ≡ true)) ⊎ OfLast s ms d → Every (HasLess d.seq) ms
    of_kind rest d (inl c) = before_first m ms places.0 places.1 c.1 d c.0
    of_kind rest d (inr l) = above_last s ms rest d.seq l.seq

    by : EveryTail Rises ms → (d : DeltaRec) → delta_written m ≡ Some d → (b : Bool) → is_join_call ClaimWrite m.call.purpose ≡ b → Every (HasLess d.seq) ms
    by rest d is true at = before_claim m ms places.0 at d.seq
    by rest d is false at = of_kind rest d (shaped.0 d is at)
