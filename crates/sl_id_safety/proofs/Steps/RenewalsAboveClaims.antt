-- A renewal that counts stands above the session's claim, and is of a session that has verified it.
use Rattle.sl_id_safety.proofs.State.ClaimsHaveDecided.{rec_of}
use Rattle.sl_id_safety.proofs.State.FindingFrames.{find_passes}
use Rattle.sl_id_safety.proofs.State.CallLaws.{own_call, step_law}
use Rattle.sl_id_safety.proofs.State.SessionFacts.{renewals_have_verified, verify_reads_have_claimed}
use Rattle.sl_id_safety.proofs.State.SampleFrames.{showed}
use Rattle.sl_id_safety.proofs.State.Tails.{front_at}
use Rattle.sl_id_safety.specs.State.Facts.{HasClaimed, HasVerified}
use Rattle.sl_id_safety.specs.State.IdStates.{claim_bytes, index_of, is_left_by, join_course, own_courses, sample_showing, verifying_sample}
use Rattle.sl_id_safety.proofs.Steps.OwnCalls.{Through, knows}
use Rattle.sl_id_safety.proofs.Steps.RenewalCalls.{HasLeft, IsNumbered, IsRenewalCall, lesser, not_claim, wrote_it}
use Rattle.sl_id_safety.proofs.Steps.ShownStays.{first_there, verifying_stays}
use Rattle.sl_run_law.proofs.Landing.LandingOrder.{come_in_order}
use Rattle.sl_run.specs.LawfulDelta.{LawfulDeltaCall}
use Rattle.sl_words.proofs.Lists.{kept_inside}
use Rattle.sl_words.proofs.Options.{then_value}
use Rattle.sl_run.specs.Runs.{Happening}
use Rattle.sl_run.specs.Safety.{Found, SessionId, setting_in, world_at}
use Rattle.sl_run.specs.Worlds.{Course, Landing, Program, Sampling, World, first_landing, history_of, landed_at}
use Rattle.sl_run.specs.declared.header.Header.{Header}
use Rattle.sl_sector.specs.declared.sector.DeltaRec.{DeltaRec}
use Rattle.sl_sector.specs.declared.sector.Rec.TheVariants.{DeltaIs}
use Rattle.sl_run_law.proofs.Sessions.EndedAreSilent.{stage_by}
use Rattle.sl_trace.specs.Sessions.{calls_of, delta_of_record, delta_written, free_write, is_join_call, is_renewal, joined_after, refused_after, removed_after, stage_in}
use Rattle.sl_trace.specs.declared.session.Session.{Session}
use Rattle.sl_trace.specs.declared.stage.Stage.TheVariants.{Deciding}
use Rattle.sl_trace.specs.declared.stage.Stage.{Stage}
use Rattle.sl_trace.specs.Traces.{Setting, Submitted, Trace, new_call, record_of, same_place}
use Rattle.sl_trace.specs.declared.effects.JoinStep.TheVariants.{ClaimWrite, FirstRenewal, VerifyRead}
use Rattle.sl_trace.specs.declared.effects.Purpose.TheVariants.{Joining, Renewal}
use Rattle.sl_trace.specs.declared.effects.Purpose.{Purpose}
use Rattle.sl_words.proofs.CaseLaws.{false_is_true, none_some, one_value}
use Rattle.sl_words.proofs.WordLaws.{and_true}
use Rattle.sl_words.specs.Words.{some_is}
use Rattle.std.proofs.Common.{ap, arith, inl, inr, refl, sym, ◌∙◌}
use Rattle.std.proofs.lemmas.Bool.{eqb-true, or_left, or_right}
use Rattle.std.proofs.lemmas.List.Kept.{AllPairs-filter}
use Rattle.std.specs.Option.{option_map_or}
use Rattle.std.specs.Prelude.{Contains, List, None, Option, Some, is_none, is_some, length, option_and_then, true, ℕ, ◌&&◌, ◌<◌, ◌==◌, ◌||◌, ◌≡◌, ◌≤◌}

-- ---- verified

renewal_writes : (st : Setting) (t : Trace) (s : Session) (n : Submitted) (p : Purpose) → LawfulDeltaCall st t s n p → is_renewal p ≡ true → (d : DeltaRec) × (delta_written n ≡ Some d)
renewal_writes st t s n Renewal law is = (_, law.written)
renewal_writes st t s n (Joining j FirstRenewal) law is = (_, law.written)
renewal_writes st t s n p law is = absurd (false_is_true is)

writes_delta : (n : Submitted) (d : DeltaRec) → delta_written n ≡ Some d → record_of n.call.op ≡ Some (DeltaIs d)
writes_delta n d h =
    let r = then_value delta_of_record (record_of n.call.op) d h in r.1 ∙ ap (λ y. Some y) (rec_of r.0 d r.2)

-- What stands behind the renewal.
pub has_verified : {p : Program} {h : Header} {xs : List Happening} {w : World} {i : SessionId} {f g : Found} (t : Through p h xs w i f g) (at : ℕ) (purpose : Purpose)
    → is_renewal purpose ≡ true → (c : Course) → IsRenewalCall i g t.stamp at purpose c → (d : DeltaRec) × HasVerified (world_at p h xs) i g c d
has_verified {p = p} {h = h} {xs = xs} {i = i} {g = g} t at purpose renews c r =
    let v : World = world_at p h xs in
    let o = own_call v i g c (knows t) r.own in
    let call = o.placed.pairs.this.call in
    let is : is_renewal o.placed.pairs.here.call.purpose ≡ true = ap (λ y. is_renewal y.purpose) call ∙ ap is_renewal r.purpose_is ∙ renews in
    let n : Submitted = new_call (length o.placed.made.past) o.placed.made.entry.reading o.placed.pairs.here.call in
    let d = renewal_writes (setting_in g) (front_at o.placed.made) g.session n o.placed.pairs.here.call.purpose o.lawful.law is in
    let writes : record_of c.call.op ≡ Some (DeltaIs d.0) = ap (λ y. record_of y.op) (sym call) ∙ writes_delta n d.0 d.1 in
    (d.0, renewals_have_verified p h xs t.run i g c t.its r.own d.0 writes (ap (λ y. is_join_call ClaimWrite y) r.purpose_is ∙ not_claim purpose renews))

pub verified_by : {p : Program} {h : Header} {xs : List Happening} {w : World} {i : SessionId} {f g : Found} (t : Through p h xs w i f g) (c : Course) (d : DeltaRec)
    → HasVerified (world_at p h xs) i g c d → (is_none f.session.job || is_some (verifying_sample w i f)) ≡ true
verified_by {w = w} {i = i} {f = f} t c d k =
    elim k.verified as (λ z. (is_none f.session.job || is_some (verifying_sample w i f)) ≡ true) [
      | inl none ↦ or_left (is_none f.session.job) (is_some (verifying_sample w i f)) (ap (λ o. is_none o) (ap (λ y. y.job) (sym t.session) ∙ none))
      | inr some ↦ or_right (is_none f.session.job) (is_some (verifying_sample w i f)) (ap (λ o. is_some o) (sym (verifying_stays t) ∙ some.1))
    ]

-- ---- above the claim

not_deciding : (joined removed refused : Option ℕ) (free : Option Submitted) (joining : Stage) (k : ℕ) → joined ≡ Some k
    → stage_by joined removed refused free joining ≡ Deciding → ⊥
not_deciding None removed refused free joining k is h = none_some k is
not_deciding (Some j) (Some r) refused free joining k is h = absurd cc
not_deciding (Some j) None refused (Some m) joining k is h = absurd cc
not_deciding (Some j) None refused None joining k is h = absurd cc

no_claim : {p : Program} {h : Header} {xs : List Happening} {w : World} {i : SessionId} {f g : Found} (t : Through p h xs w i f g) → g.session.job ≡ None
    → (c : Course) → join_course i ClaimWrite g.machine ≡ Some c → ⊥
no_claim {p = p} {h = h} {xs = xs} {i = i} {g = g} t none c at =
    let r = find_passes (λ x. is_join_call ClaimWrite x.call.purpose) (own_courses i g.machine) c at in
    let o = own_call (world_at p h xs) i g c (knows t) r.there in
    let law = step_law (world_at p h xs) i g c o ClaimWrite r.test in
    let es : Trace = front_at o.placed.made in
    not_deciding (joined_after es g.session) (removed_after es g.session) (refused_after es g.session) (free_write (calls_of es g.session))
    (stage_in (calls_of es g.session)) 0 (ap (λ o. joined_after es (record (g.session) { job = o })) none) law.deciding

pub shown_course : (g : Found) (bytes : Option (List ℕ)) (o : Option Course) (y : Sampling) → option_and_then (sample_showing g bytes) o ≡ Some y
    → (c : Course) × (o ≡ Some c) × (sample_showing g bytes c ≡ Some y)
shown_course g bytes None y h = absurd (none_some y h)
shown_course g bytes (Some c) y h = (c, refl, h)

pub left_name : (m n : ℕ) (o : Option (ℕ × ℕ)) → some_is (λ (q : ℕ × ℕ). q.0 == m && q.1 == n) o ≡ true → o ≡ Some (m, n)
left_name m n None h = absurd (false_is_true h)
left_name m n (Some q) h =
    let b = and_true (q.0 == m) (q.1 == n) h in
    ap (λ x. let y : Option (ℕ × ℕ) = Some (x, q.1) in y) (eqb-true q.0 m b.0) ∙ ap (λ x. let y : Option (ℕ × ℕ) = Some (m, x) in y) (eqb-true q.1 n b.1)

-- What its claim left came before the renewal was made.
claim_before : {p : Program} {h : Header} {xs : List Happening} {w : World} {i : SessionId} {f g : Found} (t : Through p h xs w i f g) (c : Course) (d : DeltaRec)
    → HasVerified (world_at p h xs) i g c d → (k : Course) → join_course i ClaimWrite g.machine ≡ Some k → (l : Landing) → Contains (world_at p h xs).landings l
    → is_left_by (i.machine, k.call.number) l ≡ true → l.step < c.made.step
claim_before {p = p} {h = h} {xs = xs} {i = i} {g = g} t c d v k at l has left =
    elim v.verified as (λ z. l.step < c.made.step) [
      | inl none ↦ absurd (no_claim t none k at)
      | inr some ↦ let u : World = world_at p h xs in
          let r = shown_course g (claim_bytes u i g) (join_course i VerifyRead g.machine) some.0 some.1 in
          let s = find_passes (λ x. is_join_call VerifyRead x.call.purpose) (own_courses i g.machine) r.0 r.1 in
          let q : HasClaimed h u i g r.0 = verify_reads_have_claimed p h xs t.run i g r.0 t.its s.there s.test in
          let one : q.claim ≡ k = one_value q.claim k (join_course i ClaimWrite g.machine) q.claimed at in
          let mine = (find_passes (λ x. is_join_call ClaimWrite x.call.purpose) (own_courses i g.machine) k at).there in
          let x = wrote_it t k mine l has (left_name i.machine k.call.number l.writer (and_true l.whole _ left).1) in
          let answered : k.answered ≡ Some q.answer = ap (λ y. y.answered) (sym one) ∙ q.answered.0 in
          let before = (x.0.wrote.before q.answer (ap (λ y. y.answered) x.1 ∙ answered)).0 in
          let sample = (showed g (claim_bytes u i g) r.0 some.0 r.2).sample in
          let timed = (own_call u i g r.0 (knows t) s.there).placed.timed.sampled some.0 (first_there r.0.samples some.0 sample) in
          omega (arith, before, q.answered.1, timed, some.2)
    ]

claim_lesser : {p : Program} {h : Header} {xs : List Happening} {w : World} {i : SessionId} {f g : Found} (t : Through p h xs w i f g) (path : List ℕ) (offset : ℕ) (c : Course) (d : DeltaRec)
    → HasVerified (world_at p h xs) i g c d → (q : HasLeft (world_at p h xs) path offset c)
    → (n : IsNumbered (landed_at (world_at p h xs) path offset) (first_landing (world_at p h xs) path offset) q.landing)
    → (o : Option Course) → join_course i ClaimWrite g.machine ≡ o
    → option_map_or (λ (k : Course). index_of (i.machine, k.call.number) (history_of (world_at p h xs) path offset)) o 0 < n.index
claim_lesser t path offset c d v q n None at = n.some
claim_lesser {p = p} {h = h} {xs = xs} {i = i} t path offset c d v q n (Some k) at =
    let u : World = world_at p h xs in
    lesser (i.machine, k.call.number) (landed_at u path offset) (first_landing u path offset) q.landing n.index n.some n.at
    (AllPairs-filter (λ newer older. (older.step < newer.step) × (older.moment ≤ newer.moment)) (λ (l : Landing). same_place l.path l.offset path offset) u.landings (come_in_order p h xs t.run))
    (λ x has left.
    let lt = claim_before t c d v k at x (kept_inside (λ (l : Landing). same_place l.path l.offset path offset) u.landings x has).0 left in
    omega (arith, lt, q.after.0))

-- So the landing of a renewal stands above that of the claim.
pub above_claim : {p : Program} {h : Header} {xs : List Happening} {w : World} {i : SessionId} {f g : Found} (t : Through p h xs w i f g) (path : List ℕ) (offset : ℕ) (c : Course) (d : DeltaRec)
    → HasVerified (world_at p h xs) i g c d → (q : HasLeft (world_at p h xs) path offset c)
    → (n : IsNumbered (landed_at (world_at p h xs) path offset) (first_landing (world_at p h xs) path offset) q.landing)
    → option_map_or (λ (k : Course). index_of (i.machine, k.call.number) (history_of (world_at p h xs) path offset)) (join_course i ClaimWrite g.machine) 0 < n.index
above_claim {i = i} {g = g} t path offset c d v q n = claim_lesser t path offset c d v q n (join_course i ClaimWrite g.machine) refl
