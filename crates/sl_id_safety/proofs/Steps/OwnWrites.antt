-- A session's write of a delta record that is in flight: what it wrote before was answered, its free is its last, and its seqs rise.
use Rattle.sl_run_law.proofs.Course.Daemons.{every_has}
use Rattle.sl_id_safety.proofs.Steps.JoiningIsAlive.{not_claim as other_step}
use Rattle.sl_run_law.proofs.Place.Looks.{stands}
use Rattle.sl_words.proofs.Lists.{any_of, contains_cases, contains_map, contains_none, find_inside}
use Rattle.std.proofs.lemmas.Bool.{and_from, eq-eqb, or_left}
use Rattle.sl_run_law.specs.Course.CallStamps.{IsCourseOf}
use Rattle.sl_id_safety.proofs.State.TraceBridge.{Grounds, known}
use Rattle.sl_id_safety.proofs.State.ClaimsHaveDecided.{done_of, record_is}
use Rattle.sl_id_safety.proofs.State.FindingFrames.{moved}
use Rattle.sl_id_safety.proofs.State.Frames.{free_landed_by, free_of, landed_as}
use Rattle.sl_id_safety.proofs.State.CallLaws.{IsOwnCall, own_call}
use Rattle.sl_id_safety.proofs.State.PairedLists.{EveryTail, stands_there, tail_at}
use Rattle.sl_run_law.specs.FatesStay.{Every}
use Rattle.sl_id_safety.proofs.State.JoiningCallOrder.{InPlace, is_joining}
use Rattle.sl_id_safety.proofs.State.RenewalsHaveVerified.{none_joining}
use Rattle.sl_id_safety.proofs.State.SeqsRise.{HasLess, IsShaped, OfClaim, OfLast, Renews, Rises, Shaped, all_renew, all_rise, all_shaped, shape}
use Rattle.sl_id_safety.proofs.State.JoiningSteps.{places, ranks_of}
use Rattle.sl_id_safety.proofs.State.Tails.{IsLater, front_at}
use Rattle.sl_id_safety.proofs.State.VerifyReads.{answered_in_turn, delta_purpose, written_there}
use Rattle.sl_id_safety.specs.State.Facts.{RenewalsHaveVerified}
use Rattle.sl_id_safety.specs.State.IdStates.{own_courses, verifying_sample}
use Rattle.sl_id_safety.proofs.Steps.Fates.{FliesAt, one_fate}
use Rattle.sl_id_safety.proofs.Steps.FateChanges.{Turns, turned}
use Rattle.sl_run_law.proofs.Place.FoundInLists.{finds, partner, partner_of}
use Rattle.sl_run.specs.EventChanges.{fated}
use Rattle.sl_run.specs.Runs.{Happening}
use Rattle.sl_run.specs.Safety.{Found, LawfulRun, SessionId, free_landed, has_write_in_flight, is_over, session_of_world, setting_in, trace_of, world_at}
use Rattle.sl_run.specs.Worlds.{Course, Fate, Machine, Program, Sampling, World, is_landed, is_write_course}
use Rattle.sl_run.specs.declared.header.Header.{Header}
use Rattle.sl_run_law.proofs.CourseLists.{changed_if}
use Rattle.sl_sector.specs.declared.sector.DeltaRec.{DeltaRec}
use Rattle.sl_sector.specs.declared.sector.Rec.TheVariants.{DeltaIs}
use Rattle.sl_run_law.proofs.Sessions.WritesAreCovered.{joinings_are_in_turn}
use Rattle.sl_run_law.proofs.Sessions.EndedAreSilent.{stage_by}
use Rattle.sl_run_law.specs.Sessions.SessionLaws.{all_done, fits, fits_as, is_in_turn}
use Rattle.sl_trace.specs.Sessions.{calls_of, delta_of_record, delta_written, free_write, given_number, is_delta_purpose, is_free_purpose, is_join_call, joined_after, last_delta, refused_after, removed_after, seq_in, stage_in, stage_of}
use Rattle.sl_trace.specs.declared.session.Session.{Session}
use Rattle.sl_trace.specs.declared.stage.Stage.TheVariants.{Standing}
use Rattle.sl_trace.specs.declared.stage.Stage.{Stage}
use Rattle.sl_trace.specs.Traces.{Submitted, Trace, is_write, new_call, record_of}
use Rattle.sl_trace.specs.declared.effects.Call.{Call}
use Rattle.sl_trace.specs.declared.effects.JoinStep.TheVariants.{ClaimWrite, DecidingRead, FirstRead, FirstRenewal, VerifyRead, WatchRead}
use Rattle.sl_trace.specs.declared.effects.JoinStep.{JoinStep}
use Rattle.sl_trace.specs.declared.effects.Purpose.TheVariants.{Joining, Leaving}
use Rattle.sl_trace.specs.declared.effects.Purpose.{Purpose}
use Rattle.sl_words.proofs.CaseLaws.{false_is_true, is_false, no_value, none_some, true_is_false}
use Rattle.sl_words.proofs.WordLaws.{and_true, some_is_true}
use Rattle.std.proofs.Common.{ap, arith, inl, inr, refl, subst, sym, ◌∙◌}
use Rattle.std.specs.List.{list_any}
use Rattle.std.specs.Option.{option_map_or}
use Rattle.std.specs.Prelude.{Bool, Contains, List, None, Option, Some, [], false, is_none, is_some, length, map, option_and_then, true, ℕ, ◌&&◌, ◌++◌, ◌+◌, ◌<◌, ◌==◌, ◌||◌, ◌∷◌, ◌≡◌, ◌≤◌, ◌⊎◌}

-- ---- of two in a list, one stands behind the other

pub either_behind : {A : Type 0} (front : List A) (c : A) (older before : List A) (k : A) (behind : List A) → front ++ c ∷ older ≡ before ++ k ∷ behind
    → (c ≡ k) ⊎ (Contains older k ⊎ Contains behind c)
either_behind [] c older [] k behind h = inl cc
either_behind {A} [] c older (y ∷ before) k behind h =
    let e : older ≡ before ++ k ∷ behind = cc in inr (inl (subst (λ xs. Contains xs k) (sym e) (stands_there before k behind)))
either_behind {A} (x ∷ front) c older [] k behind h =
    let e : front ++ c ∷ older ≡ behind = cc in inr (inr (subst (λ xs. Contains xs c) e (stands_there front c older)))
either_behind {A} (x ∷ front) c older (y ∷ before) k behind h =
    let e : front ++ c ∷ older ≡ before ++ k ∷ behind = cc in either_behind front c older before k behind e

-- ---- what else it writes

-- A write of a delta record without an answer.
pub record IsFlying (w : World) (i : SessionId) (f : Found) (c : Course) (d : DeltaRec) : Type 0 where
  pub own : IsOwnCall w i f c
  pub writes : record_of c.call.op ≡ Some (DeltaIs d)
  pub unanswered : c.answered ≡ None

purpose_there : (w : World) (i : SessionId) (f : Found) (c : Course) (o : IsOwnCall w i f c) → is_delta_purpose c.call.purpose ≡ true
    → is_delta_purpose o.placed.pairs.here.call.purpose ≡ true
purpose_there w i f c o h = ap (λ (x : Call). is_delta_purpose x.purpose) o.placed.pairs.this.call ∙ h

purpose_of : (w : World) (i : SessionId) (f : Found) (c : Course) (d : DeltaRec) → IsFlying w i f c d → is_delta_purpose c.call.purpose ≡ true
purpose_of w i f c d y =
    ap (λ (x : Call). is_delta_purpose x.purpose) (sym y.own.placed.pairs.this.call) ∙ delta_purpose w i f c y.own d y.writes

-- Each other call on a delta sector stands behind it.
pub others_behind : (w : World) (i : SessionId) (f : Found) (c : Course) (d : DeltaRec) (y : IsFlying w i f c d) (k : Course) → IsOwnCall w i f k
    → is_delta_purpose k.call.purpose ≡ true → (c ≡ k) ⊎ Contains y.own.placed.older k
others_behind w i f c d y k o its =
    by (either_behind y.own.placed.newer c y.own.placed.older o.placed.newer k o.placed.older (sym y.own.placed.whole ∙ o.placed.whole))
  where
    by : (c ≡ k) ⊎ (Contains y.own.placed.older k ⊎ Contains o.placed.older c) → (c ≡ k) ⊎ Contains y.own.placed.older k
    by (inl e) = inl e
    by (inr (inl there)) = inr there
    by (inr (inr there)) =
        let r = answered_in_turn w i f k c o (purpose_there w i f k o its) there (purpose_of w i f c d y) in
        absurd (no_value r.0 c.answered r.1 y.unanswered)

-- ---- its free

free_is_delta : (p : Purpose) → is_free_purpose p ≡ true → is_delta_purpose p ≡ true
free_is_delta (Leaving j) h = refl
free_is_delta p h = absurd (false_is_true h)

free_never_fits : (p : Purpose) (writes : Bool) → is_free_purpose p ≡ true → fits_as p writes ≡ true → ⊥
free_never_fits (Leaving j) writes h k = absurd (false_is_true k)
free_never_fits p writes h k = absurd (false_is_true h)

freeing_by : (joined removed refused : Option ℕ) (free : Option Submitted) (joining : Stage) (k : ℕ) → joined ≡ Some k
    → stage_by joined removed refused free joining ≡ Standing → free ≡ None
freeing_by None removed refused free joining k is h = absurd (none_some k is)
freeing_by (Some j) (Some r) refused free joining k is h = absurd cc
freeing_by (Some j) None refused None joining k is h = refl
freeing_by (Some j) None refused (Some m) joining k is h = absurd cc

-- While it stands its free is not written.
not_freed : (t : Trace) (s : Session) → stage_of t s ≡ Standing → free_write (calls_of t s) ≡ None
not_freed t s h =
    let j = stands t s h in
    freeing_by (joined_after t s) (removed_after t s) (refused_after t s) (free_write (calls_of t s)) (stage_in (calls_of t s)) j.0 j.1 h

behind_first : (w : World) (i : SessionId) (f : Found) (c : Course) (o : IsOwnCall w i f c) (m : Submitted) → is_join_call FirstRenewal c.call.purpose ≡ true
    → Contains o.placed.pairs.rest m → is_free_purpose m.call.purpose ≡ true → ⊥
behind_first w i f c o m at there free =
    let x = o.placed.pairs in
    let here : is_join_call FirstRenewal x.here.call.purpose ≡ true = ap (λ (y : Call). is_join_call FirstRenewal y.purpose) x.this.call ∙ at in
    let place = tail_at InPlace x.front x.here x.rest (subst (λ ms. EveryTail InPlace ms) x.whole (places w i f o.known)) in
    let fit = done_of x.rest m (place (ranks_of FirstRenewal x.here.call.purpose here).0).done there in
    free_never_fits m.call.purpose (is_write m.call.op) free fit.0

behind_next : (w : World) (i : SessionId) (f : Found) (c : Course) (o : IsOwnCall w i f c) (m : Submitted) → stage_of (front_at o.placed.made) f.session ≡ Standing
    → Contains o.placed.pairs.rest m → is_free_purpose m.call.purpose ≡ true → ⊥
behind_next w i f c o m standing there free =
    let t : Trace = front_at o.placed.made in
    let two = partner IsLater o.placed.pairs.rest (calls_of t f.session) m o.placed.made.prior there in
    let its : is_free_purpose two.0.call.purpose ≡ true = ap (λ (y : Call). is_free_purpose y.purpose) (sym two.2.same.call) ∙ free in
    let some = finds (λ (y : Submitted). is_free_purpose y.call.purpose) (calls_of t f.session) two.0 its two.1 in
    no_value some.0 (free_write (calls_of t f.session)) some.1 (not_freed t f.session standing)

-- What it writes beside its claim, where it was made.
abbrev ShapeAt : (w : World) (i : SessionId) (f : Found) (c : Course) → IsOwnCall w i f c → DeltaRec → Type 0
ShapeAt w i f c o d =
    IsShaped (setting_in f) (front_at o.placed.made) f.session (new_call (length o.placed.made.past) o.placed.made.entry.reading o.placed.pairs.here.call) d
    o.placed.pairs.here.call.purpose

shape_at : (w : World) (i : SessionId) (f : Found) (c : Course) (o : IsOwnCall w i f c) (d : DeltaRec) → record_of c.call.op ≡ Some (DeltaIs d)
    → is_join_call ClaimWrite c.call.purpose ≡ false → ShapeAt w i f c o d
shape_at w i f c o d writes apart =
    shape (setting_in f) (front_at o.placed.made) f.session (new_call (length o.placed.made.past) o.placed.made.entry.reading o.placed.pairs.here.call) d
    o.placed.pairs.here.call.purpose o.lawful.law (written_there w i f c o d writes)
    (ap (λ (x : Call). is_join_call ClaimWrite x.purpose) o.placed.pairs.this.call ∙ apart)

no_free_behind : (w : World) (i : SessionId) (f : Found) (c : Course) (o : IsOwnCall w i f c) (d : DeltaRec) → record_of c.call.op ≡ Some (DeltaIs d)
    → is_join_call ClaimWrite c.call.purpose ≡ false → (k : Course) → Contains o.placed.older k → is_free_purpose k.call.purpose ≡ true → ⊥
no_free_behind w i f c o d writes apart k there free =
    let m = partner (IsCourseOf f.daemon) o.placed.older o.placed.pairs.rest k o.placed.pairs.rests there in
    let its : is_free_purpose m.0.call.purpose ≡ true = ap (λ (y : Call). is_free_purpose y.purpose) m.2.call ∙ free in
    elim (shape_at w i f c o d writes apart).kind as (λ z. ⊥) [
      | inl first ↦
          behind_first w i f c o m.0 (ap (λ (y : Call). is_join_call FirstRenewal y.purpose) (sym o.placed.pairs.this.call) ∙ first.at) m.1 its
      | inr next ↦ behind_next w i f c o m.0 next.standing m.1 its
    ]

-- A renewal or a free that is in flight.
pub record IsRenewing (w : World) (i : SessionId) (f : Found) (c : Course) (d : DeltaRec) : Type 0 where
  pub flying : IsFlying w i f c d
  pub apart : is_join_call ClaimWrite c.call.purpose ≡ false

-- A free of the session is this write.
pub free_only : (w : World) (i : SessionId) (f : Found) (c : Course) (d : DeltaRec) (y : IsRenewing w i f c d) (k : Course) → IsOwnCall w i f k
    → is_free_purpose k.call.purpose ≡ true → c ≡ k
free_only w i f c d y k o free =
    elim (others_behind w i f c d y.flying k o (free_is_delta k.call.purpose free)) as (λ z. c ≡ k) [
      | inl e ↦ e
      | inr there ↦ absurd (no_free_behind w i f c y.flying.own d y.flying.writes y.apart k there free)
    ]

-- .. so the free's number is its own.
free_number : (w : World) (i : SessionId) (f : Found) (c : Course) (d : DeltaRec) (y : IsRenewing w i f c d) (m : Submitted)
    → free_write (calls_of (trace_of f) f.session) ≡ Some m → c.call ≡ m.call
free_number w i f c d y m is =
    let at = find_inside (λ (x : Submitted). is_free_purpose x.call.purpose) (calls_of (trace_of f) f.session) m is in
    let k = partner_of (IsCourseOf f.daemon) (own_courses i f.machine) (calls_of (trace_of f) f.session) m y.flying.own.known.pairs at.0 in
    let free : is_free_purpose k.0.call.purpose ≡ true = ap (λ (x : Call). is_free_purpose x.purpose) (sym k.2.call) ∙ at.1 in
    ap (λ (x : Course). x.call) (free_only w i f c d y k.0 (own_call w i f k.0 y.flying.own.known k.1) free) ∙ sym k.2.call

none_landed : (n : ℕ) (cs : List Course) → FliesAt n cs → list_any (landed_as n) cs ≡ true → ⊥
none_landed n [] flies h = false_is_true h
none_landed n (c ∷ cs) flies h = by (λ more. none_landed n cs flies.1 more) (landed_as n c) refl h where
  by : (list_any (landed_as n) cs ≡ true → ⊥) → (t : Bool) → landed_as n c ≡ t → (t || list_any (landed_as n) cs) ≡ true → ⊥
  by rest true is any = let p = and_true (c.call.number == n) (is_landed c.fate) is in one_fate c.fate p.1 (flies.0 p.0)
  by rest false is any = rest any

not_landed_by : (w : World) (i : SessionId) (f : Found) (c : Course) (d : DeltaRec) → IsRenewing w i f c d → FliesAt c.call.number (own_courses i f.machine)
    → free_landed i f ≡ true → ⊥
not_landed_by w i f c d y flies h =
    let some = some_is_true (λ (m : Submitted). list_any (landed_as m.call.number) (own_courses i f.machine)) (free_write (calls_of (trace_of f) f.session))
    (sym (free_of i f) ∙ h) in
    none_landed c.call.number (own_courses i f.machine) flies
    (ap (λ (x : Call). list_any (landed_as x.number) (own_courses i f.machine)) (free_number w i f c d y some.0 some.1) ∙ some.2)

over_not : (a e w : Bool) → a ≡ false → w ≡ true → (a || e && (elim w as (λ z. Bool) [ true ↦ false | false ↦ true ])) ≡ true → ⊥
over_not true e w h k o = true_is_false h
over_not false true true h k o = false_is_true o
over_not false false true h k o = false_is_true o
over_not false e false h k o = false_is_true k

-- While it is in flight its session is not over.
pub not_over : (w : World) (i : SessionId) (f : Found) (c : Course) (d : DeltaRec) → IsRenewing w i f c d → FliesAt c.call.number (own_courses i f.machine)
    → has_write_in_flight i f.machine ≡ true → is_over i f ≡ false
not_over w i f c d y flies writes =
    is_false (is_over i f) (over_not (free_landed i f) _ (has_write_in_flight i f.machine) (is_false (free_landed i f) (not_landed_by w i f c d y flies)) writes)

-- ---- its free lands

landed_turned : (n : ℕ) (fate : Fate) (c : Course) (t : Bool) → (c.call.number == n) ≡ t → t ≡ true → is_landed fate ≡ true
    → landed_as n (changed_if t (fated fate) c) ≡ true
landed_turned n fate c true is this lands = and_from (c.call.number == n) (is_landed fate) is lands
landed_turned n fate c false is this lands = absurd (true_is_false (sym this))

-- A free that lands makes its session over.
pub free_lands : (w : World) (i : SessionId) (f : Found) (b : Machine) (c : Course) (d : DeltaRec) (fate : Fate) (y : IsRenewing w i f c d)
    → Contains (own_courses i f.machine) c → Turns i f b c.call.number fate → is_landed fate ≡ true → is_free_purpose c.call.purpose ≡ true
    → is_over i (moved b f) ≡ true
free_lands w i f b c d fate y there t lands free =
    let x = y.flying.own.placed.pairs in
    let here : is_free_purpose x.here.call.purpose ≡ true = ap (λ (z : Call). is_free_purpose z.purpose) x.this.call ∙ free in
    let some = finds (λ (z : Submitted). is_free_purpose z.call.purpose) (calls_of (trace_of f) f.session) x.here here
    (subst (λ ms. Contains ms x.here) (sym x.whole) (stands_there x.front x.here x.rest)) in
    let n : ℕ = c.call.number in
    let any : list_any (landed_as n) (own_courses i b) ≡ true =
    ap (λ cs. list_any (landed_as n) cs) t.calls
    ∙ any_of (landed_as n) (map (turned n fate) (own_courses i f.machine)) (turned n fate c)
    (landed_turned n fate c (c.call.number == n) refl (eq-eqb n n refl) lands) (contains_map (turned n fate) (own_courses i f.machine) c there) in
    let freed : free_landed i (moved b f) ≡ true =
    free_of i (moved b f) ∙ ap (free_landed_by (own_courses i b)) some.1
    ∙ ap (λ (z : Call). list_any (landed_as z.number) (own_courses i b)) (sym (free_number w i f c d y some.0 some.1)) ∙ any in
    or_left (free_landed i (moved b f)) _ freed

-- ---- seqs

-- What else it wrote has a lesser seq.
pub rises_above : (w : World) (i : SessionId) (f : Found) (c : Course) (d : DeltaRec) (y : IsFlying w i f c d) (k : Course) (e : DeltaRec)
    → IsOwnCall w i f k → record_of k.call.op ≡ Some (DeltaIs e) → (c ≡ k → ⊥) → e.seq < d.seq
rises_above w i f c d y k e o wrote other =
    let ms : List Submitted = calls_of (trace_of f) f.session in
    let x = y.own.placed in
    let all = all_rise f.session ms (all_shaped (setting_in f) (trace_of f) f.session y.own.known.lawful y.own.known.its) (places w i f y.own.known) in
    let here = tail_at Rises x.pairs.front x.pairs.here x.pairs.rest (subst (λ zs. EveryTail Rises zs) x.pairs.whole all) in
    let its : is_delta_purpose k.call.purpose ≡ true =
    ap (λ (z : Call). is_delta_purpose z.purpose) (sym o.placed.pairs.this.call) ∙ delta_purpose w i f k o e wrote in
    elim (others_behind w i f c d y k o its) as (λ z. e.seq < d.seq) [
      | inl same ↦ absurd (other same)
      | inr there ↦ let m = partner (IsCourseOf f.daemon) x.older x.pairs.rest k x.pairs.rests there in
          every_has (HasLess d.seq) x.pairs.rest m.0 (here d (written_there w i f c y.own d y.writes)) m.1 e
          (ap (λ (z : Call). option_and_then delta_of_record (record_of z.op)) m.2.call ∙ ap (λ q. option_and_then delta_of_record q) wrote)
    ]

last_by : Option DeltaRec → Option DeltaRec → Option DeltaRec
last_by (Some d) rest = Some d
last_by None rest = rest

above_none : (n k : ℕ) → n ≡ k + 1 → 1 ≤ n
above_none n k h = omega (arith, h)

not_claim : (p : Purpose) (step : JoinStep) → is_joining p ≡ false → is_join_call step p ≡ false
not_claim p step h = is_false (is_join_call step p) (λ is. true_is_false (sym (ranks_of step p is).0 ∙ h))

given_one : (s : Session) → s.job ≡ None → given_number s ≡ 1
given_one s h = ap (λ (o : Option ℕ). elim o as (λ z. ℕ) [ None ↦ 1 | Some j ↦ 0 ]) h

seq_by : (s : Session) (m : Submitted) (ms : List Submitted) (o : Option DeltaRec) → delta_written m ≡ o → Shaped s m ms → is_joining m.call.purpose ≡ false
    → 1 ≤ seq_in s ms → 1 ≤ option_map_or (λ (x : DeltaRec). x.seq) (elim o as (λ z. Option DeltaRec) [ Some d ↦ Some d | None ↦ last_delta ms ]) (given_number s)
seq_by s m ms None is shaped apart rest = rest
seq_by s m ms (Some d) is shaped apart rest =
    elim (shaped d is (not_claim m.call.purpose ClaimWrite apart)) as (λ z. 1 ≤ d.seq) [
      | inl first ↦ above_none d.seq first.0.claim.seq first.0.seq
      | inr next ↦ above_none d.seq (seq_in s ms) next.seq
    ]

-- A session that was joined at first has a seq at each moment.
given_seq : (s : Session) → s.job ≡ None → (ms : List Submitted) → EveryTail (Shaped s) ms → Every (λ (m : Submitted). is_joining m.call.purpose ≡ false) ms
    → 1 ≤ seq_in s ms
given_seq s none [] shaped apart = let one = given_one s none in omega (arith, one)
given_seq s none (m ∷ ms) shaped apart = seq_by s m ms (delta_written m) refl shaped.0 apart.0 (given_seq s none ms shaped.1 apart.1)

tail_on : {A : Type 0} (P : A → List A → Type 0) (front : List A) (xs : List A) → EveryTail P (front ++ xs) → EveryTail P xs
tail_on P [] xs h = h
tail_on P (x ∷ front) xs h = tail_on P front xs h.1

each_tail : {A : Type 0} (P : A → Type 0) (front : List A) (xs : List A) → Every P (front ++ xs) → Every P xs
each_tail P [] xs h = h
each_tail P (x ∷ front) xs h = each_tail P front xs h.1

above_by : (w : World) (i : SessionId) (f : Found) (c : Course) (d : DeltaRec) (y : IsRenewing w i f c d) (job : Option ℕ) → f.session.job ≡ job
    → (OfClaim y.flying.own.placed.pairs.rest d × (is_join_call FirstRenewal y.flying.own.placed.pairs.here.call.purpose ≡ true))
    ⊎ OfLast f.session y.flying.own.placed.pairs.rest d → given_number f.session < d.seq
above_by w i f c d y (Some j) is (inl first) =
    let g : given_number f.session ≡ 0 = ap (λ (o : Option ℕ). elim o as (λ z. ℕ) [ None ↦ 1 | Some k ↦ 0 ]) is in omega (arith, g, first.0.seq)
above_by w i f c d y (Some j) is (inr next) =
    let g : given_number f.session ≡ 0 = ap (λ (o : Option ℕ). elim o as (λ z. ℕ) [ None ↦ 1 | Some k ↦ 0 ]) is in omega (arith, g, next.seq)
above_by w i f c d y None is (inl first) =
    let x = y.flying.own.placed.pairs in
    let apart = every_has (λ (m : Submitted). is_joining m.call.purpose ≡ false) (calls_of (trace_of f) f.session) x.here (none_joining w i f y.flying.own.known is)
    (subst (λ ms. Contains ms x.here) (sym x.whole) (stands_there x.front x.here x.rest)) in
    absurd (true_is_false (sym (ranks_of FirstRenewal x.here.call.purpose first.1).0 ∙ apart))
above_by w i f c d y None is (inr next) =
    let x = y.flying.own.placed.pairs in
    let kn = y.flying.own.known in
    let shaped = tail_on (Shaped f.session) x.front (x.here ∷ x.rest)
    (subst (λ zs. EveryTail (Shaped f.session) zs) x.whole (all_shaped (setting_in f) (trace_of f) f.session kn.lawful kn.its)) in
    let apart = each_tail (λ (m : Submitted). is_joining m.call.purpose ≡ false) x.front (x.here ∷ x.rest)
    (subst (λ zs. Every (λ (m : Submitted). is_joining m.call.purpose ≡ false) zs) x.whole (none_joining w i f kn is)) in
    let one = given_one f.session is in
    let more = given_seq f.session is x.rest shaped.1 apart.1 in
    omega (arith, one, more, next.seq)

-- .. as had its record at first.
pub above_given : (w : World) (i : SessionId) (f : Found) (c : Course) (d : DeltaRec) → IsRenewing w i f c d → given_number f.session < d.seq
above_given w i f c d y =
    let x = y.flying.own.placed.pairs in
    let kn = y.flying.own.known in
    let shaped = tail_at (Shaped f.session) x.front x.here x.rest
    (subst (λ zs. EveryTail (Shaped f.session) zs) x.whole (all_shaped (setting_in f) (trace_of f) f.session kn.lawful kn.its)) in
    above_by w i f c d y f.session.job refl
    (shaped d (written_there w i f c y.flying.own d y.flying.writes) (ap (λ (z : Call). is_join_call ClaimWrite z.purpose) x.this.call ∙ y.apart))

-- ---- a session that has not verified writes its claim alone

fits_by : (p : Purpose) → fits_as p true ≡ true → (is_join_call ClaimWrite p ≡ true) ⊎ (is_join_call FirstRenewal p ≡ true)
fits_by (Joining j ClaimWrite) h = inl refl
fits_by (Joining j FirstRenewal) h = inr refl
fits_by (Joining j FirstRead) h = absurd (false_is_true h)
fits_by (Joining j WatchRead) h = absurd (false_is_true h)
fits_by (Joining j DecidingRead) h = absurd (false_is_true h)
fits_by (Joining j VerifyRead) h = absurd (false_is_true h)
fits_by p h = absurd (false_is_true h)

fits_in : (ms : List Submitted) (m : Submitted) → is_in_turn ms ≡ true → Contains ms m → fits m ≡ true
fits_in [] m h there = absurd (contains_none m there)
fits_in (x ∷ ms) m h there =
    let p = and_true (fits x) (all_done ms) h in
    elim (contains_cases x ms m there) as (λ z. fits m ≡ true) [ inl e ↦ subst (λ z. fits z ≡ true) e p.0 | inr more ↦ (done_of ms m p.1 more).0 ]

-- A session that was joined at first or has verified.
abbrev pub has_verified : World → SessionId → Found → Bool
has_verified w i f = is_none f.session.job || is_some (verifying_sample w i f)

pub verified_is : (w : World) (i : SessionId) (f : Found) (n : ℕ) → (f.session.job ≡ None) ⊎ ((x : Sampling) × (verifying_sample w i f ≡ Some x) × (x.step < n))
    → has_verified w i f ≡ true
verified_is w i f n (inl none) = ap (λ o. is_none o || is_some (verifying_sample w i f)) none
verified_is w i f n (inr x) = ap (λ o. is_none f.session.job || is_some o) x.1 ∙ or_true_right (is_none f.session.job) where
  or_true_right : (b : Bool) → (b || true) ≡ true
  or_true_right true = refl
  or_true_right false = refl

pub claims_alone : Grounds → RenewalsHaveVerified → (p : Program) (h : Header) (xs : List Happening) → LawfulRun p h xs → (i : SessionId) (f : Found) (c : Course)
    → session_of_world (world_at p h xs) i ≡ Some f → Contains (own_courses i f.machine) c → is_write_course c ≡ true → joined_after (trace_of f) f.session ≡ None
    → has_verified (world_at p h xs) i f ≡ false → is_join_call ClaimWrite c.call.purpose ≡ true
claims_alone g renew p h xs run i f c at there writes none unverified =
    let w : World = world_at p h xs in
    let kn = known g p h xs run i f at in
    let o = own_call w i f c kn there in
    let x = o.placed.pairs in
    let inside : Contains (calls_of (trace_of f) f.session) x.here = subst (λ ms. Contains ms x.here) (sym x.whole) (stands_there x.front x.here x.rest) in
    let fit : fits_as c.call.purpose (is_write c.call.op) ≡ true =
    ap (λ (z : Call). fits_as z.purpose (is_write z.op)) (sym x.this.call)
    ∙ fits_in (calls_of (trace_of f) f.session) x.here (joinings_are_in_turn (setting_in f) (trace_of f) f.session kn.lawful kn.its none) inside in
    elim (fits_by c.call.purpose (ap (fits_as c.call.purpose) (sym writes) ∙ fit)) as (λ z. is_join_call ClaimWrite c.call.purpose ≡ true) [
      | inl claim ↦ claim
      | inr first ↦
          let e = every_has Renews (calls_of (trace_of f) f.session) x.here (all_renew (setting_in f) (trace_of f) f.session kn.lawful kn.its) inside
          (ap (λ (z : Call). is_join_call FirstRenewal z.purpose) x.this.call ∙ first) in
          let wrote = record_is x.here.call c.call.op e.0 (ap (λ (z : Call). z.op) x.this.call) e.1 in
          let v = renew p h xs run i f c at there e.0 wrote (other_step c.call.purpose first) in
          absurd (true_is_false (sym (verified_is w i f c.made.step v.verified) ∙ unverified))
    ]
