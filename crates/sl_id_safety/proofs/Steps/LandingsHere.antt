-- Landings at the sector of an id as its steps: a claim or another write of a session of it, whole or torn.
use Rattle.sl_words.proofs.Options.{mapped_value}
use Rattle.std.proofs.lemmas.Bool.{and_from, eq-eqb, or_right}
use Rattle.sl_id_safety.proofs.State.TraceBridge.{known}
use Rattle.sl_id_safety.proofs.State.CallFrames.{generation_grows}
use Rattle.sl_id_safety.proofs.State.FindingFrames.{moved}
use Rattle.sl_id_safety.proofs.State.CallLaws.{own_call}
use Rattle.sl_id_safety.proofs.State.LandingFrames.{Grows, lands_one}
use Rattle.sl_id_safety.proofs.State.SampleFrames.{deciding_there, join_is, verifying_is}
use Rattle.sl_id_safety.specs.State.Facts.{HasDecided, HasVerified}
use Rattle.sl_id_safety.specs.State.IdStates.{claim_bytes, claim_may_land, content_of, deciding_sample, generation_by, has_begun, id_state, is_left_by, is_sector_of, join_course, kind_of, name_of, own_courses, runs_still, said_by, session_at, standing_of, verifying_sample, writer_of}
use Rattle.sl_id_safety.specs.State.StateLaws.{IsIdPlace}
use Rattle.sl_id_safety.proofs.Steps.Callers.{Caller, Write, after, counts, now_stands, others_grow, writer}
use Rattle.sl_id_safety.proofs.Steps.StepThenEnd.{changed, goes_over}
use Rattle.sl_id_safety.proofs.Steps.Fates.{FliesAt, IsClaim, landed_now, landed_same, not_landed, over_stays, waits_no_more}
use Rattle.sl_id_safety.proofs.Steps.FateChanges.{claim_at, has_landed, pends, seq_at}
use Rattle.sl_id_safety.proofs.Steps.LandingsElsewhere.{RestsOn, lands_on, pending_is, stands_then}
use Rattle.sl_id_safety.proofs.Steps.OwnWrites.{IsFlying, IsRenewing, not_over, verified_is}
use Rattle.sl_id_safety.proofs.Steps.Seqs.{index_new, index_old, seq_first, seq_none, seq_torn}
use Rattle.sl_ids.specs.Invariant.{Invariant}
use Rattle.sl_ids.specs.Runs.{IsBounded, Later}
use Rattle.sl_ids.specs.State.{Claimed as Claim_kind, Content, Kind, Session as IdSession, SessionId as IdName}
use Rattle.sl_ids.specs.Steps.{Lands, Lands_claim, Tears_claim, after_claim, after_losing}
use Rattle.sl_ids.specs.Terms.{Terms}
use Rattle.sl_run.specs.EventChanges.{write_bytes}
use Rattle.sl_run.specs.Runs.{Happening}
use Rattle.sl_run.specs.Safety.{Found, LawfulRun, SessionId, is_over, session_of_world, trace_of, world_at}
use Rattle.sl_run.specs.Worlds.{Course, Fate, Landing, Program, Sampling, World, history_of, is_in_flight, is_landed, may_land}
use Rattle.sl_run.specs.declared.header.Header.{Header}
use Rattle.sl_run_law.specs.FatesStay.{EachDistinct}
use Rattle.sl_sector.specs.declared.sector.DeltaRec.{DeltaRec}
use Rattle.sl_sector.specs.declared.sector.Rec.TheVariants.{DeltaIs}
use Rattle.sl_trace.specs.Sessions.{is_join_call, refused_after}
use Rattle.sl_trace.specs.Traces.{record_of}
use Rattle.sl_trace.specs.declared.effects.JoinStep.TheVariants.{ClaimWrite}
use Rattle.sl_words.proofs.CaseLaws.{is_false, not_both, one_value, true_is_false}
use Rattle.sl_words.proofs.WordLaws.{some_is_true}
use Rattle.sl_words.specs.Words.{some_is}
use Rattle.std.proofs.Common.{ap, inl, inr, refl, subst, sym, ◌∙◌}
use Rattle.std.specs.Prelude.{Bool, List, None, Option, Some, bytes_eq, false, is_none, is_some, length, true, [], ℕ, ◌&&◌, ◌<◌, ◌==◌, ◌||◌, ◌∷◌, ◌≡◌, ◌⊎◌}

-- A write of a delta record that lands at this sector.
pub record Here (p : Program) (h : Header) (now : List Happening) (v : World) (m n : ℕ) (fate : Fate) (y : Write (world_at p h now) v m n fate) (path : List ℕ) (offset : ℕ) : Type 0 where
  pub run : LawfulRun p h now
  pub id : IsIdPlace p h path offset
  pub distinct : EachDistinct (world_at p h now)
  pub caller : Caller (world_at p h now) v m n fate y
  pub landing : Landing
  pub grows : Grows (world_at p h now) v path offset (landing ∷ [])
  pub named : landing.writer ≡ Some (m, y.changes.course.call.number)
  pub wrote : writer_of v landing ≡ Some (name_of (writer y))
  pub moment : landing.moment ≡ (world_at p h now).moment
  pub place : (y.changes.course.call.path ≡ path) × (y.changes.course.call.offset ≡ offset)
  pub delta : DeltaRec
  pub writes : record_of y.changes.course.call.op ≡ Some (DeltaIs delta)

-- It landed whole, as it was written; or torn.
pub record IsWhole (w v : World) (fate : Fate) (l : Landing) (d : DeltaRec) : Type 0 where
  pub whole : l.whole ≡ true
  pub landed : is_landed fate ≡ true
  pub says : said_by v.layout l.bytes ≡ Some (content_of d)

pub record IsTorn (w v : World) (fate : Fate) (l : Landing) : Type 0 where
  pub torn : l.whole ≡ false
  pub landed : is_landed fate ≡ false
  pub says : said_by v.layout l.bytes ≡ None

-- ---- numbers

pub left_is : (m n : ℕ) (l : Landing) → l.writer ≡ Some (m, n) → l.whole ≡ true → is_left_by (m, n) l ≡ true
left_is m n l named whole =
    and_from l.whole (some_is (λ q. q.0 == m && q.1 == n) l.writer) whole
    (ap (λ o. some_is (λ q. q.0 == m && q.1 == n) o) named ∙ and_from (m == m) (n == n) (eq-eqb m m refl) (eq-eqb n n refl))

pub not_left : (p : ℕ × ℕ) (l : Landing) → l.whole ≡ false → is_left_by p l ≡ false
not_left p l torn = ap (λ b. b && some_is (λ q. q.0 == p.0 && q.1 == p.1) l.writer) torn

-- ---- what stays

pub generation_stays : RestsOn → (p : Program) (h : Header) (now : List Happening) (v : World) (m n : ℕ) (fate : Fate) (y : Write (world_at p h now) v m n fate)
    (path : List ℕ) (offset : ℕ) (k : Here p h now v m n fate y path offset)
    → is_sector_of (world_at p h now).layout path offset k.caller.found.session ≡ true
    → generation_by v path offset (deciding_sample (writer y) k.caller.found) ≡ generation_by (world_at p h now) path offset (deciding_sample (writer y) k.caller.found)
generation_stays g p h now v m n fate y path offset k sector =
    generation_grows (world_at p h now) v path offset (k.landing ∷ []) (deciding_sample (writer y) k.caller.found) k.grows.layout k.grows.history
    (deciding_there g.reads g.samples p h now k.run path offset (writer y) k.caller.found k.caller.at sector)

pub others : RestsOn → (p : Program) (h : Header) (now : List Happening) (v : World) (m n : ℕ) (fate : Fate) (y : Write (world_at p h now) v m n fate)
    (path : List ℕ) (offset : ℕ) (k : Here p h now v m n fate y path offset) → (j : IdName) → (j ≡ name_of (writer y) → ⊥)
    → session_at v path offset j ≡ session_at (world_at p h now) path offset j
others g p h now v m n fate y path offset k j ne =
    others_grow g.reads g.samples p h now k.run v m n fate y k.caller path offset k.landing k.grows k.named k.wrote j ne

pub lands : (p : Program) (h : Header) (now : List Happening) (v : World) (m n : ℕ) (fate : Fate) (y : Write (world_at p h now) v m n fate)
    (path : List ℕ) (offset : ℕ) (k : Here p h now v m n fate y path offset) (o : Option Content) → said_by v.layout k.landing.bytes ≡ o
    → Lands (id_state (world_at p h now) path offset) (id_state v path offset) (name_of (writer y)) o
lands p h now v m n fate y path offset k o says =
    lands_one (world_at p h now) v path offset k.landing (name_of (writer y)) o k.grows k.moment k.wrote says

sector_here : (w : World) (f : Found) (c : Course) (path : List ℕ) (offset : ℕ) → (c.call.path ≡ path) × (c.call.offset ≡ offset)
    → is_sector_of w.layout c.call.path c.call.offset f.session ≡ true → is_sector_of w.layout path offset f.session ≡ true
sector_here w f c path offset place h =
    subst (λ z. is_sector_of w.layout path z f.session ≡ true) place.1
    (subst (λ z. is_sector_of w.layout z c.call.offset f.session ≡ true) place.0 h)

pub generation_here : (w : World) (c : Course) (path : List ℕ) (offset : ℕ) (o : Option Sampling) → (c.call.path ≡ path) × (c.call.offset ≡ offset)
    → generation_by w c.call.path c.call.offset o ≡ generation_by w path offset o
generation_here w c path offset o place =
    ap (λ z. generation_by w z c.call.offset o) place.0 ∙ ap (λ z. generation_by w path z o) place.1

-- What a delta record says, by its parts.
pub content_by : (d : DeltaRec) (host : Option (List ℕ)) (generation : ℕ) (kind : Kind) → d.host ≡ host → d.generation ≡ generation → kind_of d.state ≡ kind
    → content_of d ≡ record { host = host; generation = generation; seq = d.seq; kind = kind }
content_by d host generation kind a b c =
    ap (λ z. let x : Content = record { host = z; generation = d.generation; seq = d.seq; kind = kind_of d.state } in x) a
    ∙ ap (λ z. let x : Content = record { host = host; generation = z; seq = d.seq; kind = kind_of d.state } in x) b
    ∙ ap (λ z. let x : Content = record { host = host; generation = generation; seq = d.seq; kind = z } in x) c

-- ---- a claim

-- A claim that is in flight, of a session that waits for it.
pub record IsClaiming (p : Program) (h : Header) (now : List Happening) (v : World) (m n : ℕ) (fate : Fate) (y : Write (world_at p h now) v m n fate) (path : List ℕ) (offset : ℕ)
    (k : Here p h now v m n fate y path offset) : Type 0 where
  pub decided : HasDecided (world_at p h now) (writer y) k.caller.found y.changes.course
  pub delta : decided.record_written ≡ k.delta
  pub here : is_sector_of (world_at p h now).layout path offset k.caller.found.session ≡ true
  pub counts : counts (world_at p h now) path offset (writer y) k.caller.found ≡ true
  pub pends : pends (writer y) k.caller.found ≡ true

same_delta : (d e : DeltaRec) → Some (DeltaIs d) ≡ Some (DeltaIs e) → d ≡ e
same_delta d e h = cc

may_now : (i : SessionId) (f : Found) (c : Course) → join_course i ClaimWrite f.machine ≡ Some c → may_land c ≡ true → claim_may_land i f ≡ true
may_now i f c at may =
    ap (λ o. elim o as (λ z. Bool) [ None ↦ runs_still f && is_none (refused_after (trace_of f) f.session) | Some x ↦ may_land x ]) at ∙ may

pub claiming : RestsOn → (p : Program) (h : Header) (now : List Happening) (v : World) (m n : ℕ) (fate : Fate) (y : Write (world_at p h now) v m n fate)
    (path : List ℕ) (offset : ℕ) (k : Here p h now v m n fate y path offset) → is_join_call ClaimWrite y.changes.course.call.purpose ≡ true
    → IsClaiming p h now v m n fate y path offset k
claiming g p h now v m n fate y path offset k is =
    let w : World = world_at p h now in
    let i : SessionId = writer y in
    let f : Found = k.caller.found in
    let c : Course = y.changes.course in
    let hd = g.claims p h now k.run i f c k.caller.at k.caller.own is in
    let here = sector_here w f c path offset k.place hd.own.place in
    let some : is_some (deciding_sample i f) ≡ true = ap (λ o. is_some o) hd.decided in
    let may : may_land c ≡ true =
    and_from _ (is_in_flight c.fate) (and_from _ _ y.writes (ap (λ o. is_none o) k.caller.unanswered)) y.flies in
    record {
      decided = hd;
      delta = same_delta hd.record_written k.delta (sym hd.own.writes ∙ k.writes);
      here = here;
      counts = and_from (is_sector_of w.layout path offset f.session) (has_begun i f) here (or_right (is_none f.session.job) (is_some (deciding_sample i f)) some);
      pends = and_from (is_some (deciding_sample i f)) (claim_may_land i f) some (may_now i f c hd.only may);
    }

given_by : (job : Option ℕ) (b : Bool) → (is_none job || b) ≡ false → elim job as (λ z. ℕ) [ None ↦ 1 | Some j ↦ 0 ] ≡ 0
given_by None b h = absurd (true_is_false h)
given_by (Some j) b h = refl

-- It has a seq that is its claim's.
claim_seq : (r : Terms) (p : Program) (h : Header) (now : List Happening) (v : World) (m n : ℕ) (fate : Fate) (y : Write (world_at p h now) v m n fate)
    (path : List ℕ) (offset : ℕ) (k : Here p h now v m n fate y path offset) → IsClaiming p h now v m n fate y path offset k
    → Invariant r (id_state (world_at p h now) path offset) → seq_at (world_at p h now) path offset (writer y) k.caller.found ≡ 0
claim_seq r p h now v m n fate y path offset k q inv =
    let w : World = world_at p h now in
    let f : Found = k.caller.found in
    let at = now_stands w v m n fate y path offset k.caller q.counts in
    let pend = pending_is r w v m n fate y path offset k.caller inv q.counts q.pends in
    seq_none w path offset (writer y) f ((inv.one (name_of (writer y))).unwritten (inr (ap (λ z. z.pending) at ∙ q.pends)))
    (given_by f.session.job (is_some (verifying_sample w (writer y) f)) pend.0)

-- What it says.
claim_says : (p : Program) (h : Header) (now : List Happening) (v : World) (m n : ℕ) (fate : Fate) (y : Write (world_at p h now) v m n fate)
    (path : List ℕ) (offset : ℕ) (k : Here p h now v m n fate y path offset) → IsClaiming p h now v m n fate y path offset k
    → content_of k.delta
    ≡ record {
      host = Some (session_at (world_at p h now) path offset (name_of (writer y))).name;
      generation = (session_at (world_at p h now) path offset (name_of (writer y))).generation;
      seq = k.delta.seq;
      kind = Claim_kind;
    }
claim_says p h now v m n fate y path offset k q =
    let w : World = world_at p h now in
    let s : IdSession = session_at w path offset (name_of (writer y)) in
    let at = now_stands w v m n fate y path offset k.caller q.counts in
    let hd = q.decided in
    content_by k.delta (Some s.name) s.generation Claim_kind
    (ap (λ d. d.host) (sym q.delta) ∙ hd.own.names.2 ∙ ap (λ z. Some z.name) (sym at))
    (ap (λ d. d.generation) (sym q.delta) ∙ hd.generation ∙ generation_here w y.changes.course path offset (Some hd.sample) k.place
    ∙ ap (generation_by w path offset) (sym hd.decided) ∙ ap (λ z. z.generation) (sym at)) (ap (λ d. kind_of d.state) (sym q.delta) ∙ ap kind_of hd.claim)

claim_is : (p : Program) (h : Header) (now : List Happening) (v : World) (m n : ℕ) (fate : Fate) (y : Write (world_at p h now) v m n fate)
    (path : List ℕ) (offset : ℕ) (k : Here p h now v m n fate y path offset) → IsClaiming p h now v m n fate y path offset k → IsClaim (writer y) k.caller.found n
claim_is p h now v m n fate y path offset k q =
    (y.changes.course, q.decided.only, eq-eqb y.changes.course.call.number n k.caller.number)

-- A claim lands whole.
pub lands_claim : RestsOn → (r : Terms) (p : Program) (h : Header) (now : List Happening) (v : World) (m n : ℕ) (fate : Fate) (y : Write (world_at p h now) v m n fate)
    (path : List ℕ) (offset : ℕ) (k : Here p h now v m n fate y path offset) → IsClaiming p h now v m n fate y path offset k
    → IsWhole (world_at p h now) v fate k.landing k.delta → Invariant r (id_state (world_at p h now) path offset)
    → IsBounded r (id_state (world_at p h now) path offset) → IsBounded r (id_state v path offset)
    → Later r (id_state (world_at p h now) path offset) (id_state v path offset)
lands_claim g r p h now v m n fate y path offset k q whole inv low high =
    let w : World = world_at p h now in
    let i : SessionId = writer y in
    let f : Found = k.caller.found in
    let c : Course = y.changes.course in
    let s : IdSession = session_at w path offset (name_of i) in
    let at : s ≡ standing_of w path offset i f = now_stands w v m n fate y path offset k.caller q.counts in
    let count : ℕ = length (history_of w path offset) in
    let claim : claim_at v path offset i (join_course i ClaimWrite f.machine) ≡ count =
    ap (claim_at v path offset i) q.decided.only
    ∙ index_new w v path offset (i.machine, c.call.number) k.landing k.grows (left_is m c.call.number k.landing k.named whole.whole) in
    let last =
    stands_then w v m n fate y path offset k.caller q.counts (generation_stays g p h now v m n fate y path offset k q.here) false true count k.delta.seq
    (waits_no_more i f (after y) n fate k.caller.turns y.ends (λ z. claim_is p h now v m n fate y path offset k q))
    (landed_now i f (after y) n fate k.caller.turns c q.decided.only (eq-eqb c.call.number n k.caller.number) whole.landed) claim
    (seq_first w v path offset k.landing i f (content_of k.delta) k.grows k.wrote whole.says (claim_seq r p h now v m n fate y path offset k q inv)) in
    goes_over r (id_state w path offset) (id_state v path offset) (name_of i) (after_claim count k.delta.seq s) (is_over i (moved (after y) f)) low high
    (record { now = y.moment; others = others g p h now v m n fate y path offset k; idle = refl; acting = λ a b. (a, b, refl) }) last
    (λ o. over_stays i f (after y) n fate k.caller.turns k.caller.flying y.ends (ap (λ z. z.over) (sym at) ∙ o))
    (λ x mid. Lands_claim (name_of i) (record {
      pending = ap (λ z. z.pending) at ∙ q.pends;
      seq = k.delta.seq;
      lands = lands_on (id_state w path offset) (id_state v path offset) x (name_of i)
          (Some (record { host = Some s.name; generation = s.generation; seq = k.delta.seq; kind = Claim_kind }))
          (lands p h now v m n fate y path offset k (Some (record { host = Some s.name; generation = s.generation; seq = k.delta.seq; kind = Claim_kind }))
          (whole.says ∙ ap (λ z. Some z) (claim_says p h now v m n fate y path offset k q))) mid.same;
      changes = changed (id_state w path offset) (id_state v path offset) x (name_of i) (after_claim count k.delta.seq s) mid;
    }))

-- A claim is torn.
pub tears_claim : RestsOn → (r : Terms) (p : Program) (h : Header) (now : List Happening) (v : World) (m n : ℕ) (fate : Fate) (y : Write (world_at p h now) v m n fate)
    (path : List ℕ) (offset : ℕ) (k : Here p h now v m n fate y path offset) → IsClaiming p h now v m n fate y path offset k
    → IsTorn (world_at p h now) v fate k.landing
    → IsBounded r (id_state (world_at p h now) path offset) → IsBounded r (id_state v path offset)
    → Later r (id_state (world_at p h now) path offset) (id_state v path offset)
tears_claim g r p h now v m n fate y path offset k q torn low high =
    let w : World = world_at p h now in
    let i : SessionId = writer y in
    let f : Found = k.caller.found in
    let c : Course = y.changes.course in
    let s : IdSession = session_at w path offset (name_of i) in
    let at : s ≡ standing_of w path offset i f = now_stands w v m n fate y path offset k.caller q.counts in
    let claim : claim_at v path offset i (join_course i ClaimWrite f.machine) ≡ s.claim =
    ap (claim_at v path offset i) q.decided.only
    ∙ index_old w v path offset (i.machine, c.call.number) k.landing k.grows (not_left (m, c.call.number) k.landing torn.torn)
    ∙ sym (ap (claim_at w path offset i) q.decided.only) ∙ ap (λ z. z.claim) (sym at) in
    let landed : has_landed i (after y) ≡ s.landed =
    landed_same i f (after y) n fate k.caller.turns (λ x is same.
    torn.landed ∙ sym (not_landed x.fate (ap (λ z. is_in_flight z.fate) (one_value x c (join_course i ClaimWrite f.machine) is q.decided.only) ∙ y.flies)))
    ∙ ap (λ z. z.landed) (sym at) in
    let last =
    stands_then w v m n fate y path offset k.caller q.counts (generation_stays g p h now v m n fate y path offset k q.here) false s.landed s.claim s.seq
    (waits_no_more i f (after y) n fate k.caller.turns y.ends (λ z. claim_is p h now v m n fate y path offset k q)) landed claim
    (seq_torn w v path offset k.landing i f k.grows k.wrote torn.says ∙ ap (λ z. z.seq) (sym at)) in
    goes_over r (id_state w path offset) (id_state v path offset) (name_of i) (after_losing s) (is_over i (moved (after y) f)) low high
    (record { now = y.moment; others = others g p h now v m n fate y path offset k; idle = refl; acting = λ a b. (a, b, refl) }) last
    (λ o. over_stays i f (after y) n fate k.caller.turns k.caller.flying y.ends (ap (λ z. z.over) (sym at) ∙ o))
    (λ x mid. Tears_claim (name_of i) (record {
      pending = ap (λ z. z.pending) at ∙ q.pends;
      lands = lands_on (id_state w path offset) (id_state v path offset) x (name_of i) None (lands p h now v m n fate y path offset k None torn.says) mid.same;
      changes = changed (id_state w path offset) (id_state v path offset) x (name_of i) (after_losing s) mid;
    }))

-- ---- a renewal or a free

-- Another write that is in flight, of a session that has verified and is not over.
pub record IsActing (p : Program) (h : Header) (now : List Happening) (v : World) (m n : ℕ) (fate : Fate) (y : Write (world_at p h now) v m n fate) (path : List ℕ) (offset : ℕ)
    (k : Here p h now v m n fate y path offset) : Type 0 where
  pub its : HasVerified (world_at p h now) (writer y) k.caller.found y.changes.course k.delta
  pub renewing : IsRenewing (world_at p h now) (writer y) k.caller.found y.changes.course k.delta
  pub here : is_sector_of (world_at p h now).layout path offset k.caller.found.session ≡ true
  pub counts : counts (world_at p h now) path offset (writer y) k.caller.found ≡ true
  pub verified : (session_at (world_at p h now) path offset (name_of (writer y))).verified ≡ true
  pub not_over : (session_at (world_at p h now) path offset (name_of (writer y))).over ≡ false
  pub idle : (session_at (world_at p h now) path offset (name_of (writer y))).pending ≡ false

begun_by : RestsOn → (p : Program) (h : Header) (now : List Happening) → LawfulRun p h now → (i : SessionId) (f : Found) → session_of_world (world_at p h now) i ≡ Some f
    → (n : ℕ) → (f.session.job ≡ None) ⊎ ((x : Sampling) × (verifying_sample (world_at p h now) i f ≡ Some x) × (x.step < n)) → has_begun i f ≡ true
begun_by g p h now run i f at n (inl none) = ap (λ o. is_none o || is_some (deciding_sample i f)) none
begun_by g p h now run i f at n (inr x) =
    let w : World = world_at p h now in
    let s = verifying_is w i f x.0 x.1 in
    let b = some_is_true (λ z. bytes_eq z s.course.sampled) (claim_bytes w i f) s.showed.shows in
    let c = mapped_value (λ (z : Course). write_bytes w z.call) (join_course i ClaimWrite f.machine) b.0 b.1 in
    let j = join_is i ClaimWrite f.machine c.0 c.1 in
    or_right (is_none f.session.job) (is_some (deciding_sample i f)) (ap (λ o. is_some o) (g.claims p h now run i f c.0 at j.own j.joins).decided)

pub acting : RestsOn → (r : Terms) (p : Program) (h : Header) (now : List Happening) (v : World) (m n : ℕ) (fate : Fate) (y : Write (world_at p h now) v m n fate)
    (path : List ℕ) (offset : ℕ) (k : Here p h now v m n fate y path offset) → is_join_call ClaimWrite y.changes.course.call.purpose ≡ false
    → Invariant r (id_state (world_at p h now) path offset) → IsActing p h now v m n fate y path offset k
acting g r p h now v m n fate y path offset k apart inv =
    let w : World = world_at p h now in
    let i : SessionId = writer y in
    let f : Found = k.caller.found in
    let c : Course = y.changes.course in
    let hv = g.renewals p h now k.run i f c k.caller.at k.caller.own k.delta k.writes apart in
    let here = sector_here w f c path offset k.place hv.own.place in
    let counted = and_from (is_sector_of w.layout path offset f.session) (has_begun i f) here (begun_by g p h now k.run i f k.caller.at c.made.step hv.verified) in
    let at : session_at w path offset (name_of i) ≡ standing_of w path offset i f = now_stands w v m n fate y path offset k.caller counted in
    let flying : IsFlying w i f c k.delta =
    record { own = own_call w i f c (known g.grounds p h now k.run i f k.caller.at) k.caller.own; writes = k.writes; unanswered = k.caller.unanswered } in
    let renewing : IsRenewing w i f c k.delta = record { flying = flying; apart = apart } in
    let verified = ap (λ z. z.verified) at ∙ verified_is w i f c.made.step hv.verified in
    record {
      its = hv;
      renewing = renewing;
      here = here;
      counts = counted;
      verified = verified;
      not_over = ap (λ z. z.over) at
          ∙ not_over w i f c k.delta renewing (subst (λ z. FliesAt z (own_courses i f.machine)) (sym k.caller.number) k.caller.flying) k.caller.in_flight;
      idle = is_false (session_at w path offset (name_of i)).pending (λ t. not_both (session_at w path offset (name_of i)).verified verified
          ((inv.one (name_of i)).waits t).2);
    }
