-- Renewals and frees that land at the sector of an id, whole or torn, as its steps.
use Rattle.sl_id_safety.proofs.State.FindingFrames.{moved}
use Rattle.sl_id_safety.proofs.State.LandingFrames.{Grows}
use Rattle.sl_id_safety.proofs.State.SampleFrames.{join_is}
use Rattle.sl_id_safety.specs.State.IdStates.{content_of, deciding_sample, id_state, is_left_by, join_course, kind_of, name_of, said_by, session_at, standing_of}
use Rattle.sl_id_safety.proofs.Steps.Callers.{Write, after, now_stands, writer}
use Rattle.sl_id_safety.proofs.Steps.StepThenEnd.{changed, goes_over}
use Rattle.sl_id_safety.proofs.Steps.Fates.{landed_same, waits_no_more}
use Rattle.sl_id_safety.proofs.Steps.FateChanges.{Turns, claim_at, has_landed, pends, seq_at}
use Rattle.sl_id_safety.proofs.Steps.LandingsElsewhere.{RestsOn, lands_on, stands_then}
use Rattle.sl_id_safety.proofs.Steps.LandingsHere.{Here, IsActing, IsTorn, IsWhole, acting, claiming, content_by, generation_here, generation_stays, lands, lands_claim, others, tears_claim}
use Rattle.sl_id_safety.proofs.Steps.OwnSeqs.{seqs_under}
use Rattle.sl_id_safety.proofs.Steps.OwnWrites.{free_lands}
use Rattle.sl_id_safety.proofs.Steps.Seqs.{first_is_other, index_old, seq_above, seq_torn}
use Rattle.sl_ids.specs.Invariant.{Invariant}
use Rattle.sl_ids.specs.Runs.{IsBounded, Later}
use Rattle.sl_ids.specs.State.{Free as Free_kind, Kind, Live as Live_kind, Session as IdSession}
use Rattle.sl_ids.specs.Steps.{Lands_own, Leaving as Leaving_write, Renewal as Renewal_write, Rises, Torn as Torn_write, Write as IdWrite, after_writing, spelled_by}
use Rattle.sl_ids.specs.Terms.{Terms}
use Rattle.sl_run_law.proofs.Landing.CallLists.{one_call}
use Rattle.sl_words.proofs.Numbers.{number_turned}
use Rattle.sl_run.specs.Runs.{Happening}
use Rattle.sl_run.specs.Safety.{Found, SessionId, is_over, world_at}
use Rattle.sl_run.specs.Worlds.{Course, Fate, Landing, Program, World}
use Rattle.sl_run.specs.declared.header.Header.{Header}
use Rattle.sl_sector.specs.declared.sector.DeltaState.TheVariants.{Free, Live}
use Rattle.sl_trace.specs.Sessions.{is_free_purpose, is_join_call}
use Rattle.sl_trace.specs.declared.effects.JoinStep.TheVariants.{ClaimWrite}
use Rattle.sl_words.proofs.CaseLaws.{is_false, not_both}
use Rattle.sl_words.proofs.WordLaws.{and_true}
use Rattle.sl_words.specs.Words.{some_is}
use Rattle.std.proofs.Common.{ap, inl, inr, refl, subst, sym, ◌∙◌}
use Rattle.std.specs.Prelude.{Bool, Contains, List, None, Option, Some, false, true, [], ℕ, ◌&&◌, ◌<◌, ◌==◌, ◌∷◌, ◌≡◌, ◌⊎◌}

-- ---- the claim stays where it is

-- The session's claim isn't this write.
not_this : (p : Program) (h : Header) (now : List Happening) (v : World) (m n : ℕ) (fate : Fate) (y : Write (world_at p h now) v m n fate)
    (path : List ℕ) (offset : ℕ) (k : Here p h now v m n fate y path offset) → is_join_call ClaimWrite y.changes.course.call.purpose ≡ false
    → (x : Course) → join_course (writer y) ClaimWrite k.caller.found.machine ≡ Some x → (x.call.number == y.changes.course.call.number) ≡ true → ⊥
not_this p h now v m n fate y path offset k apart x is same =
    let j = join_is (writer y) ClaimWrite k.caller.found.machine x is in
    let one : x ≡ y.changes.course =
    one_call y.changes.machine.calls x y.changes.course y.changes.distinct (subst (λ a. Contains a.calls x) k.caller.machine j.has) k.caller.inside same in
    not_both (is_join_call ClaimWrite x.call.purpose) j.joins (ap (λ z. is_join_call ClaimWrite z.call.purpose) one ∙ apart)

claim_by : (w v : World) (path : List ℕ) (offset : ℕ) (i : SessionId) (l : Landing) (o : Option Course) → Grows w v path offset (l ∷ [])
    → ((x : Course) → o ≡ Some x → is_left_by (i.machine, x.call.number) l ≡ false) → claim_at v path offset i o ≡ claim_at w path offset i o
claim_by w v path offset i l None g other = refl
claim_by w v path offset i l (Some x) g other = index_old w v path offset (i.machine, x.call.number) l g (other x refl)

claim_stays : (p : Program) (h : Header) (now : List Happening) (v : World) (m n : ℕ) (fate : Fate) (y : Write (world_at p h now) v m n fate)
    (path : List ℕ) (offset : ℕ) (k : Here p h now v m n fate y path offset) → is_join_call ClaimWrite y.changes.course.call.purpose ≡ false
    → claim_at v path offset (writer y) (join_course (writer y) ClaimWrite k.caller.found.machine)
    ≡ claim_at (world_at p h now) path offset (writer y) (join_course (writer y) ClaimWrite k.caller.found.machine)
claim_stays p h now v m n fate y path offset k apart =
    claim_by (world_at p h now) v path offset (writer y) k.landing (join_course (writer y) ClaimWrite k.caller.found.machine) k.grows
    (λ x is. is_false (is_left_by (m, x.call.number) k.landing) (left x is))
  where
    left : (x : Course) → join_course (writer y) ClaimWrite k.caller.found.machine ≡ Some x → is_left_by (m, x.call.number) k.landing ≡ true → ⊥
    left x is t =
        let a = and_true k.landing.whole (some_is (λ q. q.0 == m && q.1 == x.call.number) k.landing.writer) t in
        let b = and_true (m == m) (y.changes.course.call.number == x.call.number)
        (sym (ap (λ o. some_is (λ q. q.0 == m && q.1 == x.call.number) o) k.named) ∙ a.1) in
        not_this p h now v m n fate y path offset k apart x is (number_turned y.changes.course.call.number x.call.number b.1)

-- ---- the step

-- What a write makes of its session.
pub record IsWritten (p : Program) (h : Header) (now : List Happening) (v : World) (m n : ℕ) (fate : Fate) (y : Write (world_at p h now) v m n fate) (path : List ℕ) (offset : ℕ)
    (k : Here p h now v m n fate y path offset) (write : IdWrite) (seq : ℕ) : Type 0 where
  pub rises : Rises (session_at (world_at p h now) path offset (name_of (writer y))).seq write
  pub says : said_by v.layout k.landing.bytes
      ≡ spelled_by (session_at (world_at p h now) path offset (name_of (writer y))).name (session_at (world_at p h now) path offset (name_of (writer y))).generation write
  pub seq_then : seq_at v path offset (writer y) k.caller.found ≡ seq
  -- what it makes of the session, but for an end
  pub makes : (over : Bool) → (let s : IdSession = record (session_at (world_at p h now) path offset (name_of (writer y))) { seq = seq; over = over } in s)
      ≡ (let s : IdSession = record (after_writing write (session_at (world_at p h now) path offset (name_of (writer y)))) { over = over } in s)
  pub idle : (after_writing write (session_at (world_at p h now) path offset (name_of (writer y)))).pending ≡ false
  pub renewed : (after_writing write (session_at (world_at p h now) path offset (name_of (writer y)))).renewed
      ≡ (session_at (world_at p h now) path offset (name_of (writer y))).renewed
  pub stays : (after_writing write (session_at (world_at p h now) path offset (name_of (writer y)))).over ≡ true
      → is_over (writer y) (moved (after y) k.caller.found) ≡ true

lands_own : RestsOn → (r : Terms) (p : Program) (h : Header) (now : List Happening) (v : World) (m n : ℕ) (fate : Fate) (y : Write (world_at p h now) v m n fate)
    (path : List ℕ) (offset : ℕ) (k : Here p h now v m n fate y path offset) (q : IsActing p h now v m n fate y path offset k) (write : IdWrite) (seq : ℕ)
    → IsWritten p h now v m n fate y path offset k write seq
    → IsBounded r (id_state (world_at p h now) path offset) → IsBounded r (id_state v path offset)
    → Later r (id_state (world_at p h now) path offset) (id_state v path offset)
lands_own g r p h now v m n fate y path offset k q write seq e low high =
    let w : World = world_at p h now in
    let i : SessionId = writer y in
    let f : Found = k.caller.found in
    let s : IdSession = session_at w path offset (name_of i) in
    let t : IdSession = after_writing write s in
    let at : s ≡ standing_of w path offset i f = now_stands w v m n fate y path offset k.caller q.counts in
    let waits : pends i (moved (after y) f) ≡ s.pending =
    waits_no_more i f (after y) n fate k.caller.turns y.ends (λ z. absurd (not_both s.pending (ap (λ x. x.pending) at ∙ z) q.idle)) ∙ sym q.idle in
    let landed : has_landed i (after y) ≡ s.landed =
    landed_same i f (after y) n fate k.caller.turns
    (λ x is same. absurd (not_this p h now v m n fate y path offset k q.renewing.apart x is (ap (λ z. x.call.number == z) k.caller.number ∙ same)))
    ∙ ap (λ z. z.landed) (sym at) in
    let last =
    stands_then w v m n fate y path offset k.caller q.counts (generation_stays g p h now v m n fate y path offset k q.here) s.pending s.landed s.claim seq waits landed
    (claim_stays p h now v m n fate y path offset k q.renewing.apart ∙ ap (λ z. z.claim) (sym at)) e.seq_then in
    goes_over r (id_state w path offset) (id_state v path offset) (name_of i) t (is_over i (moved (after y) f)) low high
    (record { now = y.moment; others = others g p h now v m n fate y path offset k; idle = e.idle; acting = λ a b. (q.verified, q.not_over, e.renewed) })
    (last ∙ e.makes (is_over i (moved (after y) f))) e.stays
    (λ x mid. Lands_own (name_of i) (record {
      verified = q.verified;
      not_over = q.not_over;
      write = write;
      rises = e.rises;
      lands = lands_on (id_state w path offset) (id_state v path offset) x (name_of i) (spelled_by s.name s.generation write)
          (lands p h now v m n fate y path offset k (spelled_by s.name s.generation write) e.says) mid.same;
      changes = changed (id_state w path offset) (id_state v path offset) x (name_of i) t mid;
    }))

-- ---- what it says

own_says : (p : Program) (h : Header) (now : List Happening) (v : World) (m n : ℕ) (fate : Fate) (y : Write (world_at p h now) v m n fate)
    (path : List ℕ) (offset : ℕ) (k : Here p h now v m n fate y path offset) → IsActing p h now v m n fate y path offset k → (kind : Kind) → kind_of k.delta.state ≡ kind
    → content_of k.delta
    ≡ record {
      host = Some (session_at (world_at p h now) path offset (name_of (writer y))).name;
      generation = (session_at (world_at p h now) path offset (name_of (writer y))).generation;
      seq = k.delta.seq;
      kind = kind;
    }
own_says p h now v m n fate y path offset k q kind is =
    let w : World = world_at p h now in
    let s : IdSession = session_at w path offset (name_of (writer y)) in
    let at = now_stands w v m n fate y path offset k.caller q.counts in
    content_by k.delta (Some s.name) s.generation kind (q.its.own.names.2 ∙ ap (λ z. Some z.name) (sym at))
    (q.its.generation ∙ generation_here w y.changes.course path offset (deciding_sample (writer y) k.caller.found) k.place ∙ ap (λ z. z.generation) (sym at)) is

own_rises : RestsOn → (r : Terms) (p : Program) (h : Header) (now : List Happening) (v : World) (m n : ℕ) (fate : Fate) (y : Write (world_at p h now) v m n fate)
    (path : List ℕ) (offset : ℕ) (k : Here p h now v m n fate y path offset) → IsActing p h now v m n fate y path offset k
    → Invariant r (id_state (world_at p h now) path offset) → seq_at (world_at p h now) path offset (writer y) k.caller.found < k.delta.seq
own_rises g r p h now v m n fate y path offset k q inv =
    let w : World = world_at p h now in
    seqs_under g.grounds g.promised g.written p h now k.run k.distinct path offset k.id (writer y) k.caller.found y.changes.course k.delta k.caller.at
    (y.changes.at ∙ ap (λ a. Some a) (sym k.caller.machine)) q.renewing y.flies (first_is_other r w v m n fate y path offset k.caller inv q.counts)

-- ---- each kind

renews : RestsOn → (r : Terms) (p : Program) (h : Header) (now : List Happening) (v : World) (m n : ℕ) (fate : Fate) (y : Write (world_at p h now) v m n fate)
    (path : List ℕ) (offset : ℕ) (k : Here p h now v m n fate y path offset) (q : IsActing p h now v m n fate y path offset k)
    → IsWhole (world_at p h now) v fate k.landing k.delta → Invariant r (id_state (world_at p h now) path offset) → k.delta.state ≡ Live
    → IsWritten p h now v m n fate y path offset k (Renewal_write k.delta.seq) k.delta.seq
renews g r p h now v m n fate y path offset k q whole inv live =
    let w : World = world_at p h now in
    let at = now_stands w v m n fate y path offset k.caller q.counts in
    let above = own_rises g r p h now v m n fate y path offset k q inv in
    record {
      rises = subst (λ z. z < k.delta.seq) (ap (λ z. z.seq) (sym at)) above;
      says = whole.says ∙ ap (λ z. Some z) (own_says p h now v m n fate y path offset k q Live_kind (ap kind_of live));
      seq_then = seq_above w v path offset k.landing (writer y) k.caller.found (content_of k.delta) k.grows k.wrote whole.says above;
      makes = λ over. refl;
      idle = q.idle;
      renewed = refl;
      stays = λ o. absurd (not_both (session_at w path offset (name_of (writer y))).over o q.not_over);
    }

leaves : RestsOn → (r : Terms) (p : Program) (h : Header) (now : List Happening) (v : World) (m n : ℕ) (fate : Fate) (y : Write (world_at p h now) v m n fate)
    (path : List ℕ) (offset : ℕ) (k : Here p h now v m n fate y path offset) (q : IsActing p h now v m n fate y path offset k)
    → IsWhole (world_at p h now) v fate k.landing k.delta → Invariant r (id_state (world_at p h now) path offset)
    → (k.delta.state ≡ Free) × (is_free_purpose y.changes.course.call.purpose ≡ true)
    → IsWritten p h now v m n fate y path offset k (Leaving_write k.delta.seq) k.delta.seq
leaves g r p h now v m n fate y path offset k q whole inv free =
    let w : World = world_at p h now in
    let i : SessionId = writer y in
    let f : Found = k.caller.found in
    let at = now_stands w v m n fate y path offset k.caller q.counts in
    let above = own_rises g r p h now v m n fate y path offset k q inv in
    record {
      rises = subst (λ z. z < k.delta.seq) (ap (λ z. z.seq) (sym at)) above;
      says = whole.says ∙ ap (λ z. Some z) (own_says p h now v m n fate y path offset k q Free_kind (ap kind_of free.0));
      seq_then = seq_above w v path offset k.landing i f (content_of k.delta) k.grows k.wrote whole.says above;
      makes = λ over. refl;
      idle = q.idle;
      renewed = refl;
      stays = λ o. free_lands w i f (after y) y.changes.course k.delta fate q.renewing k.caller.own
          (subst (λ z. Turns i f (after y) z fate) (sym k.caller.number) k.caller.turns) whole.landed free.1;
    }

tears : (p : Program) (h : Header) (now : List Happening) (v : World) (m n : ℕ) (fate : Fate) (y : Write (world_at p h now) v m n fate)
    (path : List ℕ) (offset : ℕ) (k : Here p h now v m n fate y path offset) (q : IsActing p h now v m n fate y path offset k)
    → IsTorn (world_at p h now) v fate k.landing
    → IsWritten p h now v m n fate y path offset k Torn_write (session_at (world_at p h now) path offset (name_of (writer y))).seq
tears p h now v m n fate y path offset k q torn =
    let w : World = world_at p h now in
    let at = now_stands w v m n fate y path offset k.caller q.counts in
    record {
      rises = tt;
      says = torn.says;
      seq_then = seq_torn w v path offset k.landing (writer y) k.caller.found k.grows k.wrote torn.says ∙ ap (λ z. z.seq) (sym at);
      makes = λ over. refl;
      idle = q.idle;
      renewed = refl;
      stays = λ o. absurd (not_both (session_at w path offset (name_of (writer y))).over o q.not_over);
    }

-- ---- all of them

-- A write that lands at the sector of an id is a step of it.
pub lands_here : RestsOn → (r : Terms) (p : Program) (h : Header) (now : List Happening) (v : World) (m n : ℕ) (fate : Fate) (y : Write (world_at p h now) v m n fate)
    (path : List ℕ) (offset : ℕ) (k : Here p h now v m n fate y path offset)
    → IsWhole (world_at p h now) v fate k.landing k.delta ⊎ IsTorn (world_at p h now) v fate k.landing → Invariant r (id_state (world_at p h now) path offset)
    → IsBounded r (id_state (world_at p h now) path offset) → IsBounded r (id_state v path offset)
    → Later r (id_state (world_at p h now) path offset) (id_state v path offset)
lands_here g r p h now v m n fate y path offset k how inv low high = by (is_join_call ClaimWrite y.changes.course.call.purpose) refl how where
  by : (b : Bool) → is_join_call ClaimWrite y.changes.course.call.purpose ≡ b
      → IsWhole (world_at p h now) v fate k.landing k.delta ⊎ IsTorn (world_at p h now) v fate k.landing
      → Later r (id_state (world_at p h now) path offset) (id_state v path offset)
  by true is (inl whole) = lands_claim g r p h now v m n fate y path offset k (claiming g p h now v m n fate y path offset k is) whole inv low high
  by true is (inr torn) = tears_claim g r p h now v m n fate y path offset k (claiming g p h now v m n fate y path offset k is) torn low high
  by false is (inl whole) =
      let q = acting g r p h now v m n fate y path offset k is inv in
      elim q.its.state as (λ z. Later r (id_state (world_at p h now) path offset) (id_state v path offset)) [
        | inl live ↦
            lands_own g r p h now v m n fate y path offset k q (Renewal_write k.delta.seq) k.delta.seq (renews g r p h now v m n fate y path offset k q whole inv live) low high
        | inr free ↦
            lands_own g r p h now v m n fate y path offset k q (Leaving_write k.delta.seq) k.delta.seq (leaves g r p h now v m n fate y path offset k q whole inv free) low high
      ]
  by false is (inr torn) =
      let q = acting g r p h now v m n fate y path offset k is inv in
      lands_own g r p h now v m n fate y path offset k q Torn_write (session_at (world_at p h now) path offset (name_of (writer y))).seq
      (tears p h now v m n fate y path offset k q torn) low high
