-- Each block names the host of its session: it comes from phase 1, or from a block of the session, or from one that a read showed at the
-- host's place.
use Rattle.sl_safety.proofs.GivenReads.GivenNames.{given_names}
use Rattle.sl_run.specs.Lawful.{Orderly}
use Rattle.sl_run_law.proofs.Leases.ComingLaws.{blocks_come}
use Rattle.sl_run_law.proofs.Leases.NumberLaws.{number_is_place}
use Rattle.sl_run_law.specs.Leases.Ways.{BlockComes, Of_mode, Of_phase1, Of_phase2, Way, lease_among}
use Rattle.sl_trace.specs.Leases.{block_submitted, block_written, spot_of_call}
use Rattle.sl_run_law.proofs.Place.Seats.{sized_in}
use Rattle.sl_words.proofs.Lists.{contains_cases, contains_first, contains_more, contains_none}
use Rattle.sl_safety.proofs.Resources.BlockOrigins.{is_among}
use Rattle.sl_safety.proofs.Resources.OwnBlocks.{block_told, layout_at}
use Rattle.sl_safety.proofs.Resources.CallParts.{Standing}
use Rattle.sl_safety.proofs.Resources.Calls.{holder_is, in_world}
use Rattle.sl_safety.specs.Resources.Histories.{is_host}
use Rattle.sl_safety.specs.Resources.SentCalls.{Sent, block_of_course, holder_of, sender_of}
use Rattle.sl_run.specs.Runs.{Happening}
use Rattle.sl_run.specs.Safety.{Found, LawfulRun, world_at}
use Rattle.sl_run.specs.Worlds.{Program, World}
use Rattle.sl_run.specs.declared.header.Header.{Header}
use Rattle.sl_sector.specs.declared.sector.Block.{Block}
use Rattle.sl_trace.specs.Sessions.{session_numbered}
use Rattle.sl_trace.specs.declared.session.Session.{Session}
use Rattle.sl_trace.specs.Traces.{Setting, Submitted, Trace, submitted}
use Rattle.sl_words.proofs.CaseLaws.{none_some}
use Rattle.sl_words.proofs.WordLaws.{and_true}
use Rattle.std.proofs.Common.{ap, append_assoc, inl, inr, refl, subst, sym, ◌∙◌}
use Rattle.std.proofs.lemmas.Bool.{leb-true}
use Rattle.std.specs.Prelude.{Contains, List, None, Option, Some, [], nat_le, true, ◌++◌, ◌∷◌, ◌≡◌, ◌≤◌}

-- ---- who wrote the block that was last submitted

abbrev pub IsWrittenIn : List Submitted → Block → Type 0
IsWrittenIn ms b = (m : Submitted) × Contains ms m × (block_written m ≡ Some b)

written_by : (m : Submitted) (ms : List Submitted) (b : Block) (o : Option Block) → block_written m ≡ o
    → elim o as (λ z. Option Block) [ Some c ↦ Some c | None ↦ block_submitted ms ] ≡ Some b → (block_submitted ms ≡ Some b → IsWrittenIn ms b) → IsWrittenIn (m ∷ ms) b
written_by m ms b None is found later = let r = later found in (r.0, contains_more m ms r.0 r.1, r.2)
written_by m ms b (Some c) is found later = (m, contains_first m ms, is ∙ found)

pub written_in : (ms : List Submitted) (b : Block) → block_submitted ms ≡ Some b → IsWrittenIn ms b
written_in [] b found = absurd (none_some b found)
written_in (m ∷ ms) b found = written_by m ms b (block_written m) refl found (λ f. written_in ms b f)

-- ---- in one trace

abbrev Names : Session → List Submitted → Type 0
Names s ms = (c : Submitted) → Contains ms c → c.call.session ≡ s.number → (b : Block) → block_written c ≡ Some b → b.host ≡ s.id

by_way : (s : Session) (c : Submitted) (own b : Block) → Way s c own b → own.host ≡ s.id → b.host ≡ s.id
by_way s c own b (Of_phase1 at h) named = h.host
by_way s c own b (Of_phase2 at h) named = h.host ∙ named
by_way s c own b (Of_mode at h) named = h.host ∙ named

own_names : (st : Setting) (es : Trace) (s : Session) → 1 ≤ s.id → (newer rest : List Submitted) (c : Submitted) → submitted es ≡ newer ++ c ∷ rest → (b : Block)
    → (k : BlockComes st s (spot_of_call st.layout c) rest c b) → Names s rest → (o : Option Block)
    → block_submitted (lease_among st s (spot_of_call st.layout c) rest) ≡ o → k.own.host ≡ s.id
own_names st es s low newer rest c is b k old None found =
    let f = k.found found in
    given_names st.layout f.read f.before f.blocks f.given s.id low k.own f.block
own_names st es s low newer rest c is b k old (Some d) found =
    let w = written_in (lease_among st s (spot_of_call st.layout c) rest) d found in
    let among = is_among st s (spot_of_call st.layout c) rest w.0 w.1 in
    ap (λ (x : Block). x.host) (sym (k.last d found)) ∙ old w.0 among.has among.session d w.2

hosts_named : (st : Setting) (es : Trace) → Orderly st es → 1 ≤ st.layout.hosts → (s : Session) → session_numbered st es s.number ≡ Some s → 1 ≤ s.id
    → (newer ms : List Submitted) → submitted es ≡ newer ++ ms → Names s ms
hosts_named st es law some s known low newer [] is c has mine b wrote = absurd (contains_none c has)
hosts_named st es law some s known low newer (x ∷ ms) is c has mine b wrote =
    let old : Names s ms = hosts_named st es law some s known low (newer ++ x ∷ []) ms (is ∙ sym (append_assoc newer (x ∷ []) ms)) in
    elim (contains_cases x ms c has) as (λ z. b.host ≡ s.id) [
      | inl here ↦
          let whole : submitted es ≡ newer ++ c ∷ ms = is ∙ ap (λ y. newer ++ y ∷ ms) here in
          let k = blocks_come st es law some newer ms c b whole wrote s (ap (λ n. session_numbered st es n) mine ∙ known) in
          by_way s c k.own b k.way (own_names st es s low newer ms c whole b k old (block_submitted (lease_among st s (spot_of_call st.layout c) ms)) refl)
      | inr more ↦ old c more mine b wrote
    ]

-- ---- in the world

-- The holder of a call's session has the session's id.
pub own_host : (w : World) (x : Sent) (s : Standing w x) → (holder_of w (sender_of x)).id ≡ s.session.id
own_host w x s =
    let f : Found = record { machine = s.machine; daemon = s.daemon; session = s.session; now = w.moment } in
    ap (λ o. o.id)
    (holder_is w (sender_of x) f
    (in_world w (sender_of x) s.machine s.daemon s.session s.at s.numbered
    (ap (λ c. session_numbered s.daemon.setting s.daemon.trace c.session) (sym s.told.pair.call) ∙ s.known)))

-- Each block that was sent by a session of a host names it.
pub block_host : (p : Program) (h : Header) (xs : List Happening) → LawfulRun p h xs → (x : Sent) (s : Standing (world_at p h xs) x)
    → is_host (world_at p h xs) s.session.id ≡ true → (b : Block) → block_of_course x.course ≡ Some b → b.host ≡ s.session.id
block_host p h xs run x s host b is =
    let w : World = world_at p h xs in
    let st : Setting = s.daemon.setting in
    let es : Trace = s.daemon.trace in
    let n = number_is_place st es s.told.one.call.session s.session s.known in
    let known : session_numbered st es s.session.number ≡ Some s.session = ap (λ k. session_numbered st es k) n ∙ s.known in
    let some : 1 ≤ st.layout.hosts = subst (λ g. 1 ≤ g.hosts) (sym (layout_at p h xs run x s)) (sized_in p h xs run).hosts.0 in
    let low : 1 ≤ s.session.id = leb-true 1 s.session.id (and_true (nat_le 1 s.session.id) (nat_le s.session.id w.layout.hosts) host).0 in
    hosts_named st es s.lawful some s.session known low
    s.told.newer (s.told.one ∷ s.told.older) s.told.is s.told.one (contains_first s.told.one s.told.older) (sym n) b (block_told w x s b is)
