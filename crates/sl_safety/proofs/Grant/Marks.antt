-- Each block of a session that has held shared since a grant has its mark, from the mark of that grant on: before the grant by what stands
-- before it, after it by the law of modes.
use Rattle.sl_area.specs.AreaSizes.{Layout}
use Rattle.sl_safety.proofs.Ballot.ReasonNames.{cut_keeps}
use Rattle.sl_safety.specs.Ballot.Endings.{IsEntryAt}
use Rattle.sl_safety.proofs.Grant.SharedBacking.{IsBacked}
use Rattle.sl_safety.proofs.Grant.ExclusiveGrants.{IsToldOf}
use Rattle.sl_safety.proofs.Grant.Names.{StoodAt, stood_at}
use Rattle.sl_safety.proofs.Grant.BlocksInTraces.{BlockTold, ends_within}
use Rattle.sl_safety.proofs.Grant.HistorySteps.{IsAt}
use Rattle.sl_safety.proofs.Grant.CallsOfWorlds.{IsFront, OfLease, in_lease, lease_was, whole_of}
use Rattle.sl_run.specs.LawForms.{cut_at}
use Rattle.sl_run_law.proofs.Leases.GrantLaws.{modes_follow}
use Rattle.sl_run_law.specs.Leases.ModesRest.{ModeRests}
use Rattle.sl_trace.specs.Leases.{Mode_set, block_of_record, has_shared_on, is_at, spot_of_call}
use Rattle.sl_safety.proofs.Resources.BlockOrigins.{line_aligned}
use Rattle.sl_safety.proofs.Resources.Calls.{split}
use Rattle.sl_safety.proofs.Resources.OwnBlocks.{spot_is}
use Rattle.sl_safety.specs.Resources.HistoryLaws.{spot_of_line}
use Rattle.sl_safety.specs.Resources.SentCalls.{is_joined_there}
use Rattle.sl_run.specs.Runs.{Happening}
use Rattle.sl_run.specs.Safety.{Found, IsSession, LawfulRun, SessionId, found_generation, setting_in, trace_of, world_at}
use Rattle.sl_run.specs.Worlds.{Program}
use Rattle.sl_run.specs.declared.header.Header.{Header}
use Rattle.sl_run.specs.declared.header.ResourceLine.{ResourceLine}
use Rattle.sl_sector.specs.declared.sector.Block.{Block}
use Rattle.sl_trace.specs.Sessions.{session_numbered}
use Rattle.sl_trace.specs.declared.session.Session.{Session}
use Rattle.sl_trace.specs.Traces.{Setting, Submitted, Trace, record_of, submitted}
use Rattle.sl_trace.specs.declared.effects.Call.{Call}
use Rattle.sl_trace.specs.declared.effects.Entry.{Entry}
use Rattle.std.proofs.Common.{ap, arith, subst, sym, ◌∙◌}
use Rattle.std.proofs.lemmas.Bool.{or_left}
use Rattle.std.specs.Prelude.{Contains, List, length, option_and_then, suc, true, ℕ, ◌%◌, ◌++◌, ◌<◌, ◌∷◌, ◌≡◌, ◌≤◌}

-- ---- where all of it stands

-- A run of shared holdings, at the resource.
pub record RunsThere (p : Program) (h : Header) (xs : List Happening) (r : ResourceLine) (i : SessionId) (f : Found) : Type 0 where
  pub given : IsToldOf
  pub run : LawfulRun p h xs
  pub its : IsSession (world_at p h xs) i f
  pub there : Contains h.resources r
  pub joined : is_joined_there (world_at p h xs) r.lockspace i ≡ true
  pub later : Trace
  pub entry : Entry
  pub past : Trace
  pub whole : trace_of f ≡ later ++ entry ∷ past
  pub step : ℕ
  pub came : IsEntryAt f entry past step
  pub instance : ℕ
  pub backed : IsBacked (setting_in f) (entry ∷ past) f.session (spot_of_line r) instance
  pub stood : (newer older : Trace) → later ≡ newer ++ older → has_shared_on (older ++ entry ∷ past) f.session (spot_of_line r) ≡ true
  pub at : IsAt p h xs r i f (entry ∷ past)
  pub named : StoodAt p h xs i f (entry ∷ past)

abbrev pub front_of_run : {p : Program} {h : Header} {xs : List Happening} {r : ResourceLine} {i : SessionId} {f : Found} → RunsThere p h xs r i f → Trace
front_of_run k = k.entry ∷ k.past

-- ---- the mark stays

-- A block of the session has its mark.
abbrev pub HasMark : Found → Block → Type 0
HasMark f b = (b.shared ≡ true) × (b.mode_gen ≡ found_generation f)

up_long : (n a m : ℕ) → n ≤ a → a ≡ m → n ≤ suc m
up_long n a m le is = omega (arith, le, is)

last_in : (a m : ℕ) → a ≡ m → a < suc m
last_in a m is = omega (arith, is)

aligned : (p : Program) (h : Header) (xs : List Happening) (r : ResourceLine) (i : SessionId) (f : Found) → (k : RunsThere p h xs r i f)
    → (spot_of_line r).base % (setting_in f).layout.area ≡ 0
aligned p h xs r i f k =
    ap (λ (g : Layout). r.offset % g.area) (whole_of p h xs k.run i f k.its).layout ∙ line_aligned p h xs k.run r k.there

-- It holds shared at each later front.
held_after : (p : Program) (h : Header) (xs : List Happening) (r : ResourceLine) (i : SessionId) (f : Found) → (k : RunsThere p h xs r i f) → (newer back : Trace)
    → trace_of f ≡ newer ++ back → length (front_of_run k) ≤ length back → has_shared_on back f.session (spot_of_line r) ≡ true
held_after p h xs r i f k newer back whole long =
    let mid = ends_within k.later (front_of_run k) newer back (sym k.whole ∙ whole) long in
    subst (λ z. has_shared_on z f.session (spot_of_line r) ≡ true) (sym mid.1) (k.stood newer mid.0 mid.2)

marked_by : (p : Program) (h : Header) (xs : List Happening) (r : ResourceLine) (i : SessionId) (f : Found) → (k : RunsThere p h xs r i f) → (e : ℕ) (t : BlockTold p h xs r f e)
    → length (front_of_run k) ≤ t.call.at → (older : List Submitted) → ModeRests (trace_of f) f.session (spot_of_call (setting_in f).layout t.call) older t.call t.block
    → HasMark f t.block
marked_by p h xs r i f k e t late older m =
    let st : Setting = setting_in f in
    let s : Session = f.session in
    let sub = m.submission in
    let back : Trace = sub.entry ∷ sub.past in
    let place : t.call.at ≡ length sub.past = sub.itself.at in
    let held = held_after p h xs r i f k sub.later back sub.whole (up_long (length (front_of_run k)) t.call.at (length sub.past) late place) in
    let at : spot_of_call st.layout t.call ≡ spot_of_line r = spot_is st.layout (spot_of_line r) t.call (aligned p h xs r i f k) t.lease.on in
    let shown : has_shared_on (cut_at sub.place sub.entry ∷ sub.past) s (spot_of_call st.layout t.call) ≡ true = ap (λ z. has_shared_on back s z) at ∙ held in
    let shared : t.block.shared ≡ true = m.exact.1 (or_left (has_shared_on (cut_at sub.place sub.entry ∷ sub.past) s (spot_of_call st.layout t.call)) (is_at Mode_set t.call) shown) in
    let whole : IsFront p h xs i f back = record { run = k.run; its = k.its; later = sub.later; whole = sub.whole } in
    let was = lease_was st sub.later back s (spot_of_line r) t.call (subst (λ z. OfLease st z s (spot_of_line r) t.call) sub.whole t.lease)
    (last_in t.call.at (length sub.past) place) in
    let named = stood_at p h xs i f back whole (spot_of_line r) was.was was.lease in (
      shared,
      m.own shared ∙ sym (cut_keeps st sub.entry sub.past s named.entries named.lawful named.known named.joined sub.place) ∙ named.generation,
    )

-- After the grant: by the law of modes.
pub marked_after : (p : Program) (h : Header) (xs : List Happening) (r : ResourceLine) (i : SessionId) (f : Found) → (k : RunsThere p h xs r i f) → (e : ℕ) (t : BlockTold p h xs r f e)
    → length (front_of_run k) ≤ t.call.at → HasMark f t.block
marked_after p h xs r i f k e t late =
    let all = whole_of p h xs k.run i f k.its in
    let parts = split (submitted (trace_of f)) t.call t.lease.inside in
    marked_by p h xs r i f k e t late parts.1
    (modes_follow (setting_in f) (trace_of f) all.lawful parts.0 parts.1 t.call t.block parts.2 t.wrote f.session
    (ap (λ n. session_numbered (setting_in f) (trace_of f) n) t.lease.mine ∙ all.known))

-- Before it: by what the grant says of the blocks from its mark on.
pub marked_before : (p : Program) (h : Header) (xs : List Happening) (r : ResourceLine) (i : SessionId) (f : Found) → (k : RunsThere p h xs r i f) → (e : ℕ) (t : BlockTold p h xs r f e)
    → t.call.at < length (front_of_run k) → k.backed.mode.call.number ≤ t.call.call.number → HasMark f t.block
marked_before p h xs r i f k e t early most =
    let st : Setting = setting_in f in
    let was = lease_was st k.later (front_of_run k) f.session (spot_of_line r) t.call
    (subst (λ z. OfLease st z f.session (spot_of_line r) t.call) k.whole t.lease) early in
    let mark = k.backed.kept was.was t.block (in_lease st (front_of_run k) f.session (spot_of_line r) was.was was.lease)
    (subst (λ (c : Call). k.backed.mode.call.number ≤ c.number) (sym was.call) most)
    (ap (λ (c : Call). option_and_then block_of_record (record_of c.op)) was.call ∙ t.wrote) in
    (mark.0, mark.1 ∙ k.named.generation)
