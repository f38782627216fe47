-- The own block of a session's first write: what its last read shows of its host.
use Rattle.sl_run.specs.LawfulBlock.{LawfulBlockStep}
use Rattle.sl_run.specs.LawForms.{cut_at}
use Rattle.sl_run_law.proofs.Leases.AgeLaws.{aged_block, aged_lease}
use Rattle.sl_run_law.proofs.Leases.ComingLaws.{at_step}
use Rattle.sl_run_law.proofs.Leases.WayLaws.{by_mode, by_phase1}
use Rattle.sl_run_law.specs.Leases.CallFronts.{AllAged, Submission}
use Rattle.sl_run_law.specs.Leases.Ways.{ByMode, ByPhase1, Of_mode, Of_phase1, Way, lease_among}
use Rattle.sl_trace.specs.Leases.{Mode_cleared, Mode_set, Phase1_write, block_of_host, block_submitted, block_written, freed, last_blocks, lease_calls, lease_step, own_or_read, spot_of_call}
use Rattle.sl_safety.proofs.Resources.OwnBlocks.{front_at}
use Rattle.sl_safety.proofs.Resources.CallParts.{Standing}
use Rattle.sl_safety.specs.Resources.SentCalls.{Sent, block_of_course}
use Rattle.sl_run.specs.Worlds.{World}
use Rattle.sl_sector.specs.declared.sector.Block.{Block}
use Rattle.sl_trace.specs.Sessions.{me}
use Rattle.sl_trace.specs.declared.session.Session.{Session}
use Rattle.sl_trace.specs.Traces.{Setting, Submitted, Trace, new_call, submitted}
use Rattle.sl_trace.specs.declared.effects.LeaseStep.TheVariants.{ClearMode, FreeLeader, Phase1Read, Phase1Write, Phase2Read, Phase2Write, ReadAgain, ReadArea, ReadBeforeBlock, ReadBeforeFree, SetMode, TakeLeader}
use Rattle.sl_trace.specs.declared.effects.LeaseStep.{LeaseStep}
use Rattle.sl_trace.specs.declared.effects.Spot.{Spot}
use Rattle.sl_trace.specs.declared.effects.Work.{Work}
use Rattle.sl_words.proofs.CaseLaws.{none_some}
use Rattle.sl_words.specs.Words.{present}
use Rattle.std.proofs.Common.{ap, arith, inl, inr, refl, subst, sym, ◌∙◌}
use Rattle.std.specs.Prelude.{List, None, Option, Some, [], cond, find, is_some, length, suc, ℕ, ◌+◌, ◌<◌, ◌∷◌, ◌≡◌, ◌≤◌}

-- ---- at the front

-- The own block was last read, and the block that is written comes from it.
pub record OwnRead (st : Setting) (t : Trace) (s : Session) (at : Spot) (c : Submitted) (b : Block) : Type 0 where
  pub own : Block
  pub known : block_of_host (last_blocks st.layout (lease_calls st t s at)) s.id ≡ Some own
  pub way : Way s c own b

read_known : (id : ℕ) (o : Option Block) (read : List (Option Block)) (own : Block) → o ≡ None → own_or_read id o read ≡ Some own → block_of_host read id ≡ Some own
read_known id None read own none known = known
read_known id (Some b) read own none known = absurd (none_some b (sym none))

none_by : (m : Submitted) (w : Submitted) (ms : List Submitted) (o : Option Block) → block_written m ≡ o
    → elim o as (λ z. Option Block) [ Some b ↦ Some b | None ↦ block_submitted ms ] ≡ None
    → cond (is_some o) (Some m) (find (λ d. is_some (block_written d)) ms) ≡ Some w
    → (block_submitted ms ≡ None → find (λ d. is_some (block_written d)) ms ≡ Some w → ⊥) → ⊥
none_by m w ms None is none found later = later none found
none_by m w ms (Some b) is none found later = none_some b (sym none)

none_found : (ms : List Submitted) (w : Submitted) → block_submitted ms ≡ None → find (λ d. is_some (block_written d)) ms ≡ Some w → ⊥
none_found [] w none found = none_some w found
none_found (m ∷ ms) w none found = none_by m w ms (block_written m) refl none found (λ n f. none_found ms w n f)

less_then : (a b : ℕ) → a < b → 1 ≤ b
less_then a b h = omega (arith, h)

read_by_step : (st : Setting) (t : Trace) (s : Session) (at : Spot) (c : Submitted) (b : Block) → 1 ≤ st.layout.hosts → block_submitted (lease_calls st t s at) ≡ None
    → (w : Work) (step : LeaseStep) → lease_step c.call.purpose ≡ Some (w, step) → LawfulBlockStep st t s at c b step → OwnRead st t s at c b
read_by_step st t s at c b some none w Phase1Write is h =
    record {
      own = h.own;
      known = read_known s.id (block_submitted (lease_calls st t s at)) (last_blocks st.layout (lease_calls st t s at)) h.own none h.known;
      way = Of_phase1 (at_step Phase1_write c (w, Phase1Write) is refl)
          (subst (λ x. ByPhase1 s h.own x) (sym h.written)
          (by_phase1 s (me t s) st.layout.hosts b.lver b.shared b.mode_gen h.own (present (last_blocks st.layout (lease_calls st t s at))) some refl h.not_below
          (less_then (freed (lease_calls st t s at)) b.lver h.not_freed)));
    }
read_by_step st t s at c b some none w Phase2Write is h = absurd (none_found (lease_calls st t s at) h.write none h.last)
read_by_step st t s at c b some none w SetMode is h =
    record {
      own = h.own;
      known = read_known s.id (block_submitted (lease_calls st t s at)) (last_blocks st.layout (lease_calls st t s at)) h.own none h.known;
      way = Of_mode (inl (at_step Mode_set c (w, SetMode) is refl)) (subst (λ x. ByMode h.own x) (sym h.written) (by_mode h.own b.shared b.mode_gen h.begun));
    }
read_by_step st t s at c b some none w ClearMode is h =
    record {
      own = h.own;
      known = read_known s.id (block_submitted (lease_calls st t s at)) (last_blocks st.layout (lease_calls st t s at)) h.own none h.known;
      way = Of_mode (inr (at_step Mode_cleared c (w, ClearMode) is refl)) (subst (λ x. ByMode h.own x) (sym h.written) (by_mode h.own b.shared b.mode_gen h.begun));
    }
read_by_step st t s at c b some none w (ReadArea name) is h = absurd h
read_by_step st t s at c b some none w ReadBeforeFree is h = absurd h
read_by_step st t s at c b some none w ReadBeforeBlock is h = absurd h
read_by_step st t s at c b some none w (ReadAgain read) is h = absurd h
read_by_step st t s at c b some none w Phase1Read is h = absurd h
read_by_step st t s at c b some none w Phase2Read is h = absurd h
read_by_step st t s at c b some none w TakeLeader is h = absurd h
read_by_step st t s at c b some none w FreeLeader is h = absurd h

read_by_write : (st : Setting) (t : Trace) (s : Session) (c : Submitted) (b : Block) → 1 ≤ st.layout.hosts
    → block_submitted (lease_calls st t s (spot_of_call st.layout c)) ≡ None → (o : Option (Work × LeaseStep)) → lease_step c.call.purpose ≡ o
    → elim o as (λ x. Type 0) [ None ↦ ⊥ | Some p ↦ LawfulBlockStep st t s (spot_of_call st.layout c) c b p.1 ] → OwnRead st t s (spot_of_call st.layout c) c b
read_by_write st t s c b some none None is h = absurd h
read_by_write st t s c b some none (Some p) is h = read_by_step st t s (spot_of_call st.layout c) c b some none p.0 p.1 is h

-- ---- in the words of its trace now

pub record ReadFront (w : World) (at : Spot) (x : Sent) (s : Standing w x) (b : Block) : Type 0 where
  pub past : Trace
  pub front : Trace
  pub length_is : length front ≡ length past + 1
  pub place : s.told.one.at ≡ length past
  pub aged : AllAged (length past + 1) (submitted front) s.told.older
  pub call : Submitted
  pub same : call.call ≡ s.told.one.call
  pub read : OwnRead s.daemon.setting front s.session at call b

suc_is : (n : ℕ) → suc n ≡ n + 1
suc_is n = omega arith

pub read_front : (w : World) (at : Spot) (x : Sent) (s : Standing w x) (b : Block) → block_of_course x.course ≡ Some b → 1 ≤ s.daemon.setting.layout.hosts
    → spot_of_call s.daemon.setting.layout s.told.one ≡ at → block_submitted (lease_among s.daemon.setting s.session at s.told.older) ≡ None → ReadFront w at x s b
read_front w at x s b is some spot none =
    let f = front_at w x s b is in
    let st : Setting = s.daemon.setting in
    let h : Submission s.daemon.trace s.told.one s.told.older = f.submission in
    let t : Trace = cut_at h.place h.entry ∷ h.past in
    let new : Submitted = new_call (length h.past) h.entry.reading h.call in
    let here : spot_of_call st.layout new ≡ at = ap (λ c. spot_of_call st.layout (new_call 0 0 c)) (sym h.itself.call) ∙ spot in
    let aged = aged_lease st s.session at (length h.past + 1) (submitted t) s.told.older h.before in
    let empty : block_submitted (lease_calls st t s.session (spot_of_call st.layout new)) ≡ None =
    ap (λ a. block_submitted (lease_calls st t s.session a)) here
    ∙ aged_block (length h.past + 1) (lease_calls st t s.session at) (lease_among st s.session at s.told.older) aged ∙ none in
    record {
      past = h.past;
      front = t;
      length_is = suc_is (length h.past);
      place = h.itself.at;
      aged = h.before;
      call = new;
      same = sym h.itself.call;
      read = subst (λ a. OwnRead st t s.session a new b) here (read_by_write st t s.session new b some empty (lease_step h.call.purpose) refl f.lawful);
    }
