-- Each block comes from the own block.
use Rattle.sl_area.specs.AreaSizes.{Layout}
use Rattle.sl_run.specs.Lawful.{Orderly}
use Rattle.sl_run.specs.LawfulBlock.{LawfulBlockStep, LawfulBlockWrite}
use Rattle.sl_run.specs.LawForms.{cut_at}
use Rattle.sl_run_law.proofs.Leases.AgeLaws.{aged_block, aged_lease, found_stays, writes}
use Rattle.sl_run_law.proofs.Leases.FrontLaws.{each_was_submitted, lawful_there}
use Rattle.sl_run_law.proofs.Leases.WayLaws.{by_mode, by_phase1, by_phase2}
use Rattle.sl_run_law.specs.Leases.CallFronts.{AllAged, LawfulSubmission, Submission}
use Rattle.sl_run_law.specs.Leases.LeaseLaws.{BlocksCome}
use Rattle.sl_run_law.specs.Leases.Ways.{BlockComes, FoundIn, ByMode, ByPhase1, ByPhase2, Of_mode, Of_phase1, Of_phase2, Way, lease_among}
use Rattle.sl_trace.specs.Ballots.{ballot_blocks}
use Rattle.sl_trace.specs.Leases.{block_of_host, blocks_given, Mode_cleared, Mode_set, Phase1_write, Phase2_write, StepKind, block_submitted, block_written, freed, is_at, kind_of_step, last_blocks, lease_calls, lease_step, own_or_read, same_kind, spot_of_call}
use Rattle.sl_sector.specs.declared.sector.Block.{Block}
use Rattle.sl_trace.specs.Sessions.{me, session_numbered}
use Rattle.sl_trace.specs.declared.session.Session.{Session}
use Rattle.sl_trace.specs.Traces.{Setting, Submitted, Trace, new_call, submitted}
use Rattle.sl_trace.specs.declared.effects.Call.{Call}
use Rattle.sl_trace.specs.declared.effects.LeaseStep.TheVariants.{ClearMode, FreeLeader, Phase1Read, Phase1Write, Phase2Read, Phase2Write, ReadAgain, ReadArea, ReadBeforeBlock, ReadBeforeFree, SetMode, TakeLeader}
use Rattle.sl_trace.specs.declared.effects.LeaseStep.{LeaseStep}
use Rattle.sl_trace.specs.declared.effects.Spot.{Spot}
use Rattle.sl_trace.specs.declared.effects.Work.{Work}
use Rattle.sl_words.proofs.CaseLaws.{no_value, none_some, one_value, some_value}
use Rattle.sl_words.specs.Words.{present, some_is}
use Rattle.std.proofs.Common.{ap, arith, inl, inr, refl, subst, sym, ◌∙◌}
use Rattle.std.specs.Prelude.{List, None, Option, Some, cond, find, is_some, length, slice_get, suc, true, unwrap_or, [], ℕ, ◌+◌, ◌-◌, ◌<◌, ◌∷◌, ◌≡◌, ◌≤◌}

-- ---- the own block is the one last submitted

own_is_last : (id : ℕ) (o : Option Block) (read : List (Option Block)) (own d : Block) → own_or_read id o read ≡ Some own → o ≡ Some d → d ≡ own
own_is_last id None read own d known is = absurd (none_some d is)
own_is_last id (Some b) read own d known is = some_value d b (sym is) ∙ some_value b own known

pub found_later : (g : Layout) (id : ℕ) (m : Submitted) (ms : List Submitted) (own : Block) → FoundIn g id ms own → FoundIn g id (m ∷ ms) own
found_later g id m ms own f =
    let k : ℕ = f.has.0 in
    record {
      read = f.read;
      blocks = f.blocks;
      has = (suc k, (let less : k < length ms = f.has.1 in omega (arith, less)), f.has.2);
      newer = m ∷ f.newer;
      before = f.before;
      split = ap (λ xs. m ∷ xs) f.split;
      given = f.given;
      block = f.block;
    }

pub found_here : (g : Layout) (id : ℕ) (m : Submitted) (ms : List Submitted) (own : Block) → (o : Option (List (Option Block))) → blocks_given g m ms ≡ o
    → block_of_host (elim o as (λ x. List (Option Block)) [ Some bs ↦ bs | None ↦ last_blocks g ms ]) id ≡ Some own
    → (block_of_host (last_blocks g ms) id ≡ Some own → FoundIn g id ms own) → FoundIn g id (m ∷ ms) own
found_here g id m ms own None gives is later = found_later g id m ms own (later is)
found_here g id m ms own (Some bs) gives is later = record { read = m; blocks = bs; has = (0, omega arith, refl); newer = []; before = ms; split = refl; given = gives; block = is }

pub none_there : (own : Block) (k : ℕ) → unwrap_or (slice_get {X = Option Block} [] k) None ≡ Some own → ⊥
none_there own k is = none_some own is

pub found_read : (g : Layout) (id : ℕ) (ms : List Submitted) (own : Block) → block_of_host (last_blocks g ms) id ≡ Some own → FoundIn g id ms own
found_read g id [] own is = absurd (none_there own (id - 1) is)
found_read g id (m ∷ ms) own is = found_here g id m ms own (blocks_given g m ms) refl is (λ h. found_read g id ms own h)

own_is_found : (g : Layout) (id : ℕ) (ms : List Submitted) (own : Block) → (o : Option Block) → own_or_read id o (last_blocks g ms) ≡ Some own → o ≡ None → FoundIn g id ms own
own_is_found g id ms own None known is = found_read g id ms own known
own_is_found g id ms own (Some b) known is = absurd (none_some b (sym is))

found_by : (m : Submitted) (ms : List Submitted) (w : Submitted) (own : Block) (o : Option Block) → block_written m ≡ o
    → cond (is_some o) (Some m) (find (λ d. is_some (block_written d)) ms) ≡ Some w → block_written w ≡ Some own
    → (find (λ d. is_some (block_written d)) ms ≡ Some w → block_submitted ms ≡ Some own)
    → elim o as (λ z. Option Block) [ Some b ↦ Some b | None ↦ block_submitted ms ] ≡ Some own
found_by m ms w own None is found wrote later = later found
found_by m ms w own (Some b) is found wrote later = sym is ∙ (ap (λ x. block_written x) (some_value m w found) ∙ wrote)

found_last : (ms : List Submitted) (w : Submitted) (own : Block) → find (λ d. is_some (block_written d)) ms ≡ Some w → block_written w ≡ Some own → block_submitted ms ≡ Some own
found_last [] w own found wrote = absurd (none_some w found)
found_last (m ∷ ms) w own found wrote = found_by m ms w own (block_written m) refl found wrote (λ f. found_last ms w own f wrote)

-- ---- by the step of the write

pub at_step : (kind : StepKind) (c : Submitted) (p : Work × LeaseStep) → lease_step c.call.purpose ≡ Some p → same_kind (kind_of_step p.1) kind ≡ true → is_at kind c ≡ true
at_step kind c p is same = ap (λ o. some_is (λ q. same_kind (kind_of_step q.1) kind) o) is ∙ same

-- What stands at the front: the lease's calls there.
pub record ComesAt (st : Setting) (s : Session) (ms : List Submitted) (c : Submitted) (b : Block) : Type 0 where
  pub own : Block
  pub last : (d : Block) → block_submitted ms ≡ Some d → d ≡ own
  pub found : block_submitted ms ≡ None → FoundIn st.layout s.id ms own
  pub way : Way s c own b

by_step : (st : Setting) (t : Trace) (s : Session) (at : Spot) (c : Submitted) (b : Block) → 1 ≤ st.layout.hosts → (w : Work) (step : LeaseStep)
    → lease_step c.call.purpose ≡ Some (w, step) → LawfulBlockStep st t s at c b step → ComesAt st s (lease_calls st t s at) c b
by_step st t s at c b some w Phase1Write is h =
    record {
      own = h.own;
      last = λ d found. own_is_last s.id (block_submitted (lease_calls st t s at)) (last_blocks st.layout (lease_calls st t s at)) h.own d h.known found;
      found = λ none. own_is_found st.layout s.id (lease_calls st t s at) h.own (block_submitted (lease_calls st t s at)) h.known none;
      way = Of_phase1 (at_step Phase1_write c (w, Phase1Write) is refl)
          (subst (λ x. ByPhase1 s h.own x) (sym h.written)
          (by_phase1 s (me t s) st.layout.hosts b.lver b.shared b.mode_gen h.own (present (last_blocks st.layout (lease_calls st t s at))) some refl h.not_below
          (let less : freed (lease_calls st t s at) < b.lver = h.not_freed in omega (arith, less))));
    }
by_step st t s at c b some w Phase2Write is h =
    record {
      own = h.own;
      last = λ d found. one_value d h.own (block_submitted (lease_calls st t s at)) found (found_last (lease_calls st t s at) h.write h.own h.last h.wrote.0);
      found = λ none. absurd (no_value h.own (block_submitted (lease_calls st t s at)) (found_last (lease_calls st t s at) h.write h.own h.last h.wrote.0) none);
      way = Of_phase2 (at_step Phase2_write c (w, Phase2Write) is refl)
          (subst (λ x. ByPhase2 h.own x) (sym h.written) (by_phase2 (me t s) h.own (ballot_blocks h.own h.blocks) b.shared b.mode_gen));
    }
by_step st t s at c b some w SetMode is h =
    record {
      own = h.own;
      last = λ d found. own_is_last s.id (block_submitted (lease_calls st t s at)) (last_blocks st.layout (lease_calls st t s at)) h.own d h.known found;
      found = λ none. own_is_found st.layout s.id (lease_calls st t s at) h.own (block_submitted (lease_calls st t s at)) h.known none;
      way = Of_mode (inl (at_step Mode_set c (w, SetMode) is refl)) (subst (λ x. ByMode h.own x) (sym h.written) (by_mode h.own b.shared b.mode_gen h.begun));
    }
by_step st t s at c b some w ClearMode is h =
    record {
      own = h.own;
      last = λ d found. own_is_last s.id (block_submitted (lease_calls st t s at)) (last_blocks st.layout (lease_calls st t s at)) h.own d h.known found;
      found = λ none. own_is_found st.layout s.id (lease_calls st t s at) h.own (block_submitted (lease_calls st t s at)) h.known none;
      way = Of_mode (inr (at_step Mode_cleared c (w, ClearMode) is refl)) (subst (λ x. ByMode h.own x) (sym h.written) (by_mode h.own b.shared b.mode_gen h.begun));
    }
by_step st t s at c b some w (ReadArea name) is h = absurd h
by_step st t s at c b some w ReadBeforeFree is h = absurd h
by_step st t s at c b some w ReadBeforeBlock is h = absurd h
by_step st t s at c b some w (ReadAgain read) is h = absurd h
by_step st t s at c b some w Phase1Read is h = absurd h
by_step st t s at c b some w Phase2Read is h = absurd h
by_step st t s at c b some w TakeLeader is h = absurd h
by_step st t s at c b some w FreeLeader is h = absurd h

by_write : (st : Setting) (t : Trace) (s : Session) (c : Submitted) (b : Block) → 1 ≤ st.layout.hosts → (o : Option (Work × LeaseStep)) → lease_step c.call.purpose ≡ o
    → elim o as (λ x. Type 0) [ None ↦ ⊥ | Some p ↦ LawfulBlockStep st t s (spot_of_call st.layout c) c b p.1 ] → ComesAt st s (lease_calls st t s (spot_of_call st.layout c)) c b
by_write st t s c b some None is h = absurd h
by_write st t s c b some (Some p) is h = by_step st t s (spot_of_call st.layout c) c b some p.0 p.1 is h

-- ---- the law

same_way : (s : Session) (c d : Submitted) (own b : Block) → d.call ≡ c.call → Way s c own b → Way s d own b
same_way s c d own b is (Of_phase1 at h) = Of_phase1 (ap (λ x. is_at Phase1_write (new_call 0 0 x)) is ∙ at) h
same_way s c d own b is (Of_phase2 at h) = Of_phase2 (ap (λ x. is_at Phase2_write (new_call 0 0 x)) is ∙ at) h
same_way s c d own b is (Of_mode (inl at) h) = Of_mode (inl (ap (λ x. is_at Mode_set (new_call 0 0 x)) is ∙ at)) h
same_way s c d own b is (Of_mode (inr at) h) = Of_mode (inr (ap (λ x. is_at Mode_cleared (new_call 0 0 x)) is ∙ at)) h

abbrev place : Setting → Call → Spot
place st c = spot_of_call st.layout (new_call 0 0 c)

comes : (st : Setting) (es : Trace) → Orderly st es → 1 ≤ st.layout.hosts → (c : Submitted) (older : List Submitted) (b : Block) → LawfulSubmission st es c older
    → block_written c ≡ Some b → (s : Session) → session_numbered st es c.call.session ≡ Some s → BlockComes st s (spot_of_call st.layout c) older c b
comes st es law some c older b l wrote s numbered =
    let h : Submission es c older = l.submission in
    let t : Trace = cut_at h.place h.entry ∷ h.past in
    let new : Submitted = new_call (length h.past) h.entry.reading h.call in
    let called : c.call ≡ h.call = h.itself.call in
    let itself : l.session ≡ s = one_value l.session s (session_numbered st es c.call.session) l.kept numbered in
    let known : session_numbered st (h.entry ∷ h.past) h.call.session ≡ Some s = l.known ∙ ap (λ x. Some x) itself in
    let lawful : LawfulBlockWrite st t s new b =
    (lawful_there st es law c older h).block.0.writes h.place h.call s h.there known b (ap (λ x. writes x) (sym called) ∙ wrote) in
    let there : ComesAt st s (lease_calls st t s (place st h.call)) new b = by_write st t s new b some (lease_step h.call.purpose) refl lawful in
    let aged : AllAged (length h.past + 1) (lease_calls st t s (place st h.call)) (lease_among st s (place st h.call) older) =
    aged_lease st s (place st h.call) (length h.past + 1) (submitted t) older h.before in
    record {
      own = there.own;
      last = λ d found. there.last d
          (aged_block (length h.past + 1) (lease_calls st t s (place st h.call)) (lease_among st s (place st h.call) older)
          (aged_lease st s (place st h.call) (length h.past + 1) (submitted t) older h.before)
          ∙ (ap (λ x. block_submitted (lease_among st s (place st x) older)) (sym called) ∙ found));
      found = λ none. subst (λ x. FoundIn st.layout s.id (lease_among st s (place st x) older) there.own) (sym called)
          (found_stays st.layout (length h.past + 1) s.id (lease_calls st t s (place st h.call)) (lease_among st s (place st h.call) older) there.own aged
          (there.found (aged_block (length h.past + 1) (lease_calls st t s (place st h.call)) (lease_among st s (place st h.call) older) aged
          ∙ (ap (λ x. block_submitted (lease_among st s (place st x) older)) (sym called) ∙ none))));
      way = same_way s new c there.own b called there.way;
    }

pub blocks_come : BlocksCome
blocks_come st es law some newer older c b h wrote s numbered = comes st es law some c older b (each_was_submitted st es law newer older c h) wrote s numbered
