-- A session's block in the history, back in its trace: the call of its lease that wrote it, and where it was made.
use Rattle.sl_area.specs.AreaSizes.{Layout}
use Rattle.sl_run_law.specs.Course.CallStamps.{stamp_in}
use Rattle.sl_safety.proofs.Grant.CallsOfWorlds.{OfLease}
use Rattle.sl_run_law.proofs.Leases.AgeLaws.{writes}
use Rattle.sl_trace.specs.Leases.{block_of_record, block_written, is_lease_call, is_on}
use Rattle.sl_words.proofs.Lists.{head_is, tail_is}
use Rattle.sl_safety.proofs.Resources.BlockOrigins.{written_at}
use Rattle.sl_safety.proofs.Resources.Calls.{found_of, owner_found, owner_layout}
use Rattle.sl_safety.proofs.Resources.StepsNameCalls.{block_works, worker_joined}
use Rattle.sl_safety.proofs.Resources.WritesHaveBases.{writer_is}
use Rattle.sl_safety.proofs.Resources.OwnBlocks.{block_is_lease}
use Rattle.sl_safety.proofs.Resources.CallParts.{standing}
use Rattle.sl_safety.specs.Resources.Histories.{history_block}
use Rattle.sl_safety.specs.Resources.HistoryLaws.{NamesDiffer, history_of_line, spot_of_line}
use Rattle.sl_safety.specs.Resources.SentCalls.{Sent, holder_of, is_joined_there, sender_of, sent_at, step_of, writes_block}
use Rattle.sl_run.specs.Runs.{Happening}
use Rattle.sl_run.specs.Safety.{Found, IsSession, LawfulRun, SessionId, session_of_world, setting_in, trace_of, world_at}
use Rattle.sl_run.specs.Worlds.{Program, World}
use Rattle.sl_run.specs.declared.header.Header.{Header}
use Rattle.sl_run.specs.declared.header.ResourceLine.{ResourceLine}
use Rattle.sl_sector.specs.declared.sector.Block.{Block}
use Rattle.sl_trace.specs.Traces.{Submitted, front, new_call, record_of}
use Rattle.sl_trace.specs.declared.effects.Call.{Call}
use Rattle.sl_words.proofs.CaseLaws.{one_value}
use Rattle.std.proofs.Common.{ap, arith, refl, subst, sym, ◌∙◌}
use Rattle.std.proofs.lemmas.List.{length-append}
use Rattle.std.specs.Prelude.{Contains, List, Option, Some, [], is_some, length, option_and_then, suc, true, ℕ, ◌++◌, ◌+◌, ◌∷◌, ◌≡◌, ◌≤◌}

-- A block of the session on the resource's area, as its whole trace has it.
pub record BlockTold (p : Program) (h : Header) (xs : List Happening) (r : ResourceLine) (f : Found) (e : ℕ) : Type 0 where
  pub sent : Sent
  pub found : sent_at (world_at p h xs) (spot_of_line r) writes_block e ≡ Some sent
  pub step : step_of sent ≡ e
  pub call : Submitted
  pub lease : OfLease (setting_in f) (trace_of f) f.session (spot_of_line r) call
  pub same : call.call ≡ sent.course.call
  pub made : stamp_in f.daemon.stamps call.at ≡ Some sent.course.made
  pub block : Block
  pub wrote : block_written call ≡ Some block
  pub says : (history_of_line p h xs r).block e ≡ history_block block

abbrev block_by : Call → Option Block
block_by c = option_and_then block_of_record (record_of c.op)

pub block_told : (p : Program) (h : Header) (xs : List Happening) → LawfulRun p h xs → (r : ResourceLine) → Contains h.resources r → NamesDiffer (world_at p h xs) r.lockspace
    → (i : SessionId) (f : Found) → IsSession (world_at p h xs) i f → is_joined_there (world_at p h xs) r.lockspace i ≡ true → (e : ℕ)
    → (history_of_line p h xs r).writes e ≡ true → (history_of_line p h xs r).writer e ≡ holder_of (world_at p h xs) i → BlockTold p h xs r f e
block_told p h xs run r there differ i f its joined e writes writer =
    let w : World = world_at p h xs in
    let y = written_at p h xs r e writes in
    let x : Sent = y.sent in
    let k = block_works p h xs run r there x y.has y.on (ap (λ o. is_some o) y.wrote) in
    let o = k.owned in
    let q : Submitted = o.trace.submitted_as in
    let same : sender_of x ≡ i = differ (sender_of x) i (worker_joined p h xs r x k) joined (sym (writer_is p h xs r e x y.is) ∙ writer) in
    let found : found_of o ≡ f = one_value (found_of o) f (session_of_world w i) (ap (session_of_world w) (sym same) ∙ owner_found w x o) its in
    let s = standing p h xs run x y.has in
    subst (λ g. BlockTold p h xs r g e) found
    (record {
      sent = x;
      found = y.is;
      step = y.step_is;
      call = q;
      lease = record {
        inside = o.trace.inside;
        mine = o.mine;
        lease = ap (λ (c : Call). is_lease_call (new_call 0 0 c)) o.trace.is.call ∙ block_is_lease w x s y.block y.wrote;
        on = ap (λ (g : Layout). is_on g (spot_of_line r) q.call) (owner_layout p h xs run x o) ∙ ap (is_on w.layout (spot_of_line r)) o.trace.is.call ∙ y.on;
      };
      same = o.trace.is.call;
      made = o.trace.is.made;
      block = y.block;
      wrote = ap (λ (c : Call). block_by c) o.trace.is.call ∙ y.wrote;
      says = y.shown;
    })

-- ---- two ends of one trace

no_longer : (n k m : ℕ) → n ≡ suc (k + m) → n ≤ m → ⊥
no_longer n k m is most = omega (arith, is, most)

-- Of two ends of one list the longer one ends with the other.
pub ends_within : {A : Type 0} (later front newer back : List A) → later ++ front ≡ newer ++ back → length front ≤ length back
    → (mid : List A) × (back ≡ mid ++ front) × (later ≡ newer ++ mid)
ends_within later front [] back same le = (later, sym same, refl)
ends_within [] front (y ∷ newer) back same le =
    absurd (no_longer (length front) (length newer) (length back) (ap (λ zs. length zs) same ∙ ap (λ n. suc n) (length-append newer back)) le)
ends_within (x ∷ later) front (y ∷ newer) back same le =
    let r = ends_within later front newer back (tail_is x y (later ++ front) (newer ++ back) same) le in
    (r.0, r.1, ap (λ zs. x ∷ zs) r.2 ∙ ap (λ z. z ∷ newer ++ r.0) (head_is x y (later ++ front) (newer ++ back) same))
