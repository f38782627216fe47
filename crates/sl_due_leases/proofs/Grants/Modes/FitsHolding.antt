-- What the laws of modes and values ask of a call, and what each effect leaves of it.
use Rattle.sl_due_facts.specs.Acts.Acts.{Has}
use Rattle.sl_due_facts.specs.Acts.TraceSoFar.{entry_of}
use Rattle.sl_due.specs.Steps.{Step, add_call_of, add_move, add_reply, add_signal, seen}
use Rattle.sl_due_leases.specs.Holdings.Moments.{Known}
use Rattle.sl_run.specs.LawfulArea.{is_area_work, is_delta_record}
use Rattle.sl_run.specs.LawfulModes.{LawfulMode}
use Rattle.sl_run.specs.LawfulValue.{LawfulValueRead, LawfulValueWrite}
use Rattle.sl_run.specs.LawForms.{EachCall, cut_at}
use Rattle.sl_due_leases.proofs.Leases.DeltasStay.{ByDelta}
use Rattle.sl_due_leases.proofs.Leases.LawsStay.{A_start, A_wake, IsPlainInput}
use Rattle.sl_due_leases.proofs.Leases.OthersKeep.{IsOther, LawfulSoFar, Others, no_others}
use Rattle.sl_due_leases.proofs.Ways.WayFactsHeld.EffectsLeave.{made_call}
use Rattle.sl_trace.specs.Counts.{values_on}
use Rattle.sl_trace.specs.Leases.{Mode_set, block_of_record, block_written, has_shared_on, is_at, is_on, lease_step, spot_of_call, value_of_record, value_written}
use Rattle.sl_due_facts.proofs.AddedEffects.CallsGrow.{each_more}
use Rattle.sl_due_facts.specs.AddedEffects.OneMoreEffect.{with_reply}
use Rattle.sl_words.proofs.Lists.{got_inside}
use Rattle.sl_sector.specs.declared.sector.Block.{Block}
use Rattle.sl_sector.specs.declared.sector.DeltaRec.{DeltaRec}
use Rattle.sl_sector.specs.declared.sector.Rec.{Rec}
use Rattle.sl_sector.specs.declared.sector.Rec.TheVariants.{BlockIs, DeltaIs, LeaderIs, PairIs, PairLeaderIs, RequestIs, ValueIs}
use Rattle.sl_sector.specs.declared.sector.ValueRec.{ValueRec}
use Rattle.sl_trace.specs.Sessions.{calls_of, generation_in, is_free_purpose, is_join_call, session_numbered}
use Rattle.sl_trace.specs.declared.session.Session.{Session}
use Rattle.sl_trace.specs.Traces.{Setting, Submitted, Trace, holdings, is_shared, is_write, new_call, record_of, same_place, unanswered}
use Rattle.sl_trace.specs.declared.effects.Call.{Call}
use Rattle.sl_trace.specs.declared.effects.Entry.{Entry}
use Rattle.sl_trace.specs.declared.effects.Grant.{Grant}
use Rattle.sl_trace.specs.declared.effects.JobReply.{JobReply}
use Rattle.sl_trace.specs.declared.effects.JoinStep.TheVariants.{FirstRead}
use Rattle.sl_trace.specs.declared.effects.LeaseStep.{LeaseStep}
use Rattle.sl_trace.specs.declared.effects.Move.{Move}
use Rattle.sl_trace.specs.declared.effects.Move.TheVariants.{Unregister}
use Rattle.sl_trace.specs.declared.effects.Op.{Op}
use Rattle.sl_trace.specs.declared.effects.Purpose.{Purpose}
use Rattle.sl_trace.specs.declared.effects.Purpose.TheVariants.{Lease, Leaving, SeeRequest, ValueRead}
use Rattle.sl_trace.specs.declared.effects.Signal.{Signal}
use Rattle.sl_trace.specs.declared.effects.Spot.{Spot}
use Rattle.sl_trace.specs.declared.effects.Work.{Work}
use Rattle.sl_trace.specs.declared.input.Input.{Input}
use Rattle.sl_trace.specs.declared.input.Input.TheVariants.{Wake}
use Rattle.sl_trace.specs.declared.reply.Reply.{Reply}
use Rattle.sl_words.proofs.CaseLaws.{false_is_true, no_value, one_value, true_is_false}
use Rattle.std.proofs.Common.{ap, refl, subst, sym, ◌∙◌}
use Rattle.std.specs.Option.{option_map_or}
use Rattle.std.specs.Prelude.{Bool, Contains, List, None, Option, Some, [], false, filter, find, is_some, length, not, option_and_then, true, ℕ, ◌&&◌, ◌+◌, ◌==◌, ◌||◌, ◌∷◌, ◌≡◌, ◌≤◌}

-- What the laws of modes and values ask of a call, at the trace as it stood where the call was made.
pub record FitsHolding (st : Setting) (t : Trace) (s : Session) (c : Submitted) : Type 0 where
  pub mode : (b : Block) → block_written c ≡ Some b → LawfulMode st t s c b
  pub value : (v : ValueRec) → value_written c ≡ Some v → LawfulValueWrite st t s (spot_of_call st.layout c) v
  pub value_read : (j : ℕ) → c.call.purpose ≡ ValueRead j → LawfulValueRead st t s (spot_of_call st.layout c) c

abbrev pub FittingSoFar : Step → Type 0
FittingSoFar x = EachCall x.setting (FitsHolding x.setting) x.past (entry_of x)

pub fitting_so_far : (x : Step) → Known x → FittingSoFar x
fitting_so_far x k n c s at its = record { mode = k.0.orderly.modes.0.blocks n c s at its; value = k.0.orderly.values.0.writes n c s at its; value_read = k.0.orderly.values.0.reads n c s at its }

-- Whether a call reads a value.
abbrev pub reads_values : Purpose → Bool
reads_values (ValueRead k) = true
reads_values other = false

-- ---- calls that write neither block nor value

plain_none : {A : Type 0} (f : Rec → Option A) → ((d : DeltaRec) → f (DeltaIs d) ≡ None) → (o : Option Rec) → ((r : Rec) → o ≡ Some r → is_delta_record r ≡ true) → option_and_then f o ≡ None
plain_none f none None h = refl
plain_none f none (Some (DeltaIs d)) h = none d
plain_none f none (Some (BlockIs b)) h = absurd (false_is_true (h (BlockIs b) refl))
plain_none f none (Some (LeaderIs l)) h = absurd (false_is_true (h (LeaderIs l) refl))
plain_none f none (Some (PairIs b)) h = absurd (false_is_true (h (PairIs b) refl))
plain_none f none (Some (PairLeaderIs l)) h = absurd (false_is_true (h (PairLeaderIs l) refl))
plain_none f none (Some (RequestIs r)) h = absurd (false_is_true (h (RequestIs r) refl))
plain_none f none (Some (ValueIs v)) h = absurd (false_is_true (h (ValueIs v) refl))

other_fits : (st : Setting) (t : Trace) (s : Session) (c : Submitted) → IsOther c.call.purpose c.call.op → FitsHolding st t s c
other_fits st t s c o =
    record {
      mode = λ b is. absurd (no_value b (block_written c) is (plain_none (λ r. block_of_record r) (λ d. refl) (record_of c.call.op) o.delta));
      value = λ v is. absurd (no_value v (value_written c) is (plain_none (λ r. value_of_record r) (λ d. refl) (record_of c.call.op) o.delta));
      value_read = λ j is. absurd (true_is_false (sym (ap (λ p. is_area_work p) is) ∙ o.plain));
    }

pub others_fit : (x : Step) → Others x → FittingSoFar x
others_fit x h k c s at its = other_fits x.setting _ s _ (h c (got_inside x.effects.calls k c at))

pub bare_fits : (x : Step) → x.effects.calls ≡ [] → FittingSoFar x
bare_fits x bare = others_fit x (no_others x bare)

-- Where each call is a leaving's.
pub leavings_fit : (x : Step) → LawfulSoFar x → ((c : Call) → Contains x.effects.calls c → (j : ℕ) × (c.purpose ≡ Leaving j)) → FittingSoFar x
leavings_fit x lawful leaves k c s at its = other_fits x.setting _ s _ (record { plain = plain; unseen = λ is. unseen is; delta = λ r is. by r is (is_delta_record r) refl }) where
  its_leaving : (j : ℕ) × (c.purpose ≡ Leaving j)
  its_leaving = leaves c (got_inside x.effects.calls k c at)

  plain : is_area_work c.purpose ≡ false
  plain = ap (λ p. is_area_work p) its_leaving.1

  unseen : c.purpose ≡ SeeRequest → ⊥
  unseen is = true_is_false (ap (λ p. is_free_purpose p) (sym its_leaving.1 ∙ is))

  by : (r : Rec) → record_of c.op ≡ Some r → (b : Bool) → is_delta_record r ≡ b → is_delta_record r ≡ true
  by r is true delta = delta
  by r is false delta = absurd (true_is_false (sym ((lawful k c s at its).writes r is delta).0 ∙ plain))

-- ---- what effects leave

abbrev held_in : List Grant → Session → Spot → List Grant
held_in hs s at = filter (λ (g : Grant). same_place g.path g.offset at.path at.base) (filter (λ (g : Grant). g.session == s.number) hs)

abbrev shared_in : List Grant → Session → Spot → Bool
shared_in hs s at = is_some (find (λ (g : Grant). is_shared g.mode) (held_in hs s at))

abbrev exclusive_in : List Grant → Session → Spot → Option Grant
exclusive_in hs s at = find (λ (g : Grant). not (is_shared g.mode)) (held_in hs s at)

abbrev writes_in : Setting → Spot → List Submitted → List Submitted
writes_in st at ms = filter (λ (d : Submitted). is_area_work d.call.purpose && (is_write d.call.op && is_on st.layout at d.call)) (unanswered ms)

abbrev pub seq_of : Setting → Spot → ℕ → List Submitted → ℕ
seq_of st at lver ms = option_map_or (λ (v : ValueRec). v.seq) (find (λ (v : ValueRec). v.lver == lver) (values_on st.layout at ms)) 0 + 1

-- By the session's calls and by what is held.
fit_carried : (st : Setting) (t u : Trace) (s : Session) (c : Submitted) → calls_of u s ≡ calls_of t s → holdings u ≡ holdings t → FitsHolding st t s c → FitsHolding st u s c
fit_carried st t u s c calls held f =
    let at : Spot = spot_of_call st.layout c in
    record {
      mode = λ b is.
          let k : LawfulMode st t s c b = f.mode b is in
          let e : (has_shared_on u s at || is_at Mode_set c) ≡ (has_shared_on t s at || is_at Mode_set c) = ap (λ hs. shared_in hs s at || is_at Mode_set c) held in
          record { exact = (λ shared. e ∙ k.exact.0 shared, λ shows. k.exact.1 (sym e ∙ shows)); own = λ shared. k.own shared ∙ ap (λ ms. generation_in s ms) (sym calls) };
      value = λ v is.
          let k : LawfulValueWrite st t s at v = f.value v is in
          record {
            holding = k.holding;
            held = ap (λ hs. exclusive_in hs s at) held ∙ k.held;
            version = (k.version.0, k.version.1, k.version.2 ∙ ap (λ ms. seq_of st at v.lver ms) (sym calls));
            alone = ap (λ ms. writes_in st at ms) calls ∙ k.alone;
          };
      value_read = λ j is.
          let k : LawfulValueRead st t s at c = f.value_read j is in
          record { held = subst (λ hs. 1 ≤ length (held_in hs s at)) (sym held) k.held; alone = ap (λ ms. writes_in st at ms) calls ∙ k.alone; whole = k.whole };
    }

pub signal_fits : (x : Step) (p : ℕ) (g : Signal) → FittingSoFar x → FittingSoFar (add_signal p g x)
signal_fits x p g h k c s at its = fit_carried x.setting (cut_at k (entry_of x) ∷ x.past) (cut_at k (entry_of (add_signal p g x)) ∷ x.past) s _ refl refl (h k c s at its)

pub move_fits : (x : Step) (m : Move) → FittingSoFar x → FittingSoFar (add_move m x)
move_fits x m h k c s at its = fit_carried x.setting (cut_at k (entry_of x) ∷ x.past) (cut_at k (entry_of (add_move m x)) ∷ x.past) s _ refl refl (h k c s at its)

abbrev with_i : Input → Entry → Entry
with_i i e = record e { input = i }

reply_leaves_calls : (e : Entry) (past : Trace) (a : JobReply) (s : Session) → IsPlainInput e.input → calls_of (with_reply a e ∷ past) s ≡ calls_of (e ∷ past) s
reply_leaves_calls e past a s (A_wake is) = subst (λ i. calls_of (with_reply a (with_i i e) ∷ past) s ≡ calls_of (with_i i e ∷ past) s) (sym is) refl
reply_leaves_calls e past a s (A_start p ok is) = subst (λ i. calls_of (with_reply a (with_i i e) ∷ past) s ≡ calls_of (with_i i e ∷ past) s) (sym is) refl

pub reply_fits : (x : Step) (j : ℕ) (r : Reply) → IsPlainInput x.input → FittingSoFar x → FittingSoFar (add_reply j r x)
reply_fits x j r plain h k c s at its =
    fit_carried x.setting (cut_at k (entry_of x) ∷ x.past) (cut_at k (entry_of (add_reply j r x)) ∷ x.past) s _ (reply_leaves_calls (cut_at k (entry_of x)) x.past (record { job = j; reply = r }) s plain) refl (h k c s at its)

-- One more call.
pub call_fits : (x : Step) (s : Session) (path : List ℕ) (p : Purpose) (o : ℕ) (op : Op) → Has x s → is_join_call FirstRead p ≡ false
    → FitsHolding x.setting (seen x) s (new_call (length x.past) x.reading (made_call x s.number path p o op)) → FittingSoFar x → FittingSoFar (add_call_of s.number path p o op x)
call_fits x s path p o op has later fits h =
    each_more x.setting (FitsHolding x.setting) (entry_of x) x.past (made_call x s.number path p o op) later h
    (λ z its. subst (λ y. FitsHolding x.setting (seen x) y (new_call (length x.past) x.reading (made_call x s.number path p o op)))
    (one_value s z (session_numbered x.setting (seen x) s.number) has its) fits)

-- That neither writes a block or a value nor reads one.
pub plain_call : (x : Step) (s : Session) (path : List ℕ) (p : Purpose) (o : ℕ) (op : Op) → Has x s → is_join_call FirstRead p ≡ false → option_and_then block_of_record (record_of op) ≡ None
    → option_and_then value_of_record (record_of op) ≡ None → ((j : ℕ) → p ≡ ValueRead j → ⊥) → FittingSoFar x → FittingSoFar (add_call_of s.number path p o op x)
plain_call x s path p o op has later no_block no_value_there no_read h =
    call_fits x s path p o op has later
    (record {
      mode = λ b is. absurd (no_value b (option_and_then block_of_record (record_of op)) is no_block);
      value = λ v is. absurd (no_value v (option_and_then value_of_record (record_of op)) is no_value_there);
      value_read = λ j is. absurd (no_read j is);
    }) h

pub reads_no_value : (p : Purpose) → is_area_work p ≡ false → (j : ℕ) → p ≡ ValueRead j → ⊥
reads_no_value p none j is = true_is_false (sym (ap (λ q. is_area_work q) is) ∙ none)

pub of_lease : (work : Work) (step : LeaseStep) (j : ℕ) → Lease work step ≡ ValueRead j → ⊥
of_lease work step j is = true_is_false (ap (λ p. is_some (lease_step p)) is)

pub by_delta : (s : Session) → ByDelta (λ x. FittingSoFar x × (x.input ≡ Wake)) s
by_delta s =
    record {
      calls = λ x path p o op has later other h. (call_fits x s path p o op has later (other_fits x.setting (seen x) s _ other) h.0, h.1);
      moves = λ x m none h. (move_fits x m h.0, h.1);
      removes = λ x z shares h. (move_fits x (Unregister z.lockspace) h.0, h.1);
      replies = λ x j r h. (reply_fits x j r (A_wake h.1) h.0, h.1);
    }
