-- Why a ballot does not begin: its instance or its number would pass the limit.
use Rattle.sl_due_law.proofs.Causes.Leases.HeardLeases.{IsWell, LeaseHeard, knows, reads_blocks}
use Rattle.sl_run.specs.Caused.{Answering, BeginsAt, CausedBy, next_number}
use Rattle.sl_trace.specs.Ballots.{in_instance, next_mbal, phase1_block}
use Rattle.sl_trace.specs.LeaseDecisions.{begin_next, lease_place, phase1_next, refuses}
use Rattle.sl_trace.specs.Leases.{LeaseKnown, blocks_given, mode_gen_of, own_block}
use Rattle.sl_trace.specs.declared.lease.Aim.TheVariants.{Acquires, Converts, Releases, Settles}
use Rattle.sl_trace.specs.declared.lease.Aim.{Aim}
use Rattle.sl_trace.specs.declared.lease.LeaseNext.TheVariants.{Nothing, WriteBlock}
use Rattle.sl_trace.specs.declared.lease.LeaseNext.{LeaseNext}
use Rattle.sl_sector.specs.declared.sector.Block.{Block}
use Rattle.sl_trace.specs.declared.session.Session.{Session}
use Rattle.sl_trace.specs.Traces.{Setting, Submitted}
use Rattle.sl_trace.specs.declared.command.Command.{Command}
use Rattle.sl_trace.specs.declared.effects.LeaseStep.TheVariants.{Phase1Write}
use Rattle.sl_trace.specs.declared.effects.LeaseStep.{LeaseStep}
use Rattle.sl_trace.specs.declared.input.Answer.TheVariants.{Read}
use Rattle.sl_trace.specs.declared.reply.Limited.TheVariants.{Lver as LverLimit, Mbal as MbalLimit}
use Rattle.sl_trace.specs.declared.reply.Reply.TheVariants.{Limit as LimitReached}
use Rattle.sl_trace.specs.declared.reply.Reply.{Reply}
use Rattle.sl_words.specs.Bounds.{is_number, record_numbers}
use Rattle.sl_words.specs.Words.{present}
use Rattle.std.proofs.Common.{ap, arith, inl, refl, subst, sym, tests, ◌∙◌}
use Rattle.std.specs.Prelude.{Bool, List, None, Option, Some, false, map, nat_lt, true, ℕ, ◌∷◌, ◌≡◌, ◌≤◌}

-- A refusal, where there is anybody to refuse.
pub refuses_well : (these : Reply → Bool) (y : Answering) (aim : Aim) (r : Reply) → (these r ≡ true → CausedBy y r) → IsWell these y (refuses aim r)
refuses_well these y (Acquires mode) r cause = cause
refuses_well these y (Converts mode) r cause = cause
refuses_well these y Releases r cause = cause
refuses_well these y Settles r cause = tt

not_below : (n m : ℕ) → nat_lt n m ≡ false → m ≤ n
not_below n m h = grind (arith, tests)

pub not_number : (n : ℕ) → is_number n ≡ false → record_numbers ≤ n
not_number n h = not_below n record_numbers h

-- The block of phase 1 names the instance.
instance_in : (k : LeaseKnown) (hosts n : ℕ) (own : Block) (seen : List Block) → (phase1_block k.self hosts n k.shared (mode_gen_of k) own seen).lver ≡ n
unfolding phase1_block
instance_in k hosts n own seen = refl

-- .. and has the next number.
number_in : (st : Setting) (s : Session) (k : LeaseKnown) (n : ℕ) (own : Block) (seen : List Block) → k.self.id ≡ s.id
    → (phase1_block k.self st.layout.hosts n k.shared (mode_gen_of k) own seen).mbal ≡ next_number st s n own seen
unfolding phase1_block
number_in st s k n own seen same = ap (λ id. next_mbal st.layout.hosts id (map (λ (b : Block). b.mbal) (in_instance n (own ∷ seen)))) same

phase1_well : (these : Reply → Bool) (y : Answering) (s : Session) (c : Submitted) (bytes : List ℕ) (step : LeaseStep) (command : Command) (aim : Aim) → (h : LeaseHeard y s c (Read bytes) step command)
    → (blocks : List (Option Block)) (own : Block) → blocks_given y.setting.layout c h.before ≡ Some blocks → own_block y.setting.layout s.id (c ∷ h.before) ≡ Some own
    → (n : ℕ) → BeginsAt y s c blocks own n → (b : Block) → b.lver ≡ n → b.mbal ≡ next_number y.setting s n own (present blocks)
    → (low : Bool) → is_number b.lver ≡ low → (small : Bool) → is_number b.mbal ≡ small
    → IsWell these y (elim low as (λ z. LeaseNext) [
      | false ↦ refuses aim (LimitReached LverLimit)
      | true ↦ elim small as (λ z. LeaseNext) [ false ↦ refuses aim (LimitReached MbalLimit) | true ↦ WriteBlock Phase1Write b ]
    ])
phase1_well these y s c bytes step command aim h blocks own given is n begun b lver mbal false low small few =
    refuses_well these y aim (LimitReached LverLimit)
    (λ shown. reads_blocks y s c bytes step command h blocks own given is (λ s c blocks own. (n : ℕ) × BeginsAt y s c blocks own n × (record_numbers ≤ n))
    (n, begun, not_number n (ap (λ m. is_number m) (sym lver) ∙ low)))
phase1_well these y s c bytes step command aim h blocks own given is n begun b lver mbal true low false few =
    refuses_well these y aim (LimitReached MbalLimit)
    (λ shown. reads_blocks y s c bytes step command h blocks own given is (λ s c blocks own. (n : ℕ) × BeginsAt y s c blocks own n × (record_numbers ≤ next_number y.setting s n own (present blocks)))
    (n, begun, not_number (next_number y.setting s n own (present blocks)) (ap (λ m. is_number m) (sym mbal) ∙ few)))
phase1_well these y s c bytes step command aim h blocks own given is n begun b lver mbal true low true few =
    inl (reads_blocks y s c bytes step command h blocks own given is (λ s c blocks own. (n : ℕ) × BeginsAt y s c blocks own n) (n, begun))

abbrev began : Setting → LeaseKnown → Aim → ℕ → Block → LeaseNext
began st k aim n own = phase1_next aim (phase1_block k.self st.layout.hosts n k.shared (mode_gen_of k) own (present k.read))

-- Where the read shows that a ballot begins in n.
pub begin_well : (these : Reply → Bool) (y : Answering) (s : Session) (c : Submitted) (bytes : List ℕ) (step : LeaseStep) (command : Command) (aim : Aim) → (h : LeaseHeard y s c (Read bytes) step command)
    → (blocks : List (Option Block)) (own : Block) → blocks_given y.setting.layout c h.before ≡ Some blocks → own_block y.setting.layout s.id (c ∷ h.before) ≡ Some own
    → (knows h).read ≡ blocks → (n : ℕ) → BeginsAt y s c blocks own n
    → IsWell these y (begin_next (lease_place y.setting s) (knows h) aim n)
unfolding begin_next
begin_well these y s c bytes step command aim h blocks own given is read n begun =
    let k : LeaseKnown = knows h in
    let b : Block = phase1_block k.self y.setting.layout.hosts n k.shared (mode_gen_of k) own (present k.read) in
    subst (λ o. IsWell these y (elim o as (λ z. LeaseNext) [ None ↦ Nothing | Some own ↦ began y.setting k aim n own ])) (sym is)
    (phase1_well these y s c bytes step command aim h blocks own given is n begun b (instance_in k y.setting.layout.hosts n own (present k.read))
    (number_in y.setting s k n own (present k.read) refl ∙ ap (λ bs. next_number y.setting s n own (present bs)) read)
    (is_number b.lver) refl (is_number b.mbal) refl)
