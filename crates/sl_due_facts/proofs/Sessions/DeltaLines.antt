-- Lines keep what is known of delta records.
use Rattle.sl_due_facts.proofs.Jobs.JobsAreNumbered.{next_before}
use Rattle.sl_due_facts.proofs.Acts.DecisionsAreTheirs.{Of}
use Rattle.sl_due_facts.specs.Acts.Acts.{Has, next_of_conversion, next_of_release}
use Rattle.sl_due_facts.specs.Acts.TraceSoFar.{entry_of}
use Rattle.sl_area.specs.AreaLayout.{area_sectors, value_offset}
use Rattle.sl_due.specs.DueCommands.{after_end, carry_decision}
use Rattle.sl_due.specs.CarriedLease.{carry_lease, grant_for}
use Rattle.sl_due.specs.Steps.{Step, add_end, add_reply, seen, with_input}
use Rattle.sl_due.specs.declared.decision.Decision.{Decision}
use Rattle.sl_due.specs.declared.decision.Decision.TheVariants.{ConvertsTo, GetsValue, GivesUp, Joins, Leaves, ReadsArea, Replies, Requests, SetsValue, Shares, TakesOver}
use Rattle.sl_due_facts.proofs.Jobs.CallsHaveFacts.{calls_before, calls_told, sessions_told}
use Rattle.sl_due_facts.proofs.Jobs.CallsStay.{calls_stay}
use Rattle.sl_due_facts.proofs.Jobs.DecisionsFit.{DecisionFits}
use Rattle.sl_due_facts.proofs.Jobs.EffectsAreAllowed.{DecisionAllowed}
use Rattle.sl_due_facts.proofs.Jobs.LinesAreAllowed.{IsBegun, late_on_line}
use Rattle.sl_due_facts.proofs.Jobs.NearlyPlainActs.{AnyStart}
use Rattle.sl_due_facts.proofs.Jobs.QuietEffects.{by_input}
use Rattle.sl_due_facts.proofs.Jobs.QuietLines.{answered_leaving, new_leaving}
use Rattle.sl_due_facts.proofs.Jobs.RepliesComeAfter.{IsLateLease, IsPlainly, convert_late, release_late}
use Rattle.sl_due_facts.proofs.Jobs.SessionsHaveJobs.{number_taken}
use Rattle.sl_due_facts.proofs.Jobs.SessionsStand.{joined_then}
use Rattle.sl_trace.specs.LeaseDecisions.{lease_place}
use Rattle.sl_trace.specs.Leases.{holdings_on, known, spot_of}
use Rattle.sl_trace.specs.declared.lease.LeaseNext.{LeaseNext}
use Rattle.sl_words.proofs.Lists.{got_inside}
use Rattle.sl_sector.specs.declared.sector.Rec.TheVariants.{ValueIs}
use Rattle.sl_due_facts.proofs.Sessions.DeltaConditions.{active_unfreed, freed_before, grant_delta, lease_delta, plain_call, plain_reply}
use Rattle.sl_due_facts.proofs.Sessions.DeltaFactsAreKept.{part, woken_line}
use Rattle.sl_due_facts.proofs.Sessions.DeltaGrow.{DeltaCall, DeltaPart, DeltaReply, DeltaSince, FreedBefore, leaving_goes_on, reply_joins_none}
use Rattle.sl_due_facts.proofs.Sessions.DeltaIsAllowed.{input_delta}
use Rattle.sl_due_facts.proofs.Sessions.HoldingsOfSessions.{HeldBy, end_held, held_grant, held_itself, held_lease, held_stop}
use Rattle.sl_trace.specs.Sessions.{calls_of, free_write, generation_in, is_active, is_call_of, is_joined, is_session_arg, joined_after, last_renewal, last_seq, leaving_job, removed_after, seq_in, sessions}
use Rattle.sl_trace.specs.declared.session.Session.{Session}
use Rattle.sl_due_facts.specs.Facts.SessionFacts.{DeltaFacts}
use Rattle.sl_due_facts.specs.Facts.AllFacts.{Whole}
use Rattle.sl_trace.specs.Traces.{Job, end_of, next_job, spot_of_grant, submitted}
use Rattle.sl_trace.specs.declared.command.Command.{Command}
use Rattle.sl_trace.specs.declared.command.Command.TheVariants.{RemLockspace}
use Rattle.sl_trace.specs.declared.command.LockspaceArg.{LockspaceArg}
use Rattle.sl_trace.specs.declared.effects.Grant.{Grant}
use Rattle.sl_trace.specs.declared.effects.LeaseStep.TheVariants.{ReadArea}
use Rattle.sl_trace.specs.declared.effects.Mode.TheVariants.{Shared}
use Rattle.sl_trace.specs.declared.effects.Op.TheVariants.{ReadSectors, WriteRecord}
use Rattle.sl_trace.specs.declared.effects.Purpose.TheVariants.{Lease, RequestRead, ValueRead, ValueWrite}
use Rattle.sl_trace.specs.declared.effects.Work.TheVariants.{ForJob}
use Rattle.sl_trace.specs.declared.input.Input.TheVariants.{Line, Wake}
use Rattle.sl_trace.specs.declared.reply.Reply.{Reply}
use Rattle.sl_trace.specs.declared.reply.Reply.TheVariants.{Done, Recovering}
use Rattle.sl_words.proofs.CaseLaws.{none_some}
use Rattle.sl_words.proofs.WordLaws.{and_true}
use Rattle.sl_words.specs.Bounds.{is_number}
use Rattle.std.proofs.Common.{ap, ap₂, arith, inl, inr, refl, subst, sym, ◌∙◌}
use Rattle.std.specs.Prelude.{Contains, IsSome, IsTrue, List, None, Ok, Option, Some, [], filter, is_none, is_some, true, ℕ, ◌&&◌, ◌+◌, ◌<◌, ◌∷◌, ◌≡◌, ◌≤◌, ◌⊎◌}

no_such_job : (x : Step) (s : Session) → Contains (sessions x.setting (seen x)) s → s.job ≡ Some (next_job x.setting (seen x)) → ⊥
no_such_job x s there its = let low : next_job x.setting (seen x) < next_job x.setting (seen x) = number_taken x.setting (seen x) s (next_job x.setting (seen x)) there its in omega (arith, low)

pub calls_lined : (x : Step) (text : List ℕ) → x.input ≡ Wake → x.effects.calls ≡ [] → submitted (seen (with_input (Line text) x)) ≡ submitted (seen x)
calls_lined x text wake bare = calls_told x (Line text) bare ∙ sym (calls_before x wake bare)

-- A line that is answered at once.
pub answered_full : (x : Step) (text : List ℕ) (r : Reply) → x.input ≡ Wake → x.effects.calls ≡ [] → Whole x → DeltaFacts x.setting (seen (add_reply (next_job x.setting (seen x)) r (with_input (Line text) x)))
answered_full x text r wake bare h =
    record {
      frees = λ s m there is.
          let q = f.frees s m (old s there) (sym (ap (λ ms. free_write (filter (is_call_of s) ms)) same) ∙ is) in
          let before : IsSome (leaving_job x.setting x.past s) = freed_before x (woken_line wake) (part x h) s m (old s there) (sym (ap (λ ms. free_write (filter (is_call_of s) ms)) same) ∙ is) in
          (leaving_goes_on x.setting (entry_of y) x.past s before, q.1, (q.2.0, ap (λ ms. filter (is_call_of s) ms) same ∙ q.2.1, q.2.2));
      before = λ s m n there is inside. f.before s m n (old s there) (sym (ap (λ ms. free_write (filter (is_call_of s) ms)) same) ∙ is) (subst (λ ms. Contains (filter (is_call_of s) ms) n) same inside);
      numbers = λ s there joined.
          subst (λ ms. (1 ≤ generation_in s (filter (is_call_of s) ms)) × IsTrue (is_number (generation_in s (filter (is_call_of s) ms))) × IsTrue (is_number (seq_in s (filter (is_call_of s) ms)))) (sym same) (f.numbers s (old s there) (joined_before s there joined));
      left = λ s k there joined leaves_s none.
          let was : leaving_job x.setting (seen x) s ≡ Some k =
          subst (λ i. leaving_job x.setting (by_input x i ∷ x.past) s ≡ Some k) (sym wake) (answered_leaving x text (next_job x.setting (seen x)) r s k (next_before x wake) leaves_s)
          in
          subst (λ ms. IsTrue (is_number (seq_in s (filter (is_call_of s) ms) + 1))) (sym same) (f.left s k (old s there) (joined_before s there joined) was (sym (ap (λ ms. free_write (filter (is_call_of s) ms)) same) ∙ none));
    } where
      w : Step
      w = with_input (Line text) x

      y : Step
      y = add_reply (next_job x.setting (seen x)) r (with_input (Line text) x)

      f : DeltaFacts x.setting (seen x)
      f = h.facts.delta

      same : submitted (seen y) ≡ submitted (seen x)
      same = calls_stay w (next_job x.setting (seen x)) r (late_on_line x text r) ∙ calls_lined x text wake bare

      old : (s : Session) → Contains (sessions x.setting (seen y)) s → Contains (sessions x.setting (seen x)) s
      old s there = subst (λ ss. Contains ss s) (sessions_told x (Line text) bare) there

      joined_before : (s : Session) → Contains (sessions x.setting (seen y)) s → is_joined (seen y) s ≡ true → is_joined (seen x) s ≡ true
      joined_before s there is =
          let joined : is_some (joined_after (seen x) s) ≡ true = reply_joins_none w (next_job x.setting (seen x)) r s (inl (λ its. no_such_job x s (old s there) its)) (joined_then (seen y) s is) in
          ap₂ (λ a b. a && b) joined (and_true (is_some (joined_after (seen y) s)) (is_none (removed_after (seen x) s)) is).1

-- ---- a line that is carried out

-- With the line seen, where a leaving that it begins has a seq left.
pub lined_part : (x : Step) (text : List ℕ) (c : Command) → x.input ≡ Wake → x.effects.calls ≡ [] → x.setting.read text ≡ Ok c → Whole x
    → ((s : Session) (a : LockspaceArg) → Contains (sessions x.setting (seen x)) s → is_joined (seen x) s ≡ true → c ≡ RemLockspace a → is_session_arg s a ≡ true → IsTrue (is_number (last_seq (seen x) s + 1)))
    → DeltaPart x.setting (seen (with_input (Line text) x))
lined_part x text c wake bare says h well =
    input_delta x (Line text) wake bare (λ s k there joined is. by s there joined (new_leaving x text c s k says is)) (λ s k is. leaving_goes_on x.setting (entry_of (with_input (Line text) x)) x.past s (past_of s k is)) (part x h) where
      by : (s : Session) {k : Job} → Contains (sessions x.setting (seen x)) s → is_joined (seen x) s ≡ true
          → (leaving_job x.setting (by_input x Wake ∷ x.past) s ≡ Some k) ⊎ ((a : LockspaceArg) × (c ≡ RemLockspace a) × (is_session_arg s a ≡ true) × (k.number ≡ next_job x.setting x.past))
          → (leaving_job x.setting (seen x) s ≡ Some k) ⊎ (IsTrue (is_number (last_seq (seen x) s + 1)))
      by s {k} there joined (inl was) = inl (subst (λ i. leaving_job x.setting (by_input x i ∷ x.past) s ≡ Some k) (sym wake) was)
      by s {k} there joined (inr new) = inr (well s new.0 there joined new.1 new.2)

      past_of : (s : Session) (k : Job) → leaving_job x.setting (seen x) s ≡ Some k → IsSome (leaving_job x.setting x.past s)
      past_of s k is = either (leaving_job x.setting x.past s) (subst (λ i. leaving_job x.setting (by_input x i ∷ x.past) s ≡ Some k) wake is) where
        either : (o : Option Job) → (elim o as (λ z. Option Job) [ Some a ↦ Some a | None ↦ None ]) ≡ Some k → IsSome o
        either (Some a) q = refl
        either None q = absurd (none_some k q)

pub lined_freed : (x : Step) (text : List ℕ) → x.input ≡ Wake → x.effects.calls ≡ [] → Whole x → FreedBefore (with_input (Line text) x)
lined_freed x text wake bare h s m there is =
    freed_before x (woken_line wake) (part x h) s m (subst (λ ss. Contains ss s) (sessions_told x (Line text) bare) there) (sym (ap (λ ms. free_write (filter (is_call_of s) ms)) (calls_lined x text wake bare)) ∙ is)

pub lined_unfreed : (x : Step) (text : List ℕ) (s : Session) → x.input ≡ Wake → x.effects.calls ≡ [] → Whole x → Has (with_input (Line text) x) s → is_active x.setting (seen x) s ≡ true → free_write (calls_of (seen (with_input (Line text) x)) s) ≡ None
lined_unfreed x text s wake bare h has active =
    let there : Contains (sessions x.setting (seen x)) s = subst (λ ss. Contains ss s) (sessions_told x (Line text) bare) (got_inside (sessions x.setting (seen (with_input (Line text) x))) s.number s has) in
    ap (λ ms. free_write (filter (is_call_of s) ms)) (calls_lined x text wake bare) ∙ active_unfreed x.setting (seen x) s (part x h) there active

pub decision_delta : (x : Step) (text : List ℕ) (c : Command) (d : Decision) → x.input ≡ Wake → x.effects.calls ≡ [] → Whole x → Of (Has (with_input (Line text) x)) d → DecisionFits x.setting (seen x) c d
    → IsBegun d ⊎ DecisionAllowed (DeltaSince (with_input (Line text) x)) (DeltaReply (with_input (Line text) x)) (DeltaCall (with_input (Line text) x)) AnyStart (with_input (Line text) x) (next_job x.setting (seen x)) c d
decision_delta x text c (Replies r) wake bare h has f = inr tt
decision_delta x text c (Joins n a) wake bare h has f = inl tt
decision_delta x text c (Leaves s) wake bare h has f = inr (tt, λ z k i there. (late_on_line x text (Recovering (last_renewal z.setting (seen z) s)), inl refl))
decision_delta x text c (ReadsArea s r) wake bare h has f =
    inr (plain_call (with_input (Line text) x) s r.path (Lease (ForJob (next_job x.setting (seen x))) (ReadArea r.name)) r.offset (ReadSectors (area_sectors x.setting.layout)) has (lined_unfreed x text s wake bare h has f.0) refl refl refl)
decision_delta x text c (Shares s lver) wake bare h has f = inr (grant_delta (with_input (Line text) x) (next_job x.setting (seen x)) lver c)
decision_delta x text c (GivesUp s g) wake bare h has f =
    let w : Step = with_input (Line text) x in
    let n : LeaseNext = next_of_release x.setting (seen (add_end (end_of g) w)) s (spot_of_grant g) g in
    inr (
      (late_on_line x text Done, inl refl),
      lease_delta w (add_end (end_of g) w) s (spot_of_grant g) (ForJob (next_job x.setting (seen x))) n has (lined_unfreed x text s wake bare h has f.0)
          (λ j r is. plain_reply w j r (subst (λ k. IsLateLease k) is (release_late (lease_place x.setting s) (known x.setting (seen (add_end (end_of g) w)) s (spot_of_grant g)) g.mode g.lver))),
    )
decision_delta x text c (TakesOver s g) wake bare h has f = inr (grant_delta (with_input (Line text) x) (next_job x.setting (seen x)) g.lver c)
decision_delta x text c (ConvertsTo s r mode) wake bare h has f =
    let w : Step = with_input (Line text) x in
    inr (lease_delta w w s (spot_of r) (ForJob (next_job x.setting (seen x))) (next_of_conversion x.setting (seen w) s (spot_of r) mode r.name) has (lined_unfreed x text s wake bare h has f.0)
    (λ j q is. plain_reply w j q (subst (λ k. IsPlainly k) is (convert_late (lease_place x.setting s) (known x.setting (seen w) s (spot_of r)) mode r.name))))
decision_delta x text c (Requests s r) wake bare h has f =
    inr (plain_call (with_input (Line text) x) s r.path (RequestRead (next_job x.setting (seen x))) r.offset (ReadSectors 2) has (lined_unfreed x text s wake bare h has f.0) refl refl refl)
decision_delta x text c (SetsValue s at v) wake bare h has f =
    inr (plain_call (with_input (Line text) x) s at.path (ValueWrite (next_job x.setting (seen x))) (value_offset x.setting.layout at.base) (WriteRecord (ValueIs v)) has (lined_unfreed x text s wake bare h has f.0) refl refl refl)
decision_delta x text c (GetsValue s at) wake bare h has f =
    inr (plain_call (with_input (Line text) x) s at.path (ValueRead (next_job x.setting (seen x))) (value_offset x.setting.layout at.base) (ReadSectors 1) has (lined_unfreed x text s wake bare h has f.0) refl refl refl)

-- The number of the decision's session.
abbrev pub OwnNumber : ℕ → Decision → Type 0
OwnNumber n (Shares s lver) = s.number ≡ n
OwnNumber n (GivesUp s g) = s.number ≡ n
OwnNumber n (TakesOver s g) = s.number ≡ n
OwnNumber n (ConvertsTo s r mode) = s.number ≡ n
OwnNumber n d = Unit {0}

-- Whose holdings a command leaves: nobody's but its session's.
pub decision_held : (x : Step) (j : ℕ) (c : Command) (d : Decision) → (n : ℕ) → OwnNumber n d → HeldBy x n (carry_decision j c d x)
unfolding carry_decision after_end
decision_held x j c (Replies r) n own = held_itself x n
decision_held x j c (Joins k a) n own = held_itself x n
decision_held x j c (Leaves s) n own = held_stop x n x s (Some j) (held_itself x n)
decision_held x j c (ReadsArea s r) n own = held_itself x n
decision_held x j c (Shares s lver) n own = subst (λ k. HeldBy x k (grant_for s j c Shared lver x)) own (held_grant x x s j c Shared lver (held_itself x s.number))
decision_held x j c (GivesUp s g) n own = subst (λ k. HeldBy x k (carry_decision j c (GivesUp s g) x)) own (by (holdings_on (seen y) s (spot_of_grant g))) where
  y : Step
  y = add_end (end_of g) x

  by : (hs : List Grant)
      → HeldBy x s.number (elim hs as (λ z. Step) [ h ∷ rest ↦ add_reply j Done y | [] ↦ carry_lease s (spot_of_grant g) (ForJob j) (next_of_release y.setting (seen y) s (spot_of_grant g) g) y ])
  by (h ∷ rest) = end_held x s.number x (end_of g) (held_itself x s.number)
  by [] = held_lease x y s (spot_of_grant g) (ForJob j) (next_of_release y.setting (seen y) s (spot_of_grant g) g) (end_held x s.number x (end_of g) (held_itself x s.number))
decision_held x j c (TakesOver s g) n own =
    subst (λ k. HeldBy x k (grant_for s j c g.mode g.lver (add_end (end_of g) x))) own (held_grant x (add_end (end_of g) x) s j c g.mode g.lver (end_held x s.number x (end_of g) (held_itself x s.number)))
decision_held x j c (ConvertsTo s r mode) n own =
    subst (λ k. HeldBy x k (carry_lease s (spot_of r) (ForJob j) (next_of_conversion x.setting (seen x) s (spot_of r) mode r.name) x)) own
    (held_lease x x s (spot_of r) (ForJob j) (next_of_conversion x.setting (seen x) s (spot_of r) mode r.name) (held_itself x s.number))
decision_held x j c (Requests s r) n own = held_itself x n
decision_held x j c (SetsValue s at v) n own = held_itself x n
decision_held x j c (GetsValue s at) n own = held_itself x n
