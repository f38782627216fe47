-- What stands newest among the calls of a joining, by their order.
use Rattle.sl_id_safety.proofs.State.LastRegistering.{is_registering, registering_call}
use Rattle.sl_run_law.proofs.Sessions.JoiningsInTurn.{stage_for}
use Rattle.sl_run_law.specs.Sessions.SessionLaws.{is_ordered, may_come, may_follow}
use Rattle.sl_trace.specs.Sessions.{is_covered_stage, is_join_call, join_call, stage_in}
use Rattle.sl_trace.specs.Traces.{Submitted, is_answered_ok}
use Rattle.sl_trace.specs.declared.effects.JoinStep.TheVariants.{ClaimWrite, DecidingRead, FirstRead, FirstRenewal, VerifyRead, WatchRead}
use Rattle.sl_trace.specs.declared.effects.Purpose.TheVariants.{Joining, Lease, Leaving, Renewal, RequestRead, RequestWrite, SeeRequest, Survey, ValueRead, ValueWrite}
use Rattle.sl_trace.specs.declared.effects.Purpose.{Purpose}
use Rattle.sl_words.proofs.CaseLaws.{false_is_true, none_some, true_is_false}
use Rattle.sl_words.proofs.WordLaws.{and_true}
use Rattle.std.proofs.Common.{ap, refl, sym, ◌∙◌}
use Rattle.std.specs.Prelude.{Bool, List, None, Option, Some, [], cond, false, true, ℕ, ◌||◌, ◌∷◌, ◌≡◌}

-- ---- after the verify read comes only the first renewal

abbrev verifies : Purpose → Bool
verifies (Joining j VerifyRead) = true
verifies (Joining j FirstRenewal) = true
verifies p = false

abbrev head_verifies : List Submitted → Bool
head_verifies [] = false
head_verifies (m ∷ ms) = verifies m.call.purpose

after_verify : (i : ℕ) (q : Purpose) → may_follow (Joining i VerifyRead) q ≡ true → (is_registering q ≡ false) × (verifies q ≡ true)
after_verify i (Joining j FirstRenewal) h = (refl, refl)
after_verify i q h = absurd (false_is_true h)

after_renewal : (i : ℕ) (q : Purpose) → may_follow (Joining i FirstRenewal) q ≡ true → ⊥
after_renewal i (Joining j b) h = false_is_true h
after_renewal i q h = false_is_true h

follows_verify : (p q : Purpose) → verifies p ≡ true → may_follow p q ≡ true → (is_registering q ≡ false) × (verifies q ≡ true)
follows_verify (Joining i VerifyRead) q is h = after_verify i q h
follows_verify (Joining i FirstRenewal) q is h = absurd (after_renewal i q h)
follows_verify p q is h = absurd (false_is_true is)

comes_after_verify : (ms : List Submitted) (p : Purpose) → head_verifies ms ≡ true → may_come ms p ≡ true → (is_registering p ≡ false) × (verifies p ≡ true)
comes_after_verify [] p is h = absurd (false_is_true is)
comes_after_verify (m ∷ ms) p is h = follows_verify m.call.purpose p is h

verify_is : (p : Purpose) → is_join_call VerifyRead p ≡ true → (is_registering p ≡ true) × (verifies p ≡ true)
verify_is (Joining j VerifyRead) is = (refl, refl)
verify_is p is = absurd (false_is_true is)

-- The verify read is the newest call that is made with a registering.
newest_verify : (ms : List Submitted) (v : Submitted) → is_ordered ms ≡ true → join_call ms VerifyRead ≡ Some v → (registering_call ms ≡ Some v) × (head_verifies ms ≡ true)
newest_verify [] v ordered h = absurd (none_some v h)
newest_verify (x ∷ ms) v ordered h = by (is_join_call VerifyRead x.call.purpose) refl h (λ more. newest_verify ms v parts.1 more) where
  parts : (may_come ms x.call.purpose ≡ true) × (is_ordered ms ≡ true)
  parts = and_true (may_come ms x.call.purpose) (is_ordered ms) ordered

  by : (b : Bool) → is_join_call VerifyRead x.call.purpose ≡ b → cond b (Some x) (join_call ms VerifyRead) ≡ Some v
      → (join_call ms VerifyRead ≡ Some v → (registering_call ms ≡ Some v) × (head_verifies ms ≡ true))
      → (cond (is_registering x.call.purpose) (Some x) (registering_call ms) ≡ Some v) × (verifies x.call.purpose ≡ true)
  by true is found rest =
      let r = verify_is x.call.purpose is in
      (ap (λ b. cond b (Some x) (registering_call ms)) r.0 ∙ found, r.1)
  by false is found rest =
      let r = rest found in
      let n = comes_after_verify ms x.call.purpose r.1 parts.0 in
      (ap (λ b. cond b (Some x) (registering_call ms)) n.0 ∙ r.0, n.1)

covers : (p : Purpose) (done : Bool) → verifies p ≡ true → is_covered_stage (stage_for p done) ≡ true
covers (Joining j VerifyRead) done is = refl
covers (Joining j FirstRenewal) done is = refl
covers p done is = absurd (false_is_true is)

head_covers : (ms : List Submitted) → head_verifies ms ≡ true → is_covered_stage (stage_in ms) ≡ true
head_covers [] is = absurd (false_is_true is)
head_covers (m ∷ ms) is = covers m.call.purpose (is_answered_ok m) is

-- .. and then the connection is needed.
pub verified_newest : (ms : List Submitted) (v : Submitted) → is_ordered ms ≡ true → join_call ms VerifyRead ≡ Some v
    → (registering_call ms ≡ Some v) × (is_covered_stage (stage_in ms) ≡ true)
verified_newest ms v ordered h = let r = newest_verify ms v ordered h in (r.0, head_covers ms r.1)

-- ---- after the deciding read comes only the claim

abbrev head_decides : List Submitted → Bool
head_decides [] = false
head_decides (m ∷ ms) = is_join_call DecidingRead m.call.purpose

after_deciding : (i : ℕ) (q : Purpose) → may_follow (Joining i DecidingRead) q ≡ true → is_join_call ClaimWrite q ≡ true
after_deciding i (Joining j ClaimWrite) h = refl
after_deciding i q h = absurd (false_is_true h)

follows_deciding : (p q : Purpose) → is_join_call DecidingRead p ≡ true → may_follow p q ≡ true → is_join_call ClaimWrite q ≡ true
follows_deciding (Joining i DecidingRead) q is h = after_deciding i q h
follows_deciding p q is h = absurd (false_is_true is)

comes_after_deciding : (ms : List Submitted) (p : Purpose) → head_decides ms ≡ true → may_come ms p ≡ true → is_join_call ClaimWrite p ≡ true
comes_after_deciding [] p is h = absurd (false_is_true is)
comes_after_deciding (m ∷ ms) p is h = follows_deciding m.call.purpose p is h

none_there : (x : Submitted) (b : Bool) (o : Option Submitted) → cond b (Some x) o ≡ None → (b ≡ false) × (o ≡ None)
none_there x true o h = absurd (none_some x (sym h))
none_there x false o h = (refl, h)

newest_deciding : (ms : List Submitted) (d : Submitted) → is_ordered ms ≡ true → join_call ms DecidingRead ≡ Some d → join_call ms ClaimWrite ≡ None → head_decides ms ≡ true
newest_deciding [] d ordered h none = absurd (none_some d h)
newest_deciding (x ∷ ms) d ordered h none = by (is_join_call DecidingRead x.call.purpose) refl h (λ more. newest_deciding ms d parts.1 more left.1) where
  parts : (may_come ms x.call.purpose ≡ true) × (is_ordered ms ≡ true)
  parts = and_true (may_come ms x.call.purpose) (is_ordered ms) ordered

  left : (is_join_call ClaimWrite x.call.purpose ≡ false) × (join_call ms ClaimWrite ≡ None)
  left = none_there x (is_join_call ClaimWrite x.call.purpose) (join_call ms ClaimWrite) none

  by : (b : Bool) → is_join_call DecidingRead x.call.purpose ≡ b → cond b (Some x) (join_call ms DecidingRead) ≡ Some d
      → (join_call ms DecidingRead ≡ Some d → head_decides ms ≡ true) → is_join_call DecidingRead x.call.purpose ≡ true
  by true is found rest = is
  by false is found rest = absurd (true_is_false (sym (comes_after_deciding ms x.call.purpose (rest found) parts.0) ∙ left.0))

decides_covers : (p : Purpose) (done : Bool) → is_join_call DecidingRead p ≡ true → is_covered_stage (stage_for p done) ≡ true
decides_covers (Joining j DecidingRead) done is = refl
decides_covers p done is = absurd (false_is_true is)

decided_covers : (ms : List Submitted) → head_decides ms ≡ true → is_covered_stage (stage_in ms) ≡ true
decided_covers [] is = absurd (false_is_true is)
decided_covers (m ∷ ms) is = decides_covers m.call.purpose (is_answered_ok m) is

-- Before it claims, a session that has made its deciding read needs its connection.
pub decided_newest : (ms : List Submitted) (d : Submitted) → is_ordered ms ≡ true → join_call ms DecidingRead ≡ Some d → join_call ms ClaimWrite ≡ None
    → is_covered_stage (stage_in ms) ≡ true
decided_newest ms d ordered h none = decided_covers ms (newest_deciding ms d ordered h none)

-- ---- before any verify read

registering_is : (p : Purpose) → is_registering p ≡ (is_join_call DecidingRead p || is_join_call VerifyRead p)
registering_is (Joining j FirstRead) = refl
registering_is (Joining j WatchRead) = refl
registering_is (Joining j DecidingRead) = refl
registering_is (Joining j ClaimWrite) = refl
registering_is (Joining j VerifyRead) = refl
registering_is (Joining j FirstRenewal) = refl
registering_is Renewal = refl
registering_is Survey = refl
registering_is (Leaving j) = refl
registering_is (Lease work step) = refl
registering_is (RequestRead j) = refl
registering_is (RequestWrite j o) = refl
registering_is SeeRequest = refl
registering_is (ValueWrite j) = refl
registering_is (ValueRead j) = refl

found_either : (x d : Submitted) (a b : Bool) (o q : Option Submitted) → cond a (Some x) o ≡ Some d → b ≡ false → (o ≡ Some d → q ≡ Some d) → cond (a || b) (Some x) q ≡ Some d
found_either x d true b o q h none rest = h
found_either x d false true o q h none rest = absurd (true_is_false none)
found_either x d false false o q h none rest = rest h

-- .. the deciding read is the newest call that is made with a registering.
pub deciding_registers : (ms : List Submitted) (d : Submitted) → join_call ms DecidingRead ≡ Some d → join_call ms VerifyRead ≡ None → registering_call ms ≡ Some d
deciding_registers [] d h none = absurd (none_some d h)
deciding_registers (x ∷ ms) d h none =
    let left = none_there x (is_join_call VerifyRead x.call.purpose) (join_call ms VerifyRead) none in
    ap (λ b. cond b (Some x) (registering_call ms)) (registering_is x.call.purpose)
    ∙ found_either x d (is_join_call DecidingRead x.call.purpose) (is_join_call VerifyRead x.call.purpose) (join_call ms DecidingRead) (registering_call ms) h left.0
    (λ more. deciding_registers ms d more left.1)
