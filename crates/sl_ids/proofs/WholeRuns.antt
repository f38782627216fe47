-- The start, each step, and whole runs.
use Rattle.sl_ids.proofs.ClaimLandings.{land_claim_kept, tear_claim_kept}
use Rattle.sl_ids.proofs.OwnLandings.{land_own_kept}
use Rattle.sl_ids.proofs.QuietSteps.{end_kept, lose_kept, pass_kept, renew_kept}
use Rattle.sl_ids.proofs.ReadSteps.{decide_kept, verify_kept}
use Rattle.sl_ids.proofs.StateLaws.{same_session}
use Rattle.sl_ids.specs.Invariant.{HasClaim, Invariant, LandingsInOrder, PairInvariant, SessionInvariant}
use Rattle.sl_ids.specs.InvariantLaws.{StartHolds, StepKeeps}
use Rattle.sl_ids.specs.Runs.{IsBounded, Reached, RunsTo, Starts_free, Starts_held, StartsWith}
use Rattle.sl_ids.specs.State.{Content, Free, IsNew, Kind, Landing, Live, Session, SessionId, State, moment, shown}
use Rattle.sl_ids.specs.Steps.{Decides, Ends, Lands_claim, Lands_own, Loses, Passes, Renews, Tears_claim, Verifies}
use Rattle.sl_ids.specs.Terms.{AreLongEnough, Terms}
use Rattle.sl_words.proofs.CaseLaws.{no_value, not_both, one_value}
use Rattle.std.proofs.Common.{List, None, Some, ap, arith, inl, inr, subst, sym, true, [], ℕ, ◌+◌, ◌<◌, ◌∙◌, ◌∷◌, ◌≡◌, ◌≤◌}

-- ---- the start

one_new : (r : Terms) (now count : ℕ) (land : ℕ → Landing) (n : SessionId) (s : Session) → IsNew s
    → ((k : ℕ) → k < count → (land k).writer ≡ Some n → ⊥) → SessionInvariant r now count land n s
one_new r now count land n s new none = record {
  waits = λ p. absurd (not_both s.pending p new.pending);
  decided = λ p. absurd (not_both s.decided p new.decided);
  unwritten = λ p. none;
  wrote = λ k h e x f. absurd (none k h e);
  base = λ p. absurd (not_both s.pending p new.pending);
  landed = λ p. absurd (not_both s.landed p new.landed);
  verified = λ p. absurd (not_both s.verified p new.verified);
  joined = λ p. absurd (not_both s.joined p new.joined);
  owner = λ p. absurd (not_both s.verified p new.verified);
  renewed = λ p. absurd (not_both s.verified p new.verified);
}

two_new : (r : Terms) (count : ℕ) (land : ℕ → Landing) (m : SessionId) (s : Session) (n : SessionId) (t : Session) → (s.pending ≡ true → ⊥)
    → IsNew t → ((k : ℕ) → k < count → (land k).writer ≡ Some n → ⊥) → PairInvariant r count land m s n t
two_new r count land m s n t idle new none = record {
  one_base = λ p. absurd (idle p);
  sole = λ p q l. not_both t.pending l new.pending;
  behind = λ p q. absurd (not_both t.decided q new.decided);
  solo = λ e p q. absurd (not_both t.begun q new.begun);
  alone = λ e p q k h f. absurd (none k h f);
}

new_two : (r : Terms) (count : ℕ) (land : ℕ → Landing) (m : SessionId) (s : Session) (n : SessionId) (t : Session) → IsNew s
    → PairInvariant r count land m s n t
new_two r count land m s n t new = record {
  one_base = λ p. absurd (not_both s.pending p new.pending);
  sole = λ p. absurd (not_both s.verified p new.verified);
  behind = λ p. absurd (not_both s.verified p new.verified);
  solo = λ e p. absurd (not_both s.begun p new.begun);
  alone = λ e p. absurd (not_both s.begun p new.begun);
}

start_landings : (w : State) → w.count ≡ 1 → moment w 0 ≤ w.now
    → ((w.landing 0).writer ≡ None → (x : Content) → shown w 0 ≡ Some x → (x.kind ≡ Free) × (x.generation ≡ 0))
    → LandingsInOrder w.now w.count w.landing
start_landings w one before nobody = record {
  some = omega arith;
  past = λ k h. (let e : k ≡ 0 = omega arith in let f : moment w k ≡ moment w 0 = ap (λ (m : ℕ). moment w m) e in omega arith);
  rising = λ j k h l. (let e : j ≡ k = omega arith in let f : moment w j ≡ moment w k = ap (λ (m : ℕ). moment w m) e in omega arith);
  generations = λ j k h l. absurd (omega arith);
  distinct = λ j k h l. absurd (omega arith);
  nobody = λ k h p. (
      let e : k ≡ 0 = omega arith in
      (e, λ x f. nobody (subst (λ (m : ℕ). (w.landing m).writer ≡ None) e p) x (subst (λ (m : ℕ). shown w m ≡ Some x) e f))
      );
}

live_not_free : (k : Kind) → k ≡ Live → k ≡ Free → ⊥
live_not_free k a b = absurd cc

pub start_kept : StartHolds
start_kept r w long s = go s.starts
  where
    one : w.count ≡ 1
    one = s.one

    go : StartsWith w s.content → Invariant r w
    go (Starts_free kind generation writer all) =
        let none : (j : SessionId) (k : ℕ) → k < w.count → (w.landing k).writer ≡ Some j → ⊥ = λ j k h e.
        let z : k ≡ 0 = omega arith in no_value j (w.landing 0).writer (subst (λ (m : ℕ). (w.landing m).writer ≡ Some j) z e) writer in
        record {
          terms = long;
          landings = start_landings w one s.before (λ p x f. (
              let c = one_value x s.content (shown w 0) f s.spelled in
              (ap (λ (y : Content). y.kind) c ∙ kind, ap (λ (y : Content). y.generation) c ∙ generation)
              ));
          one = λ j. one_new r w.now w.count w.landing j (w.session j) (all j) (none j);
          two = λ a b ne. new_two r w.count w.landing a (w.session a) b (w.session b) (all a);
        }
    go (Starts_held holder h) =
        let mine : (j : SessionId) (k : ℕ) → k < w.count → (w.landing k).writer ≡ Some j → j ≡ holder = λ j k l e.
        let z : k ≡ 0 = omega arith in one_value j holder (w.landing 0).writer (subst (λ (m : ℕ). (w.landing m).writer ≡ Some j) z e) h.writer in
        let none : (j : SessionId) → (j ≡ holder → ⊥) → (k : ℕ) → k < w.count → (w.landing k).writer ≡ Some j → ⊥ = λ j ne k l e. ne (mine j k l e) in
        let t = w.session holder in
        let first = h.claim in
        let base = h.base in
        let placed : HasClaim w.count w.landing holder (w.session holder).claim (w.session holder).generation = record {
          within = omega arith;
          writer = subst (λ (m : ℕ). (w.landing m).writer ≡ Some holder) (sym first) h.writer;
          content = s.content;
          spelled = subst (λ (m : ℕ). shown w m ≡ Some s.content) (sym first) s.spelled;
          generation = sym h.generation;
        } in
        let its : SessionInvariant r w.now w.count w.landing holder (w.session holder) = record {
          waits = λ p. absurd (not_both (w.session holder).pending p h.pending);
          decided = λ p. absurd (not_both (w.session holder).decided p h.decided);
          unwritten = λ p. elim p [ inl q ↦ absurd (not_both (w.session holder).begun h.begun q) | inr q ↦ absurd (not_both (w.session holder).pending q h.pending) ];
          wrote = λ k l e x f. (
              let z : k ≡ 0 = omega arith in
              let c = one_value x s.content (shown w 0) (subst (λ (m : ℕ). shown w m ≡ Some x) z f) s.spelled in
              let kind : x.kind ≡ Live = ap (λ (y : Content). y.kind) c ∙ h.kind in
              let seq : x.seq ≡ s.content.seq = ap (λ (y : Content). y.seq) c in
              let most = h.seq in
              record {
                its = ap (λ (y : Content). y.host) c ∙ h.name;
                generation = ap (λ (y : Content). y.generation) c ∙ sym h.generation;
                seq = omega arith;
                live = λ g. h.verified;
                free = λ g. absurd (live_not_free x.kind kind g);
              }
              );
          base = λ p. absurd (not_both (w.session holder).pending p h.pending);
          landed = λ p. absurd (not_both (w.session holder).landed p h.landed);
          verified = λ p. (h.begun, placed, (let a = h.some in let b = h.generation in omega arith), inr (h.decided, first, base));
          joined = λ p. h.verified;
          owner = λ p q k g l. absurd (omega arith);
          renewed = λ p q. (
              let renewed = h.renewed in
              let before = s.before in
              let some = long.some in
              let at : (k : ℕ) → k + 1 ≡ w.count → moment w k ≡ moment w 0 = λ k e. let z : k ≡ 0 = omega arith in ap (λ (m : ℕ). moment w m) z in
              record {
                before = omega arith;
                soon = λ k e. (let m = at k e in omega arith);
                live = λ k e x f g. (let m = at k e in omega arith);
              }
              );
        } in
        record {
          terms = long;
          landings = start_landings w one s.before (λ p. absurd (no_value holder (w.landing 0).writer h.writer p));
          one = λ j. elim (same_session j holder) [
            | inl e ↦ subst (λ (n : SessionId). SessionInvariant r w.now w.count w.landing n (w.session n)) (sym e) its
            | inr ne ↦ one_new r w.now w.count w.landing j (w.session j) (h.others j ne) (none j ne)
          ];
          two = λ a b ne. elim (same_session a holder) [
            | inr na ↦ new_two r w.count w.landing a (w.session a) b (w.session b) (h.others a na)
            | inl e ↦
                let nb : b ≡ holder → ⊥ = λ q. ne (e ∙ sym q) in
                two_new r w.count w.landing a (w.session a) b (w.session b)
                (λ p. not_both (w.session holder).pending (subst (λ (n : SessionId). (w.session n).pending ≡ true) e p) h.pending)
                (h.others b nb) (none b nb)
          ];
        }

-- ---- each step, and whole runs

pub step_kept : StepKeeps
step_kept r w v i b l (Passes p) = pass_kept r w v i p
step_kept r w v i b l (Decides s p) = decide_kept r w v s i b p
step_kept r w v i b l (Loses s p) = lose_kept r w v s i p
step_kept r w v i b l (Tears_claim s p) = tear_claim_kept r w v s i p
step_kept r w v i b l (Lands_claim s p) = land_claim_kept r w v s i p
step_kept r w v i b l (Verifies s p) = verify_kept r w v s i b l p
step_kept r w v i b l (Lands_own s p) = land_own_kept r w v s i p
step_kept r w v i b l (Renews s p) = renew_kept r w v s i p
step_kept r w v i b l (Ends s p) = end_kept r w v s i p

pub run_kept : (r : Terms) (us : List State) (w v : State) → Invariant r w → IsBounded r w → RunsTo r w us v → Invariant r v × IsBounded r v
run_kept r [] w v i b e = (subst (Invariant r) e i, subst (IsBounded r) e b)
run_kept r (u ∷ us) w v i b p = run_kept r us u v (step_kept r w u i b p.1 p.0) p.1 p.2

pub reached_kept : (r : Terms) (w : State) → AreLongEnough r → Reached r w → Invariant r w × IsBounded r w
reached_kept r w long p = run_kept r p.1 p.0 w (start_kept r p.0 long p.2) p.3 p.4

-- The watchdogs' promise in the last state.
pub bounded_to : (r : Terms) (us : List State) (w v : State) → IsBounded r w → RunsTo r w us v → IsBounded r v
bounded_to r [] w v b e = subst (IsBounded r) e b
bounded_to r (u ∷ us) w v b p = bounded_to r us u v p.1 p.2
