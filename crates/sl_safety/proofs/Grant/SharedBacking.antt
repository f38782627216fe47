-- What a shared grant has behind it, whichever way it came: a ballot that ended with the session, its block with the mode, answered before
-- the session submits any free of the instance, and that each of its blocks has the mode from then on. A conversion has the ballot of the
-- exclusive holding that it ends, and no free of what was held was submitted before.
use Rattle.sl_safety.proofs.Grant.CallNumbersRise.{numbers_rise}
use Rattle.sl_safety.proofs.Grant.CallsOfWorlds.{OfLease, by_cases, in_lease, lease_was, of_lease}
use Rattle.sl_safety.proofs.Holding.HoldingsAreGranted.{holdings_are_granted}
use Rattle.sl_safety.proofs.Holding.Places.{HeldOn, held_on}
use Rattle.sl_safety.proofs.Holding.SharedHoldingsBegin.{was_session}
use Rattle.sl_safety.proofs.Holding.ExclusivesUnfreed.{exclusives_are_unfreed}
use Rattle.sl_safety.specs.Holding.HoldingOrigins.{GrantedIn}
use Rattle.sl_area.specs.AreaSizes.{Layout}
use Rattle.sl_run.proofs.LawFacts.{orderly-front}
use Rattle.sl_run.specs.Lawful.{Orderly}
use Rattle.sl_run.specs.LawfulLeader.{HasWon}
use Rattle.sl_run.specs.LawfulModes.{AllShared, IsDone, LawfulExclusiveGrant, LawfulSharedGrant, SharedByBallot, SharedByConversion}
use Rattle.sl_trace.specs.Leases.{block_written, ended_ballot, ended_ballots, holdings_on, is_free_write, lease_calls}
use Rattle.sl_words.proofs.Lists.{contains_first, contains_more, find_inside}
use Rattle.sl_words.proofs.Numbers.{never_below, trans_le}
use Rattle.sl_words.proofs.Options.{some_of}
use Rattle.sl_sector.specs.declared.sector.Block.{Block}
use Rattle.sl_sector.specs.declared.sector.Owner.{Owner}
use Rattle.sl_run_law.proofs.Sessions.CallOwners.{sessions_stay}
use Rattle.sl_trace.specs.Sessions.{me, session_numbered}
use Rattle.sl_trace.specs.declared.session.Session.{Session}
use Rattle.sl_trace.specs.Traces.{Answered, Setting, Submitted, Trace, is_shared, new_call, spot_of_grant}
use Rattle.sl_trace.specs.declared.effects.Call.{Call}
use Rattle.sl_trace.specs.declared.effects.Entry.{Entry}
use Rattle.sl_trace.specs.declared.effects.Grant.{Grant}
use Rattle.sl_trace.specs.declared.effects.Spot.{Spot}
use Rattle.sl_words.proofs.CaseLaws.{one_value, true_is_false}
use Rattle.std.proofs.Common.{ap, inl, inr, refl, subst, sym, ◌∙◌}
use Rattle.std.proofs.lemmas.Bool.{not-true}
use Rattle.std.specs.Prelude.{Contains, List, MatchBool, None, Option, Some, [], false, length, not, true, ℕ, ◌++◌, ◌<◌, ◌∷◌, ◌≡◌, ◌≤◌, ◌⊎◌}

-- By an entry of the trace a ballot of the instance had ended with the session, and a call of the lease was made.
pub record WonBefore (st : Setting) (es : Trace) (s : Session) (at : Spot) (n : ℕ) : Type 0 where
  pub later : Trace
  pub entry : Entry
  pub past : Trace
  pub whole : es ≡ later ++ entry ∷ past
  pub won : HasWon st (entry ∷ past) s at n
  pub call : Submitted
  pub of_lease : Contains (lease_calls st (entry ∷ past) s at) call

pub record IsBacked (st : Setting) (es : Trace) (s : Session) (at : Spot) (n : ℕ) : Type 0 where
  pub ballot : WonBefore st es s at n
  pub mode : Submitted
  pub block : Block
  pub answer : Answered
  pub of_lease : Contains (lease_calls st es s at) mode
  pub wrote : block_written mode ≡ Some block
  pub done : IsDone mode answer
  pub unfreed : (d : Submitted) → Contains (lease_calls st es s at) d → is_free_write n d ≡ true → answer.at ≤ d.at
  pub kept : AllShared st es s at mode

-- ---- by a ballot

kept_end : (g : Layout) (m : Submitted) (ms : List Submitted) (x : ℕ × Owner) (o : Option (ℕ × Owner)) → Contains (ended_ballots g ms) x
    → Contains (elim o as (λ z. List (ℕ × Owner)) [ None ↦ ended_ballots g ms | Some q ↦ q ∷ ended_ballots g ms ]) x
kept_end g m ms x None has = has
kept_end g m ms x (Some q) has = contains_more q (ended_ballots g ms) x has

-- A ballot that a read ended is among those that ended.
ended_there : (g : Layout) (newer : List Submitted) (read : Submitted) (before : List Submitted) (x : ℕ × Owner) → ended_ballot g read before ≡ Some x
    → Contains (ended_ballots g (newer ++ read ∷ before)) x
ended_there g [] read before x is =
    subst (λ o. Contains (elim o as (λ z. List (ℕ × Owner)) [ None ↦ ended_ballots g before | Some q ↦ q ∷ ended_ballots g before ]) x) (sym is)
    (contains_first x (ended_ballots g before))
ended_there g (m ∷ newer) read before x is =
    kept_end g m (newer ++ read ∷ before) x (ended_ballot g m (newer ++ read ∷ before)) (ended_there g newer read before x is)

by_ballot : (st : Setting) (e : Entry) (past : Trace) → Orderly st (e ∷ past) → (s : Session) (at : Spot) (n : ℕ) → SharedByBallot st (e ∷ past) s at n
    → IsBacked st (e ∷ past) s at n
by_ballot st e past law s at n b =
    let es : Trace = e ∷ past in
    let own : ℕ × Owner = (n, me es s) in
    record {
      ballot = record {
        later = [];
        entry = e;
        past = past;
        whole = refl;
        won = subst (λ ms. Contains (ended_ballots st.layout ms) own) (sym b.split) (ended_there st.layout b.after b.read b.before own b.won.1);
        call = b.mode;
        of_lease = b.of_lease.0;
      };
      mode = b.mode;
      block = b.block;
      answer = b.mode_answer;
      of_lease = b.of_lease.0;
      wrote = b.moded.2;
      done = b.moded.6;
      unfreed = λ d has frees.
          let free : OfLease st es s at b.free = of_lease st es s at b.free b.of_lease.1 in
          let own_call : OfLease st es s at d = of_lease st es s at d has in
          trans_le b.mode_answer.at b.free.at d.at b.freed.0
          (by_cases b.free.at d.at (b.free.at ≤ d.at) (λ le. le)
          (λ below. absurd (never_below b.free.call.number d.call.number (b.first d has frees) (numbers_rise st es law.is_trace d b.free own_call.inside free.inside below))));
      kept = b.kept;
    }

-- ---- by conversion

-- What was converted, at its grant.
record WasGranted (st : Setting) (past : Trace) (s : Session) (at : Spot) (n : ℕ) : Type 0 where
  held : Grant
  there : Contains (holdings_on past s at) held
  exclusive : is_shared held.mode ≡ false
  instance : held.lver ≡ n
  its : session_numbered st past s.number ≡ Some s
  from : GrantedIn past held
  law : LawfulExclusiveGrant st (from.entry ∷ from.past) s at n

was_granted : (st : Setting) (e : Entry) (past : Trace) → Orderly st (e ∷ past) → (s : Session) → session_numbered st (e ∷ past) s.number ≡ Some s → (at : Spot) (n : ℕ)
    → SharedByConversion st past (e ∷ past) s at n → WasGranted st past s at n
was_granted st e past law s its at n b =
    let g : Grant = b.held in
    let found = find_inside (λ (x : Grant). not (is_shared x.mode)) (holdings_on past s at) g b.was_exclusive.0 in
    let exclusive : is_shared g.mode ≡ false = not-true (is_shared g.mode) found.1 in
    let on : HeldOn past s at g = held_on past s at g found.0 in
    let before : Orderly st past = orderly-front st (e ∷ []) past law in
    let known : session_numbered st past s.number ≡ Some s = was_session st e past g s before its on.there on.mine in
    let from : GrantedIn past g = holdings_are_granted past g on.there in
    let front : Trace = from.entry ∷ from.past in
    let here : Orderly st front = orderly-front st from.later front (subst (λ t. Orderly st t) from.whole before) in
    let owner = some_of (session_numbered st front g.session) (here.granting.0.owned g from.given) in
    let later : session_numbered st past g.session ≡ Some owner.0 =
    subst (λ t. session_numbered st t g.session ≡ Some owner.0) (sym from.whole) (sessions_stay st from.later front g.session owner.0 owner.1) in
    let same : owner.0 ≡ s = one_value owner.0 s (session_numbered st past g.session) later (ap (λ k. session_numbered st past k) on.mine ∙ known) in
    let mode : LawfulExclusiveGrant st front s (spot_of_grant g) g.lver =
    subst (λ x. MatchBool x (LawfulSharedGrant st from.past front s (spot_of_grant g) g.lver) (LawfulExclusiveGrant st front s (spot_of_grant g) g.lver)) exclusive
    (here.modes.0.grants g s from.given (owner.1 ∙ ap (λ x. Some x) same)) in
    record {
      held = g;
      there = found.0;
      exclusive = exclusive;
      instance = b.was_exclusive.1;
      its = known;
      from = from;
      law = subst (λ k. LawfulExclusiveGrant st front s at k) b.was_exclusive.1 (subst (λ z. LawfulExclusiveGrant st front s z g.lver) on.spot mode);
    }

-- No free of what was held was submitted before the step.
none_freed : (st : Setting) (e : Entry) (past : Trace) → Orderly st (e ∷ past) → (s : Session) (at : Spot) (n : ℕ) → WasGranted st past s at n
    → (d : Submitted) → Contains (lease_calls st (e ∷ past) s at) d → is_free_write n d ≡ true → d.at < length past → ⊥
none_freed st e past law s at n g d has frees early =
    let was = lease_was st (e ∷ []) past s at d (of_lease st (e ∷ past) s at d has) early in
    true_is_false
    (sym (ap (λ (c : Call). is_free_write n (new_call 0 0 c)) was.call ∙ frees)
    ∙ subst (λ k. is_free_write k was.was ≡ false) g.instance
    (exclusives_are_unfreed st past (orderly-front st (e ∷ []) past law) s g.its at g.held g.there g.exclusive was.was (in_lease st past s at was.was was.lease)))

by_conversion : (st : Setting) (e : Entry) (past : Trace) → Orderly st (e ∷ past) → (s : Session) → session_numbered st (e ∷ past) s.number ≡ Some s → (at : Spot) (n : ℕ)
    → SharedByConversion st past (e ∷ past) s at n → IsBacked st (e ∷ past) s at n
by_conversion st e past law s its at n b =
    let g : WasGranted st past s at n = was_granted st e past law s its at n b in
    record {
      ballot = record {
        later = e ∷ g.from.later;
        entry = g.from.entry;
        past = g.from.past;
        whole = ap (λ zs. e ∷ zs) g.from.whole;
        won = g.law.won;
        call = g.law.write;
        of_lease = g.law.wrote.0;
      };
      mode = b.mode;
      block = b.block;
      answer = b.done.0;
      of_lease = b.of_lease;
      wrote = b.moded.0;
      done = (b.done.1, b.done.3);
      unfreed = λ d has frees.
          subst (λ k. k ≤ d.at) (sym b.done.2)
          (by_cases (length past) d.at (length past ≤ d.at) (λ le. le) (λ early. absurd (none_freed st e past law s at n g d has frees early)));
      kept = b.kept;
    }

-- ---- either way

pub mode_of : (st : Setting) (past es : Trace) (s : Session) (at : Spot) (n : ℕ) → SharedByBallot st es s at n ⊎ SharedByConversion st past es s at n
    → (m : Submitted) × Contains (lease_calls st es s at) m
mode_of st past es s at n (inl b) = (b.mode, b.of_lease.0)
mode_of st past es s at n (inr b) = (b.mode, b.of_lease)

pub is_backed : (st : Setting) (e : Entry) (past : Trace) → Orderly st (e ∷ past) → (s : Session) → session_numbered st (e ∷ past) s.number ≡ Some s → (at : Spot) (n : ℕ)
    → SharedByBallot st (e ∷ past) s at n ⊎ SharedByConversion st past (e ∷ past) s at n → IsBacked st (e ∷ past) s at n
is_backed st e past law s its at n (inl b) = by_ballot st e past law s at n b
is_backed st e past law s its at n (inr b) = by_conversion st e past law s its at n b
