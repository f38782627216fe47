-- What stands behind an exclusive holding goes on where its lease's calls tell no less of it.
use Rattle.sl_run.specs.LawfulBlock.{ReadAfter}
use Rattle.sl_run.specs.LawfulGrant.{HasTaken}
use Rattle.sl_run.specs.LawfulModes.{LawfulExclusiveGrant}
use Rattle.sl_trace.specs.Leases.{block_submitted, block_written, ended_ballots, freed, is_block_read, lease_calls, open_ballot}
use Rattle.sl_sector.specs.declared.sector.Block.{Block}
use Rattle.sl_sector.specs.declared.sector.Owner.{Owner}
use Rattle.sl_trace.specs.Sessions.{generation_of, me}
use Rattle.sl_trace.specs.Sightings.{counted_over}
use Rattle.sl_trace.specs.declared.session.Session.{Session}
use Rattle.sl_due_facts.specs.Facts.HeardCall.{IsOpen}
use Rattle.sl_due_facts.specs.Facts.HoldingFacts.{StandsExclusive, is_ballot_call}
use Rattle.sl_trace.specs.Traces.{Answered, Setting, Submitted, Trace, is_ok_answer, new_call}
use Rattle.sl_trace.specs.declared.effects.Spot.{Spot}
use Rattle.sl_run_law.proofs.Leases.AgeLaws.{BecameAmong, after_stays, among, blocks_stay, first_stays}
use Rattle.sl_run_law.proofs.Leases.FrontLaws.{aged_itself}
use Rattle.sl_words.proofs.CaseLaws.{one_value}
use Rattle.sl_words.proofs.WordLaws.{some_is_true}
use Rattle.std.proofs.Common.{ap, inl, inr, subst, sym, ◌∙◌}
use Rattle.std.specs.Prelude.{Contains, List, None, Option, Some, false, true, ℕ, ◌++◌, ◌<◌, ◌∷◌, ◌≡◌, ◌≤◌, ◌⊎◌}

-- ---- what goes on

-- Where a block that is written now was written: among the calls before, or it keeps the number of the last one.
abbrev pub WasWritten : Setting → Trace → Session → Spot → Submitted → Block → Type 0
WasWritten st t s at d b =
    ((was : Submitted) × Contains (lease_calls st t s at) was × (was.call ≡ d.call)) ⊎ ((c : Block) × (block_submitted (lease_calls st t s at) ≡ Some c) × (b.mbal ≡ c.mbal))

pub record Carried (st : Setting) (t u : Trace) (now : Option ℕ) (s : Session) (at : Spot) (n : ℕ) : Type 0 where
  pub generation : generation_of u s ≡ generation_of t s
  pub counted : (j h : ℕ) → counted_over st t s j h ≡ true → counted_over st u s j h ≡ true
  pub answered : (d : Submitted) (a : Answered) → Contains (lease_calls st t s at) d → d.answer ≡ Some a → Contains (lease_calls st u s at) d
  -- with those before it
  pub aged : (newer older : List Submitted) (was : Submitted) → lease_calls st t s at ≡ newer ++ was ∷ older → BecameAmong 0 (lease_calls st u s at) was older
  pub written : (d : Submitted) (b : Block) → Contains (lease_calls st u s at) d → block_written d ≡ Some b → WasWritten st t s at d b
  pub not_freed : freed (lease_calls st u s at) < n
  pub last : (b : Block) → block_submitted (lease_calls st t s at) ≡ Some b → b.lver ≡ n →
      (c : Block) × (block_submitted (lease_calls st u s at) ≡ Some c) × (c.lver ≡ n) × (c.mbal ≡ b.mbal)
  pub concluded : open_ballot st.layout (lease_calls st u s at) ≡ None
  pub won : (p : ℕ × Owner) → Contains (ended_ballots st.layout (lease_calls st t s at)) p → Contains (ended_ballots st.layout (lease_calls st u s at)) p
  pub no_more : (p : ℕ × Owner) → Contains (ended_ballots st.layout (lease_calls st u s at)) p → Contains (ended_ballots st.layout (lease_calls st t s at)) p
  pub idle : (m : Submitted) → Contains (lease_calls st u s at) m → IsOpen u now m → is_ballot_call m ≡ false

taken_on : (st : Setting) (t u : Trace) (now : Option ℕ) (s : Session) (at : Spot) (n : ℕ) → Carried st t u now s at n → HasTaken st t s at n → HasTaken st u s at n
taken_on st t u now s at n c h =
    let a = some_is_true (λ (a : Answered). is_ok_answer a.answer) h.call.answer h.answered in
    record { call = h.call; leader = h.leader; of_lease = c.answered h.call a.0 h.of_lease a.1; written = h.written; answered = h.answered }

block_of : (d e : Submitted) → d.call ≡ e.call → block_written d ≡ block_written e
block_of d e same = ap (λ k. block_written (record { at = 0; reading = 0; call = k; answer = None })) same

ballot_on : (st : Setting) (t u : Trace) (heard now : Option ℕ) (s : Session) (at : Spot) (n : ℕ) → Carried st t u now s at n → StandsExclusive st t heard s at n → LawfulExclusiveGrant st u s at n
ballot_on st t u heard now s at n c stands =
    let h : LawfulExclusiveGrant st t s at n = stands.ballot in
    let same : me u s ≡ me t s = ap (λ k. record { id = s.id; generation = k }) c.generation in
    let r : BecameAmong 0 (lease_calls st u s at) h.read h.before = c.aged h.after h.before h.read h.split in
    let w : ReadAfter h.write h.read = h.ordered in
    record {
      won = subst (λ o. Contains (ended_ballots st.layout (lease_calls st u s at)) (n, o)) (sym same) (c.won (n, me t s) h.won);
      write = h.write;
      own = h.own;
      read = r.now;
      blocks = h.blocks;
      wrote = (c.answered h.write w.answer h.wrote.0 w.answered.0, h.wrote.1, h.wrote.2, h.wrote.3);
      of_lease = (among 0 (lease_calls st u s at) h.read h.before r, ap (λ k. is_block_read (new_call 0 0 k)) r.aged.call ∙ h.of_lease.1);
      after = r.newer;
      before = r.before;
      split = r.split;
      ordered = after_stays 0 0 h.write h.read h.write r.now (aged_itself 0 h.write) r.aged.at w;
      first_ordered = first_stays 0 h.write h.read h.write r.now h.before r.before (aged_itself 0 h.write) r.aged r.rest h.first_ordered;
      same_ballot = λ d b there writes later. as_before d b writes later (c.written d b there writes);
      given = blocks_stay st.layout 0 h.read r.now h.before r.before h.blocks r.aged r.rest h.given;
      none_shared = record { over = λ b there other shared. c.counted b.host b.mode_gen (h.none_shared.over b there other shared); whole = h.none_shared.whole };
    } where
      as_before : (d : Submitted) (b : Block) → block_written d ≡ Some b → stands.ballot.write.call.number ≤ d.call.number → WasWritten st t s at d b → b.mbal ≡ stands.ballot.own.mbal
      as_before d b writes later (inl old) =
          stands.ballot.same_ballot old.0 b old.1 (block_of old.0 d old.2 ∙ writes) (subst (λ k. stands.ballot.write.call.number ≤ k) (ap (λ k. k.number) (sym old.2)) later)
      as_before d b writes later (inr new) =
          new.2 ∙ (ap (λ (k : Block). k.mbal) (one_value new.0 stands.own (block_submitted (lease_calls st t s at)) new.1 stands.known) ∙ stands.under.1)

pub stands_on : (st : Setting) (t u : Trace) (heard now : Option ℕ) (s : Session) (at : Spot) (n : ℕ) → Carried st t u now s at n → StandsExclusive st t heard s at n → StandsExclusive st u now s at n
unfolding ballot_on
stands_on st t u heard now s at n c h =
    let l = c.last h.own h.known h.under.0 in
    record {
      taken = taken_on st t u now s at n c h.taken;
      ballot = ballot_on st t u heard now s at n c h;
      not_freed = c.not_freed;
      own = l.0;
      known = l.1;
      under = (l.2, l.3 ∙ h.under.1);
      concluded = c.concluded;
      ended = λ p there. h.ended p (c.no_more p there);
      idle = c.idle;
    }
