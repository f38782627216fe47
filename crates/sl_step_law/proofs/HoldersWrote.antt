-- Who holds has written a block of the instance: its ballot's, or that which set the mode.
use Rattle.sl_due_leases.proofs.Holdings.LeaseConversions.{spot_is}
use Rattle.sl_host_law.proofs.SharedFacts.PlainLists.{in_either}
use Rattle.sl_host_law.proofs.SharedFacts.SessionNumbers.{placed_by_number}
use Rattle.sl_host_law.proofs.Replies.PlainNumbers.{same_number}
use Rattle.sl_run.specs.LawfulGrant.{LawfulGrant}
use Rattle.sl_run.specs.LawfulModes.{LawfulExclusiveGrant, LawfulModes, LawfulSharedGrant}
use Rattle.sl_trace.specs.Leases.{block_of_record, block_written, is_lease_call, is_on, lease_calls, lease_step}
use Rattle.sl_words.proofs.Lists.{contains_none, kept_inside}
use Rattle.sl_words.proofs.Options.{some_of}
use Rattle.sl_sector.specs.declared.sector.Block.{Block}
use Rattle.sl_trace.specs.Sessions.{calls_of, holdings_of, is_call_of, session_numbered}
use Rattle.sl_trace.specs.declared.session.Session.{Session}
use Rattle.sl_step_law.proofs.HoldersLeased.{folded, marked}
use Rattle.sl_trace.specs.Traces.{EachEntry, Setting, Submitted, Trace, holdings, is_ended_by, is_shared, mark, record_of, same_place, spot_of_grant, submitted}
use Rattle.sl_trace.specs.declared.effects.Call.{Call}
use Rattle.sl_trace.specs.declared.effects.Entry.{Entry}
use Rattle.sl_trace.specs.declared.effects.Grant.{Grant}
use Rattle.sl_trace.specs.declared.effects.Spot.{Spot}
use Rattle.std.proofs.Common.{ap, inl, inr, subst, ◌∙◌}
use Rattle.std.specs.Bool.{MatchBool}
use Rattle.std.specs.Prelude.{Bool, Contains, Some, false, filter, is_some, length, not, option_and_then, true, [], ℕ, ◌&&◌, ◌==◌, ◌∷◌, ◌≡◌, ◌⊎◌}

-- One of these calls, of a session's lease on an area, wrote a block of an instance.
pub record WroteIn (st : Setting) (es : Trace) (n : ℕ) (at : Spot) (lver : ℕ) : Type 0 where
  pub call : Submitted
  pub there : Contains (submitted es) call
  pub mine : call.call.session ≡ n
  pub works : (is_lease_call call && is_on st.layout at call.call) ≡ true
  pub block : Block
  pub written : block_written call ≡ Some block
  pub instance : block.lver ≡ lver

later : (st : Setting) (e : Entry) (es : Trace) (n : ℕ) (at : Spot) (lver : ℕ) → WroteIn st es n at lver → WroteIn st (e ∷ es) n at lver
later st e es n at lver w =
    let z = marked es e e.input (submitted es) w.call w.there in
    record {
      call = z.0;
      there = folded (length es) e.reading e.effects.calls (mark es e e.input (submitted es)) z.0 z.1;
      mine = ap (λ (c : Call). c.session) z.2 ∙ w.mine;
      works = ap (λ (c : Call). is_some (lease_step c.purpose) && is_on st.layout at c) z.2 ∙ w.works;
      block = w.block;
      written = ap (λ (c : Call). option_and_then block_of_record (record_of c.op)) z.2 ∙ w.written;
      instance = w.instance;
    }

of_lease : (st : Setting) (es : Trace) (s : Session) (at : Spot) (d : Submitted) (b : Block) (lver : ℕ) → Contains (lease_calls st es s at) d → block_written d ≡ Some b → b.lver ≡ lver → WroteIn st es s.number at lver
of_lease st es s at d b lver there wrote is =
    let on = kept_inside (λ (z : Submitted). is_lease_call z && is_on st.layout at z.call) (calls_of es s) d there in
    let mine = kept_inside (is_call_of s) (submitted es) d on.0 in
    record { call = d; there = mine.0; mine = same_number d.call.session s.number mine.1; works = on.1; block = b; written = wrote; instance = is }

pub holders_wrote : (st : Setting) (es : Trace) → EachEntry (LawfulModes st) es → EachEntry (LawfulGrant st) es → (g : Grant) → Contains (holdings es) g → WroteIn st es g.session (spot_of_grant g) g.lver
holders_wrote st [] modes grants g there = absurd (contains_none g there)
holders_wrote st (e ∷ es) modes grants g there =
    by (in_either (filter (λ z. not (is_ended_by e.effects.ends z)) (holdings es)) e.effects.grants g there) (λ z at. later st e es z.session (spot_of_grant z) z.lver (holders_wrote st es modes.1 grants.1 z at)) where
      by : Contains (filter (λ z. not (is_ended_by e.effects.ends z)) (holdings es)) g ⊎ Contains e.effects.grants g
          → ((z : Grant) → Contains (holdings es) z → WroteIn st (e ∷ es) z.session (spot_of_grant z) z.lver) → WroteIn st (e ∷ es) g.session (spot_of_grant g) g.lver
      by (inl old) rests = rests g (kept_inside (λ (z : Grant). not (is_ended_by e.effects.ends z)) (holdings es) g old).0
      by (inr new) rests = subst (λ n. WroteIn st (e ∷ es) n (spot_of_grant g) g.lver) number (moded (is_shared g.mode) (modes.0.grants g s.0 new s.1)) where
        s : (z : Session) × (session_numbered st (e ∷ es) g.session ≡ Some z)
        s = some_of (session_numbered st (e ∷ es) g.session) (grants.0.owned g new)

        number : s.0.number ≡ g.session
        number = placed_by_number st (e ∷ es) g.session s.0 s.1

        shared : LawfulSharedGrant st es (e ∷ es) s.0 (spot_of_grant g) g.lver → WroteIn st (e ∷ es) s.0.number (spot_of_grant g) g.lver
        shared (inl beside) =
            let on = kept_inside (λ (z : Grant). same_place z.path z.offset g.path g.offset) (holdings_of es s.0) beside.0 beside.1 in
            let mine = kept_inside (λ (z : Grant). z.session == s.0.number) (holdings es) beside.0 on.0 in
            subst (λ n. WroteIn st (e ∷ es) s.0.number (spot_of_grant g) n) beside.3
            (subst (λ n. WroteIn st (e ∷ es) n (spot_of_grant g) beside.0.lver) (same_number beside.0.session s.0.number mine.1)
            (subst (λ at. WroteIn st (e ∷ es) beside.0.session at beside.0.lver) (spot_is beside.0 (spot_of_grant g) on.1) (rests beside.0 mine.0)))
        shared (inr (inl ballot)) = of_lease st (e ∷ es) s.0 (spot_of_grant g) ballot.mode ballot.block g.lver ballot.of_lease.0 ballot.moded.2 ballot.moded.5
        shared (inr (inr conversion)) = of_lease st (e ∷ es) s.0 (spot_of_grant g) conversion.mode conversion.block g.lver conversion.of_lease conversion.moded.0 conversion.moded.3

        moded : (b : Bool) → MatchBool b (LawfulSharedGrant st es (e ∷ es) s.0 (spot_of_grant g) g.lver) (LawfulExclusiveGrant st (e ∷ es) s.0 (spot_of_grant g) g.lver)
            → WroteIn st (e ∷ es) s.0.number (spot_of_grant g) g.lver
        moded true k = shared k
        moded false k = of_lease st (e ∷ es) s.0 (spot_of_grant g) k.write k.own g.lver k.wrote.0 k.wrote.2 k.wrote.3
