-- Modes and grants.
use Rattle.sl_run.proofs.LawFacts.{orderly-front}
use Rattle.sl_run.specs.Lawful.{Orderly}
use Rattle.sl_run.specs.LawfulModes.{LawfulExclusiveGrant, LawfulMode, LawfulSharedGrant}
use Rattle.sl_run.specs.LawForms.{cut_at}
use Rattle.sl_run_law.proofs.Leases.AgeLaws.{writes}
use Rattle.sl_run_law.proofs.Leases.EndLaws.{ended}
use Rattle.sl_run_law.proofs.Leases.FrontLaws.{each_was_submitted, lawful_there, session_stays}
use Rattle.sl_run_law.specs.Leases.CallFronts.{LawfulSubmission, Submission}
use Rattle.sl_run_law.specs.Leases.ModesRest.{ExclusiveRests, ModeRests}
use Rattle.sl_run_law.specs.Leases.LeaseLaws.{ExclusiveFollows, ModesFollow, SharedFollows}
use Rattle.sl_trace.specs.Leases.{Mode_set, has_shared_on, is_at, lease_calls, spot_of_call}
use Rattle.sl_words.proofs.Options.{some_of}
use Rattle.sl_sector.specs.declared.sector.Block.{Block}
use Rattle.sl_trace.specs.Sessions.{me, session_numbered}
use Rattle.sl_trace.specs.declared.session.Session.{Session}
use Rattle.sl_trace.specs.Traces.{Setting, Submitted, Trace, is_shared, new_call, spot_of_grant}
use Rattle.sl_trace.specs.declared.effects.Call.{Call}
use Rattle.sl_trace.specs.declared.effects.Entry.{Entry}
use Rattle.sl_trace.specs.declared.effects.Grant.{Grant}
use Rattle.sl_trace.specs.declared.effects.Mode.TheVariants.{Exclusive, Shared}
use Rattle.sl_trace.specs.declared.effects.Spot.{Spot}
use Rattle.sl_words.proofs.CaseLaws.{one_value}
use Rattle.std.proofs.Common.{ap, subst, sym, ◌∙◌}
use Rattle.std.specs.Prelude.{Contains, IsTrue, List, MatchBool, Some, length, true, ◌++◌, ◌||◌, ◌∷◌, ◌≡◌, ◌↔◌}

abbrev place : Setting → Call → Spot
place st c = spot_of_call st.layout (new_call 0 0 c)

mode_rests : (st : Setting) (es : Trace) → Orderly st es → (older : List Submitted) (c : Submitted) (b : Block) → LawfulSubmission st es c older
    → writes c.call ≡ Some b → (s : Session) → session_numbered st es c.call.session ≡ Some s → ModeRests es s (place st c.call) older c b
mode_rests st es law older c b l wrote s numbered =
    let h : Submission es c older = l.submission in
    let t : Trace = cut_at h.place h.entry ∷ h.past in
    let called : c.call ≡ h.call = h.itself.call in
    let itself : l.session ≡ s = one_value l.session s (session_numbered st es c.call.session) l.kept numbered in
    let known : session_numbered st (h.entry ∷ h.past) h.call.session ≡ Some s = l.known ∙ ap (λ x. Some x) itself in
    let m : LawfulMode st t s (new_call (length h.past) h.entry.reading h.call) b =
    (lawful_there st es law c older h).modes.0.blocks h.place h.call s h.there known b (ap (λ x. writes x) (sym called) ∙ wrote) in
    record {
      submission = h;
      exact = subst (λ x. (b.shared ≡ true) ↔ IsTrue (has_shared_on t s (place st x) || is_at Mode_set (new_call 0 0 x))) (sym called) m.exact;
      own = m.own;
    }

pub modes_follow : ModesFollow
modes_follow st es law newer older c b h wrote s numbered = mode_rests st es law older c b (each_was_submitted st es law newer older c h) wrote s numbered

exclusive_rests : (st : Setting) (later past : Trace) (e : Entry) → Orderly st (later ++ e ∷ past) → (g : Grant) → Contains e.effects.grants g → g.mode ≡ Exclusive → (s : Session)
    → session_numbered st (later ++ e ∷ past) g.session ≡ Some s → ExclusiveRests st (e ∷ past) s (spot_of_grant g) g
exclusive_rests st later past e law g granted mode s numbered =
    let here : Orderly st (e ∷ past) = orderly-front st later (e ∷ past) law in
    let owner : (o : Session) × (session_numbered st (e ∷ past) g.session ≡ Some o) = some_of (session_numbered st (e ∷ past) g.session) (here.granting.0.owned g granted) in
    let itself : owner.0 ≡ s =
    one_value owner.0 s (session_numbered st (later ++ e ∷ past) g.session) (session_stays st later (e ∷ past) g.session owner.0 owner.1) numbered in
    let known : session_numbered st (e ∷ past) g.session ≡ Some s = owner.1 ∙ ap (λ x. Some x) itself in
    let x : LawfulExclusiveGrant st (e ∷ past) s (spot_of_grant g) g.lver =
    subst (λ m. MatchBool (is_shared m) (LawfulSharedGrant st past (e ∷ past) s (spot_of_grant g) g.lver) (LawfulExclusiveGrant st (e ∷ past) s (spot_of_grant g) g.lver)) mode
    (here.modes.0.grants g s granted known) in
    record {
      won = ended st.layout (lease_calls st (e ∷ past) s (spot_of_grant g)) (g.lver, me (e ∷ past) s) x.won;
      not_freed = (here.granting.0.each g s granted known).not_freed mode;
      looked = x;
    }

pub exclusive_follows : ExclusiveFollows
exclusive_follows st es law later past e is g granted mode s numbered =
    exclusive_rests st later past e (subst (λ t. Orderly st t) is law) g granted mode s (subst (λ t. session_numbered st t g.session ≡ Some s) is numbered)

shared_rests : (st : Setting) (later past : Trace) (e : Entry) → Orderly st (later ++ e ∷ past) → (g : Grant) → Contains e.effects.grants g → g.mode ≡ Shared → (s : Session)
    → session_numbered st (later ++ e ∷ past) g.session ≡ Some s → LawfulSharedGrant st past (e ∷ past) s (spot_of_grant g) g.lver
shared_rests st later past e law g granted mode s numbered =
    let here : Orderly st (e ∷ past) = orderly-front st later (e ∷ past) law in
    let owner : (o : Session) × (session_numbered st (e ∷ past) g.session ≡ Some o) = some_of (session_numbered st (e ∷ past) g.session) (here.granting.0.owned g granted) in
    let itself : owner.0 ≡ s =
    one_value owner.0 s (session_numbered st (later ++ e ∷ past) g.session) (session_stays st later (e ∷ past) g.session owner.0 owner.1) numbered in
    let known : session_numbered st (e ∷ past) g.session ≡ Some s = owner.1 ∙ ap (λ x. Some x) itself in
    subst (λ m. MatchBool (is_shared m) (LawfulSharedGrant st past (e ∷ past) s (spot_of_grant g) g.lver) (LawfulExclusiveGrant st (e ∷ past) s (spot_of_grant g) g.lver)) mode
    (here.modes.0.grants g s granted known)

pub shared_follows : SharedFollows
shared_follows st es law later past e is g granted mode s numbered =
    shared_rests st later past e (subst (λ t. Orderly st t) is law) g granted mode s (subst (λ t. session_numbered st t g.session ≡ Some s) is numbered)
