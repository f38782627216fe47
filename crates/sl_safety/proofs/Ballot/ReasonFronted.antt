-- Where a session writes or reads on an area it has joined. So its name there is the one that it has in the history.
use Rattle.sl_safety.proofs.Ballot.ReasonEvidence.{sender_found, found_of_standing}
use Rattle.sl_safety.proofs.Ballot.ReasonNames.{cut_keeps, generation_stays}
use Rattle.sl_safety.specs.Ballot.Endings.{holder_as}
use Rattle.sl_ballot_law.specs.History.{Owner as Holder}
use Rattle.sl_run.specs.Lawful.{Orderly}
use Rattle.sl_run.specs.LawfulArea.{is_area_work}
use Rattle.sl_run.specs.LawForms.{cut_at}
use Rattle.sl_run_law.proofs.Leases.FrontLaws.{lawful_there}
use Rattle.sl_run_law.proofs.Leases.NumberLaws.{number_is_place}
use Rattle.sl_run_law.specs.Leases.CallFronts.{Submission}
use Rattle.sl_words.proofs.Options.{some_there}
use Rattle.sl_safety.proofs.Resources.Calls.{holder_is}
use Rattle.sl_safety.proofs.Resources.CallParts.{Standing}
use Rattle.sl_safety.specs.Resources.SentCalls.{Sent, holder_of, sender_of}
use Rattle.sl_run.specs.Worlds.{World}
use Rattle.sl_run_law.proofs.Sessions.CallOwners.{owned}
use Rattle.sl_run_law.specs.Sessions.SessionLaws.{IsSession}
use Rattle.sl_trace.specs.Sessions.{generation_of, is_active, joined_after, leaving_job, me, recovery_of, removed_after, session_numbered}
use Rattle.sl_trace.specs.declared.session.Session.{Session}
use Rattle.sl_trace.specs.Traces.{Setting, Trace}
use Rattle.sl_words.proofs.WordLaws.{and_true}
use Rattle.std.proofs.Common.{ap, subst, sym, ◌∙◌}
use Rattle.std.specs.Prelude.{Some, is_none, is_some, length, true, ℕ, ◌&&◌, ◌∷◌, ◌≡◌}

-- ---- joined at the front

-- The entry of a call, with its session joined.
pub record Fronted (w : World) (x : Sent) (s : Standing w x) (h : Submission s.daemon.trace s.told.one s.told.older) : Type 0 where
  pub lawful : Orderly s.daemon.setting (h.entry ∷ h.past)
  pub its : IsSession s.daemon.setting (h.entry ∷ h.past) s.session
  pub joined : ℕ
  pub joins : joined_after (h.entry ∷ h.past) s.session ≡ Some joined
  pub place : s.told.one.at ≡ length h.past

active_joined : (st : Setting) (t : Trace) (s : Session) → is_active st t s ≡ true → (k : ℕ) × (joined_after t s ≡ Some k)
active_joined st t s h =
    let three = and_true (is_some (joined_after t s) && is_none (removed_after t s) && is_none (recovery_of st t s)) (is_none (leaving_job st t s)) h in
    let two = and_true (is_some (joined_after t s) && is_none (removed_after t s)) (is_none (recovery_of st t s)) three.0 in
    some_there (joined_after t s) (and_true (is_some (joined_after t s)) (is_none (removed_after t s)) two.0).0

pub fronted : (w : World) (x : Sent) (s : Standing w x) (h : Submission s.daemon.trace s.told.one s.told.older) → is_area_work x.course.call.purpose ≡ true → Fronted w x s h
fronted w x s h area =
    let st : Setting = s.daemon.setting in
    let lawful = lawful_there st s.daemon.trace s.lawful s.told.one s.told.older h in
    let n : s.session.number ≡ s.told.one.call.session = number_is_place st s.daemon.trace s.told.one.call.session s.session s.known in
    let mine : h.call.session ≡ s.session.number = ap (λ c. c.session) (sym h.itself.call) ∙ sym n in
    let its : IsSession st s.daemon.trace s.session = ap (λ k. session_numbered st s.daemon.trace k) n ∙ s.known in
    let own : session_numbered st (h.entry ∷ h.past) h.call.session ≡ Some s.session =
    owned st h.later h.entry h.past s.session (subst (λ t. Orderly st t) h.whole s.lawful) (subst (λ t. IsSession st t s.session) h.whole its) h.place h.call h.there mine in
    let active = lawful.area.0.active h.place h.call s.session h.there own (ap (λ c. is_area_work c.purpose) (sym h.itself.call ∙ s.told.pair.call) ∙ area) in
    let j = active_joined st (cut_at h.place h.entry ∷ h.past) s.session active in
    record {
      lawful = lawful;
      its = ap (λ k. session_numbered st (h.entry ∷ h.past) k) (sym mine) ∙ own;
      joined = j.0;
      joins = j.1;
      place = h.itself.at;
    }

-- ---- its name

-- The session's name at the front of its call is the one that it has in the end.
pub name_at_front : (w : World) (x : Sent) (s : Standing w x) (h : Submission s.daemon.trace s.told.one s.told.older) → Fronted w x s h
    → holder_as (me (cut_at h.place h.entry ∷ h.past) s.session) ≡ holder_of w (sender_of x)
name_at_front w x s h f =
    let st : Setting = s.daemon.setting in
    let now : generation_of s.daemon.trace s.session ≡ generation_of (h.entry ∷ h.past) s.session =
    ap (λ (t : Trace). generation_of t s.session) h.whole
    ∙ generation_stays st h.later (h.entry ∷ h.past) s.session f.joined (subst (λ t. Orderly st t) h.whole s.lawful) f.its f.joins in
    let same : generation_of s.daemon.trace s.session ≡ generation_of (cut_at h.place h.entry ∷ h.past) s.session =
    now ∙ cut_keeps st h.entry h.past s.session f.joined f.lawful f.its f.joins h.place in
    ap (λ n. let o : Holder = record { id = s.session.id; generation = n } in o) (sym same) ∙ sym (holder_is w (sender_of x) (found_of_standing s) (sender_found w x s))
