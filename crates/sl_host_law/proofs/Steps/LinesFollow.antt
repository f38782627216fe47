-- A line follows what is due, decision by decision.
use Rattle.sl_due_facts.proofs.Acts.DecisionsAreTheirs.{decisions_are_theirs}
use Rattle.sl_due_facts.specs.Acts.DueDaemons.{IsDecidedFor, IsPresent}
use Rattle.sl_host_law.proofs.Answers.GrantsAreTaken.{grants_are_taken}
use Rattle.sl_host_law.specs.Answers.Grants.{after_giving, ended, given_up}
use Rattle.sl_host_law.specs.Answers.LeaseDecisions.{carrying_lease, granting_for}
use Rattle.sl_area.specs.AreaLayout.{area_sectors, value_offset}
use Rattle.sl_host_law.proofs.Decisions.CommandsAreDecided.{commands_are_decided}
use Rattle.sl_host_law.specs.Decisions.CommandDecisions.{decision_of}
use Rattle.sl_due.specs.DueCommands.{on_line}
use Rattle.sl_due.specs.DueInputs.{take_input}
use Rattle.sl_due.specs.Steps.{Step, seen, with_input}
use Rattle.sl_due.specs.declared.decision.Decision.TheVariants.{ConvertsTo, GetsValue, GivesUp, Joins, Leaves, ReadsArea, Replies, Requests, SetsValue, Shares, TakesOver}
use Rattle.sl_due.specs.declared.decision.Decision.{Decision}
use Rattle.sl_host_law.proofs.SharedFacts.MembersAreSessions.{members_are_sessions}
use Rattle.sl_host_law.proofs.SharedFacts.PlainLists.{at_some}
use Rattle.sl_host_state.proofs.EffectsAreTaken.{effects_are_taken}
use Rattle.sl_host_state.specs.HeardInputs.{answered_line, heard_line, leaves_member, member_leaving}
use Rattle.sl_host_state.specs.KeptState.{HostState, MemberState}
use Rattle.sl_host_state.specs.MadeEffects.{with_call}
use Rattle.sl_host_state.specs.HostStands.{Stands}
use Rattle.sl_host_law.proofs.Steps.LinesArePlain.{plain_by}
use Rattle.sl_host_law.proofs.Steps.LeasesAreKnown.{converts_as_known, releases_as_known}
use Rattle.sl_host_law.specs.Steps.Leases.{converting_next, releasing_next}
use Rattle.sl_host_law.specs.Steps.LineSteps.{deciding, lining}
use Rattle.sl_host_law.specs.Steps.LinesFollow.{LineMay, LinesFollow, MayDecide}
use Rattle.sl_host_law.specs.Steps.Passes.{at_member, member_numbered}
use Rattle.sl_host_law.specs.Steps.SoundHosts.{IsEarly, IsSound}
use Rattle.sl_trace.specs.Leases.{spot_of}
use Rattle.sl_host_law.proofs.StepParts.LinesAreTaken.{lines_are_taken}
use Rattle.sl_host_law.specs.StepParts.Lines.{HeardBy, LineComes}
use Rattle.sl_host_law.specs.StepParts.Refusals.{signalling_and_refusing}
use Rattle.sl_words.proofs.Lists.{contains_map, find_fails, find_inside, in_map}
use Rattle.sl_host_law.specs.Questions.Members.{IsMemberAt}
use Rattle.sl_sector.specs.declared.sector.Rec.TheVariants.{ValueIs}
use Rattle.sl_trace.specs.Sessions.{session_numbered}
use Rattle.sl_trace.specs.declared.delta.DeltaKnown.{DeltaKnown}
use Rattle.sl_trace.specs.declared.session.Begun.{Begun}
use Rattle.sl_trace.specs.declared.session.Session.{Session}
use Rattle.sl_trace.specs.Traces.{end_of, spot_of_grant}
use Rattle.sl_trace.specs.declared.command.Command.{Command}
use Rattle.sl_trace.specs.declared.effects.LeaseStep.TheVariants.{ReadArea}
use Rattle.sl_trace.specs.declared.effects.Mode.TheVariants.{Shared}
use Rattle.sl_trace.specs.declared.effects.Op.TheVariants.{ReadSectors, WriteRecord}
use Rattle.sl_trace.specs.declared.effects.Purpose.TheVariants.{Lease, RequestRead, ValueRead, ValueWrite}
use Rattle.sl_trace.specs.declared.effects.Work.TheVariants.{ForJob}
use Rattle.sl_trace.specs.declared.input.Input.TheVariants.{Line, Wake}
use Rattle.sl_trace.specs.declared.reply.Reply.TheVariants.{BadCommand as Misread}
use Rattle.sl_words.proofs.CaseLaws.{some_value, true_is_false}
use Rattle.std.proofs.Common.{ap, refl, subst, sym, ◌∙◌}
use Rattle.std.proofs.lemmas.Bool.Decides.{Decides-eqb}
use Rattle.std.specs.Prelude.{Bool, Contains, Err, List, None, Ok, Option, Result, Some, cond, false, true, ℕ, ◌-◌, ◌==◌, ◌≡◌}

module _ (h : HostState) (x : Step) (text : List ℕ) (early : IsEarly h) (sound : IsSound h) (s : Stands Wake h x) where
  -- The line says this, and it comes to this.
  module _ (c : Command) (says : h.config.read text ≡ Ok c) (may : LineMay h x text c) where
    comes : (d : Decision) → decision_of h c ≡ d → LineComes h x text c d
    comes d is = record { stands = s; at = early.at; says = says; last = may.last; decision = is }

    theirs : (d : Decision) → decision_of h c ≡ d → IsDecidedFor x.setting (seen x) c d
    theirs d is = subst (λ e. IsDecidedFor x.setting (seen x) c e) (commands_are_decided Wake h x c s may.last ∙ is) (decisions_are_theirs x.setting (seen x) x.reading c)

    same_who : (m : MemberState) → (cond (leaves_member c m) (member_leaving h m) m).who ≡ m.who
    same_who m = by (leaves_member c m) where
      left : (o : Option Begun) → (elim o as (λ z. MemberState) [
        | Some b ↦ m
        | None ↦ (let k : DeltaKnown = m.known in record m {
          leaving = Some (record { at = h.entries - 1; reading = h.reading; kills_from = h.entries });
          known = record k { leaving = Some h.next_job };
        })
      ]).who ≡ m.who
      left (Some b) = refl
      left None = refl

      by : (b : Bool) → (cond b (member_leaving h m) m).who ≡ m.who
      by true = left m.leaving
      by false = refl

    -- The member of a session that is present.
    record Its (t : Session) : Type 0 where
      place : ℕ
      member : MemberState
      by : HeardBy h c place member t
      found : member_numbered (heard_line c h) t.number ≡ Some member

    its : (d : Decision) → decision_of h c ≡ d → (t : Session) → IsPresent x.setting (seen x) t → Its t
    its d is t present = by (member_numbered (heard_line c h) t.number) refl where
      heard : Stands (Line text) (heard_line c h) (with_input (Line text) x)
      heard = lines_are_taken.heard h x text c d (comes d is)

      old : (z : MemberState) × Contains (heard_line c h).members z × (z.who ≡ t)
      old =
          let m = in_map (λ (m : MemberState). m.who) h.members t (subst (λ ss. Contains ss t) s.keeps.present present) in
          (cond (leaves_member c m.0) (member_leaving h m.0) m.0, contains_map (λ (m : MemberState). cond (leaves_member c m) (member_leaving h m) m) h.members m.0 m.1, same_who m.0 ∙ m.2)

      by : (o : Option MemberState) → member_numbered (heard_line c h) t.number ≡ o → Its t
      by None none =
          absurd (true_is_false
          (sym ((Decides-eqb old.0.who.number t.number).1 (ap (λ (y : Session). y.number) old.2)) ∙ find_fails (λ (z : MemberState). z.who.number == t.number) (heard_line c h).members old.0 none old.1))
      by (Some m) some =
          let f = find_inside (λ (z : MemberState). z.who.number == t.number) (heard_line c h).members m some in
          let at = at_some (heard_line c h).members m f.0 in
          let place = at_some (heard_line c h).members old.0 old.1 in
          let its_own : session_numbered x.setting (seen (with_input (Line text) x)) m.who.number ≡ Some m.who = (members_are_sessions (heard_line c h) x.setting (seen (with_input (Line text) x)) at.0 m heard.keeps at.1).0 in
          let known : session_numbered x.setting (seen (with_input (Line text) x)) old.0.who.number ≡ Some old.0.who =
          (members_are_sessions (heard_line c h) x.setting (seen (with_input (Line text) x)) place.0 old.0 heard.keeps place.1).0
          in
          let number : m.who.number ≡ old.0.who.number = (Decides-eqb m.who.number t.number).0 f.1 ∙ sym (ap (λ (y : Session). y.number) old.2) in
          let same : m.who ≡ t = some_value m.who old.0.who (sym its_own ∙ ap (session_numbered x.setting (seen (with_input (Line text) x))) number ∙ known) ∙ old.2 in
          record { place = at.0; member = m; by = record { there = at.1; whose = same }; found = some }

    -- What is done of the member that is found.
    at_its : (t : Session) (k : Its t) (f : MemberState → HostState → HostState) → Stands (Line text) (f k.member (heard_line c h)) (on_line text x) → Stands (Line text) (at_member t.number f (heard_line c h)) (on_line text x)
    at_its t k f done = subst (λ o. Stands (Line text) (elim o as (λ z. HostState) [ None ↦ heard_line c h | Some m ↦ f m (heard_line c h) ]) (on_line text x)) (sym k.found) done

    member_at : (d : Decision) → decision_of h c ≡ d → (t : Session) (k : Its t) → IsMemberAt (Line text) (heard_line c h) (with_input (Line text) x) k.place k.member
    member_at d is t k = record { stands = lines_are_taken.heard h x text c d (comes d is); there = k.by.there }

    done : (d : Decision) → decision_of h c ≡ d → MayDecide h x text c d → Stands (Line text) (deciding c d h) (on_line text x)
    done (Replies r) is f = subst (λ o. Stands (Line text) (answered_line o r h) (on_line text x)) says (lines_are_taken.answered h x text c r (comes (Replies r) is))
    done (Joins n a) is f = lines_are_taken.joins h x text c n a (comes (Joins n a) is) sound.laid.program
    done (Leaves t) is f =
        let k = its (Leaves t) is t (theirs (Leaves t) is) in
        at_its t k (λ m. signalling_and_refusing m (Some h.next_job)) (lines_are_taken.leaves h x text c t k.place k.member (comes (Leaves t) is) k.by)
    done (ReadsArea t r) is f =
        let k = its (ReadsArea t r) is t (theirs (ReadsArea t r) is) in
        subst (λ (y : Session). Stands (Line text) (with_call y.number r.path (Lease (ForJob h.next_job) (ReadArea r.name)) r.offset (ReadSectors (area_sectors h.config.layout)) (heard_line c h)) (on_line text x)) k.by.whose
        (lines_are_taken.reads h x text c t r k.place k.member (comes (ReadsArea t r) is) k.by (f k.place k.member k.by))
    done (Shares t lver) is f =
        let k = its (Shares t lver) is t (theirs (Shares t lver) is) in
        subst (λ (y : Session). Stands (Line text) (granting_for y h.next_job c Shared lver (heard_line c h)) (on_line text x)) k.by.whose
        (grants_are_taken.shares h x text c t lver k.place k.member (comes (Shares t lver) is) k.by (plain_by h c (Shares t lver) is refl))
    done (GivesUp t g) is f =
        let k = its (GivesUp t g) is t (theirs (GivesUp t g) is) in
        let l = f k.place k.member k.by in
        let here : IsMemberAt (Line text) (given_up h c g) (ended text g x) k.place k.member =
        record { stands = effects_are_taken.ended (end_of g) (heard_line c h) early.grants (Line text) (with_input (Line text) x) (lines_are_taken.heard h x text c (GivesUp t g) (comes (GivesUp t g) is)); there = k.by.there }
        in
        at_its t k (λ m h'. after_giving h c m g (releasing_next (given_up h c g) m (spot_of_grant g) g))
        (grants_are_taken.gives_up h x text c t g k.place k.member (releasing_next (given_up h c g) k.member (spot_of_grant g) g) (comes (GivesUp t g) is) k.by (plain_by h c (GivesUp t g) is refl) early.grants
        (sym (releases_as_known (Line text) (given_up h c g) (ended text g x) k.place k.member here (spot_of_grant g) l.0.0 l.0.1 g)) l.1)
    done (TakesOver t g) is f =
        let k = its (TakesOver t g) is t (theirs (TakesOver t g) is) in
        subst (λ (y : Session). Stands (Line text) (granting_for y h.next_job c g.mode g.lver (given_up h c g)) (on_line text x)) k.by.whose
        (grants_are_taken.takes_over h x text c t g k.place k.member (comes (TakesOver t g) is) k.by (plain_by h c (TakesOver t g) is refl) early.grants)
    done (ConvertsTo t r mode) is f =
        let k = its (ConvertsTo t r mode) is t (theirs (ConvertsTo t r mode) is) in
        let l = f k.place k.member k.by in
        at_its t k (λ m g. carrying_lease m (spot_of r) (ForJob h.next_job) (converting_next g m (spot_of r) mode r.name) g)
        (grants_are_taken.converts h x text c t r mode k.place k.member (converting_next (heard_line c h) k.member (spot_of r) mode r.name) (comes (ConvertsTo t r mode) is) k.by
        (sym (converts_as_known (Line text) (heard_line c h) (with_input (Line text) x) k.place k.member (member_at (ConvertsTo t r mode) is t k) (spot_of r) l.0.0 l.0.1 mode r.name)) l.1)
    done (Requests t r) is f =
        let k = its (Requests t r) is t (theirs (Requests t r) is) in
        subst (λ (y : Session). Stands (Line text) (with_call y.number r.path (RequestRead h.next_job) r.offset (ReadSectors 2) (heard_line c h)) (on_line text x)) k.by.whose
        (lines_are_taken.requests h x text c t r k.place k.member (comes (Requests t r) is) k.by)
    done (SetsValue t at v) is f =
        let k = its (SetsValue t at v) is t (theirs (SetsValue t at v) is) in
        subst (λ (y : Session). Stands (Line text) (with_call y.number at.path (ValueWrite h.next_job) (value_offset h.config.layout at.base) (WriteRecord (ValueIs v)) (heard_line c h)) (on_line text x)) k.by.whose
        (lines_are_taken.sets h x text c t at v k.place k.member (comes (SetsValue t at v) is) k.by (f k.place k.member k.by))
    done (GetsValue t at) is f =
        let k = its (GetsValue t at) is t (theirs (GetsValue t at) is) in
        subst (λ (y : Session). Stands (Line text) (with_call y.number at.path (ValueRead h.next_job) (value_offset h.config.layout at.base) (ReadSectors 1) (heard_line c h)) (on_line text x)) k.by.whose
        (lines_are_taken.gets h x text c t at k.place k.member (comes (GetsValue t at) is) k.by)

  said : ((c : Command) → h.config.read text ≡ Ok c → LineMay h x text c) → (o : Result Command ℕ) → h.config.read text ≡ o → Stands (Line text) (lining o h) (on_line text x)
  said may (Err column) is = subst (λ o. Stands (Line text) (answered_line o (Misread column) h) (on_line text x)) is (lines_are_taken.misread h x text column s early.at.calls is)
  said may (Ok c) is = done c is (may c is) (decision_of h c) refl (may c is).decides

pub lines_follow : LinesFollow
unfolding take_input
lines_follow h x text early sound may s = said h x text early sound s may (h.config.read text) refl
